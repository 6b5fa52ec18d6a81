-- How a live run ended, from its show and its script.
use Rattle.lx_desk.proofs.Imports.{◌≡◌, ◌⊎◌, inl, inr, true, false, ℕ, ◌+◌, ◌-◌, ◌≤◌, Option, Ok}
use Rattle.lx_desk.proofs.Imports.{Err, IsOk, IfSome, List, length, refl, arith}
use Rattle.lx_desk.proofs.Imports.{INPUT_BYTES, SinkFault, Rose, Lines, unread, Form}
use Rattle.lx_desk.proofs.Imports.{TextFault, desk_lawful, front_of_whole, Script, Live, lines_of, opened, Reading, reads}
use Rattle.lx_desk.proofs.Imports.{script_of, lines_read, begin_at}
use Rattle.lx_desk.proofs.Imports.{answered_lines, bytes_wanted, begun, desk_answering, Loaded, ShowFault, HasRead, Status}
use Rattle.lx_desk.proofs.Imports.{WritesPrefix, RefusedBy, HasEnded, PlaysScript}
use Rattle.lx_desk.proofs.Imports.{LiveMemory, PlaysInFront, PlaysTaken, HasPlayedLive, LivesInFront, LivesTaken, HasLived, PlaysToEnd, LivesToEnd}
use Rattle.lx_desk.proofs.Imports.{DecidesInOrder, HasWanted, None, ScriptFailures, ToldBySink, ToldBySource}
use Rattle.lx_desk.specs.declared.desk.Status.TheVariants as status
use Rattle.lx_desk.proofs.Imports.{Check, ◌≢◌}
use Rattle.lx_desk.proofs.Inputs.{IfSome_then, IsRead, Says, all_known, both_known, check_tells, cut_from, front_at, if_both, kept_is, means_of, over_all, over_loaded}
use Rattle.lx_desk.proofs.Inputs.{refusal_ended, refusal_isnt_ok, script_over, short_of, show_over, taken_at, taken_is, unwritten_as, wanted_read}
use Rattle.lx_desk.proofs.AnyFailures.{each_allowed}
use Rattle.lx_desk.proofs.Endings.{refusal_ends}

-- Of a show that was read, and a script behind it that was played.
module _ {form : Form} {x y : List ℕ} {taken : ℕ} {reading : Reading} (v : IsRead form x y taken reading) (known : LiveMemory) {K : Type 0}
    (told : ToldBySink K) (universes : ℕ) (h h' : Option (List ℕ)) (outlets outlets' : List (Option K)) where
  -- of its session any attempts may fail
  any_failures : (failures : List (Option ℕ)) → ScriptFailures None (desk_answering false) (begun (opened reading.show)) (lines_of y) failures
  any_failures failures = record {
    allows = each_allowed failures (begin_at (begun (opened reading.show))) (answered_lines (lines_of y));
    few = tt;
  }

  lives_in_front : PlaysInFront known told reading.show universes (lines_of y) h h' outlets outlets'
      → WritesPrefix (Script (Live universes) form) x h h' × LivesInFront known told universes form x h h' outlets outlets'
  lives_in_front a = (
    front_at v None (Live universes) (record {
      failures = a.failures;
      allows = any_failures a.failures;
      text = front_of_whole (desk_answering false) (desk_lawful false) (begun (opened reading.show)) (lines_of y) a.failures a.lines h h' a.text;
    }),
    record { reading = reading; read = v.read; plays = rw v.script a },
  )

  lives_taken : (left : Option (List ℕ)) → PlaysTaken known told reading.show universes taken y left h h' outlets outlets'
      → HasEnded status.ReadFault (Script (Live universes) form) x left h h' × LivesTaken known told universes form x left h h' outlets outlets'
  lives_taken left a =
      let n = a.cut.lines in
      let done : length v.raws + n - lines_read (lines_of x) ≡ n = taken_is v n in (
        taken_at v None (Live universes) (record {
          failures = a.failures;
          allows = any_failures a.failures;
          cut = a.cut;
          short = a.short;
          text = a.text;
        }),
        record {
          reading = reading;
          read = v.read;
          failures = a.failures;
          cut = cut_from v a.cut;
          short = short_of v n a.short;
          allows = rw (done, v.script) a.allows;
          text = rw (done, v.script) a.text;
          served = rw (done, v.script) a.served;
        },
      )

  -- how the run ended, by its status
  has_lived : (left : Option (List ℕ)) (s : Status) → HasPlayedLive known s told reading.show universes taken y left h h' outlets outlets'
      → HasLived known s told universes form x left h h' outlets outlets'
  has_lived left status.Ok p =
      let a : PlaysScript known.edits told reading.show universes (script_of x) h h' outlets outlets' = rw v.script p.0 in
      record {
        reading = reading;
        read = v.read;
        failures = a.failures;
        allows = a.allows;
        text = a.text;
        versions = a.versions;
        within = let w = p.1 in omega (arith, wanted_read v, w);
      }
  has_lived left status.ReadFault p = let w = lives_taken left p in (w.0, inr w.1)
  has_lived left status.InputTooLong p = let w = lives_taken left p.0 in ((w.0, let l = p.1 in omega (arith, wanted_read v, l)), inr w.1)
  has_lived left status.WriteFault p = let w = lives_in_front p in (w.0, inr w.1)
  has_lived left status.Memory p = elim p [
    | inl kept ↦ (unwritten_as None (Script (Live universes) form) x h h' kept.0, inl (kept.1, λ ok. kept.0))
    | inr plays ↦ let w = lives_in_front plays in (w.0, inr w.1)
  ]
  has_lived left s p = absurd p

  -- where it came to its end
  lives_to : {Told : List (Option SinkFault) → ℕ → Type 0} → PlaysToEnd known Told told reading.show universes (lines_of y) h h' outlets outlets'
      × (taken + length (bytes_wanted y) ≤ INPUT_BYTES) → LivesToEnd known Told told universes form x h h' outlets outlets'
  lives_to e = record {
    reading = reading;
    read = v.read;
    plays = rw v.script e.0;
    within = let w = e.1 in omega (arith, wanted_read v, w);
  }

-- In which order the faults of a live run are told, where what is said of its end is said in other words.
order_as : {O K : Type 0} {Ends Other : (List (Option SinkFault) → ℕ → Type 0) → Type 0} (s : Status) (reads reads' : ℕ) (told : ToldBySink O)
    (output output' : O) (outlets outlets' : List (Option K)) → ((Told : List (Option SinkFault) → ℕ → Type 0) → Ends Told → Other Told)
    → DecidesInOrder s reads reads' told output output' outlets outlets' Ends
    → DecidesInOrder s reads reads' told output output' outlets outlets' Other
order_as status.WriteFault reads reads' told output output' outlets outlets' says p = elim p [ inl failed ↦ inl failed | inr q ↦ inr (q.0, says _ q.1) ]
order_as status.Memory reads reads' told output output' outlets outlets' says p = elim p [ inl wanted ↦ inl wanted | inr q ↦ inr (q.0, says _ q.1) ]
order_as s reads reads' told output output' outlets outlets' says p = tt

-- The same from the lines before the show and behind it.
module _ {form : Form} {S : Type 0} {told_in : ToldBySource S} {a b : Lines S} {loaded : Loaded} (r : HasRead told_in a b form loaded)
    (none : a.taken ≡ 0) (known : LiveMemory) {K : Type 0} (told : ToldBySink K) (universes : ℕ) (h h' : Option (List ℕ))
    (outlets outlets' : List (Option K)) (s : Status) where
  pub live_ended : (rest : Option (List ℕ))
      → IfSome (unread told_in b) (λ y. HasPlayedLive known s told loaded.show universes b.taken y rest h h' outlets outlets')
      → IfSome (unread told_in a) (λ x. HasLived known s told universes form x rest h h' outlets outlets')
  live_ended rest p = over_loaded r none p (λ x y v q. has_lived v known told universes h h' outlets outlets' rest s q)

  pub live_order : {O : Type 0} (told_out : ToldBySink O) (output output' : O) (reads reads' : ℕ)
      → DecidesInOrder s reads reads' told_out output output' outlets outlets' (λ Told. IfSome (unread told_in b) (λ y. PlaysToEnd known Told
      told loaded.show universes (lines_of y) h h' outlets outlets' × (b.taken + length (bytes_wanted y) ≤ INPUT_BYTES)))
      → DecidesInOrder s reads reads' told_out output output' outlets outlets' (λ Told. IfSome (unread told_in a) (λ x. LivesToEnd known Told
      told universes form x h h' outlets outlets'))
  live_order told_out output output' reads reads' p = order_as s reads reads' told_out output output' outlets outlets' (λ Told e.
      over_loaded r none e (λ x y v q. lives_to v known told universes h h' outlets outlets' q)) p

-- A show that isn't read: its text has a fault, or it couldn't be read, and then nothing was written, and no write failed.
abbrev Unanswered : Form → (h h' : Option (List ℕ)) → Status → List ℕ → Type 0
Unanswered form h h' s x = ((text : TextFault) × (reads form x ≡ Err text)) ⊎ ((h' ≡ h) × (s ≢ status.WriteFault))

isnt_read : (form : Form) (x : List ℕ) (text : TextFault) → reads form x ≡ Err text → IsOk (reads form x) → ⊥
isnt_read form x text is ok = let bad : false ≡ true = rw is at ok in absurd cc

module _ {S K : Type 0} (known : LiveMemory) (form : Form) (universes : ℕ) (told_in : ToldBySource S) (told : ToldBySink K) (a b : Lines S)
    {h h' : Option (List ℕ)} (outlets : List (Option K)) {fault : ShowFault} where
  refused_at : (s : Status) → RefusedBy h h' fault s → (x : List ℕ) (left : Option (List ℕ))
      → HasEnded s (Script (Live universes) form) x left h h' → HasEnded s (Check form) x left h h' → Unanswered form h h' s x
      → HasLived known s told universes form x left h h' outlets outlets
  refused_at status.Ok by x left e c u = refusal_isnt_ok _ by refl
  refused_at status.ShowRefused by x left e c u = (e, refl)
  refused_at status.ReadFault by x left e c u = (e, inl (refl, c))
  refused_at status.InputTooLong by x left e c u = (e, inl (refl, c.0))
  refused_at status.WriteFault by x left e c u =
      (e, inl (refl, elim u [ inl text ↦ rw text.1 refl | inr other ↦ absurd (other.1 refl) ]))
  refused_at status.Memory by x left e c u =
      (e, inl (refl, λ ok. elim u [ inl text ↦ absurd (isnt_read form x text.0 text.1 ok) | inr other ↦ other.0 ]))
  refused_at s by x left e c u = absurd (refusal_ends by)

  pub refused_lived : (s : Status) → a.taken ≡ 0 → Says form told_in a b fault → RefusedBy h h' fault s
      → IfSome (unread told_in a) (λ x. HasLived known s told universes form x (told_in.left b.source.now) h h' outlets outlets)
  refused_lived s none says by =
      let unanswered : IfSome (unread told_in a) (λ x. Unanswered form h h' s x) = elim by [
        | inl t ↦ IfSome_then (unread told_in a) (means_of form told_in a b t says).text (λ x e. inl (t.text, e))
        | inr other ↦ all_known (unread told_in a) _ (λ x. inr (
          other.kept,
          kept_is fault s (λ f t. t ≢ status.WriteFault) other.is
              (λ e. absurd cc) (λ e. absurd cc) (λ e. absurd cc),
        ))
      ] in
      let ended = refusal_ended None (over_all form told_in a b (Script (Live universes) form) (script_over form (Live universes)) none) says by in
      let cut = refusal_ended None (over_all form told_in a b (Check form) (show_over (check_tells form)) none) says by in
      both_known (unread told_in a) ended (if_both (unread told_in a) _ _ cut unanswered)
      (λ x e p. refused_at s by x (told_in.left b.source.now) e p.0 p.1)

-- and in which order its faults are told
pub order_refused : {O K : Type 0} (s : Status) (reads reads' : ℕ) (told : ToldBySink O) (output output' : O) (outlets : List (Option K))
    (ToEnd : (List (Option SinkFault) → ℕ → Type 0) → Type 0) → (s ≡ status.WriteFault → Rose (told.faults output) (told.faults output'))
    → HasWanted told output output' s → DecidesInOrder s reads reads' told output output' outlets outlets ToEnd
order_refused status.WriteFault reads reads' told output output' outlets ToEnd write memory = inl (write refl)
order_refused status.Memory reads reads' told output output' outlets ToEnd write memory = elim (memory refl) [
  | inl same ↦ inl (inl (same, refl))
  | inr rose ↦ inl (inr rose)
]
order_refused s reads reads' told output output' outlets ToEnd write memory = tt
