-- How far a session has come.
use Rattle.lx_session.proofs.Imports.{◌≡◌, ◌⊎◌, inl, inr, ℕ, zero, suc, ◌+◌, ◌≤◌, ◌<◌, true, false, cond, not, eqb, Option, Some}
use Rattle.lx_session.proofs.Imports.{None, IfSome, IsTrue, List, [], ◌∷◌, ◌++◌, map, length, refl, sym, ap, ◌∙◌, subst, append-nil}
use Rattle.lx_session.proofs.Imports.{append_assoc, length-append, arith, position_or_len, AllByRecursion, Appends, IsAtEnd, Appends-nil, Appends-trans}
use Rattle.lx_session.proofs.Imports.{map-append, length-map, INPUT_BYTES, Lines, HandedOut, unread, current_line, handed_none, handed_then, LinesBetween}
use Rattle.lx_session.proofs.Imports.{StepOf, texts, lines_within, next_too_long, without_cr, lines_of, first_lines, Session, Answering, begin_at, after_each}
use Rattle.lx_session.proofs.Imports.{AreAllowed, ends_script, lines_wanted, bytes_wanted, Tally, Known, DoneLine, PassedLine, QuitLine, AnsweredLine}
use Rattle.lx_session.proofs.Imports.{counts_in, ToldBySource, ◌-◌, take, ExtendsText, Bool, spared}
use Rattle.std.proofs.lemmas.Option.{IfSome_then}
use Rattle.lx_spec.proofs.Lists.{all_append}
use Rattle.lx_lex.specs.declared.lines.Step.TheVariants.{InputTooLong}
use Rattle.lx_lex.proofs.FirstLines.{first_lines-longer}
use Rattle.lx_session.proofs.EachLine.{each-append, each-before, allowed-append}
use Rattle.lx_session.proofs.Refusals.{none_spared, unspared}

-- no line ends the script
abbrev pub GoOn : List (List ℕ) → Type 0
GoOn script = AllByRecursion (λ line. ends_script line ≡ false) script

-- The lines are done from a state on, and the session has come so far. Its text begins with that of all lines but the last.
pub record Done (by : Answering (List ℕ)) (state : by.State) (script : List (List ℕ)) (failures : List (Option ℕ)) (now : Session by.State)
    : Type 0 where
  pub go_on : GoOn script
  pub each : length failures ≡ length script
  pub is : after_each by failures (begin_at state) script ≡ now
  pub allowed : AreAllowed by failures (begin_at state) script
  pub earlier : ExtendsText (after_each by failures (begin_at state) (take (length script - 1) script)) now

done_none : {by : Answering (List ℕ)} {state : by.State} → Done by state [] [] (begin_at state)
done_none = record { go_on = tt; each = refl; is = refl; allowed = tt; earlier = record { more = []; text = refl } }

-- before one more line the session had come this far
pub before_last : {by : Answering (List ℕ)} {state : by.State} {script : List (List ℕ)} {failures : List (Option ℕ)} {now : Session by.State}
    (line : List ℕ) (failed : Option ℕ) → Done by state script failures now
    → after_each by (failures ++ failed ∷ []) (begin_at state) (take (length (script ++ line ∷ []) - 1) (script ++ line ∷ [])) ≡ now
before_last {by} {state} {script} {failures} line failed done =
    each-before by failures (failed ∷ []) (begin_at state) script line done.each ∙ done.is

-- one more line
pub done_more : {by : Answering (List ℕ)} {Stands : by.State → Type 0} {state : by.State} {script : List (List ℕ)}
    {failures : List (Option ℕ)} {now : Session by.State} {line reply : List ℕ} → Done by state script failures now
    → (ample : Bool) (w : DoneLine (spared ample by) Stands now line reply) → Done by state (script ++ line ∷ []) (failures ++ w.failed ∷ []) w.next
done_more {by} {state} {script} {failures} {now} {line} {reply} done ample w =
    let one = w.failed ∷ [] in
    record {
      go_on = all_append (λ l. ends_script l ≡ false) script (line ∷ []) done.go_on (w.more, tt);
      each = omega (arith, done.each, length-append failures one, length-append script (line ∷ []));
      is = each-append by failures one (begin_at state) script (line ∷ []) done.each
          ∙ ap (λ s. by.answer w.failed s line) done.is ∙ w.goes_on.is;
      allowed = allowed-append by failures one (begin_at state) script (line ∷ []) done.each done.allowed
          (subst (λ s. AreAllowed by one s (line ∷ [])) (sym done.is)
          (unspared ample w.failed (by.MayFail now.state line) w.goes_on.allowed, tt));
      earlier = record {
        more = reply;
        text = w.text ∙ ap (λ (s : Session by.State). s.text ++ reply) (sym (before_last line w.failed done));
      };
    }

-- The lines that were handed out from a to b are done and answered, and what answers stands for the state after them. Those of which an
-- attempt failed are paid for.
pub record SoFar {S : Type 0} (by : Answering (List ℕ)) (Paid : List (Option ℕ) → Type 0) (Stands : by.State → Type 0) (told : ToldBySource S) (a b : Lines S)
    (state : by.State) (tally : Tally) (h h' : Known) : Type 0 where
  pub raws : List (List ℕ)
  pub handed : HandedOut told a b raws
  pub failures : List (Option ℕ)
  pub paid : Paid failures
  pub now : Session by.State
  pub done : Done by state (map without_cr raws) failures now
  pub stands : Stands now.state
  pub appended : Appends h h' now.text
  pub counts : now.counts ≡ counts_in tally

pub so_far_none : {S : Type 0} {by : Answering (List ℕ)} {Paid : List (Option ℕ) → Type 0} {Stands : by.State → Type 0} {told : ToldBySource S}
    {a : Lines S} {state : by.State} {tally : Tally} {h : Known} → IsTrue a.going → Paid [] → Stands state
    → counts_in tally ≡ record { ok = 0; refused = 0; bad = 0 } → SoFar by Paid Stands told a a state tally h h
so_far_none {told} {a} {state} {h} going paid stands counts = record {
  raws = [];
  handed = handed_none told a going;
  failures = [];
  paid = paid;
  now = begin_at state;
  done = done_none;
  stands = stands;
  appended = Appends-nil h;
  counts = sym counts;
}

-- what is paid for one line more, of which no attempt failed where memory was ample
abbrev pub PaysMore : Bool → List (Option ℕ) → (List (Option ℕ) → Type 0) → Type 0
PaysMore ample failures Paid = (failed : Option ℕ) → (ample ≡ true → failed ≡ None) → Paid (failures ++ failed ∷ [])

pub so_far_more : {S : Type 0} {by : Answering (List ℕ)} {Paid Paid' : List (Option ℕ) → Type 0} {Stood Stands : by.State → Type 0}
    {told : ToldBySource S} {a b c : Lines S} {state : by.State} {tally tally' : Tally} {h h' h'' : Known} (ample : Bool)
    (s : SoFar by Paid Stood told a b state tally h h') → PaysMore ample s.failures Paid'
    → AnsweredLine (spared ample by) Stands told b c h' h'' s.now tally' → SoFar by Paid' Stands told a c state tally' h h''
so_far_more {by} {told} {a} {b} {c} {state} {h} {h'} {h''} ample s pays t =
    let w = t.whole.done in
    let line = without_cr t.raw in
    record {
      raws = s.raws ++ t.raw ∷ [];
      handed = handed_then told a b c s.raws (t.raw ∷ []) s.handed t.handed;
      failures = s.failures ++ w.failed ∷ [];
      paid = pays w.failed (none_spared ample w.failed (by.MayFail s.now.state line) w.goes_on.allowed);
      now = w.next;
      done = rw (map-append without_cr s.raws (t.raw ∷ [])) (done_more s.done ample w);
      stands = w.stands;
      appended = rw w.text (Appends-trans h h' h'' s.now.text t.whole.reply s.appended t.whole.appended);
      counts = t.whole.counts;
    }

-- These lines were handed out from a to b, and none of them ends the script.
pub record Passed {S : Type 0} (told : ToldBySource S) (a b : Lines S) : Type 0 where
  pub raws : List (List ℕ)
  pub handed : HandedOut told a b raws
  pub go_on : GoOn (map without_cr raws)

pub passed_none : {S : Type 0} {told : ToldBySource S} {a : Lines S} → IsTrue a.going → Passed told a a
passed_none {told} {a} going = record { raws = []; handed = handed_none told a going; go_on = tt }

pub passed_more : {S : Type 0} {told : ToldBySource S} {a b c : Lines S} → Passed told a b → PassedLine told b c → Passed told a c
passed_more {told} {a} {b} {c} p one = record {
  raws = p.raws ++ one.raw ∷ [];
  handed = handed_then told a b c p.raws (one.raw ∷ []) p.handed one.handed;
  go_on = rw (map-append without_cr p.raws (one.raw ∷ []))
      (all_append (λ l. ends_script l ≡ false) (map without_cr p.raws) (without_cr one.raw ∷ []) p.go_on (one.more, tt));
}

-- where the script ends
pub ends_after : (xs : List (List ℕ)) (more : List (List ℕ)) → GoOn xs
    → position_or_len ends_script (xs ++ more) ≡ length xs + position_or_len ends_script more
ends_after [] more all = omega arith
ends_after (x ∷ xs) more all =
    let here = ap (λ b. cond (not b) (1 + position_or_len ends_script (xs ++ more)) 0) all.0 in
    let next = ends_after xs more all.1 in
    omega (arith, here, next)

pub ends_here : (l : List ℕ) (more : List (List ℕ)) → ends_script l ≡ true → position_or_len ends_script (l ∷ more) ≡ 0
ends_here l more e = ap (λ b. cond (not b) (1 + position_or_len ends_script more) 0) e

-- a fact of all known bytes from two that are known
pub with_both : (o : Option (List ℕ)) (P Q R : List ℕ → Type 0) → IfSome o P → IfSome o Q → ((xs : List ℕ) → P xs → Q xs → R xs)
    → IfSome o R
with_both None P Q R p q f = tt
with_both (Some xs) P Q R p q f = f xs p q

-- the lines of all known bytes begin with those that were handed out
pub begins : {a b : Option (List ℕ)} {i j : ℕ} {raws : List (List ℕ)} → LinesBetween a b i j raws
    → IfSome a (λ xs. (rest : List (List ℕ)) × (lines_of xs ≡ map without_cr raws ++ rest))
begins {a = None} p = tt
begins {a = Some x} {b = None} p = absurd p.took
begins {a = Some x} {b = Some y} {i = i} {j = j} {raws = raws} p = (lines_of y, texts (Some x) (Some y) i j raws p)

-- and with one more that was handed out after them
pub begins_more : {a b : Option (List ℕ)} {i j : ℕ} (raws : List (List ℕ)) (raw : List ℕ) → LinesBetween a b i j (raws ++ raw ∷ [])
    → IfSome a (λ xs. (rest : List (List ℕ)) × (lines_of xs ≡ map without_cr raws ++ without_cr raw ∷ rest))
begins_more {a} raws raw p =
    IfSome_then a (begins p)
    (λ xs e. (e.0, rw (map-append without_cr raws (raw ∷ []), append_assoc (map without_cr raws) (without_cr raw ∷ []) e.0) at e.1))

-- The bytes that the script wants.
first_lines-length : (k : ℕ) (xs : List ℕ) → length (first_lines k xs) ≤ length xs
first_lines-length k [] = omega arith
first_lines-length zero (x ∷ xs) = omega arith
first_lines-length (suc k) (x ∷ xs) = omega (arith, first_lines-length (cond (eqb x 10) k (suc k)) xs)

-- where all bytes were taken, any first lines are within the limit
all_within : (a b : Option (List ℕ)) (i j : ℕ) (raws : List (List ℕ)) → LinesBetween a b i j raws → IsAtEnd b
    → IfSome a (λ xs. i + length (bytes_wanted xs) ≤ INPUT_BYTES)
all_within None b i j raws p end = tt
all_within (Some x) None i j raws p end = absurd p.took
all_within (Some x) (Some y) i j raws p end =
    let all : x ≡ p.bytes = p.took ∙ ap (λ v. p.bytes ++ v) end ∙ append-nil p.bytes in
    omega (arith, first_lines-length (lines_wanted (lines_of x)) x, ap length all, p.count, p.within)

-- at the end of the input they are within its limit, and likewise where a line ended the script
fits_by_quit : {S : Type 0} (told : ToldBySource S) (a b c : Lines S) → Passed told a b
    → QuitLine told b c → IfSome (unread told a) (λ bytes. a.taken + length (bytes_wanted bytes) ≤ INPUT_BYTES)
fits_by_quit told a b c s q =
    let line = without_cr q.raw in
    let both = handed_then told a b c s.raws (q.raw ∷ []) s.handed q.handed in
    let n = length (s.raws ++ q.raw ∷ []) in
    with_both (unread told a) _ _ _ (begins_more s.raws q.raw both.took)
    (lines_within (unread told a) (unread told c) a.taken c.taken (s.raws ++ q.raw ∷ []) n both.took (omega arith)) (λ xs e le.
    let wanted : lines_wanted (lines_of xs) ≡ n =
    ap (λ ls. position_or_len ends_script ls + 1) e.1
    ∙ omega (
      arith,
      ends_after (map without_cr s.raws) (line ∷ e.0) s.go_on,
      ends_here line e.0 q.quits,
      length-append s.raws (q.raw ∷ []),
      length-map s.raws without_cr,
    ) in
    omega (arith, le, ap (λ k. length (first_lines k xs)) wanted))

pub fits : {S : Type 0} (told : ToldBySource S) (a b c : Lines S) → Passed told a b → IsAtEnd (unread told b)
    ⊎ QuitLine told b c → IfSome (unread told a) (λ bytes. a.taken + length (bytes_wanted bytes) ≤ INPUT_BYTES)
fits told a b c s how = elim how [
  | inl end ↦ all_within (unread told a) (unread told b) a.taken b.taken s.raws s.handed.took end
  | inr quit ↦ fits_by_quit told a b c s quit
]

-- the next line is past the limit: so are the bytes that the script wants
pub too_long : {S : Type 0} (told : ToldBySource S) (a b c : Lines S) → Passed told a b
    → StepOf InputTooLong (unread told b) (unread told c) b.taken c.taken (current_line c)
    → IfSome (unread told a) (λ bytes. INPUT_BYTES < a.taken + length (bytes_wanted bytes))
too_long told a b c s step =
    let n = length s.raws + 1 in
    with_both (unread told a) _ _ _ (begins s.handed.took)
    (next_too_long (unread told a) (unread told b) (unread told c) a.taken b.taken c.taken s.raws (current_line c) n s.handed.took step refl)
    (λ xs e lt.
    let wanted : n ≤ lines_wanted (lines_of xs) =
    let is = ap (λ ls. position_or_len ends_script ls + 1) e.1 in
    omega (arith, is, ends_after (map without_cr s.raws) e.0 s.go_on, length-map s.raws without_cr) in
    omega (arith, lt, first_lines-longer n (lines_wanted (lines_of xs)) xs wanted))
