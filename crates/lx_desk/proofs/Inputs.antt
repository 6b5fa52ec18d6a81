-- How much of its input the program wants, and what it writes for it, from the reader's answer and the session's.
use Rattle.lx_desk.proofs.Imports.{◌≡◌, ◌⊎◌, inl, inr, ℕ, zero, suc, ◌+◌, ◌-◌, ◌<◌, ◌≤◌, eqb, cond, Option, Some}
use Rattle.lx_desk.proofs.Imports.{None, Result, Ok, Err, IfSome, IsErr, IsOk, List, [], ◌∷◌, ◌++◌, length, take, refl, sym, ap, ◌∙◌, subst}
use Rattle.lx_desk.proofs.Imports.{arith, length-append, append-nil, append_assoc, take_all, Appends, IsAtEnd, INPUT_BYTES, AppendsFront, AppendsFront-from}
use Rattle.lx_desk.proofs.Imports.{Lines, LinesBetween, unread, first_lines-more, first_lines-longer, Form, TextFault, lines_of, Reading, reads, script_of}
use Rattle.lx_desk.proofs.Imports.{lines_read, HasNoFeed, feeds, first_lines, answering_of, opening_of, script_session, first_replies, input_lines_wanted}
use Rattle.lx_desk.proofs.Imports.{input_wanted, over_show, fault_text, Answering, whole_session, session_after, lines_wanted}
use Rattle.lx_desk.proofs.Imports.{bytes_wanted, Loaded, ShowFault, reading_of, HasRead, OfText, CutShort, Status, Job, Check, Crew, Sheet, Script, ScriptKind}
use Rattle.lx_desk.proofs.Imports.{check_text, sheet_text, show_of, output_of, wanted_of, show_wanted, WritesAll, WritesTaken}
use Rattle.lx_desk.proofs.Imports.{RepliesToTaken, NothingOfCut, AnswersScript, AnswersInFront, AnswersTaken, RefusedBy, RefusesText, status_kept, ToldBySource}
use Rattle.lx_desk.proofs.Imports.{WritesFront, JobFailures, ScriptFailures, HasPlayed, HasEndedBy}
use Rattle.lx_spec.specs.CutInput.{CutOff}
pub use Rattle.lx_desk.proofs.EmptyPrefixes.{front_nothing, no_failures, none_failed, none_most, none_of_job, unwritten, unwritten_as}
use Rattle.std.proofs.KnownBytes.{Appends-nil}
pub use Rattle.std.proofs.lemmas.Option.{IfSome_then}
use Rattle.lx_lex.proofs.TakenLines.{lines_within, fed_then}
use Rattle.lx_reader.specs.declared.fault.ShowFault.TheVariants as faults
use Rattle.lx_reader.specs.HandedLines.{MeansFault, IsPastLimit, IsCutShort}
use Rattle.lx_desk.specs.declared.desk.Status.TheVariants as status

-- a whole text is a front of itself, and nothing is one of any
pub whole_front : (a b : Option (List ℕ)) (text : List ℕ) → Appends a b text → AppendsFront a b text
whole_front a b text p = AppendsFront-from a b text (length text)
    (subst (λ (v : List ℕ). Appends a b v) (sym (take_all (length text) text (omega arith))) p)

pub none_of_script : (most : Option ℕ) (by : Answering (List ℕ)) (state : by.State) (script : List (List ℕ)) → ScriptFailures most by state script []
none_of_script most by state script = record { allows = tt; few = none_most most }

-- where nothing was written, a prefix of the replies was
pub nothing_answered : (most : Option ℕ) (by : Answering (List ℕ)) (state : by.State) (script : List (List ℕ)) (a : Option (List ℕ))
    → AnswersInFront most by state script a a
nothing_answered most by state script a = record {
  failures = [];
  allows = none_of_script most by state script;
  text = front_nothing a (whole_session by state script []).text;
}

-- a fault that isn't one of the text is one of three, and has the status of its name
pub kept_is : (fault : ShowFault) (s : Status) (P : ShowFault → Status → Type 0) → status_kept fault s
    → P faults.ReadFault status.ReadFault → P faults.InputTooLong status.InputTooLong → P faults.Memory status.Memory → P fault s
kept_is (faults.Text text) s P kept read long memory = absurd kept
kept_is faults.ReadFault s P kept read long memory = subst (λ t. P faults.ReadFault t) (sym kept) read
kept_is faults.InputTooLong s P kept read long memory = subst (λ t. P faults.InputTooLong t) (sym kept) long
kept_is faults.Memory s P kept read long memory = subst (λ t. P faults.Memory t) (sym kept) memory

-- a text was told, or a write failed, or memory was short
pub by_kind : (good s : Status) (P : Status → Type 0) → (s ≡ good) ⊎ ((s ≡ status.WriteFault) ⊎ (s ≡ status.Memory)) → P good
    → P status.WriteFault → P status.Memory → P s
by_kind good s P kinds well write memory = elim kinds [
  | inl is ↦ subst P (sym is) well
  | inr fault ↦ elim fault [ inl is ↦ subst P (sym is) write | inr is ↦ subst P (sym is) memory ]
]

-- a refusal has one of five statuses
pub refused_as : {h h' : Option (List ℕ)} {fault : ShowFault} {s : Status} (P : Status → Type 0) → RefusedBy h h' fault s
    → P status.ShowRefused → P status.WriteFault → P status.Memory → P status.ReadFault → P status.InputTooLong → P s
refused_as {fault} {s} P by refused write memory read long = elim by [
  | inl text ↦ by_kind status.ShowRefused s P text.kinds refused write memory
  | inr other ↦ kept_is fault s (λ f t. P t) other.is read long memory
]

pub refusal_isnt_ok : {h h' : Option (List ℕ)} {fault : ShowFault} {s : Status} (P : Type 0) → RefusedBy h h' fault s → s ≡ status.Ok → P
refusal_isnt_ok P by = refused_as (λ t. t ≡ status.Ok → P) by (λ e. absurd cc) (λ e. absurd cc) (λ e. absurd cc) (λ e. absurd cc) (λ e. absurd cc)

-- what holds of all bytes holds of those that are known, and so does what follows
pub all_known : (o : Option (List ℕ)) (P : List ℕ → Type 0) → ((xs : List ℕ) → P xs) → IfSome o P
all_known None P f = tt
all_known (Some xs) P f = f xs

pub if_both : (o : Option (List ℕ)) (P Q : List ℕ → Type 0) → IfSome o P → IfSome o Q → IfSome o (λ xs. P xs × Q xs)
if_both None P Q p q = tt
if_both (Some xs) P Q p q = (p, q)

pub both_known : (o : Option (List ℕ)) {P Q R : List ℕ → Type 0} → IfSome o P → IfSome o Q → ((xs : List ℕ) → P xs → Q xs → R xs)
    → IfSome o R
both_known o {P} {Q} p q f = IfSome_then o (if_both o P Q p q) (λ xs pq. f xs pq.0 pq.1)

-- The show was read of these bytes, of which so many were taken then, and those are left for the script.
pub record IsRead (form : Form) (x y : List ℕ) (taken : ℕ) (reading : Reading) : Type 0 where
  pub raws : List (List ℕ)
  pub took : LinesBetween (Some x) (Some y) 0 taken raws
  pub shown : lines_read (lines_of x) ≡ length raws
  pub read : reads form x ≡ Ok reading
  pub script : script_of x ≡ lines_of y

module _ {form : Form} {x y : List ℕ} {taken : ℕ} {reading : Reading} (v : IsRead form x y taken reading) where
  pub is_ok : IsOk (reads form x)
  is_ok = subst (λ (r : Result Reading TextFault). IsOk r) (sym v.read) refl

  -- the lines of the show, and first lines behind them
  pub first_more : (n : ℕ) → first_lines (length v.raws + n) x ≡ v.took.bytes ++ first_lines n y
  first_more n = ap (first_lines (length v.raws + n)) v.took.took
      ∙ first_lines-more (length v.raws) n v.took.bytes y (v.took.front ∙ ap (first_lines (length v.raws)) v.took.took)

  -- the lines that were handed out are wanted, and then those of the script
  pub wanted_read : length (input_wanted form x) ≡ taken + length (bytes_wanted y)
  wanted_read =
      let n : input_lines_wanted x (reads form x) ≡ length v.raws + lines_wanted (lines_of y) = ap (input_lines_wanted x) v.read
      ∙ ap (λ m. m + lines_wanted (script_of x)) v.shown ∙ ap (λ s. length v.raws + lines_wanted s) v.script in
      let bytes : input_wanted form x ≡ v.took.bytes ++ bytes_wanted y = ap (λ k. first_lines k x) n ∙ first_more (lines_wanted (lines_of y)) in
      omega (arith, ap length bytes, length-append v.took.bytes (bytes_wanted y), v.took.count)

  -- what was cut off behind them was so behind those before them and these
  abbrev pub cut_from : {left : Option (List ℕ)} → CutOff taken y left → CutOff 0 x left
  cut_from {left} cut =
      let n = cut.lines in
      let first = first_more n in
      let count : taken + length (first_lines n y) ≡ 0 + length (first_lines (length v.raws + n) x) =
      omega (arith, v.took.count, ap length first, length-append v.took.bytes (first_lines n y)) in
      record {
        lines = length v.raws + n;
        next = cut.next;
        taken = IfSome_then left cut.taken (λ rest e.
            v.took.took ∙ ap (λ w. v.took.bytes ++ w) e ∙ sym (append_assoc v.took.bytes (first_lines n y) (cut.next ++ rest))
            ∙ ap (λ w. w ++ (cut.next ++ rest)) (sym first));
        within = let w = cut.within in omega (arith, count, w);
        fed = both_known left cut.taken cut.fed (λ rest took fed.
            subst (λ (w : List ℕ). (feeds w ≡ length v.raws + n) ⊎ (cut.next ++ rest ≡ [])) (sym first)
            (fed_then v.took.bytes (first_lines n y) y (cut.next ++ rest) (length v.raws) n (length v.raws + n) refl v.took.fed fed took));
        no_feed = subst (λ k. HasNoFeed (take (INPUT_BYTES - k) cut.next)) count cut.no_feed;
      }

  -- What the session of the script answered is what the program writes.
  text_is : (kind : ScriptKind) (failures : List (Option ℕ)) → output_of (Script kind form) x failures
      ≡ (whole_session (answering_of kind) (opening_of kind reading.show) (lines_of y) failures).text
  text_is kind failures = ap (λ r. over_show r (λ reading. (script_session kind x failures reading).text)) v.read
      ∙ ap (λ ls. (whole_session (answering_of kind) (opening_of kind reading.show) ls failures).text) v.script

  pub allowed : (most : Option ℕ) (kind : ScriptKind) (failures : List (Option ℕ))
      → ScriptFailures most (answering_of kind) (opening_of kind reading.show) (lines_of y) failures → JobFailures most (Script kind form) x failures
  allowed most kind failures f = record { allows = rw (v.read, v.script) f.allows; few = f.few }

  whole_at : {h h' : Option (List ℕ)} (most : Option ℕ) (kind : ScriptKind)
      → AnswersScript most (answering_of kind) (opening_of kind reading.show) (lines_of y) h h' → WritesAll most (Script kind form) x h h'
  whole_at {h} {h'} most kind a = record {
    failures = a.failures;
    allows = allowed most kind a.failures a.allows;
    text = subst (λ (t : List ℕ). Appends h h' t) (sym (text_is kind a.failures)) a.text;
  }

  pub front_at : {h h' : Option (List ℕ)} (most : Option ℕ) (kind : ScriptKind)
      → AnswersInFront most (answering_of kind) (opening_of kind reading.show) (lines_of y) h h' → WritesFront most (Script kind form) x h h'
  front_at {h} {h'} most kind a = record {
    failures = a.failures;
    allows = allowed most kind a.failures a.allows;
    text = subst (λ (t : List ℕ). AppendsFront h h' t) (sym (text_is kind a.failures)) a.text;
  }

  -- as many lines of the script as were taken behind those of the show
  pub taken_is : (n : ℕ) → length v.raws + n - lines_read (lines_of x) ≡ n
  taken_is n = omega (arith, v.shown)

  pub short_of : (n : ℕ) → n < lines_wanted (lines_of y) → length v.raws + n < lines_read (lines_of x) + lines_wanted (script_of x)
  short_of n short = let s = ap lines_wanted v.script in omega (arith, s, short, v.shown)

  pub taken_at : {left h h' : Option (List ℕ)} (most : Option ℕ) (kind : ScriptKind)
      → AnswersTaken most (answering_of kind) (opening_of kind reading.show) taken y left h h' → RepliesToTaken most (Script kind form) x left h h'
  taken_at {h} {h'} most kind a =
      let n = a.cut.lines in
      record {
        failures = a.failures;
        allows = allowed most kind a.failures a.allows;
        cut = cut_from a.cut;
        short = let w = ap (input_lines_wanted x) v.read in let m = short_of n a.short in omega (arith, w, m);
        text = subst (λ (t : List ℕ). Appends h h' t)
            (sym (ap (λ r. first_replies kind x a.failures (length v.raws + n - lines_read (lines_of x)) r) v.read
            ∙ ap (λ k. (session_after (answering_of kind) (opening_of kind reading.show) (script_of x) a.failures k).text) (taken_is n)
            ∙ ap (λ ls. (session_after (answering_of kind) (opening_of kind reading.show) ls a.failures n).text) v.script)) a.text;
      }

  -- how the job ended, by its status
  pub script_ended : (most : Option ℕ) (kind : ScriptKind) (rest h h' : Option (List ℕ)) (s : Status)
      → HasPlayed most s (answering_of kind) (opening_of kind reading.show) taken y rest h h' → HasEndedBy most s (Script kind form) x rest h h'
  script_ended most kind rest h h' status.Ok p =
      (record { text = whole_at most kind p.0; within = let w = p.1 in omega (arith, wanted_read, w) }, is_ok)
  script_ended most kind rest h h' status.ReadFault p = taken_at most kind p
  script_ended most kind rest h h' status.InputTooLong p = (taken_at most kind p.0, let l = p.1 in omega (arith, wanted_read, l))
  script_ended most kind rest h h' status.WriteFault p = front_at most kind p
  script_ended most kind rest h h' status.Memory p = front_at most kind p
  script_ended most kind rest h h' s p = absurd p

-- From the bytes before the show to those behind it.
show_known : {form : Form} (a b : Option (List ℕ)) {i taken : ℕ} {raws : List (List ℕ)} {reading : Reading} {P Q : List ℕ → Type 0}
    → LinesBetween a b i taken raws → i ≡ 0 → IfSome a (λ x. lines_read (lines_of x) ≡ length raws) → IfSome a (λ x. reads form x ≡ Ok reading)
    → IfSome a (λ x. IfSome b (λ y. script_of x ≡ lines_of y)) → IfSome b P
    → ((x y : List ℕ) → IsRead form x y taken reading → P y → Q x) → IfSome a Q
show_known None b took none shown text script p f = tt
show_known (Some x) None took none shown text script p f = absurd took.took
show_known (Some x) (Some y) {taken} {raws} took none shown text script p f = f x y (record {
  raws = raws;
  took = subst (λ (i : ℕ). LinesBetween (Some x) (Some y) i taken raws) none took;
  shown = shown;
  read = text;
  script = script;
}) p

one_more : (front : List (List ℕ)) (last : List ℕ) → length front + 1 ≡ length (front ++ last ∷ [])
one_more front last = omega (arith, length-append front (last ∷ []))

pub over_loaded : {form : Form} {S : Type 0} {told : ToldBySource S} {a b : Lines S} {loaded : Loaded} {P Q : List ℕ → Type 0}
    → HasRead told a b form loaded → a.taken ≡ 0 → IfSome (unread told b) P
    → ((x y : List ℕ) → IsRead form x y b.taken (reading_of loaded) → P y → Q x) → IfSome (unread told a) Q
over_loaded {told} {a} {b} r none p f =
    let m = r.means in
    show_known (unread told a) (unread told b) m.handed.took none (IfSome_then (unread told a) m.wanted (λ x shown. shown ∙ one_more m.front m.last)) m.text m.script p f

-- The bytes of the show are within the limit of the input.
first_lines-length : (k : ℕ) (xs : List ℕ) → length (first_lines k xs) ≤ length xs
first_lines-length k [] = omega arith
first_lines-length zero (x ∷ xs) = omega arith
first_lines-length (suc k) (x ∷ xs) = omega (arith, first_lines-length (cond (eqb x 10) k (suc k)) xs)

show_fits : (a b : Option (List ℕ)) (i j n : ℕ) (raws : List (List ℕ)) → LinesBetween a b i j raws → (length raws ≡ n) ⊎ IsAtEnd b
    → IfSome a (λ x. lines_read (lines_of x) ≡ n) → IfSome a (λ x. i + length (show_wanted x) ≤ INPUT_BYTES)
show_fits None b i j n raws took whole shown = tt
show_fits (Some x) None i j n raws took whole shown = absurd took.took
show_fits (Some x) (Some y) i j n raws took whole shown =
    let bytes : show_wanted x ≡ first_lines n x = ap (λ k. first_lines k x) shown in
    elim whole [
      | inl here ↦
          let fits = lines_within (Some x) (Some y) i j raws n took (omega (arith, here)) in
          omega (arith, ap length bytes, fits)
      | inr end ↦
          let all : x ≡ took.bytes = took.took ∙ ap (λ v. took.bytes ++ v) end ∙ append-nil took.bytes in
          omega (arith, ap length bytes, first_lines-length n x, ap length all, took.count, took.within)
    ]

pub read_fits : {form : Form} {S : Type 0} {told : ToldBySource S} {a b : Lines S} {loaded : Loaded} → HasRead told a b form loaded
    → IfSome (unread told a) (λ x. a.taken + length (show_wanted x) ≤ INPUT_BYTES)
read_fits {told} {a} {b} r =
    let m = r.means in
    show_fits (unread told a) (unread told b) a.taken b.taken (length m.front + 1) (m.front ++ m.last ∷ []) m.handed.took
    (inl (sym (one_more m.front m.last))) m.wanted

-- A job over the show that its input begins with: of these bytes, of which so much is left, where it is given those and so much is left of
-- them.
pub record IsOver (form : Form) (job : Job) (x given : List ℕ) (left rest : Option (List ℕ)) : Type 0 where
  pub show : show_of job given ≡ reads form x
  pub refusal : (fault : TextFault) → reads form x ≡ Err fault → output_of job given [] ≡ fault_text fault
  pub wanted : (fault : TextFault) → reads form x ≡ Err fault → wanted_of job given ≡ show_wanted x
  pub longer : (n : ℕ) → n + 1 ≤ lines_read (lines_of x) → length (first_lines (n + 1) x) ≤ length (wanted_of job given)
  pub cut : (most : Option ℕ) (h : Option (List ℕ)) → IsCutShort 0 x left → WritesTaken most job given rest h h

-- one that answers the script
more_wanted : (x : List ℕ) (n : ℕ) (r : Result Reading TextFault) → n + 1 ≤ lines_read (lines_of x) → n + 1 ≤ input_lines_wanted x r
more_wanted x n (Ok reading) h = omega (arith, h)
more_wanted x n (Err i) h = h

none_replied : (kind : ScriptKind) (x : List ℕ) (r : Result Reading TextFault) → first_replies kind x [] 0 r ≡ []
none_replied kind x (Ok reading) = refl
none_replied kind x (Err fault) = refl

pub script_over : (form : Form) (kind : ScriptKind) (x : List ℕ) (left : Option (List ℕ)) → IsOver form (Script kind form) x x left left
script_over form kind x left = record {
  show = refl;
  refusal = λ fault text. ap (λ r. over_show r (λ reading. (script_session kind x [] reading).text)) text;
  wanted = λ fault text. ap (λ k. first_lines k x) (ap (input_lines_wanted x) text);
  longer = λ n h. first_lines-longer (n + 1) (input_lines_wanted x (reads form x)) x (more_wanted x n (reads form x) h);
  cut = λ most h short.
      let few : short.cut.lines - lines_read (lines_of x) ≡ 0 = let lt = short.wanted in omega (arith, lt) in
      let more : short.cut.lines + 1 ≤ lines_read (lines_of x) = let lt = short.wanted in omega (arith, lt) in
      record {
        failures = [];
        allows = none_of_job most (Script kind form) x (none_failed kind x (reads form x));
        cut = short.cut;
        short = let m = more_wanted x short.cut.lines (reads form x) more in omega (arith, m);
        text = subst (λ (t : List ℕ). Appends h h t)
            (sym (ap (λ k. first_replies kind x [] k (reads form x)) few ∙ none_replied kind x (reads form x))) (Appends-nil h);
      };
}

-- and one that tells of the show alone, and writes nothing where the input was cut off within it
pub record IsOfShow (form : Form) (job : Job) (f : Reading → List ℕ) : Type 0 where
  pub show : (x : List ℕ) → show_of job x ≡ reads form x
  pub output : (x : List ℕ) → output_of job x [] ≡ over_show (reads form x) f
  pub bytes : (x : List ℕ) → wanted_of job x ≡ show_wanted x
  pub cut : (most : Option ℕ) (x : List ℕ) (left h : Option (List ℕ)) → NothingOfCut x left h h → WritesTaken most job x left h h

pub show_over : {form : Form} {job : Job} {f : Reading → List ℕ} → IsOfShow form job f → (x : List ℕ) (left : Option (List ℕ))
    → IsOver form job x x left left
show_over {f} t x left = record {
  show = t.show x;
  refusal = λ fault text. t.output x ∙ ap (λ r. over_show r f) text;
  wanted = λ fault text. t.bytes x;
  longer = λ n h. omega (arith, ap length (t.bytes x), first_lines-longer (n + 1) (lines_read (lines_of x)) x h);
  cut = λ most h short. t.cut most x left h (record { kept = refl; cut = short.cut; short = short.wanted });
}

pub check_tells : (form : Form) → IsOfShow form (Check form) check_text
check_tells form = record { show = λ x. refl; output = λ x. refl; bytes = λ x. refl; cut = λ most x left h cut. cut }

pub sheet_tells : (form : Form) → IsOfShow form (Sheet form) sheet_text
sheet_tells form = record { show = λ x. refl; output = λ x. refl; bytes = λ x. refl; cut = λ most x left h cut. cut }

pub crew_tells : (form : Form) (count : ℕ) → IsOfShow form (Crew count form) (λ reading. [])
crew_tells form count = record { show = λ x. refl; output = λ x. refl; bytes = λ x. refl; cut = λ most x left h cut. cut }

-- The same of the bytes that lines have, of which none were taken.
pub record Over {S : Type 0} (form : Form) (told : ToldBySource S) (a b : Lines S) (job : Job) (given : List ℕ → List ℕ)
    (rest : Option (List ℕ)) : Type 0 where
  pub known : IfSome (unread told a) (λ x. IsOver form job x (given x) (told.left b.source.now) rest)
  pub none : a.taken ≡ 0

pub over_all : {S : Type 0} (form : Form) (told : ToldBySource S) (a b : Lines S) (job : Job)
    → ((x : List ℕ) (left : Option (List ℕ)) → IsOver form job x x left left) → a.taken ≡ 0
    → Over form told a b job (λ x. x) (told.left b.source.now)
over_all form told a b job over none = record {
  known = all_known (unread told a) (λ x. IsOver form job x x (told.left b.source.now) (told.left b.source.now))
      (λ x. over x (told.left b.source.now));
  none = none;
}

-- What the reader's fault says.
abbrev pub Says : {S : Type 0} → Form → ToldBySource S → Lines S → Lines S → ShowFault → Type 0
Says form told a b fault = OfText (MeansFault told a form) (IfSome (unread told a) (IsPastLimit a.taken) × CutShort told a b) (CutShort told a b) fault

pub means_of : {S : Type 0} (form : Form) (told : ToldBySource S) (a b : Lines S) {h h' : Option (List ℕ)} {fault : ShowFault} {s : Status}
    (t : RefusesText h h' fault s) → Says form told a b fault → MeansFault told a form t.text
means_of form told a b t says = subst (λ f. Says form told a b f) t.told says

-- A show that is refused, or couldn't be read.
module _ {S : Type 0} {form : Form} {told : ToldBySource S} {a b : Lines S} {job : Job} {given : List ℕ → List ℕ} {rest : Option (List ℕ)}
    (most : Option ℕ) (o : Over form told a b job given rest) {h h' : Option (List ℕ)} {fault : ShowFault} {s : Status} where
  text_refused : (t : RefusesText h h' fault s) → MeansFault told a form t.text
      → IfSome (unread told a) (λ x. HasEndedBy most s job (given x) rest h h')
  text_refused t m =
      let fits = show_fits (unread told a) m.unread_then a.taken m.taken_then m.count m.raws m.took m.whole m.wanted in
      by_kind status.ShowRefused s (λ v. (v ≡ status.ShowRefused → Appends h h' (fault_text t.text))
      → IfSome (unread told a) (λ x. HasEndedBy most v job (given x) rest h h')) t.kinds
      (λ whole. both_known (unread told a) (if_both (unread told a) _ _ m.text fits) o.known (λ x p over. (
        record {
          text = record {
            failures = [];
            allows = none_of_job most job (given x) (no_failures job (given x));
            text = subst (λ (v : List ℕ). Appends h h' v) (sym (over.refusal t.text p.0)) (whole refl);
          };
          within = let fit = p.1 in let none = o.none in omega (arith, none, fit, ap length (over.wanted t.text p.0));
        },
        subst (λ (r : Result Reading TextFault). IsErr r) (sym (over.show ∙ p.0)) refl,
      ))) (λ whole. front) (λ whole. front) t.whole
    where
      front : IfSome (unread told a) (λ x. WritesFront most job (given x) h h')
      front = both_known (unread told a) m.text o.known (λ x text over. record {
        failures = [];
        allows = none_of_job most job (given x) (no_failures job (given x));
        text = subst (λ (v : List ℕ). AppendsFront h h' v) (sym (over.refusal t.text text)) t.front;
      })

  pub refusal_ended : Says form told a b fault → RefusedBy h h' fault s → IfSome (unread told a) (λ x. HasEndedBy most s job (given x) rest h h')
  refusal_ended says by = elim by [
    | inl t ↦ text_refused t (means_of form told a b t says)
    | inr other ↦ subst (λ v. IfSome (unread told a) (λ x. HasEndedBy most s job (given x) rest h v)) (sym other.kept)
        (kept_is fault s (λ f t. Says form told a b f → IfSome (unread told a) (λ x. HasEndedBy most t job (given x) rest h h)) other.is
        (λ cut. both_known (unread told a) o.known cut (λ x over short. over.cut most h (from_start x short)))
        (λ long. both_known (unread told a) (if_both (unread told a) _ _ long.0 long.1) o.known (λ x p over. (
          over.cut most h (from_start x p.1),
          past x p.0 over,
        )))
        (λ other. all_known (unread told a) _ (λ x. unwritten most job (given x) h)) says)
  ]
    where
      from_start : (x : List ℕ) → IsCutShort a.taken x (told.left b.source.now) → IsCutShort 0 x (told.left b.source.now)
      from_start x short = subst (λ i. IsCutShort i x (told.left b.source.now)) o.none short

      past : (x : List ℕ) → IsPastLimit a.taken x → IsOver form job x (given x) (told.left b.source.now) rest
          → INPUT_BYTES < length (wanted_of job (given x))
      past x p over = let none = o.none in let lt = p.wanted in omega (arith, none, p.long, over.longer p.n (omega (arith, lt)))
