-- The transcript's entries with the true texts of lines that are too long.
use Rattle.lx_crew.proofs.Imports.{◌≡◌, ℕ, zero, suc, ◌+◌, ◌-◌, ◌<◌, ◌==◌, Bool, true, false, cond, List, [], ◌∷◌, ◌++◌, take, drop}
use Rattle.lx_crew.proofs.Imports.{refl, sym, ap, ◌∙◌, append-nil, ◌⊎◌, inl, inr, Option, None, true≢false, add-one, subst, eq-eqb, get_or, arith, IfSome}
use Rattle.lx_crew.proofs.Imports.{AllByRecursion, filter-append, map, map-append, length-map, CrewEntry, op_text, after_entry, crew_answering, crew_session}
use Rattle.lx_crew.proofs.Imports.{Desk, line_of, Session, begin_at, with_text, after_each, AreAllowed, DeskState, begun, after_meaning, IsAcceptedEdit}
use Rattle.lx_crew.proofs.Imports.{meaning_is, Message, Sent, Line, LongLine, End, ReadFault, InputTooLong, named_line, entries_of, said, of_place, is_last}
use Rattle.lx_crew.proofs.Imports.{HasText, HaveLines, of_operator, numbered_from, Merged, MergedSoFar, length, all_but_last}
use Rattle.lx_crew.proofs.Imports.{last_alone, text_to_last_name, take-append_seam}
use Rattle.std.specs.Prelude.{flat_map, not}
use Rattle.std.specs.List.{filter}
use Rattle.std.proofs.Math.Seq.{drop-cons}
use Rattle.std.proofs.lemmas.Bool.{cases_Bool}
use Rattle.std.proofs.lemmas.Bool.Decides.{nat_tests}
use Rattle.std.proofs.lemmas.List.{drop-map, length-drop, take-map}
use Rattle.lx_spec.specs.declared.Line.{Line as Meant}
use Rattle.lx_spec.specs.Session.{Answering}
use Rattle.lx_spec.proofs.Lists.{all_append}
use Rattle.lx_crew.proofs.Lists.{long_means, text_not_last}

-- the entries that have a line
abbrev pub lines_in : List Message → List Message
lines_in es = filter (λ (e : Message). not (is_last e.sent)) es

-- the line of an entry, by its operator's lines
abbrev pub own_text : (ℕ → List (List ℕ)) → Message → List ℕ
own_text lines e = get_or (lines e.place) (e.number - 1) []

abbrev pub own_entry : (ℕ → List (List ℕ)) → Message → CrewEntry
own_entry lines e = named_line e.place e.number (own_text lines e)

-- the entries of the transcript, each with its own text
abbrev pub true_entries : (ℕ → List (List ℕ)) → List Message → List CrewEntry
true_entries lines es = map (own_entry lines) (lines_in es)

-- an entry has its own text, or is a last one
abbrev pub IsTrueTo : (ℕ → List (List ℕ)) → Message → Type 0
IsTrueTo lines e = is_last e.sent ≡ false → HasText e.sent (own_text lines e)

-- What a session sees of an entry: its name, and the meaning of its line.
abbrev pub Key : Type 0
Key = List ℕ × Option Meant

abbrev pub key_of : CrewEntry → Key
key_of e = (op_text e, line_of e.line)

-- entries of the same names, whose lines have the same meaning
abbrev pub Alike : List CrewEntry → List CrewEntry → Type 0
Alike xs ys = map key_of xs ≡ map key_of ys

-- the session of names and meanings
abbrev by_keys : Answering Key
by_keys = record {
  State = DeskState;
  answer = λ failed s k. after_meaning failed (with_text s k.0) k.1;
  MayFail = λ s k. IsAcceptedEdit s.desk k.1;
}

session_of_keys : (failures : List (Option ℕ)) (s : Session DeskState) (xs : List CrewEntry)
    → after_each crew_answering failures s xs ≡ after_each by_keys failures s (map key_of xs)
session_of_keys failures s [] = refl
session_of_keys [] s (x ∷ xs) = session_of_keys [] (after_entry None s x) xs
session_of_keys (failed ∷ failures) s (x ∷ xs) = session_of_keys failures (after_entry failed s x) xs

names_of_keys : (xs : List CrewEntry) → flat_map op_text xs ≡ flat_map (λ (k : Key). k.0) (map key_of xs)
names_of_keys [] = refl
names_of_keys (x ∷ xs) = ap (λ v. op_text x ++ v) (names_of_keys xs)

session_alike : (failures : List (Option ℕ)) (s : Session DeskState) (xs ys : List CrewEntry) → Alike xs ys
    → after_each crew_answering failures s xs ≡ after_each crew_answering failures s ys
session_alike failures s xs ys alike =
    session_of_keys failures s xs ∙ ap (after_each by_keys failures s) alike ∙ sym (session_of_keys failures s ys)

pub allows_alike : (failures : List (Option ℕ)) (s : Session DeskState) (xs ys : List CrewEntry) → Alike xs ys
    → AreAllowed crew_answering failures s xs → AreAllowed crew_answering failures s ys
allows_alike [] s xs ys alike a = tt
allows_alike (failed ∷ failures) s xs [] alike a = tt
allows_alike (failed ∷ failures) s [] (y ∷ ys) alike a = absurd cc
allows_alike (failed ∷ failures) s (x ∷ xs) (y ∷ ys) alike a =
    let key : key_of x ≡ key_of y = cc in
    let rest : Alike xs ys = cc in (
      subst (λ (k : Key). IfSome failed (λ attempt. IsAcceptedEdit s.state.desk k.1)) key a.0,
      allows_alike failures (after_entry failed s y) xs ys rest
          (subst (λ (k : Key). AreAllowed crew_answering failures (after_meaning failed (with_text s k.0) k.1) xs) key a.1),
    )

-- So are those of all of them but the last, and the last.
before-map : {A B : Type 0} (f : A → B) (xs : List A) → all_but_last (map f xs) ≡ map f (all_but_last xs)
before-map f xs = ap (λ n. take (n - 1) (map f xs)) (length-map xs f) ∙ take-map f (length xs - 1) xs

alone-map : {A B : Type 0} (f : A → B) (xs : List A) → last_alone (map f xs) ≡ map f (last_alone xs)
alone-map f xs = ap (λ n. drop (n - 1) (map f xs)) (length-map xs f) ∙ drop-map f (length xs - 1) xs

-- Entries that are alike have the same sessions.
module _ (d : Desk) (failures : List (Option ℕ)) (xs ys : List CrewEntry) (alike : Alike xs ys) where
  pub same_session : crew_session d xs failures ≡ crew_session d ys failures
  same_session = session_alike failures (begin_at (begun d)) xs ys alike

  pub same_before : crew_session d (all_but_last xs) failures ≡ crew_session d (all_but_last ys) failures
  same_before = session_alike failures (begin_at (begun d)) (all_but_last xs) (all_but_last ys)
      (sym (before-map key_of xs) ∙ ap (λ (ks : List Key). all_but_last ks) alike ∙ before-map key_of ys)

  pub same_name : text_to_last_name d xs failures ≡ text_to_last_name d ys failures
  same_name =
      let alone = sym (alone-map key_of xs) ∙ ap (λ (ks : List Key). last_alone ks) alike ∙ alone-map key_of ys in
      let names = names_of_keys (last_alone xs) ∙ ap (flat_map (λ (k : Key). k.0)) alone ∙ sym (names_of_keys (last_alone ys)) in
      λ i. (same_before i).text ++ names i

-- Only the texts of lines that are too long differ, which are bad.
alike_more : (lines : ℕ → List (List ℕ)) (e : Message) (sent : Sent) (rest : List CrewEntry) (more : List Message)
    → (is_last sent ≡ false → HasText sent (own_text lines e)) → Alike rest (map (own_entry lines) more)
    → Alike (entries_of e.place e.number sent ++ rest) (map (own_entry lines) (cond (not (is_last sent)) (e ∷ more) more))
alike_more lines e (Line l) rest more t alike = λ i. (op_text (named_line e.place e.number []), line_of (t refl i)) ∷ alike i
alike_more lines e LongLine rest more t alike =
    let means = long_means ∙ meaning_is None (own_text lines e) (t refl) in
    λ i. (op_text (named_line e.place e.number []), means i) ∷ alike i
alike_more lines e End rest more t alike = alike
alike_more lines e ReadFault rest more t alike = alike
alike_more lines e InputTooLong rest more t alike = alike

pub alike_said : (lines : ℕ → List (List ℕ)) (es : List Message) → AllByRecursion (IsTrueTo lines) es → Alike (said es) (true_entries lines es)
alike_said lines [] all = refl
alike_said lines (e ∷ es) all = alike_more lines e e.sent (said es) (lines_in es) all.0 (alike_said lines es all.1)

-- What holds of each operator's entries holds of all.
behind : (P : Message → Type 0) (e : Message) (rest : List Message) (b : Bool) → AllByRecursion P (cond b (e ∷ rest) rest) → AllByRecursion P rest
behind P e rest true h = h.1
behind P e rest false h = h

all_of_all : (P : Message → Type 0) (es : List Message) → ((place : ℕ) → AllByRecursion P (of_place place es)) → AllByRecursion P es
all_of_all P [] h = tt
all_of_all P (e ∷ es) h =
    let mine = rw (eq-eqb e.place e.place refl) at (h e.place) in
    (mine.0, all_of_all P es (λ place. behind P e (of_place place es) (e.place == place) (h place)))

pub all_front : (P : Message → Type 0) (es rest : List Message) → AllByRecursion P (es ++ rest) → AllByRecursion P es
all_front P [] rest all = tt
all_front P (e ∷ es) rest all = (all.0, all_front P es rest all.1)

-- An operator's entries of the transcript are those of its place.
same_place : (a b : ℕ) → (a + 1 == b + 1) ≡ (a == b)
same_place a b = grind (arith, nat_tests)

operator_true : (lines : ℕ → List (List ℕ)) (k : ℕ) (es : List Message)
    → of_operator (k + 1) (true_entries lines es) ≡ true_entries lines (of_place k es)
operator_true lines k [] = refl
operator_true lines k (e ∷ es) = elim (cases_Bool (is_last e.sent)) [
  | inl last ↦ elim (cases_Bool (e.place == k)) [
    | inl mine ↦ simp (last, mine) (operator_true lines k es)
    | inr other ↦ simp (last, other) (operator_true lines k es)
  ]
  | inr line ↦ elim (cases_Bool (e.place == k)) [
    | inl mine ↦ simp (line, mine, same_place) (ap (λ rest. own_entry lines e ∷ rest) (operator_true lines k es))
    | inr other ↦ simp (line, other, same_place) (operator_true lines k es)
  ]
]

-- Operators are numbered from 1.
none_of_0 : (lines : ℕ → List (List ℕ)) (es : List Message) → of_operator 0 (map (own_entry lines) es) ≡ []
none_of_0 lines [] = refl
none_of_0 lines (e ∷ es) = let other : (e.place + 1 == 0) ≡ false = grind (arith, nat_tests) in rw other (none_of_0 lines es)

-- An operator's entries with its lines, from one on.
at_drop : (xs : List (List ℕ)) (m : ℕ) (l : List ℕ) (ls : List (List ℕ)) → drop m xs ≡ l ∷ ls
    → (get_or xs m [] ≡ l) × (drop (m + 1) xs ≡ ls)
at_drop xs m l ls e =
    let within : m < length xs = omega (arith, ap length e, length-drop m xs) in
    let both : get_or xs m [] ∷ drop (suc m) xs ≡ l ∷ ls = sym (drop-cons xs m [] within) ∙ e in
    let rest : drop (suc m) xs ≡ ls = cc in
    (cc, ap (λ n. drop n xs) (add-one m) ∙ rest)

-- each has its own text, and they stand for the lines
own_lines : (lines : ℕ → List (List ℕ)) (k m : ℕ) (es : List Message) (ls : List (List ℕ)) → HaveLines k (m + 1) es ls → drop m (lines k) ≡ ls
    → AllByRecursion (IsTrueTo lines) es × (true_entries lines es ≡ numbered_from (k + 1) (m + 1) ls)
own_lines lines k m [] [] h is = (tt, refl)
own_lines lines k m [] (l ∷ ls) h is = absurd h
own_lines lines k m (e ∷ es) [] h is = absurd h
own_lines lines k m (e ∷ es) (l ∷ ls) h is =
    let at = at_drop (lines k) m l ls is in
    let place : e.number - 1 ≡ m = omega (arith, h.1.0) in
    let text : own_text lines e ≡ l = (λ i. get_or (lines (h.0 i)) (place i) []) ∙ at.0 in
    let more = own_lines lines k (m + 1) es ls h.1.1.1 at.1 in (
      ((λ line. subst (HasText e.sent) (sym text) h.1.1.0), more.0),
      rw (text_not_last e.sent l h.1.1.0) (λ i. named_line (h.0 i) (h.1.0 i) (text i) ∷ more.1 i),
    )

-- The entries of the operator at a place are those of all its lines, and then its last, which has none.
pub record AllSent (k : ℕ) (es : List Message) (ls : List (List ℕ)) : Type 0 where
  pub front : List Message
  pub last : Message
  pub are : es ≡ front ++ last ∷ []
  pub have : HaveLines k 1 front ls
  pub ends : is_last last.sent ≡ true

-- or it has no entries and no lines
abbrev pub SentAt : (ℕ → List (List ℕ)) → ℕ → List Message → Type 0
SentAt lines k es = AllSent k es (lines k) ⊎ ((es ≡ []) × (lines k ≡ []))

true-append : (lines : ℕ → List (List ℕ)) (xs ys : List Message) → true_entries lines (xs ++ ys) ≡ true_entries lines xs ++ true_entries lines ys
true-append lines xs ys = ap (map (own_entry lines)) (filter-append (λ (e : Message). not (is_last e.sent)) xs ys)
    ∙ map-append (own_entry lines) (lines_in xs) (lines_in ys)

-- all entries of an operator have their own texts, and stand for all its lines
own_all : (lines : ℕ → List (List ℕ)) (k : ℕ) (es : List Message) → SentAt lines k es
    → AllByRecursion (IsTrueTo lines) es × (true_entries lines es ≡ numbered_from (k + 1) 1 (lines k))
own_all lines k es (inl a) =
    let own = own_lines lines k 0 a.front (lines k) a.have refl in
    let end : true_entries lines (a.last ∷ []) ≡ [] = rw a.ends refl in (
      subst (AllByRecursion (IsTrueTo lines)) (sym a.are)
          (all_append (IsTrueTo lines) a.front (a.last ∷ []) own.0 ((λ line. absurd (true≢false (sym a.ends ∙ line))), tt)),
      ap (true_entries lines) a.are ∙ true-append lines a.front (a.last ∷ [])
          ∙ ap (λ more. true_entries lines a.front ++ more) end ∙ append-nil (true_entries lines a.front) ∙ own.1,
    )
own_all lines k es (inr n) = (
  subst (AllByRecursion (IsTrueTo lines)) (sym n.0) tt,
  ap (true_entries lines) n.0 ∙ ap (numbered_from (k + 1) 1) (sym n.1),
)

pub all_true : (lines : ℕ → List (List ℕ)) (es : List Message) → ((k : ℕ) → SentAt lines k (of_place k es))
    → AllByRecursion (IsTrueTo lines) es
all_true lines es sent = all_of_all (IsTrueTo lines) es (λ k. (own_all lines k (of_place k es) (sent k)).0)

abbrev pub by_number : (ℕ → List (List ℕ)) → ℕ → List (List ℕ)
by_number lines zero = []
by_number lines (suc k) = lines k

pub merged : (lines : ℕ → List (List ℕ)) (es : List Message) → ((k : ℕ) → SentAt lines k (of_place k es))
    → Merged (by_number lines) (true_entries lines es)
merged lines es sent zero = none_of_0 lines (lines_in es)
merged lines es sent (suc k) =
    subst (λ o. of_operator o (true_entries lines es) ≡ numbered_from o 1 (lines k)) (add-one k)
    (operator_true lines k es ∙ (own_all lines k (of_place k es) (sent k)).1)

-- The first entries stand for each operator's first lines.
numbered_take : (n operator m : ℕ) (ls : List (List ℕ)) → take n (numbered_from operator m ls) ≡ numbered_from operator m (take n ls)
numbered_take zero operator m ls = refl
numbered_take (suc n) operator m [] = refl
numbered_take (suc n) operator m (l ∷ ls) = λ i. record { operator = operator; number = m; line = l } ∷ numbered_take n operator (m + 1) ls i

pub merged_so_far : (lines : ℕ → List (List ℕ)) (es first rest : List Message) → ((k : ℕ) → SentAt lines k (of_place k es))
    → es ≡ first ++ rest → MergedSoFar (by_number lines) (true_entries lines first)
merged_so_far lines es first rest sent are operator =
    let xs = of_operator operator (true_entries lines first) in
    let both = ap (λ zs. of_operator operator (true_entries lines zs)) are ∙ ap (of_operator operator) (true-append lines first rest)
    ∙ filter-append (λ (e : CrewEntry). e.operator == operator) (true_entries lines first) (true_entries lines rest) in (
      length xs,
      sym (take-append_seam xs (of_operator operator (true_entries lines rest)))
          ∙ ap (take (length xs)) (sym both ∙ merged lines es sent operator) ∙ numbered_take (length xs) operator 1 (by_number lines operator),
    )
