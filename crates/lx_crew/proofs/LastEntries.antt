-- The last of the entries of a transcript, and those before it.
use Rattle.lx_crew.proofs.Imports.{◌≡◌, ℕ, ◌-◌, Option, None, List, [], ◌∷◌, ◌++◌, length, take, drop, sym, ap, ◌∙◌}
use Rattle.lx_crew.proofs.Imports.{subst}
use Rattle.lx_crew.proofs.Imports.{append-nil, append_assoc, arith, length-append, take-append-drop, Appends, AppendsAtLeast}
use Rattle.lx_crew.proofs.Imports.{CrewEntry, op_text, named, after_entry, crew_answering, crew_session, crew_text, Desk, line_of, Session}
use Rattle.lx_crew.proofs.Imports.{begin_at, after_each, DeskState, begun, extends_line, IsDoneWithEntries, all_but_last, last_alone}
use Rattle.lx_crew.proofs.Imports.{text_to_last_name, ◌≤◌}
use Rattle.std.proofs.lemmas.List.{drop_at, length-drop}
use Rattle.std.specs.Prelude.{flat_map}
use Rattle.lx_session.proofs.EachLine.{each-before, each-split}

-- a text was appended that begins so
pub at_least : (a b : Option (List ℕ)) (text more whole : List ℕ) → whole ≡ text ++ more → Appends a b whole → AppendsAtLeast a b text
at_least a b text more whole is p = (more, subst (λ (v : List ℕ). Appends a b v) is p)

-- at least a text and another is at least the text
pub at_least_first : (a b : Option (List ℕ)) (text other : List ℕ) → AppendsAtLeast a b (text ++ other) → AppendsAtLeast a b text
at_least_first a b text other p = at_least a b text (other ++ p.0) ((text ++ other) ++ p.0) (append_assoc text other p.0) p.1

-- of a list with one more at its end
one_alone : {A : Type 0} (xs : List A) (x : A) → last_alone (xs ++ x ∷ []) ≡ x ∷ []
one_alone xs x = drop_at xs (x ∷ []) (length (xs ++ x ∷ []) - 1) (omega (arith, length-append xs (x ∷ [])))

-- What is told of one entry more changes nothing of the session before it.
module _ {refusals refusals' : ℕ} {d : Desk} {entries : List CrewEntry} {failures : List (Option ℕ)} {now : Session DeskState}
    (more : List (Option ℕ)) (e : CrewEntry) (done : IsDoneWithEntries refusals refusals' d entries failures now) where
  pub session_before : crew_session d (all_but_last (entries ++ e ∷ [])) (failures ++ more) ≡ now
  session_before = each-before crew_answering failures more (begin_at (begun d)) entries e done.each ∙ done.is

  pub text_before : text_to_last_name d (entries ++ e ∷ []) (failures ++ more) ≡ now.text ++ op_text e
  text_before = ap (λ s. s.text ++ flat_map op_text (last_alone (entries ++ e ∷ []))) session_before
      ∙ ap (λ es. now.text ++ flat_map op_text es) (one_alone entries e) ∙ ap (λ v. now.text ++ v) (append-nil (op_text e))

-- The whole text begins with that up to the last name.
begins_one : (failed : Option ℕ) (s : Session DeskState) (e : CrewEntry)
    → (more : List ℕ) × ((after_entry failed s e).text ≡ (s.text ++ flat_map op_text (e ∷ [])) ++ more)
begins_one failed s e =
    let more = extends_line failed (named s e) (line_of e.line) in
    (more.more, more.text ∙ ap (λ v. (s.text ++ v) ++ more.more) (sym (append-nil (op_text e))))

begins_so : (failures : List (Option ℕ)) (s : Session DeskState) (alone : List CrewEntry) → length alone ≤ 1
    → (more : List ℕ) × ((after_each crew_answering failures s alone).text ≡ (s.text ++ flat_map op_text alone) ++ more)
begins_so failures s [] few = ([], sym (append-nil (s.text ++ []) ∙ append-nil s.text))
begins_so [] s (e ∷ []) few = begins_one None s e
begins_so (f ∷ fs) s (e ∷ []) few = begins_one f s e
begins_so failures s (x ∷ y ∷ es) few = absurd (omega (arith, few))

-- so where it was written whole, that was
pub names_written : (d : Desk) (entries : List CrewEntry) (failures : List (Option ℕ)) (h h' : Option (List ℕ))
    → Appends h h' (crew_text d entries failures) → AppendsAtLeast h h' (text_to_last_name d entries failures)
names_written d entries failures h h' p =
    let n : ℕ = length entries - 1 in
    let split = each-split crew_answering failures (begin_at (begun d)) (take n entries) (drop n entries) in
    let b = begins_so split.0 (crew_session d (take n entries) failures) (drop n entries) (omega (arith, length-drop n entries)) in
    let text = ap (λ s. s.text) (ap (after_each crew_answering failures (begin_at (begun d))) (sym (take-append-drop n entries)) ∙ split.1) in
    at_least h h' (text_to_last_name d entries failures) b.0 (crew_text d entries failures) (text ∙ b.1) p
