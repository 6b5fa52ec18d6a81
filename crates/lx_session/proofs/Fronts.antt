-- Fronts of texts that were appended.
use Rattle.lx_session.proofs.Imports.{◌≡◌, ℕ, Option, List, [], ◌++◌, length, take, drop, sym, ap, ◌∙◌, subst, append-nil, append_assoc, take-append-drop}
use Rattle.lx_session.proofs.Imports.{Keeps, Appends, Appends-kept, Appends-nil, Appends-trans, AppendsFront, AppendsFront-is, AppendsFront-from, AppendsAtLeast}
use Rattle.std.proofs.Math.Seq.{take-append_seam}

-- nothing was appended where the bytes were kept
pub kept_appends : (a b : Option (List ℕ)) → Keeps a b → Appends a b []
kept_appends a b kept = Appends-kept a a b [] (Appends-nil a) kept

-- a front of a text was appended, where the text begins so
pub front_of : (a b : Option (List ℕ)) (front rest text : List ℕ) → text ≡ front ++ rest → Appends a b front → AppendsFront a b text
front_of a b front rest text is p = AppendsFront-from a b text (length front)
    (subst (λ (v : List ℕ). Appends a b v) (sym (ap (take (length front)) is ∙ take-append_seam front rest)) p)

pub front_whole : (a b : Option (List ℕ)) (text : List ℕ) → Appends a b text → AppendsFront a b text
front_whole a b text p = front_of a b text [] text (sym (append-nil text)) p

-- a front of a text is one of a longer text
pub front_more : (a b : Option (List ℕ)) (text more whole : List ℕ) → whole ≡ text ++ more → AppendsFront a b text → AppendsFront a b whole
front_more a b text more whole is p =
    let part = AppendsFront-is a b text p in
    front_of a b (take part.0 text) (drop part.0 text ++ more) whole
    (is ∙ ap (λ v. v ++ more) (sym (take-append-drop part.0 text)) ∙ append_assoc (take part.0 text) (drop part.0 text) more) part.1

-- a text was appended, and a front of another
pub front_then : (a b c : Option (List ℕ)) (text other : List ℕ) → Appends a b text → AppendsFront b c other → AppendsFront a c (text ++ other)
front_then a b c text other p q =
    let part = AppendsFront-is b c other q in
    front_of a c (text ++ take part.0 other) (drop part.0 other) (text ++ other)
    (ap (λ v. text ++ v) (sym (take-append-drop part.0 other)) ∙ sym (append_assoc text (take part.0 other) (drop part.0 other)))
    (Appends-trans a b c text (take part.0 other) p part.1)

pub at_least_then : (a b c : Option (List ℕ)) (text other : List ℕ) → Appends a b text → AppendsFront b c other → AppendsAtLeast a c text
at_least_then a b c text other p q =
    let part = AppendsFront-is b c other q in
    (take part.0 other, Appends-trans a b c text (take part.0 other) p part.1)
