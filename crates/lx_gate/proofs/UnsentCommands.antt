-- Unsent commands of which the history has some already.
use Rattle.lx_gate.proofs.Imports.{◌≡◌, ◌-◌, ◌≤◌, List, [], ◌∷◌, ◌++◌, length, drop, sym, ap, ◌∙◌, arith, append_assoc}
use Rattle.lx_gate.proofs.Imports.{length-append, append-nil, Command, Published, IsEntered}
use Rattle.std.proofs.Math.Seq.{drop-append_seam}
use Rattle.std.proofs.lemmas.List.{append_cancel_left}
use Rattle.lx_gate.proofs.Prefixes.{prefix_length}

-- what the history lacks of the unsent commands, after those that it has
pub entered_whole : (g : Published) (unsent : List Command) → IsEntered g unsent
    → g.entered ++ drop (length g.entered - length g.published) unsent ≡ g.published ++ unsent
entered_whole g unsent h =
    let b = h.begins.0 in
    let r = h.rest.0 in
    let tail : b ++ r ≡ unsent = append_cancel_left g.published (b ++ r) unsent
    (sym (append_assoc g.published b r) ∙ (ap (λ w. w ++ r) h.begins.1 ∙ h.rest.1)) in
    let n : length g.entered - length g.published ≡ length b = omega (arith, sym (ap length h.begins.1) ∙ length-append g.published b) in
    ap (λ w. g.entered ++ w) (ap (λ k. drop k unsent) n ∙ ap (drop (length b)) (sym tail) ∙ drop-append_seam b r) ∙ h.rest.1

-- this many of the unsent commands the history has
pub entered_known : (g : Published) (unsent : List Command) → IsEntered g unsent → length g.entered - length g.published ≤ length unsent
entered_known g unsent h = let e = prefix_length g.entered (g.published ++ unsent) h.rest in let f =
    length-append g.published unsent in omega arith

-- the history has them all, and none are published
pub entered_all : (p u e : List Command) → e ≡ p ++ u → IsEntered (record { published = p; entered = e }) u
entered_all p u e is = record { begins = (u, sym is); rest = ([], append-nil e ∙ is) }

-- all are published
pub entered_none : (p e : List Command) → e ≡ p → IsEntered (record { published = p; entered = e }) []
entered_none p e is = record { begins = ([], append-nil p ∙ sym is); rest = ([], append-nil e ∙ (is ∙ sym (append-nil p))) }

-- a further unsent command
pub entered_push : (g : Published) (unsent : List Command) (c : Command) → IsEntered g unsent → IsEntered g (unsent ++ c ∷ [])
entered_push g unsent c h = record {
  begins = h.begins;
  rest = (
    h.rest.0 ++ c ∷ [],
    sym (append_assoc g.entered h.rest.0 (c ∷ []))
        ∙ (ap (λ w. w ++ c ∷ []) h.rest.1 ∙ append_assoc g.published unsent (c ∷ [])),
  );
}
