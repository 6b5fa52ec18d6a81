-- How a loop over `advance` begins and goes on.
use Rattle.lx_lex.proofs.Imports.{◌≡◌, ℕ, ◌+◌, true, IsTrue, List, [], ◌∷◌, ◌++◌, refl, ◌∙◌, length-append, arith, Lines}
use Rattle.lx_lex.proofs.Imports.{LineBetween, unread, ToldBySource}
use Rattle.lx_lex.specs.LinesHandedOut.{HandedOut}
use Rattle.lx_lex.proofs.TakenLines.{no_line, one_line, then_lines}

-- no line yet
pub handed_none : {S : Type 0} (told : ToldBySource S) (a : Lines S) → IsTrue a.going → HandedOut told a a []
handed_none told a going = record {
  took = no_line (unread told a) a.taken (a.fewer going);
  number = omega arith;
  going = going;
  same_reference = refl;
  kept = refl;
}

-- the line of one step
pub handed_one : {S : Type 0} (told : ToldBySource S) (a b : Lines S) (raw : List ℕ)
    → LineBetween (unread told a) (unread told b) a.taken b.taken raw → b.number ≡ a.number + 1 → b.going ≡ true
    → b.source.ghost_name ≡ a.source.ghost_name → told.faults b.source.now ≡ told.faults a.source.now → HandedOut told a b (raw ∷ [])
handed_one told a b raw took number going same kept = record {
  took = one_line (unread told a) (unread told b) took;
  number = number;
  going = going;
  same_reference = same;
  kept = kept;
}

-- first these, and then those
pub handed_then : {S : Type 0} (told : ToldBySource S) (a b c : Lines S) (raws raws' : List (List ℕ))
    → HandedOut told a b raws → HandedOut told b c raws' → HandedOut told a c (raws ++ raws')
handed_then told a b c raws raws' p q = record {
  took = then_lines (unread told a) (unread told b) (unread told c) p.took q.took;
  number = omega (arith, p.number, q.number, length-append raws raws');
  going = q.going;
  same_reference = q.same_reference ∙ p.same_reference;
  kept = q.kept ∙ p.kept;
}
