-- The table of the levels of percentages.
use Rattle.lx_reader.proofs.Imports.{◌≡◌, ℕ, ◌<◌, refl, ap, ◌∙◌, arith, map, get_or, range_with_len}
use Rattle.std.proofs.lemmas.List.FromFn.{get_or-map-range_with_len}
use Rattle.lx_base.specs.Numbers.{percent}
use Rattle.lx_reader.specs.declared.percents.TheConstants.{PERCENTS}

percents_are : PERCENTS ≡ map percent (range_with_len 0 101)
percents_are = refl

pub percent_at : (p : ℕ) → p < 101 → get_or PERCENTS p 0 ≡ percent p
percent_at p lt = ap (λ levels. get_or levels p 0) percents_are ∙ get_or-map-range_with_len percent 0 101 p p 0 lt (omega arith)
