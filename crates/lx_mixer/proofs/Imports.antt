-- What the proofs of this crate import from its specs and from other crates. It declares nothing.
pub use Rattle.std.proofs.Common.{[], ℕ, ◌%◌, ◌*◌, ◌++◌, ◌+◌, ◌-◌, ◌/◌, ◌<◌, ◌^◌, ◌∙◌, ◌∷◌, ◌≡◌, ◌≤◌}
pub use Rattle.std.proofs.Common.{ap, arith, cond, EachIndex, false, Fits, get_or, get_or-set_other, inl, inr, le-ltb, length, List, lt-ltb, ltb, map, max}
pub use Rattle.std.proofs.Common.{refl, replicate, set, slice_index, suc, sym, w16, w8, zero}
pub use Rattle.lx_base.specs.Numbers.{scaled}
pub use Rattle.lx_base.specs.Rows.{HasLanes}
pub use Rattle.lx_mixer.specs.Mix.{HasWords, IsMixed}
pub use Rattle.std.proofs.Math.ListN.{get_or-map, length-set}
pub use Rattle.std.proofs.lemmas.Bool.{cases_eq, cases_lt, cond-false, cond-true}
pub use Rattle.std.proofs.lemmas.List.{get_or-append_right, get_or_append_left, length-map}
pub use Rattle.std.proofs.lemmas.Simd.{Each1-from_get_or, Each1-get_or, Each1-zip2, Each2-splat, get_or-replicate, get_or-sel_l, get_or-zip2, get_or_narrower}
pub use Rattle.std.proofs.lemmas.Simd.{length-sel_l, length-zip2, tops_compared}
pub use lib.Lanes.{digits_l, Each1, number_l, pick_l, sel_l, top, zip2}
