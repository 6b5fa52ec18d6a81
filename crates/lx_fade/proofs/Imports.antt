-- What the proofs of this crate import from its specs and from other crates. It declares nothing.
pub use Rattle.std.proofs.Common.{[], ℕ, ◌*◌, ◌++◌, ◌+◌, ◌-◌, ◌<◌, ◌∙◌, ◌∷◌, ◌≡◌, ◌≤◌, ap, arith, Bool, cond}
pub use Rattle.std.proofs.Common.{drop, false, get_or, inl, inr, length, List, nat_lt, refl, reverse, slice_set, subst, suc, sym, take, true, zero}
pub use Rattle.lx_fade.specs.Fades.{begun_by, Fade, fade_at, pushed, stack_at, StartsFall}
pub use Rattle.lx_fade.specs.Row.{no_fade, stack_column, stack_in}
pub use Rattle.lx_spec.specs.Level.{fade_over, faded, last_cue, level}
pub use Rattle.std.proofs.lemmas.Bool.Decides.{nat_tests}
pub use Rattle.std.proofs.lemmas.Grind.{common_steps}
