-- What the proofs of this crate import from its specs and from other crates. It declares nothing.
pub use Rattle.std.proofs.Common.{[], ℕ, ◌++◌, ◌<◌, ◌∙◌, ◌∷◌, ◌≡◌, ◌⊎◌, ap, arith, Bool, false, inl, inr, is_some, length, List, lit<}
pub use Rattle.std.proofs.Common.{refl, rules, subst, sym, T, true}
pub use Rattle.lx_embed.specs.declared.desk.HostDesk.{HostDesk}
pub use Rattle.lx_host.specs.Calls.{Refused, HandsOutFrame, ShowsFrame, TellsChange}
pub use Rattle.lx_host.specs.Handle.{boxed, handle_owns}
pub use Rattle.lx_spec.specs.declared.Form.{Form}
pub use Rattle.std.proofs.BoxSteps.Form.{τ, args, B, box_ty, box_typed, Bx, D, P, R, word}
pub use Rattle.std.proofs.BoxSteps.Steps.{box_in, box_out}
pub use Rattle.std.proofs.alloc.Calls.{Goes-blank, handle_tells, token}
pub use Rattle.std.specs.Box.Ownership.{box_owns}
pub use Rattle.std.specs.declared.option.Option.{Option}
pub use Rattle.std.specs.declared.option.Option.TheVariants.{None, Some}
pub use base.Fml.{flft, fsep, ftrue}
pub use base.Fraction.{full_share}
pub use base.Logic.{emp, ent, fst∗, id⊢, never, SProp}
pub use contract.BorrowLft.{◌⊑◌}
pub use contract.Monad.{fact, Fun}
pub use contract.Running.{tables}
pub use denote.Exit.{Exit, hidden, leaves, no, unchanged, under, yes}
pub use denote.Memory.{lone, part_at}
pub use denote.RattleType.{RattleType, Valss}
pub use denote.RawPtr.{block_ptr, in_a_block, lies_at, null_ptr, Ptr, ptr_val, RawPtr}
pub use denote.Signature.{plain, Slot, type_at}
pub use denote.Steps.{heard, nothing, only}
pub use denote.Struct.Owning.{fields, shape, to}
pub use denote.Struct.Struct.{exits_of, within}
pub use denote.Triple.Call.{calls_at, calls_at_last}
pub use denote.Triple.Clauses.{Clauses, Ended}
pub use denote.Triple.Spec.{triple_of}
pub use denote.Triple.Statement.{Contract, Triple}
pub use denote.Triple.Table.{entered}
pub use denote.Triple.Walked.{ends_at, Goes-dropped, says, stay_dropped, Stays, walk_Meets, walk_of}
pub use mir.MapTy.{inst_fn}
pub use mir.Syntax.{a_type, Args, assign, Body, copy, dcons, Dict, dnil, Fn, impl, place, return, rv_opd, seq, tnil}
pub use mir.Val.{has_ty, of_list, Val, vcons, vnil, vptr, vstruct, WT}
pub use prog.Memory.{Memory}
pub use prog.Routine.{Routine}
pub use prog.Wp.{Tables, WpFn}
pub use seplogic.Ra.Ura.{Ura}
pub use sound.WpLaws.{fm_of, WpFn-mono}
pub use types.ByLocal.{alloc_all, env, free_all, get, get_in, lands_as, lands_last, look_at, pass_all, sets}
pub use types.Kit.{‵, !, ◌$◌, ◌∵◌, ◌⊛◌, at_ret, await, by, done, drop, feq_i, feq_l, fjoin, fpack, fpick, fsplit, Goal, Item, join, keep}
pub use types.Kit.{later, move, pick, qed, raw, rewrite, Seq, some, split, split3, Step, step, suffices, use1}
pub use types.Logic.{Logic, sem}
pub use types.Part.{agg, sub, whole}
pub use types.Run.{and_then, blocks, enter, exec, first, fld, lit, no_more, of_opd, returns, stop}
