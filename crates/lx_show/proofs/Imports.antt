-- What the proofs of this crate import from its specs and from other crates. It declares nothing.
pub use Rattle.std.proofs.Common.{[], ℕ, ◌&&◌, ◌++◌, ◌+◌, ◌-◌, ◌<◌, ◌==◌, ◌||◌, ◌∙◌, ◌∷◌, ◌≡◌, ◌≤◌, add-one, ap, append-nil, append_assoc, arith}
pub use Rattle.std.proofs.Common.{Bool, Bor, cond, drop, false, filter, find, get_or, get_or-drop, get_or-take, IfSome, inl, inr, insert, IsTrue}
pub use Rattle.std.proofs.Common.{length, length-drop, length-take, List, lit<, map, nat_le, nat_lt, None, not, Option, option_to_list, refl, remove}
pub use Rattle.std.proofs.Common.{reverse, rules, set, slice_get, Some, subst, sym, take, take-append-drop, take_all, true, vec_capacity}
pub use Rattle.lx_base.specs.declared.TheConstants.{CHANNELS, CUE_MAX, CUES, PARTS}
pub use Rattle.lx_show.specs.ChangedEntry.{changed, exchanged_at}
pub use Rattle.lx_show.specs.Indexes.{GoesAt, StandsAt}
pub use Rattle.lx_show.specs.StoredShow.{IsStored}
pub use Rattle.lx_spec.proofs.Comparisons.{eq_above, eq_below, eq_from, eq_other, eq_true, le_false, le_from, le_true, lt_false, lt_from, lt_true}
pub use Rattle.lx_spec.proofs.Lists.{all_append, all_reverse, each, filter_none, find_both_last, find_first, find_last, find_none, found_has, kept_by}
pub use Rattle.lx_spec.proofs.Lists.{lent_has, none_differs, shorter, take_with, written_back}
pub use Rattle.lx_spec.proofs.SortedLists.{above_seam, All-placed, all_below, below_and_above, below_seam, few_in_range, found_number, found_valid}
pub use Rattle.lx_spec.proofs.SortedLists.{goes_between, has_placed, in_order, IsStrictlySorted-drop, IsStrictlySorted-filter, IsStrictlySorted-map}
pub use Rattle.lx_spec.proofs.SortedLists.{IsStrictlySorted-placed, length-placed, length-placed_there, none_below, seam, stands_between}
pub use Rattle.lx_spec.specs.EditedShow.{out_of_part}
pub use Rattle.lx_spec.specs.Show.{Cue, InRange, IsLabel, IsLevel, IsTime, Show, Valid, ValidCue, ValidGroup, ValidMember, ValidMembers, ValidMove}
pub use Rattle.lx_spec.specs.Show.{ValidPart, ValidPatchRow, ValidSub}
pub use Rattle.lx_spec.specs.SortedList.{all_placed, entries_above, entries_below, entry_at, has_entry, IsStrictlySorted, placed, taken_out}
pub use Rattle.lx_spec.specs.TrackedLevel.{cue_of, decides}
pub use Rattle.lx_spec.specs.declared.Member.{Member}
pub use Rattle.lx_spec.specs.declared.Move.{Move}
pub use Rattle.lx_spec.specs.declared.Part.{Part}
pub use Rattle.std.proofs.Math.ListN.{length-set}
pub use Rattle.std.proofs.lemmas.Bool.{cases_Bool, cases_eq, cases_lt, cases_order, leb-false}
pub use Rattle.std.proofs.lemmas.List.{drop_more, get_or_default, length-map, set_split, with_items_is}
pub use Rattle.std.proofs.lemmas.List.Edits.{length-insert}
pub use Rattle.std.proofs.lemmas.Option.{slice_get-get_or, slice_get_read}
pub use Rattle.std.specs.List.{AllByRecursion}
pub use Rattle.std.specs.Option.{option_copied, option_map_or}
