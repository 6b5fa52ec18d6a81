-- What the proofs of this crate import from its specs and from other crates. It declares nothing.
pub use Rattle.std.proofs.Common.{[], ℕ, ◌%◌, ◌&&◌, ◌*◌, ◌++◌, ◌+◌, ◌-◌, ◌/◌, ◌<◌, ◌==◌, ◌^◌, ◌||◌, ◌↔◌}
pub use Rattle.std.proofs.Common.{◌∙◌, ◌∷◌, ◌≡◌, ◌≢◌, ◌≤◌, ◌⊎◌, add-one, ap, append-nil, append_assoc, arith, Bool, codes}
pub use Rattle.std.proofs.Common.{cond, count_by, decimal, drop, drop-drop, eq-eqb, eqb, eqb-true, false, filter, get_or, get_or-drop, get_or-take, IfSome, inl}
pub use Rattle.std.proofs.Common.{inr, IsTrue, length, length-append, length-drop, length-take, List, lt-ltb, map, min, nat_le, nat_lt, ne_eqb, None, not}
pub use Rattle.std.proofs.Common.{pow-add, refl, replicate, rules, set, slice_range, Some, subst, suc, sym, take, take_all, true, unwrap_or, w8, zero, zero-add}
pub use Rattle.itoa.proofs.Decimal.{decimal_pair, decimal_two, length_four, length_one, length_pair, length_two, pair}
pub use Rattle.lx_base.specs.declared.TheConstants.{CUE_UNIT, INPUT_BYTES, LINE_BYTES}
pub use Rattle.lx_lex.specs.Lines.{BytesBetween, EndOf, EndsInFeed, feed_of, HasStepCause, LineBetween, LinesBetween, ReadsWhileUnfed, StepOf}
pub use Rattle.lx_lex.specs.PlainNumber.{BeginsWithDigits, EndsToken, FirstIsLevel, FirstIsNumber}
pub use Rattle.lx_lex.specs.Unread.{current_line, has_feed, held, unread}
pub use Rattle.lx_lex.specs.declared.lines.Lines.{Lines}
pub use Rattle.lx_lex.specs.declared.lines.Step.{Step}
pub use Rattle.lx_lex.specs.declared.lines.Step.TheVariants.{InputTooLong, Line, LongLine, ReadFault}
pub use Rattle.lx_spec.proofs.Comparisons.{eq_from, lt_false, lt_true}
pub use Rattle.lx_spec.specs.CutInput.{CutOff, feeds, first_lines, HasNoFeed}
pub use Rattle.lx_spec.specs.Numerals.{decimals, decimals_of, hex_pair, hex_value, is_digit, is_number, is_point, number_of}
pub use Rattle.lx_spec.specs.Text.{after_all, after_tokens, begins_comment, cut_lines, is_blank, is_filled, is_separator, lines_of, tokens, without_cr}
pub use Rattle.memchr.specs.Find.{is_byte, IsFirstByte, Nowhere, Passes}
pub use Rattle.std.proofs.KnownBytes.{Consumes-trans}
pub use Rattle.std.proofs.Math.Nat.{div-div-eq-div-mul, div-eq_of_lt, le-div_iff_mul-le, mod-lt, mul-div-mul_right, mul-div_cancel, mul-le-mul_right, pow-succ'}
pub use Rattle.std.proofs.Math.Seq.{drop-cons, take-add, take-append_seam}
pub use Rattle.std.proofs.lemmas.Bool.{cases_Bool, cases_eq, cases_lt, false≢true}
pub use Rattle.std.proofs.lemmas.Bool.Decides.{Decides-eqb, nat_tests, same_from_decides}
pub use Rattle.std.proofs.lemmas.Fmt.{decimal_digit, length-decimal-le}
pub use Rattle.std.proofs.lemmas.Grind.{common_steps, fold-append}
pub use Rattle.std.proofs.lemmas.List.{drop_all, drop_more, map-append, nil_from_length, take_more_set}
pub use Rattle.std.proofs.lemmas.List.Folds.{list_all-append, list_all_more, list_any_at}
pub use Rattle.std.proofs.lemmas.List.FromFn.{get_or-map-range_with_len}
pub use Rattle.std.proofs.lemmas.List.Sums.{fold_more, sum_by-append}
pub use Rattle.std.proofs.lemmas.Slice.Eq.{bytes_eq-Decides, starts_is}
pub use Rattle.std.specs.Io.KnownBytes.{Consumes, IsAtEnd, prepend_known}
pub use Rattle.std.specs.List.{after_first, before_first, list_all, list_any, onto_first, position, position_or_len, prefix_len, range_with_len, slice_split}
pub use Rattle.std.specs.List.{starts_with, take_while}
pub use Rattle.std.specs.declared.option.Option.{Option}
pub use lib.Count.{count_trailing_zeros}
pub use Rattle.lx_io.specs.Told.{ToldBySource}
