-- What the proofs of this crate import from its specs and from other crates. It declares nothing.
pub use Rattle.std.proofs.Common.{[], ℕ, ◌%◌, ◌*◌, ◌++◌, ◌+◌, ◌-◌, ◌/◌, ◌<◌, ◌==◌, ◌∙◌, ◌∷◌, ◌≡◌, ◌≤◌}
pub use Rattle.std.proofs.Common.{◌⊎◌, ap, append-nil, append_assoc, arith, Bool, codes, cond, decimal, drop, eqb, false, filter, find, flat_map, get_or}
pub use Rattle.std.proofs.Common.{IfSome, if◌then◌else◌, inl, inr, le-ltb, length, length-drop, length-take, List, map, nat_lt, None, not, Ok, Option}
pub use Rattle.std.proofs.Common.{option_and_then, option_map, refl, slice_range, Some, subst, suc, sym, take, take-append-drop, take-take, take_all, true}
pub use Rattle.itoa.proofs.Decimal.{decimal_pair, decimal_two, length_one, length_two, pair}
pub use Rattle.lx_base.specs.declared.TheConstants.{LINE_BYTES}
pub use Rattle.lx_io.proofs.Chain.{Puts-is, Puts-stops, Puts-then}
pub use Rattle.lx_lex.proofs.Decimals.{length_four, length_three}
pub use Rattle.lx_lex.proofs.LineCuts.{after_all-no, before_first-no, goes, next-token, take-after_all, take_while-yes}
pub use Rattle.lx_lex.specs.Left.{left}
pub use Rattle.lx_lex.specs.WordTable.{looked_up}
pub use Rattle.lx_script.specs.Cells.{cell_text, cells_from}
pub use Rattle.lx_script.specs.FirstWords.{first_words, sentence_of}
pub use Rattle.lx_script.specs.LinesWithUndo.{IsReadOf, IsValidWithUndo}
pub use Rattle.lx_script.specs.ReplyTexts.{count_words}
pub use Rattle.lx_script.specs.declared.first_word.FirstWord.{FirstWord}
pub use Rattle.lx_script.specs.declared.rows.TheConstants.{COUNTS, LEVELS, NUMBERS, PAIRS}
pub use Rattle.lx_spec.proofs.Comparisons.{eq_true, lt_false, lt_true}
pub use Rattle.lx_spec.proofs.ValidLines.{line_of-valid}
pub use Rattle.lx_spec.specs.Phrase.{optional, Tokens, word}
pub use Rattle.lx_spec.specs.Replies.{cells, frame_text}
pub use Rattle.lx_spec.specs.Script.{line_of, meaning, time_edit}
pub use Rattle.lx_spec.specs.Text.{after_all, begins_comment, is_separator, is_word, tokens}
pub use Rattle.lx_spec.specs.UndoSession.{undo_meaning}
pub use Rattle.lx_spec.specs.ValidEdit.{ValidLine}
pub use Rattle.lx_spec.specs.declared.Line.{Line}
pub use Rattle.std.proofs.lemmas.Bool.{cases_Bool, cases_lt}
pub use Rattle.std.proofs.lemmas.Bool.Decides.{Decides-eqb, nat_tests}
pub use Rattle.std.proofs.lemmas.Fmt.{decimal_digit, length-decimal-le}
pub use Rattle.std.proofs.lemmas.List.{length-map, take_more}
pub use Rattle.std.proofs.lemmas.Slice.Eq.{bytes_eq-Decides, starts_is}
pub use Rattle.std.specs.Char.{to_ascii_uppercase}
pub use Rattle.std.specs.List.{enumerate_from, range_with_len, starts_with, take_while}
pub use Rattle.std.specs.Str.{bytes_eq, str_to_ascii_uppercase}
