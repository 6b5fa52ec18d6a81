-- What the contracts import, of this crate and of others. Nothing is defined here.
pub use Rattle.std.specs.List.{AllByRecursion}
pub use Rattle.std.specs.Str.{str_to_ascii_uppercase}
pub use Rattle.std.specs.Result.{IsOkAnd}
pub use Rattle.lx_lex.specs.Left.{left}
pub use Rattle.lx_lex.specs.PlainNumber.{FirstIsLevel, FirstIsNumber}
pub use Rattle.lx_io.specs.Causes.{HasCause, HasCauseOf, Rose}
pub use Rattle.lx_spec.specs.Looks.{by_form}
pub use Rattle.lx_spec.specs.SortedList.{placed, IsStrictlySorted, has_entry, entry_at}
pub use Rattle.lx_spec.specs.Show.{Cue, Valid, IsTime, ValidCue, ValidGroup, ValidSub, InRange, ValidPart}
pub use Rattle.lx_spec.specs.TrackedLevel.{level_in}
pub use Rattle.lx_spec.specs.Limits.{desk_limits}
pub use Rattle.lx_spec.specs.Numerals.{read_cue_no, read_time, read_whole}
pub use Rattle.lx_spec.specs.Fields.{delay_at, is_page_one, number, levels}
pub use Rattle.lx_spec.specs.LineRules.{is_next, entry_by_word, entry_of, inner_entry, is_makers_line, cue_entry, members_entry}
pub use Rattle.lx_spec.specs.FirstWord.{is_inner, dollar_word, word_of}
pub use Rattle.lx_spec.specs.Text.{tokens}
pub use Rattle.lx_show.specs.ChangedEntry.{changed}
pub use Rattle.lx_reader.specs.FieldLists.{FirstIsMember, FirstIsRow, IsNext, TakesSome, fault_in, all_pairs, all_triples, token_fault}
pub use Rattle.lx_reader.specs.FieldLists.{FirstIsPage, next_number, next_times, record_number, FirstIsWord}
pub use Rattle.lx_reader.specs.LookMoves.{last_look, look_move, moves_up_to, with_look}
pub use Rattle.lx_reader.specs.LineFaults.{IsFaultOf}
pub use Rattle.lx_reader.specs.ReadingState.{cue_with_entry, with_set, final_reading, with_rows, with_down, part_with_entry, with_up}
pub use Rattle.lx_reader.specs.Settled.{CueFits, OpenFits, SetFits, is_open, with_open, PassFits, settled, IsBetween, IsReady, is_record}
pub use Rattle.lx_reader.specs.LineOutcome.{CanGoOn, facts_of, Outcome, state_of, Said, is_known, is_outer, new_reader}
pub use Rattle.lx_reader.specs.Answer.{AnswerOf, IsLoaded, TurnOf, reading_of}
pub use Rattle.lx_reader.specs.LineOfCue.{is_levels, CueSays, HasParts, LabelSays, facts_at}
