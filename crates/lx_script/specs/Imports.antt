-- What the contracts import, of this crate and of others. Nothing is defined here.
pub use Rattle.std.specs.Option.{option_map_or}
pub use Rattle.std.specs.Str.{str_to_ascii_uppercase}
pub use Rattle.lx_io.specs.Puts.{Puts}
pub use Rattle.lx_spec.specs.Replies.{frame_text, refused_text}
pub use Rattle.lx_spec.specs.Script.{edit, cue_edit, part_edit, delete_line, set_line, set_channels, set_group, release_line, time_line}
pub use Rattle.lx_spec.specs.Script.{time_edit, follow_line, label_line, group_line, sub_line, patch_line, unpatch_line, fader_line}
pub use Rattle.lx_spec.specs.Script.{master_line, goto_line, tick_line, frame_line, sheet_line, line_of, meaning, cue_number, time}
pub use Rattle.lx_lex.specs.Left.{left}
pub use Rattle.lx_lex.specs.WordTable.{looked_up}
pub use Rattle.lx_spec.specs.Phrase.{ended, word, value, value_or, channel, channels, at_level, in_part, only_or_end}
pub use Rattle.lx_spec.specs.Text.{tokens}
pub use Rattle.lx_spec.specs.ValidEdit.{ValidLine}
pub use Rattle.lx_base.specs.Numbers.{Span}
pub use Rattle.lx_spec.specs.Numerals.{read_whole, read_level, read_time}
pub use Rattle.lx_spec.specs.ShowText.{cue_number_text}
pub use Rattle.lx_spec.specs.TwoLists.{where_of_second, is_of_second, commands_second}
pub use Rattle.lx_spec.specs.UndoSession.{undo_meaning, record_line, undo_fault_text}
pub use Rattle.lx_script.specs.FirstWords.{first_words, sentence_of}
pub use Rattle.lx_script.specs.ReplyTexts.{count_words, reply_text}
pub use Rattle.lx_script.specs.LoneKeys.{lone_key}
pub use Rattle.lx_script.specs.UndoLines.{NamesCue, is_other_letter}
pub use Rattle.lx_script.specs.LinesWithUndo.{IsReadWithUndo, IsValidWithUndo, MeansWithUndo}
