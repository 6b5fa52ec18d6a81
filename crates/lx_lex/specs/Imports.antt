-- What the contracts import, of this crate and of others. Nothing is defined here.
pub use Rattle.std.specs.List.{list_all, list_any, before_first, after_first, position}
pub use Rattle.std.specs.Io.KnownBytes.{Consumes, IsAtEnd}
pub use Rattle.std.specs.Str.{str_to_ascii_uppercase}
pub use Rattle.lx_spec.specs.Text.{tokens, rest_after, without_cr, is_separator, after_all, is_word}
pub use Rattle.lx_spec.specs.Numerals.{is_digit, is_decimal, number_of, whole_part, decimals, is_number, decimal_text, time_text, hex_digit}
pub use Rattle.lx_spec.specs.Numerals.{level_text, hex_value, ranged, read_cue_no, read_hex, read_level, read_minutes, read_seconds}
pub use Rattle.lx_spec.specs.Numerals.{read_time, read_whole}
pub use Rattle.lx_io.specs.Causes.{HasCause}
pub use Rattle.memchr.specs.Find.{Nowhere, Passes, is_byte}
pub use Rattle.lx_io.specs.Puts.{Puts}
pub use Rattle.lx_spec.specs.Limits.{desk_limits}
pub use Rattle.lx_lex.specs.Left.{left}
pub use Rattle.lx_lex.specs.Decimals.{IsPowerOfTen, IsDecimal}
pub use Rattle.lx_lex.specs.Kept.{Keeps}
pub use Rattle.lx_lex.specs.PlainNumber.{FirstIsNumber, BeginsWithDigits, EndsToken, FirstIsLevel}
pub use Rattle.lx_lex.specs.Lines.{BytesBetween, StepOf, HasStepCause, EndOf, ReadsWhileUnfed, is_handed_out}
pub use Rattle.lx_lex.specs.Texts.{behind_text, decimals_text}
