-- What the lines mean that a source handed out.
use Rattle.std.specs.Prelude.{◌≡◌, ◌⊎◌, ℕ, ◌+◌, ◌<◌, Ok, Err, List, [], ◌∷◌, ◌++◌, map, length, take, IfSome}
use Rattle.std.specs.declared.option.Option.{Option}
use Rattle.std.specs.Io.KnownBytes.{IsAtEnd}
use Rattle.lx_base.specs.declared.TheConstants.{INPUT_BYTES}
use Rattle.lx_io.specs.Told.{ToldBySource}
use Rattle.lx_spec.specs.declared.Form.{Form}
use Rattle.lx_spec.specs.declared.Form.TheVariants.{Moves}
use Rattle.lx_spec.specs.Limits.{desk_limits}
use Rattle.lx_spec.specs.declared.TextFault.{TextFault}
use Rattle.lx_spec.specs.declared.TextFault.TheVariants.{NoEndData}
use Rattle.lx_spec.specs.Text.{without_cr, lines_of}
use Rattle.lx_spec.specs.CutInput.{CutOff, first_lines}
use Rattle.lx_spec.specs.Reading.{Reading, reads, reads_lines, lines_read, script_of}
use Rattle.lx_lex.specs.declared.lines.Lines.{Lines}
use Rattle.lx_lex.specs.Lines.{LinesBetween}
use Rattle.lx_lex.specs.LinesHandedOut.{HandedOut}
use Rattle.lx_lex.specs.Unread.{unread}

-- The lines up to ENDDATA, each without its LF, were handed out, and this is what they mean. Where the source tells its bytes, it is
-- what its text means, of which no further line is wanted for the show, and the script is the lines that are left.
pub record MeansShow {S : Type 0} (told : ToldBySource S) (old new : Lines S) (form : Form) (reading : Reading)
    : Type 0 where
  pub front : List (List ℕ)
  pub last : List ℕ
  pub handed : HandedOut told old new (front ++ last ∷ [])
  pub lines : reads_lines desk_limits form (map without_cr (front ++ last ∷ [])) ≡ Ok reading
  pub text : IfSome (unread told old) (λ bytes. reads form bytes ≡ Ok reading)
  pub wanted : IfSome (unread told old) (λ bytes. lines_read (lines_of bytes) ≡ length front + 1)
  pub script : IfSome (unread told old) (λ bytes. IfSome (unread told new) (λ rest. script_of bytes ≡ lines_of rest))

-- These lines were handed out, and the last of them has the fault, or nothing is left after them. Where the source tells its bytes,
-- it is the fault of its text, of which this many lines are wanted.
pub record MeansFault {S : Type 0} (told : ToldBySource S) (old : Lines S) (form : Form) (fault : TextFault) : Type 0 where
  pub raws : List (List ℕ)
  pub unread_then : Option (List ℕ)
  pub taken_then : ℕ
  pub took : LinesBetween (unread told old) unread_then old.taken taken_then raws
  pub count : ℕ
  pub whole : (length raws ≡ count) ⊎ IsAtEnd unread_then
  pub lines : reads_lines desk_limits form (map without_cr raws) ≡ Err fault
  pub text : IfSome (unread told old) (λ bytes. reads form bytes ≡ Err fault)
  pub wanted : IfSome (unread told old) (λ bytes. lines_read (lines_of bytes) ≡ count)

-- the first n lines don't end the reading, so that more are wanted, and the next one has a byte past the limit of the input
pub record IsPastLimit (taken : ℕ) (bytes : List ℕ) : Type 0 where
  pub n : ℕ
  pub no_end : reads_lines desk_limits Moves (take n (lines_of bytes)) ≡ Err (NoEndData (n + 1))
  pub wanted : n < lines_read (lines_of bytes)
  pub long : INPUT_BYTES < taken + length (first_lines (n + 1) bytes)

-- the lines that were taken whole within the limit of the input don't end the reading, and so more are wanted; `left` is what the source
-- has left
pub record IsCutShort (taken : ℕ) (bytes : List ℕ) (left : Option (List ℕ)) : Type 0 where
  pub cut : CutOff taken bytes left
  pub wanted : cut.lines < lines_read (lines_of bytes)
