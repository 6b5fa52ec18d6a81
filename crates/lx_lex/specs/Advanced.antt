-- What a step of a source's lines did, as the parts of `advance` say it.
use Rattle.std.specs.Prelude.{ℕ, ◌<◌, ◌≤◌, ◌≡◌, true, false, List, []}
use Rattle.lx_base.specs.declared.TheConstants.{LINE_BYTES}
use Rattle.lx_io.specs.Told.{ToldBySource}
use Rattle.lx_lex.specs.declared.lines.Lines.{Lines}
use Rattle.lx_lex.specs.declared.lines.Step.{Step}
use Rattle.lx_lex.specs.declared.lines.Step.TheVariants.{Line, LongLine, End, ReadFault, InputTooLong}
use Rattle.lx_lex.specs.Lines.{StepOf, EndOf, HasStepCause, ReadsWhileUnfed}
use Rattle.lx_lex.specs.Unread.{current_line, has_feed, held, source_faults, source_left, unread}

pub record Advanced {S : Type 0} (told : ToldBySource S) (old new : Lines S) (result : Step) : Type 0 where
  pub step : StepOf result (unread told old) (unread told new) old.taken new.taken (current_line new)
  pub untouched : has_feed (held old) ≡ true → new.source.now ≡ old.source.now
  pub cause : HasStepCause result (source_faults told old) (source_faults told new)
  pub unfed : ReadsWhileUnfed (source_left told old) (source_left told new) (told.given new.source.now)
  pub ended : EndOf result (unread told old) (unread told new) (told.given new.source.now)
  pub unfed_fault : result ≡ ReadFault → has_feed (held old) ≡ false

-- the step that hands out a line of which so many bytes count, and the line
abbrev pub Judged : Step → (total : ℕ) → (text out : List ℕ) → Type 0
Judged Line total text out = (total ≤ LINE_BYTES) × (out ≡ text)
Judged LongLine total text out = (LINE_BYTES < total) × (out ≡ [])
Judged End total text out = ⊥
Judged ReadFault total text out = ⊥
Judged InputTooLong total text out = ⊥
