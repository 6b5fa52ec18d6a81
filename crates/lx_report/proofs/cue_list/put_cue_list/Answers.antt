use Rattle.std.proofs.Common.{◌≡◌, ◌<◌, ◌+◌, ◌++◌, List, ℕ, length, get_or, take, drop, ap, sym, ◌∙◌, arith}
use Rattle.std.specs.Prelude.{flat_map}
use Rattle.lx_io.proofs.Chain.{Puts-then, Puts-stops, Puts-is}
use Rattle.lx_spec.specs.Show.{Cue}
use Rattle.lx_spec.specs.SheetOutput.{cue_line, cue_lines}
use Rattle.lx_spec.specs.Replies.{row_text}
use Rattle.lx_report.proofs.Reports.{entry_there, pieces_more, pieces_around}
use Rattle.lx_report.proofs.cue_list.put_cue_list.Goals as goal

pub row_in-requires-clause-there : goal.row_in-requires-clause-there
row_in-requires-clause-there g c =
    let cues : List Cue = c.args.show.now.cues in
    let within : c.loop-cue.cue-index < length cues = omega (arith, ap length c.cues-cue-items.ensures.cues, c.loop-cue-test.true) in
    entry_there (λ (x : Cue). x.number) cues c.loop-cue.cue-index c.cue-item.result c.cues-cue-items.ensures.valid.cues_sorted within
    (c.cue-item.is ∙ ap (λ (xs : List Cue). get_or xs c.loop-cue.cue-index c.cue-item.result) c.cues-cue-items.ensures.cues)

pub loop-cue-preserved : goal.loop-cue-preserved
loop-cue-preserved g c =
    let cues : List Cue = c.args.show.now.cues in
    let within : c.loop-cue.cue-index < length cues = omega (arith, ap length c.cues-cue-items.ensures.cues, c.loop-cue-test.true) in
    let is : c.cue-item.result ≡ get_or cues c.loop-cue.cue-index c.cue-item.result = c.cue-item.is
    ∙ ap (λ (xs : List Cue). get_or xs c.loop-cue.cue-index c.cue-item.result) c.cues-cue-items.ensures.cues in
    Puts-is (Puts-then c.loop-cue.invariant c.in_ok-put_cue.ensures)
    (ap (λ (row : List ℕ). flat_map (cue_lines c.args.show.now) (take c.loop-cue.cue-index cues) ++
    (cue_line c.cue-item.result ++ row_text c.cue-item.result.number row)) c.row_in.ensures
    ∙ pieces_more (cue_lines c.args.show.now) cues c.loop-cue.cue-index c.cue-item.result within is)

pub returns-in_err-put_cue : goal.returns-in_err-put_cue
returns-in_err-put_cue g c =
    let cues : List Cue = c.args.show.now.cues in
    let within : c.loop-cue.cue-index < length cues = omega (arith, ap length c.cues-cue-items.ensures.cues, c.loop-cue-test.true) in
    let is : c.cue-item.result ≡ get_or cues c.loop-cue.cue-index c.cue-item.result = c.cue-item.is
    ∙ ap (λ (xs : List Cue). get_or xs c.loop-cue.cue-index c.cue-item.result) c.cues-cue-items.ensures.cues in
    Puts-is (Puts-stops (flat_map (cue_lines c.args.show.now) (drop (c.loop-cue.cue-index + 1) cues))
    (Puts-then c.loop-cue.invariant c.in_err-put_cue.ensures) c.from_residual.ensures)
    (ap (λ (row : List ℕ). (flat_map (cue_lines c.args.show.now) (take c.loop-cue.cue-index cues) ++
    (cue_line c.cue-item.result ++ row_text c.cue-item.result.number row)) ++ flat_map (cue_lines c.args.show.now)
    (drop (c.loop-cue.cue-index + 1) cues)) c.row_in.ensures
    ∙ sym (pieces_around (cue_lines c.args.show.now) cues c.loop-cue.cue-index c.cue-item.result within is))
