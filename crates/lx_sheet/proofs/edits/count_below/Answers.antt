use Rattle.lx_sheet.proofs.Imports.{◌≡◌, length, map, ap, sym, ◌∙◌, subst, Some, ℕ, rules, Option, Cue, count_under}
use Rattle.lx_sheet.proofs.Numbers.{count_under-map}
use Rattle.lx_sheet.proofs.RightRows.{until}
use Rattle.lx_sheet.proofs.edits.count_below.Goals as goal

pub returns-in-Some : goal.returns-in-Some
returns-in-Some c =
    let there : c.args.to ≡ Some c.in-Some.end = search rules in
    subst (λ (o : Option ℕ). length c.below.result.now ≡ until o c.args.cues.now) (sym there)
    (ap length c.below.ensures ∙ count_under-map (λ (cue : Cue). cue.number) c.get.result c.args.cues.now
    ∙ ap (λ (n : ℕ). count_under n (map (λ (cue : Cue). cue.number) c.args.cues.now)) c.get.ensures.value)
