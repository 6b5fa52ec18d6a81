use Rattle.lx_embed.proofs.Imports.{◌≡◌, ◌+◌, ◌-◌, ◌∙◌, ap, arith}
use Rattle.lx_spec.specs.RecordedLevels.{on_stage}
use Rattle.lx_embed.proofs.desk.HostDesk.level.Goals as goal

pub returns-clause-level : goal.returns-clause-level
returns-clause-level c = λ d stands.
    let table = c.levels-levels.ensures.all d (rw c.console.ensures stands) in
    let same : c.args.channel - 1 + 1 ≡ c.args.channel = omega (arith, c.if-channel-lt1.false) in
    table.each (c.args.channel - 1) (omega (arith, table.reach, c.if-channel-lt1.false, c.if-channel-levels.false)) ∙ ap (on_stage d) same
