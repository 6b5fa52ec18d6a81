use Rattle.lx_sheet.proofs.Imports.{◌≡◌, ◌+◌, ◌-◌, ◌<◌, sym, ◌∙◌, arith, Place}
use Rattle.lx_sheet.proofs.Past.{level_of_past}
use Rattle.lx_sheet.proofs.Rows.{level_of_block}
use Rattle.lx_sheet.proofs.Numbers.{count_up_to-map}
use Rattle.lx_sheet.proofs.sheet.Sheet.level_near.Goals as goal

pub returns-then-at-self-clause-level : goal.returns-then-at-self-clause-level
returns-then-at-self-clause-level c =
    let past : c.self.inside.channels < c.args.c = omega (arith, c.get.ensures.value, c.get.ensures.least) in
    rw (← c.self.view_is) (sym (level_of_past c.self.inside.channels c.self.inside.order.items c.self.inside.levels.items c.args.n c.args.c
    c.self.invariant.kept.sorted past))

pub returns-then-at-self-clause-stands : goal.returns-then-at-self-clause-stands
returns-then-at-self-clause-stands c = λ show stands. returns-then-at-self-clause-level c ∙ stands.columns c.args.c c.args.n

pub level_before-requires-clause-block : goal.level_before-requires-clause-block
level_before-requires-clause-block c = rw (c.as_slice.ensures.value, c.as_slice-order.ensures.value) c.self.invariant.block

pub returns-clause-level : goal.returns-clause-level
returns-clause-level c =
    let order = c.self.inside.order.items in
    let chan : c.get.result - 1 + 1 ≡ c.args.c = omega (arith, c.get.ensures.value, c.get.ensures.least) in
    c.level_before.ensures
    ∙ rw (
      chan,
      c.count_near-cues.ensures.count,
      c.as_slice-order.ensures.value,
      c.as_slice.ensures.value,
      ← c.self.view_is,
      count_up_to-map (λ (p : Place). p.cue) c.args.n order,
    )
    (sym (level_of_block c.self.inside.channels order c.self.inside.levels.items c.args.n c.args.c c.self.invariant.kept.sorted))

pub returns-clause-stands : goal.returns-clause-stands
returns-clause-stands c = λ show stands. returns-clause-level c ∙ stands.columns c.args.c c.args.n
