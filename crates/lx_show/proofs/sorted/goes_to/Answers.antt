use Rattle.lx_show.proofs.Imports.{◌-◌, ◌∙◌, ap, sym, arith, get_or_default, leb-false}
use Rattle.lx_show.proofs.Indexes.{goes_where}
use Rattle.lx_show.proofs.sorted.goes_to.Goals as goal
use Rattle.lx_show.proofs.sorted.goes_to.Goals.{then-at-gt0, else-at-gt0, then-at-len-2, else-at-len-2}

pub returns : goal.returns
returns g c = λ goes. goes_where c.requires c.if-at-len.false
    (λ d some. elim c.if-at-gt0.branch [
      | then-at-gt0 w ↦
          let same = w.key.ensures ∙ ap g.T.Keyed.key (w.index-xs-at.is ∙ get_or_default _ (c.args.at - 1) w.index-xs-at.result d (omega arith)) in
          omega (arith, same, leb-false _ _ (sym w.value-is ∙ c.if-key-n.false))
      | else-at-gt0 w ↦ absurd (omega (arith, some, w.if-at-gt0.false))
    ])
    (λ d within. elim c.if-at-len-2.branch [
      | then-at-len-2 w ↦
          let same = w.key-then-at-len-2.ensures ∙ ap g.T.Keyed.key (w.index-xs-at-then-at-len-2.is ∙ get_or_default _ c.args.at _ d within) in
          omega (arith, same, leb-false _ _ (sym w.value-is ∙ c.if-key-n-2.false))
      | else-at-len-2 w ↦ absurd (omega (arith, within, w.if-at-len-2.false))
    ])
