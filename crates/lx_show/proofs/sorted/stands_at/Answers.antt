use Rattle.lx_show.proofs.Imports.{◌∙◌, sym, eq_from}
use Rattle.lx_show.proofs.Indexes.{stands_where}
use Rattle.lx_show.proofs.sorted.stands_at.Goals as goal

pub returns-then-at-xs : goal.returns-then-at-xs
returns-then-at-xs g c = λ is. stands_where g.T.Keyed.key c.args.n _ _ c.index-xs-at.result c.requires c.if-at-xs.true
    c.index-xs-at.is (sym c.key.ensures ∙ sym (eq_from c.key.result c.args.n is))
