use Rattle.lx_edit.proofs.Imports.{◌∙◌, sym, refl, option_copied}
use Rattle.lx_edit.proofs.KeptLevels.{level_differs}
use Rattle.lx_edit.proofs.kept.differs.Goals as goal

pub returns-then-decides_near : goal.returns-then-decides_near
returns-then-decides_near c = rw (
  level_differs (option_copied c.args.new) c.args.c c.requires.there c.requires.number c.requires.above,
  sym c.decides_near.ensures ∙ c.if-decides_near.true,
) refl

pub returns : goal.returns
returns c = rw (
  level_differs (option_copied c.args.new) c.args.c c.requires.there c.requires.number c.requires.above,
  sym c.decides_near.ensures ∙ c.if-decides_near.false,
  ← c.decided_by.ensures,
  ← c.decided_by-2.ensures,
) c.is_other.ensures
