use Rattle.lx_lex.proofs.Imports.{◌≡◌, true, false, ◌∙◌, sym, is_filled, is_point}
use Rattle.std.proofs.Math.Bool.{and-true}
use Rattle.lx_lex.proofs.LineCuts.{is_filled-length}
use Rattle.lx_lex.proofs.Places.{before_first-none, after_first-none}
use Rattle.lx_lex.proofs.decimal.parts.Goals as goal

pub returns-in-None-2 : goal.returns-in-None-2
returns-in-None-2 c =
    let t = c.args.text.now in
    let h = c.in-None.ensures in
    let f : is_filled t ≡ true = is_filled-length t false (sym c.if-is_empty.false ∙ c.is_empty.ensures) in
    (sym (before_first-none is_point t h), sym (after_first-none is_point t h), rw (h, f) (sym (and-true _)))
