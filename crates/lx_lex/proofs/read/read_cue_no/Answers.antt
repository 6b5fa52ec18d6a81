use Rattle.lx_lex.proofs.Imports.{◌-◌, ◌∙◌, length, decimal, refl, sym, CUE_UNIT, decimals}
use Rattle.std.specs.Fmt.{digits}
use Rattle.lx_lex.proofs.Fractions.{finer}
use Rattle.lx_lex.proofs.read.read_cue_no.Goals as goal

-- the unit is a 1 and zeros
pub read-requires : goal.read-requires
unfolding digits
read-requires c = (length (decimal CUE_UNIT) - 1, refl)

pub returns-then-number-eq0 : goal.returns-then-number-eq0
returns-then-number-eq0 c =
    let h = c.in-Some.ensures in
    let f = finer CUE_UNIT (length (decimals c.args.token.now)) (sym h.1.step ∙ c.if-number-eq0.true) in
    rw (h.0, f) refl
