use Rattle.lx_lex.proofs.Imports.{◌≡◌, true, min, take, list_all, is_digit, number_of}
use Rattle.lx_lex.specs.declared.digits.TheConstants.{TOO_GREAT}
use Rattle.lx_lex.proofs.digits.number.Given as goal

abbrev pub invariant-loop-b : goal.invariant-loop-b
invariant-loop-b l =
    (list_all is_digit (take l.b-index l.digits) ≡ true) × (l.number ≡ min (number_of (take l.b-index l.digits)) TOO_GREAT)
