-- No separator begins a comment.
use Rattle.lx_lex.proofs.Imports.{◌≡◌, ℕ, true, false, nat_tests, arith, is_separator, begins_comment}

pub apart : (b : ℕ) → is_separator b ≡ true → begins_comment b ≡ false
apart b e = grind (arith, nat_tests)
