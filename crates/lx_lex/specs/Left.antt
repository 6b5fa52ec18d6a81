-- What an iterator over the tokens of a line has left.
use Rattle.std.specs.Prelude.{ℕ, List}
use Rattle.lx_spec.specs.Text.{tokens}
use Rattle.lx_lex.specs.declared.token.Tokens.{Tokens}

-- the tokens that are left
unfoldable pub left : Tokens → List (List ℕ)
left t = tokens t.rest.now
