use Rattle.lx_lex.proofs.Imports.{◌≡◌, drop}
use Rattle.lx_lex.specs.WordTable.{in_capitals, looked_up}
use Rattle.lx_lex.proofs.table.find_word.Given as goal

abbrev pub invariant-loop-word : goal.invariant-loop-word
invariant-loop-word g l = looked_up (in_capitals l.fn.table) l.token ≡ looked_up (in_capitals (drop l.word-index l.fn.table)) l.token
