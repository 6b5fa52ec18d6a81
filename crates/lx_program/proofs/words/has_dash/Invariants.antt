use Rattle.lx_program.proofs.Imports.{◌≡◌, map, drop, string_bytes, list_any, begins_with_dash}
use Rattle.lx_program.proofs.words.has_dash.Given as goal

abbrev pub invariant-loop-word : goal.invariant-loop-word
invariant-loop-word l = list_any begins_with_dash (map string_bytes l.fn.words)
    ≡ list_any begins_with_dash (map string_bytes (drop l.word-index l.fn.words))
