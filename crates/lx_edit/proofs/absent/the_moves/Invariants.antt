use Rattle.lx_edit.proofs.Imports.{◌≡◌, ◌+◌, ◌-◌, find, is_none, range_with_len, move_in}
use Rattle.lx_edit.proofs.absent.the_moves.Given as goal

abbrev pub invariant-loop-n : goal.invariant-loop-n
invariant-loop-n l = find (λ c. is_none (move_in l.cue c)) (range_with_len l.first (l.last + 1 - l.first))
    ≡ find (λ c. is_none (move_in l.cue c)) (range_with_len l.n (l.last + 1 - l.n))
