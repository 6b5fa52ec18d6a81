use Rattle.lx_desk.proofs.Imports.{◌≡◌, ◌+◌, ◌*◌, Ok, flat_map, range_with_len, Puts, drawn_from, made_turn}
use Rattle.lx_desk.proofs.generator.put_turns.Given as goal

abbrev pub invariant-loop-before : goal.invariant-loop-before
invariant-loop-before g l =
    Puts {T = Unit {0}} g.K.Sink l.initial.sink l.sink (Ok tt)
    (flat_map (made_turn l.cues) (range_with_len 1 l.before)) × (l.draws.number ≡ drawn_from l.cues (9 * l.cues + 3 * l.before))
