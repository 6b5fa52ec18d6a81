use Rattle.lx_sheet.proofs.Imports.{◌≡◌, ℕ, ◌+◌, ◌-◌, List, get_or, ap, sym, ◌∙◌, inl, inr, arith, w64, cases_eq, bit_at_ones, bit_at_set_same, Move}
use Rattle.lx_sheet.proofs.Imports.{bit_of, chan_at, group_of}
use Rattle.lx_sheet.proofs.MarkWords.{bit_left, chan_is, same_group}
use Rattle.lx_sheet.proofs.marks.gather.Goals as goal

pub returns-then-group_of-group-clause-bits : goal.returns-then-group_of-group-clause-bits
returns-then-group_of-group-clause-bits c = λ k least less.
    let moves : List Move = c.args.moves.now in
    let from : ℕ = c.args.from in
    let same : group_of (chan_at moves (from + 64 - 1)) ≡ group_of (chan_at moves from) =
    ap group_of (chan_is moves (from + 64 - 1) c.index-moves-from-then-from-moves.result (omega arith))
    ∙ sym c.group_of.ensures ∙ c.if-group_of-group.true ∙ c.group_of-group.ensures
    ∙ sym (ap group_of (chan_is moves from c.index-moves-from.result c.requires.from)) in
    record {
      group = same_group moves from k (from + 64 - 1) c.requires.sorted least (omega arith) (omega arith) same;
      bit = bit_at_ones 64 (bit_of (chan_at moves k)) (omega arith);
    }

pub loop-end-preserved : goal.loop-end-preserved
loop-end-preserved c = λ k least less.
    let moves : List Move = c.args.moves.now in
    let from : ℕ = c.args.from in
    let end : ℕ = c.loop-end.end in
    let bits : ℕ = c.loop-end.bits in
    let read : Move = get_or moves end c.index-moves-end.result in
    let here : chan_at moves end ≡ read.chan = chan_is moves end c.index-moves-end.result c.loop-end-test.true in
    elim (cases_eq k end) [
      | inl at ↦ rw at (record {
        group = ap group_of here ∙ sym c.group_of-in-loop-end.ensures ∙ c.if-group_of-group-2.false ∙ c.group_of-group.ensures
            ∙ sym (ap group_of (chan_is moves from c.index-moves-from.result c.requires.from));
        bit = rw (here, c.bit_of-bits.ensures) (bit_at_set_same w64 bits (bit_of read.chan) (omega arith));
      })
      | inr apart ↦
          let was = c.loop-end.invariant k least (omega arith) in
          record { group = was.group; bit = bit_left bits c.bit_of-bits.result (bit_of (chan_at moves k)) was.bit }
    ]
