use Rattle.lx_edit.proofs.Imports.{◌≡◌, ◌∙◌, ℕ, refl, ap, sym, subst, false, List, arith, get_or_default, Move, entry_at, stands_entry}
use Rattle.lx_edit.proofs.Imports.{stands_where, has_chan}
use Rattle.lx_edit.proofs.MoveMarks.{among_grown, among_more, one_more}
use Rattle.lx_edit.proofs.marks.mark_beside.Goals as goal

pub returns-then-get-clause-here : goal.returns-then-get-clause-here
returns-then-get-clause-here c = λ out.
    let moves : List Move = c.args.moves.now in
    let next : ℕ = c.args.next.now in
    let other : Move = c.index-moves-next-then-get.result in
    let same : other ≡ c.index-moves-next.result =
    c.index-moves-next-then-get.is ∙ get_or_default moves next other c.index-moves-next.result c.if-next-moves.true
    ∙ sym c.index-moves-next.is in
    let here : other.chan ≡ c.args.entry.now.chan =
    omega (arith, ap (λ (m : Move). m.chan) same, ap (λ (m : Move). m.chan) c.index-moves-next.is) in
    stands_entry (λ (m : Move). m.chan) c.args.entry.now.chan next moves moves other refl
    (stands_where (λ (m : Move). m.chan) c.args.entry.now.chan moves next other c.requires.sorted c.if-next-moves.true
    c.index-moves-next-then-get.is here)
    c.index-moves-next-then-get.is
    ∙ c.mark_move.ensures.marked out

pub returns-then-get-clause-marked : goal.returns-then-get-clause-marked
returns-then-get-clause-marked c = λ others stands all.
    let moves : List Move = c.args.moves.now in
    let next : ℕ = c.args.next.now in
    let entry : Move = c.args.entry.now in
    let other : Move = c.index-moves-next-then-get.result in
    let same : other ≡ c.index-moves-next.result =
    c.index-moves-next-then-get.is ∙ get_or_default moves next other c.index-moves-next.result c.if-next-moves.true
    ∙ sym c.index-moves-next.is in
    let here : other.chan ≡ entry.chan =
    omega (arith, ap (λ (m : Move). m.chan) same, ap (λ (m : Move). m.chan) c.index-moves-next.is) in
    among_more c.args.chans.now c.mark_move.new.chans moves others next other c.if-next-moves.true c.index-moves-next-then-get.is
    c.mark_move.ensures.grows
    (λ out. ap (λ (k : ℕ). entry_at (λ (m : Move). m.chan) k others) here ∙ stands
    ∙ sym (c.mark_move.ensures.marked (subst (λ (k : ℕ). has_chan c.mark_move.new.chans k ≡ false) here out)))
    all

pub returns-else-next-moves-clause-marked : goal.returns-else-next-moves-clause-marked
returns-else-next-moves-clause-marked c = λ others stands all.
    among_grown c.args.chans.now c.insert.new.self _ others (one_more c.args.chans.now c.insert.new.self c.args.entry.now.chan c.insert.ensures) all
