use Rattle.lx_io.proofs.Imports.{take, ◌∙◌, sym, subst, Keeps, with_kept}
use Rattle.std.proofs.lemmas.Slice.{between_is}
use Rattle.lx_io.proofs.Rooms.{kept_on}
use Rattle.lx_io.proofs.buffered.BufferedSink.hand_on.Goals as goal

pub returns-clause-holds : goal.returns-clause-holds
returns-clause-holds g c =
    let old = c.args.self.now in
    let new = c.keep_from.new.self in
    let n = c.pass_on-count.result.0 in
    subst (λ sink. Keeps (with_kept (g.K.Sink.holds old.sink) (take old.len old.room.items)) (with_kept (g.K.Sink.holds sink) (take new.len new.room.items)))
    (sym c.keep_from.ensures.sink)
    (kept_on _ _ _ _ n (rw c.deref.ensures.value at c.pass_on-count.ensures.bytes) (c.keep_from.ensures.kept ∙ between_is old.room.items n old.len))
