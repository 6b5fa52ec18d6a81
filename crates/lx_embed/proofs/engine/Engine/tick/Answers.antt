use Rattle.lx_embed.proofs.Imports.{refl}
use Rattle.lx_embed.proofs.engine.Engine.tick.Goals as goal

pub returns-in-Undo-clause-end : goal.returns-in-Undo-clause-end
returns-in-Undo-clause-end c = λ fewer d stands.
    let kept = c.tick_undo.new.desk in
    c.tick_undo.ensures.end fewer (record { desk = d; back = kept.back; forth = kept.forth; depth = kept.depth })
    (record { desk = stands; back = refl; forth = refl; depth = refl })
