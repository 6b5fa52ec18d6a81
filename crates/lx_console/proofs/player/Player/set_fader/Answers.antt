use Rattle.lx_console.proofs.player.Player.set_fader.Goals as goal

pub returns-then-is_none-clause-ok : goal.returns-then-is_none-clause-ok
returns-then-is_none-clause-ok c = tt

pub returns-then-is_none-clause-state : goal.returns-then-is_none-clause-state
returns-then-is_none-clause-state c = tt
