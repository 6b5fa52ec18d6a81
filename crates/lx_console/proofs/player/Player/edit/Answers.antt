use Rattle.lx_console.proofs.Imports.{◌≡◌, Result, Ok, Err, OnErr, refl, Refusal, Kept, Change}
use Rattle.lx_console.proofs.player.Player.edit.Goals as goal

as_before : (r : Result Change Refusal) (k : Kept) → OnErr r (k ≡ k)
as_before (Ok change) k = tt
as_before (Err refusal) k = refl

pub returns-in_err-plan-clause-unchanged : goal.returns-in_err-plan-clause-unchanged
returns-in_err-plan-clause-unchanged g c = as_before c.from_residual.result c.args.self.now
