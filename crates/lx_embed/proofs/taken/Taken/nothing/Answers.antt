use Rattle.lx_embed.proofs.Imports.{◌-◌, refl}
use Rattle.lx_embed.proofs.TakenLists.{none_taken}
use Rattle.lx_embed.proofs.taken.Taken.nothing.Goals as goal

pub returns : goal.returns
returns c = λ u least most. none_taken 32 _ (u - 1) refl
