use Rattle.lx_fade.proofs.RunStacks.{stack_at-stack_of}
use Rattle.lx_fade.proofs.laws.stacks.Goals as goal

pub returns : goal.returns
returns _ = λ show base runs c m. stack_at-stack_of show base runs c m
