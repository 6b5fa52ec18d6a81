-- Which commands may take memory: edits whose plan holds a copy of what it changes.
use Rattle.std.specs.Prelude.{Bool, true, false}
use Rattle.lx_spec.specs.declared.Edit.{Edit}
use Rattle.lx_spec.specs.declared.Edit.TheVariants.{MakeCue, Patch, Unpatch}
use Rattle.lx_spec.specs.declared.Command.{Command}
use Rattle.lx_spec.specs.declared.Command.TheVariants as commands

-- the plan of the edit may take memory: a new cue has no moves yet, and a row of the patch is no list
abbrev pub takes_memory : Edit → Bool
takes_memory (MakeCue n) = false
takes_memory (Patch e c level) = false
takes_memory (Unpatch e) = false
takes_memory other = true

-- the command may be out of memory: it is such an edit; no key and no tick takes any
abbrev pub may_lack_memory : Command → Bool
may_lack_memory (commands.Edit edit) = takes_memory edit
may_lack_memory other = false
