-- Plans that take back what a plan did.
use Rattle.std.specs.Prelude.{◌≡◌, Option, Some, None}
use Rattle.lx_spec.specs.Show.{Cue, Show}
use Rattle.lx_spec.specs.TrackedLevel.{cue_of}
use Rattle.lx_edit.specs.declared.plans.Plan.{Plan}
use Rattle.lx_edit.specs.PlanMeaning.{planned, IsReady}

-- the plan may be applied to the show after, and makes the show before of it
pub record TakesBack (before after : Show) (undo : Plan) : Type 0 where
  pub ready : IsReady after undo
  pub back : planned after undo ≡ before

-- the show's cue of the number of this one, if there is one
abbrev pub cue_instead : Show → Option Cue → Option Cue
cue_instead show None = None
cue_instead show (Some cue) = cue_of show cue.number
