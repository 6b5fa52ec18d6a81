-- What a record answers.
use Rattle.std.specs.Prelude.{◌≡◌, ◌⊎◌, Result, Ok, Err, IsOk, MatchResult}
use Rattle.lx_spec.specs.declared.Refusal.{Refusal}
use Rattle.lx_spec.specs.declared.Refusal.TheVariants.{Memory}
use Rattle.lx_spec.specs.Show.{Show}
use Rattle.lx_edit.specs.declared.plans.Plan.{Plan}
use Rattle.lx_edit.specs.PlanMeaning.{planned}

-- a refusal is the definition's own, or memory ran out where it refuses nothing
abbrev pub IsRefused : Result Show Refusal → Refusal → Type 0
IsRefused meant refusal = (meant ≡ Err refusal) ⊎ ((refusal ≡ Memory) × IsOk meant)

-- the show of the definition
abbrev pub Records : Result Show Refusal → Result Show Refusal → Type 0
Records meant answer = MatchResult answer (λ show. meant ≡ Ok show) (IsRefused meant)

-- the plan makes the show of the definition
abbrev pub PlansRecord : Show → Result Show Refusal → Result Plan Refusal → Type 0
PlansRecord show meant answer = MatchResult answer (λ plan. meant ≡ Ok (planned show plan)) (IsRefused meant)
