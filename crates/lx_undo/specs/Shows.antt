-- The plans of a history, and the shows that they make in turn.
use Rattle.std.specs.Prelude.{◌≡◌, ℕ, ◌+◌, ◌≤◌, List, [], ◌∷◌, length, ⊤}
use Rattle.lx_spec.specs.Show.{Show}
use Rattle.lx_edit.specs.declared.plans.Plan.{Plan}
use Rattle.lx_edit.specs.PlanMeaning.{planned, IsReady}

-- The plans that take back, the one for the oldest show first; and those that go forth again, the next one first. Room for this many of either.
pub record KeptPlans : Type 0 where
  pub back : List Plan
  pub forth : List Plan
  pub depth : ℕ

-- there is room for all of them together on either side
pub record FitsIn (back forth : List Plan) (room room_forth : ℕ) : Type 0 where
  pub both : length back + length forth ≤ room
  pub same : room_forth ≡ room

-- the show to which all these plans lead back: the last is applied to this show first
abbrev pub led_back : Show → List Plan → Show
led_back show [] = show
led_back show (plan ∷ plans) = planned (led_back show plans) plan

-- the shows that they make on the way, the oldest first
abbrev pub shows_before : Show → List Plan → List Show
shows_before show [] = []
shows_before show (plan ∷ plans) = planned (led_back show plans) plan ∷ shows_before show plans

-- the shows that these plans make, the first applied to this show
abbrev pub shows_after : Show → List Plan → List Show
shows_after show [] = []
shows_after show (plan ∷ plans) = planned show plan ∷ shows_after (planned show plan) plans

-- each plan may be applied in its turn
abbrev pub ReadyBack : Show → List Plan → Type 0
ReadyBack show [] = ⊤
ReadyBack show (plan ∷ plans) = IsReady (led_back show plans) plan × ReadyBack show plans

abbrev pub ReadyForth : Show → List Plan → Type 0
ReadyForth show [] = ⊤
ReadyForth show (plan ∷ plans) = IsReady show plan × ReadyForth (planned show plan) plans

pub record AllReady (show : Show) (plans : KeptPlans) : Type 0 where
  pub back : ReadyBack show plans.back
  pub forth : ReadyForth show plans.forth
