-- The rule of the queue.
use Rattle.std.specs.Prelude.{◌≡◌, ℕ, ◌+◌, ◌<◌, ◌≤◌, true, false, List, [], ◌∷◌, ◌++◌}
use Rattle.std.specs.List.{AllByRecursion}
use mathlib.Core.Option.{some}
use lib.ListN.{get_elem?}
use Rattle.lx_crew.specs.declared.entry.Message.{Message}
use Rattle.lx_crew.specs.declared.rule.View.{View}
use Rattle.lx_crew.specs.Entries.{of_place, Numbered}

abbrev pub engine_view : ℕ → List Message → List (ℕ × List Message) → View
engine_view made popped kept = record { pushes = false; pops = true; place = 0; made = made; pushed = []; popped = popped; kept = kept }

abbrev pub operator_view : ℕ → List Message → View
operator_view k pushed = record { pushes = true; pops = false; place = k; made = 0; pushed = pushed; popped = []; kept = [] }

abbrev pub spent_view : View
spent_view = record { pushes = false; pops = false; place = 0; made = 0; pushed = []; popped = []; kept = [] }

-- `seat k` tells the pass of the operator at place k: its number plus 1, and 0 where that operator has none, since it wasn't made yet or was
-- taken in. Places and passes are counted from 0. `log` is all that was pushed, in order. The pass of an operator is that operator's, and
-- has the entries that it pushed.
abbrev pub FitsOperator : (ℕ → ℕ) → List Message → ℕ → View → Type 0
FitsOperator seat log pass v = (seat v.place ≡ pass + 1) × (v.pushed ≡ of_place v.place log)

-- the engine's pass is the one reader, and has what was popped.
-- Later operators have pushed nothing, and the lists of those taken in are what they pushed
pub record FitsEngine (reader : ℕ) (seat : ℕ → ℕ) (popped log : List Message) (pass : ℕ) (v : View) : Type 0 where
  pub reads : pass ≡ reader
  pub got : v.popped ≡ popped
  pub later : (k : ℕ) → v.made ≤ k → (seat k ≡ 0) × (of_place k log ≡ [])
  pub lists : AllByRecursion (λ (p : ℕ × List Message). (p.0 < v.made) × (seat p.0 ≡ 0) × (p.1 ≡ of_place p.0 log)) v.kept

pub record FitsPass (reader : ℕ) (seat : ℕ → ℕ) (popped log : List Message) (pass : ℕ) (v : View) : Type 0 where
  pub operator : v.pushes ≡ true → FitsOperator seat log pass v
  pub engine : v.pops ≡ true → FitsEngine reader seat popped log pass v

-- What was popped, and then what the queue holds, is all that was pushed, in order. Each operator's entries are numbered from 1.
-- Each pass knows its part
pub record KeepsOrder (items : List Message) (views : List View) : Type 0 where
  pub reader : ℕ
  pub seat : ℕ → ℕ
  pub popped : List Message
  pub log : List Message
  pub in_order : log ≡ popped ++ items
  pub numbered : (k : ℕ) → Numbered 1 (of_place k log)
  pub each : (pass : ℕ) (v : View) → get_elem? views pass ≡ some v → FitsPass reader seat popped log pass v

abbrev pub AddsEntry : View → Message → View → Type 0
AddsEntry v e w = w ≡ record v { pushed = v.pushed ++ e ∷ [] }

abbrev pub Takes : View → Message → View → Type 0
Takes v e w = w ≡ record v { popped = v.popped ++ e ∷ [] }

-- what each operator that was taken in pushed is what was popped of it, and then what the queue holds of it; no others pushed anything
pub record Learned (v : View) (items : List Message) : Type 0 where
  pub lists : AllByRecursion (λ (p : ℕ × List Message). p.1 ≡ of_place p.0 (v.popped ++ items)) v.kept
  pub others : (k : ℕ) → v.made ≤ k → of_place k (v.popped ++ items) ≡ []
