-- Where memory was ample no attempt of a session fails, and no more of its lines fail than the heap refused calls.
use Rattle.std.specs.Prelude.{◌≡◌, ◌<◌, ◌≤◌, ℕ, ◌+◌, ◌-◌, ◌^◌, min, Bool, true, false, Option, IfSome, List, is_some, count_by}
use Rattle.lx_io.specs.Causes.{one_more}
use Rattle.lx_spec.specs.Session.{Answering}

-- A heap's count of refusals stands as it stood, and not at its last value: the heap refused nothing.
abbrev pub HasStood : ℕ → ℕ → Type 0
HasStood before now = now < one_more before

-- What holds where memory was ample and where it may not have been: it was, if the heap refused nothing.
abbrev pub ByMemory : (refusals refusals' : ℕ) → (Bool → Type 0) → Type 0
ByMemory refusals refusals' P = (ample : Bool) → (ample ≡ true → HasStood refusals refusals') → P ample

-- By the count of a heap's refusals, it refused at least n calls; or the count is at its last value, where it stops.
abbrev pub RoseBy : (refusals refusals' : ℕ) → ℕ → Type 0
RoseBy refusals refusals' n = min (refusals + n) (2 ^ 64 - 1) ≤ refusals'

-- it refused at most so many calls, and the count isn't at its last value
abbrev pub RoseAtMost : (refusals refusals' : ℕ) → ℕ → Type 0
RoseAtMost refusals refusals' most = refusals' < min (refusals + most + 1) (2 ^ 64 - 1)

-- What holds for each number of calls that the heap may have refused at most, and where no such number is known.
abbrev pub ByRefusals : (refusals refusals' : ℕ) → (Option ℕ → Type 0) → Type 0
ByRefusals refusals refusals' P = (most : Option ℕ) → IfSome most (RoseAtMost refusals refusals') → P most

-- of how many lines an attempt failed
abbrev pub failed_count : List (Option ℕ) → ℕ
failed_count failures = count_by is_some failures

-- the number is at most that one, where one is known
abbrev pub IsAtMost : Option ℕ → ℕ → Type 0
IsAtMost most n = IfSome most (λ m. n ≤ m)

-- No attempt had to fail: all were admitted, and the heap refused nothing.
pub record IsAmple (admitted_all : Bool) (before now : ℕ) : Type 0 where
  pub admitted : admitted_all ≡ true
  pub stood : HasStood before now

-- No more lines than so many had to fail: all attempts were admitted, and the heap refused no more calls.
pub record IsMost (admitted_all : Bool) (before now most : ℕ) : Type 0 where
  pub admitted : admitted_all ≡ true
  pub rose : RoseAtMost before now most

-- an attempt may fail so, and where memory was ample it may not
abbrev pub MayFailUnless : Bool → Type 0 → Type 0
MayFailUnless true MayFail = ⊥
MayFailUnless false MayFail = MayFail

-- the same answers; but where memory was ample no attempt fails
abbrev pub spared : {A : Type 0} → Bool → Answering A → Answering A
spared ample by = record { State = by.State; answer = by.answer; MayFail = λ state line. MayFailUnless ample (by.MayFail state line) }

-- How what was answered may be taken, by what became of it: as a session whose commands were all admitted, and as one in which memory was
-- ample.
pub record MayTake (all ample admitted_all : Bool) (before now : ℕ) : Type 0 where
  pub admitted : all ≡ true → admitted_all ≡ true
  pub memory : ample ≡ true → IsAmple admitted_all before now
