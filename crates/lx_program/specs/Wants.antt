-- When the program is out of memory.
use Rattle.std.specs.Prelude.{◌≡◌, ◌⊎◌, ℕ, List, Option}
use Rattle.lx_io.specs.Causes.{Rose}
use Rattle.lx_io.specs.Told.{ToldBySink}
use Rattle.lx_desk.specs.Crew.{CrewRunsShort}
use Rattle.lx_desk.specs.Live.{LiveRunsShort}
use Rattle.lx_desk.specs.declared.desk.Status.{Status}
use Rattle.lx_desk.specs.declared.desk.Status.TheVariants as status

-- Out of memory: the heap refused some, or the output itself was; or the words' heap refused some, and nothing else was touched.
abbrev pub WantsMemoryOrWords : {H I K : Type 0} → ToldBySink K → (words words' : ℕ) → (refusals : H → ℕ) → (heap heap' : H)
    → (input input' : I) → (output output' : K) → Status → Type 0
WantsMemoryOrWords told words words' refusals heap heap' input input' output output' s =
    s ≡ status.Memory → (Rose words words' × ((heap' ≡ heap) × ((input' ≡ input) × (output' ≡ output))))
    ⊎ (Rose (refusals heap) (refusals heap') ⊎ Rose (told.wants output) (told.wants output'))

-- The same of a live run: the heap refused some, or the writer's did, or the output or an outlet itself was out of memory; or the words'
-- heap refused some, and nothing else was touched.
abbrev pub WantsRunOrWords : {H I O K : Type 0} → ToldBySink O → ToldBySink K → (words words' : ℕ) → (refusals : H → ℕ) → (heap heap' : H)
    → (writers writers' : ℕ) → (input input' : I) → (output output' : O) → (outlets outlets' : List (Option K)) → Status → Type 0
WantsRunOrWords told_out told words words' refusals heap heap' writers writers' input input' output output' outlets outlets' s =
    s ≡ status.Memory
    → (Rose words words'
    × ((heap' ≡ heap) × ((writers' ≡ writers) × ((input' ≡ input) × ((output' ≡ output) × (outlets' ≡ outlets))))))
    ⊎ LiveRunsShort told_out told (refusals heap) (refusals heap') writers writers' output output' outlets outlets'

-- and of a crew: the heap refused some, or the queue's did, or the output itself was out of memory; or the words' heap refused some
abbrev pub WantsCrewOrWords : {H I K S : Type 0} → ToldBySink K → (words words' : ℕ) → (refusals : H → ℕ) → (heap heap' : H)
    → (queues queues' : ℕ) → (input input' : I) → (output output' : K) → (operators operators' : List (Option S)) → Status → Type 0
WantsCrewOrWords told words words' refusals heap heap' queues queues' input input' output output' operators operators' s =
    s ≡ status.Memory
    → (Rose words words'
    × ((heap' ≡ heap) × ((queues' ≡ queues) × ((input' ≡ input) × ((output' ≡ output) × (operators' ≡ operators))))))
    ⊎ CrewRunsShort told (refusals heap) (refusals heap') queues queues' output output'

-- The words are read once: their heap refused nothing, or Memory is told and nothing else was touched.
abbrev pub ReadsWordsOnce : (words words' : ℕ) → (untouched : Type 0) → Status → Type 0
ReadsWordsOnce words words' untouched s = (words' ≡ words) ⊎ ((s ≡ status.Memory) × untouched)
