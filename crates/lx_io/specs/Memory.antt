-- What contracts see of the sources and sinks over memory, and of the heap for tests.
use Rattle.std.specs.Prelude.{ℕ, Bool, ◌==◌, List, ◌++◌, drop, Result, Ok, Err, ⊤}
use Rattle.std.specs.List.{list_any}
use Rattle.lx_io.specs.Causes.{one_more}
use Rattle.lx_io.specs.declared.sink.SinkFault.{SinkFault}
use Rattle.lx_io.specs.declared.sink.SinkFault.TheVariants.{Failed, Memory}

-- the bytes that are left, how many a call gives at most, and how many the last one gave
pub record PlainBytes : Type 0 where
  pub left : List ℕ
  pub piece : ℕ
  pub given : ℕ

-- the same of a source of whose calls some fail: the numbers of those, how many calls were made, and how many failed
pub record FailingBytes : Type 0 where
  pub left : List ℕ
  pub piece : ℕ
  pub fails : List ℕ
  pub calls : ℕ
  pub faults : ℕ
  pub given : ℕ

-- the bytes that were appended, and how many writes ran out of memory
pub record PlainStore : Type 0 where
  pub bytes : List ℕ
  pub wants : ℕ

-- the same of a sink of whose writes some fail: the numbers of those, how many writes were made, and how many failed
pub record FailingStore : Type 0 where
  pub bytes : List ℕ
  pub fails : List ℕ
  pub calls : ℕ
  pub faults : ℕ
  pub wants : ℕ

-- the call of this number is one of those that fail
abbrev pub is_failing : List ℕ → ℕ → Bool
is_failing fails call = list_any (λ k. k == call) fails

-- the source after a read that gave this answer: it counts, and takes what it gave
abbrev pub after_read : {E : Type 0} → FailingBytes → Result ℕ E → FailingBytes
after_read source (Ok n) = record source { left = drop n source.left; calls = one_more source.calls; given = n }
after_read source (Err e) = record source { calls = one_more source.calls; faults = one_more source.faults }

-- the sink after a write of a piece that gave this answer: it counts, and appends the piece unless there was a fault
abbrev pub after_write : FailingStore → List ℕ → Result ℕ SinkFault → FailingStore
after_write store piece (Ok n) = record store { bytes = store.bytes ++ piece; calls = one_more store.calls }
after_write store piece (Err Failed) = record store { calls = one_more store.calls; faults = one_more store.faults }
after_write store piece (Err Memory) = record store { calls = one_more store.calls; wants = one_more store.wants }

-- the write failed, and it was not out of memory
abbrev pub HasFailed : {T : Type 0} → Result T SinkFault → Type 0
HasFailed (Ok x) = ⊥
HasFailed (Err Failed) = ⊤
HasFailed (Err Memory) = ⊥

-- the numbers of a heap's calls that are refused, how many calls for memory there were, and how many were refused
pub record FailingHeap : Type 0 where
  pub fails : List ℕ
  pub calls : ℕ
  pub refusals : ℕ

-- the heap after a call for memory that had this answer: it counts
abbrev pub after_want : {T E : Type 0} → FailingHeap → Result T E → FailingHeap
after_want heap (Ok x) = record heap { calls = one_more heap.calls }
after_want heap (Err e) = record heap { calls = one_more heap.calls; refusals = one_more heap.refusals }
