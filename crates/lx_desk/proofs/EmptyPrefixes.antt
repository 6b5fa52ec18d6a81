-- Where nothing was written, a prefix of what a job writes was.
use Rattle.lx_desk.proofs.Imports.{Option, List, ℕ, [], Moves, Job, Check, Sheet, Make, Script, Crew, Render, reads, made_input}
use Rattle.lx_desk.proofs.Imports.{arith, output_of, JobAllows, None, Some, WritesFront}
use Rattle.lx_desk.proofs.Imports.{◌≡◌, AppendsFront, AppendsFront-from, failed_count, IsAtMost, JobFailures, Ok, Err, Reading, Result, ScriptAllows, ScriptKind, subst, sym}
use Rattle.lx_desk.proofs.Imports.{TextFault}
use Rattle.std.proofs.KnownBytes.{Appends-nil}

pub front_nothing : (a : Option (List ℕ)) (text : List ℕ) → AppendsFront a a text
front_nothing a text = AppendsFront-from a a text 0 (Appends-nil a)

-- no attempt failed
pub none_failed : (kind : ScriptKind) (bytes : List ℕ) (r : Result Reading TextFault) → ScriptAllows kind bytes [] r
none_failed kind bytes (Ok reading) = tt
none_failed kind bytes (Err fault) = tt

-- which is at most any number
pub none_most : (most : Option ℕ) → IsAtMost most (failed_count [])
none_most None = tt
none_most (Some m) = omega arith

pub none_of_job : (most : Option ℕ) (job : Job) (bytes : List ℕ) → JobAllows job bytes [] → JobFailures most job bytes []
none_of_job most job bytes allows = record { allows = allows; few = none_most most }

pub no_failures : (job : Job) (bytes : List ℕ) → JobAllows job bytes []
no_failures (Check form) bytes = tt
no_failures (Sheet form) bytes = tt
no_failures (Make n) bytes = none_failed Render (made_input n) (reads Moves (made_input n))
no_failures (Script kind form) bytes = none_failed kind bytes (reads form bytes)
no_failures (Crew operators form) bytes = tt

pub unwritten : (most : Option ℕ) (job : Job) (bytes : List ℕ) (h : Option (List ℕ)) → WritesFront most job bytes h h
unwritten most job bytes h = record { failures = []; allows = none_of_job most job bytes (no_failures job bytes); text = front_nothing h (output_of job bytes []) }

-- and where what is held stands as it was
pub unwritten_as : (most : Option ℕ) (job : Job) (bytes : List ℕ) (h h' : Option (List ℕ)) → h' ≡ h → WritesFront most job bytes h h'
unwritten_as most job bytes h h' kept = subst (λ (v : Option (List ℕ)). WritesFront most job bytes h v) (sym kept) (unwritten most job bytes h)
