-- What holds of each job holds of the one that words name.
use Rattle.lx_program.proofs.Imports.{Option, Some, None, IfSome, List, ℕ, Form, Job, Script, Crew, Live, given_to, inl}
use Rattle.std.proofs.Common.{◌⊎◌, inr}
use Rattle.lx_program.specs.NamedJob.{NamesNoCrew, NamesNoRun, OfCrew, OfRun}

each_given : (left : Option (List ℕ)) (P : List ℕ → Type 0) → ((bytes : List ℕ) → P bytes) → IfSome left P
each_given None P p = tt
each_given (Some bytes) P p = p bytes

pub of_each_job : (o : Option Job) (left : Option (List ℕ)) (P : Job → List ℕ → Type 0) → ((job : Job) (bytes : List ℕ) → P job bytes)
    → IfSome o (λ job. IfSome (given_to job left) (P job))
of_each_job None left P p = tt
of_each_job (Some job) left P p = each_given (given_to job left) (P job) (p job)

-- What holds of each live run holds of the words, and so does anything where they name none.
pub of_any_run : (o : Option Job) (left : Option (List ℕ)) (P : ℕ → Form → List ℕ → Type 0)
    → NamesNoRun o ⊎ ((universes : ℕ) (form : Form) (bytes : List ℕ) → P universes form bytes) → OfRun o left P
of_any_run (Some (Script (Live universes) form)) left P (inl none) = absurd none
of_any_run (Some (Script (Live universes) form)) left P (inr p) = each_given left (P universes form) (p universes form)
of_any_run o left P which = tt

-- and of a crew
pub of_any_crew : (o : Option Job) (left : Option (List ℕ)) (P : ℕ → Form → List ℕ → Type 0)
    → NamesNoCrew o ⊎ ((count : ℕ) (form : Form) (bytes : List ℕ) → P count form bytes) → OfCrew o left P
of_any_crew (Some (Crew count form)) left P (inl none) = absurd none
of_any_crew (Some (Crew count form)) left P (inr p) = each_given left (P count form) (p count form)
of_any_crew o left P which = tt
