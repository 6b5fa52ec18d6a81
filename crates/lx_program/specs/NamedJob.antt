-- What is said of the job that the words name.
use Rattle.std.specs.Prelude.{ℕ, ◌≤◌, Option, Some, IfSome, List}
use Rattle.lx_base.specs.declared.TheConstants.{UNIVERSES, OPERATORS}
use Rattle.lx_spec.specs.declared.Form.{Form}
use Rattle.lx_spec.specs.declared.Job.{Job}
use Rattle.lx_spec.specs.declared.Job.TheVariants.{Script, Crew}
use Rattle.lx_spec.specs.declared.ScriptKind.TheVariants.{Live}
use Rattle.lx_spec.specs.Job.{job_of, given_to}

-- Of the job that the words name, and of the bytes that it is given.
abbrev pub OfJob : List (List ℕ) → Option (List ℕ) → (Job → List ℕ → Type 0) → Type 0
OfJob words left P = IfSome (job_of words) (λ job. IfSome (given_to job left) (P job))

-- the same of the words, where they name a live run and the input tells its bytes
abbrev pub OfRun : Option Job → Option (List ℕ) → (ℕ → Form → List ℕ → Type 0) → Type 0
OfRun (Some (Script (Live universes) form)) left P = IfSome left (P universes form)
OfRun other left P = Unit {0}

-- of the words, where they name a crew and the input tells its bytes
abbrev pub OfCrew : Option Job → Option (List ℕ) → (ℕ → Form → List ℕ → Type 0) → Type 0
OfCrew (Some (Crew count form)) left P = IfSome left (P count form)
OfCrew other left P = Unit {0}

-- how many operators are in use
abbrev pub in_use : Option Job → ℕ
in_use (Some (Crew count form)) = count
in_use other = 0

-- what plays live plays 1 to all universes, and a crew has 1 to all operators
abbrev pub JobInRange : Job → Type 0
JobInRange (Script (Live universes) form) = (1 ≤ universes) × (universes ≤ UNIVERSES)
JobInRange (Crew operators form) = (1 ≤ operators) × (operators ≤ OPERATORS)
JobInRange other = Unit {0}

-- the words name no live run, and no crew
abbrev pub NamesNoRun : Option Job → Type 0
NamesNoRun (Some (Script (Live universes) form)) = ⊥
NamesNoRun other = Unit {0}

abbrev pub NamesNoCrew : Option Job → Type 0
NamesNoCrew (Some (Crew count form)) = ⊥
NamesNoCrew other = Unit {0}
