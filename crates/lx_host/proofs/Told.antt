-- A refused show is told by the report of its fault.
use Rattle.lx_host.proofs.Imports.{◌≡◌, inl, inr, ℕ, ◌<◌, List, length, refl, arith, Form, Refused}
use Rattle.lx_base.specs.declared.TheConstants.{INPUT_BYTES}
use Rattle.lx_reader.specs.declared.fault.ShowFault.{ShowFault}
use Rattle.lx_reader.specs.declared.fault.ShowFault.TheVariants as faults
use Rattle.lx_spec.specs.Job.{show_wanted}
use Rattle.lx_embed.specs.Opened.{RefusesShow}
use Rattle.lx_host.specs.declared.status.ShowReport.{ShowReport}
use Rattle.lx_host.specs.declared.status.TheConstants.{MEMORY, SHOW_REFUSED, TOO_LONG}
use Rattle.lx_host.specs.Calls.{IsOpening, SetsReport}
use Rattle.lx_host.specs.Told.{fault_status, show_report}

-- what the status and the report say of the fault
pub record IsTold (form : Form) (text : List ℕ) (fault : ShowFault) (s : ℕ) (before now : ShowReport) : Type 0 where
  pub refused : s ≡ SHOW_REFUSED → Refused form text now
  pub long : s ≡ TOO_LONG → INPUT_BYTES < length (show_wanted text)
  pub memory : s ≡ MEMORY → fault ≡ faults.Memory
  pub statuses : IsOpening s
  pub report : SetsReport s before now

-- a fault is told by a status of its own, which is neither OK nor OPEN
by_itself : (form : Form) (text : List ℕ) (fault : ShowFault) (before : ShowReport) → RefusesShow form text fault
    → IsTold form text fault (fault_status fault) before (show_report fault)
by_itself form text (faults.Text fault) before by = record {
  refused = λ is. record { fault = fault; has = by; told = refl };
  long = λ is. absurd (omega (arith, is));
  memory = λ is. absurd (omega (arith, is));
  statuses = inr (inr (inl refl));
  report = record {
    unset = λ is. elim is [ inl ok ↦ absurd (omega (arith, ok)) | inr was_open ↦ absurd (omega (arith, was_open)) ];
    none = λ is. elim is [ inl long ↦ absurd (omega (arith, long)) | inr memory ↦ absurd (omega (arith, memory)) ];
  };
}
by_itself form text faults.ReadFault before by = absurd by
by_itself form text faults.InputTooLong before by = record {
  refused = λ is. absurd (omega (arith, is));
  long = λ is. by;
  memory = λ is. absurd (omega (arith, is));
  statuses = inr (inr (inr (inl refl)));
  report = record {
    unset = λ is. elim is [ inl ok ↦ absurd (omega (arith, ok)) | inr was_open ↦ absurd (omega (arith, was_open)) ];
    none = λ is. refl;
  };
}
by_itself form text faults.Memory before by = record {
  refused = λ is. absurd (omega (arith, is));
  long = λ is. absurd (omega (arith, is));
  memory = λ is. refl;
  statuses = inr (inr (inr (inr refl)));
  report = record {
    unset = λ is. elim is [ inl ok ↦ absurd (omega (arith, ok)) | inr was_open ↦ absurd (omega (arith, was_open)) ];
    none = λ is. refl;
  };
}

pub fault_told : (form : Form) (text : List ℕ) (fault : ShowFault) (s : ℕ) (before now : ShowReport) → s ≡ fault_status fault
    → now ≡ show_report fault → RefusesShow form text fault → IsTold form text fault s before now
fault_told form text fault s before now is set by =
    rw (is, set) (by_itself form text fault before by)
