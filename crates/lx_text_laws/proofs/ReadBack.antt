-- What the reader answers for a text that is in memory whole, and for the canonical text of a show.
use Rattle.lx_text_laws.proofs.Imports.{◌≡◌, ◌⊎◌, inl, inr, ℕ, ◌+◌, ◌<◌, subst, Some, Result, Ok, Err, IfSome, IfOk, IfErr, List, length}
use Rattle.lx_text_laws.proofs.Imports.{refl, arith, INPUT_BYTES, Form, Moves, TextFault, Limits, desk_limits, Show, Valid, show_text, lines_of, lines_read}
use Rattle.lx_text_laws.proofs.Imports.{Reading, reads, reads_under, HasOneDecimalMore, finer, ReadsFiner}
use Rattle.lx_io.specs.Told.{ToldBySource}
use Rattle.lx_spec.specs.Job.{show_wanted}
use Rattle.lx_lex.specs.declared.lines.Lines.{Lines}
use Rattle.lx_lex.specs.Unread.{unread}
use Rattle.lx_reader.specs.declared.loaded.Loaded.{Loaded}
use Rattle.lx_reader.specs.declared.fault.ShowFault.{ShowFault}
use Rattle.lx_reader.specs.declared.fault.ShowFault.TheVariants as faults
use Rattle.lx_reader.specs.HandedLines.{IsPastLimit}
use Rattle.lx_reader.specs.Answer.{reading_of, AnswerOf}
use Rattle.lx_text_laws.specs.ReadAs.{ComesAs}
use Rattle.lx_lex.proofs.FirstLines.{first_lines-longer}
use Rattle.lx_text_laws.proofs.WholeText.{reads_back}
use Rattle.lx_text_laws.proofs.FinerShow.{old_texts}

-- Over lines that hand the text out, of which none was taken.
module _ (text : List ℕ) (form : Form) {S : Type 0} (told_in : ToldBySource S) (a b : Lines S)
    (is : unread told_in a ≡ Some text) (none : a.taken ≡ 0) where
  too_long : IfSome (unread told_in a) (IsPastLimit a.taken) → INPUT_BYTES < length (show_wanted text)
  too_long long =
      let past : IsPastLimit a.taken text = rw is at long in
      omega (arith, none, past.long, first_lines-longer (past.n + 1) (lines_read (lines_of text)) text (omega (arith, past.wanted)))

  pub text_read : (r : Result Loaded ShowFault) → AnswerOf told_in a b form r → (r ≡ Err faults.ReadFault → ⊥) → ComesAs text (reads form text) r
  text_read (Ok loaded) answer never = let told : reads form text ≡ Ok (reading_of loaded) = rw is at answer.means.text in told
  text_read (Err (faults.Text fault)) answer never = let told : reads form text ≡ Err fault = rw is at answer.text in told
  text_read (Err faults.ReadFault) answer never = absurd (never refl)
  text_read (Err faults.InputTooLong) answer never = too_long answer.0
  text_read (Err faults.Memory) answer never = tt

  module _ (r : Result Loaded ShowFault) (answer : AnswerOf told_in a b form r) (never : r ≡ Err faults.ReadFault → ⊥) where
    as_finer : (before : Limits) (v : Result Reading TextFault) → IfOk v (ReadsFiner desk_limits before form text)
        → IfOk v (λ reading. ComesAs text (Ok (finer reading)) r)
    as_finer before (Ok reading) told = subst (λ meant. ComesAs text meant r) told.reading_now (text_read r answer never)
    as_finer before (Err fault) told = tt

    pub old_text_read : (before : Limits) → HasOneDecimalMore desk_limits before
        → IfOk (reads_under before form text) (λ reading. ComesAs text (Ok (finer reading)) r)
    old_text_read before more = as_finer before (reads_under before form text) (old_texts desk_limits before form text more)

-- The canonical text of a show.
abbrev same : Show → Reading
same show = record { show = show; skipped = 0; first_skipped = 0 }

module _ (show : Show) (valid : Valid show) (text : List ℕ) (is : text ≡ show_text show) where
  back : (r : Result Loaded ShowFault) → ComesAs text (reads Moves text) r → ComesAs (show_text show) (Ok (same show)) r
  back r told =
      let here = rw is at told in rw (reads_back show valid).reading at here

  pub back_same : (r : Result Loaded ShowFault) → ComesAs text (reads Moves text) r → IfOk r (λ loaded. reading_of loaded ≡ same show)
  back_same (Ok loaded) told = let here = back (Ok loaded) told in cc
  back_same (Err fault) told = tt

  pub back_fault : (r : Result Loaded ShowFault) → ComesAs text (reads Moves text) r
      → IfErr r (λ fault. (fault ≡ faults.Memory) ⊎ ((fault ≡ faults.InputTooLong) × (INPUT_BYTES < length (show_text show))))
  back_fault (Ok loaded) told = tt
  back_fault (Err (faults.Text fault)) told = let here = back (Err (faults.Text fault)) told in absurd cc
  back_fault (Err faults.ReadFault) told = absurd told
  back_fault (Err faults.InputTooLong) told =
      inr (refl, subst (λ bytes. INPUT_BYTES < length bytes) (reads_back show valid).bytes (back (Err faults.InputTooLong) told))
  back_fault (Err faults.Memory) told = inl refl
