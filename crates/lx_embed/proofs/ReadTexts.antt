-- What the reader answers for a text that is lent whole.
use Rattle.lx_embed.proofs.Imports.{◌≡◌, ℕ, zero, suc, ◌+◌, ◌<◌, ◌≤◌, Option, None, Some, Ok, Err, IfSome, List, []}
use Rattle.lx_embed.proofs.Imports.{◌∷◌, ◌++◌, length, ◌⊎◌, inl, inr, refl, ap, ◌∙◌, subst, arith, ◌==◌, cond, reading_of, AnswerOf}
use Rattle.std.specs.Io.KnownBytes.{IsAtEnd}
use Rattle.std.proofs.Common.{append-nil, length-append}
use Rattle.lx_base.specs.declared.TheConstants.{INPUT_BYTES}
use Rattle.lx_io.specs.Told.{ToldBySource}
use Rattle.lx_lex.specs.declared.lines.Lines.{Lines}
use Rattle.lx_lex.specs.Lines.{LinesBetween}
use Rattle.lx_lex.specs.Unread.{unread}
use Rattle.lx_lex.proofs.FirstLines.{first_lines-longer}
use Rattle.lx_lex.proofs.TakenLines.{lines_within}
use Rattle.lx_spec.specs.declared.Form.{Form}
use Rattle.lx_spec.specs.declared.TextFault.{TextFault}
use Rattle.lx_spec.specs.CutInput.{first_lines}
use Rattle.lx_spec.specs.Text.{lines_of}
use Rattle.lx_spec.specs.Reading.{reads, lines_read}
use Rattle.lx_spec.specs.Job.{show_wanted}
use Rattle.lx_reader.specs.declared.loaded.Loaded.{Loaded}
use Rattle.lx_reader.specs.declared.fault.ShowFault.{ShowFault}
use Rattle.lx_reader.specs.declared.fault.ShowFault.TheVariants as faults
use Rattle.lx_reader.specs.HandedLines.{MeansFault, IsPastLimit}
use Rattle.lx_embed.specs.declared.engine.Engine.{Engine}
use Rattle.lx_embed.specs.Engines.{OpenedAs}
use Rattle.lx_embed.specs.Opened.{HasFault, OpensText, RefusesShow}

first_lines-within : (n : ℕ) (xs : List ℕ) → length (first_lines n xs) ≤ length xs
first_lines-within n [] = omega arith
first_lines-within zero (x ∷ xs) = omega arith
first_lines-within (suc n) (x ∷ xs) = omega (arith, first_lines-within (cond (x == 10) n (suc n)) xs)

-- the lines that are wanted are this many
wanted_is : (text : List ℕ) (n : ℕ) → lines_read (lines_of text) ≡ n → length (show_wanted text) ≡ length (first_lines n text)
wanted_is text n count = ap (λ k. length (first_lines k text)) count

show_fits : (text : List ℕ) (i n : ℕ) → i ≡ 0 → lines_read (lines_of text) ≡ n → i + length (first_lines n text) ≤ INPUT_BYTES
    → length (show_wanted text) ≤ INPUT_BYTES
show_fits text i n none count fits = omega (arith, none, fits, wanted_is text n count)

-- the lines up to a fault were handed out, or nothing is left behind them
fault_fits : (text : List ℕ) (b : Option (List ℕ)) (i j n : ℕ) (raws : List (List ℕ)) → i ≡ 0 → LinesBetween (Some text) b i j raws
    → (length raws ≡ n) ⊎ IsAtEnd b → lines_read (lines_of text) ≡ n → length (show_wanted text) ≤ INPUT_BYTES
fault_fits text None i j n raws none took whole count = absurd took.took
fault_fits text (Some y) i j n raws none took (inl here) count =
    show_fits text i n none count (lines_within (Some text) (Some y) i j raws n took (omega (arith, here)))
fault_fits text (Some y) i j n raws none took (inr end) count =
    let all : text ≡ took.bytes = took.took ∙ ap (λ v. took.bytes ++ v) end ∙ append-nil took.bytes in
    omega (arith, wanted_is text n count, first_lines-within n text, ap length all, took.count, took.within)

-- Over lines that hand the text out, of which none was taken.
module _ (text : List ℕ) (form : Form) {S : Type 0} (told : ToldBySource S) (a b : Lines S)
    (is : unread told a ≡ Some text) (none : a.taken ≡ 0) where
  fault_is : (fault : TextFault) → MeansFault told a form fault → HasFault form text fault
  fault_is fault means = record {
    reads_as = subst (λ (v : Option (List ℕ)). IfSome v (λ bytes. reads form bytes ≡ Err fault)) is means.text;
    within = fault_fits text means.unread_then a.taken means.taken_then means.count means.raws none
        (subst (λ (v : Option (List ℕ)). LinesBetween v means.unread_then a.taken means.taken_then means.raws) is means.took) means.whole
        (subst (λ (v : Option (List ℕ)). IfSome v (λ bytes. lines_read (lines_of bytes) ≡ means.count)) is means.wanted);
  }

  too_long : IfSome (unread told a) (IsPastLimit a.taken) → INPUT_BYTES < length (show_wanted text)
  too_long long =
      let past : IsPastLimit a.taken text = subst (λ (v : Option (List ℕ)). IfSome v (IsPastLimit a.taken)) is long in
      let n = lines_read (lines_of text) in
      omega (arith, none, past.long, first_lines-longer (past.n + 1) n text (omega (arith, past.wanted)), wanted_is text n refl)

  -- a show that was read is within the limit
  pub opens : (loaded : Loaded) → AnswerOf told a b form (Ok loaded) → {depth : Option ℕ} {engine : Engine} → OpenedAs depth loaded.show engine
      → OpensText form depth text engine
  opens loaded answer stands =
      let m = answer.means in
      let n = length m.front + 1 in
      let lines : IfSome (unread told a) (λ bytes. a.taken + length (first_lines n bytes) ≤ INPUT_BYTES) =
      lines_within (unread told a) (unread told b) a.taken b.taken (m.front ++ m.last ∷ []) n m.handed.took
      (omega (arith, length-append m.front (m.last ∷ []))) in
      record {
        reading = reading_of loaded;
        reads_as = subst (λ (v : Option (List ℕ)). IfSome v (λ bytes. reads form bytes ≡ Ok (reading_of loaded))) is m.text;
        within = show_fits text a.taken n none
            (subst (λ (v : Option (List ℕ)). IfSome v (λ bytes. lines_read (lines_of bytes) ≡ n)) is m.wanted)
            (subst (λ (v : Option (List ℕ)). IfSome v (λ bytes. a.taken + length (first_lines n bytes) ≤ INPUT_BYTES)) is lines);
        stands = stands;
      }

  pub refuses : (fault : ShowFault) → AnswerOf told a b form (Err fault) → (fault ≡ faults.ReadFault → ⊥) → RefusesShow form text fault
  refuses (faults.Text fault) answer never = fault_is fault answer
  refuses faults.ReadFault answer never = never refl
  refuses faults.InputTooLong answer never = too_long answer.0
  refuses faults.Memory answer never = tt
