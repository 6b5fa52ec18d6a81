use Rattle.lx_script.proofs.Imports.{[], ◌∷◌, ◌++◌, ◌∙◌, ap, append_assoc, decimal, Puts-is, Puts-stops, Puts-then}
use Rattle.lx_spec.specs.ShowText.{cue_number_text}
use Rattle.lx_script.proofs.reply.put_in_cue.Goals as goal

pub returns-in_err-put_all : goal.returns-in_err-put_all
returns-in_err-put_all g c = Puts-stops _ c.in_err-put_all.ensures c.from_residual.ensures

pub returns-in_err-put_cue_no_and : goal.returns-in_err-put_cue_no_and
returns-in_err-put_cue_no_and g c =
    Puts-then c.in_ok-put_all.ensures
    (Puts-is (Puts-stops (decimal c.args.number ++ 10 ∷ []) c.in_err-put_cue_no_and.ensures c.from_residual-in_err-put_cue_no_and.ensures)
    (simp append_assoc))

pub returns : goal.returns
returns g c =
    Puts-then c.in_ok-put_all.ensures
    (Puts-is (Puts-then c.in_ok-put_cue_no_and.ensures c.put_count_and.ensures)
    (ap (λ n. (cue_number_text c.args.cue ++ 32 ∷ []) ++ (decimal n ++ 10 ∷ [])) c.from.ensures ∙ simp append_assoc))
