use Rattle.lx_desk.proofs.Imports.{ℕ, List, [], ◌∷◌, codes, flat_map, range_with_len, Puts-then, Puts-fails, Puts-stops, line, made_patch, made_cue}
use Rattle.lx_desk.proofs.generator.put_show.Goals as goal

abbrev end : List ℕ
end = line (codes "ENDDATA" ∷ [])

pub returns-in_err-put_all-clause-text : goal.returns-in_err-put_all-clause-text
returns-in_err-put_all-clause-text g c =
    Puts-stops end (Puts-fails {U = Unit {0}} (flat_map (made_cue c.args.cues) (range_with_len 1 c.args.cues))
    (Puts-fails {U = Unit {0}} (flat_map made_patch (range_with_len 1 512)) c.in_err-put_all.ensures)) c.from_residual.ensures

pub returns-in_err-put_patch-clause-text : goal.returns-in_err-put_patch-clause-text
returns-in_err-put_patch-clause-text g c =
    Puts-stops end (Puts-fails {U = Unit {0}} (flat_map (made_cue c.args.cues) (range_with_len 1 c.args.cues))
    (Puts-then c.in_ok-put_all.ensures c.in_err-put_patch.ensures)) c.from_residual-in_err-put_patch.ensures

pub returns-in_err-put_cues-clause-text : goal.returns-in_err-put_cues-clause-text
returns-in_err-put_cues-clause-text g c =
    Puts-stops end (Puts-then (Puts-then c.in_ok-put_all.ensures c.in_ok-put_patch.ensures) c.in_err-put_cues.ensures.text)
    c.from_residual-in_err-put_cues.ensures

pub returns-clause-text : goal.returns-clause-text
returns-clause-text g c = Puts-then (Puts-then (Puts-then c.in_ok-put_all.ensures c.in_ok-put_patch.ensures) c.in_ok-put_cues.ensures.text)
    c.put_all-2.ensures
