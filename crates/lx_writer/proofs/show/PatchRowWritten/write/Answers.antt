use Rattle.lx_writer.proofs.Imports.{[], ◌∷◌, ◌++◌, ap, codes, decimal, Puts-then, Puts-stops, Puts-is, at_text}
use Rattle.lx_writer.proofs.TextPieces.{patch_is}
use Rattle.lx_writer.proofs.show.PatchRowWritten.write.Goals as goal

pub returns-in_err-put_at_level : goal.returns-in_err-put_at_level
returns-in_err-put_at_level g c =
    Puts-is (Puts-stops (10 ∷ [])
    (Puts-then
    (Puts-is c.in_ok-put_between.ensures (ap (λ n. codes "PATCH 1 " ++ decimal n ++ 60 ∷ []) c.get.ensures.value))
    (Puts-is c.in_err-put_at_level.ensures (ap (λ n. at_text n c.args.self.now.level) c.get-2.ensures.value)))
    c.from_residual-in_err-put_at_level.ensures)
    (patch_is c.args.self.now)
