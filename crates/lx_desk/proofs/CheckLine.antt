-- The line that `check` writes, in two pieces.
use Rattle.lx_desk.proofs.Imports.{◌≡◌, List, ℕ, [], ◌∷◌, ◌++◌, length, append_assoc, codes, decimal, Reading, check_text}

shape : (a b c d : List ℕ)
    → (codes "show cues " ++ (a ++ (codes " channels " ++ b))) ++ (codes " skipped " ++ (c ++ (codes " first " ++ (d ++ 10 ∷ []))))
    ≡ (codes "show" ++ (32 ∷ codes "cues" ++
    (32 ∷ a ++ (32 ∷ codes "channels" ++ (32 ∷ b ++ (32 ∷ codes "skipped" ++ (32 ∷ c ++ (32 ∷ codes "first" ++ (32 ∷ d))))))))) ++ 10 ∷
    []
shape a b c d = simp append_assoc

pub size_at : (cues channels : ℕ) (r : Reading) → cues ≡ length r.show.cues → channels ≡ r.show.channels
    → (codes "show cues " ++ (decimal cues ++ (codes " channels " ++ decimal channels))) ++
    (codes " skipped " ++ (decimal r.skipped ++ (codes " first " ++ (decimal r.first_skipped ++ 10 ∷ []))))
    ≡ check_text r
size_at cues channels r counts width = rw (counts, width)
    (shape (decimal (length r.show.cues)) (decimal r.show.channels) (decimal r.skipped) (decimal r.first_skipped))
