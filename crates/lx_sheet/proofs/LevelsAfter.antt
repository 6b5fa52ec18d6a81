-- The levels after a list of cues, one cue on.
use Rattle.lx_sheet.proofs.Imports.{◌≡◌, ℕ, ◌+◌, ◌<◌, true, false, cond, List, [], ◌∷◌, ◌++◌, length, get_or, take, refl, ◌∙◌, sym, ap, Some, find}
use Rattle.lx_sheet.proofs.Imports.{reverse, option_map_or, take_more, reverse-append, Cue, decides, level_in, tracked_on}
use Rattle.lx_sheet.specs.After.{level_after}

pub level_after-nil : (c : ℕ) → level_after [] c ≡ 0
unfolding level_after
level_after-nil c = refl

pub level_after-more : (cues : List Cue) (cue : Cue) (c : ℕ) → level_after (cues ++ cue ∷ []) c ≡ tracked_on cue c (level_after cues c)
unfolding level_after
level_after-more cues cue c =
    ap (λ (xs : List Cue). option_map_or (λ x. level_in x c) (find (λ x. decides x c) xs) 0) (reverse-append cues (cue ∷ []))
    ∙ elim (decides cue c) as (λ b. option_map_or (λ x. level_in x c) (cond b (Some cue) (find (λ x. decides x c) (reverse cues))) 0
    ≡ cond b (level_in cue c) (option_map_or (λ x. level_in x c) (find (λ x. decides x c) (reverse cues)) 0))
    [ true ↦ refl | false ↦ refl ]

-- the levels in a cue follow from those in the cues before it
pub level_after-take : (cues : List Cue) (k : ℕ) (cue : Cue) (c : ℕ) → k < length cues → cue ≡ get_or cues k cue
    → level_after (take (k + 1) cues) c ≡ tracked_on cue c (level_after (take k cues) c)
level_after-take cues k cue c within is =
    ap (λ (xs : List Cue). level_after xs c) (take_more cues k cue within ∙ ap (λ (x : Cue). take k cues ++ x ∷ []) (sym is))
    ∙ level_after-more (take k cues) cue c
