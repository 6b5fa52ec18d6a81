-- Tracking on one channel along a list of cues, from the first to the last, and lists sorted by number.
use Rattle.lx_spec.proofs.Imports.{◌≡◌, ℕ, ◌<◌, ◌≤◌, Bool, true, false, cond, List, [], ◌∷◌, ◌++◌, Some, None, refl, ◌∙◌, sym}
use Rattle.lx_spec.proofs.Imports.{ap, arith, Option, find, reverse, nat_le, ◌==◌, ◌&&◌, option_or, option_map_or, AllByRecursion, reverse-cons}
use Rattle.lx_spec.proofs.Imports.{nat_tests, find-append, Cue, Show, decides, level_in, tracked}
use Rattle.lx_spec.proofs.Comparisons.{le_false, le_true}

-- the level in a cue, from the one before
abbrev pub tracked_on : ℕ → Cue → ℕ → ℕ
tracked_on c cue level = cond (decides cue c) (level_in cue c) level

-- the level at a number after these cues, from a level before them
abbrev pub along : ℕ → ℕ → ℕ → List Cue → ℕ
along n c level [] = level
along n c level (cue ∷ cues) = along n c (cond (nat_le cue.number n) (tracked_on c cue level) level) cues

one_found : (b d : Bool) (cue : Cue) (c level : ℕ)
    → option_map_or (λ x. level_in x c) (cond (b && d) (Some cue) None) level ≡ cond b (cond d (level_in cue c) level) level
one_found true true cue c level = refl
one_found true false cue c level = refl
one_found false d cue c level = refl

map_or_or : (f : Cue → ℕ) (a b : Option Cue) (level : ℕ)
    → option_map_or f (option_or a b) level ≡ option_map_or f a (option_map_or f b level)
map_or_or f None b level = refl
map_or_or f (Some x) b level = refl

along_is : (n c level : ℕ) (cues : List Cue)
    → along n c level cues ≡ option_map_or (λ cue. level_in cue c) (find (λ cue. nat_le cue.number n && decides cue c) (reverse cues)) level
along_is n c level [] = refl
along_is n c level (cue ∷ cues) =
    let test : Cue → Bool = λ x. nat_le x.number n && decides x c in
    let f : Cue → ℕ = λ x. level_in x c in
    along_is n c (cond (nat_le cue.number n) (tracked_on c cue level) level) cues
    ∙ ap (λ l. option_map_or f (find test (reverse cues)) l) (sym (one_found (nat_le cue.number n) (decides cue c) cue c level))
    ∙ sym (ap (λ (xs : List Cue). option_map_or f (find test xs) level) (reverse-cons cue cues)
    ∙ ap (λ (o : Option Cue). option_map_or f o level) (find-append test (reverse cues) (cue ∷ []))
    ∙ map_or_or f (find test (reverse cues)) (find test (cue ∷ [])) level)

-- the tracked level goes along the cues of the show
pub tracked-along : (show : Show) (n c : ℕ) → tracked show n c ≡ along n c 0 show.cues
tracked-along show n c = sym (along_is n c 0 show.cues)

pub along-append : (n c level : ℕ) (xs ys : List Cue) → along n c level (xs ++ ys) ≡ along n c (along n c level xs) ys
along-append n c level [] ys = refl
along-append n c level (x ∷ xs) ys = along-append n c (cond (nat_le x.number n) (tracked_on c x level) level) xs ys

number_is : (a n : ℕ) → (a == n) ≡ true → a ≡ n
number_is a n same = grind (arith, nat_tests)

-- a cue above the number changes nothing at it, and one up to it does
pub step_in : (n c level : ℕ) (cue : Cue) → cue.number ≤ n
    → cond (nat_le cue.number n) (tracked_on c cue level) level ≡ tracked_on c cue level
step_in n c level cue le = ap (λ b. cond b (tracked_on c cue level) level) (le_true cue.number n le)

pub step_out : (n c level : ℕ) (cue : Cue) → n < cue.number → cond (nat_le cue.number n) (tracked_on c cue level) level ≡ level
step_out n c level cue less = ap (λ b. cond b (tracked_on c cue level) level) (le_false cue.number n less)

-- cues above the number change nothing at it
pub along-past : (n c level : ℕ) (cues : List Cue) → AllByRecursion (λ cue. n < cue.number) cues → along n c level cues ≡ level
along-past n c level [] all = refl
along-past n c level (cue ∷ cues) all = ap (λ l. along n c l cues) (step_out n c level cue all.0) ∙ along-past n c level cues all.1

-- cues up to two numbers make the same level at both
pub along-same : (m n c level : ℕ) (cues : List Cue) → AllByRecursion (λ cue. cue.number ≤ m) cues
    → AllByRecursion (λ cue. cue.number ≤ n) cues → along m c level cues ≡ along n c level cues
along-same m n c level [] low high = refl
along-same m n c level (cue ∷ cues) low high =
    ap (λ l. along m c l cues) (step_in m c level cue low.0 ∙ sym (step_in n c level cue high.0))
    ∙ along-same m n c (cond (nat_le cue.number n) (tracked_on c cue level) level) cues low.1 high.1
