-- A list from its end: what holds of each element, and the order of runs.
use Rattle.lx_playback.proofs.Imports.{◌≡◌, ℕ, ◌-◌, ◌<◌, ◌≤◌, zero, suc, List, [], ◌∷◌, length, reverse, All, AllByRecursion, arith}
use Rattle.lx_playback.proofs.Imports.{get_or, subst, ap, sym, ◌∙◌, Run, NewestFirst, OldestFirst, ValidRun}
use Rattle.std.proofs.lemmas.List.{get_or-reverse, length-reverse, reverse-reverse}
use Rattle.std.proofs.lemmas.List.Elements.{All-from_recursion}
use Rattle.lx_spec.proofs.Lists.{each}

from_end : {X : Type 0} (xs : List X) (k : ℕ) (d : X) → k < length xs → get_or xs k d ≡ get_or (reverse xs) (length xs - 1 - k) d
from_end {X} xs k d h =
    let long : length (reverse xs) ≡ length xs = length-reverse xs in
    ap (λ (ys : List X). get_or ys k d) (sym (reverse-reverse xs)) ∙ get_or-reverse (reverse xs) k d (omega arith)
    ∙ ap (λ n. get_or (reverse xs) (n - 1 - k) d) long

pub All-backwards : {X : Type 0} (P : X → Type 0) (xs : List X) → AllByRecursion P (reverse xs) → All P xs
All-backwards {X} P xs all = λ k d h.
    let long : length (reverse xs) ≡ length xs = length-reverse xs in
    subst P (sym (from_end xs k d h)) (All-from_recursion P (reverse xs) all (length xs - 1 - k) d (omega arith))

newer_later : (runs : List Run) (i j : ℕ) (d : Run) → NewestFirst runs → i ≤ j → j < length runs
    → (get_or runs j d).start ≤ (get_or runs i d).start
newer_later [] i j d is le lt = absurd (omega arith)
newer_later (run ∷ older) zero zero d is le lt = omega arith
newer_later (run ∷ older) zero (suc j) d is le lt = All-from_recursion (λ r. r.start ≤ run.start) older is.0 j d (omega arith)
newer_later (run ∷ older) (suc i) zero d is le lt = absurd (omega arith)
newer_later (run ∷ older) (suc i) (suc j) d is le lt = newer_later older i j d is.1 (omega arith) (omega arith)

-- the newest first from one end, the oldest first from the other
pub oldest_first : (runs : List Run) → NewestFirst (reverse runs) → OldestFirst runs
oldest_first runs is = λ i j d le lt.
    let long : length (reverse runs) ≡ length runs = length-reverse runs in
    let first = from_end runs i d (omega arith) in
    let second = from_end runs j d lt in
    let last : ℕ = length runs - 1 in
    let order = newer_later (reverse runs) (last - j) (last - i) d is (omega arith) (omega arith) in
    omega (arith, order, ap (λ (r : Run). r.start) first, ap (λ (r : Run). r.start) second)

-- a run that starts at a moment by which all others have
pub newest_now : (runs : List Run) (run : Run) (moment : ℕ) → run.start ≡ moment → AllByRecursion (ValidRun moment) runs
    → AllByRecursion (λ r. r.start ≤ run.start) runs
newest_now runs run moment now all = each _ _ runs (λ r valid. omega (arith, now, valid.started)) all
