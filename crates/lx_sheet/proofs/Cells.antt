-- Levels at their places in a row and in the block.
use Rattle.lx_sheet.proofs.Imports.{◌≡◌, ◌≢◌, ℕ, zero, suc, ◌+◌, ◌-◌, ◌*◌, ◌<◌, ◌≤◌, List, ◌∷◌, length, get_or, set, take, drop, take_at, drop_at}
use Rattle.lx_sheet.proofs.Imports.{refl, ◌∙◌, sym, ap, subst, inl, inr, arith, mul-le-mul_right, cases_lt, get_or-take, get_or-drop, get_or_past}
use Rattle.lx_sheet.proofs.Imports.{get_or-set_same, get_or-set_other, length-take, drop-take, Agree, level_in_look, last_value, CUES, width}
use borrow.Rule.Slice.PartMut.{put_mid}
use Rattle.std.proofs.lemmas.Slice.{take-put_mid_below, drop-put_mid}
use Rattle.std.proofs.lemmas.Nat.{same_from_place}
use Rattle.lx_sheet.specs.Block.{cell}

-- the level of a channel stands below its number
pub level_in_look_is : (levels : List ℕ) (c : ℕ) → 1 ≤ c → level_in_look levels c ≡ get_or levels (c - 1) 0
level_in_look_is levels c least =
    let next : suc (c - 1) ≡ c = omega arith in subst (λ (n : ℕ). get_or (0 ∷ levels) n 0 ≡ get_or levels (c - 1) 0) next refl

-- a level written
pub level_in_look-set : (levels : List ℕ) (chan c level : ℕ) → 1 ≤ chan → chan ≤ length levels → c ≡ chan
    → level_in_look (set levels (chan - 1) level) c ≡ level
level_in_look-set levels chan c level least most same =
    level_in_look_is (set levels (chan - 1) level) c (omega arith) ∙ ap (λ n. get_or (set levels (chan - 1) level) (n - 1) 0) same
    ∙ get_or-set_same levels (chan - 1) level 0 (omega arith)

pub level_in_look-other : (levels : List ℕ) (chan c level : ℕ) → 1 ≤ chan → c ≢ chan
    → level_in_look (set levels (chan - 1) level) c ≡ level_in_look levels c
level_in_look-other levels chan zero level least other = refl
level_in_look-other levels chan (suc c) level least other = get_or-set_other levels (chan - 1) c level 0 (λ same. other (omega arith))

-- the level in a row stands in the block
pub cell_is : (channels : ℕ) (levels : List ℕ) (k c : ℕ) → 1 ≤ c → c ≤ channels
    → cell channels levels k c ≡ get_or levels (k * width channels + (c - 1)) 0
unfolding cell
cell_is channels levels k c least most =
    level_in_look_is (take channels (drop (k * width channels) levels)) c least
    ∙ get_or-take channels (drop (k * width channels) levels) (c - 1) 0 (omega arith) ∙ get_or-drop (k * width channels) levels (c - 1) 0

-- what is no channel is at 0
pub cell_past : (channels : ℕ) (levels : List ℕ) (k c : ℕ) → channels < c → cell channels levels k c ≡ 0
unfolding cell
cell_past channels levels k c more =
    level_in_look_is (take channels (drop (k * width channels) levels)) c (omega arith)
    ∙ get_or_past (take channels (drop (k * width channels) levels)) (c - 1) 0
    (omega (arith, length-take channels (drop (k * width channels) levels)))

-- a cell is the same in two blocks that have its level at one place
pub cell_same : (channels : ℕ) (new old : List ℕ) (k c : ℕ)
    → (1 ≤ c → c ≤ channels → get_or new (k * width channels + (c - 1)) 0 ≡ get_or old (k * width channels + (c - 1)) 0)
    → cell channels new k c ≡ cell channels old k c
unfolding cell
cell_same channels new old k zero same = refl
cell_same channels new old k (suc c) same = elim (cases_lt channels (suc c)) [
  | inl past ↦ cell_past channels new k (suc c) past ∙ sym (cell_past channels old k (suc c) past)
  | inr most ↦ cell_is channels new k (suc c) (omega arith) most ∙ same (omega arith) most ∙ sym (cell_is channels old k (suc c) (omega arith) most)
]

-- a level written into the block
pub cell-set_here : (channels : ℕ) (levels : List ℕ) (k c level : ℕ) → 1 ≤ c → c ≤ channels → k * width channels + (c - 1) < length levels
    → cell channels (set levels (k * width channels + (c - 1)) level) k c ≡ level
cell-set_here channels levels k c level least most within = cell_is channels (set levels (k * width channels + (c - 1)) level) k c least
    most
    ∙ get_or-set_same levels (k * width channels + (c - 1)) level 0 within

pub cell-set_other : (channels : ℕ) (levels : List ℕ) (k i chan c level : ℕ) → 1 ≤ chan → chan ≤ channels → (i ≡ k → c ≡ chan → ⊥)
    → cell channels (set levels (k * width channels + (chan - 1)) level) i c ≡ cell channels levels i c
cell-set_other channels levels k i chan c level least most other = cell_same channels _ levels i c (λ low high.
    get_or-set_other levels (k * width channels + (chan - 1)) (i * width channels + (c - 1)) level 0 (λ same.
    let both = same_from_place i (c - 1) k (chan - 1) (width channels) (omega arith) (omega arith) same in
    other both.0 (omega (arith, both.1))))

-- a row written into the block
pub row_here : {channels : ℕ} (k : ℕ) (levels look : List ℕ) (place : ℕ) → place * width channels ≤ length levels → length look ≡ channels
    → take channels (drop (place * width channels) (put_mid (place * width channels) k levels look)) ≡ look
row_here {channels} k levels look place within long = ap (take channels) (drop_at (take (place * width channels) levels) _
    (place * width channels) (omega (arith, length-take (place * width channels) levels))) ∙ take_at look _ channels long

pub row_other : {channels : ℕ} (k : ℕ) (levels look : List ℕ) (i place : ℕ) → k ≡ channels → place * width channels ≤ length levels
    → length look ≡ channels → i ≢ place → take channels (drop (i * width channels) (put_mid (place * width channels) k levels look))
    ≡ take channels (drop (i * width channels) levels)
row_other {channels} k levels look i place whole within long other = elim (cases_lt i place) [
  | inl less ↦
      let below = mul-le-mul_right {m = suc i} {n = place} (width channels) less in
      sym (drop-take (i * width channels) channels _) ∙ ap (drop (i * width channels)) (take-put_mid_below (place * width channels) k levels
      look (i * width channels + channels) (omega (arith, below)) within)
      ∙ drop-take (i * width channels) channels levels
  | inr more ↦
      let above = mul-le-mul_right {m = suc place} {n = i} (width channels) (omega (arith, other, more)) in
      ap (take channels) (drop-put_mid (place * width channels) k levels look (i * width channels) (omega (arith, above, whole)) within
      (omega (arith, whole, long)))
]

-- of some values the last is that at the place before their count
pub last_value_some : (count : ℕ) (f : ℕ → ℕ) → count ≢ 0 → last_value count f ≡ f (count - 1)
last_value_some zero f some = absurd (some refl)
last_value_some (suc k) f some = let e : k ≡ suc k - 1 = omega arith in ap f e

-- from the start of a row to its end
pub width_of : (row channels : ℕ) → (row * width channels + channels) - row * width channels ≡ channels
width_of row channels = omega arith

-- two rows that agree at each place
pub same_look : (a b : List ℕ) → length a ≡ length b → Agree a b 0 (length a) → (c : ℕ) → level_in_look a c ≡ level_in_look b c
same_look a b long agree zero = refl
same_look a b long agree (suc k) =
    elim (cases_lt k (length a)) [
      | inl within ↦ agree k (omega arith) within
      | inr past ↦ get_or_past a k 0 past ∙ sym (get_or_past b k 0 (omega arith))
    ]

-- a row of the block begins below its end
pub within_block : (row channels : ℕ) → row < CUES → row * width channels ≤ CUES * width channels
within_block row channels within = mul-le-mul_right {m = row} {n = CUES} (width channels) (omega (arith, within))
