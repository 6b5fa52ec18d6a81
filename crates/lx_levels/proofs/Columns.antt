-- Stacks laid out plane by plane.
use Rattle.lx_levels.proofs.Imports.{◌≡◌, ◌≢◌, ◌⊎◌, ℕ, zero, suc, ◌+◌, ◌-◌, ◌*◌, ◌<◌, ◌≤◌, List, ◌∷◌, drop, length, min, arith, get_or, set}
use Rattle.lx_levels.proofs.Imports.{replicate, refl, ◌∙◌, ap, sym, subst, inl, inr, All, length-set, cases_lt, get_or-set_other, get_or_read}
use Rattle.lx_levels.proofs.Imports.{same_lists, get_or_past, get_or-replicate, Fade, pushed, stack_column, no_fade, drop-stack_column, in_block}
use Rattle.lx_levels.proofs.Imports.{read_is, NEVER, Stack, no_stack}
use Rattle.std.proofs.lemmas.List.FromFn.{length-map-range_with_len, get_or-map-range_with_len}
use Rattle.std.proofs.lemmas.Nat.{same_from_place}
use Rattle.lx_levels.specs.declared.racks.Foot.{Foot}
use Rattle.lx_levels.specs.declared.racks.Racks.TheInside.{Inside}
use Rattle.lx_levels.specs.Columns.{IsLaidOut, foot_at, stack_on, stack_at_place, stacks_of}
use Rattle.lx_levels.proofs.Written.{after_set}

length-stack_column : (block : List Fade) (channels k n : ℕ) → length (stack_column block channels k n) ≡ n
length-stack_column block channels k zero = refl
length-stack_column block channels k (suc n) = ap suc (length-stack_column block channels k n)

-- of two blocks that agree at its places
column_same : (new old : List Fade) (channels k n : ℕ)
    → ((j : ℕ) → j < n → get_or new (j * channels + k) no_fade ≡ get_or old (j * channels + k) no_fade)
    → stack_column new channels k n ≡ stack_column old channels k n
column_same new old channels k zero same = refl
column_same new old channels k (suc n) same =
    rw (same n (omega arith), column_same new old channels k n (λ j less. same j (omega arith))) refl

-- where a fade is written elsewhere, over a block whose entries are those of the one before
pub column_apart : (old grown : List Fade) (channels k kept : ℕ) (fade : Fade) (i n : ℕ) → k < channels
    → ((j : ℕ) → get_or grown j no_fade ≡ get_or old j no_fade) → i < channels → ((j : ℕ) → j < n → j ≡ kept → i ≢ k)
    → stack_column (set grown (kept * channels + k) fade) channels i n ≡ stack_column old channels i n
column_apart old grown channels k kept fade i n within same less apart = column_same (set grown (kept * channels + k) fade) old channels i n
    (λ j below. get_or-set_other grown (kept * channels + k) (j * channels + i) fade no_fade (λ e.
    let both = same_from_place j i kept k channels less within e in apart j below both.0 both.1) ∙ same (j * channels + i))

pub length-stacks_of : (channels : ℕ) (feet : List Foot) (block : List Fade) → length (stacks_of channels feet block) ≡ channels
length-stacks_of channels feet block = length-map-range_with_len (stack_at_place channels feet block) 0 channels

-- one channel's stack was changed
pub stacks_set : (channels : ℕ) (feet after_feet : List Foot) (block after : List Fade) (k : ℕ) (stack : Stack) → k < channels
    → stack_at_place channels after_feet after k ≡ stack
    → ((i : ℕ) → i < channels → i ≢ k → stack_at_place channels after_feet after i ≡ stack_at_place channels feet block i)
    → stacks_of channels after_feet after ≡ set (stacks_of channels feet block) k stack
stacks_set channels feet after_feet block after k stack within here others =
    let old : List Stack = stacks_of channels feet block in
    let new : List Stack = stacks_of channels after_feet after in
    let long : length new ≡ channels = length-stacks_of channels after_feet after in
    let was : length old ≡ channels = length-stacks_of channels feet block in
    same_lists new (set old k stack) (long ∙ sym was ∙ sym (length-set old k stack)) (λ i d less.
    let place : i < channels = omega (arith, long, less) in
    get_or-map-range_with_len (stack_at_place channels after_feet after) 0 channels i i d place (omega arith)
    ∙ after_set (λ j s. stack_at_place channels after_feet after j ≡ s) old k stack d i (omega (arith, was, within)) here (λ apart.
    others i place apart
    ∙ sym (get_or-map-range_with_len (stack_at_place channels feet block) 0 channels i i d place (omega arith))))

-- none of the channels has a fade, over level 0
pub opened_empty : (channels : ℕ) (feet : List Foot) (block : List Fade) → feet ≡ replicate channels (record { bottom = 0; count = 0 })
    → (k : ℕ) → get_or (stacks_of channels feet block) k no_stack ≡ no_stack
opened_empty channels feet block none k =
    elim (cases_lt k channels) [
      | inl within ↦
          get_or-map-range_with_len (stack_at_place channels feet block) 0 channels k k no_stack within (omega arith)
          ∙ ap (λ foot. stack_on channels foot block k) (ap (λ (fs : List Foot). foot_at fs k) none
          ∙ get_or-replicate {A = Foot} channels k (record { bottom = 0; count = 0 }) (record { bottom = 0; count = 0 }) within)
      | inr past ↦ get_or_past (stacks_of channels feet block) k no_stack (omega (arith, past, length-stacks_of channels feet block))
    ]

-- before the lesser of a wake and a start that comes
pub before_lesser : {x wake start lesser : ℕ} → lesser ≡ min wake start → start < NEVER → (x < lesser) ⊎ (lesser ≡ NEVER)
    → ((x < wake) ⊎ (wake ≡ NEVER)) × (x < start)
before_lesser is comes until = elim until [
  | inl before ↦ (inl (omega (arith, is, before)), omega (arith, is, before))
  | inr never ↦ absurd (omega (arith, is, never, comes))
]

-- the newest fade that was read in a column
pub newest_read : (channels k count left : ℕ) (block : List Fade) (fade : Fade) → k < channels → count * channels ≤ length block
    → left ≤ count → 0 < left → All (λ f. f.start < NEVER) block → fade ≡ get_or block ((left - 1) * channels + k) fade
    → (fade ≡ get_or block ((left - 1) * channels + k) no_fade) × (fade.start < NEVER)
newest_read channels k count left block fade within reach most some all is = (
  read_is channels k count left block fade within reach most some is,
  subst (λ (f : Fade). f.start < NEVER) (sym is)
      (all ((left - 1) * channels + k) fade (in_block channels k count left block within reach most some)),
)

-- a place of the stacks is one of a channel
pub place_within : (r : Inside) {racks : List Stack} {k : ℕ} → stacks_of r.channels r.feet.items r.fades.items ≡ racks → k < length racks
    → k < r.channels
place_within r is within = omega (arith, within, ap length is, length-stacks_of r.channels r.feet.items r.fades.items)

pub stack_there : (r : Inside) {racks : List Stack} (k : ℕ) → stacks_of r.channels r.feet.items r.fades.items ≡ racks → k < r.channels
    → get_or racks k no_stack ≡ stack_at_place r.channels r.feet.items r.fades.items k
stack_there r k is within = ap (λ (ss : List Stack). get_or ss k no_stack) (sym is)
    ∙ get_or-map-range_with_len (stack_at_place r.channels r.feet.items r.fades.items) 0 r.channels k k no_stack within (omega arith)

-- what a foot that was read says of the stack at its place
pub record Reads (r : Inside) (racks : List Stack) (lent : List Fade) (k : ℕ) (foot : Foot) : Type 0 where
  pub within : k < r.channels
  pub reach : foot.count * r.channels ≤ length lent
  pub stack : get_or racks k no_stack ≡ stack_on r.channels foot lent k
  pub long : length (get_or racks k no_stack).fades ≡ foot.count

pub reads : (r : Inside) {racks : List Stack} {lent : List Fade} {k room : ℕ} {foot : Foot}
    → stacks_of r.channels r.feet.items r.fades.items ≡ racks → IsLaidOut r.channels r.feet.items r.fades.items room → k < length racks
    → foot ≡ get_or r.feet.items k foot → lent ≡ r.fades.items → Reads r racks lent k foot
reads r {racks} {lent} {k} {room} {foot} is laid in_racks foot_is same =
    let within = place_within r is in_racks in
    let here : foot ≡ foot_at r.feet.items k =
    get_or_read r.feet.items k foot (omega (arith, within, laid.of_feet)) foot_is (record { bottom = 0; count = 0 }) in
    record {
      within = within;
      reach = rw (here, same) (laid.each k within).reach;
      stack = rw (here, same) (stack_there r k is within);
      long = rw (here, stack_there r k is within) (length-stack_column r.fades.items r.channels k (foot_at r.feet.items k).count);
    }

module _ {r : Inside} {racks : List Stack} {lent : List Fade} {k : ℕ} {foot : Foot} (read : Reads r racks lent k foot) where
  -- what is kept of the column below a new fade
  pub kept_below : (kept : ℕ) → kept ≤ foot.count
      → drop (length (get_or racks k no_stack).fades - kept) (get_or racks k no_stack).fades ≡ stack_column lent r.channels k kept
  kept_below kept le = rw (read.stack, length-stack_column lent r.channels k foot.count) (drop-stack_column lent r.channels k foot.count kept le)

  -- a pushed fade gives the level of one over the stack
  pub pushed_here : (kept : ℕ) {s time target : ℕ} {fade : Fade} → kept ≤ foot.count
      → fade ∷ stack_column lent r.channels k kept ≡ pushed foot.bottom (stack_column lent r.channels k foot.count) s time target
      → fade ∷ drop (length (get_or racks k no_stack).fades - kept) (get_or racks k no_stack).fades
      ≡ pushed (get_or racks k no_stack).bottom (get_or racks k no_stack).fades s time target
  pushed_here kept le put = rw (kept_below kept le, read.stack) put
