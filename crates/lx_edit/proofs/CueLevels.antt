-- Cues with moves placed and taken out.
use Rattle.lx_edit.proofs.Imports.{◌≡◌, ℕ, ◌+◌, ◌-◌, ◌<◌, ◌≤◌, Bool, true, false, cond, List, [], ◌∷◌, ◌++◌}
use Rattle.lx_edit.proofs.Imports.{Some, None, refl, map, arith, Option, IsTrue, IfSome, filter, ◌==◌, if◌then◌else◌}
use Rattle.lx_edit.proofs.Imports.{option_map_or, AllByRecursion, range_with_len, Span, Part, Move, Member, has_entry, CHANNELS, Cue, Show, InRange, IsLevel}
use Rattle.lx_edit.proofs.Imports.{ValidCue, ValidMove, ValidMember, move_in, all_at, in_proportion, part_for, with_moves, without_moves, moves_for}
use Rattle.lx_edit.proofs.Imports.{IsWithin, channels_in, with_other_moves, All-all_placed, IsStrictlySorted-all_placed, Fits, base_moves, found_has, kept_by, IsStrictlySorted-filter}
use Rattle.lx_edit.proofs.Lists.{chosen_more, each_mapped, range_below}

part_of_move : (channels : ℕ) (parts : List Part) (o : Option Move) → IsTrue (has_entry (λ x. x.number) 1 parts)
    → IfSome o (ValidMove channels parts) → IsTrue (has_entry (λ x. x.number) (option_map_or (λ m. m.part) o 1) parts)
part_of_move channels parts None base valid = base
part_of_move channels parts (Some m) base valid = valid.part

-- the part for a new move is one of the cue's
pub part_there : (channels : ℕ) (cue : Cue) (part : Option ℕ) (c : ℕ) → ValidCue channels cue
    → IfSome part (λ p. IsTrue (has_entry (λ x. x.number) p cue.parts)) → IsTrue (has_entry (λ x. x.number) (part_for part cue c) cue.parts)
part_there channels cue (Some p) c valid there = there
part_there channels cue None c valid there =
    part_of_move channels cue.parts (move_in cue c) valid.first_part
    (found_has (ValidMove channels cue.parts) (λ (m : Move). m.chan == c) cue.moves (move_in cue c) refl valid.moves)

pub moves_fit : (channels : ℕ) (cue : Cue) (part : Option ℕ) (members : List Member) → ValidCue channels cue
    → IfSome part (λ p. IsTrue (has_entry (λ x. x.number) p cue.parts)) → AllByRecursion (λ m. m.chan ≤ channels) members
    → AllByRecursion (Fits channels cue.parts)
    (map (λ m. record { chan = m.chan; part = part_for part cue m.chan; level = m.level }) members)
moves_fit channels cue part members valid there all = each_mapped (λ m. m.chan ≤ channels) (Fits channels cue.parts) _ members
    (λ m le. record { chan = le; part = part_there channels cue part m.chan valid there }) all

-- a cue with some of its moves left out
pub valid_without_moves : (channels : ℕ) (cue : Cue) (range : Span) → ValidCue channels cue → ValidCue channels (without_moves cue range)
valid_without_moves channels cue range valid =
    with_other_moves channels cue _ valid (kept_by (ValidMove channels cue.parts) _ cue.moves valid.moves)
    (IsStrictlySorted-filter (λ (m : Move). m.chan) _ cue.moves valid.moves_sorted)

fitting : (channels : ℕ) (parts : List Part) (moves : List Move) → AllByRecursion (Fits channels parts) moves
    → AllByRecursion (λ m. InRange CHANNELS m.chan × IsLevel m.level) moves → AllByRecursion (ValidMove channels parts) moves
fitting channels parts [] fits all = tt
fitting channels parts (m ∷ ms) fits all = (
  record { chan = record { least = all.0.0.least; most = fits.0.chan }; part = fits.0.part; level = all.0.1 },
  fitting channels parts ms fits.1 all.1,
)

-- a cue with moves placed
pub valid_with_moves : (channels : ℕ) (cue : Cue) (moves : List Move) → ValidCue channels cue → AllByRecursion (Fits channels cue.parts) moves
    → AllByRecursion (λ m. InRange CHANNELS m.chan × IsLevel m.level) moves → ValidCue channels (with_moves cue moves)
valid_with_moves channels cue moves valid fits all = with_other_moves channels cue _ valid
    (All-all_placed (ValidMove channels cue.parts) _ moves cue.moves (fitting channels cue.parts moves fits all) valid.moves)
    (IsStrictlySorted-all_placed (λ (m : Move). m.chan) moves cue.moves valid.moves_sorted)

-- the channels of a range within the show's
pub range_within : (level : ℕ) {channels : ℕ} (range : Span) → IsWithin channels range
    → AllByRecursion (λ m. m.chan ≤ channels) (all_at level (channels_in range))
range_within level {channels} range within =
    let order = within.order in
    let most = within.most in
    each_mapped (λ c. c < channels + 1) (λ (m : Member). m.chan ≤ channels) _ _ (λ c less. omega (arith, less))
    (range_below range.first (range.last + 1 - range.first) (channels + 1) (omega (arith, order, most)))

pub proportion_within : (level channels : ℕ) (members : List Member) → AllByRecursion (ValidMember channels) members
    → AllByRecursion (λ m. m.chan ≤ channels) (map (in_proportion level) members)
proportion_within level channels members all =
    each_mapped (ValidMember channels) (λ m. m.chan ≤ channels) (in_proportion level) members (λ m valid. valid.chan.most) all

-- a step through the channels, of which some get a move
pub chosen_next : (test : ℕ → Bool) (level : ℕ → ℕ) {k c : ℕ} {old new : List Move} {o : Option ℕ} → 1 ≤ k
    → old ≡ map (λ x. record { chan = x; part = 1; level = level x }) (filter test (range_with_len 1 (k - 1))) → c ≡ k
    → o ≡ (if test c then Some (level c) else None) → new ≡ old ++ base_moves c o
    → new ≡ map (λ x. record { chan = x; part = 1; level = level x }) (filter test (range_with_len 1 (k + 1 - 1)))
chosen_next test level {k} least was here given is =
    let at : ℕ → Move = λ x. record { chan = x; part = 1; level = level x } in
    let length_is : k + 1 - 1 ≡ k - 1 + 1 = omega (arith, least) in
    let before = map at (filter test (range_with_len 1 (k - 1))) in
    rw (is, was, given, here, length_is, chosen_more test at 1 (k - 1) k (omega (arith, least)))
    (elim (test k) as (λ b. before ++ base_moves k (if b then Some (level k) else None) ≡ before ++ cond b (at k ∷ []) []) [ true ↦ refl | false ↦ refl ])

-- the moves that some of the show's channels get are in the cue's part 1
pub chosen_fit : (show : Show) (parts : List Part) (test : ℕ → Bool) (level : ℕ → ℕ) → IsTrue (has_entry (λ x. x.number) 1 parts)
    → AllByRecursion (Fits show.channels parts) (moves_for show test level)
chosen_fit show parts test level base = each_mapped (λ c. c < show.channels + 1) (Fits show.channels parts) _ _
    (λ c less. record { chan = omega (arith, less); part = base })
    (kept_by (λ c. c < show.channels + 1) test _ (range_below 1 show.channels (show.channels + 1) (omega arith)))
