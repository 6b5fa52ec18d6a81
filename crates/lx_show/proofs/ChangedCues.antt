-- Cues, groups and submasters that stay valid where they are changed.
use Rattle.lx_show.proofs.Imports.{ℕ, Bool, List, Option, IfSome, AllByRecursion, CUE_MAX, Move, Member, Part, IsStrictlySorted, placed, Cue, ValidCue}
use Rattle.lx_show.proofs.Imports.{ValidPart, ValidMove, ValidMember, ValidMembers, InRange, IsTime, IsLabel, each, All-placed, IsStrictlySorted-placed}
use Rattle.lx_show.proofs.Imports.{has_placed}

-- other settings: block flag, assert flag, follow, link and label
pub with_settings : (channels : ℕ) (cue : Cue) (block asserted : Bool) (follow link : Option ℕ) (label : List ℕ) → ValidCue channels cue
    → IfSome follow IsTime → IfSome link (InRange CUE_MAX) → IsLabel label
    → ValidCue channels (record cue { block = block; asserted = asserted; follow = follow; link = link; label = label })
with_settings channels cue block asserted follow link label valid is_time is_number is_label = search

-- other moves
pub with_other_moves : (channels : ℕ) (cue : Cue) (moves : List Move) → ValidCue channels cue
    → AllByRecursion (ValidMove channels cue.parts) moves → IsStrictlySorted (λ m. m.chan) moves
    → ValidCue channels (record cue { moves = moves })
with_other_moves channels cue moves valid all sorted = search

-- a move placed
pub with_move : (channels : ℕ) (cue : Cue) (m : Move) → ValidCue channels cue → ValidMove channels cue.parts m
    → ValidCue channels (record cue { moves = placed (λ x. x.chan) m cue.moves })
with_move channels cue m valid here = with_other_moves channels cue (placed (λ x. x.chan) m cue.moves) valid
    (All-placed _ _ m cue.moves here valid.moves) (IsStrictlySorted-placed _ m cue.moves valid.moves_sorted)

-- a part placed
pub with_placed_part : (channels : ℕ) (cue : Cue) (part : Part) → ValidCue channels cue → ValidPart part
    → ValidCue channels (record cue { parts = placed (λ p. p.number) part cue.parts })
with_placed_part channels cue part valid here = record {
  number = valid.number;
  follow = valid.follow;
  link = valid.link;
  label = valid.label;
  first_part = has_placed (λ p. p.number) 1 part cue.parts valid.first_part;
  parts = All-placed _ _ part cue.parts here valid.parts;
  parts_sorted = IsStrictlySorted-placed _ part cue.parts valid.parts_sorted;
  moves = each _ _ cue.moves (λ m h. record
      { chan = h.chan; part = has_placed (λ p. p.number) m.part part cue.parts h.part; level = h.level }) valid.moves;
  moves_sorted = valid.moves_sorted;
}

-- a member placed
pub with_member : (channels : ℕ) (m : Member) (members : List Member) → ValidMembers channels members → ValidMember channels m
    → ValidMembers channels (placed (λ x. x.chan) m members)
with_member channels m members valid here =
    record { each = All-placed _ _ m members here valid.each; sorted = IsStrictlySorted-placed _ m members valid.sorted }
