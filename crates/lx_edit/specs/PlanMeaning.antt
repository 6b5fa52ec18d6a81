-- What a plan makes of the show that it was made for.
use Rattle.std.specs.Prelude.{◌≡◌, ℕ, ◌<◌, ◌≤◌, ◌⊎◌, Bool, true, false, ◌||◌, ◌&&◌, IsTrue, nat_lt, nat_le, Option, Some, None, IfSome, IsOk, Result, Ok}
use Rattle.std.specs.Prelude.{Err, List, length, MatchResult, ⊤}
use Rattle.std.specs.List.{AllByRecursion}
use Rattle.lx_base.specs.Numbers.{Span}
use Rattle.lx_base.specs.declared.TheConstants.{CUES}
use Rattle.lx_spec.specs.declared.Edit.{Edit}
use Rattle.lx_spec.specs.declared.Edit.TheVariants.{SubMember, Patch, Unpatch}
use Rattle.lx_spec.specs.declared.Refusal.{Refusal}
use Rattle.lx_spec.specs.declared.Refusal.TheVariants.{Memory}
use Rattle.lx_spec.specs.SortedList.{entry_at, has_entry, placed}
use Rattle.std.specs.Option.{IsSomeAnd}
use Rattle.lx_spec.specs.declared.Move.{Move}
use Rattle.lx_show.specs.ChangedEntry.{changed, exchanged_at}
use Rattle.lx_spec.specs.TrackedLevel.{tracked, cue_of}
use Rattle.lx_spec.specs.Show.{Cue, Show, InRange, ValidCue, ValidGroup, ValidMove, ValidPatchRow, ValidSub}
use Rattle.lx_spec.specs.EditedShow.{edited, with_cue}
use Rattle.lx_edit.specs.declared.plans.Plan.{Plan}
use Rattle.lx_edit.specs.declared.plans.Plan.TheVariants as plans

-- the show where the cue of the number is this one, or is gone
abbrev pub changed_show : Show → ℕ → Option Cue → Show
changed_show show n to = record show { cues = exchanged_at (λ x. x.number) n to show.cues }

-- the show with this cue too, where there is one
abbrev pub with_above : Option Cue → Show → Show
with_above None show = show
with_above (Some cue) show = with_cue show cue

-- the cue with this move in the place of the one of its channel
abbrev pub with_move : Cue → Move → Cue
with_move cue entry = record cue { moves = placed (λ m. m.chan) entry cue.moves }

-- the show with this move in the cue of the number
abbrev pub with_move_in : Show → ℕ → Move → Show
with_move_in show n entry = record show { cues = changed (λ x. x.number) n (λ cue. with_move cue entry) show.cues }

-- the show with other moves in the cue of the number
abbrev pub with_moves_in : Show → ℕ → (List Move → List Move) → Show
with_moves_in show n change = record show { cues = changed (λ x. x.number) n (λ cue. record cue { moves = change cue.moves }) show.cues }

-- the range has the channel
abbrev pub covers : Span → ℕ → Bool
covers range c = nat_le range.first c && nat_le c range.last

-- a channel outside the range has the same move in both
abbrev pub SameOutside : Span → List Move → List Move → Type 0
SameOutside range old new = (c : ℕ) → covers range c ≡ false → entry_at (λ m. m.chan) c old ≡ entry_at (λ m. m.chan) c new

-- the show with the plan applied
abbrev pub planned : Show → Plan → Show
planned show plans.Nothing = show
planned show (plans.Cue n to above keeps) = with_above above (changed_show show n to)
planned show (plans.Move n entry) = with_move_in show n entry
planned show (plans.Moves n moves within) = with_moves_in show n (λ _. moves)
planned show (plans.Group g to) = record show { groups = exchanged_at (λ x. x.number) g to show.groups }
planned show (plans.Sub s to) = record show { subs = exchanged_at (λ x. x.number) s to show.subs }
planned show (plans.Row e to) = record show { patch = exchanged_at (λ x. x.dimmer) e to show.patch }

-- the cue may be placed in the show: it is valid there, and there is room for it
pub record CanPlace (show : Show) (cue : Cue) : Type 0 where
  pub valid : ValidCue show.channels cue
  pub room : IsTrue (has_entry (λ x. x.number) cue.number show.cues || nat_lt (length show.cues) CUES)

-- Cue only: the show after the change of the cue is given this cue too, in the place of the one above it, and from it on each channel keeps
-- its level.
pub record KeepsAbove (show after : Show) (n : ℕ) (kept : Cue) : Type 0 where
  pub cue : IsTrue (has_entry (λ x. x.number) n show.cues)
  pub above : IsTrue (has_entry (λ x. x.number) kept.number show.cues)
  pub higher : n < kept.number
  pub levels : (m c : ℕ) → InRange show.channels c → kept.number ≤ m → tracked (with_cue after kept) m c ≡ tracked show m c

-- this cue is one of the show's, above the number
pub record IsAbove (show : Show) (n : ℕ) (kept : Cue) : Type 0 where
  pub there : IsTrue (has_entry (λ x. x.number) kept.number show.cues)
  pub higher : n < kept.number

-- both cues are given, and from the one above on each channel keeps its level
abbrev pub KeepsBoth : Show → ℕ → Option Cue → Option Cue → Type 0
KeepsBoth show n to above = IsSomeAnd to (λ cue. IsSomeAnd above (KeepsAbove show (with_cue show cue) n))

-- the cue of the number may become this one, or go, and then the one above it become that one
pub record CanExchange (show : Show) (n : ℕ) (to above : Option Cue) (keeps : Bool) : Type 0 where
  pub least : 1 ≤ n
  pub number : IfSome to (λ cue. cue.number ≡ n)
  pub fits : IfSome to (CanPlace show)
  pub above_fits : IfSome above (CanPlace (changed_show show n to))
  pub higher : IfSome above (IsAbove show n)
  pub kept : keeps ≡ true → KeepsBoth show n to above

-- the move may be placed in the cue of the number: it is valid there, and the cue has one of its channel
pub record CanMove (show : Show) (n : ℕ) (entry : Move) : Type 0 where
  pub valid : IsSomeAnd (cue_of show n) (λ cue. ValidMove show.channels cue.parts entry)
  pub there : IsSomeAnd (cue_of show n) (λ cue. IsTrue (has_entry (λ m. m.chan) entry.chan cue.moves))

-- the cue of the number may be given these moves: they fit its parts, and outside the range they are its own
pub record CanReplace (show : Show) (n : ℕ) (moves : List Move) (within : Span) : Type 0 where
  pub valid : IsSomeAnd (cue_of show n) (λ cue. AllByRecursion (ValidMove show.channels cue.parts) moves)
  pub same : IsSomeAnd (cue_of show n) (λ cue. SameOutside within cue.moves moves)

-- the plan may be applied to the show
abbrev pub IsReady : Show → Plan → Type 0
IsReady show plans.Nothing = ⊤
IsReady show (plans.Cue n to above keeps) = CanExchange show n to above keeps
IsReady show (plans.Move n entry) = CanMove show n entry
IsReady show (plans.Moves n moves within) = CanReplace show n moves within
IsReady show (plans.Group g to) = IfSome to (λ group. group.number ≡ g) × IfSome to (ValidGroup show.channels)
IsReady show (plans.Sub s to) = IfSome to (λ submaster. submaster.number ≡ s) × IfSome to (ValidSub show.channels)
IsReady show (plans.Row e to) = IfSome to (λ row. row.dimmer ≡ e) × IfSome to (ValidPatchRow show.channels)

-- the dimmer whose row the edit changes
abbrev pub dimmer_edited : Edit → Option ℕ
dimmer_edited (Patch e c level) = Some e
dimmer_edited (Unpatch e) = Some e
dimmer_edited other = None

abbrev pub dimmer_planned : Plan → Option ℕ
dimmer_planned (plans.Row e to) = Some e
dimmer_planned other = None

-- the edit changes a submaster
abbrev pub edits_sub : Edit → Bool
edits_sub (SubMember s range level) = true
edits_sub other = false

abbrev pub plans_sub : Plan → Bool
plans_sub (plans.Sub s to) = true
plans_sub other = false

-- the plan makes the edited show, may be applied, and changes the row of a dimmer or a submaster exactly where the edit does
pub record IsPlan (show : Show) (edit : Edit) (plan : Plan) : Type 0 where
  pub makes : edited show edit ≡ Ok (planned show plan)
  pub ready : IsReady show plan
  pub dimmer : dimmer_planned plan ≡ dimmer_edited edit
  pub subs : plans_sub plan ≡ edits_sub edit

-- the refusal is the edit's own, or memory ran out where the edit is not refused
abbrev pub IsRefusal : Show → Edit → Refusal → Type 0
IsRefusal show edit refusal = (edited show edit ≡ Err refusal) ⊎ ((refusal ≡ Memory) × IsOk (edited show edit))

abbrev pub Plans : Show → Edit → Result Plan Refusal → Type 0
Plans show edit answer = MatchResult answer (IsPlan show edit) (IsRefusal show edit)

-- the plan changes cues alone, and makes this show
pub record PlansCues (show after : Show) (plan : Plan) : Type 0 where
  pub makes : planned show plan ≡ after
  pub ready : IsReady show plan
  pub dimmer : dimmer_planned plan ≡ None
  pub subs : plans_sub plan ≡ false
