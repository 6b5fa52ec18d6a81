-- Plans that place one cue in the place of the one of its number.
use Rattle.lx_edit.proofs.Imports.{◌≡◌, ℕ, ◌≤◌, Bool, true, false, cond, List, [], ◌∷◌, Some, None, Ok, refl, ◌∙◌, subst}
use Rattle.lx_edit.proofs.Imports.{map, arith, IsTrue, not, ◌==◌, AllByRecursion, false≢true, nat_tests, PARTS}
use Rattle.lx_edit.proofs.Imports.{Part, Move, entry_at, has_entry, taken_out, Cue, Show, ValidCue, ValidPart, ValidMove, IsTime, edited, with_cue, with_time}
use Rattle.lx_edit.proofs.Imports.{new_part, without_part, out_of_part, FoundCue, CanPlace, IsPlan, dimmer_edited, edits_sub, kept_by}
use Rattle.lx_edit.proofs.Imports.{IsStrictlySorted-filter, IsStrictlySorted-map, found_valid}
use Rattle.lx_spec.specs.declared.Edit.{Edit}
use Rattle.lx_edit.specs.declared.plans.Plan.TheVariants as plans
use Rattle.lx_edit.proofs.SameLists.{exchanged_other}

-- a cue in the place of one that is there
pub replaces : (show : Show) (n : ℕ) (old new : Cue) → FoundCue show n old → new.number ≡ old.number → ValidCue show.channels new
    → CanPlace show new
replaces show n old new here same valid = record { valid = valid; room = rw (same ∙ here.number, here.found) refl }

pub places : (show : Show) (edit : Edit) (n : ℕ) (old new : Cue) → FoundCue show n old → new.number ≡ old.number
    → ValidCue show.channels new → edited show edit ≡ Ok (with_cue show new) → None ≡ dimmer_edited edit → false ≡ edits_sub edit
    → IsPlan show edit (plans.Cue n (Some new) None false)
places show edit n old new here same valid makes dimmer subs =
    record {
      makes = makes;
      ready = record {
        least = subst (λ k. 1 ≤ k) (same ∙ here.number) valid.number.least;
        number = same ∙ here.number;
        fits = replaces show n old new here same valid;
        above_fits = tt;
        higher = tt;
        kept = λ is. absurd (false≢true is);
      };
      dimmer = dimmer;
      subs = subs;
    }

-- the part found in a valid cue, with a time
pub valid_part : (channels p : ℕ) (cue : Cue) (part : Part) → ValidCue channels cue → entry_at (λ x. x.number) p cue.parts ≡ Some part
    → ValidPart part
valid_part channels p cue part valid found = found_valid ValidPart (λ x. x.number) p cue.parts part valid.parts found

pub valid_time : (part : Part) (rising : Bool) (time delay : ℕ) → ValidPart part → IsTime time → IsTime delay
    → ValidPart (with_time part rising time delay)
valid_time part true time delay valid is_time is_delay = search
valid_time part false time delay valid is_time is_delay = search

pub valid_new_part : (p : ℕ) → 1 ≤ p → p ≤ PARTS → ValidPart (new_part p)
valid_new_part p least most = search (arith)

-- a part other than the one taken out stays
has_other : (p q : ℕ) (parts : List Part) → (q ≡ p → ⊥) → IsTrue (has_entry (λ x. x.number) q parts)
    → IsTrue (has_entry (λ x. x.number) q (taken_out (λ x. x.number) p parts))
has_other p q parts other there = rw (exchanged_other (λ (x : Part). x.number) p q None parts tt other) there

moved_chan : (p : ℕ) (m : Move) → (out_of_part p m).chan ≡ m.chan
moved_chan p m = elim (m.part == p) as (λ b. (cond b (record m { part = 1 }) m).chan ≡ m.chan) [ true ↦ refl | false ↦ refl ]

differs : (a b : ℕ) → (a == b) ≡ false → a ≡ b → ⊥
differs a b test same = grind (arith, nat_tests)

moved_step : (channels p : ℕ) (parts : List Part) (m : Move) (b : Bool) → (m.part == p) ≡ b → (1 ≡ p → ⊥)
    → IsTrue (has_entry (λ x. x.number) 1 parts) → ValidMove channels parts m
    → ValidMove channels (taken_out (λ x. x.number) p parts) (cond b (record m { part = 1 }) m)
moved_step channels p parts m true test base has_base valid =
    record { chan = valid.chan; part = has_other p 1 parts base has_base; level = valid.level }
moved_step channels p parts m false test base has_base valid =
    record { chan = valid.chan; part = has_other p m.part parts (differs m.part p test) valid.part; level = valid.level }

all_moved : (channels p : ℕ) (parts : List Part) (moves : List Move) → (1 ≡ p → ⊥) → IsTrue (has_entry (λ x. x.number) 1 parts)
    → AllByRecursion (ValidMove channels parts) moves
    → AllByRecursion (ValidMove channels (taken_out (λ x. x.number) p parts)) (map (out_of_part p) moves)
all_moved channels p parts [] base has_base all = tt
all_moved channels p parts (m ∷ ms) base has_base all =
    (moved_step channels p parts m (m.part == p) refl base has_base all.0, all_moved channels p parts ms base has_base all.1)

-- a cue without a part other than part 1
pub valid_without_part : (channels p : ℕ) (cue : Cue) → (1 ≡ p → ⊥) → ValidCue channels cue → ValidCue channels (without_part cue p)
valid_without_part channels p cue base valid =
    let first_part = has_other p 1 cue.parts base valid.first_part in
    let parts = kept_by ValidPart (λ (x : Part). not (x.number == p)) cue.parts valid.parts in
    let parts_sorted = IsStrictlySorted-filter (λ (x : Part). x.number) (λ x. not (x.number == p)) cue.parts valid.parts_sorted in
    let moves = all_moved channels p cue.parts cue.moves base valid.first_part valid.moves in
    let moves_sorted = IsStrictlySorted-map (λ (m : Move). m.chan) (out_of_part p) cue.moves (moved_chan p) valid.moves_sorted in
    search
