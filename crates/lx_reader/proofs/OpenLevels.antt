-- Levels of a line that go to the open record.
use Rattle.lx_reader.proofs.Imports.{◌≡◌, ℕ, ◌≤◌, true, false, List, [], ◌++◌, map, Ok, refl, ap, ◌∙◌, sym, subst, append-nil, arith, IsTrue, fold}
use Rattle.lx_reader.proofs.Imports.{max, AllByRecursion, IsOkAnd, GROUPS, SUBS, Move, HasLevels, levels, ◌>>=◌, desk_limits, Cue, MemberSet, Show}
use Rattle.lx_reader.proofs.Imports.{ValidMember, ValidMove, IsStrictlySorted, all_placed, has_entry, each, All-all_placed}
use Rattle.lx_reader.proofs.Imports.{IsStrictlySorted-all_placed, wider, wider_cue, wider_members, wider_move, Open, Reader, IsStep, Outcome}
use Rattle.lx_reader.proofs.Imports.{ReadsLevels, members_of, IsOpen, cue_with, moves_of, set_with, CueFits, OpenFits, SetFits, filled_cue}
use Rattle.lx_reader.proofs.Imports.{filled_set, is_open, with_open}
use Rattle.lx_reader.specs.declared.open_record.Open.TheVariants as open_records
use Rattle.lx_reader.proofs.Members.{greatest_each, greatest_least, moves_valid}
use Rattle.lx_reader.proofs.LineSteps.{opened}
use Rattle.lx_reader.proofs.OpenSteps.{open_part, step_by}
use Rattle.lx_reader.proofs.PlacedOver.{all_placed_over, members_all_placed, members_of_moves, members_rise}

abbrev pub widened : ℕ → Show → Show
widened k show = record show { channels = k }

module _ (r : Reader) {moves new : List Move} {i k : ℕ} {rest : List (List ℕ)} (read : ReadsLevels i r.part r.show.channels rest [] k moves
    new)
  where
    abbrev pub wide : Reader
    wide = record r { show = widened k r.show }

    members_then : members_of new ≡ all_placed (λ m. m.chan) read.members (members_of moves)
    members_then = ap members_of read.placed ∙ members_all_placed (moves_of r.part read.members) moves
        ∙ ap (λ ms. all_placed (λ m. m.chan) ms (members_of moves)) (members_of_moves r.part read.members)

    more : r.show.channels ≤ k
    more = omega (arith, read.is_greatest, greatest_least r.show.channels (map (λ m. m.chan) read.members))

    members_valid : AllByRecursion (ValidMember k) read.members
    members_valid = subst (λ c. AllByRecursion (ValidMember c) read.members) (sym read.is_greatest)
        (greatest_each r.show.channels read.members read.valid)

    -- a cue
    cue_filled : (cue : Cue) → CueFits r.show moves cue → filled_cue new cue ≡ cue_with r.part (HasLevels read.members) (filled_cue moves cue)
    cue_filled cue fits = λ j. record cue {
      moves =
          (ap (λ ms. all_placed (λ m. m.chan) ms cue.moves) read.placed
          ∙ all_placed_over (λ m. m.chan) (moves_of r.part read.members) moves cue.moves fits.rise fits.valid.moves_sorted) j;
    }

    -- a group or submaster
    set_filled : (limit : ℕ) (set : MemberSet) → SetFits limit r.show moves set
        → filled_set new set ≡ set_with (HasLevels read.members) (filled_set moves set)
    set_filled limit set fits = λ j. record set {
      members =
          (ap (λ ms. all_placed (λ m. m.chan) ms set.members) members_then
          ∙ all_placed_over (λ m. m.chan) read.members (members_of moves) set.members (members_rise moves fits.rise)
          fits.valid.members.sorted) j;
    }

    greatest : k ≡ fold max r.show.channels (map (λ m. m.chan) read.members ++ [])
    greatest = read.is_greatest ∙ ap (fold max r.show.channels) (sym (append-nil (map (λ m. m.chan) read.members)))

    levels_step : (o : Open) → is_open o ≡ true → r.ended ≡ false → OpenFits r.show r.section moves o
        → IsStep (opened r o moves) (opened wide o new) i (HasLevels read.members)
    levels_step open_records.None is going fits = cc
    levels_step (open_records.Cue cue) is going fits =
        step_by (λ c. c.number) (λ k cs. record r.show { channels = k; cues = cs }) (cue_with r.part (HasLevels read.members)) r
        (filled_cue moves cue) r.show.cues fits.0 refl greatest (cue_filled cue fits.1) refl going refl
    levels_step (open_records.Group set) is going fits =
        step_by (λ s. s.number) (λ k ss. record r.show { channels = k; groups = ss }) (set_with (HasLevels read.members)) r
        (filled_set moves set) r.show.groups fits.0 refl greatest (set_filled GROUPS set fits.1) refl going refl
    levels_step (open_records.Sub set) is going fits =
        step_by (λ s. s.number) (λ k ss. record r.show { channels = k; subs = ss }) (set_with (HasLevels read.members)) r
        (filled_set moves set) r.show.subs fits.0 refl greatest (set_filled SUBS set fits.1) refl going refl

    read_says : levels desk_limits i rest ≡ Ok (HasLevels read.members)
    read_says = ap (λ v. v >>= (λ members. Ok (HasLevels members))) (read.list ∙ ap Ok (append-nil read.members))

    pub levels_outcome : (o : Open) {shown : Show} → shown ≡ widened k r.show → is_open o ≡ true → r.ended ≡ false
        → OpenFits r.show r.section moves o
        → Outcome (opened r o moves) (opened (record r { show = shown }) o new) i (Ok tt) (levels desk_limits i rest)
    levels_outcome o widens is going fits =
        subst (λ (s : Show). Outcome (opened r o moves) (opened (record r { show = s }) o new) i (Ok tt) (levels desk_limits i rest))
        (sym widens)
        (subst (λ v. IsOkAnd v (IsStep (opened r o moves) (opened wide o new) i)) (sym read_says) (levels_step o is going fits))

    -- the record fits as before
    cue_fits : (cue : Cue) → IsTrue (has_entry (λ p. p.number) r.part cue.parts) → CueFits r.show moves cue
        → CueFits (widened k r.show) new cue
    cue_fits cue there fits = record {
      room = fits.room;
      valid = wider_cue r.show.channels k cue more fits.valid;
      moves_valid = subst (AllByRecursion (ValidMove k cue.parts)) (sym read.placed)
          (All-all_placed (ValidMove k cue.parts) (λ m. m.chan) (moves_of r.part read.members) moves
          (moves_valid k r.part cue.parts read.members there members_valid)
          (each _ _ moves (λ m h. wider_move r.show.channels k cue.parts m more h) fits.moves_valid));
      rise = subst (λ ms. IsStrictlySorted (λ m. m.chan) ms) (sym read.placed)
          (IsStrictlySorted-all_placed (λ m. m.chan) (moves_of r.part read.members) moves fits.rise);
    }

    set_fits : (limit : ℕ) (set : MemberSet) → SetFits limit r.show moves set → SetFits limit (widened k r.show) new set
    set_fits limit set fits = record {
      valid = record {
        number = fits.valid.number;
        label = fits.valid.label;
        members = wider_members r.show.channels k set.members more fits.valid.members;
      };
      members = subst (AllByRecursion (ValidMember k)) (sym members_then)
          (All-all_placed (ValidMember k) (λ m. m.chan) read.members (members_of moves) members_valid
          (each _ _ (members_of moves) (λ m h. record { chan = wider r.show.channels k m.chan more h.chan; level = h.level }) fits.members));
      rise = subst (λ ms. IsStrictlySorted (λ m. m.chan) ms) (sym read.placed)
          (IsStrictlySorted-all_placed (λ m. m.chan) (moves_of r.part read.members) moves fits.rise);
    }

    levels_fit : (o : Open) → is_open o ≡ true → IsOpen (with_open o moves r.show) r.section r.part → OpenFits r.show r.section moves o
        → OpenFits (widened k r.show) r.section new o
    levels_fit open_records.None is there fits = cc
    levels_fit (open_records.Cue cue) is there fits = (fits.0, cue_fits cue (open_part r moves cue fits.0 there) fits.1)
    levels_fit (open_records.Group set) is there fits = (fits.0, set_fits GROUPS set fits.1)
    levels_fit (open_records.Sub set) is there fits = (fits.0, set_fits SUBS set fits.1)

    pub still_fits : (o : Open) {shown : Show} → shown ≡ widened k r.show → is_open o ≡ true
        → IsOpen (with_open o moves r.show) r.section r.part → OpenFits r.show r.section moves o → OpenFits shown r.section new o
    still_fits o widens is there fits =
        subst (λ (s : Show). OpenFits s r.section new o) (sym widens) (levels_fit o is there fits)
