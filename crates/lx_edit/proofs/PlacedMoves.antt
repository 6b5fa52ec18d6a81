-- A cue with one of its moves replaced, and replaced back.
use Rattle.lx_edit.proofs.Imports.{◌≡◌, ℕ, ◌+◌, ◌-◌, ◌≤◌, false, List, [], ◌∷◌, Some, None, Ok, refl, ◌∙◌, sym, ap, subst}
use Rattle.lx_edit.proofs.Imports.{cond, arith, inl, inr, Bool, true, Option, IsTrue, IfSome, is_some, ◌||◌, IsSomeAnd, option_map_or}
use Rattle.lx_edit.proofs.Imports.{range_with_len, cases_eq, Span, CHANNELS, Set, Move, Part, entry_at, has_entry, placed, Cue, Show, Valid, ValidCue}
use Rattle.lx_edit.proofs.Imports.{ValidMove, InRange, IsLevel, cue_of, cue_above, decides, move_in, tracked, asserts, with_cue, with_levels, all_at}
use Rattle.lx_edit.proofs.Imports.{channels_in, cue_only, part_for, edited, le_true, entry_at-placed_here, entry_at-placed_other, found_number, found_valid}
use Rattle.lx_edit.proofs.Imports.{ChanSet, has_chan, Replaced, Sheet, FoundCue, GivenPart, IsWithin, with_move, with_move_in, with_moves_in}
use Rattle.lx_edit.proofs.Imports.{CanMove, CanReplace, IsPlan, RowsStandFor, SameOutside, TakesBack}
use Rattle.lx_edit.specs.declared.plans.Plan.TheVariants as plans
use Rattle.lx_edit.proofs.AssertedCues.{asserts_changed}
use Rattle.lx_edit.proofs.CueLevels.{part_there}
use Rattle.lx_edit.proofs.NothingKept.{nothing_kept}
use Rattle.lx_edit.proofs.SameLists.{exchanged_back}

-- the cue of the number, as a plan of its moves has it
pub record Moved (show : Show) (n : ℕ) : Type 0 where
  pub cue : Cue
  pub found : cue_of show n ≡ Some cue
  pub number : cue.number ≡ n
  pub least : 1 ≤ cue.number
  pub stands : IsTrue (is_some (cue_of show n))
  pub whole : ValidCue show.channels cue

moved_step : (show : Show) (n : ℕ) (P : Cue → Type 0) (o : Option Cue) → Valid show → cue_of show n ≡ o → IsSomeAnd o P → Moved show n
moved_step show n P None valid is there = absurd there
moved_step show n P (Some cue) valid is there =
    let whole : ValidCue show.channels cue =
    found_valid (ValidCue show.channels) (λ (x : Cue). x.number) n show.cues cue valid.cues is in
    record {
      cue = cue;
      found = is;
      number = sym (found_number (λ (x : Cue). x.number) n show.cues cue is);
      least = whole.number.least;
      stands = ap is_some is;
      whole = whole;
    }

pub moved : (show : Show) (n : ℕ) (entry : Move) → Valid show → CanMove show n entry → Moved show n
moved show n entry valid ready =
    moved_step show n (λ cue. IsTrue (has_entry (λ m. m.chan) entry.chan cue.moves)) (cue_of show n) valid refl ready.there

pub moved_all : (show : Show) (n : ℕ) (moves : List Move) (within : Span) → Valid show → CanReplace show n moves within → Moved show n
moved_all show n moves within valid ready =
    moved_step show n (λ cue. SameOutside within cue.moves moves) (cue_of show n) valid refl ready.same

-- the show is the one with the changed cue
pub changed_is : (show : Show) (n : ℕ) (change : List Move → List Move) (cue : Cue) → cue_of show n ≡ Some cue
    → with_moves_in show n change ≡ with_cue show (record cue { moves = change cue.moves })
changed_is show n change cue is = ap (λ (o : Option Cue). record show
    { cues = option_map_or (λ (x : Cue). placed (λ (y : Cue). y.number) (record x { moves = change x.moves }) show.cues) o show.cues }) is

pub moved_is : (show : Show) (n : ℕ) (entry : Move) (cue : Cue) → cue_of show n ≡ Some cue
    → with_move_in show n entry ≡ with_cue show (with_move cue entry)
moved_is show n entry cue is = changed_is show n (placed (λ m. m.chan) entry) cue is

-- the same cues are asserted
asserts_step : (show : Show) (n k : ℕ) (change : List Move → List Move) (o : Option Cue) → cue_of show n ≡ o
    → asserts show k ≡ asserts (with_moves_in show n change) k
asserts_step show n k change None is = rw is refl
asserts_step show n k change (Some cue) is =
    asserts_changed show n k (Some (record cue { moves = change cue.moves })) (sym (found_number (λ (x : Cue). x.number) n show.cues cue is))
    (ap (λ (o : Option Cue). option_map_or (λ (x : Cue). x.asserted) o false) is)
    ∙ sym (ap (λ (s : Show). asserts s k) (changed_is show n change cue is))

pub asserts_moved : (show : Show) (n k : ℕ) (change : List Move → List Move) → asserts show k ≡ asserts (with_moves_in show n change) k
asserts_moved show n k change = asserts_step show n k change (cue_of show n) refl

-- where the moves of the other channels are the same, the cue was put in the place of itself
abbrev pub replaced : (show after : Show) (sheet : Sheet) (n : ℕ) (change : List Move → List Move) (chans : ChanSet) → Moved show n → Valid show
    → RowsStandFor show sheet → after ≡ with_moves_in show n change
    → IsSomeAnd (cue_of show n) (λ x. (c : ℕ) → has_chan chans c ≡ false → move_in x c ≡ entry_at (λ m. m.chan) c (change x.moves))
    → Replaced after sheet n chans
replaced show after sheet n change chans m valid stood is same = record {
  before = show;
  cue = record m.cue { moves = change m.cue.moves };
  valid = valid;
  stood = stood;
  number = m.number;
  least = m.least;
  there = m.stands;
  is = is ∙ changed_is show n change m.cue m.found;
  same = λ c out. rw m.found (record {
    moves = (rw m.found at same) c out;
    level = ap (λ (o : Option Move). cond (m.cue.block || is_some o) (option_map_or (λ x. x.level) o 0) (tracked show (n - 1) c))
        ((rw m.found at same) c out);
  });
}

-- it is so where a move was placed, and its channel marked unless it is the move that was there
pub sees_moved : (show : Show) (n : ℕ) (entry old : Move) (chans : ChanSet) → Moved show n
    → IsSomeAnd (cue_of show n) (λ x. move_in x entry.chan ≡ Some old)
    → (has_chan chans entry.chan ≡ false → ◌≡◌ {A = Option Move} (Some old) (Some entry))
    → IsSomeAnd (cue_of show n) (λ x. (c : ℕ) → has_chan chans c ≡ false
    → move_in x c ≡ entry_at (λ m. m.chan) c (placed (λ m. m.chan) entry x.moves))
sees_moved show n entry old chans m was marked = rw m.found (λ c out. elim (cases_eq c entry.chan) [
  | inl here ↦ subst (λ k. move_in m.cue k ≡ move_in (with_move m.cue entry) k) (sym here)
      ((rw m.found at was) ∙ marked (subst (λ k. has_chan chans k ≡ false) here out)
      ∙ sym (entry_at-placed_here (λ (x : Move). x.chan) entry.chan entry m.cue.moves refl))
  | inr other ↦ sym (entry_at-placed_other (λ (x : Move). x.chan) c entry m.cue.moves (λ is. other (sym is)))
])

-- The changed cue, and changed back.
here_changed : (show : Show) (n : ℕ) (change : List Move → List Move) (m : Moved show n)
    → cue_of (with_moves_in show n change) n ≡ Some (record m.cue { moves = change m.cue.moves })
here_changed show n change m = ap (λ (s : Show). cue_of s n) (changed_is show n change m.cue m.found)
    ∙ entry_at-placed_here (λ (x : Cue). x.number) n (record m.cue { moves = change m.cue.moves }) show.cues m.number

changed_back : (show : Show) (n : ℕ) (change back : List Move → List Move) (m : Moved show n) → Valid show
    → back (change m.cue.moves) ≡ m.cue.moves → with_moves_in (with_moves_in show n change) n back ≡ show
changed_back show n change back m valid same =
    let key : Cue → ℕ = λ x. x.number in
    let new : Cue = record m.cue { moves = change m.cue.moves } in
    changed_is (with_moves_in show n change) n back new (here_changed show n change m)
    ∙ ap (λ (s : Show). with_cue s (record new { moves = back new.moves })) (changed_is show n change m.cue m.found)
    ∙ ap (λ (ms : List Move). with_cue (with_cue show new) (record m.cue { moves = ms })) same
    ∙ ap (λ (xs : List Cue). record show { cues = xs })
    (exchanged_back key n (Some new) (Some m.cue) show.cues m.found valid.cues_sorted m.number)

-- the moves that it had, given back
pub moves_back : (show after : Show) (n : ℕ) (moves old : List Move) (within : Span) → Moved show n → Valid show
    → after ≡ with_moves_in show n (λ _. moves) → CanReplace show n moves within → IsSomeAnd (cue_of show n) (λ x. old ≡ x.moves)
    → TakesBack show after (plans.Moves n old within)
moves_back show after n moves old within m valid is ready before =
    let here = here_changed show n (λ _. moves) m in
    let same : SameOutside within m.cue.moves moves = rw m.found at ready.same in
    let was : old ≡ m.cue.moves = rw m.found at before in
    rw (is, was) (record {
      ready = record { valid = rw here m.whole.moves; same = rw here (λ c out. sym (same c out)) };
      back = changed_back show n (λ _. moves) (λ _. m.cue.moves) m valid refl;
    })

-- the move that was there, placed again
pub move_back : (show after : Show) (n : ℕ) (entry old : Move) → Moved show n → Valid show → after ≡ with_move_in show n entry
    → IsSomeAnd (cue_of show n) (λ x. move_in x entry.chan ≡ Some old) → TakesBack show after (plans.Move n old)
move_back show after n entry old m valid is replaced =
    let key : Move → ℕ = λ x. x.chan in
    let was : move_in m.cue entry.chan ≡ Some old = rw m.found at replaced in
    let here = here_changed show n (placed key entry) m in
    rw is (record {
      ready = record {
        valid = rw here (found_valid (ValidMove show.channels m.cue.parts) key entry.chan m.cue.moves old m.whole.moves was);
        there = rw here (rw (entry_at-placed_here key old.chan entry m.cue.moves (found_number key entry.chan m.cue.moves old was)) refl);
      };
      back = changed_back show n (placed key entry) (placed key old) m valid
          (exchanged_back key entry.chan (Some entry) (Some old) m.cue.moves was m.whole.moves_sorted refl);
    })

one_channel : (first last : ℕ) → first ≡ last → range_with_len first (last + 1 - first) ≡ first ∷ []
one_channel first last same =
    let one : last + 1 - first ≡ 1 = omega (arith, same) in
    ap (range_with_len first) one

only_step : (only : Bool) (show : Show) (n : ℕ) (cue : Cue) (entry : Move) → FoundCue show n cue
    → (only ≡ true → IfSome (cue_above show n) (λ above. decides above entry.chan ≡ true))
    → cue_only only show n (with_cue show (with_move cue entry)) ≡ with_cue show (with_move cue entry)
only_step true show n cue entry here apart = nothing_kept show n cue entry here (apart refl)
only_step false show n cue entry here apart = refl

-- one channel that the cue moves already, at another level
pub set_one : (show : Show) (n level : ℕ) (cue : Cue) (given part : Option ℕ) (range : Span) (only : Bool) (entry : Move)
    → FoundCue show n cue → GivenPart cue given part → IsWithin show.channels range → range.first ≡ range.last
    → entry ≡ record { chan = range.first; part = part_for part cue range.first; level = level }
    → InRange CHANNELS entry.chan → IsLevel entry.level → IsTrue (has_entry (λ m. m.chan) entry.chan cue.moves)
    → (only ≡ true → IfSome (cue_above show n) (λ above. decides above range.first ≡ true))
    → IsPlan show (Set n given range level only) (plans.Move n entry)
set_one show n level cue given part range only entry here is_part within one is chan_range is_level there apart =
    let le = le_true range.last show.channels within.most in
    let meant : Move = record { chan = range.first; part = part_for given cue range.first; level = level } in
    let made : edited show (Set n given range level only)
    ≡ Ok (cue_only only show n (with_cue show (with_levels given cue (all_at level (channels_in range))))) =
    rw (here.found, is_part.is, le) refl in
    let entry_is : entry ≡ meant = is
    ∙ ap (λ (p : Option ℕ). record { chan = range.first; part = part_for p cue range.first; level = level }) is_part.same in
    let chan : entry.chan ≡ range.first = ap (λ (m : Move). m.chan) is in
    let has_part : IsTrue (has_entry (λ (p : Part). p.number) entry.part cue.parts) =
    rw entry_is (part_there show.channels cue given range.first here.valid is_part.there) in
    let most : range.last ≤ show.channels = within.most in
    record {
      makes = made
          ∙ ap (λ (cs : List ℕ). Ok (cue_only only show n (with_cue show (with_levels given cue (all_at level cs)))))
          (one_channel range.first range.last one)
          ∙ ap (λ (m : Move). Ok (cue_only only show n (with_cue show (with_move cue m)))) (sym entry_is)
          ∙ ap Ok (only_step only show n cue entry here (rw chan apart))
          ∙ ap Ok (sym (moved_is show n entry cue here.found));
      ready = record {
        valid = rw here.found (record {
          chan = record { least = chan_range.least; most = omega (arith, chan, one, most) };
          part = has_part;
          level = is_level;
        });
        there = rw here.found there;
      };
      dimmer = refl;
      subs = refl;
    }
