-- Moves that are marked where they differ.
use Rattle.lx_edit.proofs.Imports.{find-append, ◌≡◌, ℕ, zero, suc, ◌+◌, ◌-◌, ◌<◌, ◌≤◌, Bool, true, false, cond, List, [], ◌∷◌}
use Rattle.lx_edit.proofs.Imports.{◌++◌, length, map, take, get_or, Some, None, drop, refl, ◌∙◌, sym, ap, subst, arith, Option, IfSome, is_some}
use Rattle.lx_edit.proofs.Imports.{◌||◌, ◌&&◌, ◌==◌, not, nat_le, nat_lt, option_map_or, option_or, AllByRecursion, range_with_len, nat_tests, Span}
use Rattle.lx_edit.proofs.Imports.{CHANNELS, Part, false≢true, or_left, take_more, take-append-drop, Move, all_placed, entry_at, entries_above, placed, Cue}
use Rattle.lx_edit.proofs.Imports.{ValidCue, ValidMove, all_at, channels_in, part_for, with_levels, without_moves, entries_up_to, eq_from, eq_other, eq_true}
use Rattle.lx_edit.proofs.Imports.{all_append, each, find_in_filter, find_none, entry_at-placed_other, found_number, found_valid, ChanSet}
use Rattle.lx_edit.proofs.Lists.{if_found}
use Rattle.lx_edit.proofs.Imports.{cases_Bool, inl, inr, has_chan, AreAmong, Grows, move_by, moves_of_cue, decided, SameOutside, covers}

not_right : (a b : Bool) → (a || b) ≡ false → b ≡ false
not_right true b is = absurd (false≢true (sym is))
not_right false b is = is

-- a set with one more channel
pub one_more : (before chans : ChanSet) (k : ℕ) → ((x : ℕ) → has_chan chans x ≡ (x == k || has_chan before x)) → Grows before chans
one_more before chans k is = λ x out. not_right (x == k) (has_chan before x) (sym (is x) ∙ out)

pub is_in : (before chans : ChanSet) (k : ℕ) (A : Type 0) → ((x : ℕ) → has_chan chans x ≡ (x == k || has_chan before x))
    → has_chan chans k ≡ false → A
is_in before chans k A is out =
    absurd (false≢true (sym out ∙ is k ∙ or_left (k == k) (has_chan before k) (eq_true k k refl)))

pub among_grown : (before chans : ChanSet) (moves others : List Move) → Grows before chans → AreAmong before moves others
    → AreAmong chans moves others
among_grown before chans moves others grows all =
    each (λ m. has_chan before m.chan ≡ false → entry_at (λ x. x.chan) m.chan others ≡ Some m)
    (λ m. has_chan chans m.chan ≡ false → entry_at (λ x. x.chan) m.chan others ≡ Some m) moves
    (λ m there out. there (grows m.chan out)) all

-- one move more, which is among the others or marked
pub among_more : (before chans : ChanSet) (moves others : List Move) (k : ℕ) (m : Move) → k < length moves → m ≡ get_or moves k m
    → Grows before chans → (has_chan chans m.chan ≡ false → entry_at (λ x. x.chan) m.chan others ≡ Some m)
    → AreAmong before (take k moves) others → AreAmong chans (take (k + 1) moves) others
among_more before chans moves others k m within is grows here all =
    subst (λ (ms : List Move). AreAmong chans ms others)
    (sym (take_more moves k m within ∙ ap (λ (x : Move). take k moves ++ x ∷ []) (sym is)))
    (all_append (λ x. has_chan chans x.chan ≡ false → entry_at (λ y. y.chan) x.chan others ≡ Some x) (take k moves) (m ∷ [])
    (among_grown before chans (take k moves) others grows all) (here, tt))

among_found : (chans : ChanSet) (moves others : List Move) (c : ℕ) → has_chan chans c ≡ false → AreAmong chans moves others
    → IfSome (entry_at (λ m. m.chan) c moves) (λ m. entry_at (λ x. x.chan) c others ≡ Some m)
among_found chans moves others c out all = if_found (entry_at (λ m. m.chan) c moves) (λ m is.
    subst (λ k. has_chan chans k ≡ false → entry_at (λ (x : Move). x.chan) k others ≡ Some m) (sym (found_number (λ (x : Move). x.chan) c moves m is))
    (found_valid (λ (x : Move). has_chan chans x.chan ≡ false → entry_at (λ (y : Move). y.chan) x.chan others ≡ Some x)
    (λ (x : Move). x.chan) c moves m all is) out)

same_both_ways : (a b : Option Move) → IfSome a (λ m. b ≡ Some m) → IfSome b (λ m. a ≡ Some m) → a ≡ b
same_both_ways None None there back = refl
same_both_ways None (Some m) there back = back
same_both_ways (Some m) b there back = sym there

-- where each move of either list is among the others or marked, the other channels have the same
pub same_moves : (chans : ChanSet) (old new : List Move) → AreAmong chans old new → AreAmong chans new old → (c : ℕ)
    → has_chan chans c ≡ false → entry_at (λ m. m.chan) c old ≡ entry_at (λ m. m.chan) c new
same_moves chans old new there back c out =
    same_both_ways (entry_at (λ m. m.chan) c old) (entry_at (λ m. m.chan) c new) (among_found chans old new c out there)
    (among_found chans new old c out back)

-- the channel's move of a cue that may be absent is one of its moves
pub move_by-moves : (cue : Option Cue) (c : ℕ) → move_by cue c ≡ entry_at (λ m. m.chan) c (moves_of_cue cue)
move_by-moves None c = refl
move_by-moves (Some cue) c = refl

-- Moves of a range.
-- the moves of a range have that of each channel of it
pub part_has : (range : Span) (c : ℕ) (moves from part : List Move) (first last : ℕ) → 1 ≤ first → first ≡ range.first → last ≡ range.last
    → from ≡ entries_above (λ m. m.chan) (first - 1) moves → part ≡ entries_up_to (λ m. m.chan) last from
    → covers range c ≡ true → entry_at (λ m. m.chan) c part ≡ entry_at (λ m. m.chan) c moves
part_has range c moves from part first last least first_is last_is from_is part_is within =
    let inside : (nat_le first c && nat_le c last) ≡ true = rw (first_is, last_is) within in
    rw (part_is, from_is) (find_in_filter (λ m. m.chan == c) (λ m. nat_le m.chan last) _ (λ m same. grind (arith, nat_tests))
    ∙ find_in_filter (λ m. m.chan == c) (λ m. nat_lt (first - 1) m.chan) moves (λ m same. grind (arith, nat_tests)))

-- where those of the range are compared, and the others are the same
pub same_within : (range : Span) (old new part_old part_new : List Move) (chans : ChanSet) → SameOutside range old new
    → ((c : ℕ) → covers range c ≡ true → entry_at (λ m. m.chan) c part_old ≡ entry_at (λ m. m.chan) c old)
    → ((c : ℕ) → covers range c ≡ true → entry_at (λ m. m.chan) c part_new ≡ entry_at (λ m. m.chan) c new)
    → ((c : ℕ) → has_chan chans c ≡ false → entry_at (λ m. m.chan) c part_old ≡ entry_at (λ m. m.chan) c part_new)
    → (c : ℕ) → has_chan chans c ≡ false → entry_at (λ m. m.chan) c old ≡ entry_at (λ m. m.chan) c new
same_within range old new part_old part_new chans outside was now same c out = elim (cases_Bool (covers range c)) [
  | inl is ↦ sym (was c is) ∙ same c out ∙ now c is
  | inr is ↦ outside c is
]

-- Moves placed, left out or of a valid cue are the same outside their range.
placed_others : (c : ℕ) (more moves : List Move) → AllByRecursion (λ m. c ≡ m.chan → ⊥) more
    → entry_at (λ m. m.chan) c (all_placed (λ m. m.chan) more moves) ≡ entry_at (λ m. m.chan) c moves
placed_others c [] moves all = refl
placed_others c (m ∷ ms) moves all =
    placed_others c ms (placed (λ x. x.chan) m moves) all.1
    ∙ entry_at-placed_other (λ (x : Move). x.chan) c m moves (λ is. all.0 (sym is))

pub not_covered : (first last c k : ℕ) → (nat_le first c && nat_le c last) ≡ false → first ≤ k → k ≤ last → c ≡ k → ⊥
not_covered first last c k out low high is =
    let inside : (nat_le first c && nat_le c last) ≡ true = grind (arith, nat_tests) in
    false≢true (sym out ∙ inside)

range_others : (first last c level a n : ℕ) (part : ℕ → ℕ) → (nat_le first c && nat_le c last) ≡ false → first ≤ a → a + n ≤ last + 1
    → AllByRecursion (λ (m : Move). c ≡ m.chan → ⊥)
    (map (λ m. record { chan = m.chan; part = part m.chan; level = m.level }) (all_at level (range_with_len a n)))
range_others first last c level a zero part out low high = tt
range_others first last c level a (suc n) part out low high =
    (not_covered first last c a out low (omega arith), range_others first last c level (a + 1) n part out (omega arith) (omega arith))

pub set_outside : (range : Span) (level : ℕ) (part : Option ℕ) (cue : Cue) → range.first ≤ range.last
    → SameOutside range cue.moves (with_levels part cue (all_at level (channels_in range))).moves
set_outside range level part cue order = λ c out.
    sym (placed_others c _ cue.moves
    (range_others range.first range.last c level range.first (range.last + 1 - range.first) (part_for part cue) out (omega arith) (omega arith)))

pub released_outside : (range : Span) (cue : Cue) → SameOutside range cue.moves (without_moves cue range).moves
released_outside range cue = λ c out.
    sym (find_in_filter (λ m. m.chan == c) (λ m. not (nat_le range.first m.chan && nat_le m.chan range.last)) cue.moves
    (λ m same. ap (λ k. not (nat_le range.first k && nat_le k range.last)) (sym (eq_from m.chan c same)) ∙ ap not out))

none_past : (channels c : ℕ) (parts : List Part) (moves : List Move) → channels ≤ CHANNELS → AllByRecursion (ValidMove channels parts) moves
    → (nat_le 1 c && nat_le c CHANNELS) ≡ false → entry_at (λ m. m.chan) c moves ≡ None
none_past channels c parts moves few valid out = find_none (λ m. m.chan == c) moves
    (each (ValidMove channels parts) (λ m. (m.chan == c) ≡ false) moves
    (λ m h. eq_other m.chan c (λ is. not_covered 1 CHANNELS c m.chan out h.chan.least (omega (arith, h.chan.most, few)) (sym is))) valid)

pub valid_outside : (channels : ℕ) (old new : Cue) → channels ≤ CHANNELS → ValidCue channels old → ValidCue channels new
    → SameOutside (record { first = 1; last = CHANNELS }) old.moves new.moves
valid_outside channels old new few was now = λ c out.
    none_past channels c old.parts old.moves few was.moves out ∙ sym (none_past channels c new.parts new.moves few now.moves out)

-- a channel that has the same move in a cue with other moves is decided the same
pub decided_alike : (old cue : Cue) (c : ℕ) → cue ≡ record old { moves = cue.moves }
    → entry_at (λ m. m.chan) c old.moves ≡ entry_at (λ m. m.chan) c cue.moves → decided cue c ≡ decided old c
decided_alike old cue c is same =
    ap (λ (q : Cue). decided q c) is
    ∙ ap (λ (o : Option Move). cond (old.block || is_some o) (Some (option_map_or (λ m. m.level) o 0)) None) (sym same)

-- lists that begin alike have the same entry of each number where their rests have
pub rest_same : (front c : ℕ) (old new : List Move) → take front old ≡ take front new
    → entry_at (λ m. m.chan) c (drop front old) ≡ entry_at (λ m. m.chan) c (drop front new)
    → entry_at (λ m. m.chan) c old ≡ entry_at (λ m. m.chan) c new
rest_same front c old new same rest =
    let split : (ms : List Move) → entry_at (λ m. m.chan) c ms
    ≡ option_or (entry_at (λ m. m.chan) c (take front ms)) (entry_at (λ m. m.chan) c (drop front ms)) = λ ms.
    ap (entry_at (λ m. m.chan) c) (sym (take-append-drop front ms)) ∙ find-append (λ m. m.chan == c) (take front ms) (drop front ms) in
    split old ∙ ap (λ (ms : List Move). option_or (entry_at (λ m. m.chan) c ms) (entry_at (λ m. m.chan) c (drop front old))) same
    ∙ ap (option_or (entry_at (λ m. m.chan) c (take front new))) rest ∙ sym (split new)
