-- Moves that are kept by channel.
use Rattle.lx_reader.proofs.Imports.{◌≡◌, ℕ, zero, suc, ◌+◌, ◌<◌, ◌≤◌, Bool, true, false, List, [], ◌∷◌, ◌++◌, length, take, drop, replicate, refl}
use Rattle.lx_reader.proofs.Imports.{ap, ◌∙◌, sym, subst, arith, append_assoc, append-nil, ◌-◌, map, IfSome, slice_get, slice_set, fold, max}
use Rattle.lx_reader.proofs.Imports.{false≢true, drop-drop, drop_all, AllByRecursion, Move, IsStrictlySorted, placed, lt_true, lt_false, each}
use Rattle.lx_reader.proofs.Imports.{all_append, goes_between, stands_between, AreNumbered, ReadsLevels, moves_there, all_pairs, onto, moves_of}
use Rattle.lx_reader.proofs.Imports.{CHANNELS, Member, ValidMember, map-append, fold-append}
use Rattle.lx_reader.proofs.SectionLevels.{onto_again, onto_nothing}

later : (c : ℕ) (m : Move) (moves : List Move) → AreNumbered c (m ∷ moves) → AreNumbered (c + 1) moves
later c m moves numbered = λ k within.
    subst (λ n. IfSome (slice_get moves k) (λ x. x.chan ≡ n)) (omega arith) (numbered (suc k) (omega arith))

-- none is of a channel before this one, where none of the row is
from_first : (b c : ℕ) (moves : List Move) (flags : List Bool) → b ≤ c → AreNumbered c moves
    → AllByRecursion (λ m. b ≤ m.chan) (moves_there moves flags)
from_first b c [] flags least numbered = tt
from_first b c (m ∷ moves) [] least numbered = tt
from_first b c (m ∷ moves) (false ∷ flags) least numbered = from_first b (c + 1) moves flags (omega arith) (later c m moves numbered)
from_first b c (m ∷ moves) (true ∷ flags) least numbered =
    (omega (arith, numbered 0 (omega arith)), from_first b (c + 1) moves flags (omega arith) (later c m moves numbered))

pub behind : (c : ℕ) (moves : List Move) (flags : List Bool) → AreNumbered (c + 1) moves
    → AllByRecursion (λ m. c < m.chan) (moves_there moves flags)
behind c moves flags numbered = from_first (suc c) (c + 1) moves flags (omega arith) numbered

pub moves_rise : (c : ℕ) (moves : List Move) (flags : List Bool) → AreNumbered c moves
    → IsStrictlySorted (λ m. m.chan) (moves_there moves flags)
moves_rise c [] flags numbered = tt
moves_rise c (m ∷ moves) [] numbered = tt
moves_rise c (m ∷ moves) (false ∷ flags) numbered = moves_rise (c + 1) moves flags (later c m moves numbered)
moves_rise c (m ∷ moves) (true ∷ flags) numbered =
    let here : m.chan ≡ c = numbered 0 (omega arith) ∙ omega arith in
    (rw here (behind c moves flags (later c m moves numbered)), moves_rise (c + 1) moves flags (later c m moves numbered))

-- a move written into the place of its channel
pub slot_written : (c k : ℕ) (moves : List Move) (flags : List Bool) (m : Move) → AreNumbered c moves → k < length moves
    → length flags ≡ length moves → m.chan ≡ c + k
    → moves_there (slice_set moves k m) (slice_set flags k true) ≡ placed (λ m. m.chan) m (moves_there moves flags)
slot_written c k [] flags m numbered within long at = absurd (omega (arith, within))
slot_written c k (x ∷ moves) [] m numbered within long at = absurd (omega (arith, long))
slot_written c zero (x ∷ moves) (false ∷ flags) m numbered within long at =
    let here : m.chan ≡ c = omega (arith, at) in
    let gap = goes_between (λ m. m.chan) m.chan [] (moves_there moves flags) tt
    (rw here (behind c moves flags (later c x moves numbered))) in
    rw (gap.0, gap.2) refl
slot_written c zero (x ∷ moves) (true ∷ flags) m numbered within long at =
    let here : m.chan ≡ c = omega (arith, at) in
    let there : x.chan ≡ c = numbered 0 (omega arith) ∙ omega arith in
    let gap = stands_between (λ m. m.chan) m.chan [] (moves_there moves flags) x tt (there ∙ sym here)
    (rw here (behind c moves flags (later c x moves numbered))) in
    rw (gap.0, gap.2) refl
slot_written c (suc k) (x ∷ moves) (false ∷ flags) m numbered within long at =
    slot_written (c + 1) k moves flags m (later c x moves numbered) (omega arith) (omega (arith, long)) (omega (arith, at))
slot_written c (suc k) (x ∷ moves) (true ∷ flags) m numbered within long at =
    let there : x.chan ≡ c = numbered 0 (omega arith) ∙ omega arith in
    let above : x.chan < m.chan = omega (arith, at, there) in
    rw (lt_true x.chan m.chan above, lt_false m.chan x.chan (omega arith))
    (ap (λ ms. x ∷ ms)
    (slot_written (c + 1) k moves flags m (later c x moves numbered) (omega arith) (omega (arith, long)) (omega (arith, at))))

none_left : (c n : ℕ) (xs : List Move) → n ≡ c → AllByRecursion (λ m. m.chan < n) xs → AllByRecursion (λ m. c ≤ m.chan) xs → [] ≡ xs
none_left c n [] same below above = refl
none_left c n (x ∷ rest) same below above = absurd (omega (arith, same, below.0, above.0))

-- where none is there
pub none_there : (moves : List Move) (n : ℕ) → moves_there moves (replicate n false) ≡ []
none_there [] n = refl
none_there (m ∷ moves) zero = refl
none_there (m ∷ moves) (suc n) = none_there moves n

-- where those of the first channels are all there, and no other
pub all_there : (c n : ℕ) (moves : List Move) (flags : List Bool) → AreNumbered c moves → n ≤ length moves → length flags ≡ length moves
    → ((k : ℕ) → k < length (take n flags) → IfSome (slice_get (take n flags) k) (λ there. there ≡ true))
    → AllByRecursion (λ m. m.chan < c + n) (moves_there moves flags) → take n moves ≡ moves_there moves flags
all_there c zero moves flags numbered few long each_is within =
    none_left c (c + 0) (moves_there moves flags) (omega arith) within (from_first c c moves flags (omega arith) numbered)
all_there c (suc n) [] flags numbered few long each_is within = absurd (omega (arith, few))
all_there c (suc n) (m ∷ moves) [] numbered few long each_is within = absurd (omega (arith, long))
all_there c (suc n) (m ∷ moves) (false ∷ flags) numbered few long each_is within = absurd (false≢true (each_is 0 (omega arith)))
all_there c (suc n) (m ∷ moves) (true ∷ flags) numbered few long each_is within =
    ap (λ ms. m ∷ ms)
    (all_there (c + 1) n moves flags (later c m moves numbered) (omega arith) (omega (arith, long)) (λ k less. each_is (suc k) (omega arith))
    (each _ _ (moves_there moves flags) (λ x h. omega (arith, h)) within.1))

no_flags : (moves : List Move) → moves_there moves [] ≡ []
no_flags [] = refl
no_flags (m ∷ moves) = refl

-- those that are there, cut at a place
pub there_cut : (n : ℕ) (moves : List Move) (flags : List Bool)
    → moves_there moves flags ≡ moves_there (take n moves) (take n flags) ++ moves_there (drop n moves) (drop n flags)
there_cut zero moves flags = refl
there_cut (suc n) [] flags = refl
there_cut (suc n) (m ∷ moves) [] = sym (no_flags (drop n moves))
there_cut (suc n) (m ∷ moves) (true ∷ flags) = ap (λ ms. m ∷ ms) (there_cut n moves flags)
there_cut (suc n) (m ∷ moves) (false ∷ flags) = there_cut n moves flags

-- where none is there, as the flags say one by one
pub none_among : (moves : List Move) (flags : List Bool) → ((k : ℕ) → k < length flags → IfSome (slice_get flags k) (λ there. there ≡ false))
    → moves_there moves flags ≡ []
none_among [] flags none = refl
none_among (m ∷ moves) [] none = refl
none_among (m ∷ moves) (true ∷ flags) none = absurd (false≢true (sym (none 0 (omega arith))))
none_among (m ∷ moves) (false ∷ flags) none = none_among moves flags (λ k less. none (suc k) (omega arith))

-- those of a block, and then those behind it
pub block_then : (k next end : ℕ) (moves : List Move) (flags : List Bool) (front : List Move) → next ≡ end → end ≡ k + (end - k)
    → (front ++ moves_there (take (end - k) (drop k moves)) (take (end - k) (drop k flags))) ++ moves_there (drop next moves) (drop next flags)
    ≡ front ++ moves_there (drop k moves) (drop k flags)
block_then k next end moves flags front is more =
    let n = end - k in
    let behind : next ≡ k + n = is ∙ more in
    append_assoc front (moves_there (take n (drop k moves)) (take n (drop k flags))) (moves_there (drop next moves) (drop next flags))
    ∙ ap (λ m. front ++ (moves_there (take n (drop k moves)) (take n (drop k flags)) ++ moves_there (drop m moves) (drop m flags))) behind
    ∙ (λ j. front ++ (moves_there (take n (drop k moves)) (take n (drop k flags))
    ++ moves_there (sym (drop-drop n k moves) j) (sym (drop-drop n k flags) j)))
    ∙ ap (λ ms. front ++ ms) (sym (there_cut n (drop k moves) (drop k flags)))

-- behind all of them none is left
pub none_left_over : (k : ℕ) (moves : List Move) (flags : List Bool) (front : List Move) → length moves ≤ k
    → front ≡ front ++ moves_there (drop k moves) (drop k flags)
none_left_over k moves flags front past =
    sym (append-nil front) ∙ ap (λ ms. front ++ moves_there ms (drop k flags)) (sym (drop_all k moves past))

-- levels, and then those behind them
pub levels_then : {i part least k k' : ℕ} {all rest rest' : List (List ℕ)} {old now new : List Move}
    → ReadsLevels i part least all rest k old now → ReadsLevels i part k rest rest' k' now new
    → ReadsLevels i part least all rest' k' old new
levels_then {i} {part} {least} {k} {k'} {all} {rest} {rest'} {old} {now} {new} front back =
    let xs = front.members in
    let ys = back.members in
    let add : List Move → Move → List Move = λ ms x. placed (λ m. m.chan) x ms in
    record {
      members = xs ++ ys;
      list = front.list ∙ ap (onto xs) back.list ∙ onto_again xs ys (all_pairs i rest');
      valid = all_append _ xs ys front.valid back.valid;
      placed = back.placed ∙ ap (λ ms. fold add ms (moves_of part ys)) front.placed
          ∙ sym (fold-append add old (moves_of part xs) (moves_of part ys)) ∙ ap (fold add old) (sym (map-append _ xs ys));
      is_greatest = back.is_greatest ∙ ap (λ n. fold max n (map (λ m. m.chan) ys)) front.is_greatest
          ∙ sym (fold-append max least (map (λ m. m.chan) xs) (map (λ m. m.chan) ys)) ∙ ap (fold max least) (sym (map-append _ xs ys));
    }

pub levels_none : (i part least : ℕ) (all : List (List ℕ)) (old : List Move) → ReadsLevels i part least all all least old old
levels_none i part least all old =
    record { members = []; list = onto_nothing (all_pairs i all); valid = tt; placed = refl; is_greatest = refl }

pub level_alone : {i part k k' : ℕ} {rest rest' : List (List ℕ)} {now new : List Move} {m : Member}
    → all_pairs i rest ≡ onto (m ∷ []) (all_pairs i rest') → ValidMember CHANNELS m
    → new ≡ placed (λ m. m.chan) (record { chan = m.chan; part = part; level = m.level }) now → k' ≡ max k m.chan
    → ReadsLevels i part k rest rest' k' now new
level_alone {i} {part} {k} {k'} {rest} {rest'} {now} {new} {m} next valid put greatest =
    record { members = m ∷ []; list = next; valid = (valid, tt); placed = put; is_greatest = greatest }
