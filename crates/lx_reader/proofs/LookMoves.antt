-- The moves of a look, channel by channel, and the cues whose looks become moves, from the last one on.
use Rattle.lx_reader.proofs.Imports.{◌≡◌, ℕ, suc, zero, ◌+◌, ◌<◌, ◌≤◌, Bool, true, false, cond, List, [], ◌∷◌, ◌++◌, map, length, take, drop, get_or}
use Rattle.lx_reader.proofs.Imports.{Option, Some, None, refl, ap, ◌∙◌, sym, subst, arith, add-one, append-nil, append_assoc, IsTrue, filter, each}
use Rattle.lx_reader.proofs.Imports.{not, ◌==◌, ◌-◌, IfSome, option_map_or, IsSomeAnd, AllByRecursion, range_with_len, take-append_seam, map-append}
use Rattle.lx_reader.proofs.Imports.{filter-append, Move, Part, from_looks, IsStrictlySorted, placed, has_entry, entry_at, entries_below}
use Rattle.lx_reader.proofs.Imports.{entries_above, Cue, Show, InRange, ValidMove, ValidCue, Valid, cue_of, move_in, level_in, changed, kept_by}
use Rattle.lx_reader.proofs.Imports.{find_has, seam, goes_between, stands_between, all_at_seam, below_seam, above_seam, last_look, look_changes}
use Rattle.lx_reader.proofs.Imports.{look_move, moves_up_to, with_look, new_cue}
use Rattle.std.proofs.Math.Seq.{take-suc, drop-cons, get_or-append_seam}
use Rattle.std.proofs.lemmas.List.{length-take-le}
use Rattle.lx_reader.proofs.Members.{all_map}

range_in : (a n top : ℕ) → 1 ≤ a → a + n ≤ top + 1 → AllByRecursion (InRange top) (range_with_len a n)
range_in a zero top least within = tt
range_in a (suc n) top least within = (record { least = least; most = omega arith }, range_in (a + 1) n top (omega arith) (omega arith))

range_end : (a n : ℕ) → range_with_len a (suc n) ≡ range_with_len a n ++ (a + n) ∷ []
range_end a zero = let same : a ≡ a + 0 = omega arith in ap (λ k. k ∷ []) same
range_end a (suc n) = let same : a + 1 + n ≡ a + suc n =
    omega arith in ap (λ xs. a ∷ xs) (range_end (a + 1) n ∙ ap (λ k. range_with_len (a + 1) n ++ k ∷ []) same)

-- an entry above all others goes to the end
placed_last : {A : Type 0} (key : A → ℕ) (x : A) (xs : List A) → AllByRecursion (λ y. key y < key x) xs → placed key x xs ≡ xs ++ x ∷ []
placed_last key x xs below =
    let cut = simp append-nil at (goes_between key (key x) xs [] below tt) in λ i. cut.0 i ++ x ∷ cut.2 i

one_more : (before : ℕ → ℕ) (cue : Cue) (n : ℕ) (b : Bool)
    → cond b (placed (λ m. m.chan) (look_move cue (suc n)) (moves_up_to before cue n)) (moves_up_to before cue n)
    ≡ moves_up_to before cue n ++ map (look_move cue) (cond b (suc n ∷ []) [])
one_more before cue n true =
    placed_last (λ m. m.chan) (look_move cue (suc n)) (moves_up_to before cue n)
    (all_map {P = λ c. c < suc n} _ (filter (look_changes before cue) (range_with_len 1 n)) (λ c h. h)
    (kept_by _ _ (range_with_len 1 n) (each _ _ _ (λ c h. omega (arith, h.most)) (range_in 1 n n (omega arith) (omega arith)))))
one_more before cue n false = sym (append-nil (moves_up_to before cue n))

-- the moves of one channel more
moves_suc : (before : ℕ → ℕ) (cue : Cue) (n : ℕ)
    → cond (look_changes before cue (suc n)) (placed (λ m. m.chan) (look_move cue (suc n)) (moves_up_to before cue n))
    (moves_up_to before cue n) ≡ moves_up_to before cue (suc n)
moves_suc before cue n =
    let p = look_changes before cue in
    let k : 1 + n ≡ suc n = omega arith in
    one_more before cue n (p (suc n))
    ∙ sym (ap (λ xs. map (look_move cue) (filter p xs)) (range_end 1 n ∙ ap (λ c. range_with_len 1 n ++ c ∷ []) k)
    ∙ ap (map (look_move cue)) (filter-append p (range_with_len 1 n) (suc n ∷ []))
    ∙ map-append (look_move cue) (filter p (range_with_len 1 n)) (filter p (suc n ∷ [])))

pub put_next : (before : ℕ → ℕ) (cue : Cue) (n : ℕ) {chan level : ℕ} {old new : List Move} → chan ≡ n + 1 → level ≡ before chan
    → old ≡ moves_up_to before cue n
    → new ≡ cond (not (level_in cue chan == cond cue.block 0 level)) (placed (λ m. m.chan) (look_move cue chan) old) old
    → new ≡ moves_up_to before cue (n + 1)
put_next before cue n {chan} number is olds news =
    let next : chan ≡ suc n = number ∙ add-one n in
    news
    ∙ (λ j. cond (not (level_in cue (next j) == cond cue.block 0 ((is ∙ ap before next) j)))
    (placed (λ m. m.chan) (look_move cue (next j)) (olds j)) (olds j))
    ∙ moves_suc before cue n ∙ ap (moves_up_to before cue) (sym (add-one n))

-- the moves of a valid cue's look are valid
look_valid : {channels c : ℕ} {parts : List Part} (o : Option Move) → InRange channels c → IsTrue (has_entry (λ p. p.number) 1 parts)
    → IfSome o (ValidMove channels parts)
    → ValidMove channels parts (record { chan = c; part = option_map_or (λ m. m.part) o 1; level = option_map_or (λ m. m.level) o 0 })
look_valid None within first valid = record { chan = within; part = first; level = omega arith }
look_valid (Some m) within first valid = record { chan = within; part = valid.part; level = valid.level }

moves_valid : (before : ℕ → ℕ) (cue : Cue) (channels : ℕ) → ValidCue channels cue
    → AllByRecursion (ValidMove channels cue.parts) (moves_up_to before cue channels)
moves_valid before cue channels valid =
    all_map {P = InRange channels} _ (filter (look_changes before cue) (range_with_len 1 channels))
    (λ c within. look_valid (move_in cue c) within valid.first_part (find_has _ (λ m. m.chan == c) cue.moves valid.moves))
    (kept_by _ _ (range_with_len 1 channels) (range_in 1 channels channels (omega arith) (omega arith)))

-- the look of the last cue
pub last_look-append : (xs : List Cue) (cue : Cue) (c : ℕ) → last_look (xs ++ cue ∷ []) c ≡ level_in cue c
last_look-append [] cue c = refl
last_look-append (x ∷ []) cue c = refl
last_look-append (x ∷ y ∷ ys) cue c = last_look-append (y ∷ ys) cue c

pub last_look-at : (xs : List Cue) (d : Cue) (c : ℕ) → 0 < length xs → last_look xs c ≡ level_in (get_or xs (length xs - 1) d) c
last_look-at [] d c some = absurd (omega (arith, some))
last_look-at (x ∷ []) d c some = refl
last_look-at (x ∷ y ∷ ys) d c some =
    let place : length (x ∷ y ∷ ys) - 1 ≡ suc (length (y ∷ ys) - 1) = omega arith in
    last_look-at (y ∷ ys) d c (omega arith) ∙ sym (ap (λ k. level_in (get_or (x ∷ y ∷ ys) k d) c) place)

-- a cue that is changed where it stands
cut_there : (front : List Cue) (cue : Cue) (back : List Cue) → IsStrictlySorted (λ x. x.number) (front ++ cue ∷ back)
    → (entries_below (λ x. x.number) cue.number (front ++ cue ∷ back) ≡ front)
    × (entry_at (λ x. x.number) cue.number (front ++ cue ∷ back) ≡ Some cue)
    × (entries_above (λ x. x.number) cue.number (front ++ cue ∷ back) ≡ back)
cut_there front cue back sorted = stands_between (λ x. x.number) cue.number front back cue
    (below_seam (λ x. x.number) front back cue sorted) refl (above_seam (λ x. x.number) front back cue sorted)

changed_there : (front : List Cue) (cue : Cue) (back : List Cue) (moves : List Move)
    → IsStrictlySorted (λ x. x.number) (front ++ cue ∷ back)
    → changed (λ x. x.number) cue.number (λ z. record z { moves = moves }) (front ++ cue ∷ back)
    ≡ front ++ record cue { moves = moves } ∷ back
changed_there front cue back moves sorted = let cut = cut_there front cue back sorted in rw (cut.1, cut.0, cut.2) refl

-- The cues from a place on have moves, and those before it are looks.
abbrev pub from_place : ℕ → Show → List Cue
from_place at show = take at show.cues ++ from_looks show (last_look (take at show.cues)) (drop at show.cues)

pub record IsLooked (at : ℕ) (old new : Show) : Type 0 where
  pub within : at ≤ length old.cues
  pub show : new ≡ record old { cues = from_place at old }

pub looked_next : {old mid new : Show} (at : ℕ) → IsLooked (suc at) old mid
    → ((front : List Cue) (cue : Cue) (back : List Cue) → length front ≡ at → mid.cues ≡ front ++ cue ∷ back
    → new ≡ record mid { cues = front ++ with_look mid front cue ∷ back }) → IsLooked at old new
looked_next {old} {mid} at looked change =
    let within : at < length old.cues = omega (arith, looked.within) in
    let front = take at old.cues in
    let cue = get_or old.cues at (new_cue 1) in
    let rest = drop (suc at) old.cues in
    let tail = from_looks old (level_in cue) rest in
    let cut : take (suc at) old.cues ≡ front ++ cue ∷ [] = take-suc old.cues at (new_cue 1) within in
    let last : last_look (take (suc at) old.cues) ≡ level_in cue = ap last_look cut ∙ (λ j c. last_look-append front cue c j) in
    let there : mid.cues ≡ front ++ cue ∷ tail = ap (λ s. s.cues) looked.show ∙ (λ j. cut j ++ from_looks old (last j) rest)
    ∙ append_assoc front (cue ∷ []) tail in
    record {
      within = omega (arith, looked.within);
      show = change front cue tail (length-take-le at old.cues (omega arith)) there
          ∙ (λ j. let s : Show = looked.show j in record s { cues = front ++ with_look s front cue ∷ tail })
          ∙ (λ j. record old { cues = front ++ from_looks old (last_look front) (sym (drop-cons old.cues at (new_cue 1) within) j) });
    }

-- The cue at a place, and the moves that it gets.
pub record IsMade (show : Show) (at : ℕ) (item : Cue) (moves : List Move) : Type 0 where
  pub valid : Valid show
  pub here : item ≡ get_or show.cues at item
  pub made : moves ≡ moves_up_to (last_look (take at show.cues)) item show.channels

pub is_made : {show : Show} {xs : List Cue} {at channels : ℕ} {item : Cue} {moves : List Move} → Valid show → xs ≡ show.cues
    → item ≡ get_or xs at item → channels ≡ show.channels → moves ≡ moves_up_to (last_look (take at xs)) item channels
    → IsMade show at item moves
is_made {at = at} {item = item} valid are here count made = record {
  valid = valid;
  here = here ∙ ap (λ v. get_or v at item) are;
  made = made ∙ (λ j. moves_up_to (last_look (take at (are j))) item (count j));
}

module _ {show : Show} {at n : ℕ} {item : Cue} {moves : List Move} (m : IsMade show at item moves) (number : n ≡ item.number) where
  -- it may have them
  pub fit_at : at < length show.cues → IsSomeAnd (cue_of show n) (λ z. AllByRecursion (ValidMove show.channels z.parts) moves)
  fit_at within =
      let front = take at show.cues in
      let back = drop (at + 1) show.cues in
      let is : show.cues ≡ front ++ item ∷ back = seam show.cues at item within m.here in
      let found : cue_of show n ≡ Some item = (λ j. entry_at (λ x. x.number) (number j) (is j))
      ∙ (cut_there front item back (subst (IsStrictlySorted (λ x. x.number)) is m.valid.cues_sorted)).1 in
      let fits : ValidCue show.channels item = all_at_seam (ValidCue show.channels) front back item
      (subst (AllByRecursion (ValidCue show.channels)) is m.valid.cues) in
      subst (λ o. IsSomeAnd o (λ z. AllByRecursion (ValidMove show.channels z.parts) moves)) (sym found)
      (subst (AllByRecursion (ValidMove show.channels item.parts)) (sym m.made) (moves_valid (last_look front) item show.channels fits))

  pub changed_at : {new : Show} → new ≡ record show { cues = changed (λ x. x.number) n (λ z. record z { moves = moves }) show.cues }
      → (front : List Cue) (cue : Cue) (back : List Cue) → length front ≡ at → show.cues ≡ front ++ cue ∷ back
      → new ≡ record show { cues = front ++ with_look show front cue ∷ back }
  changed_at changes front cue back place is =
      let same : item ≡ cue = m.here ∙ (λ j. get_or (is j) (sym place j) item) ∙ get_or-append_seam front cue back item in
      let given : take at show.cues ≡ front = (λ j. take (sym place j) (is j)) ∙ take-append_seam front (cue ∷ back) in
      let cues = (λ j. changed (λ x. x.number) ((number ∙ ap (λ z. z.number) same) j) (λ z. record z { moves = moves }) (is j))
      ∙ changed_there front cue back moves (subst (IsStrictlySorted (λ x. x.number)) is m.valid.cues_sorted)
      ∙ ap (λ ms. front ++ record cue { moves = ms } ∷ back)
      (m.made ∙ (λ j. moves_up_to (last_look (given j)) (same j) show.channels)) in
      changes ∙ (λ j. record show { cues = cues j })
