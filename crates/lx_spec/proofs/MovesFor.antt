-- A cue with moves for the channels that pass a test.
use Rattle.lx_spec.proofs.Imports.{◌≡◌, ℕ, zero, suc, ◌+◌, ◌<◌, ◌≤◌, Bool, true, false, cond, List, [], ◌∷◌, map, Some, refl}
use Rattle.lx_spec.proofs.Imports.{◌∙◌, ap, inl, inr, arith, Option, filter, fold, is_some, ◌==◌, ◌&&◌, ◌||◌, option_map_or}
use Rattle.lx_spec.proofs.Imports.{list_any, range_with_len, cases_lt, cases_Bool, nat_tests, Move, entry_at}
use Rattle.lx_spec.proofs.Imports.{placed, Cue, Show, InRange, move_in, channels_of, moves_for, with_moves}
use Rattle.lx_spec.proofs.Along.{tracked_on}
use Rattle.lx_spec.proofs.Comparisons.{eq_true}
use Rattle.lx_spec.proofs.SortedLists.{entry_at-placed}

-- a move in part 1 at the channel's level
abbrev pub move_at : (ℕ → ℕ) → ℕ → Move
move_at level c = record { chan = c; part = 1; level = level c }

number_is : (a n : ℕ) → (a == n) ≡ true → a ≡ n
number_is a n same = grind (arith, nat_tests)

either_move : (f : ℕ → Move) (any : Bool) (d c : ℕ) (o : Option Move)
    → cond any (Some (f c)) (cond (d == c) (Some (f d)) o) ≡ cond ((d == c) || any) (Some (f c)) o
either_move f any d c o = grind (arith, nat_tests, number_is d c)

-- the moves of some channels, placed
pub placed_moves : (f : ℕ → Move) → ((d : ℕ) → (f d).chan ≡ d) → (cs : List ℕ) (ms : List Move) (c : ℕ)
    → entry_at (λ m. m.chan) c (fold (λ ms m. placed (λ x. x.chan) m ms) ms (map f cs))
    ≡ cond (list_any (λ d. d == c) cs) (Some (f c)) (entry_at (λ m. m.chan) c ms)
placed_moves f chan_is [] ms c = refl
placed_moves f chan_is (d ∷ cs) ms c =
    placed_moves f chan_is cs (placed (λ x. x.chan) (f d) ms) c
    ∙ ap (cond (list_any (λ e. e == c) cs) (Some (f c))) (entry_at-placed (λ (m : Move). m.chan) c (f d) ms)
    ∙ ap (λ (n : ℕ). cond (list_any (λ e. e == c) cs) (Some (f c)) (cond (n == c) (Some (f d)) (entry_at (λ m. m.chan) c ms))) (chan_is d)
    ∙ either_move f (list_any (λ e. e == c) cs) d c (entry_at (λ m. m.chan) c ms)

-- a number is among those that pass where it passes and is there
any_passing : (test : ℕ → Bool) (c : ℕ) (cs : List ℕ) → list_any (λ d. d == c) (filter test cs) ≡ (test c && list_any (λ d. d == c) cs)
any_passing test c [] = elim (test c) as (λ b. false ≡ (b && false)) [ true ↦ refl | false ↦ refl ]
any_passing test c (d ∷ cs) = elim (cases_Bool (d == c)) [
  | inl here ↦ rw (here, number_is d c here) (grind (arith, any_passing test c cs))
  | inr other ↦ rw other (grind (arith, any_passing test c cs))
]

-- the numbers from one on have each in their range
any_in_range : (a n c : ℕ) → a ≤ c → c < a + n → list_any (λ d. d == c) (range_with_len a n) ≡ true
any_in_range a zero c least most = absurd (omega arith)
any_in_range a (suc n) c least most =
    elim (cases_lt a c) [
      | inl less ↦ rw (any_in_range (a + 1) n c (omega arith) (omega arith)) (elim (a == c) as (λ b. (b || true) ≡ true)
          [ true ↦ refl | false ↦ refl ])
      | inr here ↦ rw (eq_true a c (omega arith)) refl
    ]

-- a channel of the show is among those that pass where it passes
pub passes_among : (show : Show) (test : ℕ → Bool) (c : ℕ) → InRange show.channels c
    → list_any (λ d. d == c) (filter test (channels_of show)) ≡ test c
passes_among show test c range =
    any_passing test c (channels_of show) ∙ rw (any_in_range 1 show.channels c range.least (omega (arith, range.most)))
    (elim (test c) as (λ b. (b && true) ≡ b) [ true ↦ refl | false ↦ refl ])

-- the move of a channel in the cue so changed
pub move_in-with_moves : (show : Show) (cue : Cue) (test : ℕ → Bool) (level : ℕ → ℕ) (c : ℕ) → InRange show.channels c
    → move_in (with_moves cue (moves_for show test level)) c ≡ cond (test c) (Some (move_at level c)) (move_in cue c)
move_in-with_moves show cue test level c range =
    placed_moves (move_at level) (λ d. refl) (filter test (channels_of show)) cue.moves c
    ∙ ap (λ b. cond b (Some (move_at level c)) (move_in cue c)) (passes_among show test c range)

pub moved_level : (cue : Cue) (c level : ℕ) (m : Move) → move_in cue c ≡ Some m → tracked_on c cue level ≡ m.level
moved_level cue c level m is =
    ap (λ (o : Option Move). cond (cue.block || is_some o) (option_map_or (λ x. x.level) o 0) level) is
    ∙ elim cue.block as (λ b. cond (b || true) m.level level ≡ m.level) [ true ↦ refl | false ↦ refl ]

-- a channel that passes comes to its level, and another goes on as in the cue that was changed
pub on_moves : (show : Show) (cue : Cue) (test : ℕ → Bool) (level : ℕ → ℕ) (c before : ℕ) → InRange show.channels c
    → tracked_on c (with_moves cue (moves_for show test level)) before ≡ cond (test c) (level c) (tracked_on c cue before)
on_moves show cue test level c before range =
    let is = move_in-with_moves show cue test level c range in
    elim (cases_Bool (test c)) [
      | inl passes ↦ rw passes (moved_level (with_moves cue (moves_for show test level)) c before (move_at level c) (rw passes at is))
      | inr fails ↦ rw (fails, rw fails at is) refl
    ]
