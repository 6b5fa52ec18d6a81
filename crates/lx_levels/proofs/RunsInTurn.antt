-- Runs that are followed one after another.
use Rattle.lx_levels.proofs.Imports.{◌≡◌, ℕ, ◌+◌, ◌<◌, ◌≤◌, List, [], ◌∷◌, ◌++◌, length, take, reverse, Option, Some, None, IfSome, slice_set, arith}
use Rattle.lx_levels.proofs.Imports.{get_or, ap, sym, subst, ◌∙◌, add-one, get_or_default, common_steps, Show, tracked, Run, level, last_cue, refl}
use Rattle.lx_levels.proofs.Imports.{OldestFirst, Stack, stack_level, Act, act_over, IsReplayed, IsGround, IsKnown, IsValid, AreKnown, EachAct, false}
use Rattle.lx_levels.proofs.Imports.{option_map_or}
use Rattle.lx_levels.specs.Acts.{IsOver}
use Rattle.std.proofs.Math.Seq.{take-suc}
use Rattle.std.proofs.lemmas.Option.{IfSome_then}
use Rattle.lx_levels.proofs.HiddenRuns.{level_hidden, level_passed, level_pushed}
use Rattle.lx_levels.proofs.Written.{after_set}

-- what each act has, each has when one more is written down
pub each_more : (P : Act → Type 0) (live : List Run) {n i : ℕ} (known : List (Option Act)) (new : Option Act)
    → EachAct P live n known → n ≡ i + 1 → IfSome new P → i < length known → EachAct P live i (slice_set known i new)
each_more P live {n} {i} known new others next this within = λ j least below.
    after_set (λ _ o. IfSome o P) known i new None j within this (λ apart. others j (omega (arith, least, apart, next)) below)

abbrev pub no_run : Run
no_run = record { start = 0; cue = 0; parts = []; whole = false }

pub all_valid : (show : Show) (base : ℕ) (live : List Run) (c n : ℕ) (known : List (Option Act)) → AreKnown show base live c n known
    → EachAct IsValid live n known
all_valid show base live c n known all = λ i least less.
    IfSome_then (get_or known i None) (all i no_run least less).act (λ a of. of.valid)

-- one run more, the newest first
reverse-end : (xs : List Run) (run : Run) → reverse (xs ++ run ∷ []) ≡ run ∷ reverse xs
reverse-end xs run = grind (arith, common_steps)

module _ (show : Show) (base : ℕ) (live : List Run) (c : ℕ) {n i : ℕ} {run : Run} (next : n ≡ i + 1) (lt : i < length live)
    (is : run ≡ get_or live i run) where
  abbrev older : List Run
  older = reverse (take i live)

  -- the place before which the run is the newest
  more : reverse (take n live) ≡ run ∷ older
  more =
      ap (λ j. reverse (take j live)) next ∙ (rw add-one (ap reverse (take-suc live i run lt))) ∙ reverse-end (take i live) (get_or live i run)
      ∙ ap (λ r. r ∷ older) (sym is)

  pub target_of : {target : ℕ} → target ≡ tracked show (last_cue base (reverse (take n live))) c → target ≡ tracked show run.cue c
  target_of at = at ∙ ap (λ (runs : List Run). tracked show (last_cue base runs) c) more

  -- the runs that act from the next place on start no earlier than the run
  pub later_than : (known : List (Option Act)) → OldestFirst live → AreKnown show base live c n known
      → EachAct (λ a. run.start ≤ a.start) live n known
  later_than known order all = λ j least below.
      let first : (get_or live i run).start ≤ (get_or live j run).start = order i j run (omega (arith, least, next)) below in
      IfSome_then (get_or known j None) (all j run least below).act (λ a of. omega (arith, of.start, first, ap (λ (r : Run). r.start) is))

  -- the run hides what is older
  pub hidden : (act : Option Act) {since target : ℕ} → target ≡ tracked show (last_cue base (reverse (take n live))) c
      → IsKnown show (last_cue base older) run c act → IsOver since act → (m : ℕ) → since ≤ m → target ≡ level show base (reverse (take n live)) c m
  hidden None at known over = absurd over
  hidden (Some act) at known over = λ m late. target_of at ∙ sym known.act.target ∙ level_hidden base older m known (omega (arith, over, late))
      ∙ ap (λ (runs : List Run). level show base runs c m) (sym more)

  -- since when it has to be followed, by what the run does
  pub later_more : (known : List (Option Act)) (act : Option Act) (since : ℕ) {s : ℕ} → OldestFirst live → AreKnown show base live c n known
      → IsKnown show (last_cue base older) run c act → EachAct (λ a. since ≤ a.start) live n known
      → s ≡ option_map_or (λ a. a.start) act since → i < length known → EachAct (λ a. s ≤ a.start) live i (slice_set known i act)
  later_more known None since order all this later s_is within = each_more (λ a. _ ≤ a.start) live known None (rw s_is later) next tt within
  later_more known (Some act) since order all this later s_is within =
      each_more (λ a. _ ≤ a.start) live known (Some act) (rw (s_is, this.act.start) (later_than known order all)) next (omega arith) within

  pub begun_more : (act : Option Act) {since s from : ℕ} → IsKnown show (last_cue base older) run c act
      → s ≡ option_map_or (λ a. a.start) act since → since ≤ from → run.start ≤ from → s ≤ from
  begun_more None this s_is begun started = omega arith
  begun_more (Some act) this s_is begun started = omega (arith, this.act.start)

  -- what one more run does is written down
  pub known_more : (known : List (Option Act)) (new : Option Act) → AreKnown show base live c n known
      → IsKnown show (last_cue base older) run c new → i < length known → AreKnown show base live c i (slice_set known i new)
  known_more known new others this within = λ j d least below.
      after_set (λ k o. IsKnown show (last_cue base (reverse (take k live))) (get_or live k d) c o) known i new None j within
      (subst (λ (r : Run). IsKnown show (last_cue base older) r c new) (is ∙ get_or_default live i run d lt) this)
      (λ apart. others j d (omega (arith, least, apart, next)) below)

module _ {show : Show} {base : ℕ} {live : List Run} {c from first bottom i : ℕ} {known : List (Option Act)} {run : Run} {stack : Stack}
    (ground : IsGround show base live c from first bottom known) (least : first ≤ i) (lt : i < length live) (is : run ≡ get_or live i run)
    (so_far : IsReplayed show base live c from i known stack) where
  here : (o : Option Act) → get_or known i None ≡ o → IsKnown show (last_cue base (reverse (take i live))) run c o
  here o same = subst (λ (r : Run). IsKnown show (last_cue base (reverse (take i live))) r c o) (sym is)
      (subst (IsKnown show (last_cue base (reverse (take i live))) (get_or live i run) c) same (ground.known_are i run least lt))

  one_more : (m : ℕ) → level show base (run ∷ reverse (take i live)) c m ≡ level show base (reverse (take (i + 1) live)) c m
  one_more m = ap (λ (runs : List Run). level show base runs c m) (sym (more show base live c refl lt is))

  pub replayed_on : {act : Act} {after : Stack} → OldestFirst live → get_or known i None ≡ Some act
      → ((m : ℕ) → act.start ≤ m → stack_level after m ≡ act_over act (stack_level stack) m)
      → IsReplayed show base live c from (i + 1) known after
  replayed_on {act} order act_is pushed =
      let on = here (Some act) act_is in
      let later : so_far.since ≤ act.start =
      subst (λ (o : Option Act). IfSome o (λ x. so_far.since ≤ x.start)) act_is (so_far.later i (omega arith) lt) in
      record {
        since = run.start;
        gives = λ m late. pushed m (omega (arith, on.act.start, late))
            ∙ level_pushed base (reverse (take i live)) m (stack_level stack) on so_far.gives (omega (arith, later, on.act.start))
            (omega (arith, later, on.act.start, late)) ∙ one_more m;
        later = later_than show base live c refl lt is known order (λ j d above below. ground.known_are j d (omega (arith, above)) below);
        begun = omega (arith, ground.started i run lt, ap (λ (r : Run). r.start) is);
      }

  pub replayed_off : get_or known i None ≡ None → IsReplayed show base live c from (i + 1) known stack
  replayed_off none = record {
    since = so_far.since;
    gives = λ m late. so_far.gives m late ∙ level_passed base (reverse (take i live)) m (here None none) ∙ one_more m;
    later = λ j above below. so_far.later j (omega (arith, above)) below;
    begun = so_far.begun;
  }
