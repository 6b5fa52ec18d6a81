-- While no follow is due and the playback doesn't come to rest, a tick changes nothing but the moment.
use Rattle.lx_playback.proofs.Imports.{◌≡◌, ℕ, ◌+◌, ◌-◌, ◌*◌, ◌<◌, ◌≤◌, Bool, true, false, cond, ◌&&◌, ◌==◌, nat_lt}
use Rattle.lx_playback.proofs.Imports.{nat_le, Option, Some, None, Ok, Err, List, length, is_none, list_all, arith, ap, refl, ◌∙◌, TICK_STEP, TICK_END}
use Rattle.lx_playback.proofs.Imports.{Show, Run, extent, Playback, Played, no_run, start_above, at_rest, is_over, followed, ticked, tick}
use Rattle.std.specs.Option.{option_map_or}
use Rattle.std.proofs.lemmas.Bool.Decides.{nat_tests}
use Rattle.lx_spec.specs.declared.Refusal.TheVariants.{TickLimit}
use Rattle.lx_playback.specs.QuietTicks.{IsStillAt, TicksPass, moments_later}

-- the test whether all is over, where a follow is pending, no run is live, or a run isn't over
pending_not : (b x : Bool) → b && false && x ≡ false
pending_not true x = refl
pending_not false x = refl

last_not : (b : Bool) → b && true && false ≡ false
last_not true = refl
last_not false = refl

abbrev over_by : ℕ → List Run → Option ℕ → Bool
over_by m live pending = nat_lt 0 (length live) && is_none pending && list_all (λ run. nat_le (run.start + extent run) m) live

-- before a follow is due
pub pending_still : (p : Playback) (due m : ℕ) → p.pending ≡ Some due → m < due → IsStillAt p m
pending_still p due m is early =
    let not_due : nat_le due m ≡ false = grind (arith, nat_tests) in
    record {
      due = ap (λ o. option_map_or (λ x. nat_le x m) o false) is ∙ not_due;
      over = ap (λ o. over_by m p.live o) is ∙ pending_not _ _;
    }

-- before the live runs are over
pub live_still : (p : Playback) (over_at m : ℕ) → p.pending ≡ None
    → list_all (λ run. nat_le (run.start + extent run) m) p.live ≡ nat_le over_at m → m < over_at
    → IsStillAt p m
live_still p over_at m is over early =
    let not_over : nat_le over_at m ≡ false = grind (arith, nat_tests) in
    record {
      due = ap (λ o. option_map_or (λ x. nat_le x m) o false) is;
      over = ap (λ o. over_by m p.live o) is ∙ ap (λ b. nat_lt 0 (length p.live) && true && b) (over ∙ not_over) ∙ last_not _;
    }

no_follow : (b : Bool) (show : Show) (p : Playback) → b ≡ false
    → cond b (start_above show (record p { pending = None })) (no_run p) ≡ no_run p
no_follow false show p is = refl
no_follow true show p is = cc

no_rest : (b : Bool) (p : Playback) → b ≡ false → cond b (at_rest p) p ≡ p
no_rest false p is = refl
no_rest true p is = cc

-- a tick to a moment at which nothing is due
still_ticked : (show : Show) (p : Playback) → IsStillAt p (p.moment + TICK_STEP)
    → ticked show p ≡ no_run (record p { moment = p.moment + TICK_STEP })
still_ticked show p still =
    let q : Playback = record p { moment = p.moment + TICK_STEP } in
    let same : followed show q ≡ no_run q = no_follow _ show q still.due in
    ap (λ (x : Played). record x { playback = cond (is_over x.playback) (at_rest x.playback) x.playback }) same
    ∙ ap (λ (x : Playback). record (no_run q) { playback = x }) (no_rest (is_over q) q still.over)

pub still_tick : (show : Show) (p : Playback) → p.moment < TICK_END → IsStillAt p (p.moment + TICK_STEP)
    → tick show p ≡ Ok (no_run (record p { moment = p.moment + TICK_STEP }))
still_tick show p before still =
    let more : (p.moment == TICK_END) ≡ false = grind (arith, nat_tests) in
    ap (λ b. cond b (Err (TickLimit TICK_END)) (Ok (ticked show p))) more ∙ ap Ok (still_ticked show p still)

-- this many ticks, up to a moment until which nothing is due
pub ticks_pass : (p : Playback) (ticks until : ℕ) → until ≤ TICK_END → ((m : ℕ) → p.moment < m → m ≤ until → IsStillAt p m)
    → ticks * TICK_STEP ≤ until - p.moment → TicksPass p ticks
ticks_pass p ticks until end still within = λ show n fewer.
    let here : p.moment + n * TICK_STEP < TICK_END = omega (arith, fewer, within, end) in
    let after : p.moment < p.moment + n * TICK_STEP + TICK_STEP = omega arith in
    let most : p.moment + n * TICK_STEP + TICK_STEP ≤ until = omega (arith, fewer, within) in
    let at : IsStillAt p (p.moment + n * TICK_STEP + TICK_STEP) = still _ after most in
    let next : p.moment + n * TICK_STEP + TICK_STEP ≡ p.moment + (n + 1) * TICK_STEP = omega arith in
    still_tick show (moments_later p n) here (record { due = at.due; over = at.over })
    ∙ ap (λ m. Ok (no_run (record p { moment = m }))) next
