-- Ticks at which nothing but the moment changes are accepted one after another.
use Rattle.lx_console.proofs.Imports.{◌≡◌, ℕ, zero, suc, ◌+◌, ◌*◌, Ok, IsOkAnd, arith, ap, sym}
use Rattle.lx_console.proofs.Imports.{TICK_STEP, ◌>>=◌, Playback, no_run, Desk, step, after_play, Kept, kept, KeepsRest, kept-step}
use Rattle.lx_console.proofs.Imports.{TicksPass, moments_later, StandsFor}
use Rattle.lx_spec.specs.declared.Command.TheVariants as commands
use Rattle.lx_console.specs.Ticks.{after_ticks}

-- the console at a later moment
abbrev kept_later : Desk → ℕ → Kept
kept_later d ticks = record (kept d) { playback = moments_later d.playback ticks }

-- after a tick that is accepted, the runs before the live ones may still be forgotten
pub rest_after : (d next : Desk) → step d commands.Tick ≡ Ok next → KeepsRest d → KeepsRest next
rest_after d next is rest = rw is at (kept-step d commands.Tick rest)

-- the playback a tick later passes the other ticks
pass_on : (p : Playback) (n : ℕ) → TicksPass p (suc n) → TicksPass (moments_later p 1) n
pass_on p n pass = λ show i fewer.
    let here : p.moment + 1 * TICK_STEP + i * TICK_STEP ≡ p.moment + (i + 1) * TICK_STEP = omega arith in
    let next : p.moment + 1 * TICK_STEP + (i + 1) * TICK_STEP ≡ p.moment + (i + 1 + 1) * TICK_STEP = omega arith in
    rw (here, next) (pass show (i + 1) (omega (arith, fewer)))

-- the first of the ticks
first_step : (d : Desk) (n : ℕ) → TicksPass d.playback (suc n) → step d commands.Tick ≡ Ok (after_play d (no_run (moments_later d.playback 1)))
first_step d n pass =
    let now : d.playback.moment + 0 * TICK_STEP ≡ d.playback.moment = omega arith in
    ap (λ r. r >>= (λ played. Ok (after_play d played))) (rw now at (pass d.show 0 (omega arith)))

passes : (n : ℕ) (d : Desk) → KeepsRest d → TicksPass d.playback n
    → IsOkAnd (after_ticks n d) (λ next. StandsFor next (kept_later d n))
passes zero d rest pass =
    let now : d.playback.moment ≡ d.playback.moment + 0 * TICK_STEP = omega arith in
    record { same = ap (λ m. record (kept d) { playback = record d.playback { moment = m } }) (sym now); rest = rest }
passes (suc n) d rest pass =
    let next : Desk = after_play d (no_run (moments_later d.playback 1)) in
    let first : step d commands.Tick ≡ Ok next = first_step d n pass in
    let moment : d.playback.moment + suc n * TICK_STEP ≡ d.playback.moment + 1 * TICK_STEP + n * TICK_STEP = omega arith in
    rw (first, moment) (passes n next (rest_after d next first rest) (pass_on d.playback n pass))

-- a console whose playback lets ticks pass stands for the desk after them
pub ticks_passed : (n : ℕ) (d : Desk) (before now : Kept) → StandsFor d before → TicksPass before.playback n
    → now ≡ record before { playback = moments_later before.playback n }
    → IsOkAnd (after_ticks n d) (λ next. StandsFor next now)
ticks_passed n d before now stands pass is = rw (is, stands.same) (passes n d stands.rest (rw stands.same at pass))
