-- What keys and ticks do to the live runs.
use Rattle.lx_console.proofs.Imports.{◌≡◌, ℕ, ◌+◌, Bool, true, false, cond, Option, Some, None, is_some, Result, Ok, Err, [], ◌∷◌}
use Rattle.lx_console.proofs.Imports.{◌==◌, refl, IsTrue, option_map_or, arith, ap, sym, subst, ◌∙◌, ◌≢◌, TICK_END, TICK_STEP, BACK_TIME, PlayKey, Refusal}
use Rattle.lx_console.proofs.Imports.{NoCueAfter, NoCueBefore, PlaybackFull, TickLimit, ◌>>=◌, Cue, Show, cue_above, cue_below, Run, cue_of, Playback}
use Rattle.lx_console.proofs.Imports.{Played, press, tick, ticked, followed, start_above, is_due, is_over, at_rest, has_room, if_room, appended, run_of}
use Rattle.lx_console.proofs.Imports.{run_whole, follow_of, position_of, comes_to_rest, KeptLevels as Levels, LevelsStandFor, StandsBefore, stands_over}
use Rattle.lx_spec.specs.declared.PlayKey.TheVariants.{Go, Back, Goto, Settle}
use Rattle.lx_spec.specs.declared.Refusal.TheVariants.{AbsentCue, Memory}
use Rattle.lx_console.specs.RunChanges.{IsStarted, IsSame, IsTicked}

record IsFollowed (p : Playback) (played : Played) : Type 0 where
  moment_is : played.playback.moment ≡ p.moment
  base_is : played.playback.base ≡ p.base
  started : is_some played.run ≡ true → (last : Run) × (played.playback.live ≡ last ∷ p.live) × (last.start ≡ p.moment)
  same : is_some played.run ≡ false → played.playback.live ≡ p.live

none : (p : Playback) → IsFollowed p (record { playback = p; run = None })
none p = record { moment_is = refl; base_is = refl; started = λ is. cc; same = λ is. refl }

if_start : (b : Bool) (p : Playback) (cue : Cue)
    → IsFollowed p (cond b (appended p (run_of p cue false) (follow_of p cue)) (record { playback = p; run = None }))
if_start true p cue = record { moment_is = refl; base_is = refl; started = λ is. (run_of p cue false, refl, refl); same = λ is. cc }
if_start false p cue = none p

cue_start : (o : Option Cue) (p : Playback) → IsFollowed p (option_map_or
    (λ cue. cond (has_room p) (appended p (run_of p cue false) (follow_of p cue)) (record { playback = p; run = None })) o
    (record { playback = p; run = None }))
cue_start (Some cue) p = if_start (has_room p) p cue
cue_start None p = none p

due : (b : Bool) (show : Show) (p : Playback)
    → IsFollowed p (cond b (start_above show (record p { pending = None })) (record { playback = p; run = None }))
due true show p =
    let f = cue_start (cue_above show (position_of (record p { pending = None }))) (record p { pending = None }) in
    record { moment_is = f.moment_is; base_is = f.base_is; started = f.started; same = f.same }
due false show p = none p

unless : {A : Type 0} (b : Bool) (x y : A) (refusal : Refusal) → cond b (Err refusal) (Ok x) ≡ Ok y → x ≡ y
unless true x y refusal is = cc
unless false x y refusal is = cc

-- a playback that comes to rest, or doesn't
rest_or_not : (b : Bool) (q after : Playback) → cond b (at_rest q) q ≡ after
    → (b ≡ true → after.live ≡ []) × (b ≡ false → q ≡ after) × (after.moment ≡ q.moment)
rest_or_not true q after is = (λ b. ap (λ (p : Playback). p.live) (sym is), λ b. cc, ap (λ (p : Playback). p.moment) (sym is))
rest_or_not false q after is = (λ b. cc, λ b. is, ap (λ (p : Playback). p.moment) (sym is))

-- a tick, and what it tells
pub tick_told : (show : Show) {p after : Playback} {fired : Option Run} {at_rest_now : Bool} {levels : Levels}
    → tick show p ≡ Ok (record { playback = after; run = fired }) → at_rest_now ≡ comes_to_rest show p → LevelsStandFor show p levels
    → IsTicked show after levels at_rest_now (is_some fired)
tick_told show {p} {after} {fired} {at_rest_now} is tells stands =
    let q : Playback = record p { moment = p.moment + TICK_STEP } in
    let made : Played = followed show q in
    let same : ticked show p ≡ record { playback = after; run = fired } =
    unless (p.moment == TICK_END) (ticked show p) (record { playback = after; run = fired }) (TickLimit TICK_END) is in
    let rests = rest_or_not (is_over made.playback) made.playback after (ap (λ (x : Played). x.playback) same) in
    let fired_is : is_some made.run ≡ is_some fired = ap (λ (x : Played). is_some x.run) same in
    let facts : IsFollowed q made = due (is_due q) show q in
    let moment : after.moment ≡ p.moment + TICK_STEP = rests.2 ∙ facts.moment_is in
    let still : at_rest_now ≡ false → made.playback ≡ after = λ r. rests.1 (sym tells ∙ r) in
    record {
      before = p;
      stood = stands;
      later = omega (arith, moment);
      rest = λ r. rests.0 (sym tells ∙ r);
      started = λ r f.
          let s = facts.started (fired_is ∙ f) in
          rw (← still r) (record { last = s.0; live_is = s.1; base = facts.base_is; now = s.2 ∙ sym facts.moment_is });
      same = λ r f. rw (← still r) (record { live_is = facts.same (fired_is ∙ f); base = facts.base_is });
    }

-- a run that a key started
record KeyStarted (before after : Playback) : Type 0 where
  started : IsStarted before after
  moment : after.moment ≡ before.moment

room : (b : Bool) (p : Playback) (run : Run) (pending : Option ℕ) (played : Played) → run.start ≡ p.moment
    → cond b (Ok (appended p run pending)) (Err PlaybackFull) ≡ Ok played → KeyStarted p played.playback
room true p run pending played now is =
    let same : appended p run pending ≡ played = cc in
    subst (λ (x : Played). KeyStarted p x.playback) same
    (record { started = record { last = run; live_is = refl; base = refl; now = now }; moment = refl })
room false p run pending played now is = cc

found : {P : Type 0} (o : Option Cue) (f : Cue → Result Played Refusal) (other : Refusal) (r : Result Played Refusal)
    → ((cue : Cue) → f cue ≡ r → P) → (Err other ≡ r → P) → option_map_or f o (Err other) ≡ r → P
found (Some cue) f other r by none is = by cue is
found None f other r by none is = none is

named : {P : Type 0} (o : Option Cue) (f : Cue → Result Played Refusal) (other : Refusal) (r : Result Played Refusal)
    → ((cue : Cue) → f cue ≡ r → P) → (Err other ≡ r → P) → option_map_or Ok o (Err other) >>= f ≡ r → P
named (Some cue) f other r by none is = by cue is
named None f other r by none is = none is

-- what a key comes to: a run starts now, where there is room, or the key is refused for want of a cue, or it is Settle
pub press_cases : {P : Type 0} (show : Show) (p : Playback) (key : PlayKey) (r : Result Played Refusal)
    → ((run : Run) (pending : Option ℕ) → run.start ≡ p.moment → if_room p run pending ≡ r → P)
    → ((refusal : Refusal) → refusal ≢ Memory → Err refusal ≡ r → P) → (key ≡ Settle → (played : Played) → Ok played ≡ r → P)
    → press show p key ≡ r → P
press_cases show p Go r runs refused settles is = found (cue_above show (position_of p))
    (λ cue. if_room p (run_of p cue false) (follow_of p cue)) (NoCueAfter (position_of p)) r
    (λ cue. runs (run_of p cue false) (follow_of p cue) refl) (refused (NoCueAfter (position_of p)) (λ same. cc)) is
press_cases show p Back r runs refused settles is = found (cue_below show (position_of p))
    (λ cue. if_room p (run_whole p cue.number BACK_TIME) None) (NoCueBefore (position_of p)) r
    (λ cue. runs (run_whole p cue.number BACK_TIME) None refl) (refused (NoCueBefore (position_of p)) (λ same. cc)) is
press_cases show p (Goto n) r runs refused settles is = named (cue_of show n)
    (λ cue. if_room p (run_of p cue true) (follow_of p cue)) (AbsentCue n) r
    (λ cue. runs (run_of p cue true) (follow_of p cue) refl) (refused (AbsentCue n) (λ same. cc)) is
press_cases show p Settle r runs refused settles is = settles refl _ is

key_started : (show : Show) (p : Playback) (key : PlayKey) (played : Played) → press show p key ≡ Ok played → (key ≡ Settle → ⊥)
    → KeyStarted p played.playback
key_started show p key played is other = press_cases show p key (Ok played) (λ run pending. room (has_room p) p run pending played)
    (λ refusal own same. cc) (λ settle q same. absurd (other settle)) is

-- the levels that stood before the key
pub stands_before : {show : Show} {p : Playback} {levels : Levels} (key : PlayKey) (played : Played) → press show p key ≡ Ok played
    → (key ≡ Settle → ⊥) → LevelsStandFor show p levels → StandsBefore show played.playback levels
stands_before {show} {p} {levels} key played is other stands =
    let s = key_started show p key played is other in
    record {
      last = s.started.last;
      older = p.live;
      live_is = s.started.live_is;
      now = s.started.now;
      stands = stands_over show p (record played.playback { live = p.live }) levels s.started.base refl s.moment stands;
    }

-- the levels that stood before the tick, brought to its moment
module _ {show : Show} {p before : Playback} {m : ℕ} {levels : Levels} (now : m ≡ p.moment)
    (stands : LevelsStandFor show (record before { moment = m }) levels) where
  pub stands_started : IsStarted before p → StandsBefore show p levels
  stands_started s = record {
    last = s.last;
    older = before.live;
    live_is = s.live_is;
    now = s.now;
    stands = stands_over show (record before { moment = m }) (record p { live = before.live }) levels s.base refl (sym now) stands;
  }

  pub stands_same : IsSame before p → LevelsStandFor show p levels
  stands_same s = stands_over show (record before { moment = m }) p levels s.base s.live_is (sym now) stands

pub not_both : (b : Bool) → b ≡ false → IsTrue b → ⊥
not_both b is_false is_true = grind arith
