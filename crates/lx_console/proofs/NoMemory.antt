-- A key or a tick is never refused as out of memory.
use Rattle.lx_console.proofs.Imports.{◌≡◌, ◌≢◌, ◌==◌, ◌∙◌, ℕ, Bool, true, false, ap, Result, Ok, Err, IfErr, if◌then◌else◌, TICK_END, Show}
use Rattle.lx_console.proofs.Imports.{PlayKey, Refusal, PlaybackFull, AbsentSub, TickLimit, Playback, Played, appended, has_room, press, tick, ticked}
use Rattle.lx_spec.specs.declared.Refusal.TheVariants.{Memory}
use Rattle.lx_console.proofs.RunChanges.{press_cases}

refusal_is : {A : Type 0} (a b : Refusal) → ◌≡◌ {A = Result A Refusal} (Err a) (Err b) → a ≡ b
refusal_is a b is = cc

room_or_full : (b : Bool) (played : Played) → (if b then Ok played else Err PlaybackFull) ≢ Err Memory
room_or_full true played is = cc
room_or_full false played is = cc

of_press : (show : Show) (p : Playback) (key : PlayKey) → press show p key ≢ Err Memory
of_press show p key = press_cases show p key (Err Memory) (λ run pending now. room_or_full (has_room p) (appended p run pending))
    (λ refusal own is. own (refusal_is refusal Memory is)) (λ settle played is. cc)

ended_or_goes : (b : Bool) (played : Played) → (if b then Err (TickLimit TICK_END) else Ok played) ≢ Err Memory
ended_or_goes true played is = cc
ended_or_goes false played is = cc

-- a key of the playback
pub key_never : {A : Type 0} (show : Show) (p : Playback) (key : PlayKey) (answer : Result A Refusal)
    → IfErr answer (λ refusal. press show p key ≡ Err refusal) → answer ≢ Err Memory
key_never show p key (Ok x) own is = cc
key_never show p key (Err refusal) own is = of_press show p key (own ∙ ap Err (refusal_is refusal Memory is))

-- a fader
pub fader_never : {A : Type 0} (s : ℕ) (answer : Result A Refusal) → IfErr answer (λ refusal. refusal ≡ AbsentSub s) → answer ≢ Err Memory
fader_never s (Ok x) own is = cc
fader_never s (Err refusal) own is = cc

-- a tick
pub tick_never : {A : Type 0} (show : Show) (p : Playback) (answer : Result A Refusal)
    → IfErr answer (λ refusal. tick show p ≡ Err refusal) → answer ≢ Err Memory
tick_never show p (Ok x) own is = cc
tick_never show p (Err refusal) own is =
    ended_or_goes (p.moment == TICK_END) (ticked show p) (own ∙ ap Err (refusal_is refusal Memory is))
