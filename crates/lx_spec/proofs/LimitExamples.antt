-- Examples at the limits: as many cues as may be, the last moment, and as many runs as may be live.
use Rattle.lx_spec.proofs.Imports.{◌≡◌, ℕ, ◌*◌, ◌-◌, Option, Some, None, Ok, Err, [], ◌∷◌, map, replicate, refl, false, range_with_len}
use Rattle.lx_spec.proofs.Imports.{CUE_UNIT, CUES, MakeCue, DeleteCue, CueLimit, TickLimit, ◌>>=◌, Show, new_cue, Playback, at_opening, run_of, run_whole}
use Rattle.lx_spec.proofs.Imports.{appended, tick, Desk, opened, step}
use Rattle.lx_spec.specs.declared.Command.TheVariants as commands

-- a show of the cues 1 to the most
abbrev full_show : Show
full_show = record { channels = 1; cues = map (λ k. new_cue (CUE_UNIT * k)) (range_with_len 1 CUES); groups = []; subs = []; patch = [] }

-- one cue more is refused
cue_limit : step (opened full_show) (commands.Edit (MakeCue 2500)) ≡ Err CueLimit
cue_limit = refl

-- a cue that is there is no new one
cue_there : step (opened full_show) (commands.Edit (MakeCue (CUE_UNIT * CUES))) ≡ Ok (opened full_show)
cue_there = refl

-- where another goes there is room for it
room_again : (step (opened full_show) (commands.Edit (DeleteCue 1000 false)) >>= (λ d. step d (commands.Edit (MakeCue 2500))))
    ≡ Ok (opened (record full_show
    { cues = new_cue 2000 ∷ new_cue 2500 ∷ map (λ k. new_cue (CUE_UNIT * k)) (range_with_len 3 (CUES - 2)) }))
room_again = refl

-- a desk over a show without cues, at a moment
abbrev desk_at : ℕ → Desk
desk_at m = record (opened (record { channels = 1; cues = []; groups = []; subs = []; patch = [] }))
    { playback = record at_opening { moment = m } }

-- the last tick leads to the last moment, and no tick leads on
last_tick : step (desk_at 199999998) commands.Tick ≡ Ok (desk_at 200000000)
last_tick = refl

tick_limit : step (desk_at 200000000) commands.Tick ≡ Err (TickLimit 200000000)
tick_limit = refl

-- a playback in which this many runs of cue 1 are live, and a follow is due at the next tick
abbrev busy : ℕ → ℕ → Option ℕ → Playback
busy m runs pending = record { moment = m; base = 0; live = replicate runs (run_whole at_opening 1000 240000); pending = pending }

-- where 512 runs are live a follow that is due is cleared, and starts nothing
no_room_for_the_follow : tick full_show (busy 0 512 (Some 2)) ≡ Ok (record { playback = busy 2 512 None; run = None })
no_room_for_the_follow = refl

-- where one fewer is live it starts the cue above
room_for_the_follow : tick full_show (busy 0 511 (Some 2))
    ≡ Ok (appended (busy 2 511 None) (run_of (busy 2 511 None) (new_cue 2000) false) None)
room_for_the_follow = refl
