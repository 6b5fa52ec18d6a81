-- What two lists keep stays filled in.
use Rattle.lx_lists.proofs.Imports.{◌≡◌, ℕ, ◌+◌, ◌<◌, Bool, false, true, cond, Ok, Err, refl, sym, ap, subst, ◌∙◌, arith, Result, IsTrue}
use Rattle.lx_lists.proofs.Imports.{◌==◌, max, TICK_STEP, TICK_END, scaled, Command, Refusal, TickLimit, ◌>>=◌, Show, Kept, contribution, Desk, step}
use Rattle.lx_lists.proofs.Imports.{after_play, is_tick, commands_second, StandsFor, Obeys, Answers, level_now, Output, TwoKept, HasRoomForFrames, IsFilled}
use Rattle.lx_lists.proofs.Imports.{AreKept}
use Rattle.std.specs.Result.{IsOkAnd}
use Rattle.lx_spec.specs.declared.Command.TheVariants as commands
use Rattle.lx_spec.specs.Playback.{ticked}
use Rattle.lx_console.specs.declared.change.Change.{Change}
use Rattle.lx_console.specs.declared.change.Change.TheVariants as changes
use Rattle.lx_console.specs.Changes.{Changes, SameOutputs, is_nothing}
use Rattle.lx_console.specs.KeptOutput.{Reaches}
use Rattle.lx_console.proofs.KeptOutputs.{same_rows, same_table, same_slots}

abbrev pub both : Kept → Kept → TwoKept
both first second = record { first = first; second = second }

same_room : (one other : Show) (output : Output) → other.channels ≡ one.channels → HasRoomForFrames one output → HasRoomForFrames other output
same_room one other output same room = record {
  greatest = room.greatest ∙ sym same;
  kept = subst (λ (n : ℕ). Reaches n output.kept) (sym same) room.kept;
}

-- whatever changes, the channels don't
pub same_channels : (change : Change) (before after : Kept) → Changes change before after → after.show.channels ≡ before.show.channels
same_channels changes.Nothing before after same = same.rows.channels
same_channels changes.Levels before after same = same.channels
same_channels (changes.Row e) before after same = same.channels

-- a change that is none
pub same_outputs : (change : Change) {before after : Kept} → is_nothing change ≡ true → Changes change before after
    → SameOutputs before after
same_outputs changes.Nothing is same = same
same_outputs changes.Levels is same = absurd cc
same_outputs (changes.Row e) is same = absurd cc

pub as_before : (k : Kept) → SameOutputs k k
as_before k = record {
  rows = record { channels = refl; patch = refl };
  levels = λ i within. refl;
  contributions = λ i within. refl;
  master = refl;
}

-- where nothing that goes out changed of either list, both are shown still
pub filled_still : {first second first' second' : Kept} {output : Output} → second.show.channels ≡ first.show.channels
    → IsFilled (both first second) output → SameOutputs first first' → SameOutputs second second' → IsFilled (both first' second') output
filled_still {first} {second} {first'} {second'} {output} channels filled same same' = record {
  room = same_room first.show first'.show output same.rows.channels filled.room;
  rows = same_rows first first' same.rows filled.rows;
  patch = same_table first first' output.kept same.rows filled.patch;
  outs = record {
    reach = filled.outs.reach ∙ sym same.rows.channels;
    each = λ i within.
        let there : i < first.show.channels = omega (arith, same.rows.channels) in
        let there' : i < second.show.channels = omega (arith, same.rows.channels, channels) in
        filled.outs.each i there
        ∙ ap (λ l. scaled (max (max l (level_now second (i + 1))) (contribution first.show first.faders (i + 1))) first.master)
        (sym (same.levels i there))
        ∙ ap (λ l. scaled (max (max (level_now first' (i + 1)) l) (contribution first.show first.faders (i + 1))) first.master)
        (sym (same'.levels i there'))
        ∙ ap (λ g. scaled (max (max (level_now first' (i + 1)) (level_now second' (i + 1))) g) first.master) (sym (same.contributions i there))
        ∙ ap (λ m. scaled (max (max (level_now first' (i + 1)) (level_now second' (i + 1)))
        (contribution first'.show first'.faders (i + 1))) m) (sym same.master);
  };
  slots = same_slots first first' output.kept same.rows filled.slots;
}

-- a player stands for some desk
record Stood (now : Kept) : Type 0 where
  desk : Desk
  stands : StandsFor desk now

stood : (r : Result Desk Refusal) (now : Kept) → IsOkAnd r (λ next. StandsFor next now) → Stood now
stood (Ok next) now ok = record { desk = next; stands = ok }
stood (Err refusal) now ok = absurd ok

-- after a command of the first list
pub first_kept : {A : Type 0} {command : Command} {x : A} (change : Change) {first second now : Kept} {output output' : Output}
    → AreKept (both first second) output → ((d : Desk) → StandsFor d first → Answers d command (Ok x) now) → Changes change first now
    → now.playback.moment ≡ first.playback.moment → IsFilled (both now second) output' → AreKept (both now second) output'
first_kept {command = command} change {first} {now = now} kept answers changed moment filled =
    let next = stood (step kept.desks.first command) now (answers kept.desks.first kept.stand.first).ok in
    record {
      desks = record { first = next.desk; second = kept.desks.second };
      stand = record { first = next.stands; second = kept.stand.second };
      moments = kept.moments ∙ sym moment;
      channels = kept.channels ∙ sym (same_channels change first now changed);
      filled = filled;
    }

-- and of the second
pub second_kept : {A : Type 0} {command : Command} {x : A} (change : Change) {first second now : Kept} {output output' : Output}
    → AreKept (both first second) output → ((d : Desk) → StandsFor d second → Answers d command (Ok x) now) → Changes change second now
    → now.playback.moment ≡ second.playback.moment → IsFilled (both first now) output' → AreKept (both first now) output'
second_kept {command = command} change {second = second} {now} kept answers changed moment filled =
    let next = stood (step kept.desks.second command) now (answers kept.desks.second kept.stand.second).ok in
    record {
      desks = record { first = kept.desks.first; second = next.desk };
      stand = record { first = kept.stand.first; second = next.stands };
      moments = moment ∙ kept.moments;
      channels = same_channels change second now changed ∙ kept.channels;
      filled = filled;
    }

-- the channels of both stay the same
pub both_channels : (first second first' second' : Kept) → second.show.channels ≡ first.show.channels → first'.show ≡ first.show
    → second'.show ≡ second.show → second'.show.channels ≡ first'.show.channels
both_channels first second first' second' same show show' = ap (λ (s : Show). s.channels) show' ∙ same
    ∙ sym (ap (λ (s : Show). s.channels) show)

-- and after a tick of both
pub ticked_kept : {A : Type 0} {x y : A} {first second first' second' : Kept} {output output' : Output} → AreKept (both first second) output
    → ((d : Desk) → StandsFor d first → Obeys d commands.Tick (Ok x) first')
    → ((d : Desk) → StandsFor d second → Obeys d commands.Tick (Ok y) second')
    → first'.show ≡ first.show → second'.show ≡ second.show
    → first'.playback.moment ≡ first.playback.moment + TICK_STEP → second'.playback.moment ≡ second.playback.moment + TICK_STEP
    → IsFilled (both first' second') output' → AreKept (both first' second') output'
ticked_kept {first = first} {second} {first'} {second'} kept obeys obeys' show show' moment moment' filled =
    let next = stood (step kept.desks.first commands.Tick) first' (obeys kept.desks.first kept.stand.first).ok in
    let next' = stood (step kept.desks.second commands.Tick) second' (obeys' kept.desks.second kept.stand.second).ok in
    record {
      desks = record { first = next.desk; second = next'.desk };
      stand = record { first = next.stands; second = next'.stands };
      moments = moment' ∙ ap (λ (m : ℕ). m + TICK_STEP) kept.moments ∙ sym moment;
      channels = both_channels first second first' second' kept.channels show show';
      filled = filled;
    }

pub second_no_tick : (command : Command) → IsTrue (commands_second command) → is_tick command ≡ false
second_no_tick (commands.Edit edit) taken = refl
second_no_tick (commands.Key key) taken = refl
second_no_tick commands.Tick taken = absurd cc

abbrev Ticks : Desk → Bool → Result Desk Refusal
Ticks d b = cond b (Err (TickLimit TICK_END)) (Ok (ticked d.show d.playback)) >>= (λ played. Ok (after_play d played))

early : (d : Desk) (P : Desk → Type 0) (b : Bool) → IsOkAnd (Ticks d b) P → b ≡ false
early d P true ok = absurd ok
early d P false ok = refl

no_refusal : (d : Desk) (b : Bool) (refusal : Refusal) → b ≡ false → Ticks d b ≡ Err refusal → ⊥
no_refusal d true refusal is refused = cc
no_refusal d false refusal is refused = cc

-- at one moment both lists take a tick, or neither
pub both_tick : (d e : Desk) (first second now : Kept) (refusal : Refusal) → StandsFor d first → StandsFor e second
    → second.playback.moment ≡ first.playback.moment → IsOkAnd (step d commands.Tick) (λ next. StandsFor next now)
    → step e commands.Tick ≡ Err refusal → ⊥
both_tick d e first second now refusal stands stands' moments ok refused =
    let of_desks : e.playback.moment ≡ d.playback.moment = sym (ap (λ (k : Kept). k.playback.moment) stands'.same) ∙ moments
    ∙ ap (λ (k : Kept). k.playback.moment) stands.same in
    let before_end : (d.playback.moment == TICK_END) ≡ false =
    early d (λ next. StandsFor next now) (d.playback.moment == TICK_END) ok in
    no_refusal e (e.playback.moment == TICK_END) refusal (ap (λ (m : ℕ). m == TICK_END) of_desks ∙ before_end) refused
