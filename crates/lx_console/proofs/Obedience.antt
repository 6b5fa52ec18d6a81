-- A console that stands for a desk obeys as the desk steps.
use Rattle.lx_console.proofs.Imports.{◌≡◌, ℕ, ◌-◌, List, [], ◌∷◌, ◌++◌, refl, true, false, Result, Ok, Err, IsOk, slice_set}
use Rattle.lx_console.proofs.Imports.{IsOkAnd, IfOk, OnOk, OnErr, IfErr, MatchResult, IsTrue, IsFalse, ap, sym, ◌∙◌, inl, inr, Command}
use Rattle.lx_console.proofs.Imports.{Refusal, AbsentSub, ◌>>=◌, has_entry, Played, edited, Desk, opened, step, after_play, after_command}
use Rattle.lx_console.proofs.Imports.{replay, Kept, kept, KeepsRest, Show, kept-step, kept-replay, Plan, IsRefusal, planned, StandsFor, Obeys, Answers, Refuses}
use Rattle.std.specs.Result.{result_unwrap_or}
use Rattle.std.proofs.lemmas.List.Sums.{fold-append}
use Rattle.lx_spec.specs.declared.Edit.{Edit}
use Rattle.lx_spec.specs.declared.Key.TheVariants.{Fader, Master}
use Rattle.lx_spec.specs.declared.Command.TheVariants as commands
use Rattle.lx_spec.specs.declared.Refusal.TheVariants.{Memory}
use Rattle.lx_spec.specs.WantedMemory.{takes_memory}

-- a console that is all of a replayed desk but its list of runs stands for it
pub stands_replay : (show : Show) (done : List Command) (console : Kept) → console ≡ kept (replay show done)
    → StandsFor (replay show done) console
stands_replay show done console same = record { same = same; rest = kept-replay show done }

stands_after : (d : Desk) (r : Result Desk Refusal) (now : Kept) → IsOkAnd r (λ next. StandsFor next now)
    → StandsFor (result_unwrap_or r d) now
stands_after d (Ok next) now ok = ok
stands_after d (Err refusal) now ok = absurd ok

-- the desk after one more command, which may be refused
after_one : (d : Desk) (command : Command) (answer : Result (Unit {0}) Refusal) (before now : Kept) → StandsFor d before
    → Obeys d command answer now → OnErr answer (now ≡ before) → StandsFor (after_command d command) now
after_one d command (Ok x) before now stands obeys same = stands_after d (step d command) now obeys.ok
after_one d command (Err refusal) before now stands obeys same = rw obeys.err (record { same = same ∙ stands.same; rest = stands.rest })

pub stands_next : (show : Show) (done : List Command) (command : Command) (answer : Result (Unit {0}) Refusal) (before now : Kept)
    → StandsFor (replay show done) before → Obeys (replay show done) command answer now → OnErr answer (now ≡ before)
    → StandsFor (replay show (done ++ command ∷ [])) now
stands_next show done command answer before now stands obeys same =
    rw (fold-append after_command (opened show) done (command ∷ []))
    (after_one (replay show done) command answer before now stands obeys same)

-- a console that answers stands for the replay with the command, where that is accepted, and else for the one before
pub stands_answered : (show : Show) (done : List Command) (command : Command) (answer : Result (Unit {0}) Refusal) (before now : Kept)
    → StandsFor (replay show done) before → Answers (replay show done) command answer now → OnErr answer (now ≡ before)
    → MatchResult answer (λ x. StandsFor (replay show (done ++ command ∷ [])) now) (λ refusal. StandsFor (replay show done) now)
stands_answered show done command (Ok x) before now stands answers same =
    rw (fold-append after_command (opened show) done (command ∷ []))
    (stands_after (replay show done) (step (replay show done) command) now answers.ok)
stands_answered show done command (Err refusal) before now stands answers same = record { same = same ∙ stands.same; rest = stands.rest }

-- a step that is made of another answer
stepped : {B : Type 0} (d : Desk) (r : Result B Refusal) (f : B → Desk) (now : Kept) → IfOk (r >>= (λ y. Ok (f y))) KeepsRest
    → IsOkAnd r (λ y. now ≡ kept (f y)) → IsOkAnd (r >>= (λ y. Ok (f y))) (λ next. StandsFor next now)
stepped d (Ok y) f now rest is = record { same = is; rest = rest }
stepped d (Err refusal) f now rest is = absurd is

-- a key of the playback, or a tick
pub obeys_played : {A : Type 0} {d : Desk} {before now : Kept} (command : Command) (play : Kept → Result Played Refusal) (answer : Result A Refusal)
    → StandsFor d before → step d command ≡ (play (kept d) >>= (λ played. Ok (after_play d played)))
    → OnOk answer (IsOkAnd (play before) (λ played. now ≡ record before { playback = played.playback }))
    → IfErr answer (λ refusal. play before ≡ Err refusal) → Obeys d command answer now
obeys_played {d = d} {now = now} command play (Ok x) stands step_is ok err = record {
  ok = rw step_is (stepped d (play (kept d)) (after_play d) now (rw step_is at (kept-step d command stands.rest)) (rw stands.same at ok));
  err = tt;
}
obeys_played {d = d} command play (Err refusal) stands step_is ok err = record {
  ok = tt;
  err = step_is ∙ ap (λ s. s >>= (λ played. Ok (after_play d played))) (rw stands.same at err);
}

-- a fader, of a submaster that the show has or lacks
pub obeys_fader : {A : Type 0} {d : Desk} {before now : Kept} (s level : ℕ) (answer : Result A Refusal) → StandsFor d before
    → OnOk answer (IsTrue (has_entry (λ x. x.number) s before.show.subs))
    → OnOk answer (now ≡ record before { faders = slice_set before.faders (s - 1) level })
    → IfErr answer (λ refusal. refusal ≡ AbsentSub s)
    → OnErr answer (IsFalse (has_entry (λ x. x.number) s before.show.subs)) → Obeys d (commands.Key (Fader s level)) answer now
obeys_fader {d = d} s level (Ok x) stands there state err absent =
    let has : has_entry (λ x. x.number) s d.show.subs ≡ true = rw stands.same at there in record {
      ok = rw has (record { same = rw stands.same at state; rest = rw has at (kept-step d (commands.Key (Fader s level)) stands.rest) });
      err = tt;
    }
obeys_fader {d = d} s level (Err refusal) stands there state err absent =
    let lacks : has_entry (λ x. x.number) s d.show.subs ≡ false = rw stands.same at absent in
    record { ok = tt; err = rw lacks (ap Err (sym err)) }

pub obeys_master : {d : Desk} {before now : Kept} (level : ℕ) → StandsFor d before → now ≡ record before { master = level }
    → IsOkAnd (step d (commands.Key (Master level))) (λ next. StandsFor next now)
obeys_master {d = d} level stands state = record {
  same = rw stands.same at state;
  rest = kept-step d (commands.Key (Master level)) stands.rest;
}

-- what obeys answers
pub answers : {A : Type 0} {d : Desk} {command : Command} {now : Kept} (answer : Result A Refusal) → Obeys d command answer now
    → Answers d command answer now
answers (Ok x) obeys = record { ok = obeys.ok; err = tt }
answers (Err refusal) obeys = record { ok = tt; err = inl obeys.err }

-- the desk with another show
pub stands_with : {d : Desk} {before now : Kept} (show : Show) → now ≡ record before { show = show } → StandsFor d before
    → StandsFor (record d { show = show }) now
stands_with show is stands = record {
  same = is ∙ ap (λ (k : Kept). record k { show = show }) stands.same;
  rest = record {
    from = stands.rest.from;
    older = stands.rest.older;
    all_is = stands.rest.all_is;
    base_is = stands.rest.base_is;
    still = stands.rest.still;
    later = stands.rest.later;
    begun = stands.rest.begun;
  };
}

-- the desk with the show that a plan makes
pub stands_planned : {d : Desk} {before seen now : Kept} (plan : Plan) → before ≡ seen
    → now ≡ record before { show = planned before.show plan } → StandsFor d seen → StandsFor (record d { show = planned seen.show plan }) now
stands_planned {seen = seen} plan same is stands =
    stands_with (planned seen.show plan) (is ∙ ap (λ (k : Kept). record k { show = planned k.show plan }) same) stands

edited_err : (d : Desk) (edit : Edit) (refusal : Refusal) → (refusal ≡ Memory → takes_memory edit ≡ true) → IsRefusal d.show edit refusal
    → Refuses d (commands.Edit edit) refusal
edited_err d edit refusal takes r = elim r as (λ s. Refuses d (commands.Edit edit) refusal) [
  | inl own ↦ inl (ap (λ r. r >>= (λ show. Ok (record d { show = show }))) own)
  | inr want ↦ inr (record { takes_some = takes want.0; memory = want.0; accepted = accepted d (edited d.show edit) want.1 })
] where
  accepted : (d : Desk) (r : Result Show Refusal) → IsOk r → IsOk (r >>= (λ show. Ok (record d { show = show })))
  accepted d (Ok show) ok = refl
  accepted d (Err refusal) ok = absurd cc

-- an edit
pub answers_edit : {A : Type 0} {d : Desk} {before now : Kept} (edit : Edit) (answer : Result A Refusal) → StandsFor d before
    → OnOk answer (IsOkAnd (edited before.show edit) (λ show. now ≡ record before { show = show }))
    → IfErr answer (IsRefusal before.show edit) → (answer ≡ Err Memory → takes_memory edit ≡ true)
    → Answers d (commands.Edit edit) answer now
answers_edit {d = d} {now = now} edit (Ok x) stands ok err takes = record {
  ok = stepped d (edited d.show edit) (λ show. record d { show = show }) now (kept-step d (commands.Edit edit) stands.rest)
      (rw stands.same at ok);
  err = tt;
}
answers_edit {d = d} edit (Err refusal) stands ok err takes = record {
  ok = tt;
  err = edited_err d edit refusal (λ memory. takes (ap Err memory)) (rw stands.same at err);
}
