-- One attempt more of a line, and what it makes of the other list.
use Rattle.lx_lists.proofs.Imports.{◌≡◌, ◌-◌, true, false, Option, Some, None, Result, Ok, Err, List, [], ◌++◌, refl, sym, ap, subst, inl}
use Rattle.lx_lists.proofs.Imports.{IsOkAnd, OnErr, filter, fold, result_err, result_unwrap_or, fold-append, Command, Refusal, Desk}
use Rattle.lx_lists.proofs.Imports.{step, after_command, Kept, begun, TwoDesks, is_tick, first_step, second_step, StandsFor, Obeys, Attempted}
use Rattle.lx_lists.proofs.Imports.{heard_of, LineState, next_of, unattempted, LineProgress, TwoKept, TwoStand, TakesStep, TwoWantMemory, TicksReach, Stays}
use Rattle.lx_lists.proofs.Imports.{may_lack_memory, on_err_weaker}
use Rattle.std.proofs.lemmas.List.Elements.{filter-append}
use Rattle.lx_spec.specs.declared.Command.TheVariants as commands
use Rattle.lx_session.proofs.AttemptSteps.{nothing_yet, attempted}
use Rattle.lx_session.proofs.Commands.{own_attempted}

-- A command that is answered so was attempted.
pub tick_attempted : {A : Type 0} {d : Desk} (answer : Result A Refusal) {before now : Kept} → StandsFor d before
    → Obeys d commands.Tick answer now → OnErr answer (now ≡ before) → Attempted true d commands.Tick (result_err answer) now
tick_attempted (Ok x) stands obeys same = obeys.ok
tick_attempted (Err refusal) stands obeys same = (rw same stands, inl obeys.err)

-- the ticks heard of reach the other
pub tick_reaches : {A : Type 0} {d : Desk} (answer : Result A Refusal) {before now : Kept} → StandsFor d before
    → Obeys d commands.Tick answer now → OnErr answer (now ≡ before) → TicksReach d now (heard_of commands.Tick (result_err answer))
tick_reaches {d = d} (Ok x) {now = now} stands obeys same = stood d (step d commands.Tick) now obeys.ok where
  stood : (d : Desk) (r : Result Desk Refusal) (now : Kept) → IsOkAnd r (λ next. StandsFor next now) → StandsFor (result_unwrap_or r d) now
  stood d (Ok next) now stands = stands
  stood d (Err refusal) now stands = absurd stands
tick_reaches (Err refusal) stands obeys same = rw same stands

-- a command of one list was attempted on its desk
pub first_attempted : {A : Type 0} {s : TwoDesks} (c : Command) {answer : Result A Refusal} {before now : TwoKept} → TwoStand s before
    → TakesStep (may_lack_memory c) (first_step s c) answer now → OnErr answer (now ≡ before)
    → Attempted true s.first c (result_err answer) now.first
first_attempted {s = s} c {answer} {before} {now} stands steps same =
    own_attempted (λ (d : Desk). record s { first = d }) s.first c answer before.first now.first (λ x. TwoStand x now)
    (TwoWantMemory (may_lack_memory c) (first_step s c)) stands.first (on_err_weaker answer (ap (λ (t : TwoKept). t.first)) same)
    (λ d stand. stand.first) (λ refusal want. (want.takes_some, want.memory, want.accepted)) steps.ok steps.err

pub second_attempted : {A : Type 0} {s : TwoDesks} (c : Command) {answer : Result A Refusal} {before now : TwoKept} → TwoStand s before
    → TakesStep (may_lack_memory c) (second_step s c) answer now → OnErr answer (now ≡ before)
    → Attempted true s.second c (result_err answer) now.second
second_attempted {s = s} c {answer} {before} {now} stands steps same =
    own_attempted (λ (d : Desk). record s { second = d }) s.second c answer before.second now.second (λ x. TwoStand x now)
    (TwoWantMemory (may_lack_memory c) (second_step s c)) stands.second (on_err_weaker answer (ap (λ (t : TwoKept). t.second)) same)
    (λ d stand. stand.second) (λ refusal want. (want.takes_some, want.memory, want.accepted)) steps.ok steps.err

no_ticks : (c : Command) (refusal : Option Refusal) → is_tick c ≡ false → filter is_tick (heard_of c refusal) ≡ []
no_ticks c None other = rw other refl
no_ticks c (Some refusal) other = refl

-- a command of the first list leaves the second
pub first_reaches : (d : Desk) (c : Command) (refusal : Option Refusal) (before now : Kept) → StandsFor d before → is_tick c ≡ false
    → now ≡ before → TicksReach d now (heard_of c refusal)
first_reaches d c refusal before now stands other same = rw (no_ticks c refusal other, same) stands

-- ticks among the commands of a line, and among one more
joined : (d : Desk) (now : Kept) (done more : List Command) → StandsFor (fold after_command (fold after_command d (filter is_tick done))
    (filter is_tick more)) now → TicksReach d now (done ++ more)
joined d now done more stands =
    rw (filter-append is_tick done more, fold-append after_command d (filter is_tick done) (filter is_tick more)) stands

-- One attempt more on the first list, or on both.
pub one_more : {s : TwoDesks} {old turn turn' : LineState} {c : Command} {refusal : Option Refusal} {before now : TwoKept}
    → next_of turn ≡ Some c
    → ((x : TwoDesks) → TwoStand x before → Attempted true x.first c refusal now.first)
    → ((x : TwoDesks) → TwoStand x before → TicksReach x.second now.second (heard_of c refusal))
    → turn' ≡ record turn { left = turn.left - 1; refusal = refusal }
    → LineProgress true (TicksReach s.second before.second) (begun s.first) old turn before.first
    → LineProgress true (TicksReach s.second now.second) (begun s.first) old turn' now.first
one_more {s} {c} {refusal} {now} some first second is t =
    attempted t some
    (λ d stands. record {
      admitted = true;
      is_all = λ every. refl;
      attempted = first (record { first = d; second = fold after_command s.second (filter is_tick t.commands) })
          (record { first = stands; second = t.listened });
    })
    (λ done h. joined s.second now.second done (heard_of c refusal)
    (second (record { first = t.now.desk; second = fold after_command s.second (filter is_tick done) })
    (record { first = t.stands; second = h }))) is

-- One attempt on the second list.
pub one_second : {s : TwoDesks} {turn turn' : LineState} {c : Command} {refusal : Option Refusal} {before now : TwoKept}
    → turn ≡ unattempted turn.meaning → next_of turn ≡ Some c → TwoStand s before
    → ((x : TwoDesks) → TwoStand x before → Attempted true x.second c refusal now.second) → now.first ≡ before.first
    → turn' ≡ record turn { left = turn.left - 1; refusal = refusal }
    → LineProgress true (Stays s.first now.first) (begun s.second) turn turn' now.second
one_second {s} {before} {now} start some stand second same is =
    attempted {all = true} {heard = Stays s.first now.first}
    (nothing_yet stand.second (ap (λ (u : LineState). u.refusal) start) (subst (StandsFor s.first) (sym same) stand.first)) some
    (λ d stands. record {
      admitted = true;
      is_all = λ every. refl;
      attempted = second (record { first = s.first; second = d }) (record { first = stand.first; second = stands });
    })
    (λ done h. h) is

pub other_tick : (c : Command) → (c ≡ commands.Tick → ⊥) → is_tick c ≡ false
other_tick (commands.Edit edit) other = refl
other_tick (commands.Key key) other = refl
other_tick commands.Tick other = absurd (other refl)
