-- One more attempt at a line's command.
use Rattle.lx_session.proofs.Imports.{◌≡◌, inl, inr, ◌≤◌, ◌<◌, ℕ, zero, suc, ◌-◌, Bool, true, false, cond, ◌==◌, Option}
use Rattle.lx_session.proofs.Imports.{Some, None, Result, Ok, Err, List, [], ◌∷◌, ◌++◌, IsOkAnd, refl, sym, ap, ◌∙◌, subst, arith, append-nil}
use Rattle.lx_session.proofs.Imports.{append_assoc, is_none, is_some, result_unwrap_or, fold-append, nat_tests, Command, Line, Refusal, Memory, Desk, step}
use Rattle.lx_session.proofs.Imports.{after_command, Kept, kept, DeskState, answered, attempt, and_then, command_of, attempts_of, attempts_for}
use Rattle.lx_session.proofs.Imports.{StandsFor, LineState, next_of, Attempted, AcceptedStep, ListenedAttempt, heard_of, resumed}
use Rattle.lx_session.proofs.Imports.{CommandHasFailed, HasPassed, LineProgress}
use Rattle.lx_spec.specs.declared.Command.TheVariants as commands
use Rattle.lx_spec.specs.FirstRefusal.{◌>>=◌}
use Rattle.lx_console.specs.Ticks.{after_ticks}
use Rattle.lx_console.proofs.PassedTicks.{rest_after}

-- nothing was attempted yet
pub nothing_yet : {all : Bool} {heard : List Command → Type 0} {s : DeskState} {console : Kept} {turn : LineState} → StandsFor s.desk console
    → turn.refusal ≡ None → heard [] → LineProgress all heard s turn turn console
nothing_yet {s} {turn} stands none nothing = record {
  now = s;
  at = λ failed. failed;
  commands = [];
  meaning = refl;
  by = λ failed. sym (ap (λ r. resumed failed (command_of turn.meaning) turn.left r s) none);
  not_yet = λ e. refl;
  stands = stands;
  accepted = sym (append-nil s.accepted);
  desk = refl;
  listened = nothing;
  fewer = omega arith;
  fresh = λ e. refl;
  at_edit = λ e. cc;
  by_memory = λ e. cc;
  still = λ few some. cc;
}

-- what it says that a command is to be attempted
pub record IsNext (turn : LineState) (c : Command) : Type 0 where
  pub none : turn.refusal ≡ None
  pub some : 0 < turn.left
  pub command : command_of turn.meaning ≡ Some c

next_at : (meaning : Option Line) (left : ℕ) (refusal : Option Refusal) (c : Command)
    → next_of (record { meaning = meaning; left = left; refusal = refusal }) ≡ Some c
    → IsNext (record { meaning = meaning; left = left; refusal = refusal }) c
next_at meaning left (Some r) c e = cc
next_at meaning zero None c e = cc
next_at meaning (suc n) None c e =
    let more : (suc n == 0) ≡ false = grind (arith, nat_tests) in
    record { none = refl; some = omega arith; command = sym (ap (λ b. cond b None (command_of meaning)) more) ∙ e }

pub next_is : (turn : LineState) (c : Command) → next_of turn ≡ Some c → IsNext turn c
next_is turn c e = next_at turn.meaning turn.left turn.refusal c e

-- the state after an attempt that was accepted
abbrev accepted_by : DeskState → Command → Desk → DeskState
accepted_by t c d = record { desk = d; accepted = t.accepted ++ c ∷ [] }

-- the one that fails is a later one of more attempts
abbrev later : Option ℕ → Option ℕ
later None = None
later (Some k) = Some (suc k)

-- one attempt, and then those that are left
one_more : (failed : Option ℕ) (c : Command) (left : ℕ) (t : DeskState) → 0 < left
    → attempts_of (later failed) c left t ≡ and_then (attempt t c) (attempts_of failed c (left - 1))
one_more failed c zero t some = absurd (omega (arith, some))
one_more None c (suc n) t some = let e : n ≡ suc n - 1 = omega arith in ap (λ m. and_then (attempt t c) (attempts_of None c m)) e
one_more (Some k) c (suc n) t some = let e : n ≡ suc n - 1 = omega arith in ap (λ m. and_then (attempt t c) (attempts_of (Some k) c m)) e

-- or the first of them fails
fails_now : (c : Command) (left : ℕ) (t : DeskState) (refusal : Refusal) → 0 < left → refusal ≡ Memory
    → attempts_of (Some 0) c left t ≡ record { state = t; refusal = Some refusal }
fails_now c zero t refusal some is = absurd (omega (arith, some))
fails_now c (suc n) t refusal some is = ap (λ r. record { state = t; refusal = Some r }) (sym is)

-- what an accepted command comes to
accepts : (d : Desk) (c : Command) (console : Kept) (r : Result Desk Refusal) → step d c ≡ r → IsOkAnd r (λ next. StandsFor next console)
    → (next : Desk) × (step d c ≡ Ok next) × StandsFor next console
accepts d c console (Ok next) is ok = (next, is, ok)
accepts d c console (Err refusal) is ok = absurd ok

-- the commands heard of go on by those of the attempt
abbrev Joins : (List Command → Type 0) → (List Command → Type 0) → List Command → Type 0
Joins heard heard' more = (commands : List Command) → heard commands → heard' (commands ++ more)

-- One more attempt, from what was attempted so far.
module _ {all : Bool} {heard : List Command → Type 0} {s : DeskState} {old turn : LineState} {c : Command} {before_it : Kept}
    (t : LineProgress all heard s old turn before_it) (next : IsNext turn c) where
  command_is : command_of old.meaning ≡ Some c
  command_is = ap command_of (sym t.meaning) ∙ next.command

  -- those that are left go on from here
  by_left : (failed : Option ℕ) → attempts_for (t.at failed) (command_of old.meaning) old.left s ≡ attempts_of failed c turn.left t.now
  by_left failed = t.by failed ∙ ap (λ r. resumed failed (command_of old.meaning) turn.left r t.now) next.none
      ∙ ap (λ o. attempts_for failed o turn.left t.now) (command_is)

  module _ {all' : Bool} {heard' : List Command → Type 0} {after_it : Kept} where
    -- it was accepted
    accepted : (d : Desk) → step t.now.desk c ≡ Ok d → StandsFor d after_it → Joins heard heard' (c ∷ [])
        → LineProgress all' heard' s old (record { meaning = turn.meaning; left = turn.left - 1; refusal = None }) after_it
    accepted d ok stands joins = record {
      now = accepted_by t.now c d;
      at = λ failed. t.at (later failed);
      commands = t.commands ++ c ∷ [];
      meaning = t.meaning;
      by = λ failed. by_left (later failed) ∙ one_more failed c turn.left t.now next.some
          ∙ ap (λ r. and_then (answered t.now c r) (attempts_of failed c (turn.left - 1))) ok
          ∙ sym (ap (λ o. attempts_for failed o (turn.left - 1) (accepted_by t.now c d)) command_is);
      not_yet = λ e. t.not_yet next.none;
      stands = stands;
      accepted = ap (λ cs. cs ++ c ∷ []) t.accepted ∙ append_assoc s.accepted t.commands (c ∷ []);
      desk = sym (fold-append after_command s.desk t.commands (c ∷ []) ∙ ap (λ d. after_command d c) (sym t.desk)
          ∙ ap (λ r. result_unwrap_or r t.now.desk) ok);
      listened = joins t.commands t.listened;
      fewer = omega (arith, t.fewer);
      fresh = λ e. absurd (omega (arith, t.fewer, next.some, e));
      at_edit = λ e. let none = ap is_some (t.not_yet next.none) in cc;
      by_memory = λ e. let none = ap is_some (t.not_yet next.none) in absurd cc;
      still = λ few some. cc;
    }

    -- or refused, by the desk or since it failed: `failed` is then the first of those that were left
    refused : (refusal : Refusal) (failed : Option ℕ) → attempts_of failed c turn.left t.now ≡ record { state = t.now; refusal = Some refusal }
        → (is_some (t.at failed) ≡ true → all' ≡ true → CommandHasFailed t.now.desk (Some c)) → (is_some (t.at failed) ≡ true → refusal ≡ Memory)
        → StandsFor t.now.desk after_it → Joins heard heard' []
        → LineProgress all' heard' s old (record { meaning = turn.meaning; left = turn.left - 1; refusal = Some refusal }) after_it
    refused refusal failed is wanted memory stands joins = record {
      now = t.now;
      at = λ none. t.at failed;
      commands = t.commands;
      meaning = t.meaning;
      by = λ none. by_left failed ∙ is;
      not_yet = λ e. cc;
      stands = stands;
      accepted = t.accepted;
      desk = t.desk;
      listened = subst heard' (append-nil t.commands) (joins t.commands t.listened);
      fewer = omega (arith, t.fewer);
      fresh = λ e. absurd (omega (arith, t.fewer, next.some, e));
      at_edit = λ e every. subst (λ o. CommandHasFailed t.now.desk o) (sym command_is) (wanted e every);
      by_memory = λ e. ap Some (memory e);
      still = λ few some. t.fresh (omega (arith, few, t.fewer, next.some));
    }

    pub attempted_at : (refusal : Option Refusal) (admitted : Bool) → (all' ≡ true → admitted ≡ true)
        → Attempted admitted t.now.desk c refusal after_it → Joins heard heard' (heard_of c refusal)
        → LineProgress all' heard' s old (record { meaning = turn.meaning; left = turn.left - 1; refusal = refusal }) after_it
    attempted_at None true every a joins =
        let ok = accepts t.now.desk c after_it (step t.now.desk c) refl a in accepted ok.0 ok.1 ok.2 joins
    attempted_at None false every a joins = absurd a
    attempted_at (Some refusal) true every a joins = elim a.1 [
      | inl err ↦ refused refusal None
          (one_more None c turn.left t.now next.some ∙ ap (λ r. and_then (answered t.now c r) (attempts_of None c (turn.left - 1))) err)
          (λ e. let none = ap is_some (t.not_yet next.none) in absurd cc) (λ e. let none = ap is_some (t.not_yet next.none) in absurd cc) a.0 joins
      | inr want ↦ refused refusal (Some 0) (fails_now c turn.left t.now refusal next.some want.memory)
          (λ e every. record { wanted = c; is = refl; takes_some = want.takes_some; accepted = want.accepted }) (λ e. want.memory) a.0 joins
    ]
    attempted_at (Some refusal) false every a joins = refused refusal (Some 0) (fails_now c turn.left t.now refusal next.some a.1)
        (λ e all. let no : false ≡ true = every all in absurd cc) (λ e. a.1) a.0 joins

pub attempted : {all all' : Bool} {heard heard' : List Command → Type 0} {s : DeskState} {old turn turn' : LineState} {c : Command}
    {refusal : Option Refusal} {before_it after_it : Kept} (t : LineProgress all heard s old turn before_it) → next_of turn ≡ Some c
    → ((d : Desk) → StandsFor d before_it → ListenedAttempt all' d c refusal after_it) → Joins heard heard' (heard_of c refusal)
    → turn' ≡ record turn { left = turn.left - 1; refusal = refusal }
    → LineProgress all' heard' s old turn' after_it
attempted {all'} {heard'} {s} {old} {turn} {c} {refusal} {after_it} t some a joins is =
    let one = a t.now.desk t.stands in
    subst (λ v. LineProgress all' heard' s old v after_it) (sym is)
    (attempted_at t (next_is turn c some) refusal one.admitted one.is_all one.attempted joins)

-- the first of more ticks, and the others
first_tick : (n : ℕ) (d : Desk) (r : Result Desk Refusal) (P : Desk → Type 0) → step d commands.Tick ≡ r → IsOkAnd (r >>= after_ticks n) P
    → (next : Desk) × (step d commands.Tick ≡ Ok next) × IsOkAnd (after_ticks n next) P
first_tick n d (Ok next) P is p = (next, is, p)
first_tick n d (Err refusal) P is p = absurd p

-- attempts at this many ticks, each accepted
many_ticks : (n : ℕ) (all : Bool) (heard : List Command → Type 0) (s : DeskState) (old turn : LineState) (before_it after_it : Kept)
    (t : LineProgress all heard s old turn before_it) → (0 < n → IsNext turn commands.Tick) → n ≤ turn.left
    → (0 < n → Joins heard heard (commands.Tick ∷ [])) → IsOkAnd (after_ticks n t.now.desk) (λ next. StandsFor next after_it)
    → LineProgress all heard s old (record turn { left = turn.left - n }) after_it
unfolding accepted first_tick
many_ticks zero all heard s old turn before_it after_it t next within joins stands =
    let same : turn.left ≡ turn.left - 0 = omega arith in
    subst (λ left. LineProgress all heard s old (record turn { left = left }) after_it) same
    (subst (λ k. LineProgress all heard s old turn k) (t.stands.same ∙ sym stands.same) t)
many_ticks (suc n) all heard s old turn before_it after_it t next within joins stands =
    let some : 0 < suc n = omega arith in
    let now = next some in
    let first = first_tick n t.now.desk (step t.now.desk commands.Tick) (λ next. StandsFor next after_it) refl stands in
    let d : Desk = first.0 in
    let here : StandsFor d (kept d) = record { same = refl; rest = rest_after t.now.desk d first.1 t.stands.rest } in
    let one : LineProgress all heard s old (record { meaning = turn.meaning; left = turn.left - 1; refusal = None }) (kept d) =
    accepted t now d first.1 here (joins some) in
    let left : turn.left - 1 - n ≡ turn.left - suc n = omega arith in
    let others = many_ticks n all heard s old (record { meaning = turn.meaning; left = turn.left - 1; refusal = None }) (kept d) after_it one
    (λ more. record { none = refl; some = omega (arith, within, more); command = now.command }) (omega (arith, within)) (λ more. joins some)
    first.2 in
    subst (λ r. LineProgress all heard s old (record { meaning = turn.meaning; left = turn.left - suc n; refusal = r }) after_it) (sym now.none)
    (subst (λ m. LineProgress all heard s old (record { meaning = turn.meaning; left = m; refusal = None }) after_it) left others)

-- Ticks that passed at once.
pub passed : {all : Bool} {heard one : List Command → Type 0} {s : DeskState} {old turn turn' : LineState} {before_it after_it : Kept}
    → LineProgress all heard s old turn before_it → HasPassed one turn turn' before_it after_it
    → ((done : List Command) → heard done → one (commands.Tick ∷ []) → heard (done ++ commands.Tick ∷ []))
    → LineProgress all heard s old turn' after_it
passed {all} {heard} {s} {old} {turn} {before_it} {after_it} t p joins =
    subst (λ v. LineProgress all heard s old v after_it) (sym p.turn)
    (many_ticks p.ticks all heard s old turn before_it after_it t (λ some. next_is turn commands.Tick (p.tick some)) p.within
    (λ some done h. joins done h (p.listened some)) (p.stands t.now.desk t.stands))

-- the step of an attempt that was accepted
pub accepted_step : (admitted : Bool) (c : Command) (refusal : Option Refusal) (before_it after_it : Kept) → is_none refusal ≡ true
    → ((d : Desk) → StandsFor d before_it → Attempted admitted d c refusal after_it) → AcceptedStep before_it c after_it
accepted_step true c None before_it after_it none a d stands = a d stands
accepted_step false c None before_it after_it none a d stands = absurd (a d stands)
accepted_step admitted c (Some refusal) before_it after_it none a d stands = cc

-- what was heard of, by whether the attempt was accepted
pub heard_accepted : (heard : List Command → Type 0) (c : Command) (refusal : Option Refusal) → is_none refusal ≡ true → heard (c ∷ [])
    → heard (heard_of c refusal)
heard_accepted heard c None none h = h
heard_accepted heard c (Some r) none h = cc

pub heard_refused : (heard : List Command → Type 0) (c : Command) (refusal : Option Refusal) → is_none refusal ≡ false → heard []
    → heard (heard_of c refusal)
heard_refused heard c None some h = cc
heard_refused heard c (Some r) some h = h
