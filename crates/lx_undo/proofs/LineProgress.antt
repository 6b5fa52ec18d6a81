-- Commands of one line, one after another, bring a desk with its history to the state after them.
use Rattle.lx_undo.proofs.Imports.{◌≡◌, ℕ, ◌+◌, ◌-◌, ◌≤◌, ◌<◌, Bool, true, false, ◌||◌, Option, Some, Result, Ok, Err, List}
use Rattle.lx_undo.proofs.Imports.{[], ◌∷◌, ◌++◌, length, refl, sym, ap, ◌∙◌, subst, arith, inl, inr, length-append, append-nil}
use Rattle.lx_undo.proofs.Imports.{OnErr, if◌then◌else◌, list_any, result_err, result_unwrap_or, cases_Bool, Command, Line, Refusal}
use Rattle.lx_undo.proofs.Imports.{◌>>=◌, Desk, step, after_command, is_edit, begun, command_of, count_of, UndoState, replaced, undo_step, StandsFor}
use Rattle.lx_undo.proofs.Imports.{after_commands, LineState, next_of, unattempted, LineProgress, UndoKept, UndoStands, TakesUndoStep, UndoWantsMemory}
use Rattle.lx_undo.proofs.Imports.{may_lack_memory, reached, HasReached}
use Rattle.std.proofs.Common.{IsOkAnd}
use Rattle.std.proofs.lemmas.List.Sums.{fold-append}
use Rattle.std.proofs.lemmas.Result.{on_err_weaker}
use Rattle.lx_spec.specs.declared.Command.TheVariants as commands
use Rattle.lx_spec.specs.declared.Line.TheVariants as lines
use Rattle.lx_session.specs.Attempts.{heard_of}
use Rattle.lx_session.proofs.AttemptSteps.{next_is, attempted}
use Rattle.lx_session.proofs.Commands.{own_attempted}

-- an edit is the one command of its line
one_edit : (meaning : Option Line) (c : Command) → command_of meaning ≡ Some c → is_edit c ≡ true → count_of meaning ≤ 1
one_edit (Some (lines.Command command)) c is edit = omega arith
one_edit (Some (lines.Ticks k)) c is edit =
    let tick : c ≡ commands.Tick = cc in
    let none : is_edit commands.Tick ≡ true = ap is_edit (sym tick) ∙ edit in cc
one_edit other c is edit = cc

no_more : (commands : List Command) → length commands ≤ 0 → commands ≡ []
no_more [] few = refl
no_more (c ∷ commands) few = absurd (omega (arith, few))

-- the desk after one more that it accepts
after_more : (d after : Desk) (done : List Command) (c : Command) → step (after_commands d done) c ≡ Ok after
    → after_commands d (done ++ c ∷ []) ≡ after
after_more d after done c is =
    fold-append after_command d done (c ∷ []) ∙ ap (λ (r : Result Desk Refusal). result_unwrap_or r (after_commands d done)) is

any_more : (done : List Command) (c : Command) → is_edit c ≡ false → list_any is_edit (done ++ c ∷ []) ≡ list_any is_edit done
any_more [] c other = rw other refl
any_more (first ∷ done) c other = ap (λ (b : Bool). is_edit first || b) (any_more done c other)

-- the state after one more
abbrev then_at : UndoState → Command → Desk → UndoState
then_at s c d = if is_edit c then replaced s d else record s { desk = d }

edit_first : (s : UndoState) (done : List Command) (c : Command) (d : Desk) → is_edit c ≡ true → done ≡ []
    → step (after_commands s.desk done) c ≡ Ok d → then_at (reached s done) c d ≡ reached s (done ++ c ∷ [])
edit_first s [] c d edit none is = rw (edit, is) refl
edit_first s (first ∷ done) c d edit none is = cc

reaches : (s : UndoState) (done : List Command) (c : Command) (d : Desk) → (is_edit c ≡ true → done ≡ [])
    → step (after_commands s.desk done) c ≡ Ok d → then_at (reached s done) c d ≡ reached s (done ++ c ∷ [])
reaches s done c d alone is = elim (cases_Bool (is_edit c)) [
  | inl edit ↦ edit_first s done c d edit (alone edit) is
  | inr other ↦ rw (other, any_more done c other, after_more s.desk d done c is) refl
]

-- where a command is accepted the desk stands for the state after it
accepted : (s : UndoState) (done : List Command) (c : Command) (u : UndoKept) (r : Result Desk Refusal)
    → step (after_commands s.desk done) c ≡ r → (is_edit c ≡ true → done ≡ [])
    → IsOkAnd (r >>= (λ d. Ok (then_at (reached s done) c d))) (λ next. UndoStands next u) → UndoStands (reached s (done ++ c ∷ [])) u
accepted s done c u (Ok d) is alone stands = subst (λ (x : UndoState). UndoStands x u) (reaches s done c d alone is) stands
accepted s done c u (Err refusal) is alone stands = absurd stands

-- an edit is attempted before any other command
alone : (s : UndoState) (old turn : LineState) (c : Command) (done : List Command) → old ≡ unattempted old.meaning
    → command_of old.meaning ≡ Some c → 0 < turn.left → length done ≤ old.left - turn.left → is_edit c ≡ true → done ≡ []
alone s old turn c done start command some few edit =
    let one = one_edit old.meaning c command edit in
    let all : old.left ≡ count_of old.meaning = ap (λ (t : LineState). t.left) start in
    no_more done (omega (arith, one, all, some, few))

-- as many commands as there were attempts
one_fewer : (old left n : ℕ) → n ≤ old - left → 0 < left → left ≤ old → n + 1 ≤ old - (left - 1)
one_fewer old left n few some fewer = omega (arith, few, some, fewer)

reaches_more : (s : UndoState) (c : Command) (before now : UndoKept) (answer : Result (Unit {0}) Refusal) (done : List Command) (old left : ℕ)
    → (is_edit c ≡ true → done ≡ []) → 0 < left → left ≤ old
    → TakesUndoStep (may_lack_memory c) (undo_step (reached s done) c) answer now → OnErr answer (now ≡ before)
    → HasReached s before (old - left) done → HasReached s now (old - (left - 1)) (done ++ heard_of c (result_err answer))
reaches_more s c before now (Ok x) done old left alone some fewer steps same h = record {
  few = let more : length (done ++ c ∷ []) ≡ length done + 1 = length-append done (c ∷ []) in
      let few = one_fewer old left (length done) h.few some fewer in omega (arith, more, few);
  stands = accepted s done c now (step (after_commands s.desk done) c) refl alone steps.ok;
}
reaches_more s c before now (Err refusal) done old left alone some fewer steps same h = record {
  few = let same_length : length (done ++ []) ≡ length done = ap length (append-nil done) in
      let few = one_fewer old left (length done) h.few some fewer in omega (arith, same_length, few);
  stands = subst (λ (cs : List Command). UndoStands (reached s cs) now) (sym (append-nil done))
      (subst (UndoStands (reached s done)) (sym same) h.stands);
}

stands_then : (s : UndoState) (c : Command) (u : UndoKept) (b : Bool) (d : Desk)
    → UndoStands (if b then replaced s d else record s { desk = d }) u → StandsFor d u.console
stands_then s c u true d stands = stands.desk
stands_then s c u false d stands = stands.desk

-- One attempt more.
pub one_more : {s : UndoState} {old turn turn' : LineState} {c : Command} {before now : UndoKept}
    (answer : Result (Unit {0}) Refusal) → old ≡ unattempted old.meaning → next_of turn ≡ Some c
    → ((x : UndoState) → UndoStands x before → TakesUndoStep (may_lack_memory c) (undo_step x c) answer now) → OnErr answer (now ≡ before)
    → turn' ≡ record turn { left = turn.left - 1; refusal = result_err answer }
    → LineProgress true (HasReached s before (old.left - turn.left)) (begun s.desk) old turn before.console
    → LineProgress true (HasReached s now (old.left - turn'.left)) (begun s.desk) old turn' now.console
one_more {s} {old} {turn} {turn'} {c} {before} {now} answer start some steps same is t =
    let next = next_is turn c some in
    let command : command_of old.meaning ≡ Some c = ap command_of (sym t.meaning) ∙ next.command in
    attempted t some
    (λ d stands.
    let x : UndoState = record { desk = d; back = before.back; forth = before.forth; depth = before.depth } in
    let one = steps x (record { desk = stands; back = refl; forth = refl; depth = refl }) in
    record {
      admitted = true;
      is_all = λ every. refl;
      attempted = own_attempted (then_at x c) d c answer before.console now.console (λ y. UndoStands y now)
          (UndoWantsMemory (may_lack_memory c) (undo_step x c)) stands (on_err_weaker answer (ap (λ (u : UndoKept). u.console)) same)
          (stands_then x c now (is_edit c)) (λ refusal want. (want.takes_some, want.memory, want.accepted)) one.ok one.err;
    })
    (λ done h. subst (λ (n : ℕ). HasReached s now (old.left - n) (done ++ heard_of c (result_err answer)))
    (sym (ap (λ (v : LineState). v.left) is)) (reaches_more s c before now answer done old.left turn.left
    (alone s old turn c done start command next.some h.few) next.some t.fewer (steps (reached s done) h.stands) same h)) is
