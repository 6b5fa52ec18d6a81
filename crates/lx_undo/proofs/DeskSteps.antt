-- Keys and ticks leave the history, and are the desk's own steps.
use Rattle.lx_undo.proofs.Imports.{◌≡◌, Bool, false, Ok, Err, refl, ◌∙◌, sym, ap, subst, inl, inr, Result, OnErr, ◌⊎◌, if◌then◌else◌}
use Rattle.lx_undo.proofs.Imports.{IsOkAnd, true≢false, Edit, Command, Refusal, ◌>>=◌, Desk, step, Kept, is_edit, UndoState, replaced, undo_step, may_lack_memory}
use Rattle.lx_undo.proofs.Imports.{StandsFor, Answers, Refuses, KeptPlans, UndoKept, UndoStands, TakesUndoStep, UndoWantsMemory, seen}
use Rattle.lx_spec.specs.declared.Command.TheVariants as commands

-- the same shows are kept
pub record SameShows (before now : UndoKept) : Type 0 where
  pub back : now.back ≡ before.back
  pub forth : now.forth ≡ before.forth
  pub depth : now.depth ≡ before.depth

pub no_edit : (command : Command) → ((edit : Edit) → command ≡ commands.Edit edit → ⊥) → is_edit command ≡ false
no_edit (commands.Edit edit) other = absurd (other edit refl)
no_edit (commands.Key key) other = refl
no_edit commands.Tick other = refl

-- such a command takes no memory
takes_none : (command : Command) → is_edit command ≡ false → may_lack_memory command ≡ false
takes_none (commands.Edit edit) other = cc
takes_none (commands.Key key) other = refl
takes_none commands.Tick other = refl

stands_after : (s : UndoState) (r : Result Desk Refusal) (before now : UndoKept) → UndoStands s before → SameShows before now
    → IsOkAnd r (λ d. StandsFor d now.console) → IsOkAnd (r >>= (λ d. Ok (record s { desk = d }))) (λ next. UndoStands next now)
stands_after s (Ok d) before now stands same desk =
    record { desk = desk; back = same.back ∙ stands.back; forth = same.forth ∙ stands.forth; depth = same.depth ∙ stands.depth }
stands_after s (Err refusal) before now stands same desk = absurd desk

refused : (s : UndoState) (command : Command) (refusal : Refusal) → is_edit command ≡ false → Refuses s.desk command refusal
    → (undo_step s command ≡ Err refusal) ⊎ UndoWantsMemory (may_lack_memory command) (undo_step s command) refusal
refused s command refusal other r =
    let next : Desk → UndoState = λ d. if is_edit command then replaced s d else record s { desk = d } in
    elim r as (λ q. (undo_step s command ≡ Err refusal) ⊎ UndoWantsMemory (may_lack_memory command) (undo_step s command) refusal) [
      | inl own ↦ inl (ap (λ (q : Result Desk Refusal). q >>= (λ d. Ok (next d))) own)
      | inr want ↦ absurd (true≢false (sym want.takes_some ∙ takes_none command other))
    ]

-- a command that is no edit
pub takes_key : {A : Type 0} (s : UndoState) (command : Command) (answer : Result A Refusal) (before now : UndoKept)
    → is_edit command ≡ false → UndoStands s before → SameShows before now → Answers s.desk command answer now.console
    → TakesUndoStep (may_lack_memory command) (undo_step s command) answer now
takes_key s command (Ok x) before now other stands same answers = record {
  ok = subst (λ (b : Bool). IsOkAnd (step s.desk command >>= (λ d. Ok (if b then replaced s d else record s { desk = d })))
      (λ next. UndoStands next now)) (sym other) (stands_after s (step s.desk command) before now stands same answers.ok);
  err = tt;
}
takes_key s command (Err refusal) before now other stands same answers =
    record { ok = tt; err = refused s command refusal other answers.err }

pub unchanged_with : (answer : Result (Unit {0}) Refusal) (k now : Kept) (plans : KeptPlans) (old : UndoKept) → OnErr answer (now ≡ k)
    → seen k plans ≡ old → OnErr answer (seen now plans ≡ old)
unchanged_with (Ok x) k now plans old same is = tt
unchanged_with (Err refusal) k now plans old same is = ap (λ (q : Kept). seen q plans) same ∙ is
