-- Ticks after ticks.
use Rattle.lx_embed.proofs.Imports.{◌≡◌, ℕ, zero, suc, ◌+◌, ◌⊎◌, inl, inr, Result, Ok, Err, refl, sym, subst, arith, OnOk, OnErr, true}
use Rattle.lx_embed.proofs.Imports.{false, is_err, IsErr, IfErr, IsOkAnd, Desk, step, UndoState, undo_step, after_ticks, UndoKept, UndoStands, UndoWantsMemory}
use Rattle.lx_spec.specs.declared.Command.TheVariants as commands
use Rattle.lx_spec.specs.declared.Refusal.{Refusal}
use Rattle.lx_spec.specs.FirstRefusal.{◌>>=◌}

pub ticks_more : (a b : ℕ) (d : Desk) (P Q : Desk → Type 0) → IsOkAnd (after_ticks a d) P → ((x : Desk) → P x → IsOkAnd (after_ticks b x) Q)
    → IsOkAnd (after_ticks (a + b) d) Q
ticks_more zero b d P Q first more =
    let same : b ≡ zero + b = omega arith in subst (λ (n : ℕ). IsOkAnd (after_ticks n d) Q) same (more d first)
ticks_more (suc a) b d P Q first more =
    let same : suc (a + b) ≡ suc a + b = omega arith in
    subst (λ (n : ℕ). IsOkAnd (after_ticks n d) Q) same
    ((elim (step d commands.Tick) as (λ r. IsOkAnd (r >>= (λ next. after_ticks a next)) P → IsOkAnd (r >>= (λ next. after_ticks (a + b) next)) Q)
    [ Ok next ↦ λ held. ticks_more a b next P Q held more | Err refusal ↦ λ none. absurd none ]) first)

-- one tick that was accepted
pub ticks_one : (d : Desk) (P : Desk → Type 0) → IsOkAnd (step d commands.Tick) P → IsOkAnd (after_ticks 1 d) P
ticks_one d P told =
    (elim (step d commands.Tick) as (λ r. IsOkAnd r P → IsOkAnd (r >>= (λ next. after_ticks 0 next)) P)
    [ Ok next ↦ λ held. held | Err refusal ↦ λ none. absurd none ]) told

-- of a desk with a history
pub undo_one : (t : UndoState) (now : UndoKept) → IsOkAnd (undo_step t commands.Tick) (λ next. UndoStands next now)
    → IsOkAnd (after_ticks 1 t.desk) (λ next. UndoStands (record t { desk = next }) now)
undo_one t now told =
    (elim (step t.desk commands.Tick) as (λ r. IsOkAnd (r >>= (λ d. Ok (record t { desk = d }))) (λ next. UndoStands next now)
    → IsOkAnd (r >>= (λ next. after_ticks 0 next)) (λ next. UndoStands (record t { desk = next }) now))
    [ Ok next ↦ λ held. held | Err refusal ↦ λ none. absurd none ]) told

-- what holds of a refusal, and of what was accepted
pub if_refused : {A : Type 0} {P : Type 0} (r : Result A Refusal) → is_err r ≡ true → OnErr r P → P
if_refused (Ok x) e p = absurd cc
if_refused (Err x) e p = p

pub if_accepted : {A : Type 0} {P : Type 0} (r : Result A Refusal) → is_err r ≡ false → OnOk r P → P
if_accepted (Ok x) e p = p
if_accepted (Err x) e p = absurd cc

-- a refusal that is the desk's own
pub refused_by : {A : Type 0} (r : Result A Refusal) (s : Result Desk Refusal) → is_err r ≡ true → IfErr r (λ refusal. s ≡ Err refusal) → IsErr s
refused_by (Ok x) s e p = absurd cc
refused_by (Err x) s e p = subst IsErr (sym p) refl

abbrev with_desk : UndoState → Desk → Result UndoState Refusal
with_desk t d = Ok (record t { desk = d })

refused_with : (t : UndoState) (refusal : Refusal) → undo_step t commands.Tick ≡ Err refusal → IsErr (step t.desk commands.Tick)
refused_with t refusal is =
    (elim (step t.desk commands.Tick) as (λ r. is_err (r >>= with_desk t) ≡ true → is_err r ≡ true)
    [ Ok next ↦ λ e. absurd cc | Err refusal ↦ λ e. refl ]) (subst IsErr (sym is) refl)

pub undo_refused : {A : Type 0} (r : Result A Refusal) (t : UndoState) → is_err r ≡ true
    → IfErr r (λ refusal. (undo_step t commands.Tick ≡ Err refusal) ⊎ UndoWantsMemory false (undo_step t commands.Tick) refusal)
    → IsErr (step t.desk commands.Tick)
undo_refused (Ok x) t e p = absurd cc
undo_refused (Err x) t e p = elim p [
  | inl is ↦ refused_with t x is
  | inr wants ↦ absurd (cc (wants.takes_some))
]
