-- What a line's reply makes of a session.
use Rattle.lx_session.proofs.Imports.{◌≡◌, inl, inr, ℕ, zero, suc, false, cond, ◌==◌, Option, Some, None, ◌++◌, refl, sym, ap, append-nil, ◌∙◌}
use Rattle.lx_session.proofs.Imports.{arith, is_some, nat_tests, Command, Line, Refusal, cue_of, Desk, Session, DeskState, command_of, attempts_for}
use Rattle.lx_session.proofs.Imports.{with_reply, LineState, next_of, resumed, reply_to, counts_after}
use Rattle.std.proofs.lemmas.Bool.{cases_Bool}
use Rattle.lx_spec.specs.declared.Line.TheVariants as lines

-- where there is nothing more to attempt
over_at : (meaning : Option Line) (left : ℕ) (refusal : Option Refusal) (t : DeskState)
    → next_of (record { meaning = meaning; left = left; refusal = refusal }) ≡ None
    → resumed None (command_of meaning) left refusal t ≡ record { state = t; refusal = refusal }
over_at meaning left (Some r) t e = refl
over_at meaning zero None t e =
    let at : (o : Option Command) → attempts_for None o zero t ≡ record { state = t; refusal = None } =
    λ o. elim o as (λ o. attempts_for None o zero t ≡ record { state = t; refusal = None }) [ None ↦ refl | Some c ↦ refl ] in
    at (command_of meaning)
over_at meaning (suc n) None t e =
    let more : (suc n == 0) ≡ false = grind (arith, nat_tests) in
    let none : command_of meaning ≡ None = sym (ap (λ b. cond b None (command_of meaning)) more) ∙ e in
    ap (λ o. attempts_for None o (suc n) t) none

pub over : (turn : LineState) (t : DeskState) → next_of turn ≡ None
    → resumed None (command_of turn.meaning) turn.left turn.refusal t ≡ record { state = t; refusal = turn.refusal }
over turn t e = over_at turn.meaning turn.left turn.refusal t e

-- What the reply makes of a session: the state stays, the text goes on by the reply, and the counts by the counts.
pub record IsReplied {S : Type 0} (s : Session S) (meaning : Option Line) (d : Desk) (refusal : Option Refusal) (next : Session S) : Type 0 where
  pub state : next.state ≡ s.state
  pub text : next.text ≡ s.text ++ reply_to d meaning refusal
  pub counts : next.counts ≡ counts_after d s.counts meaning refusal

pub finished : {S : Type 0} (s : Session S) (meaning : Option Line) (d : Desk) (refusal : Option Refusal)
    → IsReplied s meaning d refusal (with_reply s meaning d refusal)
finished s (Some (lines.SheetOf n)) d refusal = elim (cases_Bool (is_some (cue_of d.show n))) [
  | inl there ↦ rw there (record { state = refl; text = rw (there, reply_to) refl; counts = rw (there, counts_after) refl })
  | inr absent ↦ rw absent (record { state = refl; text = rw (absent, reply_to) refl; counts = rw (absent, counts_after) refl })
]
finished s (Some lines.Quit) d refusal = record { state = refl; text = sym (append-nil s.text); counts = refl }
finished s (Some lines.Blank) d refusal = record { state = refl; text = sym (append-nil s.text); counts = refl }
finished s other d None = record { state = refl; text = refl; counts = refl }
finished s other d (Some r) = record { state = refl; text = refl; counts = refl }
