-- What a gate publishes of a console.
use Rattle.lx_gate.proofs.Imports.{◌≡◌, ◌+◌, ◌-◌, ◌^◌, ◌<◌, List, [], ◌∷◌, ◌++◌, length, Result, Ok, Err, IsOkAnd, OnOk, OnErr, sym, ap, ◌∙◌}
use Rattle.lx_gate.proofs.Imports.{subst, arith, length-append, append-nil, append_assoc, Command, Show, Desk, replay, step, after_command, opened}
use Rattle.lx_gate.proofs.Imports.{Published, IsEntered, HasSent, HasSentNone}
use Rattle.std.specs.Result.{result_unwrap_or}
use Rattle.std.proofs.lemmas.Grind.{fold-append}
use Rattle.lx_spec.specs.declared.Refusal.{Refusal}
use Rattle.lx_spec.specs.Kept.{Kept}
use Rattle.lx_console.specs.ConsoleMeaning.{StandsFor}
use Rattle.lx_gate.specs.Desks.{IsInStep}
use Rattle.lx_gate.proofs.UnsentCommands.{entered_push}

next_stands : (d : Desk) (r : Result Desk Refusal) (console : Kept) → IsOkAnd r (λ next. StandsFor next console)
    → StandsFor (result_unwrap_or r d) console
next_stands d (Ok next) console ok = ok
next_stands d (Err refusal) console ok = absurd ok

-- after one more accepted command
pub stands_after : (show : Show) (list : List Command) (command : Command) (console : Kept)
    → IsOkAnd (step (replay show list) command) (λ next. StandsFor next console) → StandsFor (replay show (list ++ command ∷ [])) console
stands_after show list command console ok =
    subst (λ (d : Desk). StandsFor d console) (sym (fold-append after_command (opened show) list (command ∷ [])))
    (next_stands (replay show list) (step (replay show list) command) console ok)

-- an accepted command is unsent
pub in_step_push : (show : Show) (gate : Published) (unsent : List Command) (command : Command) (before after : Kept)
    → IsInStep show gate unsent before
    → length gate.published + (length unsent + 1) < 2 ^ 64 - 1
    → IsOkAnd (step (replay show (gate.published ++ unsent)) command) (λ next. StandsFor next after)
    → IsInStep show gate (unsent ++ command ∷ []) after
in_step_push show gate unsent command before after h few ok = record {
  stands = subst (λ (l : List Command). StandsFor (replay show l) after) (append_assoc gate.published unsent (command ∷ []))
      (stands_after show (gate.published ++ unsent) command after ok);
  few = omega (arith, few, length-append unsent (command ∷ []));
  entered = entered_push gate unsent command h.entered;
}

-- published or not, the commands are the same ones
pub in_step_over : (show : Show) (gate gate' : Published) (unsent unsent' : List Command) (console : Kept)
    → IsInStep show gate unsent console
    → gate'.published ++ unsent' ≡ gate.published ++ unsent → IsEntered gate' unsent' → IsInStep show gate' unsent' console
in_step_over show gate gate' unsent unsent' console h same entered = record {
  stands = subst (λ (l : List Command). StandsFor (replay show l) console) (sym same) h.stands;
  few = let n = h.few in omega (arith, n, ap length same, length-append gate'.published unsent', length-append gate.published unsent);
  entered = entered;
}

-- whatever the answer, the same commands are published and unsent
pub answered_same : {A E : Type 0} (answer : Result A E) (gate gate' : Published) (unsent unsent' : List Command)
    → OnOk answer (HasSent gate unsent gate' unsent') → OnErr answer (HasSentNone gate unsent gate' unsent')
    → gate'.published ++ unsent' ≡ gate.published ++ unsent
answered_same (Ok a) gate gate' unsent unsent' ok err = ap (λ l. gate'.published ++ l) ok.1 ∙ (append-nil gate'.published ∙ ok.0)
answered_same (Err e) gate gate' unsent unsent' ok err = ap (λ l. l ++ unsent') err.0 ∙ ap (λ l. gate.published ++ l) err.1
