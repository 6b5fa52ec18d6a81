use Rattle.lx_session.proofs.Imports.{◌≡◌, true, false, ap, [], ◌∷◌, is_none, not}
use Rattle.lx_spec.specs.declared.Command.TheVariants as commands
use Rattle.lx_session.proofs.AttemptSteps.{accepted_step, heard_accepted, heard_refused}
use Rattle.lx_session.proofs.key.attempt_key.Goals as goal

pub hear-requires : goal.hear-requires
hear-requires g c =
    let none : is_none c.try_key-refusal.result ≡ true = ap not c.if-is_none.ensures in (
      c.args.console.now,
      (
        c.admit-admitted.ensures.keeps c.args.console.now c.requires.keeps,
        (
          accepted_step c.admit-admitted.result (commands.Key c.args.key.now) c.try_key-refusal.result c.args.console.now
              c.try_key-refusal.new.console none c.try_key-refusal.ensures.attempted,
          c.admit-admitted.ensures.ready (c.try_key-refusal.ensures.admitted none),
        ),
      ),
    )

pub returns-then-is_none-clause-heard : goal.returns-then-is_none-clause-heard
returns-then-is_none-clause-heard g c =
    let none : is_none c.try_key-refusal.result ≡ true = ap not c.if-is_none.ensures in
    heard_accepted (g.L.Listener.heard c.args.listener.now c.hear.new.self) (commands.Key c.args.key.now) c.try_key-refusal.result none
    (g.met.L.Listener.both c.args.listener.now c.admit-admitted.new.self c.hear.new.self [] ((commands.Key c.args.key.now) ∷ [])
    c.admit-admitted.ensures.heard c.hear.ensures.heard)

pub returns-else-is_none-clause-heard : goal.returns-else-is_none-clause-heard
returns-else-is_none-clause-heard g c =
    let some : is_none c.try_key-refusal.result ≡ false = ap not c.if-is_none.ensures in
    heard_refused (g.L.Listener.heard c.args.listener.now c.admit-admitted.new.self) (commands.Key c.args.key.now) c.try_key-refusal.result some
    c.admit-admitted.ensures.heard

pub returns-then-is_none-clause-attempted : goal.returns-then-is_none-clause-attempted
returns-then-is_none-clause-attempted g c = λ d stands. record {
  admitted = c.admit-admitted.result;
  is_all = λ every. (c.admit-admitted.ensures.all (c.hear.ensures.all every)).0;
  attempted = c.try_key-refusal.ensures.attempted d stands;
}

pub returns-else-is_none-clause-attempted : goal.returns-else-is_none-clause-attempted
returns-else-is_none-clause-attempted g c = λ d stands. record {
  admitted = c.admit-admitted.result;
  is_all = λ every. (c.admit-admitted.ensures.all every).0;
  attempted = c.try_key-refusal.ensures.attempted d stands;
}

pub returns-then-is_none-clause-all : goal.returns-then-is_none-clause-all
returns-then-is_none-clause-all g c = λ every. (c.admit-admitted.ensures.all (c.hear.ensures.all every)).1

pub returns-else-is_none-clause-all : goal.returns-else-is_none-clause-all
returns-else-is_none-clause-all g c = λ every. (c.admit-admitted.ensures.all every).1

pub returns-then-is_none-clause-memory : goal.returns-then-is_none-clause-memory
returns-then-is_none-clause-memory g c = λ every. c.try_key-refusal.ensures.memory (c.admit-admitted.ensures.all (c.hear.ensures.all every)).0

pub returns-else-is_none-clause-memory : goal.returns-else-is_none-clause-memory
returns-else-is_none-clause-memory g c = λ every. c.try_key-refusal.ensures.memory (c.admit-admitted.ensures.all every).0
