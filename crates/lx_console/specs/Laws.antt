-- Laws of consoles over replays: what holds after every list of commands.
use Rattle.std.specs.Prelude.{◌≡◌, Result, List, [], ◌∷◌, ◌++◌, OnErr, MatchResult}
use Rattle.lx_spec.specs.declared.Command.{Command}
use Rattle.lx_spec.specs.declared.Refusal.{Refusal}
use Rattle.lx_spec.specs.Show.{Show}
use Rattle.lx_spec.specs.Desk.{replay}
use Rattle.lx_spec.specs.Kept.{Kept, kept}
use Rattle.lx_console.specs.ConsoleMeaning.{StandsFor, Obeys, Answers}

-- A console that is all of a replayed desk but its list of runs stands for it. Where it obeys one more command, and a refusal leaves it
-- unchanged, it stands for the replay of the commands with this one. Where it answers a command, it does so if the command is accepted, and
-- else it stands for the replay of the commands before.
pub record LawOfReplays : Type 0 where
  pub stands : (show : Show) (done : List Command) (console : Kept) → console ≡ kept (replay show done)
      → StandsFor (replay show done) console
  pub obeys : (show : Show) (done : List Command) (command : Command) (answer : Result (Unit {0}) Refusal) (before now : Kept)
      → StandsFor (replay show done) before → Obeys (replay show done) command answer now → OnErr answer (now ≡ before)
      → StandsFor (replay show (done ++ command ∷ [])) now
  pub answers : (show : Show) (done : List Command) (command : Command) (answer : Result (Unit {0}) Refusal) (before now : Kept)
      → StandsFor (replay show done) before → Answers (replay show done) command answer now → OnErr answer (now ≡ before)
      → MatchResult answer (λ x. StandsFor (replay show (done ++ command ∷ [])) now) (λ refusal. StandsFor (replay show done) now)
