use Rattle.lx_program.proofs.Imports.{◌∙◌, map, sym, string_bytes}
use Rattle.lx_program.proofs.DashedWords.{no_job}
use Rattle.lx_program.proofs.words.words_of_in.Goals as goal

pub returns-then-has_dash-clause-usage : goal.returns-then-has_dash-clause-usage
returns-then-has_dash-clause-usage c = λ is. no_job (map string_bytes c.args.words.now) (sym c.has_dash.ensures ∙ c.if-has_dash.true)
