use Rattle.lx_script.proofs.Imports.{◌∙◌}
use Rattle.lx_script.proofs.WordLengths.{of_length}
use Rattle.lx_script.proofs.first_word.first_word.Goals as goal

pub returns-in-3 : goal.returns-in-3
returns-in-3 c = c.find_word-in-3.ensures ∙ of_length 3 c.args.token.now c.in-3.is

pub returns-in-4 : goal.returns-in-4
returns-in-4 c = c.find_word-in-4.ensures ∙ of_length 4 c.args.token.now c.in-4.is

pub returns-in-5 : goal.returns-in-5
returns-in-5 c = c.find_word-in-5.ensures ∙ of_length 5 c.args.token.now c.in-5.is

pub returns-in-6 : goal.returns-in-6
returns-in-6 c = c.find_word-in-6.ensures ∙ of_length 6 c.args.token.now c.in-6.is

pub returns-in-7 : goal.returns-in-7
returns-in-7 c = c.find_word-in-7.ensures ∙ of_length 7 c.args.token.now c.in-7.is

pub returns-in-8 : goal.returns-in-8
returns-in-8 c = c.find_word-in-8.ensures ∙ of_length 8 c.args.token.now c.in-8.is
