use Rattle.lx_script.proofs.Imports.{sym, ◌∙◌, ap, option_and_then, left, sentence_of}
use Rattle.lx_script.proofs.FirstWords.{meaning_is}
use Rattle.lx_script.proofs.ReadLines.{not_history}
use Rattle.lx_script.proofs.undo_line.by_word.Goals as goal

pub returns-in-Some : goal.returns-in-Some
returns-in-Some c =
    let line = c.args.line.now in
    let first = c.args.first.now in
    let rest = left c.args.rest in
    let found = sym c.in-Some.ensures in (
      not_history first c.in-Some.word rest found,
      c.sentence.ensures ∙ sym (meaning_is line first rest ∙ ap (option_and_then (λ word. sentence_of line word rest)) found),
    )
