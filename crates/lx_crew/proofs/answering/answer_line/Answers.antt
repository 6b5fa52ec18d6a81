use Rattle.lx_crew.proofs.Imports.{inl, inr, refl, [], op_text, with_text, named_line}
use Rattle.lx_crew.proofs.answering.answer_line.Goals as goal

pub returns-in-Err-clause-answered : goal.returns-in-Err-clause-answered
returns-in-Err-clause-answered g c = λ s stands counted. inl (refl, c.in-Err.ensures.part, stands)

pub returns-in-Ok-clause-answered : goal.returns-in-Ok-clause-answered
returns-in-Ok-clause-answered g c = λ s stands counted.
    inr (record {
      between = c.put_name.new.sink;
      named = c.in-Ok.ensures.whole;
      none_failed = c.in-Ok.ensures.cause.kept;
      answer = c.answer_in.ensures.answered (with_text s (op_text (named_line c.args.place c.args.number []))) stands counted;
    })
