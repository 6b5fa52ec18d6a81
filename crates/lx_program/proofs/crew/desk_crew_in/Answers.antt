use Rattle.lx_program.proofs.Imports.{inl, ap, refl, None, map, string_bytes, job_of}
use Rattle.std.proofs.Common.{inr, Err}
use Rattle.lx_spec.specs.Reading.{reads}
use Rattle.lx_desk.proofs.CrewEnds.{nothing_front}
use Rattle.lx_program.proofs.JobWords.{of_any_crew}
use Rattle.lx_program.proofs.NothingBegun.{keeps_operators, none_served}
use Rattle.lx_desk.specs.declared.desk.Status.TheVariants as status
use Rattle.lx_program.proofs.crew.desk_crew_in.Goals as goal

pub returns-in-Err-Memory-clause-prefix : goal.returns-in-Err-Memory-clause-prefix
returns-in-Err-Memory-clause-prefix g c =
    of_any_crew (job_of (map string_bytes c.args.words.now)) (g.I.Source.left c.args.input.now) _
    (inr (λ count form bytes. nothing_front form count g.S.Source (g.K.Sink.holds c.args.output.now) (g.K.Sink.holds c.args.output.now)
    c.args.operators.now (reads form bytes) refl))

pub returns-in-Err-Memory-clause-ended : goal.returns-in-Err-Memory-clause-ended
returns-in-Err-Memory-clause-ended g c =
    of_any_crew _ _ _
    (inr (λ count form bytes. none_served None g.S.Source count form bytes (g.I.Source.left c.args.input.now)
    (g.K.Sink.holds c.args.output.now) c.args.operators.now))

pub returns-in-Err-Memory-clause-spared : goal.returns-in-Err-Memory-clause-spared
returns-in-Err-Memory-clause-spared g c = λ most known.
    of_any_crew _ _ _
    (inr (λ count form bytes. none_served most g.S.Source count form bytes (g.I.Source.left c.args.input.now)
    (g.K.Sink.holds c.args.output.now) c.args.operators.now))

pub returns-in-Err-Memory-clause-wanted : goal.returns-in-Err-Memory-clause-wanted
returns-in-Err-Memory-clause-wanted g c = λ is. inl (c.in-Err-Memory.ensures.cause.failed c.in-Err-Memory.field-0-is, (refl, (refl, (refl, (refl, refl)))))

pub returns-in-Ok-clause-wanted : goal.returns-in-Ok-clause-wanted
returns-in-Ok-clause-wanted g c = λ is. inr (c.run_crew_in.ensures.wanted is)

pub returns-in-Err-Usage-clause-words : goal.returns-in-Err-Usage-clause-words
returns-in-Err-Usage-clause-words g c =
    keeps_operators (job_of (map string_bytes c.args.words.now)) status.Usage c.args.input.now c.args.output.now c.args.operators.now (inl refl)
    (λ is. c.in-Err-Usage.ensures.usage (ap Err c.in-Err-Usage.field-0-is)) c.requires.full

pub returns-in-Err-Memory-clause-words : goal.returns-in-Err-Memory-clause-words
returns-in-Err-Memory-clause-words g c =
    keeps_operators (job_of (map string_bytes c.args.words.now)) status.Memory c.args.input.now c.args.output.now c.args.operators.now (inr refl)
    (λ is. cc) c.requires.full

pub returns-in-Err-Usage-clause-ended : goal.returns-in-Err-Usage-clause-ended
returns-in-Err-Usage-clause-ended g c = of_any_crew _ _ _ (inl (c.in-Err-Usage.ensures.usage (ap Err c.in-Err-Usage.field-0-is)))

pub returns-in-Err-Usage-clause-spared : goal.returns-in-Err-Usage-clause-spared
returns-in-Err-Usage-clause-spared g c = λ most known. of_any_crew _ _ _ (inl (c.in-Err-Usage.ensures.usage (ap Err c.in-Err-Usage.field-0-is)))

pub returns-in-Err-Usage-clause-prefix : goal.returns-in-Err-Usage-clause-prefix
returns-in-Err-Usage-clause-prefix g c = of_any_crew _ _ _ (inl (c.in-Err-Usage.ensures.usage (ap Err c.in-Err-Usage.field-0-is)))

pub returns-in-Ok-clause-words_kept : goal.returns-in-Ok-clause-words_kept
returns-in-Ok-clause-words_kept g c = inl c.in-Ok.ensures.cause.kept

pub returns-in-Err-Usage-clause-words_kept : goal.returns-in-Err-Usage-clause-words_kept
returns-in-Err-Usage-clause-words_kept g c = inl (c.in-Err-Usage.ensures.cause.others (λ is. cc))

pub returns-in-Err-Memory-clause-words_kept : goal.returns-in-Err-Memory-clause-words_kept
returns-in-Err-Memory-clause-words_kept g c = inr (refl, (refl, (refl, (refl, (refl, refl)))))

pub returns-in-Ok-clause-usage : goal.returns-in-Ok-clause-usage
returns-in-Ok-clause-usage g c = λ is. absurd (c.run_crew_in.ensures.words.0 is)
