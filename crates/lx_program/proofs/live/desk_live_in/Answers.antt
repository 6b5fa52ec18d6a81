use Rattle.lx_program.proofs.Imports.{inl, ap, refl, map, string_bytes, job_of}
use Rattle.std.proofs.Common.{inr, Err}
use Rattle.lx_program.proofs.JobWords.{of_any_run}
use Rattle.lx_program.proofs.NothingBegun.{keeps_outlets, none_lived}
use Rattle.lx_desk.specs.declared.desk.Status.TheVariants as status
use Rattle.lx_program.proofs.live.desk_live_in.Goals as goal

pub returns-in-Err-Memory-clause-ended : goal.returns-in-Err-Memory-clause-ended
returns-in-Err-Memory-clause-ended g c = λ known refused sent.
    of_any_run _ _ _
    (inr (λ universes form bytes. none_lived known g.K.Sink universes form bytes
    (g.S.Source.left c.args.input.now) (g.O.Sink.holds c.args.output.now) c.args.outlets.now))

pub returns-in-Err-Memory-clause-wanted : goal.returns-in-Err-Memory-clause-wanted
returns-in-Err-Memory-clause-wanted g c = λ is. inl (c.in-Err-Memory.ensures.cause.failed c.in-Err-Memory.field-0-is, (refl, (refl, (refl, (refl, refl)))))

pub returns-in-Ok-clause-wanted : goal.returns-in-Ok-clause-wanted
returns-in-Ok-clause-wanted g c = λ is. inr (c.run_live_in.ensures.wanted is)

pub returns-in-Err-Usage-clause-outlets : goal.returns-in-Err-Usage-clause-outlets
returns-in-Err-Usage-clause-outlets g c =
    keeps_outlets g.K.Sink (job_of (map string_bytes c.args.words.now)) status.Usage c.args.input.now c.args.output.now c.args.outlets.now (inl refl)
    (λ is. c.in-Err-Usage.ensures.usage (ap Err c.in-Err-Usage.field-0-is))

pub returns-in-Err-Memory-clause-outlets : goal.returns-in-Err-Memory-clause-outlets
returns-in-Err-Memory-clause-outlets g c =
    keeps_outlets g.K.Sink (job_of (map string_bytes c.args.words.now)) status.Memory c.args.input.now c.args.output.now c.args.outlets.now (inr refl)
    (λ is. cc)

pub returns-in-Err-Usage-clause-ended : goal.returns-in-Err-Usage-clause-ended
returns-in-Err-Usage-clause-ended g c = λ known refused sent. of_any_run _ _ _ (inl (c.in-Err-Usage.ensures.usage (ap Err c.in-Err-Usage.field-0-is)))

pub returns-in-Err-Usage-clause-order : goal.returns-in-Err-Usage-clause-order
returns-in-Err-Usage-clause-order g c = λ known refused sent. tt

pub returns-in-Err-Memory-clause-order : goal.returns-in-Err-Memory-clause-order
returns-in-Err-Memory-clause-order g c = λ known refused sent. inl (inl (refl, refl))

pub returns-in-Ok-clause-words_kept : goal.returns-in-Ok-clause-words_kept
returns-in-Ok-clause-words_kept g c = inl c.in-Ok.ensures.cause.kept

pub returns-in-Err-Usage-clause-words_kept : goal.returns-in-Err-Usage-clause-words_kept
returns-in-Err-Usage-clause-words_kept g c = inl (c.in-Err-Usage.ensures.cause.others (λ is. cc))

pub returns-in-Err-Memory-clause-words_kept : goal.returns-in-Err-Memory-clause-words_kept
returns-in-Err-Memory-clause-words_kept g c = inr (refl, (refl, (refl, (refl, (refl, refl)))))

pub returns-in-Ok-clause-outlets : goal.returns-in-Ok-clause-outlets
returns-in-Ok-clause-outlets g c = rw c.in-Ok.ensures.run c.run_live_in.ensures.outlets

pub returns-in-Ok-clause-ended : goal.returns-in-Ok-clause-ended
returns-in-Ok-clause-ended g c = λ known refused sent. rw c.in-Ok.ensures.run (c.run_live_in.ensures.ended known refused sent)

pub returns-in-Ok-clause-order : goal.returns-in-Ok-clause-order
returns-in-Ok-clause-order g c = λ known refused sent. rw c.in-Ok.ensures.run (c.run_live_in.ensures.order known refused sent)

pub returns-in-Ok-clause-usage : goal.returns-in-Ok-clause-usage
returns-in-Ok-clause-usage g c = λ is. absurd (c.run_live_in.ensures.outlets.0 is)
