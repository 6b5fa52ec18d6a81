use Rattle.lx_program.proofs.Imports.{◌≡◌, map, string_bytes, refl, inl, Option, Some, None, IfSome, Job, Script, Crew, Live, job_of, unwritten}
use Rattle.std.proofs.Common.{◌⊎◌, inr}
use Rattle.std.proofs.lemmas.Option.{IfSome_then}
use Rattle.lx_desk.specs.Endings.{AnswersJob, AnswersWords, at_once}
use Rattle.lx_desk.specs.declared.desk.Status.{Status}
use Rattle.lx_desk.specs.declared.desk.Status.TheVariants as status
use Rattle.lx_program.proofs.JobWords.{of_each_job}
use Rattle.lx_program.proofs.calls.desk_in.Goals as goal

-- Memory is an answer to any words, where nothing was read or written
if_any : (o : Option Status) (P : Status → Type 0) → ((s : Status) → P s) → IfSome o P
if_any None P p = tt
if_any (Some s) P p = p s

unread : {I O : Type 0} (job : Option Job) (input : I) (output : O) → AnswersWords job status.Memory input input output output
unread job input output = record {
  at = if_any (at_once job) (λ answer. ((status.Memory ≡ answer) ⊎ (status.Memory ≡ status.Memory)) × ((input ≡ input) × (output ≡ output)))
      (λ answer. (inr refl, (refl, refl)));
  only = λ is. elim is [ inl usage ↦ absurd cc | inr live ↦ absurd cc ];
}

-- and what a job is answered with is an answer to the words that name it
as_words : {I O : Type 0} (job : Job) {s : Status} {input input' : I} {output output' : O} → AnswersJob job s input input' output output'
    → AnswersWords (Some job) s input input' output output'
as_words job w = record { at = IfSome_then (at_once (Some job)) w.at (λ answer a. (inl a.0, a.1)); only = w.only }

-- no job is answered as words that name none
never_usage : {P : Type 0} (job : Job) (s : Status) → s ≡ status.Usage → at_once (Some job) ≡ Some s → P
never_usage (Script (Live universes) form) s is told = absurd cc
never_usage (Crew operators form) s is told = absurd cc
never_usage other s is told = absurd cc

pub returns-in-Ok-clause-words : goal.returns-in-Ok-clause-words
returns-in-Ok-clause-words g c = rw c.in-Ok.ensures.job (as_words _ c.run_job_in.ensures.answered)

pub returns-in-Err-Memory-clause-words : goal.returns-in-Err-Memory-clause-words
returns-in-Err-Memory-clause-words g c = unread (job_of (map string_bytes c.args.words.now)) c.args.input.now c.args.output.now

pub returns-in-Ok-clause-ended : goal.returns-in-Ok-clause-ended
returns-in-Ok-clause-ended g c = rw c.in-Ok.ensures.job c.run_job_in.ensures.ended

pub returns-in-Ok-clause-prefix : goal.returns-in-Ok-clause-prefix
returns-in-Ok-clause-prefix g c = rw c.in-Ok.ensures.job c.run_job_in.ensures.prefix

pub returns-in-Err-Memory-clause-ended : goal.returns-in-Err-Memory-clause-ended
returns-in-Err-Memory-clause-ended g c =
    of_each_job (job_of (map string_bytes c.args.words.now)) (g.S.Source.left c.args.input.now) _
    (λ job bytes. unwritten None job bytes (g.K.Sink.holds c.args.output.now))

pub returns-in-Err-Memory-clause-prefix : goal.returns-in-Err-Memory-clause-prefix
returns-in-Err-Memory-clause-prefix g c =
    of_each_job (job_of (map string_bytes c.args.words.now)) (g.S.Source.left c.args.input.now) _
    (λ job bytes. unwritten None job bytes (g.K.Sink.holds c.args.output.now))

pub returns-in-Ok-clause-spared : goal.returns-in-Ok-clause-spared
returns-in-Ok-clause-spared g c = λ most known. rw c.in-Ok.ensures.job (c.run_job_in.ensures.spared most known)

pub returns-in-Ok-clause-wanted : goal.returns-in-Ok-clause-wanted
returns-in-Ok-clause-wanted g c = λ is. inr (c.run_job_in.ensures.wanted is)

pub returns-in-Err-Memory-clause-spared : goal.returns-in-Err-Memory-clause-spared
returns-in-Err-Memory-clause-spared g c = λ most known.
    of_each_job (job_of (map string_bytes c.args.words.now)) (g.S.Source.left c.args.input.now) _
    (λ job bytes. unwritten most job bytes (g.K.Sink.holds c.args.output.now))

pub returns-in-Err-Memory-clause-wanted : goal.returns-in-Err-Memory-clause-wanted
returns-in-Err-Memory-clause-wanted g c = λ is. inl (c.in-Err-Memory.ensures.cause.failed c.in-Err-Memory.field-0-is, (refl, (refl, refl)))

pub returns-in-Ok-clause-words_kept : goal.returns-in-Ok-clause-words_kept
returns-in-Ok-clause-words_kept g c = inl c.in-Ok.ensures.cause.kept

pub returns-in-Err-Usage-clause-words_kept : goal.returns-in-Err-Usage-clause-words_kept
returns-in-Err-Usage-clause-words_kept g c = inl (c.in-Err-Usage.ensures.cause.others (λ is. cc))

pub returns-in-Err-Memory-clause-words_kept : goal.returns-in-Err-Memory-clause-words_kept
returns-in-Err-Memory-clause-words_kept g c = inr (refl, (refl, (refl, refl)))

pub returns-in-Ok-clause-usage : goal.returns-in-Ok-clause-usage
returns-in-Ok-clause-usage g c = λ is. never_usage _ _ is (c.run_job_in.ensures.answered.only (inl is))
