-- What the contracts import, of this crate and of others. Nothing is defined here.
pub use Rattle.std.specs.List.{list_any}
pub use Rattle.lx_base.specs.Places.{EachAt}
pub use Rattle.lx_desk.specs.Crew.{HandsOn, HasCrewCause, HasCrewEnded, KeepsOperators, TakesNoneOrWants, WritesCrewFront}
pub use Rattle.lx_desk.specs.Endings.{AnswersWords, HasCauseOf, HasEnded, HasEndedBy}
pub use Rattle.lx_desk.specs.Finished.{Finishes, HasWanted}
pub use Rattle.lx_desk.specs.Live.{any_memory, ByLiveMemory, DecidesInOrder, HasLiveCause, HasLived, KeepsOutlets, LivesToEnd}
pub use Rattle.lx_desk.specs.Output.{WritesPrefix}
pub use Rattle.lx_session.specs.Spared.{ByRefusals}
pub use Rattle.lx_spec.specs.Job.{counted_job, form_of, job_of, number_alone, plain_number}
pub use Rattle.lx_spec.specs.Phrase.{ended}
pub use Rattle.lx_spec.specs.Reading.{reads}
pub use Rattle.lx_workers.specs.Places.{IsFull}
pub use Rattle.lx_program.specs.NamedJob.{in_use, JobInRange, NamesNoCrew, NamesNoRun, OfCrew, OfJob, OfRun}
pub use Rattle.lx_program.specs.Wants.{ReadsWordsOnce, WantsCrewOrWords, WantsMemoryOrWords, WantsRunOrWords}
pub use Rattle.lx_program.specs.Words.{begins_with_dash}
