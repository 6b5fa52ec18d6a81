-- What the proofs of this crate import from its specs and from other crates. It declares nothing.
pub use Rattle.std.proofs.Common.{[], ℕ, ⊎_elim, ◌++◌, ◌+◌, ◌-◌, ◌<◌, ◌==◌, ◌^◌, ◌||◌, ◌∙◌, ◌∷◌, ◌≡◌}
pub use Rattle.std.proofs.Common.{◌≢◌, ◌≤◌, ◌⊎◌, add-one, ap, append-nil, append_assoc, arith, Bool, cond, drop, drop_of_length-le, eq-eqb}
pub use Rattle.std.proofs.Common.{Err, false, get_or, IfSome, inl, inr, is_some, IsSome, IsTrue, length, length-append, length-set, List, map, ne_eqb, None, Ok}
pub use Rattle.std.proofs.Common.{Option, option_copied, refl, Result, rules, set, slice_get, Some, subst, suc, sym, take, take-append-drop, take_all, true}
pub use Rattle.std.proofs.Common.{true≢false, vec_capacity, vec_len, zero}
pub use Rattle.crossbeam_queue.specs.Passes.{IsPassOf, IsSamePass, Pass, view}
pub use Rattle.lx_base.specs.Places.{EachAt}
pub use Rattle.lx_base.specs.declared.TheConstants.{INPUT_BYTES, LINE_BYTES}
pub use Rattle.lx_console.specs.ConsoleMeaning.{StandsFor}
pub use Rattle.lx_crew.specs.EngineAnswers.{AnsweredAll, AnsweredPart, AnswersNamed, entries_of, HasAnswered, IsDoneWithEntries, long_line, Marked, named_line}
pub use Rattle.lx_crew.specs.EngineAnswers.{NamedAnswer, OutputCause, said}
pub use Rattle.lx_crew.specs.Entries.{has_last, HasText, HaveLines, is_last, Numbered, of_place, text_in}
pub use Rattle.lx_crew.specs.OperatorWorks.{HasRunOperator, HasSentNothing, Hired, owned, Retired, Works}
pub use Rattle.lx_crew.specs.Rule.{AddsEntry, engine_view, FitsEngine, FitsOperator, FitsPass, KeepsOrder, Learned, operator_view, spent_view, Takes}
pub use Rattle.lx_crew.specs.Scripts.{AreLines, ScriptHasEnded}
pub use Rattle.lx_crew.specs.Transcripts.{AppendsAtLeast, all_but_last, CrewAllowsBy, HasStopped, last_alone, NoneFailed, text_to_last_name, WroteUnfailed}
pub use Rattle.lx_crew.specs.SentLines.{follows, HasSentLines, last_entry, TookNext}
pub use Rattle.lx_crew.specs.declared.entry.Message.{Message}
pub use Rattle.lx_crew.specs.declared.entry.Sent.{Sent}
pub use Rattle.lx_crew.specs.declared.entry.Sent.TheVariants.{End, InputTooLong, Line, LongLine, ReadFault}
pub use Rattle.lx_crew.specs.declared.fault.OperatorFault.{OperatorFault}
pub use Rattle.lx_crew.specs.declared.operator.Operator.{Operator}
pub use Rattle.lx_crew.specs.declared.rule.View.{View}
pub use Rattle.lx_io.specs.Causes.{Rose}
pub use Rattle.lx_io.specs.Puts.{AppendsFront, HasSinkCause}
pub use Rattle.lx_io.specs.declared.sink.SinkFault.{SinkFault}
pub use Rattle.lx_io.specs.Told.{ToldBySink, ToldBySource}
pub use Rattle.lx_lex.proofs.HandingOut.{handed_none, handed_one, handed_then}
pub use Rattle.lx_session.proofs.HeardLines.{extends_line, meaning_is}
pub use Rattle.lx_session.proofs.Refusals.{all_most, few_at, known_since, pays_on, take_at}
pub use Rattle.lx_session.specs.Spared.{failed_count, IsAmple, IsAtMost, RoseAtMost, RoseBy}
pub use Rattle.lx_session.specs.declared.tally.Tally.{Tally}
pub use Rattle.lx_spec.specs.CrewText.{after_entry, crew_answering, crew_session, crew_text, CrewEntry, Merged, MergedSoFar, named, numbered_from}
pub use Rattle.lx_spec.specs.CrewText.{of_operator, op_text}
pub use Rattle.lx_spec.specs.Desk.{Desk}
pub use Rattle.lx_spec.specs.DeskSession.{after_meaning, begun, DeskState, IsAcceptedEdit}
pub use Rattle.lx_spec.specs.Kept.{Kept}
pub use Rattle.lx_spec.specs.Script.{line_of}
pub use Rattle.lx_spec.specs.Session.{after_each, AreAllowed, begin_at, bytes_wanted, Counts, ends_script, is_quit, lines_wanted, Session, with_text}
pub use Rattle.std.proofs.Math.Seq.{take-append-add, take-append_seam, take-length}
pub use Rattle.std.proofs.lemmas.List.{length-map, length-replicate, length_push, map-append}
pub use Rattle.std.proofs.lemmas.List.Elements.{filter-append}
pub use Rattle.std.proofs.lemmas.Option.{slice_get-get_or, slice_get_read, slice_get_within}
pub use Rattle.std.proofs.lemmas.Slice.Zip.{AllZip-long}
pub use Rattle.std.specs.Io.KnownBytes.{Appends, IsAtEnd, Keeps}
pub use Rattle.std.specs.List.{All, AllByRecursion, AllZip}
pub use native.Mathlib.Decide.{ℕ_discrete, dec_le}
