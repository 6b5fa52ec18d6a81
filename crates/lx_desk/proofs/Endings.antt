-- What holds where a job ended, from what holds at each status.
use Rattle.lx_desk.proofs.Imports.{◌≡◌, true, false, Option, IfSome, List, ℕ, ◌-◌, refl, sym, ap, subst, ◌∙◌, arith}
use Rattle.lx_desk.proofs.Imports.{[], length, AppendsFront, Appends, AppendsFront-from, Lines, unread, Form, Job, Make, Script, ScriptKind}
use Rattle.lx_desk.proofs.Imports.{answering_of, opening_of, Reading, IsOk, Loaded, ShowFault, reading_of, HasRead, Status, RefusedBy, EndsJob}
use Rattle.lx_desk.proofs.Imports.{EndsScript, HasEndedBy, WritesAll, WritesFront, WritesPrefix, WritesTaken, None, Result, Ok, Err, TextFault}
use Rattle.lx_desk.proofs.Imports.{ToldBySink, ToldBySource, Tells, Render, Live, Undo, Two, desk_lawful, first_of_whole, first_replies}
use Rattle.lx_desk.proofs.Imports.{output_of, over_show, script_session, script_of, fault_text, lines_of, lines_read, reads}
use Rattle.lx_session.specs.OneAnswer.{IsLawful}
use Rattle.lx_lists.proofs.TwoAnswers.{two_lawful}
use Rattle.lx_undo.proofs.Lawful.{undo_lawful}
use Rattle.lx_desk.specs.declared.desk.Status.TheVariants as status
use Rattle.lx_desk.proofs.Inputs.{IfSome_then, IsOfShow, by_kind, both_known, none_of_job, no_failures, read_fits, refused_as, unwritten_as, whole_front}

-- a script's end is that of a job
pub script_job : (s : Status) → EndsScript s → EndsJob s
script_job status.ShowRefused ends = tt
script_job s ends = ends

pub refusal_ends : {h h' : Option (List ℕ)} {fault : ShowFault} {s : Status} → RefusedBy h h' fault s → EndsJob s
refusal_ends by = refused_as EndsJob by tt tt tt tt tt

-- However a job ended, a prefix of its text was written.
lawful_of : (kind : ScriptKind) → IsLawful (answering_of kind)
lawful_of Render = desk_lawful true
lawful_of (Live universes) = desk_lawful false
lawful_of Undo = undo_lawful
lawful_of Two = two_lawful

replies_front : (kind : ScriptKind) (x : List ℕ) (failures : List (Option ℕ)) (n : ℕ) (h h' : Option (List ℕ)) (r : Result Reading TextFault)
    → Appends h h' (first_replies kind x failures n r)
    → AppendsFront h h' (over_show r (λ reading. (script_session kind x failures reading).text))
replies_front kind x failures n h h' (Ok reading) p =
    first_of_whole (answering_of kind) (lawful_of kind) (opening_of kind reading.show) (script_of x) failures n h h' p
replies_front kind x failures n h h' (Err fault) p = AppendsFront-from h h' (fault_text fault) 0 p

taken_front : (job : Job) (x : List ℕ) (left h h' : Option (List ℕ)) → WritesTaken None job x left h h' → WritesPrefix job x h h'
taken_front (Script kind form) x left h h' a = record {
  failures = a.failures;
  allows = a.allows;
  text = replies_front kind x a.failures (a.cut.lines - lines_read (lines_of x)) h h' (reads form x) a.text;
}
taken_front (Make n) x left h h' kept = unwritten_as None (Make n) x h h' kept
taken_front job x left h h' a = unwritten_as None job x h h' a.kept

all_front : (job : Job) (x : List ℕ) (h h' : Option (List ℕ)) → WritesAll None job x h h' → WritesPrefix job x h h'
all_front job x h h' a = record { failures = a.failures; allows = a.allows; text = whole_front h h' _ a.text }

pub ended_front : (job : Job) (x : List ℕ) (left h h' : Option (List ℕ)) (s : Status) → EndsJob s → HasEndedBy None s job x left h h'
    → WritesPrefix job x h h'
ended_front job x left h h' status.Ok ends e = all_front job x h h' e.0.text
ended_front job x left h h' status.ShowRefused ends e = all_front job x h h' e.0.text
ended_front job x left h h' status.ReadFault ends e = taken_front job x left h h' e
ended_front job x left h h' status.InputTooLong ends e = taken_front job x left h h' e.0
ended_front job x left h h' status.WriteFault ends e = e
ended_front job x left h h' status.Memory ends e = e
ended_front job x left h h' s ends e = absurd ends

-- What is told of a show that was read.
module _ {S K : Type 0} {form : Form} {told_in : ToldBySource S} {told : ToldBySink K} {a b : Lines S} {loaded : Loaded} {job : Job}
    {f : Reading → List ℕ} {refusals refusals' : ℕ} {output output' : K} {s : Status} (tells : IsOfShow form job f) (none : a.taken ≡ 0)
    (r : HasRead told_in a b form loaded) (t : Tells told refusals refusals' status.Ok (f (reading_of loaded)) output output' s) where
  output_is : (x : List ℕ) → reads form x ≡ Ok (reading_of loaded) → output_of job x [] ≡ f (reading_of loaded)
  output_is x read = tells.output x ∙ ap (λ r. over_show r f) read

  pub told_ended : (most : Option ℕ) (rest : Option (List ℕ))
      → IfSome (unread told_in a) (λ x. HasEndedBy most s job x rest (told.holds output) (told.holds output'))
  told_ended most rest =
      let h = told.holds output in
      let h' = told.holds output' in
      let m = r.means in
      let front : IfSome (unread told_in a) (λ x. WritesFront most job x h h') = IfSome_then (unread told_in a) m.text (λ x read. record {
        failures = [];
        allows = none_of_job most job x (no_failures job x);
        text = subst (λ (v : List ℕ). AppendsFront h h' v) (sym (output_is x read)) t.front;
      }) in
      by_kind status.Ok s (λ v. (v ≡ status.Ok → Appends h h' (f (reading_of loaded)))
      → IfSome (unread told_in a) (λ x. HasEndedBy most v job x rest h h')) t.kinds
      (λ whole. both_known (unread told_in a) m.text (read_fits r) (λ x read fit. (
        record {
          text = record {
            failures = [];
            allows = none_of_job most job x (no_failures job x);
            text = subst (λ (v : List ℕ). Appends h h' v) (sym (output_is x read)) (whole refl);
          };
          within = omega (arith, none, fit, ap length (tells.bytes x));
        },
        subst (λ (q : Result Reading TextFault). IsOk q) (sym (tells.show x ∙ read)) refl,
      ))) (λ whole. front) (λ whole. front) t.whole
