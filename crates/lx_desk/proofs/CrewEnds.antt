-- How a run of several operators ended, from its show and its crew.
use Rattle.lx_desk.proofs.Imports.{◌≡◌, inl, inr, ℕ, Option, Result, Ok, Err, IfSome, List, refl, sym}
use Rattle.lx_desk.proofs.Imports.{subst, arith, Rose, Lines, unread, Form, Crew, TextFault}
use Rattle.lx_desk.proofs.Imports.{fault_text, Reading, reads, Loaded, ShowFault, reading_of, HasRead, Status}
use Rattle.lx_desk.proofs.Imports.{RefusedBy, EndsJob, ServesOrWants, HasCrewEnded, WritesFirstLines, WritesCrewFront}
use Rattle.lx_desk.proofs.Imports.{◌∙◌, ap, same_Some, Some, None, EndsScript, HasCauseOf, NoOperatorFailed, OperatorFailed, HasCrewCause, ToldBySource}
use Rattle.lx_desk.specs.declared.desk.Status.TheVariants as status
use Rattle.lx_desk.proofs.Inputs.{IfSome_then, Says, all_known, both_known, crew_tells, front_nothing, means_of, over_all, read_fits, refusal_ended}
use Rattle.lx_desk.proofs.Inputs.{refusal_isnt_ok, show_over, unwritten_as}
use Rattle.lx_desk.proofs.Endings.{refusal_ends}
use Rattle.lx_desk.proofs.CrewRuns.{no_lines}

-- a crew over a show that was read
module _ {form : Form} {count : ℕ} {I S : Type 0} {told_in : ToldBySource I} {told : ToldBySource S} {a b : Lines I} {loaded : Loaded}
    {operators : List (Option S)} {h h' : Option (List ℕ)} (r : HasRead told_in a b form loaded) where
  pub crew_ended : {most : Option ℕ} {operators' : List (Option S)} {s : Status} → a.taken ≡ 0 → ServesOrWants most told loaded.show count operators operators' h h' s
      → (rest : Option (List ℕ)) → IfSome (unread told_in a) (λ x. HasCrewEnded most told count form x rest operators operators' h h' s)
  crew_ended none served rest = both_known (unread told_in a) r.means.text (read_fits r) (λ x read fits. elim served [
    | inl wants ↦ rw wants.0 (inl (record {
      isnt_ok = λ ok. absurd cc;
      isnt_live = λ live. absurd cc;
      ended = unwritten_as None (Crew count form) x h h' wants.1.0;
      untouched = wants.1.1;
    }))
    | inr answered ↦ inr (record { reading = reading_of loaded; read = read; within = omega (arith, none, fits); served = answered })
  ])

  pub crew_front : WritesFirstLines told loaded.show count operators h h'
      → IfSome (unread told_in a) (λ x. WritesCrewFront told count operators h h' (reads form x))
  crew_front front = IfSome_then (unread told_in a) r.means.text (λ x read.
      subst (λ r. WritesCrewFront told count operators h h' r) (sym read) front)

-- and over one that isn't
module _ (form : Form) (count : ℕ) where
  pub refused_ended : {I S : Type 0} (most : Option ℕ) (told_in : ToldBySource I) (told : ToldBySource S) (a b : Lines I)
      {h h' : Option (List ℕ)} (operators : List (Option S)) {fault : ShowFault} {s : Status}
      → a.taken ≡ 0 → Says form told_in a b fault → RefusedBy h h' fault s
      → IfSome (unread told_in a) (λ x. HasCrewEnded most told count form x (told_in.left b.source.now) operators operators h h' s)
  refused_ended most told_in told a b operators none says by = IfSome_then (unread told_in a)
      (refusal_ended None (over_all form told_in a b (Crew count form) (show_over (crew_tells form count)) none) says by) (λ x e. inl (record {
        isnt_ok = λ ok. refusal_isnt_ok ⊥ by ok;
        isnt_live = λ live. subst EndsJob live (refusal_ends by);
        ended = e;
        untouched = refl;
      }))

  pub nothing_front : {S : Type 0} (told : ToldBySource S) (h h' : Option (List ℕ)) (operators : List (Option S))
      (r : Result Reading TextFault) → h' ≡ h → WritesCrewFront told count operators h h' r
  nothing_front told h h' operators (Ok reading) kept = no_lines told reading.show count operators h h' kept
  nothing_front told h h' operators (Err fault) kept = rw kept (front_nothing h (fault_text fault))

  pub refused_front : {I S : Type 0} (told_in : ToldBySource I) (told : ToldBySource S) (a b : Lines I)
      {h h' : Option (List ℕ)} (operators : List (Option S)) {fault : ShowFault} {s : Status}
      → Says form told_in a b fault → RefusedBy h h' fault s
      → IfSome (unread told_in a) (λ x. WritesCrewFront told count operators h h' (reads form x))
  refused_front told_in told a b {h} {h'} operators says by = elim by [
    | inl t ↦ IfSome_then (unread told_in a) (means_of form told_in a b t says).text
        (λ x text. subst (λ r. WritesCrewFront told count operators h h' r) (sym text) t.front)
    | inr other ↦ all_known (unread told_in a) _ (λ x. nothing_front told h h' operators (reads form x) other.kept)
  ]

-- each fault of the outside has its cause, where the show was read
pub served_cause : {S : Type 0} (told : ToldBySource S) (s : Status) (reads reads' writes writes' count : ℕ)
    (operators operators' : List (Option S)) → reads' ≡ reads
    → EndsScript s → (s ≡ status.ReadFault → OperatorFailed told count operators operators')
    → (s ≡ status.Ok → NoOperatorFailed told count operators operators') → (s ≡ status.WriteFault → Rose writes writes')
    → HasCrewCause told s reads reads' writes writes' count operators operators'
served_cause told status.ReadFault reads reads' writes writes' count operators operators' kept works read none write = inr (kept, read refl)
served_cause told status.WriteFault reads reads' writes writes' count operators operators' kept works read none write = (write refl, kept)
served_cause told status.Memory reads reads' writes writes' count operators operators' kept works read none write = kept
served_cause told status.InputTooLong reads reads' writes writes' count operators operators' kept works read none write = kept
served_cause told status.Ok reads reads' writes writes' count operators operators' kept works read none write = none refl
served_cause told s reads reads' writes writes' count operators operators' kept works read none write = absurd works

-- and where it wasn't, as another job has it
pub refused_cause : {S : Type 0} (told : ToldBySource S) (s : Status) (reads reads' writes writes' count : ℕ) (operators : List (Option S))
    → HasCauseOf s reads reads' writes writes' → HasCrewCause told s reads reads' writes writes' count operators operators
refused_cause told status.ReadFault reads reads' writes writes' count operators c = inl (c.0, refl)
refused_cause told status.InputTooLong reads reads' writes writes' count operators c = c.0
refused_cause told status.ShowRefused reads reads' writes writes' count operators c = refl
refused_cause told status.Ok reads reads' writes writes' count operators c =
    λ place start new within at after. ap told.faults (same_Some new start (same_Some (Some new) (Some start) (sym after ∙ at)))
refused_cause told s reads reads' writes writes' count operators c = c
