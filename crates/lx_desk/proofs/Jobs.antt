-- What a job over the show of an input does, from what its calls came to.
use Rattle.lx_desk.proofs.Imports.{◌≡◌, ◌≢◌, ◌≤◌, ℕ, Option, List, IfSome, subst, Lines, unread, Form, Job}
use Rattle.lx_desk.proofs.Imports.{Script, ScriptKind, answering_of, opening_of, Reading, Loaded, ShowFault, reading_of, HasRead, Status}
use Rattle.lx_desk.proofs.Imports.{Accounts, AnswersJob, at_once, ByRefusals, EndsJob, HasEndedBy, inl, inr, None, Some, Does, Plays, Refuses}
use Rattle.lx_desk.proofs.Imports.{Tells, ToldBySink, ToldBySource, Rose, known_since}
use Rattle.lx_reader.specs.declared.fault.ShowFault.TheVariants as shows
use Rattle.lx_desk.specs.declared.desk.Status.TheVariants as status
use Rattle.lx_desk.proofs.Inputs.{IfSome_then, IsOver, IsOfShow, Says, by_kind, over_all, over_loaded, refusal_ended, script_ended}
use Rattle.lx_desk.proofs.Endings.{ended_front, refusal_ends, script_job, told_ended}
use Rattle.lx_desk.proofs.Finishing.{accounts_since, refused_accounts}

-- What a job does whose lines are then the last ones, from how it ended and what its counts tell.
module _ {S K : Type 0} (told_in : ToldBySource S) {told : ToldBySink K} {first : ℕ} {input : S} (a : Lines S) {output output' : K} {s : Status}
    (from : a.source.now ≡ input) (is : unread told_in a ≡ told_in.left input) where
  does : {after : ℕ} {job : Job} {v : S} (last : Lines S) → v ≡ last.source.now → EndsJob s
      → ByRefusals first after (λ most. IfSome (unread told_in a) (λ x. HasEndedBy most s job x (told_in.left last.source.now)
      (told.holds output) (told.holds output')))
      → Accounts told first after (told_in.faults a.source.now) (told_in.faults last.source.now) output output' s
      → Does told first after job (told_in.left input) (told_in.left v) (told_in.faults input) (told_in.faults v) output output' s
  does {job} last same works ended accounts = rw (same, ← is, ← from) (record {
    works = works;
    ended = ended;
    prefix = IfSome_then (unread told_in a) (ended None tt)
        (λ x e. ended_front job x (told_in.left last.source.now) (told.holds output) (told.holds output') s works e);
    accounts = accounts;
  })

-- Over the lines of an input that were read from a first place to a second, in this form. The input is left as the last lines have it.
module _ {S K : Type 0} (told_in : ToldBySource S) {told : ToldBySink K} {first before : ℕ} {form : Form} {input : S} (a b : Lines S)
    {output output' : K} {s : Status} (from : a.source.now ≡ input) (is : unread told_in a ≡ told_in.left input) (none : a.taken ≡ 0) where
  -- it tells of the show alone
  pub told_does : {after : ℕ} {job : Job} {f : Reading → List ℕ} {loaded : Loaded} {v : S} → IsOfShow form job f
      → HasRead told_in a b form loaded → v ≡ b.source.now → told_in.faults b.source.now ≡ told_in.faults a.source.now → first ≤ before
      → Tells told before after status.Ok (f (reading_of loaded)) output output' s
      → Does told first after job (told_in.left input) (told_in.left v) (told_in.faults input) (told_in.faults v) output output' s
  told_does tells r same kept held t = does told_in a from is b same (by_kind status.Ok s EndsJob t.kinds tt tt tt)
      (λ most known. told_ended tells none r t most (told_in.left b.source.now))
      (accounts_since held kept (t.accounts (told_in.faults b.source.now)))

  -- the show isn't read
  pub refused_does : {job : Job} {v : S} {fault : ShowFault} → ((x : List ℕ) (left : Option (List ℕ)) → IsOver form job x x left left)
      → Says form told_in a b fault → v ≡ b.source.now
      → (fault ≡ shows.ReadFault → Rose (told_in.faults a.source.now) (told_in.faults b.source.now))
      → (fault ≢ shows.ReadFault → told_in.faults b.source.now ≡ told_in.faults a.source.now) → (fault ≡ shows.Memory → Rose first before)
      → first ≤ before → Refuses told fault output output' s
      → Does told first before job (told_in.left input) (told_in.left v) (told_in.faults input) (told_in.faults v) output output' s
  refused_does {job} over says same read kept short held t = does told_in a from is b same (refusal_ends t.refused)
      (λ most known. refusal_ended most (over_all form told_in a b job over none) says t.refused) (refused_accounts t read kept short held)

  -- it plays the script that follows, to where the lines are then
  pub played_does : {after : ℕ} {kind : ScriptKind} {loaded : Loaded} {d : Lines S} {v : S} → HasRead told_in a b form loaded
      → v ≡ d.source.now → told_in.faults b.source.now ≡ told_in.faults a.source.now → first ≤ before
      → Plays told_in told before after (answering_of kind) (opening_of kind loaded.show) b d output output' s
      → Does told first after (Script kind form) (told_in.left input) (told_in.left v) (told_in.faults input) (told_in.faults v) output output' s
  played_does {after} {kind} {d} r same kept held p = does told_in a from is d same (script_job s p.works)
      (λ most known. over_loaded r none (p.ended most (known_since most first before after held known))
      (λ x y v q. script_ended v most kind (told_in.left d.source.now) (told.holds output) (told.holds output') s q))
      (accounts_since held kept p.accounts)

-- a job that is done here is answered by how it ended
pub done_here : {I O : Type 0} {job named : Job} {s : Status} {input input' : I} {output output' : O} → job ≡ named → at_once (Some named) ≡ None
    → EndsJob s → AnswersJob job s input input' output output'
done_here is here ends = rw is (record {
  at = rw here tt;
  only = λ which. elim which [ inl usage ↦ absurd (subst EndsJob usage ends) | inr live ↦ absurd (subst EndsJob live ends) ];
})
