use Rattle.lx_desk.proofs.Imports.{inl, inr, refl, sym, subst, arith, IsSome, length, ◌≤◌, opened, EachAt}
use Rattle.lx_desk.proofs.CrewRuns.{full_front, serves_none, serves_over}
use Rattle.lx_desk.proofs.Finishing.{rose_since}
use Rattle.lx_desk.proofs.PlacesInUse.{InUse, joined}
use Rattle.lx_desk.proofs.crew.serve.Goals as goal

pub crew_in-requires-clause-full : goal.crew_in-requires-clause-full
crew_in-requires-clause-full g c = λ κs bounds.
    subst (λ l. EachAt (λ k source. IsSome source) l) (sym c.split_at_mut-used.ensures.front)
    (full_front c.args.count c.args.operators.now c.requires.full)

pub returns-in_default : goal.returns-in_default
returns-in_default g c =
    serves_none refl refl c.requires.full c.in_default.ensures.cause.later (omega arith) (inl c.in_default.ensures.cause.failed)

pub returns-in-Ok-crew_in : goal.returns-in-Ok-crew_in
returns-in-Ok-crew_in g c =
    let s = c.split_at_mut-used.ensures in
    let e = c.in-Ok-crew_in.ensures in
    let most : c.args.count ≤ length c.args.operators.now = omega (arith, c.requires.most, c.requires.all) in
    let i : InUse c.args.count c.args.operators.now _ c.split_at_mut-used.result.1.now =
    record { front = s.front; count = s.front_len; back = s.back } in
    serves_over _ _ c.crew_in.new.operators i most c.requires.full c.in-Ok.ensures.cause.later e.later e.queues_later
    (λ known refused. e.crewed known refused (opened c.args.show) c.in-Ok.ensures.stands) e.cause e.handed_on c.status_of_crew.ensures

pub returns : goal.returns
returns g c =
    let s = c.split_at_mut-used.ensures in
    let err = c.in-Err.ensures.err in
    let i : InUse c.args.count c.args.operators.now _ c.split_at_mut-used.result.1.now =
    record { front = s.front; count = s.front_len; back = s.back } in
    serves_none (joined i _ err.1.1) err.1.0 c.requires.full (omega (arith, c.in-Ok.ensures.cause.later, c.in-Err.ensures.later))
    c.in-Err.ensures.queues_later (elim c.in-Err.ensures.memory [
      | inl refused ↦ inl (rose_since _ _ _ c.in-Ok.ensures.cause.later refused)
      | inr queue ↦ inr queue
    ])
