use Rattle.lx_desk.proofs.Imports.{◌≤◌, inl, inr, length, refl, sym, ap, subst, arith, Kept, IsFull}
use Rattle.lx_desk.proofs.Finishing.{rose_since}
use Rattle.lx_desk.proofs.LiveRuns.{full_take, none_plays, run_plays}
use Rattle.lx_desk.proofs.PlacesInUse.{InUse, joined}
use Rattle.lx_desk.proofs.live.play_live.Goals as goal

pub play_in-requires-clause-full : goal.play_in-requires-clause-full
play_in-requires-clause-full g c = λ κs bounds. subst (λ l. IsFull l) (sym c.split_at_mut-used.ensures.front) (full_take _ _ c.requires.full)

pub returns-in_default-clause-plays : goal.returns-in_default-clause-plays
returns-in_default-clause-plays g c =
    none_plays refl refl refl c.in_default.ensures.cause.later (omega arith) (inl c.in_default.ensures.cause.failed)

pub returns-in-Ok-play_in-clause-plays : goal.returns-in-Ok-play_in-clause-plays
returns-in-Ok-play_in-clause-plays g c =
    let s = c.split_at_mut-used.ensures in
    let e = c.in-Ok-play_in.ensures in
    let most : c.args.universes ≤ length c.args.outlets.now = omega (arith, c.requires.most, c.requires.all) in
    let i : InUse c.args.universes c.args.outlets.now _ c.split_at_mut-used.result.1.now =
    record { front = s.front; count = s.front_len; back = s.back } in
    rw (sym (ap (λ (k : Kept). k.show) c.in-Ok.ensures.stands.same)) (run_plays _ _ c.play_in.new.outlets i most c.requires.full
    c.in-Ok.ensures.cause.later e.later e.writers_later e.played e.sent e.limit e.cause e.handed_on c.status_of_run.ensures)

pub returns-clause-plays : goal.returns-clause-plays
returns-clause-plays g c =
    let s = c.split_at_mut-used.ensures in
    let err = c.in-Err.ensures.err in
    let i : InUse c.args.universes c.args.outlets.now _ c.split_at_mut-used.result.1.now =
    record { front = s.front; count = s.front_len; back = s.back } in
    none_plays err.1.0 err.1.1.0 (joined i _ err.1.1.1) (omega (arith, c.in-Ok.ensures.cause.later, c.in-Err.ensures.later))
    c.in-Err.ensures.writers_later (elim c.in-Err.ensures.memory [
      | inl refused ↦ inl (rose_since _ _ _ c.in-Ok.ensures.cause.later refused)
      | inr writer ↦ inr writer
    ])
