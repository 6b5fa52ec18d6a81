use Rattle.lx_record.proofs.Imports.{◌≡◌, ◌∙◌, ap, arith, false≢true, IfSome, Cue, level_now}
use Rattle.std.proofs.lemmas.Option.{IfSome_then}
use Rattle.lx_record.proofs.RecordAnswer.{Goes, HasRoom, has_room, accepted, above_goes, wants}
use Rattle.lx_record.proofs.RecordedCues.{recorded_number}
use Rattle.lx_record.proofs.record.recorded_cues.Goals as goal

pub returns-in_err-cue-clause-records : goal.returns-in_err-cue-clause-records
returns-in_err-cue-clause-records g c =
    wants _ _ c.from_residual.result _ (accepted (level_now c.args.console.now) c.args.only (has_room c.show-before.ensures
    c.has_room_for.ensures.valid c.has_room_for.ensures.room c.if-not-has_room_for.false)) c.from_residual.ensures.1

pub returns-in_err-above-clause-records : goal.returns-in_err-above-clause-records
returns-in_err-above-clause-records g c =
    wants _ _ c.from_residual-in_err-above.result _ (accepted (level_now c.args.console.now) c.args.only (has_room c.show-before.ensures
    c.has_room_for.ensures.valid c.has_room_for.ensures.room c.if-not-has_room_for.false)) c.from_residual-in_err-above.ensures.1

pub returns-clause-ready : goal.returns-clause-ready
returns-clause-ready g c =
    let show = c.args.console.now.show in
    let levels = level_now c.args.console.now in
    let r : HasRoom show c.args.n =
    has_room c.show-before.ensures c.has_room_for.ensures.valid c.has_room_for.ensures.room c.if-not-has_room_for.false in
    let number : c.in_ok-cue.cue.number ≡ c.args.n = ap (λ (q : Cue). q.number) c.in_ok-cue.ensures.cue ∙ recorded_number levels show c.args.n in
    let goes : IfSome c.in_ok-above.above (Goes show c.args.n c.in_ok-cue.cue) = rw c.in_ok-above.ensures.above (above_goes levels show c.args.n
    c.args.only c.in_ok-cue.cue r.sorted number (rw c.in_ok-above.ensures.above at c.in_ok-above.ensures.valid)) in
    record {
      least = omega (arith, c.requires);
      number = number;
      fits = record { valid = c.in_ok-cue.ensures.valid; room = rw number r.room };
      above_fits = IfSome_then c.in_ok-above.above goes (λ x h. h.fits);
      higher = IfSome_then c.in_ok-above.above goes (λ x h. h.higher);
      kept = λ is. absurd (false≢true is);
    }

pub returns-clause-records : goal.returns-clause-records
returns-clause-records g c = rw (c.in_ok-cue.ensures.cue, c.in_ok-above.ensures.above) (accepted (level_now c.args.console.now) c.args.only
    (has_room c.show-before.ensures c.has_room_for.ensures.valid c.has_room_for.ensures.room c.if-not-has_room_for.false))
