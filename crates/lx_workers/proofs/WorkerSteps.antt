-- A step of a worker: one take, and perhaps a line.
use Rattle.lx_workers.proofs.Imports.{◌≡◌, ℕ, ◌<◌, ◌≤◌, ◌+◌, ◌-◌, ◌^◌, min, List, [], length, Option, Some, None, Result, Ok, Err, IfSome}
use Rattle.lx_workers.proofs.Imports.{IsSomeAnd, inl, refl, sym, ap, ◌∙◌, subst, arith, IsPrefix, Appends, SinkFault, one_more, HasSinkCause, Puts}
use Rattle.lx_workers.proofs.Imports.{same_Some, Show, Stamp, IsFrame, Tapped, newest, prefix_self, prefix_trans, Served, stamped_line, HasFault}
use Rattle.lx_workers.proofs.Imports.{HasWrittenPart, HasServed, HasStepped, HasPutNewest, HasTakenTimes, RoseOrSame, ToldBySink}
use Rattle.std.specs.Result.{result_err}
use Rattle.lx_io.specs.declared.sink.SinkFault.TheVariants.{Failed, Memory}
use Rattle.lx_workers.proofs.WrittenLines.{goes_on, part_on, adds_line, adds_part, last_stays, none_written}
use Rattle.lx_workers.proofs.TapSteps.{HasTaken, count_on, takes_on}

-- a fault behind none
pub fault_then : {S : Type 0} (told : ToldBySink S) (a b c : S) (fault : Option SinkFault) → HasFault told a b None
    → HasFault told b c fault → HasFault told a c fault
fault_then told a b c fault h k = record {
  later = omega (arith, h.later, k.later);
  wants_later = omega (arith, h.wants_later, k.wants_later);
  failed = λ e. let r = k.failed e in omega (arith, h.later, r);
  memory = λ e. let r = k.memory e in omega (arith, h.wants_later, r);
  kept = λ e. let same = h.kept refl in let then = k.kept e in (then.0 ∙ same.0, then.1 ∙ same.1);
}

-- the sink's own fault, if there was one
fault_of : {S : Type 0} (told : ToldBySink S) (a b : S) (result : Result (Unit {0}) SinkFault) → HasSinkCause told a b result
    → HasFault told a b (result_err result)
fault_of told a b (Ok u) k = record {
  later = k.later;
  wants_later = k.wants_later;
  failed = λ e. cc;
  memory = λ e. cc;
  kept = λ e. k.kept;
}
fault_of told a b (Err fault) k = record {
  later = k.later;
  wants_later = k.wants_later;
  failed = λ e. k.failed (same_Some fault Failed e);
  memory = λ e. k.memory (same_Some fault Memory e);
  kept = λ e. cc;
}

-- before the first take
pub served_none : {K : Type 0} (told : ToldBySink K) (show : Show) (tap : Tapped) (sink : K)
    → HasServed told show tap tap sink sink (record { takes = 0; taken = 0; last = None; fault = None })
served_none told show tap sink = record {
  written = λ e. none_written show tap.universe (told.holds sink) (newest tap.told);
  part = λ f e. cc;
  cause = record { later = omega arith; wants_later = omega arith; failed = λ e. cc; memory = λ e. cc; kept = λ e. (refl, refl) };
  handed_on = λ count none last. cc;
  goes_on = prefix_self (newest tap.told);
  seen = prefix_self tap.told.seen;
  takes = omega arith;
  same_universe = refl;
  reads = inl refl;
  misses = inl refl;
}

-- what was served up to a tap is served up to a later one
pub served_on : {K : Type 0} {told : ToldBySink K} {show : Show} {start tap tap' : Tapped} {from sink : K} {served : Served} (takes : ℕ)
    → tap'.universe ≡ tap.universe → IsPrefix (newest tap.told) (newest tap'.told) → IsPrefix tap.told.seen tap'.told.seen
    → RoseOrSame tap.told.reads tap'.told.reads → RoseOrSame tap.told.misses tap'.told.misses
    → (HasTakenTimes start.told tap.told served.takes → HasTakenTimes start.told tap'.told takes)
    → HasServed told show start tap from sink served → HasServed told show start tap' from sink (record served { takes = takes })
served_on {start} {tap} {tap'} takes u p seen reads misses asked h = record {
  written = λ e. goes_on p (h.written e);
  part = λ f e. part_on p (h.part f e);
  cause = h.cause;
  handed_on = h.handed_on;
  goes_on = prefix_trans (newest start.told) (newest tap.told) (newest tap'.told) h.goes_on p;
  seen = prefix_trans start.told.seen tap.told.seen tap'.told.seen h.seen seen;
  takes = asked h.takes;
  same_universe = u ∙ h.same_universe;
  reads = count_on start.told.reads tap.told.reads tap'.told.reads h.reads reads;
  misses = count_on start.told.misses tap.told.misses tap'.told.misses h.misses misses;
}

-- a take, and the line of what was taken
pub stepped : {K : Type 0} {told : ToldBySink K} {show : Show} {tap tap' : Tapped} {sink sink' : K} {served served' : Served} (takes : ℕ)
    → takes ≡ one_more served.takes → tap'.universe ≡ tap.universe → IsPrefix (newest tap.told) (newest tap'.told) → HasTaken tap.told tap'.told
    → HasPutNewest told show tap' sink sink' (record served { takes = takes }) served' → HasStepped told show tap tap' sink sink' served served'
stepped {K} {told} {show} {tap} {tap'} {sink} {served} takes is u p t put =
    let on = λ (start : Tapped) (from : K). served_on {told = told} {show = show} {start = start} {tap = tap} {tap' = tap'} {from = from} {sink = sink}
    {served = served} takes u p t.seen t.reads t.misses
    (λ h. subst (λ (n : ℕ). HasTakenTimes start.told tap'.told n) (sym is) (takes_on start.told tap.told tap'.told served.takes h t)) in record {
      serves = λ start from h. put.serves start from (on start from h);
      goes_on = p;
      seen = t.seen;
      same_learnt = t.learnt;
      takes = put.takes ∙ is;
      last = λ start from h e. put.last start from (on start from h) e;
    }

-- the tap keeps nothing newer than the last line
pub put_none : {K : Type 0} {told : ToldBySink K} {show : Show} {tap : Tapped} {sink : K} {served : Served} (count : ℕ) → served.fault ≡ None
    → count ≡ length (newest tap.told) → IsSomeAnd served.last (λ n. count ≤ n) → HasPutNewest told show tap sink sink served served
put_none count none is stale = record {
  serves = λ start from h. h;
  takes = refl;
  last = λ start from h e. last_stays count is stale (h.written none);
}

-- it does, and its line was put: it was written, or the sink failed in it
module _ {K : Type 0} (told : ToldBySink K) (show : Show) (tap : Tapped) (sink sink' : K) (served : Served) (slots : List ℕ) (stamp : Stamp)
    (none : served.fault ≡ None) (frame : IsFrame show (newest tap.told) tap.universe slots stamp)
    (fresh : IfSome served.last (λ n. n < stamp.count)) where
  fault_now : (from : K) (result : Result (Unit {0}) SinkFault) → HasFault told from sink served.fault → HasSinkCause told sink sink' result
      → HasFault told from sink' (result_err result)
  fault_now from result before cause = fault_then told from sink sink' (result_err result)
      (subst (λ (o : Option SinkFault). HasFault told from sink o) none before) (fault_of told sink sink' result cause)

  pub put_whole : Puts {T = Unit {0}} told sink sink' (Ok tt) (stamped_line tap.universe slots stamp) → told.back sink' ≡ []
      → HasPutNewest told show tap sink sink' served (record served { taken = min (served.taken + 1) (2 ^ 64 - 1); last = Some stamp.count })
  put_whole puts handed_on = record {
    serves = λ start from h. record {
      written = λ e. adds_line show start.universe (told.holds from) (told.holds sink) (told.holds sink') (newest tap.told) served.taken
          served.last slots stamp (subst (λ (n : ℕ). IsFrame show (newest tap.told) n slots stamp) h.same_universe frame)
          (subst (λ (n : ℕ). Appends (told.holds sink) (told.holds sink') (stamped_line n slots stamp)) h.same_universe puts.whole) fresh
          (h.written none);
      part = λ f e. cc;
      cause = subst (λ (o : Option SinkFault). HasFault told from sink' o) (sym none) (fault_now from (Ok tt) h.cause puts.cause);
      handed_on = λ count e last. handed_on;
      goes_on = h.goes_on;
      seen = h.seen;
      takes = h.takes;
      same_universe = h.same_universe;
      reads = h.reads;
      misses = h.misses;
    };
    takes = refl;
    last = λ start from h e. ap (λ (n : ℕ). Some n) frame.count_is;
  }

  pub put_part : (fault : SinkFault) → Puts {T = Unit {0}} told sink sink' (Err fault) (stamped_line tap.universe slots stamp)
      → HasPutNewest told show tap sink sink' served (record served { fault = Some fault })
  put_part fault puts = record {
    serves = λ start from h. record {
      written = λ e. cc;
      part = λ f e. subst (λ (g : SinkFault). HasWrittenPart told show start.universe from sink' (newest tap.told) g) (same_Some fault f e)
          (adds_part told show start.universe from sink sink' (newest tap.told) served.taken served.last slots stamp fault
          (subst (λ (n : ℕ). IsFrame show (newest tap.told) n slots stamp) h.same_universe frame)
          (subst (λ (n : ℕ). Puts {T = Unit {0}} told sink sink' (Err fault) (stamped_line n slots stamp)) h.same_universe puts) fresh
          (h.cause.kept none) (λ count is. h.handed_on count none is) (h.written none));
      cause = fault_now from (Err fault) h.cause puts.cause;
      handed_on = λ count e last. cc;
      goes_on = h.goes_on;
      seen = h.seen;
      takes = h.takes;
      same_universe = h.same_universe;
      reads = h.reads;
      misses = h.misses;
    };
    takes = refl;
    last = λ start from h e. cc;
  }
