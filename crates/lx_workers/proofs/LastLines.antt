-- The last line of a worker, after the last note.
use Rattle.lx_workers.proofs.Imports.{◌≡◌, ℕ, List, [], ◌∷◌, length, Option, Some, true, inl, sym, ap, ◌∙◌, subst, arith, is_some, Appends}
use Rattle.lx_workers.proofs.Imports.{IsPrefix, Command, Show, IsChained, Told, Tapped, newest, HasLearnt, prefix_self, prefix_whole}
use Rattle.lx_workers.proofs.Imports.{Served, outlet_text, Falling, newest_count, HasServed, HasPutNewest, HasAll, Delivered}
use Rattle.lx_workers.proofs.Imports.{ToldBySink}
use Rattle.lx_workers.proofs.TapSteps.{learnt_begins}
use Rattle.lx_workers.proofs.WorkerSteps.{served_on}

-- where the last line is that of the newest list, the outlet has all
all_at : (show : Show) (u : ℕ) (before after : Option (List ℕ)) (top : List Command) (lists : List (List Command))
    → Appends before after (outlet_text show u lists) → Falling top lists → Some (length top) ≡ newest_count lists → HasAll show u before after top
all_at show u before after top [] text chain e = cc
all_at show u before after top (newest ∷ earlier) text chain e =
    let same_length : length top ≡ length newest = cc in
    let same : newest ≡ top = prefix_whole newest top chain.0 (omega (arith, same_length)) in
    subst (λ (w : List Command). HasAll show u before after w) same (record { earlier = earlier; chain = chain.1; text = text })

module _ {K : Type 0} {told : ToldBySink K} {show : Show} {start tap : Tapped} {from sink : K} {served : Served}
    (h : HasServed told show start tap from sink served) where
  -- a note was learnt
  pub served_learnt : {tap' : Tapped} (list : List Command) → HasLearnt tap.told tap'.told list → IsChained tap'.told.seen tap'.told.learnt
      → tap'.universe ≡ tap.universe → HasServed told show start tap' from sink served
  served_learnt {tap'} list l chained u =
      let reads : tap'.told.reads ≡ tap.told.reads = ap (λ (t : Told). t.reads) l.rest in
      let misses : tap'.told.misses ≡ tap.told.misses = ap (λ (t : Told). t.misses) l.rest in
      served_on served.takes u (learnt_begins tap.told tap'.told list l chained)
      (subst (λ (w : List Command). IsPrefix tap.told.seen w) (sym (ap (λ (t : Told). t.seen) l.rest)) (prefix_self tap.told.seen))
      (inl reads) (inl misses) (λ before. omega (arith, before, reads, misses)) h

  -- the outlet had failed before
  pub delivered_part : is_some served.fault ≡ true → Delivered told show start.universe from sink (newest tap.told) served.fault
  delivered_part some = record { whole = λ e. cc; part = h.part; cause = h.cause; handed_on = λ e. cc }

  -- it hadn't, and has the line of what is published
  pub delivered_newest : {sink' : K} {served' : Served} → HasPutNewest told show tap sink sink' served served'
      → Delivered told show start.universe from sink' (newest tap.told) served'.fault
  delivered_newest {sink'} {served'} put =
      let after : HasServed told show start tap from sink' served' = put.serves start from h in
      record {
        whole = λ e.
            let w = after.written e in
            all_at show start.universe (told.holds from) (told.holds sink') (newest tap.told) w.lists w.text w.chain
            (sym (put.last start from h e) ∙ w.last_is);
        part = after.part;
        cause = after.cause;
        handed_on = λ e. after.handed_on (length (newest tap.told)) e (put.last start from h e);
      }
