-- What an edit leaves as it was.
use Rattle.lx_console.proofs.Imports.{◌≡◌, ◌≢◌, ℕ, ◌+◌, ◌<◌, refl, Bool, false, Some, None, List, length, arith, ap, sym, ◌∙◌}
use Rattle.lx_console.proofs.Imports.{entry_at, Show, Sub, InRange, contribution, Plan, KeepsOthers, IsReady, planned, dimmer_planned, plans_sub, has_chan}
use Rattle.lx_console.proofs.Imports.{KeptLevels as Levels, LevelsStandFor, StackStandsAt, Playback, IsTable, others_stay, entry_at-placed_other}
use Rattle.lx_spec.proofs.Columns.{level-columns}
use Rattle.lx_edit.specs.declared.plans.Plan.TheVariants as plans
use Rattle.lx_edit.specs.declared.chan_set.ChanSet.{ChanSet}

-- a plan leaves the channel count
pub same_channels : (show : Show) (plan : Plan) → (planned show plan).channels ≡ show.channels
same_channels show (plans.Cue n to None keeps) = refl
same_channels show (plans.Cue n to (Some above) keeps) = refl
same_channels show plan = refl

-- a plan that changes no submaster leaves them
pub same_subs : (show : Show) (plan : Plan) → plans_sub plan ≡ false → (planned show plan).subs ≡ show.subs
same_subs show (plans.Cue n to None keeps) clean = refl
same_subs show (plans.Cue n to (Some above) keeps) clean = refl
same_subs show (plans.Sub s to) clean = cc
same_subs show plan clean = refl

-- a plan leaves the rows of the dimmers but the one that it names, and all where it names none
pub other_rows : (show : Show) (plan : Plan) (e : ℕ) → IsReady show plan → dimmer_planned plan ≢ Some e
    → entry_at (λ row. row.dimmer) e (planned show plan).patch ≡ entry_at (λ row. row.dimmer) e show.patch
other_rows show (plans.Cue n to None keeps) e ready other = refl
other_rows show (plans.Cue n to (Some above) keeps) e ready other = refl
other_rows show (plans.Row n None) e ready other = others_stay n e show.patch (λ same. other (ap Some (sym same)))
other_rows show (plans.Row n (Some row)) e ready other =
    entry_at-placed_other (λ x. x.dimmer) e row show.patch (λ same. other (ap Some (sym ready.0 ∙ same)))
other_rows show plan e ready other = refl

pub same_patch : (show : Show) (plan : Plan) → dimmer_planned plan ≡ None → (planned show plan).patch ≡ show.patch
same_patch show (plans.Cue n to None keeps) clean = refl
same_patch show (plans.Cue n to (Some above) keeps) clean = refl
same_patch show (plans.Row e to) clean = cc
same_patch show plan clean = refl

-- a rack that stood for the show does so still, where the plan changed no submaster
pub same_contributions : (show after : Show) (plan : Plan) (stale : Bool) (faders contributions : List ℕ) → after ≡ planned show plan
    → stale ≡ plans_sub plan → IsTable show.channels (contribution show faders) contributions → stale ≡ false
    → IsTable after.channels (contribution after faders) contributions
same_contributions show after plan stale faders contributions is subs table clean =
    let channels : after.channels ≡ show.channels = ap (λ (s : Show). s.channels) is ∙ same_channels show plan in
    let same : after.subs ≡ show.subs = ap (λ (s : Show). s.subs) is ∙ same_subs show plan (sym subs ∙ clean) in record {
      reach = table.reach ∙ sym channels;
      each = λ k within. table.each k (omega (arith, channels))
          ∙ ap (λ (s : List Sub). contribution (record show { subs = s }) faders (k + 1)) (sym same);
    }

-- and has the places of the channels
pub same_reach : (show after : Show) (plan : Plan) (faders contributions : List ℕ) → after ≡ planned show plan
    → IsTable show.channels (contribution show faders) contributions → length contributions ≡ after.channels
same_reach show after plan faders contributions is table = table.reach ∙ sym (ap (λ (s : Show). s.channels) is ∙ same_channels show plan)

-- the channel of a place
pub in_show : (channels k : ℕ) → k < channels → InRange channels (k + 1)
in_show channels k within = record { least = omega arith; most = omega arith }

-- a channel that isn't touched keeps what its levels stand for
pub untouched_levels : (show after : Show) (p : Playback) (chans : ChanSet) (levels : Levels) → LevelsStandFor show p levels
    → after.channels ≡ show.channels → KeepsOthers show after chans → (k : ℕ) → k < after.channels → has_chan chans (k + 1) ≡ false
    → StackStandsAt after p levels k
untouched_levels show after p chans levels stands channels others k within clean =
    let old = stands.each k (omega (arith, channels)) in
    record {
      later = λ x from. old.later x from
          ∙ level-columns show after p.base p.live (k + 1) x (others (k + 1) (in_show show.channels k (omega (arith, channels))) clean);
      few = old.few;
    }
