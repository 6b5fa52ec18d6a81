use Rattle.lx_console.proofs.Imports.{◌≡◌, ℕ, ◌+◌, List, inl, inr, arith, sym, ap, rules, ◌∙◌, Show, planned, StackStandsAt}
use Rattle.lx_console.proofs.Apart.{placed_stands}
use Rattle.lx_console.proofs.EditEffects.{in_show, untouched_levels, same_contributions, same_reach, same_channels}
use Rattle.lx_console.proofs.OutputChanges.{kept_in, planned_changes}
use Rattle.lx_console.proofs.Obedience.{stands_planned}
use Rattle.lx_console.proofs.player.Player.apply.Goals as goal

pub recompute_touched-leveled-requires-clause-others : goal.recompute_touched-leveled-requires-clause-others
recompute_touched-leveled-requires-clause-others c = λ k within out.
    let show : Show = c.self.inside.show in
    let after : Show = c.exchange-dirty.new.show in
    let channels : after.channels ≡ show.channels =
    ap (λ (s : Show). s.channels) c.exchange-dirty.ensures.show ∙ same_channels show c.args.plan in
    elim (c.seen-seen.ensures (k + 1) (in_show after.channels k within) out) as
    (λ e. StackStandsAt after c.self.inside.playback c.self.inside.levels k) [
      | inl clean ↦
          untouched_levels show after c.self.inside.playback c.exchange-dirty.result.dirty.chans c.self.inside.levels
          c.self.invariant.levels_stand channels c.exchange-dirty.ensures.others k within clean
      | inr unseen ↦
          placed_stands show after c.self.inside.playback c.args.plan c.placed_alone-placed.result k c.self.inside.levels
          c.self.invariant.valid c.self.invariant.levels_stand (omega (arith, channels, within)) (search rules) c.exchange-dirty.ensures.show
          c.placed_alone-placed.ensures unseen
    ]

pub recompute_touched-leveled-requires-clause-reach : goal.recompute_touched-leveled-requires-clause-reach
recompute_touched-leveled-requires-clause-reach c = c.self.invariant.levels_stand.reach
    ∙ sym (ap (λ (s : Show). s.channels) c.exchange-dirty.ensures.show ∙ same_channels c.self.inside.show c.args.plan)

pub mend_subs-requires-clause-reach : goal.mend_subs-requires-clause-reach
mend_subs-requires-clause-reach c = same_reach c.self.inside.show c.exchange-dirty.new.show c.args.plan c.self.inside.rack.faders
    c.self.inside.rack.contributions c.exchange-dirty.ensures.show c.self.invariant.subs

pub mend_subs-requires-clause-contributions : goal.mend_subs-requires-clause-contributions
mend_subs-requires-clause-contributions c = same_contributions c.self.inside.show c.exchange-dirty.new.show c.args.plan c.exchange-dirty.result.dirty.subs
    c.self.inside.rack.faders c.self.inside.rack.contributions c.exchange-dirty.ensures.show c.exchange-dirty.ensures.subs c.self.invariant.subs

pub returns-clause-undo : goal.returns-clause-undo
returns-clause-undo c = rw (← c.self.view_is) c.exchange-dirty.ensures.undo

pub returns-clause-stands : goal.returns-clause-stands
returns-clause-stands c = λ d stands.
    let before = kept_in c.self.inside in
    stands_planned c.args.plan c.self.view_is
    (ap (λ (s : Show). record before { show = s; faders = c.mend_subs.new.rack.faders }) c.exchange-dirty.ensures.show
    ∙ ap (λ (f : List ℕ). record before { show = planned before.show c.args.plan; faders = f }) c.mend_subs.ensures.faders) stands

pub returns-clause-changes : goal.returns-clause-changes
returns-clause-changes c =
    let of_exchange = c.exchange-dirty.ensures in
    let touched = c.recompute_touched-leveled in
    rw (← c.self.view_is, c.mend_subs.ensures.faders, of_exchange.show)
    (planned_changes (kept_in c.self.inside) c.args.plan c.exchange-dirty.result.dirty c.self.inside.levels touched.new.levels
    touched.result c.of_edit.result (search rules) c.self.invariant.levels_stand (rw of_exchange.show at touched.ensures.stands)
    touched.ensures.same of_exchange.dimmer of_exchange.subs c.of_edit.ensures)
