-- What levels stand for under other words.
use Rattle.lx_levels.proofs.Imports.{◌≡◌, ℕ, ◌+◌, ◌<◌, arith, ◌∙◌, ap, sym, Show, level, Playback, KeptLevels, stack_level, level_at, kept_stack}
use Rattle.lx_levels.proofs.Imports.{LevelsStandFor, StackStandsAt}

-- the kept level is that of the definition
pub kept_level : (show : Show) (p : Playback) (kept : KeptLevels) (k : ℕ) → LevelsStandFor show p kept → k < show.channels
    → level_at kept k ≡ level show p.base p.live (k + 1) p.moment
kept_level show p kept k stands within = ap (stack_level (kept_stack kept k)) stands.moment ∙ (stands.each k within).later p.moment (omega arith)

-- only the base, the live runs and the moment of a playback count
pub stands_over : (show : Show) (p q : Playback) (kept : KeptLevels) → q.base ≡ p.base → q.live ≡ p.live → q.moment ≡ p.moment
    → LevelsStandFor show p kept → LevelsStandFor show q kept
stands_over show p q kept base live moment stands = record {
  moment = stands.moment ∙ sym moment;
  reach = stands.reach;
  each = λ k within. record {
    later = λ x from. rw (base, live) ((stands.each k within).later x (omega (arith, moment, from)));
    few = rw live (stands.each k within).few;
  };
}

-- a channel whose stack stays
pub same_stack : (show : Show) (p : Playback) (k : ℕ) (before after : KeptLevels) → kept_stack after k ≡ kept_stack before k
    → StackStandsAt show p before k → StackStandsAt show p after k
same_stack show p k before after is stands = record {
  later = λ x from. rw is (stands.later x from);
  few = rw is stands.few;
}
