-- Chains of the dimmers that follow each channel, a dimmer more at a time from the last one on.
use Rattle.lx_patch.proofs.Imports.{◌≡◌, ◌≢◌, ◌⊎◌, ℕ, ◌+◌, ◌<◌, ◌≤◌, List, length, arith, get_or, set, get_or-set_other, refl, ◌∙◌, ap, sym, inl, inr}
use Rattle.lx_patch.proofs.Imports.{length-set, cases_eq, cases_lt, get_or-set_at, CHANNELS, SLOTS, scaled, FollowsChannel, AreDimmersChained}

-- what is true of the entry that was written, and of each other one, is true of each
pub each_set : (P : ℕ → ℕ → Type 0) (xs : List ℕ) (k x : ℕ) → k < length xs → P k x → ((j : ℕ) → j ≢ k → P j (get_or xs j 0)) → (j : ℕ)
    → P j (get_or (set xs k x) j 0)
each_set P xs k x within here other j = elim (cases_eq j k) [
  | inl same ↦ rw (get_or-set_at xs k j x 0 same within, same) here
  | inr apart ↦ rw (get_or-set_other xs k j x 0 apart) (other j apart)
]

module _ {places levels first next : List ℕ} {from e : ℕ} (is : AreDimmersChained places levels first next from) (at : e + 1 ≡ from) where
  apart : (d : ℕ) → e ≤ d → d ≢ e → from ≤ d
  apart d past other = omega (arith, other)

  -- a dimmer that is dark follows no channel
  pub chained_dark : get_or levels e 0 ≡ 0 → AreDimmersChained places levels first next e
  chained_dark dark = record {
    first_reach = is.first_reach;
    next_reach = is.next_reach;
    first_low = λ k within. omega (arith, is.first_low k within);
    first_own = is.first_own;
    first_all = λ k d within past below follows. is.first_all k d within (beyond d past follows.lit) below follows;
    next_later = λ d past below lit. is.next_later d (beyond d past lit) below lit;
    next_own = λ d past below lit. is.next_own d (beyond d past lit) below lit;
    next_all = λ d g past below lit. is.next_all d g (beyond d past lit) below lit;
  } where
    beyond : (d : ℕ) → e ≤ d → 0 < get_or levels d 0 → from ≤ d
    beyond d past lit = apart d past (λ here. omega (arith, lit, ap (λ n. get_or levels n 0) here, dark))

  -- another becomes the first of its channel
  pub chained_lit : (k old : ℕ) → from ≤ SLOTS → k ≡ get_or places e 0 → k < CHANNELS → 0 < get_or levels e 0 → old ≡ get_or first k 0
      → AreDimmersChained places levels (set first k e) (set next e old) e
  chained_lit k old most k_is within_k lit old_is = record {
    first_reach = length-set first k e ∙ is.first_reach;
    next_reach = length-set next e old ∙ is.next_reach;
    first_low = in_first (λ j v. j < CHANNELS → e ≤ v) (λ _. omega arith) (λ j other within. omega (arith, is.first_low j within));
    first_own = in_first (λ j v. j < CHANNELS → v < SLOTS → FollowsChannel places levels j v)
        (λ _ _. record { channel = sym k_is; lit = lit }) (λ j other. is.first_own j);
    first_all = λ j d. in_first (λ j v. j < CHANNELS → e ≤ d → d < SLOTS → FollowsChannel places levels j d → v ≤ d) (λ _ past _ _. past)
        (λ j other within past below follows. is.first_all j d within
        (apart d past (λ same. other (sym follows.channel ∙ ap (λ n. get_or places n 0) same ∙ sym k_is))) below follows) j;
    next_later = in_next (λ d v. e ≤ d → d < SLOTS → 0 < get_or levels d 0 → d < v)
        (λ _ _ _. omega (arith, old_is, is.first_low k within_k)) (λ d other past. is.next_later d (apart d past other));
    next_own = in_next (λ d v. e ≤ d → d < SLOTS → 0 < get_or levels d 0 → v < SLOTS → FollowsChannel places levels (get_or places d 0) v)
        (λ _ _ _ then. let first_follows = is.first_own k within_k (omega (arith, then, old_is)) in
        rw old_is record { channel = first_follows.channel ∙ k_is; lit = first_follows.lit })
        (λ d other past. is.next_own d (apart d past other));
    next_all = λ d g. in_next (λ d v. e ≤ d → d < SLOTS → 0 < get_or levels d 0 → d < g → g < SLOTS
        → FollowsChannel places levels (get_or places d 0) g → v ≤ g)
        (λ _ _ _ later within follows.
        let of_k : FollowsChannel places levels k g = record { channel = follows.channel ∙ sym k_is; lit = follows.lit } in
        omega (arith, old_is, is.first_all k g within_k (omega (arith, later)) within of_k))
        (λ d other past. is.next_all d g (apart d past other)) d;
  } where
    in_first : (P : ℕ → ℕ → Type 0) → P k e → ((j : ℕ) → j ≢ k → P j (get_or first j 0)) → (j : ℕ) → P j (get_or (set first k e) j 0)
    in_first P = each_set P first k e (omega (arith, is.first_reach))

    in_next : (P : ℕ → ℕ → Type 0) → P e old → ((d : ℕ) → d ≢ e → P d (get_or next d 0)) → (d : ℕ) → P d (get_or (set next e old) d 0)
    in_next P = each_set P next e old (omega (arith, is.next_reach))

-- what is filled in along a channel's chain
pub record IsWalked (places levels before slots : List ℕ) (k out e : ℕ) : Type 0 where
  pub reach : length slots ≡ SLOTS
  pub seen : (d : ℕ) → d < SLOTS → d < e → FollowsChannel places levels k d → get_or slots d 0 ≡ scaled out (get_or levels d 0)
  pub others : (d : ℕ) → d < SLOTS → get_or places d 0 ≢ k → get_or slots d 0 ≡ get_or before d 0
  pub dark : (d : ℕ) → d < SLOTS → get_or levels d 0 ≡ 0 → get_or slots d 0 ≡ get_or before d 0
  pub own : e < SLOTS → FollowsChannel places levels k e

module _ {places levels first next : List ℕ} {k out e : ℕ} (is : AreDimmersChained places levels first next 0) where
  pub walk_begun : {slots : List ℕ} → k < CHANNELS → length slots ≡ SLOTS → e ≡ get_or first k 0
      → IsWalked places levels slots slots k out e
  walk_begun within reach first_is = record {
    reach = reach;
    seen = λ d below past follows. absurd (omega (arith, first_is, is.first_all k d within (omega arith) below follows));
    others = λ d below apart. refl;
    dark = λ d below unlit. refl;
    own = λ below. rw first_is (is.first_own k within (omega (arith, first_is)));
  }

  pub walk_next : {before slots : List ℕ} {after : ℕ} (value : ℕ) → IsWalked places levels before slots k out e → e < SLOTS
      → value ≡ scaled out (get_or levels e 0) → after ≡ get_or next e 0 → IsWalked places levels before (set slots e value) k out after
  walk_next {before} {slots} {after} value walked below value_is next_is =
      let here = walked.own below in
      record {
        reach = length-set slots e value ∙ walked.reach;
        seen = λ d. at_each (λ d v. d < SLOTS → d < after → FollowsChannel places levels k d → v ≡ scaled out (get_or levels d 0))
            (λ _ _ _. value_is)
            (λ d other within past follows. walked.seen d within (omega (arith, other, past, next_is, clear d within follows other)) follows) d;
        others = at_each (λ d v. d < SLOTS → get_or places d 0 ≢ k → v ≡ get_or before d 0) (λ _ apart. absurd (apart here.channel))
            (λ d other. walked.others d);
        dark = at_each (λ d v. d < SLOTS → get_or levels d 0 ≡ 0 → v ≡ get_or before d 0)
            (λ _ unlit. absurd (omega (arith, here.lit, unlit))) (λ d other. walked.dark d);
        own = λ within.
            let follows = is.next_own e (omega arith) below here.lit (omega (arith, next_is)) in
            rw next_is record { channel = follows.channel ∙ here.channel; lit = follows.lit };
      } where
        at_each : (P : ℕ → ℕ → Type 0) → P e value → ((d : ℕ) → d ≢ e → P d (get_or slots d 0)) → (d : ℕ)
            → P d (get_or (set slots e value) d 0)
        at_each P = each_set P slots e value (omega (arith, walked.reach))

        -- a dimmer of the channel after this one isn't passed over
        clear : (d : ℕ) → d < SLOTS → FollowsChannel places levels k d → d ≢ e → (d < e) ⊎ (get_or next e 0 ≤ d)
        clear d within follows other = elim (cases_lt d e) [
          | inl low ↦ inl low
          | inr high ↦
              let here = walked.own below in
              inr (is.next_all e d (omega arith) below here.lit (omega (arith, other)) within
              record { channel = follows.channel ∙ sym here.channel; lit = follows.lit })
        ]
