-- Members of a submaster raise the levels of their channels one after another.
use Rattle.std.specs.Prelude.{◌≡◌, ℕ, ◌+◌, ◌-◌, ◌<◌, ◌≤◌, max, ◌==◌, nat_lt, Option, Some, None, List, [], ◌∷◌, ◌++◌, length, take, refl}
use Rattle.std.specs.List.{AllByRecursion}
use Rattle.std.specs.Option.{option_map_or, option_or}
use Rattle.std.proofs.Common.{arith, get_or, get_or-set_other, set, ◌∙◌, ap, sym, subst, inl, inr}
use Rattle.std.proofs.lemmas.Bool.{cases_order}
use Rattle.std.proofs.lemmas.Grind.{get_or-set_at}
use Rattle.std.proofs.lemmas.List.{take_more}
use Rattle.std.proofs.lemmas.List.Folds.{find-append}
use Rattle.std.proofs.lemmas.List.Elements.{All-from_recursion}
use Rattle.lx_base.specs.Numbers.{scaled}
use Rattle.lx_spec.specs.declared.Member.{Member}
use Rattle.lx_spec.specs.SortedList.{IsStrictlySorted, entry_at}
use Rattle.lx_spec.specs.Show.{ValidMember}
use Rattle.lx_show.proofs.Indexes.{stands_where}
use Rattle.lx_spec.specs.Output.{level_among}
use Rattle.lx_spec.proofs.Comparisons.{eq_other, eq_true, lt_from}
use Rattle.lx_spec.proofs.Lists.{each, find_none, or_none, passes}

-- no member before one has its channel
none_before : (members : List Member) (i : ℕ) (m : Member) → IsStrictlySorted (λ x. x.chan) members → i < length members
    → m ≡ get_or members i m → entry_at (λ x. x.chan) m.chan (take i members) ≡ None
none_before members i m sorted within is =
    let stands = stands_where (λ x. x.chan) m.chan members i m sorted within is refl in
    ap (λ (xs : List Member). entry_at (λ x. x.chan) m.chan xs) stands.before
    ∙ find_none _ _ (each _ _ _ (λ y h. let less : y.chan < m.chan =
    lt_from y.chan m.chan h in eq_other y.chan m.chan (λ same. omega arith)) (passes (λ y. nat_lt y.chan m.chan) members))

one_more : (members : List Member) (i c : ℕ) (m : Member) → i < length members → m ≡ get_or members i m
    → entry_at (λ x. x.chan) c (take (i + 1) members)
    ≡ option_or (entry_at (λ x. x.chan) c (take i members)) (entry_at (λ x. x.chan) c (m ∷ []))
one_more members i c m within is =
    ap (λ (xs : List Member). entry_at (λ x. x.chan) c xs)
    (take_more members i m within ∙ ap (λ (x : Member). take i members ++ x ∷ []) (sym is))
    ∙ find-append (λ x. x.chan == c) (take i members) (m ∷ [])

-- the member's level is the one of its channel among those up to it
among_here : (members : List Member) (i c : ℕ) (m : Member) → IsStrictlySorted (λ x. x.chan) members → i < length members
    → m ≡ get_or members i m → m.chan ≡ c → level_among (take (i + 1) members) c ≡ m.level
among_here members i c m sorted within is here =
    let none : entry_at (λ x. x.chan) c (take i members) ≡ None = ap (λ n. entry_at (λ x. x.chan) n (take i members)) (sym here)
    ∙ none_before members i m sorted within is in
    let found : option_or (entry_at (λ x. x.chan) c (take i members)) (entry_at (λ x. x.chan) c (m ∷ [])) ≡ Some m =
    rw (none, eq_true m.chan c here) refl in
    ap (λ (o : Option Member). option_map_or (λ x. x.level) o 0) (one_more members i c m within is ∙ found)

-- before it the channel isn't among them
among_before : (members : List Member) (i c : ℕ) (m : Member) → IsStrictlySorted (λ x. x.chan) members → i < length members
    → m ≡ get_or members i m → m.chan ≡ c → level_among (take i members) c ≡ 0
among_before members i c m sorted within is here =
    ap (λ (o : Option Member). option_map_or (λ x. x.level) o 0)
    (ap (λ n. entry_at (λ x. x.chan) n (take i members)) (sym here) ∙ none_before members i m sorted within is)

-- the levels of other channels stay
among_other : (members : List Member) (i c : ℕ) (m : Member) → i < length members → m ≡ get_or members i m → (m.chan ≡ c → ⊥)
    → level_among (take (i + 1) members) c ≡ level_among (take i members) c
among_other members i c m within is other =
    let same : option_or (entry_at (λ x. x.chan) c (take i members)) (entry_at (λ x. x.chan) c (m ∷ []))
    ≡ entry_at (λ x. x.chan) c (take i members) = rw (eq_other m.chan c other) (or_none (entry_at (λ x. x.chan) c (take i members))) in
    ap (λ (o : Option Member). option_map_or (λ x. x.level) o 0) (one_more members i c m within is ∙ same)

-- each member's channel is among the levels
pub within_reach : (members : List Member) (n i : ℕ) (m : Member) → AllByRecursion (ValidMember n) members → i < length members
    → m ≡ get_or members i m → m.chan ≤ n
within_reach members n i m all within is =
    let valid : ValidMember n m = subst (ValidMember n) (sym is) (All-from_recursion (ValidMember n) members all i m within) in
    valid.chan.most

-- the levels raised by the members before a place, and by the one there
pub raised : (members : List Member) (i fader at x : ℕ) (m : Member) (before contributions : List ℕ) → IsStrictlySorted (λ y. y.chan) members
    → i < length members → m ≡ get_or members i m
    → ((k : ℕ) → k < length contributions → get_or contributions k 0 ≡ max (get_or before k 0) (scaled (level_among (take i members) (k + 1)) fader))
    → at ≡ m.chan → 1 ≤ at → at ≤ length contributions → x ≡ max (get_or contributions (at - 1) 0) (scaled m.level fader)
    → (k : ℕ) → k < length contributions → get_or (set contributions (at - 1) x) k 0
    ≡ max (get_or before k 0) (scaled (level_among (take (i + 1) members) (k + 1)) fader)
raised members i fader at x m before contributions sorted within is so_far at_is least most x_is k low = elim (cases_order (k + 1) at) [
  | inl here ↦
      let chan : m.chan ≡ k + 1 = omega arith in
      let place : at - 1 ≡ k = omega arith in
      let now : get_or (set contributions (at - 1) x) k 0 ≡ x = get_or-set_at contributions (at - 1) k x 0 (omega arith) (omega arith) in
      let earlier : get_or contributions k 0 ≡ max (get_or before k 0) (scaled 0 fader) = so_far k low
      ∙ ap (λ l. max (get_or before k 0) (scaled l fader)) (among_before members i (k + 1) m sorted within is chan) in
      now ∙ x_is ∙ ap (λ j. max (get_or contributions j 0) (scaled m.level fader)) place
      ∙ ap (λ l. max l (scaled m.level fader)) (earlier ∙ omega arith)
      ∙ ap (λ l. max (get_or before k 0) (scaled l fader)) (sym (among_here members i (k + 1) m sorted within is chan))
  | inr apart ↦
      let other : k + 1 ≡ at → ⊥ = λ same. elim apart [ inl less ↦ omega arith | inr more ↦ omega arith ] in
      get_or-set_other contributions (at - 1) k x 0 (λ same. other (omega arith)) ∙ so_far k low
      ∙ ap (λ l. max (get_or before k 0) (scaled l fader))
      (sym (among_other members i (k + 1) m within is (λ same. other (sym (at_is ∙ same)))))
]
