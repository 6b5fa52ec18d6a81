-- Lists made of rising numbers, with an entry placed.
use Rattle.lx_reader.proofs.Imports.{◌≡◌, ℕ, Bool, true, false, cond, List, [], ◌∷◌, ◌++◌, map, Option, Some, None, refl, ap, ◌∙◌, sym, arith, filter}
use Rattle.lx_reader.proofs.Imports.{fold, nat_lt, ◌==◌, is_some, option_map_or, changed, map-append, eqb-true, nat_tests, IsStrictlySorted, placed}
use Rattle.lx_reader.proofs.Imports.{entry_at, has_entry, last_of_each, above_is_other, below_is_other, eq_true, IsStrictlySorted-all_placed}
use Rattle.lx_reader.proofs.Imports.{entry_at-placed_here, entry_number, has_placed, placed_same, inl, inr, cases_Bool, IfSome, cons_option}
use Rattle.lx_reader.proofs.Imports.{with_named, changed_in, cond_both}

pub eq-here : (n : ℕ) → (n == n) ≡ true
eq-here n = eq_true n n refl

pub eq-sym : (m n : ℕ) → (m == n) ≡ false → (n == m) ≡ false
eq-sym m n h = grind (arith, nat_tests)

-- a test of numbers, and the same of what is made of their entries, where it is made alike
filter_made : {A B : Type 0} (at : A → ℕ) (key : B → ℕ) (f g : A → B) → ((m : A) → key (f m) ≡ at m) → (test : ℕ → Bool)
    → ((m : A) → test (at m) ≡ true → g m ≡ f m) → (ns : List A) → map g (filter (λ m. test (at m)) ns) ≡ filter (λ x. test (key x))
    (map f ns)
filter_made at key f g keys test same [] = refl
filter_made at key f g keys test same (m ∷ ms) =
    let rest = filter_made at key f g keys test same ms in
    elim (cases_Bool (test (at m))) [ inl is ↦ rw (keys m, is) (λ i. same m is i ∷ rest i) | inr is ↦ rw (keys m, is) rest ]

-- an entry placed, and what is made of it placed, which alone may be made otherwise
pub map-placed_anew : {A B : Type 0} (at : A → ℕ) (key : B → ℕ) (f g : A → B) → ((m : A) → key (f m) ≡ at m) → (n : A)
    → key (g n) ≡ at n → ((m : A) → (at m == at n) ≡ false → g m ≡ f m) → (ns : List A) → map g (placed at n ns) ≡ placed key (g n) (map f ns)
map-placed_anew at key f g keys n here same ns =
    let low = filter_made at key f g keys (λ k. nat_lt k (at n)) (λ m h. same m (below_is_other (at m) (at n) (at n) h (omega arith))) ns in
    let high = filter_made at key f g keys (λ k. nat_lt (at n) k) (λ m h. same m (above_is_other (at m) (at n) (at n) h (omega arith))) ns in
    map-append g (filter (λ m. nat_lt (at m) (at n)) ns) (n ∷ filter (λ m. nat_lt (at n) (at m)) ns)
    ∙ (λ i. low i ++ g n ∷ high i)
    ∙ sym (ap (λ k. filter (λ x. nat_lt (key x) k) (map f ns) ++ g n ∷ filter (λ x. nat_lt k (key x)) (map f ns)) here)

pub map-placed : {A B : Type 0} (at : A → ℕ) (key : B → ℕ) (f : A → B) → ((m : A) → key (f m) ≡ at m) → (n : A) (ns : List A)
    → map f (placed at n ns) ≡ placed key (f n) (map f ns)
map-placed at key f keys n ns = map-placed_anew at key f f keys n (keys n) (λ m differs. refl) ns

-- a number that is there stays where it is
pub placed-there : (n : ℕ) (ns : List ℕ) → IsStrictlySorted (λ m. m) ns → has_entry (λ m. m) n ns ≡ true → placed (λ m. m) n ns ≡ ns
placed-there n ns rises there =
    let at : (o : Option ℕ) → entry_at (λ m. m) n ns ≡ o → is_some o ≡ true → placed (λ m. m) n ns ≡ ns
    = λ o. elim o as (λ o. entry_at (λ m. m) n ns ≡ o → is_some o ≡ true → placed (λ m. m) n ns ≡ ns) [
      | None ↦ λ is h. cc
      | Some x ↦ λ is h. placed_same (λ m. m) n ns rises (is ∙ ap Some (entry_number (λ m. m) n ns x is))
    ] in
    at (entry_at (λ m. m) n ns) refl there

pub IsStrictlySorted-numbers : (ns : List ℕ) → IsStrictlySorted (λ m. m) (last_of_each (λ n. n) ns)
IsStrictlySorted-numbers ns = IsStrictlySorted-all_placed (λ m. m) ns [] tt

-- the entry that is made of a number that is there
pub entry_made : {A : Type 0} (key : A → ℕ) (f : ℕ → A) → ((m : ℕ) → key (f m) ≡ m) → (n : ℕ) (ns : List ℕ)
    → entry_at key n (map f ns) ≡ cond (has_entry (λ m. m) n ns) (Some (f n)) None
entry_made key f keys n [] = refl
entry_made {A} key f keys n (m ∷ ms) =
    elim (cases_Bool (m == n)) [
      | inl is ↦ rw (keys m, is) (ap (λ k. Some (f k)) (eqb-true m n is))
      | inr is ↦ rw (keys m, is) (entry_made key f keys n ms)
    ]

some_or_none : {A : Type 0} (b : Bool) (x : A) → is_some (cond b (Some x) None) ≡ b
some_or_none true x = refl
some_or_none false x = refl

pub has_made : {A : Type 0} (key : A → ℕ) (f : ℕ → A) → ((m : ℕ) → key (f m) ≡ m) → (n : ℕ) (ns : List ℕ)
    → has_entry key n (map f ns) ≡ has_entry (λ m. m) n ns
has_made key f keys n ns = ap is_some (entry_made key f keys n ns) ∙ some_or_none (has_entry (λ m. m) n ns) (f n)

-- the number that is placed is there
pub has-here : (n : ℕ) (ns : List ℕ) → has_entry (λ k. k) n (placed (λ k. k) n ns) ≡ true
has-here n ns = ap is_some (entry_at-placed_here (λ k. k) n n ns refl)

pub has-all_placed : (n : ℕ) (more ns : List ℕ) → has_entry (λ k. k) n ns ≡ true
    → has_entry (λ k. k) n (fold (λ ys x. placed (λ k. k) x ys) ns more) ≡ true
has-all_placed n [] ns there = there
has-all_placed n (m ∷ more) ns there = has-all_placed n more (placed (λ k. k) m ns) (has_placed (λ k. k) n m ns there)

-- entries made of numbers, of which one is changed
pub changed-made : {A : Type 0} (key : A → ℕ) (f g : ℕ → A) → ((m : ℕ) → key (f m) ≡ m) → ((m : ℕ) → key (g m) ≡ m) → (n : ℕ)
    → ((m : ℕ) → (m == n) ≡ false → g m ≡ f m) → (change : A → A) → g n ≡ change (f n) → (ns : List ℕ) → IsStrictlySorted (λ m. m) ns
    → has_entry (λ m. m) n ns ≡ true → map g ns ≡ changed key n change (map f ns)
changed-made {A} key f g kf kg n same change here ns rises there =
    let made : entry_at key n (map f ns) ≡ Some (f n) = entry_made key f kf n ns ∙ ap (λ b. cond b (Some (f n)) None) there in
    ap (λ v. map g v) (sym (placed-there n ns rises there))
    ∙ map-placed_anew (λ m. m) key f g kf n (kg n) same ns
    ∙ ap (λ v. placed key v (map f ns)) here
    ∙ sym (ap (λ o. option_map_or (λ x. placed key (change x) (map f ns)) o (map f ns)) made)

-- Lists of entries made of rising numbers, with what one more entry of a text says.
pub cond_same : {A : Type 0} (b : Bool) (x : A) → cond b x x ≡ x
cond_same true x = refl
cond_same false x = refl

-- the number is the one at which an entry stands
abbrev pub is_at : ℕ → Option ℕ → Bool
is_at n o = option_map_or (λ m. m == n) o false

-- an entry after the change, or as it was
abbrev pub after_change : {A : Type 0} → Option (A → A) → A → A
after_change None x = x
after_change (Some change) x = change x

-- the one of the number is changed
changed_at : {A : Type 0} (key : A → ℕ) (o : Option (A → A)) (at : Option ℕ) → ((x : A) → key (after_change o x) ≡ key x) → (f : ℕ → A)
    → ((m : ℕ) → key (f m) ≡ m) → (ns : List ℕ) → IsStrictlySorted (λ m. m) ns
    → ((n : ℕ) → is_at n at ≡ true → has_entry (λ m. m) n ns ≡ true)
    → map (λ n. cond (is_at n at) (after_change o (f n)) (f n)) ns ≡ changed_in key o at (map f ns)
changed_at key None at keeps f keys ns rises there = λ i. map (λ n. cond_same (is_at n at) (f n) i) ns
changed_at key (Some change) None keeps f keys ns rises there = refl
changed_at {A} key (Some change) (Some m) keeps f keys ns rises there =
    let g : ℕ → A = λ n. cond (m == n) (change (f n)) (f n) in
    let kg : (n : ℕ) → key (g n) ≡ n =
    λ n. cond_both (m == n) (change (f n)) (f n) (λ x. key x ≡ n) (λ is. keeps (f n) ∙ keys n) (λ is. keys n) in
    let same : (n : ℕ) → (n == m) ≡ false → g n ≡ f n = λ n differs. ap (λ b. cond b (change (f n)) (f n)) (eq-sym n m differs) in
    let here : g m ≡ change (f m) = ap (λ b. cond b (change (f m)) (f m)) (eq-here m) in
    changed-made key f g keys kg m same change here ns rises (there m (eq-here m))

-- the one of the number is named
named_at : {A : Type 0} (key : A → ℕ) (new f : ℕ → A) → ((m : ℕ) → key (f m) ≡ m) → (n : ℕ) (ns : List ℕ) → IsStrictlySorted (λ m. m) ns
    → (has_entry (λ m. m) n ns ≡ false → f n ≡ new n) → (b : Bool) → has_entry (λ m. m) n ns ≡ b
    → map f (placed (λ m. m) n ns) ≡ cond b (map f ns) (placed key (new n) (map f ns))
named_at key new f keys n ns rises fresh true there = ap (map f) (placed-there n ns rises there)
named_at key new f keys n ns rises fresh false absent = map-placed (λ m. m) key f keys n ns ∙ ap (λ x. placed key x (map f ns)) (fresh absent)

-- entries made of numbers, with what one more entry says: it names one, or changes the one at which it stands
pub listed-more : {A : Type 0} (key : A → ℕ) (new : ℕ → A) (named : Option ℕ) (o : Option (A → A)) (at : Option ℕ) (f g : ℕ → A)
    (ns : List ℕ)
    → IfSome named (λ n. o ≡ None) → ((x : A) → key (after_change o x) ≡ key x) → ((m : ℕ) → key (f m) ≡ m) → IsStrictlySorted (λ m. m) ns
    → ((n : ℕ) → is_at n at ≡ true → has_entry (λ m. m) n ns ≡ true) → ((n : ℕ) → has_entry (λ m. m) n ns ≡ false → f n ≡ new n)
    → ((n : ℕ) → g n ≡ cond (is_at n at) (after_change o (f n)) (f n))
    → map g (fold (λ ys x. placed (λ m. m) x ys) ns (cons_option named [])) ≡ changed_in key o at (with_named key new named (map f ns))
listed-more key new None o at f g ns alone keeps keys rises there fresh made = (λ i. map (λ n. made n i) ns)
    ∙ changed_at key o at keeps f keys ns rises there
listed-more key new (Some n) None at f g ns alone keeps keys rises there fresh made =
    (λ i. map (λ m. (made m ∙ cond_same (is_at m at) (f m)) i) (placed (λ m. m) n ns))
    ∙ named_at key new f keys n ns rises (fresh n) (has_entry (λ m. m) n ns) refl
    ∙ ap (λ b. cond b (map f ns) (placed key (new n) (map f ns))) (sym (has_made key f keys n ns))
listed-more key new (Some n) (Some change) at f g ns alone keeps keys rises there fresh made = cc
