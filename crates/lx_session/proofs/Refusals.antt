-- Each line of which an attempt failed is paid for by a call that the heap refused.
use Rattle.lx_session.proofs.Imports.{◌≡◌, ◌≤◌, ◌++◌, ℕ, Bool, true, false, Option, None, Some, IfSome, List, [], ◌∷◌, refl}
use Rattle.lx_session.proofs.Imports.{arith, nat_lt, failed_count, is_some, IsAtMost, IsMost, MayFailUnless, MayTake, RoseAtMost, RoseBy}
use Rattle.lx_io.specs.Causes.{one_more}
use Rattle.lx_lex.proofs.Feeds.{count_by-append}
use Rattle.lx_spec.proofs.Comparisons.{le_from, lt_from}

-- where all were admitted, as many calls were refused as lines failed
abbrev pub Pays : (admitted_all : Bool) → (refusals refusals' : ℕ) → List (Option ℕ) → Type 0
Pays admitted_all refusals refusals' failures = admitted_all ≡ true → RoseBy refusals refusals' (failed_count failures)

-- whether memory was ample for a line: all were admitted, and the heap refused nothing
abbrev pub ample_at : (admitted_all : Bool) → (refusals refusals' : ℕ) → Bool
ample_at true refusals refusals' = nat_lt refusals' (one_more refusals)
ample_at false refusals refusals' = false

-- so the answer to the line may be taken by that
pub take_at : {all : Bool} (admitted_all : Bool) (a b : ℕ) → (all ≡ true → admitted_all ≡ true) → MayTake all (ample_at admitted_all a b) admitted_all a b
take_at true a b admitted = record {
  admitted = admitted;
  memory = λ is. record { admitted = refl; stood = lt_from b (one_more a) is };
}
take_at false a b admitted = record { admitted = admitted; memory = λ no. absurd cc }

-- where an attempt may fail unless memory was ample, it may fail; and where memory was ample none did
pub unspared : (ample : Bool) (failed : Option ℕ) (P : Type 0) → IfSome failed (λ attempt. MayFailUnless ample P) → IfSome failed (λ attempt. P)
unspared ample None P may = tt
unspared true (Some k) P may = absurd may
unspared false (Some k) P may = may

pub none_spared : (ample : Bool) (failed : Option ℕ) (P : Type 0) → IfSome failed (λ attempt. MayFailUnless ample P) → ample ≡ true → failed ≡ None
none_spared ample None P may is = refl
none_spared true (Some k) P may is = absurd may
none_spared false (Some k) P may is = absurd cc

not_true : (b : Bool) → (b ≡ true → ⊥) → b ≡ false
not_true true isnt = absurd (isnt refl)
not_true false isnt = refl

-- with one line more
pub pays_on : (admitted admitted' : Bool) (a b c : ℕ) (failures : List (Option ℕ)) (failed : Option ℕ) → (admitted' ≡ true → admitted ≡ true)
    → b ≤ c → (ample_at admitted' b c ≡ true → failed ≡ None) → Pays admitted a b failures → Pays admitted' a c (failures ++ failed ∷ [])
pays_on admitted admitted' a b c failures None so_far later none pays = λ is.
    let e = count_by-append is_some failures (None ∷ []) in
    let before = pays (so_far is) in
    omega (arith, e, before, later)
pays_on admitted false a b c failures (Some k) so_far later none pays = λ is. absurd cc
pays_on admitted true a b c failures (Some k) so_far later none pays = λ is.
    let e = count_by-append is_some failures (Some k ∷ []) in
    let before = pays (so_far is) in
    let short : nat_lt c (one_more b) ≡ false = not_true (nat_lt c (one_more b)) (λ stood. let odd : Some k ≡ None = none stood in absurd cc) in
    let risen = le_from c (one_more b) short in
    omega (arith, e, before, risen)

-- so no more lines failed than calls were refused
pub few_at : (most : Option ℕ) (admitted : Bool) (a c : ℕ) (failures : List (Option ℕ)) → IfSome most (IsMost admitted a c)
    → Pays admitted a c failures → IsAtMost most (failed_count failures)
few_at None admitted a c failures known pays = tt
few_at (Some m) admitted a c failures known pays =
    let paid = pays known.admitted in
    let rose = known.rose in
    omega (arith, paid, rose)

-- what is known of refusals is known of those since, and where all were admitted
pub known_since : (most : Option ℕ) (a b c : ℕ) → a ≤ b → IfSome most (RoseAtMost a c) → IfSome most (RoseAtMost b c)
known_since None a b c later known = tt
known_since (Some m) a b c later known = omega (arith, later, known)

pub all_most : (most : Option ℕ) (a c : ℕ) → IfSome most (RoseAtMost a c) → IfSome most (IsMost true a c)
all_most None a c known = tt
all_most (Some m) a c known = record { admitted = refl; rose = known }
