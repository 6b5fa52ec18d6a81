-- What a tap keeps grows.
use Rattle.lx_workers.proofs.Imports.{◌≡◌, ℕ, ◌⊎◌, inl, inr, ⊎_elim, true, false, cond, ltb}
use Rattle.lx_workers.proofs.Imports.{List, length, sym, ap, subst, arith, IsPrefix, Rose, one_more, Command, longest, IsChained, Told, newest, HasReadOn}
use Rattle.lx_workers.proofs.Imports.{HasMissed, HasLearnt, prefix_self, prefix_trans, HasLooked, HasTakenTimes, RoseOrSame}

-- what begins with two lists begins with the longer one
pub longest_begins : (xs ys top : List Command) → IsPrefix xs top → IsPrefix ys top → IsPrefix (longest xs ys) top
longest_begins xs ys top p q = elim (ltb (length xs) (length ys)) as (λ b. IsPrefix (cond b ys xs) top) [ true ↦ q | false ↦ p ]

-- one change of a count after another
pub rose_on : (a b c : ℕ) → RoseOrSame a b → Rose b c → Rose a c
rose_on a b c (inl e) r = omega (arith, e, r)
rose_on a b c (inr s) r = omega (arith, s, r)

pub count_on : (a b c : ℕ) → RoseOrSame a b → RoseOrSame b c → RoseOrSame a c
count_on a b c h (inl e) = subst (λ (n : ℕ). RoseOrSame a n) (sym e) h
count_on a b c h (inr r) = inr (rose_on a b c h r)

-- what is left as it was by a take, and what grew
pub record HasTaken (before now : Told) : Type 0 where
  pub learnt : now.learnt ≡ before.learnt
  pub reads : RoseOrSame before.reads now.reads
  pub misses : RoseOrSame before.misses now.misses
  pub looked : HasLooked before now
  pub seen : IsPrefix before.seen now.seen
  pub counted : ((now.reads ≡ one_more before.reads) × (now.misses ≡ before.misses))
      ⊎ ((now.misses ≡ one_more before.misses) × (now.reads ≡ before.reads))

-- one more is a rise
rose_by : (a b : ℕ) → b ≡ one_more a → Rose a b
rose_by a b h = omega (arith, h)

pub taken : (before now : Told) → IsPrefix before.seen (newest now) → HasReadOn before now ⊎ HasMissed before now → HasTaken before now
taken before now p (inl h) = record {
  learnt = ap (λ (t : Told). t.learnt) h.rest;
  reads = inr (rose_by before.reads now.reads h.rose);
  misses = inl (ap (λ (t : Told). t.misses) h.rest);
  looked = inl (rose_by before.reads now.reads h.rose);
  seen = subst (λ (l : List Command). IsPrefix before.seen l) h.newest_is p;
  counted = inl (h.rose, ap (λ (t : Told). t.misses) h.rest);
}
taken before now p (inr h) = record {
  learnt = ap (λ (t : Told). t.learnt) h.rest;
  reads = inl (ap (λ (t : Told). t.reads) h.rest);
  misses = inr (rose_by before.misses now.misses h.rose);
  looked = inr (rose_by before.misses now.misses h.rose);
  seen = subst (λ (l : List Command). IsPrefix before.seen l) (sym (ap (λ (t : Told). t.seen) h.rest)) (prefix_self before.seen);
  counted = inr (h.rose, ap (λ (t : Told). t.reads) h.rest);
}

-- one more take
pub takes_on : (start before now : Told) (n : ℕ) → HasTakenTimes start before n → HasTaken before now
    → HasTakenTimes start now (one_more n)
takes_on start before now n h t = ⊎_elim
    (λ (s : (now.reads ≡ one_more before.reads) × (now.misses ≡ before.misses)). let r = s.0 in let e = s.1 in omega (arith, h, r, e))
    (λ (s : (now.misses ≡ one_more before.misses) × (now.reads ≡ before.reads)). let r = s.0 in let e = s.1 in omega (arith, h, r, e)) t.counted

-- what is kept grows with what is learnt
pub learnt_begins : (before now : Told) (list : List Command) → HasLearnt before now list → IsChained now.seen now.learnt
    → IsPrefix (newest before) (newest now)
learnt_begins before now list h chained =
    let seen : now.seen ≡ before.seen = ap (λ (t : Told). t.seen) h.rest in
    longest_begins before.seen before.learnt (newest now) (rw (← seen) chained.first)
    (prefix_trans before.learnt now.learnt (newest now) h.earlier chained.second)
