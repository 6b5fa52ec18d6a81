-- The slots that were taken, and whether they are the same.
use Rattle.lx_embed.proofs.Imports.{◌≡◌, ℕ, zero, suc, ◌<◌, Bool, true, false, not, cond, Option, Some, None, List, length, get_or, replicate}
use Rattle.lx_embed.proofs.Imports.{refl, sym, ap, ◌∙◌, arith, IfSome, is_some, slice_get, option_and_then, ext_get_or}
use Rattle.std.proofs.lemmas.Option.{same_Some, slice_get-get_or}
use Rattle.lx_base.specs.Rows.{Agree, IsNextChange}
use Rattle.lx_embed.specs.declared.taken.TakenSlots.{TakenSlots}
use Rattle.lx_embed.specs.TakenSlots.{slots_taken}

-- of copies of one that wasn't taken, none was
pub none_taken : (n : ℕ) (it : TakenSlots) (k : ℕ) → it.is_taken ≡ false → option_and_then slots_taken (slice_get (replicate n it) k) ≡ None
none_taken zero it k is = refl
none_taken (suc n) it zero is = ap (λ (b : Bool). cond b (Some it.slots) None) is
none_taken (suc n) it (suc k) is = none_taken n it k is

entry_is : (xs : List TakenSlots) (d : TakenSlots) (k : ℕ) (b : Bool) → k < length xs → (get_or xs k d).is_taken ≡ b
    → option_and_then slots_taken (slice_get xs k) ≡ cond b (Some (get_or xs k d).slots) None
entry_is xs d k b within is =
    ap (option_and_then slots_taken) (slice_get-get_or xs k d within)
    ∙ ap (λ (b : Bool). cond b (Some (get_or xs k d).slots) None) is

-- two rows of one length are the same where no next change is found, and only there
same_rows : (old new : List ℕ) (r : Option ℕ) (b : Bool) → is_some r ≡ not b → length new ≡ length old → IfSome r (IsNextChange old new 0)
    → (r ≡ None → Agree old new 0 (length old)) → (b ≡ true → old ≡ new) × (old ≡ new → b ≡ true)
same_rows old new None true is long some none = (λ e. ext_get_or 0 old new (sym long) (λ i within. none refl i (omega arith) within), λ e. refl)
same_rows old new None false is long some none = absurd cc
same_rows old new (Some at) true is long some none = absurd cc
same_rows old new (Some at) false is long some none = (λ e. absurd cc, λ e. absurd (some.differs (ap (λ (xs : List ℕ). get_or xs at 0) e)))

-- it was taken: whether these are the slots
pub taken_are : (xs : List TakenSlots) (d : TakenSlots) (k : ℕ) (new : List ℕ) (r : Option ℕ) (b : Bool) → k < length xs
    → (get_or xs k d).is_taken ≡ true → is_some r ≡ not b → length new ≡ length (get_or xs k d).slots
    → IfSome r (IsNextChange (get_or xs k d).slots new 0)
    → (r ≡ None → Agree (get_or xs k d).slots new 0 (length (get_or xs k d).slots))
    → (b ≡ true → option_and_then slots_taken (slice_get xs k) ≡ Some new) × (option_and_then slots_taken (slice_get xs k) ≡ Some new → b ≡ true)
taken_are xs d k new r b within taken is long some none =
    let kept = entry_is xs d k true within taken in
    let same = same_rows (get_or xs k d).slots new r b is long some none in
    (λ e. kept ∙ ap Some (same.0 e), λ e. same.1 (same_Some (get_or xs k d).slots new (sym kept ∙ e)))

-- it wasn't
pub untaken_are : (xs : List TakenSlots) (d : TakenSlots) (k : ℕ) (new : List ℕ) → k < length xs → (get_or xs k d).is_taken ≡ false
    → ((get_or xs k d).is_taken ≡ true → option_and_then slots_taken (slice_get xs k) ≡ Some new)
    × (option_and_then slots_taken (slice_get xs k) ≡ Some new → (get_or xs k d).is_taken ≡ true)
untaken_are xs d k new within untaken =
    let kept = entry_is xs d k false within untaken in
    (λ e. absurd cc, λ e. absurd cc)
