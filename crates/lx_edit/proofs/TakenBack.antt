-- What takes a plan back makes the show before of the one after.
use Rattle.lx_edit.proofs.Imports.{◌≡◌, ℕ, ◌<◌, ◌≤◌, Bool, true, false, List, length, Some, None, refl, ◌∙◌, sym, ap, subst, arith}
use Rattle.lx_edit.proofs.Imports.{Option, IfSome, IsTrue, is_some, ◌||◌, nat_lt, false≢true, length-append, CUES, entry_at, has_entry}
use Rattle.lx_edit.proofs.Imports.{AllByRecursion, IsStrictlySorted, taken_out, entries_below, entries_above, Cue, Show, Valid, ValidCue}
use Rattle.lx_edit.proofs.Imports.{cue_of, tracked, with_cue, lt_true, below_and_above, entry_at-placed_here, entry_at-placed_other, find_has, found_number}
use Rattle.lx_edit.proofs.Imports.{found_valid, has_placed, length-placed_there, one_between, exchanged_at, CanExchange, CanPlace, IsAbove}
use Rattle.lx_edit.proofs.Imports.{changed_show, with_above, TakesBack, cue_instead}
use Rattle.lx_edit.specs.declared.plans.Plan.TheVariants as plans
use Rattle.lx_edit.proofs.ChangedColumns.{IsAlone}
use Rattle.lx_edit.proofs.Lists.{if_found, with_some}
use Rattle.lx_edit.proofs.SameLists.{exchanged_back, exchanged_here, exchanged_other, both_back, found_here}

or_right : (a b : Bool) → b ≡ true → IsTrue (a || b)
or_right true b is = refl
or_right false b is = is

-- the cue above, where there is one, isn't the one of the number
cue_with_above : (show one : Show) (n : ℕ) (above : Option Cue) → IfSome above (IsAbove show n)
    → cue_of (with_above above one) n ≡ cue_of one n
cue_with_above show one n None here = refl
cue_with_above show one n (Some above) here =
    let higher : n < above.number = here.higher in
    entry_at-placed_other (λ (x : Cue). x.number) n above one.cues (λ same. omega (arith, higher, same))

-- nor the other way round
above_stays : (show one : Show) (n : ℕ) (new : Option Cue) (above : Cue) → IfSome new (λ cue. cue.number ≡ n) → IsAbove show n above
    → cue_of (changed_show one n new) above.number ≡ cue_of one above.number
above_stays show one n new above number here =
    let higher : n < above.number = here.higher in
    exchanged_other (λ (x : Cue). x.number) n above.number new one.cues number (λ same. omega (arith, higher, same))

-- with the cue above the cues are no more
no_more : (show : Show) (n : ℕ) (above : Option Cue) → IfSome above (IsAbove show n)
    → length (with_above above (changed_show show n None)).cues ≤ length (changed_show show n None).cues
no_more show n None here = omega arith
no_more show n (Some above) here = length-placed_there (λ (x : Cue). x.number) above (changed_show show n None).cues
    (subst (λ (o : Option Cue). IsTrue (is_some o)) (sym (above_stays show show n None above tt here)) here.there)

-- there is room for a cue that was changed, or went
room_for : (show : Show) (n : ℕ) (new above : Option Cue) (old : Cue) → Valid show → cue_of show n ≡ Some old
    → IfSome new (λ cue. cue.number ≡ n) → IfSome above (IsAbove show n)
    → IsTrue (has_entry (λ x. x.number) n (with_above above (changed_show show n new)).cues
    || nat_lt (length (with_above above (changed_show show n new)).cues) CUES)
room_for show n None above old valid is number here =
    let key : Cue → ℕ = λ x. x.number in
    let rest : List Cue = taken_out key n show.cues in
    let less : length rest < length show.cues = omega (
      arith,
      one_between key n show.cues (ap is_some is),
      length-append (entries_below key n show.cues) (entries_above key n show.cues),
      ap length (below_and_above key n show.cues valid.cues_sorted),
    ) in
    let most : length show.cues ≤ CUES = valid.few_cues in
    or_right _ _ (lt_true (length (with_above above (changed_show show n None)).cues) CUES (omega (arith, less, most, no_more show n above here)))
room_for show n (Some new) above old valid is number here =
    rw (cue_with_above show (with_cue show new) n above here, exchanged_here (λ (x : Cue). x.number) n (Some new) show.cues number) refl

-- a cue of the show may be placed in another one where there is room for its number
found_fits : (show after : Show) (n : ℕ) (cue : Cue) → Valid show → cue_of show n ≡ Some cue → after.channels ≡ show.channels
    → IsTrue (has_entry (λ x. x.number) n after.cues || nat_lt (length after.cues) CUES) → CanPlace after cue
found_fits show after n cue valid is channels room = record {
  valid = subst (λ k. ValidCue k cue) (sym channels)
      (found_valid (ValidCue show.channels) (λ (x : Cue). x.number) n show.cues cue valid.cues is);
  room = subst (λ k. IsTrue (has_entry (λ (x : Cue). x.number) k after.cues || nat_lt (length after.cues) CUES))
      (found_number (λ (x : Cue). x.number) n show.cues cue is) room;
}

-- a cue changed or taken out, back again; and with the one above it that was placed
cue_back : (show : Show) (n : ℕ) (new above : Option Cue) → Valid show → 1 ≤ n → IfSome new (λ cue. cue.number ≡ n)
    → IfSome above (IsAbove show n)
    → TakesBack show (with_above above (changed_show show n new)) (plans.Cue n (cue_of show n) (cue_instead show above) false)
cue_back show n new None valid least number here = record {
  ready = record {
    least = least;
    number = found_here (λ (x : Cue). x.number) n show.cues;
    fits = if_found (cue_of show n) (λ old is.
        found_fits show (changed_show show n new) n old valid is refl (room_for show n new None old valid is number tt));
    above_fits = tt;
    higher = tt;
    kept = λ is. absurd (false≢true is);
  };
  back = ap (λ (cues : List Cue). record show { cues = cues })
      (exchanged_back (λ (x : Cue). x.number) n new (cue_of show n) show.cues refl valid.cues_sorted number);
}
cue_back show n new (Some above) valid least number here = with_some (cue_of show above.number) here.there (λ old is.
    let key : Cue → ℕ = λ x. x.number in
    let after : Show = with_cue (changed_show show n new) above in
    let there : cue_of after above.number ≡ Some above = entry_at-placed_here key above.number above (changed_show show n new).cues refl in
    let was : IfSome (cue_of show n) (λ cue. cue.number ≡ n) = found_here key n show.cues in
    let higher : n < above.number = here.higher in
    let same : above.number ≡ old.number = found_number key above.number show.cues old is in
    let all : TakesBack show after (plans.Cue n (cue_of show n) (Some old) false) = record {
      ready = record {
        least = least;
        number = was;
        fits = if_found (cue_of show n) (λ first first_is.
            found_fits show after n first valid first_is refl (room_for show n new (Some above) first valid first_is number here));
        above_fits = found_fits show (changed_show after n (cue_of show n)) above.number old valid is refl
            (rw (above_stays show after n (cue_of show n) above was here, there) refl);
        higher = record { there = rw (← same, there) refl; higher = omega (arith, higher, same) };
        kept = λ is. absurd (false≢true is);
      };
      back = ap (λ (cues : List Cue). record show { cues = cues })
          (both_back key n new above old show.cues valid.cues_sorted number (λ e. omega (arith, higher, e)) is);
    } in
    subst (λ (o : Option Cue). TakesBack show after (plans.Cue n (cue_of show n) o false)) (sym is) all)

instead_stays : (show : Show) (n : ℕ) (new above : Option Cue) → IfSome new (λ cue. cue.number ≡ n) → IfSome above (IsAbove show n)
    → cue_instead (changed_show show n new) above ≡ cue_instead show above
instead_stays show n new None number here = refl
instead_stays show n new (Some above) number here = above_stays show show n new above number here

-- a cue changed or taken out, and then the one above placed
pub cues_back : (show one after : Show) (n : ℕ) (new above old old_above : Option Cue) → one ≡ changed_show show n new
    → after ≡ with_above above one → old ≡ cue_of show n → old_above ≡ cue_instead one above → Valid show → CanExchange show n new above false
    → TakesBack show after (plans.Cue n old old_above false)
cues_back show one after n new above old old_above one_is is old_is above_is valid ready =
    rw (is, old_is, above_is, one_is, instead_stays show n new above ready.number ready.higher)
    (cue_back show n new above valid ready.least ready.number ready.higher)

-- where the cue above keeps its levels it does so on the way back
pub alone_back : {show one after : Show} {cue above : Cue} {n end : ℕ} {old old_above : Option Cue} → IsAlone show cue above n end
    → one ≡ with_cue show cue → after ≡ with_cue one above → old ≡ cue_of show n → old_above ≡ cue_of one end
    → TakesBack show after (plans.Cue n old old_above true)
alone_back {show} {one} {after} {cue} {above} {n} {end} {old} {old_above} a one_is is old_is above_is =
    let key : Cue → ℕ = λ x. x.number in
    let keeps = a.keeps in
    let here : IsAbove show n above = record { there = keeps.above; higher = keeps.higher } in
    let all : TakesBack show (with_cue (with_cue show cue) above) (plans.Cue n (cue_of show n) (cue_of show above.number) true) =
    with_some (cue_of show n) keeps.cue (λ first first_is. with_some (cue_of show above.number) keeps.above (λ second second_is.
    let takes : TakesBack show (with_cue (with_cue show cue) above) (plans.Cue n (Some first) (Some second) false) =
    rw (← first_is, ← second_is) (cue_back show n (Some cue) (Some above) a.valid a.least a.number here) in
    let same : above.number ≡ second.number = found_number key above.number show.cues second second_is in
    rw (first_is, second_is) (record {
      ready = record {
        least = takes.ready.least;
        number = takes.ready.number;
        fits = takes.ready.fits;
        above_fits = takes.ready.above_fits;
        higher = takes.ready.higher;
        kept = λ kept. record {
          cue = has_placed key n above (with_cue show cue).cues (has_placed key n cue show.cues keeps.cue);
          above = takes.ready.higher.there;
          higher = takes.ready.higher.higher;
          levels = λ m c range le. ap (λ (s : Show). tracked s m c) takes.back
              ∙ sym (keeps.levels m c range (subst (λ k. k ≤ m) (sym same) le));
        };
      };
      back = takes.back;
    }))) in
    rw (is, old_is, above_is, one_is, ← a.end_is, above_stays show show n (Some cue) above a.number here) all

-- an entry changed, or gone, and back again: of groups, submasters and patch rows
pub record GoesBack {A : Type 0} (key : A → ℕ) (P : A → Type 0) (n : ℕ) (new : Option A) (xs : List A) : Type 0 where
  pub ready : IfSome (entry_at key n xs) (λ x. key x ≡ n) × IfSome (entry_at key n xs) P
  pub back : exchanged_at key n (entry_at key n xs) (exchanged_at key n new xs) ≡ xs

pub goes_back : {A : Type 0} (key : A → ℕ) (P : A → Type 0) (n : ℕ) (new : Option A) (xs : List A) → AllByRecursion P xs
    → IsStrictlySorted key xs → IfSome new (λ x. key x ≡ n) → GoesBack key P n new xs
goes_back key P n new xs valid sorted number =
    record { ready = (found_here key n xs, find_has P _ xs valid); back = exchanged_back key n new _ xs refl sorted number }
