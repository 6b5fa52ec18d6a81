-- How far a line has been read and what was read for it, and how its step ends.
use Rattle.lx_lex.proofs.Imports.{◌≡◌, ◌⊎◌, inl, inr, ℕ, ◌<◌, ◌≤◌, true, false, List, [], ◌++◌, length, take, Some, None, refl, sym}
use Rattle.lx_lex.proofs.Imports.{◌∙◌, ap, subst, arith, nil_from_length, Option, Consumes, Consumes-trans, IsAtEnd, Bool, INPUT_BYTES}
use Rattle.lx_lex.proofs.Imports.{HasNoFeed, Lines, Step, Line, LongLine, ReadFault, InputTooLong, BytesBetween, ReadsWhileUnfed, HasStepCause}
use Rattle.lx_lex.proofs.Imports.{held, has_feed, unread, current_line, ToldBySource, cases_Bool, without_cr, LineBetween, StepOf, EndOf, EndsInFeed}
use Rattle.lx_lex.proofs.Imports.{feed_of}
use Rattle.lx_lex.specs.declared.lines.Step.TheVariants.{End}
use Rattle.lx_io.specs.Causes.{Rose}
use Rattle.lx_lex.specs.Advanced.{Advanced, Judged}
use Rattle.lx_lex.specs.Kept.{Keeps}
use Rattle.lx_lex.proofs.Feeds.{no_feed-from}
use Rattle.lx_lex.proofs.Progress.{HasNoFeed-append, bytes_more, bytes_kept, keeps_more}

Consumes-none : (a : Option (List ℕ)) → Consumes a a []
Consumes-none None = tt
Consumes-none (Some xs) = refl

-- no fault is passed over by a step that tells none
no_fault : (step : Step) {before now : ℕ} → (step ≡ ReadFault → ⊥) → now ≡ before → HasStepCause step before now
no_fault ReadFault other e = absurd (other refl)
no_fault step other e = record { later = omega (arith, e); failed = λ is. absurd (other is); kept = e }

-- where no byte was taken and nothing is left, nothing was left before
ended_before : (a b : Option (List ℕ)) {i j : ℕ} {raw : List ℕ} → BytesBetween a b i j raw false → j ≡ i → IsAtEnd b → IsAtEnd a
ended_before None b took same none = tt
ended_before (Some xs) None took same none = absurd took.bytes
ended_before (Some xs) (Some ys) {raw = raw} took same none =
    let empty : raw ≡ [] = nil_from_length raw (omega (arith, took.count, same)) in
    took.bytes ∙ ap (λ r. (r ++ []) ++ ys) empty ∙ none

-- the step that hands a line out
judged_step : (step : Step) (out : List ℕ) {total given : ℕ} {a b : Option (List ℕ)} {i j : ℕ} {raw before line : List ℕ}
    → Judged step total (take total line) out → Keeps raw before line 0 total → LineBetween a b i j raw → EndsInFeed a b ⊎ (given ≡ 0)
    → StepOf step a b i j out × EndOf step a b given
judged_step Line out {raw = raw} judged keeps row end =
    let few : length (without_cr raw) ≤ 4096 = omega (arith, keeps.count, judged.0) in
    ((raw, row, judged.1 ∙ keeps.bytes judged.0, few), end)
judged_step LongLine out {raw = raw} judged keeps row end =
    let many : 4096 < length (without_cr raw) = omega (arith, keeps.count, judged.0) in ((raw, row, judged.1, many), end)
judged_step step out judged keeps row end = absurd judged

-- what was read has no LF
pub record Unfed (a b : Option (List ℕ)) : Type 0 where
  pub front : List ℕ
  pub took : Consumes a b front
  pub no_feed : HasNoFeed front

-- bytes of the next line were taken, and its LF where `fed` says so; those that count are kept; and an LF of those that are held, if
-- there is one, as `next` says, was all that could be waited for
pub record Stands {S : Type 0} (told : ToldBySource S) (old now : Lines S) (total : ℕ) (fed next : Bool) : Type 0 where
  pub raw : List ℕ
  pub took : BytesBetween (unread told old) (unread told now) old.taken now.taken raw fed
  pub keeps : Keeps raw old.line now.line 0 total
  pub reads : ReadsWhileUnfed (told.left old.source.now) (told.left now.source.now) (told.given now.source.now)
  pub unfed : next ≡ false → Unfed (told.left old.source.now) (told.left now.source.now)
  pub untouched : has_feed (held old) ≡ true → (now.source.now ≡ old.source.now) × (next ≡ true)

module _ {S : Type 0} {told : ToldBySource S} where
  pub begins : (l : Lines S) → Stands told l l 0 false (has_feed (held l))
  begins l =
      let none = Consumes-none (told.left l.source.now) in
      record {
        raw = [];
        took = record { no_feed = tt; bytes = Consumes-none (unread told l); count = omega arith };
        keeps = record { count = omega arith; bytes = λ le. refl };
        reads = record { front = []; last = []; took = none; no_feed = tt; within = omega arith };
        unfed = λ is. record { front = []; took = none; no_feed = tt };
        untouched = λ is. (refl, is);
      }

  module _ {old : Lines S} where
    -- what is held of the line is taken
    pub taken : {now : Lines S} {total count : ℕ} {fed next : Bool} {raw : List ℕ} (new : Lines S) → Stands told old now total false next
        → BytesBetween (unread told now) (unread told new) now.taken new.taken raw fed → Keeps raw now.line new.line total count
        → new.source.now ≡ now.source.now → fed ≡ next → Stands told old new count fed fed
    taken {raw = raw} new p took keeps same is = record {
      raw = p.raw ++ raw;
      took = bytes_more p.took took;
      keeps = keeps_more p.keeps keeps;
      reads = subst (λ s. ReadsWhileUnfed (told.left old.source.now) (told.left s) (told.given s)) (sym same) p.reads;
      unfed = λ none. subst (λ s. Unfed (told.left old.source.now) (told.left s)) (sym same) (p.unfed (sym is ∙ none));
      untouched = λ fed. (same ∙ (p.untouched fed).0, is ∙ (p.untouched fed).1);
    }

    module _ {now : Lines S} {count : ℕ} {fed : Bool} (p : Stands told old now count fed fed) (none : fed ≡ false) where
      -- none was held at first, where none is found
      pub not_held : has_feed (held old) ≡ false
      not_held = elim (cases_Bool (has_feed (held old))) [ inl is ↦ absurd (let odd = (p.untouched is).1 in cc) | inr odd ↦ odd ]

      -- and then more was read
      pub refilled : (new : Lines S) → Consumes (unread told now) (unread told new) [] → new.taken ≡ now.taken → new.line ≡ now.line
          → Consumes (told.left now.source.now) (told.left new.source.now) (held new) → length (held new) ≤ told.given new.source.now
          → Stands told old new count false (has_feed (held new))
      refilled new kept same line read within =
          let u = p.unfed none in
          let took = Consumes-trans (told.left old.source.now) (told.left now.source.now) (told.left new.source.now) u.front (held new) u.took read in
          record {
            raw = p.raw;
            took = bytes_kept (unread told new) new.taken (subst (λ b. BytesBetween (unread told old) (unread told now) old.taken now.taken p.raw b) none p.took) kept same;
            keeps = subst (λ l. Keeps p.raw old.line l 0 count) (sym line) p.keeps;
            reads = record { front = u.front; last = held new; took = took; no_feed = u.no_feed; within = within };
            unfed = λ is. record {
              front = u.front ++ held new;
              took = took;
              no_feed = HasNoFeed-append u.front (held new) u.no_feed (no_feed-from (held new) is);
            };
            untouched = λ is. absurd (let odd = not_held in cc);
          }

    module _ {now : Lines S} {count : ℕ} {fed next : Bool} (p : Stands told old now count fed next) where
      pub too_long : told.faults now.source.now ≡ told.faults old.source.now → INPUT_BYTES < now.taken → current_line now ≡ []
          → Advanced told old now InputTooLong
      too_long kept past none = record {
        step = (p.raw, fed, p.took, past, none);
        untouched = λ is. (p.untouched is).0;
        cause = no_fault InputTooLong (λ odd. cc) kept;
        unfed = p.reads;
        ended = tt;
        unfed_fault = λ odd. cc;
      }

      pub handed : (step : Step) (out : Lines S)
          → (fed ≡ true) ⊎ (IsAtEnd (unread told now) × ((0 < length p.raw) × (told.given now.source.now ≡ 0)))
          → told.faults now.source.now ≡ told.faults old.source.now → now.taken ≤ INPUT_BYTES → unread told out ≡ unread told now
          → out.source.now ≡ now.source.now → out.taken ≡ now.taken → Judged step count (take count now.line) (current_line out)
          → Advanced told old out step
      handed step out ended kept within same source all judged =
          let took : BytesBetween (unread told old) (unread told out) old.taken out.taken p.raw fed =
          subst (λ v. BytesBetween (unread told old) v old.taken out.taken p.raw fed) (sym same)
          (subst (λ k. BytesBetween (unread told old) (unread told now) old.taken k p.raw fed) (sym all) p.took) in
          let none : step ≡ ReadFault → ⊥ = λ is. subst (λ s. Judged s count (take count now.line) (current_line out)) is judged in
          let row : LineBetween (unread told old) (unread told out) old.taken out.taken p.raw = record {
            fed = fed;
            took = took;
            ended = elim ended [ inl is ↦ inl is | inr end ↦ inr (subst IsAtEnd (sym same) end.0, end.1.0) ];
            within = omega (arith, all, within);
          } in
          let end : EndsInFeed (unread told old) (unread told out) ⊎ (told.given out.source.now ≡ 0) = elim ended [
            | inl is ↦ inl (p.raw, subst (λ b. Consumes (unread told old) (unread told out) (p.raw ++ feed_of b)) is took.bytes)
            | inr end ↦ inr (ap told.given source ∙ end.1.1)
          ] in
          let done = judged_step step (current_line out) judged p.keeps row end in
          record {
            step = done.0;
            untouched = λ is. source ∙ (p.untouched is).0;
            cause = no_fault step none (ap told.faults source ∙ kept);
            unfed = subst (λ s. ReadsWhileUnfed (told.left old.source.now) (told.left s) (told.given s)) (sym source) p.reads;
            ended = done.1;
            unfed_fault = λ is. absurd (none is);
          }

    module _ {now : Lines S} {count : ℕ} {next : Bool} (p : Stands told old now count false next) (before : has_feed (held old) ≡ false) where
      pub failed : told.faults old.source.now ≤ told.faults now.source.now → Rose (told.faults old.source.now) (told.faults now.source.now)
          → now.taken ≤ INPUT_BYTES → current_line now ≡ [] → Advanced told old now ReadFault
      failed later rose within none = record {
        step = (p.raw, p.took, within, none);
        untouched = λ is. (p.untouched is).0;
        cause = record { later = later; failed = λ is. rose; kept = tt };
        unfed = p.reads;
        ended = tt;
        unfed_fault = λ is. before;
      }

      pub at_end : told.faults now.source.now ≡ told.faults old.source.now → now.taken ≡ old.taken → IsAtEnd (unread told now)
          → current_line now ≡ [] → Advanced told old now End
      at_end kept same end none = record {
        step = (ended_before (unread told old) (unread told now) p.took same end, none);
        untouched = λ is. (p.untouched is).0;
        cause = no_fault End (λ odd. cc) kept;
        unfed = p.reads;
        ended = end;
        unfed_fault = λ odd. cc;
      }
