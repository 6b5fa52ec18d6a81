-- Where lines are cut off.
use Rattle.lx_lex.proofs.Imports.{◌≡◌, ◌⊎◌, inl, inr, ℕ, zero, suc, ◌+◌, ◌-◌, ◌≤◌, ◌<◌, Bool, true, false, Some, None, IfSome}
use Rattle.lx_lex.proofs.Imports.{List, [], ◌∷◌, ◌++◌, length, take, refl, sym, ap, ◌∙◌, append-nil, append_assoc, arith, prepend_known}
use Rattle.lx_lex.proofs.Imports.{INPUT_BYTES, HasNoFeed, feeds, first_lines, CutOff, Lines, ReadFault, InputTooLong, feed_of, BytesBetween, LinesBetween}
use Rattle.lx_lex.proofs.Imports.{StepOf, held, unread, current_line, ToldBySource}
use Rattle.std.proofs.Common.{Option}
use Rattle.std.proofs.lemmas.List.{take-append-le}
use Rattle.lx_lex.specs.CutOff.{NotTaken}

-- the next line wasn't taken: a read failed, or the input is too long
pub not_read : {S : Type 0} (told : ToldBySource S) (old new : Lines S)
    → StepOf ReadFault (unread told old) (unread told new) old.taken new.taken (current_line new) → held new ≡ [] → NotTaken told old new
not_read told old new step none = record { raw = step.0; fed = false; took = step.1; stop = inr (refl, none) }

pub too_long : {S : Type 0} (told : ToldBySource S) (old new : Lines S)
    → StepOf InputTooLong (unread told old) (unread told new) old.taken new.taken (current_line new) → NotTaken told old new
too_long told old new step = record { raw = step.0; fed = step.1; took = step.2; stop = inl step.3 }

no_feed-take : (k : ℕ) (xs : List ℕ) → HasNoFeed xs → HasNoFeed (take k xs)
no_feed-take zero xs h = tt
no_feed-take (suc k) [] h = tt
no_feed-take (suc k) (x ∷ xs) h = (h.0, no_feed-take k xs h.1)

-- no LF is among the first bytes, where they are those of the line
no_feed-line : (k : ℕ) (raw more : List ℕ) (fed : Bool) → HasNoFeed raw → (k ≤ length raw) ⊎ ((fed ≡ false) × (more ≡ []))
    → HasNoFeed (take k ((raw ++ feed_of fed) ++ more))
no_feed-line k raw more fed h (inl le) = rw (append_assoc, take-append-le k raw (feed_of fed ++ more) le) (no_feed-take k raw h)
no_feed-line k raw more fed h (inr (unfed, none)) = rw (unfed, none, append-nil, append-nil) (no_feed-take k raw h)

one_feed : (fed : Bool) → length (feed_of fed) ≤ 1
one_feed true = omega arith
one_feed false = omega arith

-- where these lines were handed out and the next one wasn't taken
cut_at : (a b o : Option (List ℕ)) (i j k : ℕ) (more : List ℕ) (raws : List (List ℕ)) (raw : List ℕ) (fed : Bool)
    → LinesBetween a b i j raws → BytesBetween b (prepend_known more o) j k raw fed → (INPUT_BYTES < k) ⊎ ((fed ≡ false) × (more ≡ []))
    → IfSome a (λ xs. (cut : CutOff i xs o) × (cut.lines ≡ length raws))
cut_at None b o i j k more raws raw fed p q stop = tt
cut_at (Some x) None o i j k more raws raw fed p q stop = absurd p.took
cut_at (Some x) (Some y) None i j k more raws raw fed p q stop = absurd q.bytes
cut_at (Some x) (Some y) (Some z) i j k more raws raw fed p q stop = (
  record {
    lines = length raws;
    next = (raw ++ feed_of fed) ++ more;
    taken = p.took ∙ ap (λ v. v ++ y) p.front
        ∙ ap (λ v. first_lines (length raws) x ++ v) (q.bytes ∙ sym (append_assoc (raw ++ feed_of fed) more z));
    within = omega (arith, p.count, ap length p.front, p.within);
    fed = elim p.fed [
      | inl all ↦ inl (ap feeds (sym p.front) ∙ all)
      | inr end ↦ inr (append_assoc (raw ++ feed_of fed) more z ∙ sym q.bytes ∙ end)
    ];
    no_feed = no_feed-line (INPUT_BYTES - (i + length (first_lines (length raws) x))) raw more fed q.no_feed (elim stop [
      | inl past ↦ inl (omega (arith, past, p.count, q.count, ap length p.front, p.within, one_feed fed))
      | inr held ↦ inr held
    ]);
  },
  refl,
)

pub cut_off : {S : Type 0} (told : ToldBySource S) (a b c : Lines S) (raws : List (List ℕ))
    → LinesBetween (unread told a) (unread told b) a.taken b.taken raws → NotTaken told b c
    → IfSome (unread told a) (λ xs. (cut : CutOff a.taken xs (told.left c.source.now)) × (cut.lines ≡ length raws))
cut_off told a b c raws p n = cut_at (unread told a) (unread told b) (told.left c.source.now) a.taken b.taken c.taken (held c) raws n.raw n.fed p
    n.took n.stop
