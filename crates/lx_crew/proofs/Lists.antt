-- Lists of entries.
use Rattle.lx_crew.proofs.Imports.{◌≡◌, ◌≢◌, ℕ, ◌+◌, ◌==◌, ◌||◌, true, false, List, [], ◌∷◌, ◌++◌, length, None, sym, refl}
use Rattle.lx_crew.proofs.Imports.{append-nil, eq-eqb, ne_eqb, arith, filter-append, length-replicate, LINE_BYTES, line_of, meaning_is, Message, Sent}
use Rattle.lx_crew.proofs.Imports.{Line, LongLine, End, ReadFault, InputTooLong, long_line, of_place, Numbered, HasText, is_last, has_last}
use Rattle.std.proofs.lemmas.Bool.{or_left, or_right}

-- the text that stands for those of lines that are too long is bad
pub long_means : line_of long_line ≡ None
long_means = sym (meaning_is None long_line (omega (arith, length-replicate {A = ℕ} (LINE_BYTES + 1) 0)))

pub of_mine : (k : ℕ) (xs : List Message) (e : Message) → e.place ≡ k → of_place k (xs ++ e ∷ []) ≡ of_place k xs ++ e ∷ []
of_mine k xs e h = rw (filter-append (λ (x : Message). x.place == k) xs (e ∷ []), eq-eqb e.place k h) refl

pub of_other : (k : ℕ) (xs : List Message) (e : Message) → e.place ≢ k → of_place k (xs ++ e ∷ []) ≡ of_place k xs
of_other k xs e h = rw (filter-append (λ (x : Message). x.place == k) xs (e ∷ []), ne_eqb e.place k h) (append-nil (of_place k xs))

pub numbered_snoc : (n : ℕ) (xs : List Message) (e : Message) → Numbered n xs → e.number ≡ n + length xs → Numbered n (xs ++ e ∷ [])
numbered_snoc n [] e h is = (omega (arith, is), tt)
numbered_snoc n (x ∷ xs) e h is = (h.0, numbered_snoc (n + 1) xs e h.1 (omega (arith, is)))

pub none_both : (xs ys : List Message) → xs ++ ys ≡ [] → (xs ≡ []) × (ys ≡ [])
none_both [] ys e = (refl, e)
none_both (x ∷ xs) ys e = absurd cc

-- an entry that has a line is no last one
pub text_not_last : (s : Sent) (text : List ℕ) → HasText s text → is_last s ≡ false
text_not_last (Line l) text h = refl
text_not_last LongLine text h = refl
text_not_last End text h = absurd h
text_not_last ReadFault text h = absurd h
text_not_last InputTooLong text h = absurd h

last-append : (xs ys : List Message) → has_last (xs ++ ys) ≡ (has_last xs || has_last ys)
last-append [] ys = refl
last-append (x ∷ xs) ys = elim (is_last x.sent) as (λ b. (b || has_last (xs ++ ys)) ≡ ((b || has_last xs) || has_last ys))
    [ true ↦ refl | false ↦ last-append xs ys ]

-- an end of operator k stays, also behind one more entry
pub last_on : (k : ℕ) (xs : List Message) (e : Message) → has_last (of_place k xs) ≡ true → has_last (of_place k (xs ++ e ∷ [])) ≡ true
last_on k xs e h = rw (filter-append (λ (x : Message). x.place == k) xs (e ∷ []), last-append, h) refl

pub last_here : (k : ℕ) (xs : List Message) (e : Message) → e.place ≡ k → is_last e.sent ≡ true → has_last (of_place k (xs ++ e ∷ [])) ≡ true
last_here k xs e own last = rw (of_mine k xs e own, last-append)
    (or_right (has_last (of_place k xs)) (has_last (e ∷ [])) (or_left (is_last e.sent) false last))
