-- A text that takes a reading on: what its lines make of the show.
use Rattle.lx_text_laws.proofs.Imports.{◌≡◌, ℕ, ◌+◌, ◌<◌, ◌≤◌, true, false, cond, Some, Ok, List, [], ◌∷◌, ◌++◌, map, max, flat_map, fold, refl}
use Rattle.lx_text_laws.proofs.Imports.{AllByRecursion, list_all, length, length-append, IsStrictlySorted, arith, ap, ◌∙◌, sym, subst, append_assoc}
use Rattle.lx_text_laws.proofs.Imports.{append-nil, lines_of, Section, Entry, Begins, is_end, entry_of, channels_named, Show, line, spaced, placed}
use Rattle.lx_text_laws.proofs.Imports.{has_entry, ReadingState, first_state, state_after, facts_in, ReadSoFar, read_none, read_more}
use Rattle.lx_show.specs.ChangedEntry.{changed}
use Rattle.lx_spec.proofs.SortedLists.{goes_between, stands_between, below_seam, all_at_seam}
use Rattle.lx_text_laws.proofs.Tokens.{stays, lines_of-line}
use Rattle.lx_text_laws.proofs.LineTexts.{Line}

-- The text comes to the state, whatever follows it.
pub record Reached (text : List ℕ) (t : ReadingState) : Type 0 where
  pub lines : List (List ℕ)
  pub number : ℕ
  pub cut : (rest : List ℕ) → lines_of (text ++ rest) ≡ lines ++ lines_of rest
  pub so_far : ReadSoFar lines number t

pub reached_none : Reached [] first_state
reached_none = record { lines = []; number = 1; cut = λ rest. refl; so_far = read_none }

-- one more line
pub reached_line : {text : List ℕ} {t : ReadingState} {e : Entry} (r : Reached text t) (body : List ℕ) → list_all stays body ≡ true
    → entry_of (facts_in t r.number) body ≡ Ok e → is_end e ≡ false → Reached (text ++ (body ++ 10 ∷ [])) (state_after r.number e t)
reached_line {text} r body all says goes_on = record {
  lines = r.lines ++ body ∷ [];
  number = r.number + 1;
  cut = λ rest. simp append_assoc (r.cut (body ++ 10 ∷ rest) ∙ ap (λ v. r.lines ++ v) (lines_of-line body rest all));
  so_far = read_more r.so_far body says goes_on;
}

-- the state within a show of so many channels, after a line SET CHANNELS k
abbrev pub stage : ℕ → ℕ → Show → Section → ℕ → ReadingState
stage k count show s p = record {
  show = record show { channels = count };
  channels_set = Some k;
  skipped = 0;
  first_skipped = 0;
  identified = true;
  section = s;
  part = p;
}

-- the text comes to this show, but for its count of channels, which is no more than k
pub record Stands (k : ℕ) (text : List ℕ) (show : Show) (s : Section) (p : ℕ) : Type 0 where
  pub count : ℕ
  pub most : count ≤ k
  pub reached : Reached text (stage k count show s p)

-- a text takes a reading from one show to another
pub record Takes (k : ℕ) (show : Show) (s : Section) (p : ℕ) (text : List ℕ) (show' : Show) (s' : Section) (p' : ℕ) : Type 0 where
  pub takes : (front : List ℕ) → Stands k front show s p → Stands k (front ++ text) show' s' p'

pub takes_none : {k p : ℕ} {show : Show} {s : Section} → Takes k show s p [] show s p
takes_none = record { takes = λ front stands. rw append-nil stands }

infixl 20 ◌and◌
pub ◌and◌ : {k p p' p'' : ℕ} {show show' show'' : Show} {s s' s'' : Section} {a b : List ℕ} → Takes k show s p a show' s' p'
    → Takes k show' s' p' b show'' s'' p'' → Takes k show s p (a ++ b) show'' s'' p''
◌and◌ {a = a} {b = b} one other =
    record { takes = λ front stands. rw (← append_assoc front a b) (other.takes (front ++ a) (one.takes front stands)) }

greatest_most : (k n : ℕ) (cs : List ℕ) → n ≤ k → AllByRecursion (λ c. c ≤ k) cs → fold max n cs ≤ k
greatest_most k n [] most all = most
greatest_most k n (c ∷ cs) most all = let here = all.0 in greatest_most k (max n c) cs (omega (arith, most, here)) all.1

pub takes_line : {k p p' : ℕ} {show show' : Show} {s s' : Section} {words : List (List ℕ)} {e : Entry}
    → Line s p (map (λ cue. cue.number) show.cues) words e → AllByRecursion (λ c. c ≤ k) (channels_named e)
    → ((i count : ℕ) → state_after i e (stage k count show s p) ≡ stage k (fold max count (channels_named e)) show' s' p')
    → Takes k show s p (line words) show' s' p'
takes_line {words = words} {e = e} says low after = record {
  takes = λ front stands. record {
    count = fold max stands.count (channels_named e);
    most = greatest_most _ stands.count (channels_named e) stands.most low;
    reached = subst (Reached (front ++ line words)) (after stands.reached.number stands.count)
        (reached_line stands.reached (spaced words) says.stays_all (says.is stands.reached.number) says.goes_on);
  };
}

-- A record of a sorted list begins behind the others, and what its lines say changes it.
module _ {A : Type 0} (key : A → ℕ) (done : List A) (x : A) (low : AllByRecursion (λ y. key y < key x) done) where
  pub last_placed : placed key x done ≡ done ++ x ∷ []
  last_placed = let cut = simp append-nil at (goes_between key (key x) done [] low tt) in λ j. cut.0 j ++ x ∷ cut.2 j

  pub last_begun : cond (has_entry key (key x) done) done (placed key x done) ≡ done ++ x ∷ []
  last_begun = let cut = simp append-nil at (goes_between key (key x) done [] low tt) in rw cut.1 last_placed

  pub last_changed : (change : A → A) → key (change x) ≡ key x → changed key (key x) change (done ++ x ∷ []) ≡ done ++ change x ∷ []
  last_changed change same = let cut = stands_between key (key x) done [] x low refl tt in rw (cut.1, same, cut.0, cut.2) refl

  module _ {k : ℕ} (put : List A → Show) (section : ℕ → Section) where
    pub record_begins : {s : Section} {p : ℕ} {words : List (List ℕ)}
        → Line s p (map (λ cue. cue.number) (put done).cues) words (Begins (section (key x)))
        → ((i count : ℕ) → state_after i (Begins (section (key x))) (stage k count (put done) s p)
        ≡ stage k count (put (cond (has_entry key (key x) done) done (placed key x done))) (section (key x)) 1)
        → Takes k (put done) s p (line words) (put (done ++ x ∷ [])) (section (key x)) 1
    record_begins says after =
        takes_line says tt (λ i count. after i count ∙ (λ j. stage k count (put (last_begun j)) (section (key x)) 1))

    pub record_says : {p p' : ℕ} {words : List (List ℕ)} {e : Entry} (change : A → A) → key (change x) ≡ key x
        → Line (section (key x)) p (map (λ cue. cue.number) (put (done ++ x ∷ [])).cues) words e
        → AllByRecursion (λ c. c ≤ k) (channels_named e)
        → ((i count : ℕ) (xs : List A) → state_after i e (stage k count (put xs) (section (key x)) p)
        ≡ stage k (fold max count (channels_named e)) (put (changed key (key x) change xs)) (section (key x)) p')
        → Takes k (put (done ++ x ∷ [])) (section (key x)) p (line words) (put (done ++ change x ∷ [])) (section (key x)) p'
    record_says {p' = q} {e = e} change same says most after =
        takes_line says most (λ i count. after i count (done ++ x ∷ [])
        ∙ (λ j. stage k (fold max count (channels_named e)) (put (last_changed change same j)) (section (key x)) q))

-- the text comes to this show, in whatever section and part
pub record Rests (k : ℕ) (text : List ℕ) (show : Show) : Type 0 where
  pub section : Section
  pub part : ℕ
  pub stands : Stands k text show section part

-- so a text takes a reading on whose place doesn't matter
pub record Adds (k : ℕ) (show : Show) (text : List ℕ) (show' : Show) : Type 0 where
  pub adds : (front : List ℕ) → Rests k front show → Rests k (front ++ text) show'

pub record_adds : {k p' : ℕ} {show show' : Show} {text : List ℕ} {s' : Section}
    → ((s : Section) (p : ℕ) → Takes k show s p text show' s' p') → Adds k show text show'
record_adds {p' = p'} {s' = s'} takes = record {
  adds = λ front rests.
      record { section = s'; part = p'; stands = (takes rests.section rests.part).takes front rests.stands };
}

-- What each of a sorted list adds, all of them add.
module _ {A : Type 0} {k : ℕ} (P : A → Type 0) (key : A → ℕ) (put : List A → Show) (text : A → List ℕ) (all : List A)
    (valid : AllByRecursion P all) (sorted : IsStrictlySorted key all)
    (one : (done : List A) (x : A) → P x → AllByRecursion (λ y. key y < key x) done → length done < length all
    → Adds k (put done) (text x) (put (done ++ x ∷ []))) where
  others_add : (done xs : List A) → all ≡ done ++ xs → Adds k (put done) (flat_map text xs) (put all)
  others_add done [] is = record { adds = λ front rests. rw (append-nil, is, append-nil) rests }
  others_add done (x ∷ xs) is =
      let here = one done x (all_at_seam P done xs x (rw is at valid)) (below_seam key done xs x (rw is at sorted))
      (omega (arith, ap length is, length-append done (x ∷ xs))) in
      let rest = others_add (done ++ x ∷ []) xs (is ∙ sym (append_assoc done (x ∷ []) xs)) in
      record {
        adds = λ front rests.
            rw (← append_assoc front (text x) (flat_map text xs)) (rest.adds (front ++ text x) (here.adds front rests));
      }

  pub each_adds : Adds k (put []) (flat_map text all) (put all)
  each_adds = others_add [] all refl
