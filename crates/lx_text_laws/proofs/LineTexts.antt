-- Each line of a show as it is written: what it says.
use Rattle.lx_text_laws.proofs.Imports.{◌≡◌, ℕ, ◌≤◌, Bool, true, List, [], ◌∷◌, filter, take, length, refl, list_all, arith, ap, ◌∙◌, sym}
use Rattle.lx_text_laws.proofs.Imports.{length-take, LABEL_BYTES, is_blank, after_all, IsLabel, cases_Bool, inl, inr, or_right, ◌+◌, ◌==◌, ◌^◌, ◌<◌}
use Rattle.lx_text_laws.proofs.Imports.{false, cond, ◌||◌, ◌&&◌, nat_lt, nat_le, Result, Ok, Err, ◌++◌, codes, decimal, list_any, nat_tests}
use Rattle.lx_text_laws.proofs.Imports.{and_parts, length-append, LINE_BYTES, CUES, CHANNELS, DIMMERS, PARTS, GROUPS, SUBS, CUE_MAX, TextFault}
use Rattle.lx_text_laws.proofs.Imports.{OutOfRange, Bad, ◌>>=◌, desk_limits, is_filled, is_separator, tokens, rest_after, label_of, read_time}
use Rattle.lx_text_laws.proofs.Imports.{read_whole, time_text, level_text, InRange, IsTime, IsLevel, Section, NoRecord, InCue, InGroup, InSub, Entry}
use Rattle.lx_text_laws.proofs.Imports.{Begins, HasChannels, Patches, HasLevels, NamesPart, HasUp, HasDown, Follows, Links, IsLabelled, Blocks}
use Rattle.lx_text_laws.proofs.Imports.{Asserts, is_end, Facts, number, levels, entry_of, entry_by_word, entry_by_tokens, if_few, line, spaced}
use Rattle.lx_text_laws.proofs.Imports.{at_text, cue_number_text, lt_true, lt_false}
use Rattle.lx_spec.proofs.Lists.{shorter}
use Rattle.lx_lex.proofs.LineCuts.{length-after_all}
use Rattle.lx_spec.specs.declared.Word.TheVariants as words
use Rattle.lx_text_laws.proofs.Decimals.{read_whole-decimal, IsNumberText, number_plain, whole_text, time_reads, read_time-written, cue_number_reads}
use Rattle.lx_text_laws.proofs.Decimals.{read_cue_no-written, read_level-written, level_plain}
use Rattle.lx_text_laws.proofs.Tokens.{is_plain, stays, tokens-at, tokens-last, all-append, all-weaker, filter_kept}

-- A label that is its own has no line end, no blank before it and at most 240 bytes.
filter_all : (test : ℕ → Bool) (xs : List ℕ) → length xs ≤ length (filter test xs) → list_all test xs ≡ true
filter_all test [] full = refl
filter_all test (x ∷ xs) full = elim (cases_Bool (test x)) [
  | inl is ↦ rw is (filter_all test xs (omega (arith, rw is at full)))
  | inr is ↦ absurd (omega (arith, rw is at full, shorter test xs))
]

after_none : (test : ℕ → Bool) (xs : List ℕ) → length xs ≤ length (after_all test xs) → after_all test xs ≡ xs
after_none test [] full = refl
after_none test (x ∷ xs) full = elim (cases_Bool (test x)) [
  | inl is ↦ absurd (omega (arith, rw is at full, length-after_all test xs))
  | inr is ↦ rw is
]

pub record OwnLabel (label : List ℕ) : Type 0 where
  pub stays_all : list_all stays label ≡ true
  pub no_blank : after_all is_blank label ≡ label
  pub short : length label ≤ LABEL_BYTES

pub own_label : (label : List ℕ) → IsLabel label → OwnLabel label
own_label label own =
    let kept = filter stays label in
    let cut = after_all is_blank kept in
    let size : length (take LABEL_BYTES cut) ≡ length label = ap length own in
    let few = length-take LABEL_BYTES cut in
    let a = length-after_all is_blank kept in
    let b = shorter stays label in
    let all : list_all stays label ≡ true = filter_all stays label (omega (arith, size, few, a, b)) in
    let same = filter_kept stays label all in
    let full : length kept ≤ length cut = omega (arith, size, few, a, b) in
    record {
      stays_all = all;
      no_blank = (λ j. after_all is_blank (sym same j)) ∙ after_none is_blank kept full ∙ same;
      short = omega (arith, size, few);
    }

-- the facts once IDENT was read
abbrev pub at : ℕ → Section → ℕ → List ℕ → Facts
at i s p cs = record { limits = desk_limits; number = i; identified = true; section = s; part = p; cues = cs }

-- A word, and a text of words.
pub record IsToken (most : ℕ) (w : List ℕ) : Type 0 where
  pub plain : list_all is_plain w ≡ true
  pub filled : is_filled w ≡ true
  pub short : length w ≤ most

pub record Says (most : ℕ) (body : List ℕ) (words : List (List ℕ)) : Type 0 where
  pub cut : tokens body ≡ words
  pub stays_all : list_all stays body ≡ true
  pub short : length body ≤ most

word_stays : (w : List ℕ) → list_all is_plain w ≡ true → list_all stays w ≡ true
word_stays w plain = all-weaker is_plain stays w (λ b is. grind (arith, nat_tests, is)) plain

last : {m : ℕ} {w : List ℕ} → IsToken m w → Says m w (w ∷ [])
last {m} {w} word = record { cut = tokens-last w word.plain word.filled; stays_all = word_stays w word.plain; short = word.short }

abbrev cuts : ℕ → Bool
cuts s = is_separator s && stays s

before : {m n : ℕ} {w body : List ℕ} {words : List (List ℕ)} → IsToken m w → (s : ℕ) → cuts s ≡ true → Says n body words
    → Says (m + 1 + n) (w ++ s ∷ body) (w ∷ words)
before {m} {n} {w} {body} word s sep rest =
    let parts = and_parts (is_separator s) (stays s) sep in
    record {
      cut = tokens-at w word.plain word.filled s body parts.0 ∙ ap (λ v. w ∷ v) rest.cut;
      stays_all = all-append stays w (s ∷ body) (word_stays w word.plain) (λ j. parts.1 j && rest.stays_all j);
      short = omega (arith, length-append w (s ∷ body), word.short, rest.short);
    }

-- the line's first word, which is short
abbrev is_short : List ℕ → Bool
is_short w = list_all is_plain w && (is_filled w && nat_le (length w) 9)

word : (w : List ℕ) → is_short w ≡ true → IsToken 9 w
word w is =
    let one = and_parts (list_all is_plain w) (is_filled w && nat_le (length w) 9) is in
    let two = and_parts (is_filled w) (nat_le (length w) 9) one.1 in
    record { plain = one.0; filled = two.0; short = grind (arith, nat_tests, two.1) }

first : {n : ℕ} {body : List ℕ} {words : List (List ℕ)} (w : List ℕ) → is_short w ≡ true → Says n body words
    → Says (10 + n) (w ++ 32 ∷ body) (w ∷ words)
first w is rest = before (word w is) 32 refl rest

number_token : {text : List ℕ} → IsNumberText text → IsToken 24 text
number_token {text} t = record { plain = number_plain text t; filled = t.filled; short = t.short }

level_token : (l : ℕ) → l ≤ 255 → IsToken 3 (level_text l)
level_token l low = record { plain = level_plain l low; filled = refl; short = omega arith }

-- a line that isn't too long goes by its tokens
by_tokens : {most : ℕ} {body : List ℕ} {words : List (List ℕ)} (f : Facts) → Says most body words → most ≤ LINE_BYTES
    → entry_of f body ≡ entry_by_tokens f body words
by_tokens {most} {body} f says few =
    rw (lt_false LINE_BYTES (length body) (omega (arith, says.short, few)), says.cut)

-- the line of these words says the entry in a section and a part, where these cues are known
pub record Line (s : Section) (p : ℕ) (cs : List ℕ) (words : List (List ℕ)) (e : Entry) : Type 0 where
  pub stays_all : list_all stays (spaced words) ≡ true
  pub is : (i : ℕ) → entry_of (at i s p cs) (spaced words) ≡ Ok e
  pub goes_on : is_end e ≡ false

said : {most p : ℕ} {words tokens : List (List ℕ)} {s : Section} {cs : List ℕ} {e : Entry} → Says most (spaced words) tokens
    → most ≤ LINE_BYTES → ((i : ℕ) → entry_by_tokens (at i s p cs) (spaced words) tokens ≡ Ok e) → is_end e ≡ false → Line s p cs words e
said {p = p} {s = s} {cs = cs} says few is goes_on =
    record { stays_all = says.stays_all; is = λ i. by_tokens (at i s p cs) says few ∙ is i; goes_on = goes_on }

-- CHAN c@L
abbrev one_level : ℕ → Result ℕ Bad → Result ℕ Bad → Result Entry TextFault
one_level i c l = (number i c >>= (λ chan. number i l >>= (λ level. Ok (record { chan = chan; level = level } ∷ []))))
    >>= (λ members. Ok (HasLevels members))

abbrev pub TakesLevels : Section → ℕ → List ℕ → Type 0
TakesLevels s p cs = (i : ℕ) (line : List ℕ) (rest : List (List ℕ))
    → entry_by_word (at i s p cs) line words.Chan rest ≡ levels desk_limits i rest

pub level_reads : {s : Section} {p c l : ℕ} {cs : List ℕ} → TakesLevels s p cs → InRange CHANNELS c → IsLevel l
    → Line s p cs (codes "CHAN" ∷ at_text c l ∷ []) (HasLevels (record { chan = c; level = l } ∷ []))
level_reads {c = c} {l = l} takes range low =
    said (first (codes "CHAN") refl (before (number_token (whole_text c (omega (arith, range.most)))) 64 refl (last (level_token l low))))
    (omega arith)
    (λ i. takes i (spaced (codes "CHAN" ∷ at_text c l ∷ [])) (decimal c ∷ level_text l ∷ [])
    ∙ (λ j. one_level i (read_whole-decimal 1 CHANNELS c range.least range.most (omega arith) j) (read_level-written l low j))) refl

-- a word and one number
abbrev one_number : ℕ → (ℕ → Entry) → Result ℕ Bad → Result Entry TextFault
one_number i entry r = number i r >>= (λ n. Ok (entry n))

pub follow_reads : {n p t : ℕ} {cs : List ℕ} → IsTime t → Line (InCue n) p cs (codes "FOLLOWON" ∷ time_text t ∷ []) (Follows t)
follow_reads {t = t} low =
    said (first (codes "FOLLOWON") refl (last (number_token (time_reads t low).text))) (omega arith)
    (λ i j. one_number i Follows (read_time-written t low j)) refl

pub link_reads : {n p m : ℕ} {cs : List ℕ} → InRange CUE_MAX m → Line (InCue n) p cs (codes "LINK" ∷ cue_number_text m ∷ []) (Links m)
link_reads {m = m} range =
    said (first (codes "LINK") refl (last (number_token (cue_number_reads m range.most).text))) (omega arith)
    (λ i j. one_number i Links (read_cue_no-written m range.least range.most j)) refl

-- a word and a whole number
whole_said : {s : Section} {p n : ℕ} {cs : List ℕ} (most : ℕ) (w : List ℕ) (entry : ℕ → Entry) → InRange most n → most < 2 ^ 64
    → is_short w ≡ true
    → ((i : ℕ) (body text : List ℕ) → entry_by_tokens (at i s p cs) body (w ∷ text ∷ []) ≡ one_number i entry (read_whole 1 most text))
    → is_end (entry n) ≡ false → Line s p cs (w ∷ decimal n ∷ []) (entry n)
whole_said {n = n} most w entry range small is takes goes_on =
    said (first w is (last (number_token (whole_text n (omega (arith, range.most, small)))))) (omega arith)
    (λ i. takes i (w ++ 32 ∷ decimal n) (decimal n)
    ∙ (λ j. one_number i entry (read_whole-decimal 1 most n range.least range.most small j))) goes_on

pub part_reads : {n q p : ℕ} {cs : List ℕ} → InRange PARTS p → Line (InCue n) q cs (codes "PART" ∷ decimal p ∷ []) (NamesPart p)
part_reads range = whole_said PARTS (codes "PART") NamesPart range (omega arith) refl (λ i body text. refl) refl

-- GROUP g and SUB s, in any section
pub group_reads : {s : Section} {p g : ℕ} {cs : List ℕ} → InRange GROUPS g → Line s p cs (codes "GROUP" ∷ decimal g ∷ []) (Begins (InGroup g))
group_reads range = whole_said GROUPS (codes "GROUP") (λ n. Begins (InGroup n)) range (omega arith) refl (λ i body text. refl) refl

pub sub_reads : {s : Section} {p n : ℕ} {cs : List ℕ} → InRange SUBS n → Line s p cs (codes "SUB" ∷ decimal n ∷ []) (Begins (InSub n))
sub_reads range = whole_said SUBS (codes "SUB") (λ n. Begins (InSub n)) range (omega arith) refl (λ i body text. refl) refl

-- CUE n, where there is room for one more
abbrev cue_entry_of : Facts → Result ℕ Bad → Result Entry TextFault
cue_entry_of f r = (number f.number r >>= (λ n. Ok (Begins (InCue n)))) >>= if_few f

pub cue_reads : {s : Section} {p n : ℕ} {cs : List ℕ} → InRange CUE_MAX n → length cs < CUES
    → Line s p cs (codes "CUE" ∷ cue_number_text n ∷ []) (Begins (InCue n))
cue_reads {s} {p} {n} {cs} range room =
    let has_room : (list_any (λ m. m == n) cs || nat_lt (length cs) CUES) ≡ true =
    or_right (list_any (λ m. m == n) cs) (nat_lt (length cs) CUES) (lt_true (length cs) CUES room) in
    said (first (codes "CUE") refl (last (number_token (cue_number_reads n range.most).text))) (omega arith)
    (λ i. (λ j. cue_entry_of (at i s p cs) (read_cue_no-written n range.least range.most j))
    ∙ ap (λ b. cond b (Ok (Begins (InCue n))) (Err (OutOfRange i))) has_room) refl

-- SET CHANNELS n
pub channels_reads : {n : ℕ} {cs : List ℕ} → InRange CHANNELS n
    → Line NoRecord 1 cs (codes "SET" ∷ codes "CHANNELS" ∷ decimal n ∷ []) (HasChannels n)
channels_reads {n} range =
    said (first (codes "SET") refl (first (codes "CHANNELS") refl (last (number_token (whole_text n (omega (arith, range.most)))))))
    (omega arith) (λ i j. one_number i HasChannels (read_whole-decimal 1 CHANNELS n range.least range.most (omega arith) j)) refl

-- PATCH 1 c<e@L
abbrev one_row : ℕ → Result ℕ Bad → Result ℕ Bad → Result ℕ Bad → Result Entry TextFault
one_row i c e l = (number i c >>= (λ chan. number i e
    >>= (λ dimmer. number i l >>= (λ level. Ok (record { dimmer = dimmer; chan = chan; level = level } ∷ [])))))
    >>= (λ rows. Ok (Patches rows))

pub patch_reads : {s : Section} {p c e l : ℕ} {cs : List ℕ} → InRange CHANNELS c → InRange DIMMERS e → IsLevel l
    → Line s p cs (codes "PATCH" ∷ codes "1" ∷ (decimal c ++ 60 ∷ at_text e l) ∷ []) (Patches (record { dimmer = e; chan = c; level = l } ∷ []))
patch_reads {c = c} {e = e} {l = l} chan dimmer low =
    said (first (codes "PATCH") refl (first (codes "1") refl (before (number_token (whole_text c (omega (arith, chan.most)))) 60 refl
    (before (number_token (whole_text e (omega (arith, dimmer.most)))) 64 refl (last (level_token l low)))))) (omega arith)
    (λ i j. one_row i (read_whole-decimal 1 CHANNELS c chan.least chan.most (omega arith) j)
    (read_whole-decimal 1 DIMMERS e dimmer.least dimmer.most (omega arith) j) (read_level-written l low j)) refl

-- UP t d and DOWN t d
abbrev two_times : ℕ → (ℕ → ℕ → Entry) → Result ℕ Bad → Result ℕ Bad → Result Entry TextFault
two_times i entry t d = number i t >>= (λ time. number i d >>= (λ delay. Ok (entry time delay)))

times_said : {n p t d : ℕ} {cs : List ℕ} (w : List ℕ) (entry : ℕ → ℕ → Entry) → is_short w ≡ true → IsTime t → IsTime d
    → ((i : ℕ) (body a b : List ℕ)
    → entry_by_tokens (at i (InCue n) p cs) body (w ∷ a ∷ b ∷ []) ≡ two_times i entry (read_time a) (read_time b))
    → is_end (entry t d) ≡ false → Line (InCue n) p cs (w ∷ time_text t ∷ time_text d ∷ []) (entry t d)
times_said {t = t} {d = d} w entry is low few takes goes_on =
    said (first w is (before (number_token (time_reads t low).text) 32 refl (last (number_token (time_reads d few).text)))) (omega arith)
    (λ i. takes i (spaced (w ∷ time_text t ∷ time_text d ∷ [])) (time_text t) (time_text d)
    ∙ (λ j. two_times i entry (read_time-written t low j) (read_time-written d few j))) goes_on

pub up_reads : {n p t d : ℕ} {cs : List ℕ} → IsTime t → IsTime d
    → Line (InCue n) p cs (codes "UP" ∷ time_text t ∷ time_text d ∷ []) (HasUp t d)
up_reads low few = times_said (codes "UP") HasUp refl low few (λ i body a b. refl) refl

pub down_reads : {n p t d : ℕ} {cs : List ℕ} → IsTime t → IsTime d
    → Line (InCue n) p cs (codes "DOWN" ∷ time_text t ∷ time_text d ∷ []) (HasDown t d)
down_reads low few = times_said (codes "DOWN") HasDown refl low few (λ i body a b. refl) refl

-- TEXT label
abbrev pub TakesLabel : Section → ℕ → List ℕ → Type 0
TakesLabel s p cs = (i : ℕ) (line : List ℕ) (rest : List (List ℕ))
    → entry_by_word (at i s p cs) line words.Text rest ≡ Ok (IsLabelled (label_of (rest_after line 1)))

one_there : (x : List ℕ) (xs : List (List ℕ)) → nat_le 1 (length (x ∷ xs)) ≡ true
one_there x xs = grind (arith, nat_tests)

pub label_reads : {s : Section} {p : ℕ} {label : List ℕ} {cs : List ℕ} → TakesLabel s p cs → IsLabel label
    → Line s p cs (codes "TEXT" ∷ label ∷ []) (IsLabelled label)
label_reads {label = label} takes own =
    let o = own_label label own in
    let rest : Says LABEL_BYTES label (tokens label) = record { cut = refl; stays_all = o.stays_all; short = o.short } in
    let says = first (codes "TEXT") refl rest in
    let back : label_of (rest_after (spaced (codes "TEXT" ∷ label ∷ [])) 1) ≡ label =
    ap label_of ((λ j. cond (nat_le 1 (length (says.cut j))) (after_all is_blank label) [])
    ∙ ap (λ b. cond b (after_all is_blank label) []) (one_there (codes "TEXT") (tokens label)) ∙ o.no_blank) ∙ own in
    said says (omega arith)
    (λ i. takes i (spaced (codes "TEXT" ∷ label ∷ [])) (tokens label) ∙ ap (λ v. Ok (IsLabelled v)) back) refl

pub block_reads : {n p : ℕ} {cs : List ℕ} → Line (InCue n) p cs (codes "$$BLOCK" ∷ []) Blocks
block_reads = record { stays_all = refl; is = λ i. refl; goes_on = refl }

pub assert_reads : {n p : ℕ} {cs : List ℕ} → Line (InCue n) p cs (codes "$$ASSERT" ∷ []) Asserts
assert_reads = record { stays_all = refl; is = λ i. refl; goes_on = refl }
