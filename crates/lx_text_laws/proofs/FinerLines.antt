-- What the lines of a text say under limits with a decimal more, where they could be read before.
use Rattle.lx_text_laws.proofs.Imports.{◌==◌, is_page_one, is_number, number_of, decimal_value, is_word, codes, ◌%◌, HasChannels, ◌≡◌, ℕ, zero, suc}
use Rattle.lx_text_laws.proofs.Imports.{◌+◌, ◌*◌, ◌/◌, ◌^◌, ◌<◌, ◌≤◌, Bool, true, false, cond, ◌&&◌, nat_le, Result, Ok, Err, List, [], ◌∷◌, length}
use Rattle.lx_text_laws.proofs.Imports.{option_map, IfOk, refl, arith, ap, ◌∙◌, sym, subst, and_parts, nat_tests, Bad, Shape, Range, ◌>>=◌, Limits}
use Rattle.lx_text_laws.proofs.Imports.{whole_part, decimals, is_decimal, read_whole, read_level, read_time, read_cue_no, number, numbered, delay_at}
use Rattle.lx_text_laws.proofs.Imports.{times, pairs, levels, triples, patch_entry, channels_entry, record_entry, Section, InCue, Entry, Skipped}
use Rattle.lx_text_laws.proofs.Imports.{Begins, Links, HasOneDecimalMore, OutOfRange, is_next, is_makers_line, is_makers_record, is_unknown}
use Rattle.lx_text_laws.proofs.Imports.{is_unidentified, is_passed_over, is_too_long, is_end, Follows, NamesPart, ◌||◌, nat_lt, Some, None, map}
use Rattle.lx_text_laws.proofs.Imports.{list_any, length-map, PARTS, GROUPS, SUBS, TextFault, tokens, Facts, facts_after, with_cue_named, NoRecord}
use Rattle.lx_text_laws.proofs.Imports.{InGroup, InSub, Skipping, PlacedEntry, ClearsAll, cue_in, if_few, outer_entry, cue_entry, members_entry}
use Rattle.lx_text_laws.proofs.Imports.{stray_entry, inner_entry, entry_by_word, entry_by_tokens, entry_of, entries, count_read}
use Rattle.std.proofs.Math.Nat.{pow-succ', one-le-pow, mul-div_cancel}
use Rattle.lx_spec.specs.declared.Word.{Word}
use Rattle.lx_spec.specs.declared.Word.TheVariants as words
use Rattle.lx_spec.specs.FirstWord.{word_of, is_inner}
use Rattle.lx_text_laws.proofs.FinerLists.{any-mapped, tenfold-eq, placed-tenfold}

-- What could be read is read as what f makes of it.
pub record Kept {A B E : Type 0} (f : A → B) (r : Result A E) (s : Result B E) : Type 0 where
  pub is : IfOk r (λ x. s ≡ Ok (f x))

pub kept-same : {A E : Type 0} (r : Result A E) → Kept (λ x. x) r r
kept-same (Ok x) = record { is = refl }
kept-same (Err e) = record { is = tt }

pub kept-then : {A B C D E : Type 0} {f : A → B} {g : C → D} {r : Result A E} {s : Result B E} {next : A → Result C E}
    (then : B → Result D E) → Kept f r s → ((x : A) → Kept g (next x) (then (f x))) → Kept g (r >>= next) (s >>= then)
kept-then {r = Ok x} then kept more = record { is = rw kept.is (more x).is }
kept-then {r = Err e} then kept more = record { is = tt }

pub kept-either : {A B E : Type 0} {f : A → B} {one other : Result A E} {first second : Result B E} (b : Bool) → Kept f one first
    → Kept f other second → Kept f (cond b one other) (cond b first second)
kept-either true kept more = kept
kept-either false kept more = more

pub kept-where : {A B E : Type 0} {f : A → B} {b c : Bool} {r : Result A E} {s : Result B E} (e : E) → (b ≡ true → c ≡ true)
    → (b ≡ true → Kept f r s) → Kept f (cond b r (Err e)) (cond c s (Err e))
kept-where {b = true} e test kept = record { is = rw (test refl) (kept refl).is }
kept-where {b = false} e test kept = record { is = tt }

-- Numbers.
pub number-kept : {f : ℕ → ℕ} {r s : Result ℕ Bad} (i : ℕ) → Kept f r s → Kept f (number i r) (number i s)
number-kept {r = Ok n} i kept = record { is = ap (number i) kept.is }
number-kept {r = Err Shape} i kept = record { is = tt }
number-kept {r = Err Range} i kept = record { is = tt }

whole-kept : (most now : ℕ) (token : List ℕ) → most ≤ now → Kept (λ n. n) (read_whole 1 most token) (read_whole 1 now token)
whole-kept most now token wider =
    let n = number_of token in
    kept-either (is_number token) (kept-where {r = Ok n} {s = Ok n} Range (λ within. grind (arith, nat_tests, within, wider))
    (λ within. record { is = refl })) (record { is = tt })

-- a power of ten that is no greater than another divides it
pub record Divides (a b : ℕ) : Type 0 where
  pub times : ℕ
  pub is : b ≡ times * a

power_divides : (d k : ℕ) → 10 ^ d ≤ 10 ^ k → Divides (10 ^ d) (10 ^ k)
power_divides zero k le = record { times = 10 ^ k; is = omega arith }
power_divides (suc d) zero le = absurd (omega (arith, le, pow-succ' 10 d, one-le-pow d 10 (omega arith)))
power_divides (suc d) (suc k) le =
    let rest = power_divides d k (omega (arith, le, pow-succ' 10 d, pow-succ' 10 k)) in
    let up : 10 * (rest.times * 10 ^ d) ≡ rest.times * (10 * 10 ^ d) = omega arith in
    record { times = rest.times; is = pow-succ' 10 k ∙ ap (λ n. 10 * n) rest.is ∙ up ∙ ap (λ n. rest.times * n) (sym (pow-succ' 10 d)) }

-- the decimals that there are have ten times as many of the finer steps
finer_value : (unit q w v : ℕ) → 0 < q → Divides q unit → 10 * unit * w + v * (10 * unit) / q ≡ 10 * (unit * w + v * unit / q)
finer_value unit q w v some divides =
    let c = divides.times in
    let fine : v * (10 * unit) ≡ 10 * v * c * q = rw divides.is (omega arith) in
    let coarse : v * unit ≡ v * c * q = rw divides.is (omega arith) in
    let finer : v * (10 * unit) / q ≡ 10 * v * c = ap (λ n. n / q) fine ∙ mul-div_cancel (10 * v * c) some in
    let coarser : v * unit / q ≡ v * c = ap (λ n. n / q) coarse ∙ mul-div_cancel (v * c) some in
    rw (finer, coarser) (omega arith)

module _ (now before : Limits) (more : HasOneDecimalMore now before) where
  finer_number : (token : List ℕ) → nat_le (10 ^ length (decimals token)) before.cue_unit ≡ true
      → decimal_value now.cue_unit token ≡ 10 * decimal_value before.cue_unit token
  finer_number token fits =
      let d = length (decimals token) in
      let le : 10 ^ d ≤ 10 ^ more.decimals = grind (arith, nat_tests, fits, more.unit_before) in
      let divides = subst (λ u. Divides (10 ^ d) u) (sym more.unit_before) (power_divides d more.decimals le) in
      ap (λ u. decimal_value u token) more.unit
      ∙ finer_value before.cue_unit (10 ^ d) (number_of (whole_part token)) (number_of (decimals token))
      (one-le-pow d 10 (omega arith)) divides

  pub cue_no-kept : (token : List ℕ) → Kept (λ n. 10 * n) (read_cue_no before token) (read_cue_no now token)
  cue_no-kept token =
      let q = 10 ^ length (decimals token) in
      let n = decimal_value before.cue_unit token in
      let parts = λ (is : (is_decimal token && nat_le q before.cue_unit) ≡ true). and_parts (is_decimal token) (nat_le q before.cue_unit) is in
      kept-where Shape
      (λ is. let fits = (parts is).1 in
      let wider : nat_le q now.cue_unit ≡ true = grind (arith, nat_tests, fits, more.unit) in (λ j. (parts is).0 j && wider j))
      (λ is. rw (finer_number token (parts is).1) (kept-where {r = Ok n} {s = Ok (10 * n)} Range
      (λ within. grind (arith, nat_tests, within, more.cue_most)) (λ within. record { is = refl })))

-- A section, and what a line says, with cue numbers in the finer steps.
abbrev pub finer_section : Section → Section
finer_section (InCue n) = InCue (10 * n)
finer_section other = other

abbrev pub finer_entry : Entry → Entry
finer_entry (Begins section) = Begins (finer_section section)
finer_entry (Skipped section) = Skipped (option_map finer_section section)
finer_entry (Links n) = Links (10 * n)
finer_entry other = other

pub numbered-kept : {f : ℕ → ℕ} {read now : List ℕ → Result ℕ Bad} (i : ℕ) (entry : ℕ → Entry) (rest : List (List ℕ))
    → ((n : ℕ) → entry (f n) ≡ finer_entry (entry n)) → ((token : List ℕ) → Kept f (read token) (now token))
    → Kept finer_entry (numbered i entry read rest) (numbered i entry now rest)
numbered-kept i entry [] says reads = record { is = tt }
numbered-kept i entry (token ∷ rest) says reads = kept-then _ (number-kept i (reads token)) (λ n. record { is = ap Ok (says n) })

-- a time is read without limits of the text
pub times-kept : {entry : ℕ → ℕ → Entry} (i : ℕ) (rest : List (List ℕ)) → ((t d : ℕ) → entry t d ≡ finer_entry (entry t d))
    → Kept finer_entry (times i entry rest) (times i entry rest)
times-kept i [] says = record { is = tt }
times-kept i (token ∷ rest) says =
    kept-then _ (kept-same (number i (read_time token))) (λ t. kept-then _ (kept-same (delay_at i rest)) (λ d. record { is = ap Ok (says t d) }))

-- the cue, group or submaster of a number
pub record_entry-kept : {f : ℕ → ℕ} {read now : List ℕ → Result ℕ Bad} (i : ℕ) (section : ℕ → Section) (rest : List (List ℕ))
    → ((n : ℕ) → section (f n) ≡ finer_section (section n)) → ((token : List ℕ) → Kept f (read token) (now token))
    → Kept finer_entry (record_entry i section read rest) (record_entry i section now rest)
record_entry-kept i section [] says reads = record { is = tt }
record_entry-kept i section (token ∷ page) says reads = kept-either (is_page_one page)
    (numbered-kept i (λ n. Begins (section n)) (token ∷ []) (λ n. ap Begins (says n)) reads) (record { is = refl })

module _ (now before : Limits) (more : HasOneDecimalMore now before) (i : ℕ) where
  channel-kept : (token : List ℕ)
      → Kept (λ n. n) (number i (read_whole 1 before.channels token)) (number i (read_whole 1 now.channels token))
  channel-kept token = number-kept i (whole-kept before.channels now.channels token more.channels)

  pairs-kept : (rest : List (List ℕ)) → Kept (λ ms. ms) (pairs before i rest) (pairs now i rest)
  pairs-kept [] = record { is = refl }
  pairs-kept (c ∷ []) = record { is = tt }
  pairs-kept (c ∷ l ∷ rest) = kept-then _ (channel-kept c)
      (λ chan. kept-then _ (kept-same (number i (read_level l))) (λ at. kept-then _ (pairs-kept rest) (λ ms. record { is = refl })))

  pub levels-kept : (rest : List (List ℕ)) → Kept finer_entry (levels before i rest) (levels now i rest)
  levels-kept rest = kept-then _ (kept-either (length rest % 2 == 0) (pairs-kept rest) (record { is = tt })) (λ ms. record { is = refl })

  triples-kept : (rest : List (List ℕ)) → Kept (λ rows. rows) (triples before i rest) (triples now i rest)
  triples-kept [] = record { is = refl }
  triples-kept (c ∷ []) = record { is = tt }
  triples-kept (c ∷ e ∷ []) = record { is = tt }
  triples-kept (c ∷ e ∷ l ∷ rest) =
      kept-then _ (channel-kept c) (λ chan. kept-then _ (number-kept i (whole-kept before.dimmers now.dimmers e more.dimmers))
      (λ dimmer. kept-then _ (kept-same (number i (read_level l))) (λ at. kept-then _ (triples-kept rest) (λ rows. record { is = refl }))))

  pub patch_entry-kept : (rest : List (List ℕ)) → Kept finer_entry (patch_entry before i rest) (patch_entry now i rest)
  patch_entry-kept [] = record { is = tt }
  patch_entry-kept (page ∷ rest) = kept-either (is_page_one (page ∷ []))
      (kept-then _ (kept-either (length rest % 3 == 0) (triples-kept rest) (record { is = tt })) (λ rows. record { is = refl })) (record { is = refl })

  pub channels_entry-kept : (rest : List (List ℕ)) → Kept finer_entry (channels_entry before i rest) (channels_entry now i rest)
  channels_entry-kept [] = record { is = refl }
  channels_entry-kept (what ∷ rest) =
      kept-either (is_word (codes "CHANNELS") what) (numbered-kept i HasChannels rest (λ n. refl) (λ token. whole-kept before.channels now.channels token more.channels))
      (record { is = refl })

-- what is known of a line, in the finer steps
abbrev pub finer_facts : Limits → Facts → Facts
finer_facts now f = record f { limits = now; section = finer_section f.section; cues = map (λ n. 10 * n) f.cues }

abbrev pub finer_placed : PlacedEntry → PlacedEntry
finer_placed e = record e { section = finer_section e.section; entry = finer_entry e.entry }

makers-same : (s : Section) (word : Word) → is_makers_line (finer_section s) word ≡ is_makers_line s word
makers-same (InCue n) word = refl
makers-same other word = refl

passed-same : (s : Section) (word : Word) → is_passed_over (finer_section s) word ≡ is_passed_over s word
passed-same (InCue n) word = refl
passed-same other word = refl

pub end-same : (e : Entry) → is_end (finer_entry e) ≡ is_end e
end-same (Links n) = refl
end-same other = refl

or_true : (a b c : Bool) → (b ≡ true → c ≡ true) → (a || b) ≡ true → (a || c) ≡ true
or_true true b c more is = refl
or_true false b c more is = more is

module _ (now : Limits) (f : Facts) (more : HasOneDecimalMore now f.limits) where
  abbrev Reads : Result Entry TextFault → Result Entry TextFault → Type 0
  Reads r s = Kept finer_entry r s

  few-kept : (entry : Entry) → Reads (if_few f entry) (if_few (finer_facts now f) (finer_entry entry))
  few-kept (Begins (InCue n)) =
      let there : list_any (λ m. m == 10 * n) (map (λ m. 10 * m) f.cues) ≡ list_any (λ m. m == n) f.cues =
      any-mapped (λ m. 10 * m) (λ m. m == 10 * n) f.cues ∙ (λ j. list_any (λ m. tenfold-eq m n j) f.cues) in
      rw (there, length-map f.cues (λ m. 10 * m)) (kept-where
      {r = Ok (Begins (InCue n))} {s = Ok (Begins (InCue (10 * n)))} (OutOfRange f.number)
      (or_true (list_any (λ m. m == n) f.cues) (nat_lt (length f.cues) f.limits.cues) (nat_lt (length f.cues) now.cues)
      (λ low. grind (arith, nat_tests, low, more.cues))) (λ is. record { is = refl }))
  few-kept (Begins other) = record { is = refl }
  few-kept (Skipped s) = record { is = refl }
  few-kept (Links n) = record { is = refl }
  few-kept other = record { is = refl }

  outer-kept : (word : Word) (rest : List (List ℕ)) → Reads (outer_entry f word rest) (outer_entry (finer_facts now f) word rest)
  outer-kept words.Ident rest = kept-either (is_next (codes "3:0") rest) (record { is = refl }) (record { is = tt })
  outer-kept words.Maker rest = record { is = refl }
  outer-kept words.Clear rest = elim (is_next (codes "ALL") rest) as (λ b. Reads (Ok (cond b ClearsAll (Skipped (Some NoRecord))))
      (Ok (cond b ClearsAll (Skipped (Some NoRecord))))) [ true ↦ record { is = refl } | false ↦ record { is = refl } ]
  outer-kept words.Set rest = channels_entry-kept now f.limits more f.number rest
  outer-kept words.Patch rest = patch_entry-kept now f.limits more f.number rest
  outer-kept words.Cue rest = kept-then _ (record_entry-kept f.number InCue rest (λ n. refl) (cue_no-kept now f.limits more)) few-kept
  outer-kept words.Group rest = record_entry-kept f.number InGroup rest (λ n. refl) (λ token. kept-same (read_whole 1 GROUPS token))
  outer-kept words.Sub rest = record_entry-kept f.number InSub rest (λ n. refl) (λ token. kept-same (read_whole 1 SUBS token))
  outer-kept words.EndData rest = record { is = refl }
  outer-kept other rest = record { is = refl }

  cue-kept : (line : List ℕ) (word : Word) (rest : List (List ℕ))
      → Reads (cue_entry f line word rest) (cue_entry (finer_facts now f) line word rest)
  cue-kept line words.Chan rest = levels-kept now f.limits more f.number rest
  cue-kept line words.Part rest = numbered-kept f.number NamesPart rest (λ n. refl) (λ token. kept-same (read_whole 1 PARTS token))
  cue-kept line words.Up rest = times-kept f.number rest (λ t d. refl)
  cue-kept line words.Down rest = times-kept f.number rest (λ t d. refl)
  cue-kept line words.FollowOn rest = numbered-kept f.number Follows rest (λ n. refl) (λ token. kept-same (read_time token))
  cue-kept line words.Link rest = numbered-kept f.number Links rest (λ n. refl) (cue_no-kept now f.limits more)
  cue-kept line words.Text rest = record { is = refl }
  cue-kept line words.Block rest = record { is = refl }
  cue-kept line words.Assert rest = record { is = refl }
  cue-kept line other rest = record { is = refl }

  members-kept : (line : List ℕ) (word : Word) (rest : List (List ℕ))
      → Reads (members_entry f line word rest) (members_entry (finer_facts now f) line word rest)
  members-kept line words.Chan rest = levels-kept now f.limits more f.number rest
  members-kept line words.Text rest = record { is = refl }
  members-kept line other rest = record { is = refl }

  stray-kept : (word : Word) → Reads (stray_entry f word) (stray_entry (finer_facts now f) word)
  stray-kept words.Text = record { is = refl }
  stray-kept other = record { is = tt }

  inner-kept : (s : Section) (line : List ℕ) (word : Word) (rest : List (List ℕ))
      → Reads (inner_entry s f line word rest) (inner_entry (finer_section s) (finer_facts now f) line word rest)
  inner-kept (InCue n) line word rest = cue-kept line word rest
  inner-kept (InGroup n) line word rest = members-kept line word rest
  inner-kept (InSub n) line word rest = members-kept line word rest
  inner-kept NoRecord line word rest = stray-kept word
  inner-kept Skipping line word rest = record { is = refl }

  word-kept : (line : List ℕ) (word : Word) (rest : List (List ℕ))
      → Reads (entry_by_word f line word rest) (entry_by_word (finer_facts now f) line word rest)
  word-kept line word rest =
      rw (makers-same f.section word, passed-same f.section word)
      (kept-either (is_makers_line f.section word) (record { is = refl }) (kept-either (is_makers_record word) (record { is = refl })
      (kept-either (is_unknown word) (record { is = refl }) (kept-either (is_unidentified f.identified word) (record { is = tt })
      (kept-either (is_passed_over f.section word) (record { is = refl }) (kept-either (is_inner word)
      (inner-kept f.section line word rest) (outer-kept word rest)))))))

  tokens-kept : (line : List ℕ) (ts : List (List ℕ)) → Reads (entry_by_tokens f line ts) (entry_by_tokens (finer_facts now f) line ts)
  tokens-kept line [] = record { is = refl }
  tokens-kept line (first ∷ rest) = word-kept line (word_of first) rest

  pub entry_of-kept : (line : List ℕ) → Reads (entry_of f line) (entry_of (finer_facts now f) line)
  entry_of-kept line = kept-either (is_too_long line) (record { is = tt }) (tokens-kept line (tokens line))

named-tenfold : (s : Section) (ns : List ℕ)
    → with_cue_named (cue_in (finer_section s)) (map (λ n. 10 * n) ns) ≡ map (λ n. 10 * n) (with_cue_named (cue_in s) ns)
named-tenfold (InCue n) ns = placed-tenfold n ns
named-tenfold other ns = refl

-- what is known of the next line
pub after-finer : (now : Limits) (f : Facts) (e : Entry)
    → facts_after (finer_facts now f) (finer_entry e) ≡ finer_facts now (facts_after f e)
after-finer now f (Begins s) = λ j. record (finer_facts now (facts_after f (Begins s))) { cues = named-tenfold s f.cues j }
after-finer now f (Skipped (Some s)) = λ j. record (finer_facts now (facts_after f (Skipped (Some s)))) { cues = named-tenfold s f.cues j }
after-finer now f (Skipped None) = refl
after-finer now f (Links n) = refl
after-finer now f other = refl

pub entries-kept : (now : Limits) (f : Facts) (lines : List (List ℕ)) → HasOneDecimalMore now f.limits
    → Kept (map finer_placed) (entries f lines) (entries (finer_facts now f) lines)
entries-kept now f [] more = record { is = tt }
entries-kept now f (line ∷ lines) more =
    kept-then _ (entry_of-kept now f more line) (λ entry. rw (end-same entry, after-finer now f entry)
    (kept-either (is_end entry) (record { is = refl }) (kept-then _ (entries-kept now (facts_after f entry) lines more) (λ all. record { is = refl }))))

-- How many lines are read.
abbrev goes_on : Facts → List (List ℕ) → Entry → Result (List PlacedEntry) TextFault
goes_on f lines e = cond (is_end e) (Ok [])
    (entries (facts_after f e) lines >>= (λ more. Ok (record { section = f.section; part = f.part; entry = e } ∷ more)))

abbrev counted : Facts → List (List ℕ) → Result Entry TextFault → ℕ
counted f lines (Ok entry) = cond (is_end entry) 1 (count_read (facts_after f entry) lines + 1)
counted f lines (Err fault) = 1

one_more : (x : PlacedEntry) (m n : ℕ) (r : Result (List PlacedEntry) TextFault) → IfOk r (λ all. m ≡ n)
    → IfOk (r >>= (λ all. Ok (x ∷ all))) (λ all. m + 1 ≡ n + 1)
one_more x m n (Ok all) same = ap (λ k. k + 1) same
one_more x m n (Err fault) same = tt

unless_ended : (b : Bool) (r : Result (List PlacedEntry) TextFault) (m n : ℕ) → IfOk r (λ all. m ≡ n)
    → IfOk (cond b (Ok []) r) (λ all. cond b 1 m ≡ cond b 1 n)
unless_ended true r m n same = refl
unless_ended false r m n same = same

count-step : (now : Limits) (f : Facts) (lines : List (List ℕ)) (r s : Result Entry TextFault) → Kept finer_entry r s
    → ((e : Entry) → IfOk (entries (facts_after f e) lines)
    (λ all. count_read (finer_facts now (facts_after f e)) lines ≡ count_read (facts_after f e) lines))
    → IfOk (r >>= goes_on f lines) (λ all. counted (finer_facts now f) lines s ≡ counted f lines r)
count-step now f lines (Ok entry) s is rest =
    rw (is.is, end-same entry, after-finer now f entry) (unless_ended (is_end entry) _ _ _ (one_more _ _ _ _ (rest entry)))
count-step now f lines (Err fault) s is rest = tt

pub count-kept : (now : Limits) (f : Facts) (lines : List (List ℕ)) → HasOneDecimalMore now f.limits
    → IfOk (entries f lines) (λ all. count_read (finer_facts now f) lines ≡ count_read f lines)
count-kept now f [] more = tt
count-kept now f (line ∷ lines) more =
    count-step now f lines (entry_of f line) (entry_of (finer_facts now f) line) (entry_of-kept now f more line)
    (λ e. count-kept now (facts_after f e) lines more)
