-- Each command that a script line means is valid.
use Rattle.lx_spec.proofs.Imports.{◌≡◌, ℕ, zero, suc, ◌+◌, ◌-◌, ◌*◌, ◌/◌, ◌^◌, ◌<◌, ◌≤◌, Bool, true, false}
use Rattle.lx_spec.proofs.Imports.{◌&&◌, inl, inr, cases_Bool, nat_lt, nat_le, Option, Some, None, Result, Ok, Err, List, [], ◌∷◌, length, fold, find, codes}
use Rattle.lx_spec.proofs.Imports.{option_map, IfSome, IfOk, option_map_or, AllByRecursion, list_all, list_any, before_first, after_first, position_or_len}
use Rattle.lx_spec.proofs.Imports.{arith, ap, sym, subst, ◌∙◌, mul_assoc, drop_all, nat_tests, CUE_MAX, PARTS, GROUPS, SUBS, DIMMERS, UNIVERSES}
use Rattle.lx_spec.proofs.Imports.{LINE_BYTES, TICKS, TIME_MAX, Shape, Range, Edit, desk_limits, tokens, is_word, is_digit, is_number, number_of}
use Rattle.lx_spec.proofs.Imports.{ranged, read_whole, is_point, whole_part, has_point, decimals, is_decimal, decimal_value, read_seconds, is_colon, is_minutes}
use Rattle.lx_spec.proofs.Imports.{read_minutes, read_time, read_cue_no, InRange, IsTime, cue_number, time, cue_edit, part_edit, set_channels}
use Rattle.lx_spec.proofs.Imports.{set_line, time_edit, time_line, follow_line}
use Rattle.lx_spec.proofs.Imports.{tick_line, frame_line, alone, sentences, meaning, line_of}
use Rattle.std.proofs.Math.Nat.{pow-succ', div-lt_iff_lt-mul}
use Rattle.lx_base.specs.Numbers.{Span}
use Rattle.lx_spec.specs.declared.Bad.{Bad}
use Rattle.lx_spec.specs.declared.Line.{Line}
use Rattle.lx_spec.specs.Phrase.{Tokens, ◌>>=◌, word, read_as, value, ended, optional, channel, channels, at_level, in_part, only_or_end}
use Rattle.lx_spec.specs.Phrase.{value_or}
use Rattle.lx_spec.specs.ValidEdit.{ValidEdit, ValidLine}
use Rattle.lx_spec.proofs.Lists.{decided}

-- Numbers that are read are in their range.
in_range : (most n : ℕ) → IfOk (ranged 1 most n) (InRange most)
in_range most n = decided (λ r. IfOk r (InRange most)) (nat_le 1 n && nat_le n most) (Ok n) (Err Range)
    (λ is. record { least = grind (arith, nat_tests, is); most = grind (arith, nat_tests, is) }) (λ is. tt)

whole_in_range : (most : ℕ) (token : List ℕ) → IfOk (read_whole 1 most token) (InRange most)
whole_in_range most token =
    decided (λ r. IfOk r (InRange most)) (is_number token) _ (Err Shape) (λ is. in_range most (number_of token)) (λ is. tt)

pub cue_in_range : (token : List ℕ) → IfOk (read_cue_no desk_limits token) (InRange CUE_MAX)
cue_in_range token =
    decided (λ r. IfOk r (InRange CUE_MAX)) (is_decimal token && nat_le (10 ^ length (decimals token)) desk_limits.cue_unit) _ (Err Shape)
    (λ is. in_range CUE_MAX (decimal_value desk_limits.cue_unit token)) (λ is. tt)

-- digits spell a number below the power of ten of their count
below_power : (ds : List ℕ) (a p : ℕ) → list_all is_digit ds ≡ true → a < p → fold (λ n b. 10 * n + (b - 48)) a ds < p * 10 ^ length ds
below_power [] a p all less = omega (arith, less)
below_power (d ∷ ds) a p all less =
    let digit : d ≤ 57 = grind (arith, nat_tests, all) in
    let rest : list_all is_digit ds ≡ true = grind (arith, all) in
    let step : 10 * a + (d - 48) < p * 10 = omega (arith, digit, less) in
    let power : p * 10 * 10 ^ length ds ≡ p * 10 ^ suc (length ds) = mul_assoc p 10 (10 ^ length ds)
    ∙ ap (λ n. p * n) (sym (pow-succ' 10 (length ds))) in
    let P : ℕ → Type 0 = λ n. fold (λ n b. 10 * n + (b - 48)) (10 * a + (d - 48)) ds < n in
    subst P power (below_power ds (10 * a + (d - 48)) (p * 10) rest step)

-- decimals are less than a whole one
decimals_below : (ds : List ℕ) → list_all is_digit ds ≡ true → number_of ds * 100 / 10 ^ length ds < 100
decimals_below ds all =
    let less : number_of ds < 1 * 10 ^ length ds = below_power ds 0 1 all (omega arith) in
    let positive : zero < 10 ^ length ds = omega (arith, less) in
    let scaled : number_of ds * 100 < 100 * 10 ^ length ds = omega (arith, less) in
    (div-lt_iff_lt-mul positive).1 scaled

no_point : (xs : List ℕ) → list_any is_point xs ≡ false → length xs ≤ position_or_len is_point xs
no_point [] none = omega arith
no_point (x ∷ xs) none = grind (arith, no_point xs)

decimals_are_digits : (token : List ℕ) → is_decimal token ≡ true → list_all is_digit (decimals token) ≡ true
decimals_are_digits token is = elim (cases_Bool (has_point token)) [
  | inl point ↦ grind (arith, rw point at is)
  | inr none ↦ ap (list_all is_digit) (drop_all (position_or_len is_point token + 1) token (omega (arith, no_point token none)))
]

seconds_in_range : (token : List ℕ) → IfOk (read_seconds token) IsTime
seconds_in_range token = decided (λ r. IfOk r IsTime) (is_decimal token) _ (Err Shape)
    (λ is. decided (λ r. IfOk r IsTime) (nat_le 0 (decimal_value 100 token) && nat_le (decimal_value 100 token) TIME_MAX)
    (Ok (decimal_value 100 token)) (Err Range) (λ within. grind (arith, nat_tests, within)) (λ out. tt)) (λ is. tt)

-- at most 99 minutes and 59 seconds, with decimals that are less than a second
minutes_within : (minutes seconds : List ℕ) → is_minutes minutes seconds ≡ true
    → (nat_le (number_of minutes) 99 && nat_le (number_of (whole_part seconds)) 59) ≡ true
    → 6000 * number_of minutes + decimal_value 100 seconds ≤ TIME_MAX
minutes_within minutes seconds is few =
    let decimal : is_decimal seconds ≡ true = grind (arith, is) in
    let small = decimals_below (decimals seconds) (decimals_are_digits seconds decimal) in
    let m : number_of minutes ≤ 99 = grind (arith, nat_tests, few) in
    let s : number_of (whole_part seconds) ≤ 59 = grind (arith, nat_tests, few) in
    omega (arith, small, m, s)

minutes_in_range : (minutes seconds : List ℕ) → IfOk (read_minutes minutes seconds) IsTime
minutes_in_range minutes seconds = decided (λ r. IfOk r IsTime) (is_minutes minutes seconds) _ (Err Shape)
    (λ is. decided (λ r. IfOk r IsTime) (nat_le (number_of minutes) 99 && nat_le (number_of (whole_part seconds)) 59) _ (Err Range)
    (λ few. minutes_within minutes seconds is few) (λ many. tt)) (λ is. tt)

pub time_in_range : (token : List ℕ) → IfOk (read_time token) IsTime
time_in_range token = decided (λ r. IfOk r IsTime) (list_any is_colon token) _ _
    (λ colon. minutes_in_range (before_first is_colon token) (after_first is_colon token)) (λ none. seconds_in_range token)

-- Phrases: what holds of the first part is known in the next.
bound : {A B : Type 0} (o : Option A) (f : A → Option B) (P : A → Type 0) (Q : B → Type 0) → IfSome o P → ((x : A) → P x → IfSome (f x) Q)
    → IfSome (o >>= f) Q
bound None f P Q known next = tt
bound (Some x) f P Q known next = next x known

-- of this part nothing need be known
next : {A : Type 0} (o : Option A) (f : A → Option Line) → ((x : A) → IfSome (f x) ValidLine) → IfSome (o >>= f) ValidLine
next None f each = tt
next (Some x) f each = each x

read_part : (read : List ℕ → Result ℕ Bad) (P : ℕ → Type 0) → ((token : List ℕ) → IfOk (read token) P) → (rest : Tokens)
    → IfSome (value read rest) (λ v. P v.0)
read_part read P each [] = tt
read_part read P each (token ∷ rest) = elim (read token) as
    (λ r. IfOk r P → IfSome {T = ℕ × Tokens} (option_map (λ n. (n, rest)) (read_as r)) (λ v. P v.0))
    [ Ok n ↦ λ ok. ok | Err bad ↦ λ ok. tt ] (each token)

at_end : {A : Type 0} (rest : Tokens) (x : A) (Q : A → Type 0) → Q x → IfSome (ended rest x) Q
at_end [] x Q ok = ok
at_end (token ∷ rest) x Q ok = tt

ends : (rest : Tokens) (line : Line) → ValidLine line → IfSome (ended rest line) ValidLine
ends rest line ok = at_end rest line ValidLine ok

either_way : (w : List ℕ) (rest : Tokens) (follows : Tokens → Option Line) (other : Option Line)
    → ((more : Tokens) → IfSome (follows more) ValidLine) → IfSome other ValidLine → IfSome (optional w rest follows other) ValidLine
either_way w [] follows other there otherwise = otherwise
either_way w (token ∷ rest) follows other there otherwise =
    decided (λ o. IfSome o ValidLine) (is_word w token) (follows rest) other (λ is. there rest) (λ is. otherwise)

only_part : (rest : Tokens) (answer : Bool → Line) → ((only : Bool) → ValidLine (answer only)) → IfSome (only_or_end rest answer) ValidLine
only_part [] answer each = each false
only_part (token ∷ rest) answer each = decided (λ o. IfSome o ValidLine) (is_word (codes "ONLY") token) _ None
    (λ is. ends rest (answer true) (each true)) (λ is. tt)

number_or : (read : List ℕ → Result ℕ Bad) (P : ℕ → Type 0) (other : ℕ) → ((token : List ℕ) → IfOk (read token) P) → P other
    → (rest : Tokens) → IfSome (value_or read other rest) P
number_or read P other each there [] = there
number_or read P other each there (token ∷ rest) =
    elim (read token) as (λ r. IfOk r P → IfSome (read_as r >>= (λ n. ended rest n)) P)
    [ Ok n ↦ λ ok. at_end rest n P ok | Err bad ↦ λ ok. tt ] (each token)

-- a line that begins with a cue's number
of_cue : (f : ℕ × Tokens → Option Line) (rest : Tokens) → ((n : ℕ) (more : Tokens) → InRange CUE_MAX n → IfSome (f (n, more)) ValidLine)
    → IfSome (cue_number rest >>= f) ValidLine
of_cue f rest each = bound (cue_number rest) f (λ v. InRange CUE_MAX v.0) ValidLine
    (read_part (read_cue_no desk_limits) (InRange CUE_MAX) cue_in_range rest) (λ v ok. each v.0 v.1 ok)

time_part : (rest : Tokens) → IfSome (time rest) (λ v. IsTime v.0)
time_part rest = read_part read_time IsTime time_in_range rest

cue_edit-valid : (make : ℕ → Edit) → ((n : ℕ) → InRange CUE_MAX n → ValidEdit (make n)) → (rest : Tokens)
    → IfSome (cue_edit make rest) ValidLine
cue_edit-valid make each rest = of_cue _ rest (λ n more ok. ends more _ (each n ok))

part_edit-valid : (make : ℕ → ℕ → Edit) → ((n p : ℕ) → InRange CUE_MAX n → ValidEdit (make n p)) → (rest : Tokens)
    → IfSome (part_edit make rest) ValidLine
part_edit-valid make each rest = of_cue _ rest
    (λ n more ok. next (value (read_whole 1 PARTS) more) _ (λ p. ends p.1 _ (each n p.0 ok)))

set_line-valid : (rest : Tokens) → IfSome (set_line rest) ValidLine
set_line-valid rest = of_cue _ rest (λ n more ok. either_way (codes "CHAN") more (set_channels n) _
    (λ more. next (channels more) _ (λ range. next (at_level range.1) _ (λ level. next (in_part level.1) _
    (λ part. only_part part.1 _ (λ only. record { cue = ok; times = tt })))))
    (next (word (codes "GROUP") more) _ (λ more. next (value (read_whole 1 GROUPS) more) _ (λ g. next (at_level g.1) _
    (λ level. next (in_part level.1) _ (λ part. only_part part.1 _ (λ only. record { cue = ok; times = tt })))))))

time_edit-valid : (n p : ℕ) (rising : Bool) → InRange CUE_MAX n → (rest : Tokens) → IfSome (time_edit n p rising rest) ValidLine
time_edit-valid n p rising ok rest = bound (time rest) _ (λ v. IsTime v.0) ValidLine (time_part rest)
    (λ t is. bound (value_or read_time 0 t.1) _ IsTime ValidLine (number_or read_time IsTime 0 time_in_range (omega arith) t.1)
    (λ d also. record { cue = ok; times = (is, (also, tt)) }))

time_line-valid : (rest : Tokens) → IfSome (time_line rest) ValidLine
time_line-valid rest = of_cue _ rest (λ n more ok. next (in_part more) _
    (λ part. either_way (codes "UP") part.1 _ _ (time_edit-valid n _ true ok)
    (next (word (codes "DOWN") part.1) _ (λ more. time_edit-valid n _ false ok more))))

follow_line-valid : (rest : Tokens) → IfSome (follow_line rest) ValidLine
follow_line-valid rest = of_cue _ rest (λ n more ok. either_way (codes "OFF") more _ _
    (λ more. ends more _ (record { cue = ok; times = tt }))
    (bound (time more) _ (λ v. IsTime v.0) ValidLine (time_part more) (λ t is. ends t.1 _ (record { cue = ok; times = (is, tt) }))))

tick_line-valid : (rest : Tokens) → IfSome (tick_line rest) ValidLine
tick_line-valid [] = record { least = omega arith; most = omega arith }
tick_line-valid (token ∷ rest) = bound (value (read_whole 1 TICKS) (token ∷ rest)) _ (λ v. InRange TICKS v.0) ValidLine
    (read_part (read_whole 1 TICKS) (InRange TICKS) (whole_in_range TICKS) (token ∷ rest)) (λ k ok. ends k.1 _ ok)

frame_line-valid : (rest : Tokens) → IfSome (frame_line rest) ValidLine
frame_line-valid rest = bound (value_or (read_whole 1 UNIVERSES) 1 rest) _ (InRange UNIVERSES) ValidLine
    (number_or (read_whole 1 UNIVERSES) (InRange UNIVERSES) 1 (whole_in_range UNIVERSES)
    (record { least = omega arith; most = omega arith }) rest) (λ u ok. ok)

abbrev Sentence : Type 0
Sentence = List ℕ × (Tokens → Option Line)

abbrev IsValid : Sentence → Type 0
IsValid s = (rest : Tokens) → IfSome (s.1 rest) ValidLine

alone-valid : (meant : Line) → ValidLine meant → (rest : Tokens) → IfSome (alone meant rest) ValidLine
alone-valid meant ok rest = ends rest meant ok

-- one fact and the next
infixr 5 ◌&◌
abbrev ◌&◌ : {A B : Type 0} → A → B → A × B
a & b = (a, b)

-- the members of a group or submaster, where nothing need be known of its number
members-valid : (f : ℕ × Tokens → Span × Tokens → ℕ × Tokens → Line)
    → ((g : ℕ × Tokens) (range : Span × Tokens) (level : ℕ × Tokens) → ValidLine (f g range level)) → (most : ℕ) (rest : Tokens)
    → IfSome (value (read_whole 1 most) rest >>= (λ g. word (codes "CHAN") g.1 >>= (λ more. channels more >>= (λ range.
    at_level range.1 >>= (λ level. ended level.1 (f g range level)))))) ValidLine
members-valid f each most rest = next (value (read_whole 1 most) rest) _ (λ g. next (word (codes "CHAN") g.1) _
    (λ more. next (channels more) _ (λ range. next (at_level range.1) _ (λ level. ends level.1 _ (each g range level)))))

sentences-valid : (line : List ℕ) → AllByRecursion IsValid (sentences line)
sentences-valid line =
    alone-valid _ tt & alone-valid _ tt & (λ rest. next (cue_number rest) _ (λ n. ends n.1 _ tt)) & alone-valid _ tt
    & (λ rest. next (value (read_whole 1 SUBS) rest) _ (λ s. next (at_level s.1) _ (λ level. ends level.1 _ tt)))
    & (λ rest. next (at_level rest) _ (λ level. ends level.1 _ tt)) & tick_line-valid
    & cue_edit-valid _ (λ n ok. record { cue = ok; times = tt })
    & (λ rest. of_cue _ rest (λ n more ok. only_part more _ (λ only. record { cue = ok; times = tt }))) & set_line-valid
    & (λ rest. of_cue _ rest (λ n more ok. next (word (codes "CHAN") more) _
    (λ more. next (channels more) _ (λ range. only_part range.1 _ (λ only. record { cue = ok; times = tt }))))) & time_line-valid
    & part_edit-valid _ (λ n p ok. record { cue = ok; times = tt }) & part_edit-valid _ (λ n p ok. record { cue = ok; times = tt })
    & cue_edit-valid _ (λ n ok. record { cue = ok; times = tt }) & cue_edit-valid _ (λ n ok. record { cue = ok; times = tt })
    & cue_edit-valid _ (λ n ok. record { cue = ok; times = tt }) & cue_edit-valid _ (λ n ok. record { cue = ok; times = tt })
    & follow_line-valid & (λ rest. of_cue _ rest (λ n more ok. record { cue = ok; times = tt }))
    & members-valid _ (λ g range level. record { cue = tt; times = tt }) GROUPS
    & members-valid _ (λ s range level. record { cue = tt; times = tt }) SUBS
    & (λ rest. next (value (read_whole 1 DIMMERS) rest) _ (λ e. next (word (codes "CHAN") e.1) _ (λ more. next (channel more) _
    (λ c. next (at_level c.1) _ (λ level. ends level.1 _ (record { cue = tt; times = tt }))))))
    & (λ rest. next (value (read_whole 1 DIMMERS) rest) _ (λ e. ends e.1 _ (record { cue = tt; times = tt })))
    & frame_line-valid & (λ rest. of_cue _ rest (λ n more ok. ends more _ ok)) & alone-valid _ tt & alone-valid _ tt & tt

found-valid : (test : Sentence → Bool) (all : List Sentence) (rest : Tokens) → AllByRecursion IsValid all
    → IfSome (option_map_or (λ s. s.1 rest) (find test all) None) ValidLine
found-valid test [] rest each = tt
found-valid test (s ∷ all) rest each = decided (λ o. IfSome (option_map_or (λ s. s.1 rest) o None) ValidLine) (test s) (Some s) _
    (λ is. each.0 rest) (λ other. found-valid test all rest each.1)

meaning-valid : (line : List ℕ) (all : Tokens) → IfSome (meaning line all) ValidLine
meaning-valid line [] = tt
meaning-valid line (first ∷ rest) = found-valid (λ s. is_word s.0 first) (sentences line) rest (sentences-valid line)

pub line_of-valid : (line : List ℕ) → IfSome (line_of line) ValidLine
line_of-valid line = decided (λ o. IfSome o ValidLine) (nat_lt LINE_BYTES (length line)) None _ (λ long. tt)
    (λ short. meaning-valid line (tokens line))
