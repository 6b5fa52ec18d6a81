-- clap takes each list of words of which none begins with a dash, and its one argument then has them as its values.
use Rattle.lx_program.proofs.Imports.{◌≡◌, ◌∙◌, ◌≤◌, Bool, true, false, Option, Some, None, List, [], ◌∷◌, ◌++◌, length, fold, refl}
use Rattle.lx_program.proofs.Imports.{sym, ap, append_assoc, append-nil, arith, codes, ◌&&◌, ◌||◌, nat_le, option_and_then, if◌then◌else◌}
use Rattle.lx_program.proofs.Imports.{list_all, list_any, bytes_eq, nat_tests, long_of, short_of, long_of_rest, short_of_rest, strip_byte, usize_max, Text}
use Rattle.lx_program.proofs.Imports.{Rule, Row, Held, Waiting, Walk, Step, idle, positional, value, trailing, walked, walk, walk_from, nothing_held}
use Rattle.lx_program.proofs.Imports.{after_step, long_or_other, short_or_plain, finished, reading_by, App, Shape, built, new_app, new_rule, with_rule, on_top}
use Rattle.lx_program.proofs.Imports.{is_simple, matches_of, takes, other_passes, step_passes, default_passes, is_valid, turn_passes, flag_word_passes}
use Rattle.lx_program.proofs.Imports.{bundle_passes, value_passes, settle_passes, level_passes, Append, option_map, unwrap_or, find, found_of, matched_of}
use Rattle.lx_program.proofs.Imports.{raw_values, row_of, rows_of, all_of, begins_with_dash, values_of}
use Rattle.std.specs.Option.{option_map_or}
use Rattle.clap.specs.Takes.{walk_passes}
use Rattle.clap.specs.declared.parser.matches.ValueSource.TheVariants.{CommandLine}
use Rattle.clap.proofs.OnLiterals.{clap_on_literals}
use Rattle.clap.proofs.TakesLemmas.{leaf_takes}
use Rattle.clap.specs.Facts.{Entry}
use Rattle.clap.proofs.WalkLemmas.{find_row}
use Rattle.clap.specs.declared.parser.matches.ArgMatches.{ArgMatches}
use Rattle.clap.specs.declared.parser.matches.Found.{Found}

abbrev pub the_rule : Rule
the_rule = record (new_rule (codes "word"))
    { range = Some (record { start_inclusive = 1; end_inclusive = usize_max }); action = Some Append }

abbrev pub the_app : App
the_app = with_rule (on_top (λ s. record s { no_binary_name = true }) (new_app (codes "cuedesk"))) the_rule

abbrev shape : Shape
shape = (built the_app).top

abbrev rules : List Rule
rules = shape.rules

-- the words so far are the values that are being read
abbrev standing : List Text → Walk
standing vs = record {
  held = record { rows = []; pending = Some (codes "word", vs); skip = 0 };
  waiting = positional;
  position = 1;
  is_trailing = false;
  stopped = None;
}

-- ---- a word that doesn't begin with a dash

no_strip : (w : Text) → begins_with_dash w ≡ false → strip_byte 45 w ≡ None
no_strip [] e = refl
no_strip (x ∷ xs) e = ap (λ b. if b then Some xs else None) e

not_dashes : (w : Text) → begins_with_dash w ≡ false → bytes_eq w (45 ∷ 45 ∷ []) ≡ false
not_dashes [] e = refl
not_dashes (x ∷ xs) e = ap (λ b. b && bytes_eq xs (45 ∷ [])) e

no_long : (w : Text) → begins_with_dash w ≡ false → long_of w ≡ None
no_long w e = ap (λ o. option_and_then long_of_rest (option_and_then (strip_byte 45) o)) (no_strip w e)

no_short : (w : Text) → begins_with_dash w ≡ false → short_of w ≡ None
no_short w e = ap (λ o. option_and_then short_of_rest o) (no_strip w e)

met : (x : Waiting) (w : Text) (h : Held) → begins_with_dash w ≡ false → short_or_plain rules x w None h ≡ (h, value)
    → (if bytes_eq w (45 ∷ 45 ∷ []) then (h, trailing 1) else long_or_other rules x w (long_of w) h) ≡ (h, value)
met x w h e plain =
    ap (λ b. if b then (h, trailing 1) else long_or_other rules x w (long_of w) h) (not_dashes w e)
    ∙ ap (λ o. long_or_other rules x w o h) (no_long w e) ∙ ap (λ o. short_or_plain rules x w o h) (no_short w e) ∙ plain

-- ---- the walk

first : (w : Text) → begins_with_dash w ≡ false → walked rules [] (walk_from nothing_held) w ≡ standing (w ∷ [])
unfolding clap_on_literals
first w e = ap (λ (m : Held × Step). after_step rules w (walk_from nothing_held) m.0 m.1) (met idle w nothing_held e refl)

next : (w : Text) (vs : List Text) → begins_with_dash w ≡ false → walked rules [] (standing vs) w ≡ standing (vs ++ w ∷ [])
unfolding clap_on_literals
next w vs e = ap (λ (m : Held × Step). after_step rules w (standing vs) m.0 m.1) (met positional w (standing vs).held e refl)

parts : (a b : Bool) → (a || b) ≡ false → (a ≡ false) × (b ≡ false)
parts true b e = absurd cc
parts false b e = (refl, e)

rest : (ws vs : List Text) → list_any begins_with_dash ws ≡ false → fold (walked rules []) (standing vs) ws ≡ standing (vs ++ ws)
rest [] vs e = ap standing (sym (append-nil vs))
rest (w ∷ ws) vs e =
    let p = parts (begins_with_dash w) (list_any begins_with_dash ws) e in
    ap (λ x. fold (walked rules []) x ws) (next w vs p.0) ∙ rest ws (vs ++ w ∷ []) p.1 ∙ ap standing (append_assoc vs (w ∷ []) ws)

whole : (w : Text) (ws : List Text) → list_any begins_with_dash (w ∷ ws) ≡ false → walk rules [] nothing_held (w ∷ ws) ≡ standing (w ∷ ws)
whole w ws e =
    let p = parts (begins_with_dash w) (list_any begins_with_dash ws) e in
    ap (λ x. fold (walked rules []) x ws) (first w p.0) ∙ rest ws (w ∷ []) p.1

-- ---- the matches

abbrev given_row : List Text → Row
given_row vs = record { id = codes "word"; values = vs; count = None; source = Some CommandLine; reading = reading_by the_rule }

pub none_given : matches_of the_app [] ≡ []
unfolding clap_on_literals
none_given = refl

row_given : (w : Text) (ws : List Text) → finished rules (standing (w ∷ ws)).held ≡ given_row (w ∷ ws) ∷ []
unfolding clap_on_literals
row_given w ws = refl

pub words_given : (w : Text) (ws : List Text) → list_any begins_with_dash (w ∷ ws) ≡ false
    → matches_of the_app (w ∷ ws) ≡ given_row (w ∷ ws) ∷ []
words_given w ws e = ap (λ (x : Walk). finished rules x.held) (whole w ws e) ∙ row_given w ws

-- ---- and nothing is refused

both : (a b : Bool) → a ≡ true → b ≡ true → (a && b) ≡ true
both a b p q = ap (λ x. x && b) p ∙ q

word_fine : (w : Text) (h : Held) → begins_with_dash w ≡ false → other_passes shape None w h ≡ true
word_fine w h e =
    ap (λ b. b || flag_word_passes rules shape.args_override_self (long_of w) w h) (not_dashes w e)
    ∙ ap (λ o. flag_word_passes rules shape.args_override_self o w h) (no_long w e)
    ∙ ap (λ o. option_map_or (λ flags. bundle_passes rules shape.args_override_self flags h) o true) (no_short w e)

first_passes : (w : Text) → begins_with_dash w ≡ false → turn_passes shape [] (walk_from nothing_held) w ≡ true
unfolding clap_on_literals
first_passes w e =
    both (other_passes shape None w nothing_held) _ (word_fine w nothing_held e)
    (ap (λ (m : Held × Step). step_passes shape 1 m.0 m.1) (met idle w nothing_held e refl))

next_passes : (w : Text) (vs : List Text) → begins_with_dash w ≡ false → turn_passes shape [] (standing vs) w ≡ true
unfolding clap_on_literals
next_passes w vs e =
    both (other_passes shape None w (standing vs).held) _ (word_fine w (standing vs).held e)
    (ap (λ (m : Held × Step). step_passes shape 1 m.0 m.1) (met positional w (standing vs).held e refl))

rest_passes : (ws vs : List Text) → list_any begins_with_dash ws ≡ false → walk_passes shape [] (standing vs) ws ≡ true
unfolding walk_passes
rest_passes [] vs e = refl
rest_passes (w ∷ ws) vs e =
    let p = parts (begins_with_dash w) (list_any begins_with_dash ws) e in
    both (turn_passes shape [] (standing vs) w) _ (next_passes w vs p.0)
    (ap (λ (x : Walk). walk_passes shape [] x ws) (next w vs p.0) ∙ rest_passes ws (vs ++ w ∷ []) p.1)

all_pass : (vs : List Text) → list_all (value_passes the_rule) vs ≡ true
all_pass [] = refl
all_pass (v ∷ vs) = all_pass vs

settles : (w : Text) (ws : List Text) → length (w ∷ ws) ≤ usize_max
    → settle_passes rules shape.args_override_self (standing (w ∷ ws)).held ≡ true
unfolding clap_on_literals
settles w ws few =
    let some : nat_le 1 (length (w ∷ ws)) ≡ true = grind (arith, nat_tests) in
    let most : nat_le (length (w ∷ ws)) usize_max ≡ true = grind (arith, nat_tests, few) in
    both (nat_le 1 (length (w ∷ ws))) _ some (both (nat_le (length (w ∷ ws)) usize_max) _ most (all_pass ws))

pub none_taken : takes the_app [] ≡ true
unfolding clap_on_literals
none_taken = refl

valid_end : (w : Text) (ws : List Text) → is_valid shape (given_row (w ∷ ws) ∷ []) false ≡ true
unfolding clap_on_literals
valid_end w ws = refl

defaults_fine : list_all default_passes rules ≡ true
unfolding clap_on_literals
defaults_fine = refl

level_fine : (w : Text) (ws : List Text) → list_any begins_with_dash (w ∷ ws) ≡ false → length (w ∷ ws) ≤ usize_max
    → level_passes shape [] nothing_held (w ∷ ws) false ≡ true
unfolding walk_passes
level_fine w ws e few =
    let p = parts (begins_with_dash w) (list_any begins_with_dash ws) e in
    let walks : walk_passes shape [] (walk_from nothing_held) (w ∷ ws) ≡ true =
    both (turn_passes shape [] (walk_from nothing_held) w) _ (first_passes w p.0)
    (ap (λ (x : Walk). walk_passes shape [] x ws) (first w p.0) ∙ rest_passes ws (w ∷ []) p.1) in
    both (walk_passes shape [] (walk_from nothing_held) (w ∷ ws)) _ walks
    (ap (λ (x : Walk). settle_passes rules shape.args_override_self x.held &&
    (list_all default_passes rules && is_valid shape (finished rules x.held) false)) (whole w ws e)
    ∙ both (settle_passes rules shape.args_override_self (standing (w ∷ ws)).held) _ (settles w ws few)
    (both (list_all default_passes rules) _ defaults_fine (ap (λ rows. is_valid shape rows false) (row_given w ws) ∙ valid_end w ws)))

simple : is_simple the_app ≡ true
unfolding clap_on_literals
simple = refl

no_subs : (built the_app).subs ≡ []
unfolding clap_on_literals
no_subs = refl

pub words_taken : (w : Text) (ws : List Text) → list_any begins_with_dash (w ∷ ws) ≡ false → length (w ∷ ws) ≤ usize_max
    → takes the_app (w ∷ ws) ≡ true
words_taken w ws e few = both (is_simple the_app) _ simple
    (leaf_takes (built the_app) nothing_held (w ∷ ws) no_subs (level_fine w ws e few))

-- ---- the values that clap hands out

entry_values : (o : Option Entry) → option_map raw_values (option_map (λ e. e.1) o) ≡ option_map (λ r. r.values) (option_map row_of o)
entry_values None = refl
entry_values (Some e) = refl

found_values : (f : Found) (id : Text) → option_map raw_values (matched_of f id) ≡ all_of id (rows_of f)
found_values f id = entry_values (find (λ e. bytes_eq e.0.now id) f.entries.items)
    ∙ ap (option_map (λ (r : Row). r.values)) (sym (find_row f.entries.items id))

pub are_given : (words : List Text) (m : ArgMatches) → list_any begins_with_dash words ≡ false
    → rows_of (found_of m) ≡ matches_of the_app words → values_of m ≡ words
are_given [] m e rows = ap (λ o. unwrap_or o []) (found_values (found_of m) (codes "word"))
    ∙ ap (λ r. unwrap_or (all_of (codes "word") r) []) (rows ∙ none_given)
are_given (w ∷ ws) m e rows = ap (λ o. unwrap_or o []) (found_values (found_of m) (codes "word"))
    ∙ ap (λ r. unwrap_or (all_of (codes "word") r) []) (rows ∙ words_given w ws e)

pub are_taken : (words : List Text) → list_any begins_with_dash words ≡ false → length words ≤ usize_max → takes the_app words ≡ true
are_taken [] e few = none_taken
are_taken (w ∷ ws) e few = words_taken w ws e few

pub is_the_app : is_simple the_app ≡ true
is_the_app = simple
