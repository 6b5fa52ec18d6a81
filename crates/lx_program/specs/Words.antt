-- The words of the command line, and what clap makes of them.
use Rattle.std.specs.Prelude.{ℕ, ◌==◌, Bool, false, List, [], ◌∷◌, option_map, unwrap_or, codes}
use Rattle.clap.specs.Words.{found_of, matched_of, raw_values}
use Rattle.clap.specs.declared.parser.matches.ArgMatches.{ArgMatches}

abbrev pub begins_with_dash : List ℕ → Bool
begins_with_dash [] = false
begins_with_dash (b ∷ bs) = b == 45

-- the values of the one argument
abbrev pub values_of : ArgMatches → List (List ℕ)
values_of m = unwrap_or (option_map raw_values (matched_of (found_of m) (codes "word"))) []
