-- Number texts and their values, by computation.
use Rattle.lx_spec.proofs.Imports.{◌≡◌, ◌*◌, ◌/◌, [], ◌∷◌, map, Ok, Err, refl, codes, CUE_UNIT, Shape, Range, desk_limits, read_time, read_cue_no}
use Rattle.lx_spec.proofs.Imports.{read_level, decimal_text, time_text, level_text}
use Rattle.std.specs.Fmt.{digits}

-- Times, in hundredths of a second: further decimals are cut off, and a time is below 100 minutes.
times : map (λ t. read_time (codes t)) ("1:30" ∷ ".5" ∷ "1.239" ∷ "99:59.99" ∷ [])
    ≡ Ok 9000 ∷ Ok 50 ∷ Ok 123 ∷ Ok 599999 ∷ []
times = refl

-- too long, and a minute's seconds are below 60
no_times : map (λ t. read_time (codes t)) ("6000" ∷ "1:60" ∷ []) ≡ Err Range ∷ Err Range ∷ []
no_times = refl

-- cue numbers, in their smallest steps
cue_numbers : map (λ t. read_cue_no desk_limits (codes t)) ("2.5" ∷ "001" ∷ ".05" ∷ "2.555" ∷ [])
    ≡ Ok (CUE_UNIT * 5 / 2) ∷ Ok CUE_UNIT ∷ Ok (CUE_UNIT / 20) ∷ Ok 2555 ∷ []
cue_numbers = refl

-- too fine, too low and too high
no_cue_numbers : map (λ t. read_cue_no desk_limits (codes t)) ("2.5555" ∷ "0" ∷ "10000" ∷ []) ≡ Err Shape ∷ Err Range ∷ Err Range ∷ []
no_cue_numbers = refl

-- levels in percent, full, and in two hexadecimal digits
levels : map (λ t. read_level (codes t)) ("50" ∷ "1" ∷ "fl" ∷ "h0a" ∷ []) ≡ Ok 128 ∷ Ok 3 ∷ Ok 255 ∷ Ok 10 ∷ []
levels = refl

-- one digit alone, and more than all
no_levels : map (λ t. read_level (codes t)) ("H1" ∷ "101" ∷ []) ≡ Err Shape ∷ Err Range ∷ []
no_levels = refl

-- written numbers
cue_number_written : decimal_text CUE_UNIT (CUE_UNIT * 5 / 2) ≡ codes "2.5"
unfolding digits
cue_number_written = refl

times_written : map time_text (205 ∷ 900 ∷ 0 ∷ []) ≡ codes "2.05" ∷ codes "9" ∷ codes "0" ∷ []
unfolding digits
times_written = refl

level_written : level_text 10 ≡ codes "H0A"
unfolding digits
level_written = refl
