-- The same text read under finer cue numbers: the definitions take the limits of a text as one record.
use Rattle.lx_spec.proofs.Imports.{◌≡◌, Result, Ok, Err, [], ◌∷◌, map, refl, codes, arith, Moves, Shape, desk_limits, read_cue_no}
use Rattle.lx_spec.proofs.Imports.{decimal_text, Reading, reads_under}
use Rattle.std.specs.Fmt.{digits}
use Rattle.lx_spec.specs.declared.TextFault.{TextFault}
use Rattle.lx_spec.specs.Finer.{HasOneDecimalMore, hundredths, finer}
use Rattle.lx_spec.proofs.ScriptTexts.{barred}

pub one_decimal_more : HasOneDecimalMore desk_limits hundredths
one_decimal_more = record {
  decimals = 2;
  unit_before = refl;
  unit = refl;
  cue_most = omega arith;
  cues = omega arith;
  channels = omega arith;
  dimmers = omega arith;
}

abbrev made_finer : Result Reading TextFault → Result Reading TextFault
made_finer (Ok reading) = Ok (finer reading)
made_finer (Err fault) = Err fault

-- three decimals are read, and four are not
decimals_read : map (λ t. read_cue_no desk_limits (codes t)) ("2.555" ∷ "2.5555" ∷ ".05" ∷ []) ≡ Ok 2555 ∷ Err Shape ∷ Ok 50 ∷ []
decimals_read = refl

three_decimals_written : decimal_text 1000 2550 ≡ codes "2.55"
unfolding digits
three_decimals_written = refl

same_show :
    let linked = barred (codes "IDENT 3:0|CUE 2.5|LINK .05|CHAN 1@50|ENDDATA") in
    reads_under desk_limits Moves linked ≡ made_finer (reads_under hundredths Moves linked)
same_show = refl
