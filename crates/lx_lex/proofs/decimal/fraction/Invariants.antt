use Rattle.lx_lex.proofs.Imports.{◌≡◌, ◌+◌, ◌*◌, ◌/◌, ◌^◌, ◌<◌, ◌≤◌, true, take, list_all, is_digit, number_of}
use Rattle.lx_lex.proofs.decimal.fraction.Given as goal

abbrev pub invariant-loop-b : goal.invariant-loop-b
invariant-loop-b l = record {
  digits : list_all is_digit (take l.b-index l.digits) ≡ true;
  part : l.part ≡ number_of (take l.b-index l.digits) * l.unit / 10 ^ l.b-index;
  step : l.step ≡ l.unit / 10 ^ l.b-index;
  room : l.part + l.step ≤ l.unit;
  less : l.part < l.unit;
}
