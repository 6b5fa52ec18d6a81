-- Tables: what they tell, one value of them changed, and a mix of two.
use Rattle.lx_mixer.proofs.Imports.{◌≡◌, ℕ, ◌+◌, ◌-◌, ◌≤◌, max, List, length, EachIndex, arith, get_or, set, get_or-set_other, ◌∙◌}
use Rattle.lx_mixer.proofs.Imports.{ap, sym, inl, inr, length-set, cases_eq, scaled}
use Rattle.std.proofs.lemmas.Grind.{get_or-set_at}
use Rattle.lx_mixer.specs.Table.{IsTable}

-- a table tells the value of a number
pub told : (n : ℕ) (value : ℕ → ℕ) (values : List ℕ) (c : ℕ) → IsTable n value values → 1 ≤ c → c ≤ n → get_or values (c - 1) 0 ≡ value c
told n value values c table least most = let is : c - 1 + 1 ≡ c = omega arith in table.each (c - 1) (omega arith) ∙ ap value is

-- a table of one function is that of another with the same values
pub table_of_same : (n : ℕ) (one other : ℕ → ℕ) (values : List ℕ) → ((c : ℕ) → 1 ≤ c → c ≤ n → one c ≡ other c) → IsTable n one values
    → IsTable n other values
table_of_same n one other values same table = record {
  reach = table.reach;
  each = λ k within. table.each k within ∙ same (k + 1) (omega arith) (omega arith);
}

-- a table with the value of one number changed
pub table-set : (n e x : ℕ) (before after : ℕ → ℕ) (values : List ℕ) → IsTable n before values → 1 ≤ e → e ≤ n → after e ≡ x
    → ((c : ℕ) → (c ≡ e → ⊥) → after c ≡ before c) → IsTable n after (set values (e - 1) x)
table-set n e x before after values table least most here_is others = record {
  reach = length-set values (e - 1) x ∙ table.reach;
  each = λ k within. elim (cases_eq (k + 1) e) [
    | inl here ↦ get_or-set_at values (e - 1) k x 0 (omega arith) (omega (arith, table.reach)) ∙ sym here_is ∙ ap after (sym here)
    | inr other ↦
        get_or-set_other values (e - 1) k x 0 (λ same. other (omega arith)) ∙ table.each k within ∙ sym (others (k + 1) other)
  ];
}

-- a mix of tables is the table of the mix
pub mixed : (n master : ℕ) (level contribution : ℕ → ℕ) (levels contributions outs : List ℕ) → length outs ≡ n → IsTable n level levels
    → IsTable n contribution contributions → EachIndex outs (λ k. get_or outs k 0 ≡ scaled (max (get_or levels k 0) (get_or contributions k 0)) master)
    → IsTable n (λ c. scaled (max (level c) (contribution c)) master) outs
mixed n master level contribution levels contributions outs reach of_levels of_contributions each = record {
  reach = reach;
  each = λ k within.
      each k (omega arith)
      ∙ ap (λ l. scaled (max l (get_or contributions k 0)) master) (of_levels.each k within)
      ∙ ap (λ l. scaled (max (level (k + 1)) l) master) (of_contributions.each k within);
}
