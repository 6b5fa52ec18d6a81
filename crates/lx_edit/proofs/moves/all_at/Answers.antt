use Rattle.lx_edit.proofs.Imports.{◌≡◌, ◌+◌, ◌-◌, ℕ, ◌∙◌, ap, sym, ◌++◌, ◌∷◌, [], List, arith, range_with_len}
use Rattle.lx_edit.proofs.Imports.{map-range_with_len_more, Member, all_at}
use Rattle.lx_edit.proofs.moves.all_at.Goals as goal

pub loop-n-preserved : goal.loop-n-preserved
loop-n-preserved g c =
    let first = c.get-first.result in
    let n = c.loop-n.n in
    let at : ℕ → Member = λ k. record { chan = k; level = c.args.level } in
    let length_is : n + 1 - first ≡ n - first + 1 = omega (arith, c.loop-n.auto.n) in
    record {
      items = c.push_reserved.ensures.items
          ∙ ap (λ (xs : List Member). xs ++ (record { chan = c.channel.result; level = c.args.level } ∷ [])) c.loop-n.invariant.items
          ∙ ap (λ (k : ℕ). all_at c.args.level (range_with_len first (n - first)) ++ (at k ∷ [])) c.channel.ensures
          ∙ sym (map-range_with_len_more at first (n - first) n (omega (arith, c.loop-n.auto.n)))
          ∙ ap (λ (k : ℕ). all_at c.args.level (range_with_len first k)) (sym length_is);
      room = omega (arith, c.push_reserved.ensures.len, c.push_reserved.ensures.capacity, c.loop-n.invariant.room, c.loop-n-test.true);
    }
