use Rattle.lx_edit.proofs.Imports.{◌≡◌, ◌+◌, ◌-◌, ◌≤◌, ◌∙◌, ℕ, List, [], ◌∷◌, ap, sym, subst, arith, range_with_len, fold-append}
use Rattle.lx_edit.proofs.Imports.{map-range_with_len_more, Member, all_at, placed, ValidMembers, with_members, with_member}
use Rattle.lx_edit.proofs.members.put_members.Goals as goal

pub loop-n-preserved : goal.loop-n-preserved
loop-n-preserved g c =
    let start = c.args.list.now in
    let first = c.get-first.result in
    let n = c.loop-n.n in
    let at : ℕ → Member = λ k. record { chan = k; level = c.args.level } in
    let length_is : n + 1 - first ≡ n - first + 1 = omega (arith, c.loop-n.auto.n) in
    let within : n ≤ c.args.channels = omega (arith, c.requires.within.most, c.loop-n-test.true) in
    record {
      is = c.in_ok-put.ensures.ok ∙ rw (c.loop-n.invariant.is, c.channel-chan.ensures, length_is)
          (sym (ap (with_members start) (map-range_with_len_more at first (n - first) n (omega (arith, c.loop-n.auto.n)))
          ∙ fold-append (λ (ms : List Member) (m : Member). placed (λ (x : Member). x.chan) m ms) start
          (all_at c.args.level (range_with_len first (n - first))) (at n ∷ [])));
      valid = subst (ValidMembers c.args.channels) (sym c.in_ok-put.ensures.ok)
          (with_member c.args.channels _ c.loop-n.list c.loop-n.invariant.valid (record {
            chan = record { least = c.of_member.ensures.chan.least; most = rw c.channel-chan.ensures within };
            level = c.of_member.ensures.level;
          }));
      count = c.in_ok-put.ensures.cause.kept ∙ c.loop-n.invariant.count;
    }
