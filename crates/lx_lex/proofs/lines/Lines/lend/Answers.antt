use Rattle.lx_lex.proofs.Imports.{◌≡◌, ◌+◌, ◌-◌, ◌≤◌, List, ℕ, length, true, refl, sym, ap, ◌∙◌, inl, subst, arith, slice_range}
use Rattle.lx_lex.proofs.Imports.{common_steps, without_cr, BytesBetween}
use Rattle.lx_lex.proofs.Bytes.{without_cr-none}
use Rattle.lx_lex.proofs.Ranges.{nowhere-part}
use Rattle.lx_lex.proofs.lines.Lines.lend.Goals as goal

pub returns-clause-step : goal.returns-clause-step
returns-clause-step g c =
    let l = c.args.self.now in
    let p = c.pass_held.ensures in
    let raw : List ℕ = slice_range l.buffer l.start l.feed in
    let all : without_cr raw ≡ raw =
    without_cr-none raw (nowhere-part l.buffer l.start l.feed 13 (λ k low high. l.bare c.requires.can.plain k (omega arith) (omega arith))) in
    let end : l.start + (l.feed - l.start) ≡ l.feed = omega arith in
    let few : length raw ≤ 4096 = grind (arith, common_steps, c.requires.can.short) in (
      raw,
      record {
        fed = true;
        took = subst (BytesBetween _ _ _ _ raw) (p.fed c.requires.can.fed) p.took;
        ended = inl refl;
        within = c.if-self-gt-INPUT_BYTES.false;
      },
      ap (λ b. slice_range b l.start (l.start + (l.feed - l.start))) p.same.3 ∙ ap (slice_range l.buffer l.start) end ∙ sym all,
      subst (λ v. length v ≤ 4096) (sym all) few,
    )
