use Rattle.lx_gate.proofs.Imports.{◌≡◌, ◌-◌, ◌++◌, length, drop, ap, ◌∙◌, arith}
use Rattle.lx_gate.proofs.UnsentCommands.{entered_whole, entered_known}
use Rattle.lx_gate.proofs.gate.Gate+G+GateWriter+G.enter.Goals as goal

pub extend-requires-clause-known : goal.extend-requires-clause-known
extend-requires-clause-known g c =
    omega (
      arith,
      entered_known c.args.self.now c.args.unsent.now c.requires.entered,
      c.len.ensures,
      c.len-in-loop.ensures,
      ap length c.again-entered.ensures,
      ap (λ v. length v.entered) c.self.view_is,
      ap (λ v. length v.published) c.self.view_is,
    )

pub returns-then-extend : goal.returns-then-extend
returns-then-extend g c =
    let list : c.again-entered.result ≡ c.args.self.now.entered = c.again-entered.ensures ∙ ap (λ v. v.entered) c.self.view_is in
    let known : c.len.result - c.len-in-loop.result ≡ length c.args.self.now.entered - length c.args.self.now.published =
    omega (arith, c.len.ensures, c.len-in-loop.ensures, ap length list, ap (λ v. length v.published) c.self.view_is) in
    c.if-extend.ensures ∙ rw (list, known) (entered_whole c.args.self.now c.args.unsent.now c.requires.entered)
