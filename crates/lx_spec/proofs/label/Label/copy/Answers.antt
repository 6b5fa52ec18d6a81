use Rattle.lx_spec.proofs.Imports.{◌≡◌, ◌∙◌, subst, sym, label_of, take_all}
use Rattle.lx_spec.proofs.label.Label.copy.Goals as goal

copied : (c : goal.After-loop-byte) → c.loop-byte.bytes.items ≡ c.self.inside.bytes.items
copied c = c.loop-byte.invariant ∙ take_all c.loop-byte.byte-index c.as_slice-byte-items.result.now c.loop-byte-test.false
    ∙ c.as_slice-byte-items.ensures.value

pub invariant_of-result : goal.invariant_of-result
invariant_of-result c = subst (λ bytes. label_of bytes ≡ bytes) (sym (copied c)) c.self.invariant

pub returns : goal.returns
returns c = copied c ∙ c.self.view_is
