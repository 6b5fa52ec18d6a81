use Rattle.lx_text_laws.proofs.Imports.{◌∙◌, ◌++◌, ap, List, ℕ, show_text}
use Rattle.lx_text_laws.proofs.ReadBack.{back_same, back_fault}
use Rattle.lx_text_laws.proofs.written.read_back.Goals as goal

pub returns-in-Ok-copy_of-clause-same : goal.returns-in-Ok-copy_of-clause-same
returns-in-Ok-copy_of-clause-same g c =
    let written = c.in-Ok-copy_of.ensures.items ∙ c.bytes.ensures.bytes ∙ c.in-Ok.ensures.text.whole
    ∙ ap (λ (bytes : List ℕ). bytes ++ show_text c.args.show.now) c.requires.empty in
    back_same c.args.show.now c.in-Ok.ensures.valid c.in-Ok-copy_of.text.items written c.read_text.result c.read_text.ensures.answer

pub returns-in-Ok-copy_of-clause-fault : goal.returns-in-Ok-copy_of-clause-fault
returns-in-Ok-copy_of-clause-fault g c =
    let written = c.in-Ok-copy_of.ensures.items ∙ c.bytes.ensures.bytes ∙ c.in-Ok.ensures.text.whole
    ∙ ap (λ (bytes : List ℕ). bytes ++ show_text c.args.show.now) c.requires.empty in
    back_fault c.args.show.now c.in-Ok.ensures.valid c.in-Ok-copy_of.text.items written c.read_text.result c.read_text.ensures.answer
