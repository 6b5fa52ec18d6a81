use Rattle.lx_writer.proofs.Imports.{List, ℕ, ◌∷◌, ◌++◌, ◌∙◌, append_assoc, decimal, take, ap, codes, level_text}
use Rattle.lx_writer.proofs.lines.write_line.Goals as goal

pub returns-clause-text : goal.returns-clause-text
returns-clause-text c =
    let last : List ℕ = 64 ∷ (level_text c.args.level ++ codes "\nCHAN ") in
    c.write_level.ensures.text ∙ ap (λ text. text ++ last) c.write_number-middle.ensures.text
    ∙ append_assoc (take c.args.at c.args.text.now) (decimal c.args.chan) last
