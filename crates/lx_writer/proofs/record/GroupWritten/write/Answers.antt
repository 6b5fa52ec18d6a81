use Rattle.lx_writer.proofs.Imports.{List, ℕ, [], ◌∷◌, ◌++◌, ap, sym, ◌∙◌, append_assoc, flat_map, codes, decimal, Puts-then, Puts-is, Member}
use Rattle.lx_writer.proofs.Imports.{label_text, member_text}
use Rattle.lx_writer.proofs.record.GroupWritten.write.Goals as goal

pub returns : goal.returns
returns g c =
    rw (← c.self.view_is)
    (Puts-is (Puts-then (Puts-is c.in_ok-put_between.ensures (ap (λ n. codes "GROUP " ++ decimal n ++ 10 ∷ []) c.get.ensures.value))
    (Puts-is c.put_members.ensures (ap (λ (label : List ℕ). label_text label ++ flat_map member_text c.as_slice-2.result.now)
    c.as_slice.ensures.bytes ∙ ap (λ (members : List Member). label_text c.self.inside.label ++ flat_map member_text members)
    c.as_slice-2.ensures.entries)))
    (sym (append_assoc (codes "GROUP " ++ decimal c.self.inside.number ++ 10 ∷ []) (label_text c.self.inside.label)
    (flat_map member_text c.self.inside.members))))
