use Rattle.lx_edit.proofs.Imports.{◌≡◌, ◌+◌, ◌++◌, ◌∷◌, [], ◌∙◌, List, ap, sym, take, arith, take_more, Move}
use Rattle.lx_edit.proofs.marks.same_front.Goals as goal

pub loop-at-preserved : goal.loop-at-preserved
loop-at-preserved c =
    let at = c.loop-at.at in
    let one : Move = c.index-old-at.result in
    let other : Move = c.index-new-at.result in
    let was : take (at + 1) c.args.old.now ≡ take at c.args.old.now ++ one ∷ [] =
    take_more c.args.old.now at one (omega arith) ∙ ap (λ (m : Move). take at c.args.old.now ++ m ∷ []) (sym c.index-old-at.is) in
    let is : take (at + 1) c.args.new.now ≡ take at c.args.new.now ++ other ∷ [] =
    take_more c.args.new.now at other (omega arith) ∙ ap (λ (m : Move). take at c.args.new.now ++ m ∷ []) (sym c.index-new-at.is) in
    was ∙ ap (λ (ms : List Move). ms ++ one ∷ []) c.loop-at.invariant
    ∙ ap (λ (m : Move). take at c.args.new.now ++ m ∷ []) (sym (c.is_same.ensures c.if-not-is_same.false)) ∙ sym is
