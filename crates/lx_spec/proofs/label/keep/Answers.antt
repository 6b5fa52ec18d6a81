use Rattle.lx_spec.proofs.Imports.{◌≡◌, ◌<◌, ◌≤◌, ◌==◌, ◌&&◌, length, false, sym, ◌∙◌, arith, nat_tests, LABEL_BYTES, is_blank}
use Rattle.lx_spec.proofs.Labels.{one_more, with_full, with_first_blank, with_other}
use Rattle.lx_spec.proofs.label.keep.Goals.{else-is_empty-via-then-is_empty+else-is_blank, else-is_empty-via-else-is_empty}
use Rattle.lx_spec.proofs.label.keep.Goals as goal

pub returns-then-is_full : goal.returns-then-is_full
returns-then-is_full c = λ front from. one_more front c.args.kept.now.items c.args.kept.now.items c.args.byte
    (with_full c.args.kept.now.items c.args.byte (sym c.if-is_full.ensures.value)) from

pub returns-then-is_blank : goal.returns-then-is_blank
returns-then-is_blank c = λ front from. one_more front c.args.kept.now.items c.args.kept.now.items c.args.byte
    (with_first_blank c.args.kept.now.items c.args.byte (sym c.if-is_line_end.ensures) (sym c.if-is_empty.ensures)
    (sym c.if-is_blank.ensures)) from

pub returns : goal.returns
returns c = λ front from.
    let kept = c.args.kept.now.items in
    let full : false ≡ (length kept == LABEL_BYTES) = c.if-is_full.ensures.value in
    let fits : length kept ≤ LABEL_BYTES = c.if-is_full.ensures.fits in
    let few : length kept < LABEL_BYTES = grind (arith, nat_tests, full, fits) in
    let begins : (length kept == 0 && is_blank c.args.byte) ≡ false = elim c.else-is_empty.branch [
      | else-is_empty-via-then-is_empty+else-is_blank w ↦ grind (arith, w.if-is_blank.ensures)
      | else-is_empty-via-else-is_empty w ↦ grind (arith, w.if-is_empty.ensures)
    ] in
    one_more front kept c.push.new.self.items c.args.byte
    (c.push.ensures.items ∙ with_other kept c.args.byte (sym c.if-is_line_end.ensures) few begins) from
