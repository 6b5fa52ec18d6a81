use Rattle.lx_lex.proofs.Imports.{◌+◌, ◌-◌, ◌==◌, length, take, drop, sym, ◌∙◌, ap, rules, arith, take_all, length-drop}
use Rattle.lx_lex.proofs.Places.{position-none, position-some}
use Rattle.lx_lex.proofs.digits.cut_at.Goals as goal

pub returns-in_err-place : goal.returns-in_err-place
returns-in_err-place c =
    let h = position-none (λ b. b == c.args.mark) c.args.text.now (sym c.index_of_mark.ensures ∙ c.in_err-place.was) in
    search (rules, h)

pub returns : goal.returns
returns c =
    let h = position-some (λ b. b == c.args.mark) c.args.text.now c.in_ok-place.place (sym c.index_of_mark.ensures ∙ c.in_ok-place.was) in
    let e = take_all (length c.args.text.now - (c.in_ok-place.place + 1)) (drop (c.in_ok-place.place + 1) c.args.text.now)
    (rw length-drop (omega arith)) in
    (h.0, ap (λ k. take k c.args.text.now) (sym h.1), e ∙ ap (λ k. drop (k + 1) c.args.text.now) (sym h.1))
