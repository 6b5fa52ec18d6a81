use Rattle.lx_program.proofs.Imports.{rules, true, ◌≡◌, ◌∙◌, ◌≤◌, Option, Some, None, IsSomeAnd, ap, ap₂, map, length, arith, string_bytes}
use Rattle.lx_program.proofs.Imports.{App, Rule, app_of, is_simple, matches_of, rule_of, takes, with_rule, app_of_fields, on_top, usize_max, Append}
use Rattle.std.proofs.lemmas.Result.{IfErr-weaker, IfOk-weaker}
use Rattle.std.proofs.lemmas.List.{length-map}
use Rattle.clap.specs.declared.builder.range.ValueRange.{ValueRange}
use Rattle.lx_program.proofs.ArgumentValues.{the_rule, the_app, is_the_app, are_given, are_taken}
use Rattle.lx_program.proofs.words_heap.matches_of.Goals as goal

some_is : (o : Option ValueRange) (x : ValueRange) → IsSomeAnd o (λ r. r ≡ x) → o ≡ Some x
some_is None x p = absurd p
some_is (Some y) x p = ap (λ (r : ValueRange). Some r) p

pub returns : goal.returns
returns c =
    let rule_is : rule_of c.action-word.result ≡ the_rule = ap rule_of c.action-word.ensures
    ∙ ap (λ (r : Rule). record r { action = Some Append })
    (ap rule_of c.num_args.ensures.0 ∙ ap₂ (λ (v : Option ValueRange) (r : Rule). record r { range = v })
    (some_is c.num_args.result.num_vals (record { start_inclusive = 1; end_inclusive = usize_max }) c.num_args.ensures.1)
    c.new.ensures.rule) in
    let app_is : app_of c.in_ok-command.command ≡ the_app = c.in_ok-command.ensures.shape (search rules)
    ∙ ap₂ with_rule (ap app_of_fields c.no_binary_name.ensures ∙ ap (on_top (λ s. record s { no_binary_name = true })) c.new-2.ensures.app)
    rule_is in
    let words = map string_bytes c.args.words.now in
    let few : length words ≤ usize_max = omega (arith, length-map c.args.words.now string_bytes, c.if-prove.false) in (
      IfOk-weaker c.try_get_matches_from.result _ _
          (λ m h. are_given words m c.requires ((h (ap is_simple app_is ∙ is_the_app)).0 ∙ ap (λ (a : App). matches_of a words) app_is))
          c.try_get_matches_from.ensures.matches,
      IfErr-weaker c.try_get_matches_from.result _ _ (λ e h. h (ap (λ (a : App). takes a words) app_is ∙ are_taken words c.requires few))
          c.try_get_matches_from.ensures.passes,
    )
