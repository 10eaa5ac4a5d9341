use Rattle.std.proofs.Common.{is_some, ap, ◌∙◌, sym, ℕ, List}
use Rattle.std.proofs.lemmas.List.{take_rest}
use Rattle.wat_lang.specs.Numbers.{digits_in}
use Rattle.wat_grammar.specs.Views.{behind_underscore, digit_test}
use Rattle.wat_grammar.proofs.Digits.{digits_left}
use Rattle.wat_grammar.proofs.atoms.are_digits.Goals as goal

pub loop-rest-preserved : goal.loop-rest-preserved
loop-rest-preserved c =
    ap (λ (bs : List ℕ). is_some (digits_in (digit_test c.args.hexadecimal) bs)) (c.behind_underscore-rest.ensures ∙ ap behind_underscore (take_rest c.loop-rest.rest.now 1))
    ∙ digits_left (digit_test c.args.hexadecimal) c.loop-rest.rest.now 0 c.in-len1-up.len_at_least (sym c.is_digit-in-len1-up.ensures ∙ c.if-not-is_digit.false)
    ∙ c.loop-rest.invariant
