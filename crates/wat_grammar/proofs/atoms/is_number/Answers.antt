use Rattle.std.proofs.Common.{is_some, ap, ◌∙◌, sym, ℕ, List}
use Rattle.std.proofs.lemmas.List.{take_rest}
use Rattle.wat_lang.specs.Numbers.{natural_of}
use Rattle.wat_grammar.proofs.Digits.{signed_number}
use Rattle.wat_grammar.proofs.atoms.is_number.Goals as goal

pub returns-then-is_sign : goal.returns-then-is_sign
returns-then-is_sign c =
    c.is_natural.ensures ∙ ap (λ (bs : List ℕ). is_some (natural_of bs)) (take_rest c.args.bytes.now 1)
    ∙ signed_number c.args.bytes.now 0 c.in-len1-up.len_at_least (sym c.is_sign.ensures ∙ c.if-is_sign.true)
