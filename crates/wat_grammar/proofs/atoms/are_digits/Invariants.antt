use Rattle.std.proofs.Common.{◌≡◌, is_some, length}
use Rattle.wat_lang.specs.Numbers.{digits_in}
use Rattle.wat_grammar.specs.Views.{digit_test}
use Rattle.wat_grammar.proofs.atoms.are_digits.Given as goal

abbrev pub invariant-loop-rest : goal.invariant-loop-rest
invariant-loop-rest l = is_some (digits_in (digit_test l.hexadecimal) l.rest) ≡ is_some (digits_in (digit_test l.hexadecimal) l.bytes)

abbrev pub decreases-loop-rest : goal.decreases-loop-rest
decreases-loop-rest l = length l.rest
