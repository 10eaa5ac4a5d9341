use Rattle.std.proofs.Common.{◌≡◌, drop}
use Rattle.wat_grammar.specs.Views.{all_digits}
use Rattle.wat_grammar.proofs.atoms.are_plain_digits.Given as goal

abbrev pub invariant-loop-byte : goal.invariant-loop-byte
invariant-loop-byte l = all_digits (drop l.byte-index l.bytes) ≡ all_digits l.bytes
