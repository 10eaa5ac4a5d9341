use Rattle.std.proofs.Common.{◌≡◌, take}
use Rattle.wat_lang.specs.Printing.{numbers}
use Rattle.wat_print.specs.Put.{written, put}
use Rattle.wat_print.proofs.instructions.put_numbers.Given as goal

abbrev pub invariant-loop-n : goal.invariant-loop-n
invariant-loop-n l = written l.out ≡ put (written l.initial.out) (numbers (take l.n-index l.list))
