use Rattle.std.proofs.Common.{◌≡◌, take}
use Rattle.wat_lang.specs.Printing.{type_pieces}
use Rattle.wat_print.specs.Put.{written, put}
use Rattle.wat_print.proofs.parts.put_types.Given as goal

abbrev pub invariant-loop-kind : goal.invariant-loop-kind
invariant-loop-kind l = written l.out ≡ put (written l.initial.out) (type_pieces (take l.kind-index l.types))
