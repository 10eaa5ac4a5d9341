-- Code that is held from its end.
use Rattle.std.proofs.Common.{◌≡◌, List, [], ◌∷◌, ◌++◌, length, reverse, sym}
use Rattle.std.proofs.lemmas.List.{reverse-append, length-reverse}
use Rattle.asm_run_code.specs.declared.op.Op.{Op}

pub put_first : (os : List Op) (o : Op) → reverse (os ++ o ∷ []) ≡ o ∷ reverse os
put_first os o = reverse-append os (o ∷ [])

pub op_count : (os : List Op) → length os ≡ length (reverse os)
op_count os = sym (length-reverse os)
