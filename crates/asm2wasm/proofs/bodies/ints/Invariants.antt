use Rattle.std.proofs.Common.{◌≡◌, ◌++◌, replicate}
use Rattle.wasm_lang.specs.declared.types.ValType.TheVariants.{I32}
use Rattle.wasm_tree.specs.Views.{locals_in}
use Rattle.asm2wasm.proofs.bodies.ints.Given as goal

abbrev pub invariant-loop-rest : goal.invariant-loop-rest
invariant-loop-rest l = locals_in l.ints.items ++ replicate l.rest I32 ≡ replicate l.count I32

abbrev pub decreases-loop-rest : goal.decreases-loop-rest
decreases-loop-rest l = l.rest
