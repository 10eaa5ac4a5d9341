use Rattle.std.proofs.Common.{◌≡◌, ◌++◌}
use Rattle.wasm_binary_write.specs.Spelling.{groups}
use Rattle.wasm_binary_write.proofs.leb.push_groups.Given as goal

abbrev pub invariant-loop-rest : goal.invariant-loop-rest
invariant-loop-rest l = l.out.items ++ groups l.limit l.turned l.rest ≡ l.initial.out.items ++ groups l.limit l.turned l.initial.rest

abbrev pub decreases-loop-rest : goal.decreases-loop-rest
decreases-loop-rest l = l.rest
