use Rattle.std.proofs.Common.{◌≡◌, map, take}
use Rattle.wasm_binary_write.proofs.modules.push_tables.Given as goal
use Rattle.wasm_binary_write.specs.Views.{limits_of}

abbrev pub invariant-loop-limits : goal.invariant-loop-limits
invariant-loop-limits l = map limits_of l.list.items ≡ take l.limits-index l.tables
