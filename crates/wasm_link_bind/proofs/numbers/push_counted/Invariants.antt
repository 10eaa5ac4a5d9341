use Rattle.std.proofs.Common.{◌≡◌, ◌+◌, ◌-◌, ◌++◌}
use Rattle.wasm_link_code.specs.Numbers.{counted}
use Rattle.wasm_link_bind.proofs.numbers.push_counted.Given as goal

abbrev pub invariant-loop-i : goal.invariant-loop-i
invariant-loop-i l = l.fn.numbers.items ++ counted l.from l.count ≡ l.numbers.items ++ counted (l.from + l.i) (l.count - l.i)
