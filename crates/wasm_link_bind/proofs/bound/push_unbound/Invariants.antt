use Rattle.std.proofs.Common.{◌≡◌, ◌++◌, replicate}
use Rattle.std.specs.Prelude.{None}
use Rattle.wasm_link_bind.proofs.bound.push_unbound.Given as goal

abbrev pub invariant-loop-function : goal.invariant-loop-function
invariant-loop-function l = l.bound.items ≡ l.fn.bound.items ++ replicate l._function None
