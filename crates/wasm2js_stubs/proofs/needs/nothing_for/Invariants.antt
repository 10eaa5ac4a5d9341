use Rattle.std.proofs.Common.{◌≡◌, replicate}
use Rattle.wasm2js_stubs.specs.Needs.{nothing}
use Rattle.wasm2js_stubs.proofs.needs.nothing_for.Given as goal

abbrev pub invariant-loop-stub : goal.invariant-loop-stub
invariant-loop-stub l = l.needs.items ≡ replicate l._stub nothing
