use Rattle.std.proofs.Common.{◌≡◌, ◌++◌, drop, map}
use Rattle.wasm_validate_bodies.specs.Calls.{byte_of}
use Rattle.wasm_validate_bodies.proofs.called.add_types.Given as goal

abbrev pub invariant-loop-t : goal.invariant-loop-t
invariant-loop-t l = l.fn.form.items ++ map byte_of l.types ≡ l.form.items ++ map byte_of (drop l.t-index l.types)
