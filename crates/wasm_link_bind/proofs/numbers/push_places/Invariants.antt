use Rattle.std.proofs.Common.{◌≡◌, ◌+◌, ◌++◌, ◌≤◌, drop}
use Rattle.wasm_link_code.specs.Numbers.{places}
use Rattle.wasm_link_bind.proofs.numbers.push_places.Given as goal

abbrev pub invariant-loop-import : goal.invariant-loop-import
invariant-loop-import l = record {
  rest : l.fn.numbers.items ++ places l.from l.bound ≡ l.numbers.items ++ places l.number (drop l.import-index l.bound);
  few : l.number ≤ l.from + l.import-index;
}
