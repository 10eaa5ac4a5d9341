use Rattle.std.proofs.Common.{◌≡◌, ◌+◌, ◌≤◌, drop}
use Rattle.wasm_link_code.specs.Numbers as plain
use Rattle.wasm_link_bind.proofs.numbers.unbound_count.Given as goal

abbrev pub invariant-loop-import : goal.invariant-loop-import
invariant-loop-import l = record {
  count : plain.unbound_count l.bound ≡ l.count + plain.unbound_count (drop l.import-index l.bound);
  few : l.count ≤ l.import-index;
}
