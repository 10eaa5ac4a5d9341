use Rattle.std.proofs.Common.{◌≡◌, ◌+◌, ◌*◌, ◌≤◌, drop}
use Rattle.wasm2js_translation.specs.Tables as plain
use Rattle.wasm2js_stubs.proofs.numbers.words_of.Given as goal

abbrev pub invariant-loop-param : goal.invariant-loop-param
invariant-loop-param l = record {
  words : l.words + plain.words_of (drop l.param-index l.params) ≡ plain.words_of l.params;
  few : l.words ≤ 2 * l.param-index;
}
