use Rattle.std.proofs.Common.{◌≡◌, take, map}
use Rattle.session_lang.specs.Views.{call_of}
use Rattle.wasm_run.specs.Exports.{callees_of}
use Rattle.wasm_run.proofs.exports.callees.Given as goal

abbrev pub invariant-loop-call : goal.invariant-loop-call
invariant-loop-call l = record {
  same : l.exports ≡ l.valid.exports;
  found : l.functions.items ≡ callees_of l.valid (map call_of (take l.call-index l.calls));
}
