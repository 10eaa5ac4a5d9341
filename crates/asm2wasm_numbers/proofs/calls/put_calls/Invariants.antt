use Rattle.std.proofs.Common.{◌≡◌, ◌+◌, ◌≤◌, length, drop}
use Rattle.asm2wasm_numbers.specs.declared.calls.Call.{Call}
use Rattle.asm2wasm_numbers.specs.Calls.{call_found, place_among}
use Rattle.asm2wasm_numbers.proofs.calls.put_calls.Given as goal

abbrev pub invariant-loop-i : goal.invariant-loop-i
invariant-loop-i l = record {
  within : l.i ≤ length l.calls;
  put : (c : Call) → call_found l.initial.numbers c (length l.calls) ≡ length l.calls → call_found l.numbers c (length l.calls) ≡ l.i + place_among c (drop l.i l.calls);
}

abbrev pub decreases-loop-i : goal.decreases-loop-i
decreases-loop-i l = l.i
