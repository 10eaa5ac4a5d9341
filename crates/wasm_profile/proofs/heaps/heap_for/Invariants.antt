use Rattle.std.proofs.Common.{◌≡◌, drop}
use Rattle.wasm_profile.proofs.Lengths.{first_length, lengths}
use Rattle.wasm_profile.proofs.heaps.heap_for.Given as goal

abbrev pub invariant-loop-length : goal.invariant-loop-length
invariant-loop-length l = first_length lengths l.bytes ≡ first_length (drop l.length-index lengths) l.bytes
