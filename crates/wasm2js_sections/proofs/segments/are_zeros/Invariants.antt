use Rattle.std.proofs.Common.{◌≡◌, drop}
use Rattle.wasm2js_translation.specs.Modules.{are_zeros}
use Rattle.wasm2js_sections.proofs.segments.are_zeros.Given as goal

abbrev pub invariant-loop-byte : goal.invariant-loop-byte
invariant-loop-byte l = are_zeros l.bytes ≡ are_zeros (drop l.byte-index l.bytes)
