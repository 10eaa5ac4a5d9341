use Rattle.std.proofs.Common.{◌≡◌, ◌+◌, ◌++◌, drop}
use Rattle.wasm2js_build.specs.Blocks.{statements_of}
use Rattle.wasm2js_translation.specs.Modules.{set_bytes}
use Rattle.wasm2js_sections.proofs.segments.set_bytes.Given as goal

abbrev pub invariant-loop-i : goal.invariant-loop-i
invariant-loop-i l =
    statements_of l.body ++ set_bytes (l.at + l.i) (drop l.i l.bytes) ≡ statements_of l.initial.body ++ set_bytes l.at l.bytes
