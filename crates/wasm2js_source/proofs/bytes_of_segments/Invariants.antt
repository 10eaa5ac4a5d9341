use Rattle.std.proofs.Common.{◌<◌, All, take}
use Rattle.wasm_tree.specs.Views.{segment_of}
use Rattle.wasm2js_source.proofs.bytes_of_segments.Given as goal

abbrev pub invariant-loop-segment : goal.invariant-loop-segment
invariant-loop-segment l = All (λ s. All (λ b. b < 256) (segment_of s).bytes) (take l.segment-index l.segments)
