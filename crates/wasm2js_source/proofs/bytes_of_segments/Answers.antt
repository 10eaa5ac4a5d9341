use Rattle.std.proofs.Common.{◌<◌, All, arith}
use Rattle.wasm_lang.specs.Modules.{DataSegment}
use Rattle.wasm_tree.specs.Views.{segment_of}
use Rattle.wasm2js_source.proofs.Words.{all_passed}
use Rattle.wasm2js_source.proofs.bytes_of_segments.Goals as goal

pub returns : goal.returns
returns c = all_passed (λ (s : DataSegment). All (λ b. b < 256) s.bytes) segment_of c.args.segments.now c.loop-segment.segment-index (omega arith) c.loop-segment.invariant
