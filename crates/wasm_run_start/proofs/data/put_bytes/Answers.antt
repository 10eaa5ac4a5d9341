use Rattle.std.proofs.Common.{◌+◌, List, drop, map, sym, ap, ◌∙◌}
use Rattle.wasm_tree.specs.declared.module.Segment.{Segment}
use Rattle.wasm_tree.specs.Views.{segment_of}
use Rattle.wasm_lang_exec.specs.Store.{Store}
use Rattle.wasm_lang_exec.specs.Session.{with_bytes}
use Rattle.wasm_run_operands.specs.Effects.{store_of}
use Rattle.wasm_run_start.proofs.Segments.{next_of}
use Rattle.wasm_run_start.proofs.data.put_bytes.Goals as goal

pub loop-segment-preserved : goal.loop-segment-preserved
loop-segment-preserved c = λ events replies.
    let rest = next_of c.args.segments.now c.loop-segment.segment-index c.segment-item.result c.loop-segment-test.true c.segment-item.is in
    let s = store_of c.loop-segment.state events replies in
    c.loop-segment.invariant events replies ∙ ap (λ (l : List Segment). with_bytes (map segment_of l) s) rest
    ∙ ap (λ (s : Store). with_bytes (map segment_of (drop (c.loop-segment.segment-index + 1) c.args.segments.now)) s) (sym (c.put_segment.ensures events replies))
