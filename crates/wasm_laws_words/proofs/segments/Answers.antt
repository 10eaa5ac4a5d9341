use Rattle.std.proofs.Common.{arith, subst}
use Rattle.std.proofs.lemmas.List.Elements.{All-more}
use Rattle.std.specs.List.{AllByRecursion}
use Rattle.wasm_lang.specs.Modules.{DataSegment}
use Rattle.wat_laws_print.specs.Words.{AreBytes, HasWords}
use Rattle.wasm_tree.specs.Views.{segment_of}
use Rattle.wasm_laws_words.proofs.Lists.{all_passed, each}
use Rattle.wasm_laws_words.proofs.segments.Goals as goal

pub loop-segment-preserved : goal.loop-segment-preserved
loop-segment-preserved c =
    All-more (λ s. AllByRecursion HasWords (segment_of s).offset × AreBytes (segment_of s).bytes) c.args.segments.now c.loop-segment.segment-index c.segment-item.result c.loop-segment-test.true c.loop-segment.invariant
    (subst (λ s. AllByRecursion HasWords (segment_of s).offset × AreBytes (segment_of s).bytes) c.segment-item.is c.segment_words.ensures)

pub returns : goal.returns
returns c = each (λ (s : DataSegment). AllByRecursion HasWords s.offset × AreBytes s.bytes) _ (all_passed (λ (s : DataSegment). AllByRecursion HasWords s.offset × AreBytes s.bytes) segment_of c.args.segments.now c.loop-segment.segment-index (omega arith) c.loop-segment.invariant)
