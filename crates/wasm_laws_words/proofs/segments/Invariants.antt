use Rattle.std.proofs.Common.{All, take}
use Rattle.std.specs.List.{AllByRecursion}
use Rattle.wasm_tree.specs.Views.{segment_of}
use Rattle.wat_laws_print.specs.Words.{AreBytes, HasWords}
use Rattle.wasm_laws_words.proofs.segments.Given as goal

abbrev pub invariant-loop-segment : goal.invariant-loop-segment
invariant-loop-segment l = All (λ s. AllByRecursion HasWords (segment_of s).offset × AreBytes (segment_of s).bytes) (take l.segment-index l.segments)
