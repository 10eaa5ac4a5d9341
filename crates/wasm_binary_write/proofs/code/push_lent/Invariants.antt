use Rattle.std.proofs.Common.{◌≡◌, ◌++◌}
use Rattle.wasm_lang.specs.ReadingCode.{spelled}
use Rattle.wasm_tree.specs.Inputs.{input_of}
use Rattle.wasm_binary_write.specs.Spelling.{instruction, items}
use Rattle.wasm_binary_write.proofs.LentCode.{with_rest}
use Rattle.wasm_binary_write.proofs.code.push_lent.Given as goal

abbrev pub invariant-loop-turn : goal.invariant-loop-turn
invariant-loop-turn l = with_rest l.out.items l.bytes l._turn (input_of l.rest) ≡ l.fn.out.items ++ items instruction (spelled l.bytes)
