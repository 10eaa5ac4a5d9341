use Rattle.std.proofs.Common.{◌≡◌, ◌-◌, List, length}
use Rattle.wasm_lang.specs.Instructions.{Instruction}
use Rattle.wasm_lang.specs.ReadingCode.{code_field, code_from}
use Rattle.wasm_tree.specs.Inputs.{input_of}
use Rattle.wasm_binary_entries.specs.Openings.{openings_of}
use Rattle.wasm_binary_entries.proofs.ItemsInRow.{with_front}
use Rattle.wasm_binary_entries.proofs.code.code.Given as goal

abbrev pub invariant-loop-turn : goal.invariant-loop-turn
invariant-loop-turn l = (front : List Instruction) × (code_field (input_of l.input) ≡ with_front front (code_from (length l.input.bytes.now - l._turn) (openings_of l.openings.items) (input_of l.rest)))
