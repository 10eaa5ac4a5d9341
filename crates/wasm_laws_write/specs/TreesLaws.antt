-- What is known of the spelling of a tree of code from its instructions.
use Rattle.std.specs.Prelude.{◌≡◌, ◌+◌, ◌*◌, ◌≤◌, length, All}
use Rattle.wasm_lang.specs.Instructions.{Instruction}
use Rattle.wasm_lang.specs.Shape.{HasOpcode, IsShapedCode}
use Rattle.wasm_lang_exec.specs.Code.{Trees, ◌⊕◌}
use Rattle.wasm_binary_write.specs.Spelling.{items, instruction}
use Rattle.wasm_laws_trees.specs.Spelled.{flat, closed, size}
use Rattle.wasm_laws_write.specs.Fits.{InstructionFits}
use Rattle.wasm_laws_write.specs.Lengths.{code_size, IsNarrow}
use Rattle.wasm_laws_write.specs.Each.{EachIn}

-- ---- sizes

abbrev pub SizesAgree : Type 0
SizesAgree = (code : Trees) → code_size (flat code) ≡ size code

-- with the end of the body
abbrev pub TreesAreShort : Type 0
TreesAreShort = (code : Trees) → EachIn IsNarrow code → length (items instruction (closed code)) ≤ 7 * (size code + 1)

-- ---- shapes

abbrev pub TreesAreShaped : Type 0
TreesAreShaped = (code : Trees) → EachIn HasOpcode code → IsShapedCode (closed code)

abbrev pub NarrowTreesFit : Type 0
NarrowTreesFit = (code : Trees) → EachIn IsNarrow code → All InstructionFits (closed code)

-- ---- one piece of code after another

abbrev pub EachJoins : (Instruction → Type 0) → Type 0
EachJoins P = (a b : Trees) → EachIn P a → EachIn P b → EachIn P (a ⊕ b)
