-- Which modules the binary format can spell, and in how many bytes at most.
use Rattle.std.specs.Prelude.{ℕ, ◌+◌, ◌*◌, ◌≤◌, List, length, replicate, All}
use Rattle.wasm_lang.specs.declared.types.ValType.{ValType}
use Rattle.wasm_lang.specs.declared.types.Limits.{Limits}
use Rattle.wasm_lang.specs.Instructions.{Instruction}
use Rattle.wasm_lang.specs.Modules.{FunctionType, Imported, GlobalEntry, Exported, ElementSegment, WasmModule}
use Rattle.wasm_lang.specs.Shape.{IsShaped, IsWritable}
use Rattle.wasm_binary_write.specs.Spelling.{unsigned, items, vector, sized, function_type, limits, instruction, imported, global, exported, element, body}
use Rattle.wasm_laws_write.specs.Fits.{FitsU32, InstructionFits, LimitsFit, ImportFits, ExportFits, NumbersFit, SectionsFit}
use Rattle.wasm_laws_write.specs.Lengths.{instruction_size, code_size, IsNarrow, total}

-- a shaped module is writable where its numbers and its sections have the room that they need
abbrev pub FittingAreWritable : Type 0
FittingAreWritable = (m : WasmModule) → IsShaped m → NumbersFit m → SectionsFit m → IsWritable m

-- ---- lengths

abbrev pub NumbersAreShort : Type 0
NumbersAreShort = (n : ℕ) → FitsU32 n → length (unsigned n) ≤ 5

abbrev pub NarrowFit : Type 0
NarrowFit = (i : Instruction) → IsNarrow i → InstructionFits i

abbrev pub InstructionsAreShort : Type 0
InstructionsAreShort = (i : Instruction) → IsNarrow i → length (instruction i) ≤ 7 * instruction_size i

abbrev pub CodeIsShort : Type 0
CodeIsShort = (code : List Instruction) → All IsNarrow code → length (items instruction code) ≤ 7 * code_size code

-- with locals of one type
abbrev pub BodiesAreShort : Type 0
BodiesAreShort = (n : ℕ) (t : ValType) (code : List Instruction) → FitsU32 n → length (body (record { locals = replicate n t; code = code })) ≤ 7 + length (items instruction code)

-- a part behind its size
abbrev pub PartsAreShort : Type 0
PartsAreShort = (bytes : List ℕ) → FitsU32 (length bytes) → length (sized bytes) ≤ 5 + length bytes

-- the count of a vector and its items, of which each has a bound
abbrev pub VectorsAreShort : Type 0 → Type 0
VectorsAreShort X = (f : X → List ℕ) (most : X → ℕ) (xs : List X) → FitsU32 (length xs) → All (λ x. length (f x) ≤ most x) xs → length (vector f xs) ≤ 5 + total most xs

-- ---- lengths of what sections hold

abbrev pub TypesAreShort : Type 0
TypesAreShort = (t : FunctionType) → FitsU32 (length t.params) → FitsU32 (length t.results) → length (function_type t) ≤ 11 + (length t.params + length t.results)

abbrev pub ImportsAreShort : Type 0
ImportsAreShort = (i : Imported) → FitsU32 (length i.module_name) → FitsU32 (length i.name) → ImportFits i.kind → length (imported i) ≤ 23 + (length i.module_name + length i.name)

abbrev pub LimitsAreShort : Type 0
LimitsAreShort = (l : Limits) → LimitsFit l → length (limits l) ≤ 11

abbrev pub GlobalsAreShort : Type 0
GlobalsAreShort = (g : GlobalEntry) → length (global g) ≤ 2 + length (items instruction g.init)

abbrev pub ExportsAreShort : Type 0
ExportsAreShort = (e : Exported) → FitsU32 (length e.name) → ExportFits e.kind → length (exported e) ≤ 11 + length e.name

abbrev pub ElementsAreShort : Type 0
ElementsAreShort =
    (e : ElementSegment) → FitsU32 e.table → FitsU32 (length e.functions) → All FitsU32 e.functions
    → length (element e) ≤ 10 + (length (items instruction e.offset) + 5 * length e.functions)
