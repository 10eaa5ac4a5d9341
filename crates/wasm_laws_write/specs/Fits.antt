-- Which numbers and sections the binary format has room for (sections 5.2.2, 5.4 and 5.5).
use Rattle.std.specs.Prelude.{ℕ, ◌^◌, ◌<◌, length, All, Option, Some, None}
use Rattle.wasm_lang.specs.declared.types.Limits.{Limits}
use Rattle.wasm_lang.specs.declared.types.ImportKind.{ImportKind}
use Rattle.wasm_lang.specs.declared.types.ImportKind.TheVariants as imports
use Rattle.wasm_lang.specs.declared.types.ExportKind.{ExportKind}
use Rattle.wasm_lang.specs.declared.types.ExportKind.TheVariants as exports
use Rattle.wasm_lang.specs.Instructions.{Plain, local_get, local_set, local_tee, global_get, global_set, load, store, const32, const64, Instruction, br, br_if, br_table, call, call_indirect, plain}
use Rattle.wasm_lang.specs.Modules.{ElementSegment, DataSegment, FunctionBody, WasmModule}
use Rattle.wasm_binary_write.specs.Spelling.{unsigned, vector, sized, function_type, imported, table, limits, global, exported, element, body, segment}

-- an unsigned number of 32 bits
abbrev pub FitsU32 : ℕ → Type 0
FitsU32 n = n < 2 ^ 32

-- ---- instructions: numbers, alignments and offsets have 32 bits, and constants are words of their width

abbrev pub PlainFits : Plain → Type 0
PlainFits (local_get x) = FitsU32 x
PlainFits (local_set x) = FitsU32 x
PlainFits (local_tee x) = FitsU32 x
PlainFits (global_get x) = FitsU32 x
PlainFits (global_set x) = FitsU32 x
PlainFits (load op align offset) = FitsU32 align × FitsU32 offset
PlainFits (store op align offset) = FitsU32 align × FitsU32 offset
PlainFits (const32 word) = word < 2 ^ 32
PlainFits (const64 word) = word < 2 ^ 64
PlainFits p = Unit {0}

abbrev pub InstructionFits : Instruction → Type 0
InstructionFits (br l) = FitsU32 l
InstructionFits (br_if l) = FitsU32 l
InstructionFits (br_table ls l) = All FitsU32 ls × FitsU32 l
InstructionFits (call f) = FitsU32 f
InstructionFits (call_indirect t) = FitsU32 t
InstructionFits (plain p) = PlainFits p
InstructionFits i = Unit {0}

-- ---- entries of sections

abbrev pub OptionFits : Option ℕ → Type 0
OptionFits None = Unit {0}
OptionFits (Some n) = FitsU32 n

abbrev pub LimitsFit : Limits → Type 0
LimitsFit l = FitsU32 l.min × OptionFits l.max

abbrev pub ImportFits : ImportKind → Type 0
ImportFits (imports.Func t) = FitsU32 t
ImportFits (imports.Table l) = LimitsFit l
ImportFits (imports.Memory l) = LimitsFit l
ImportFits (imports.Global g) = Unit {0}

abbrev pub ExportFits : ExportKind → Type 0
ExportFits (exports.Func n) = FitsU32 n
ExportFits (exports.Table n) = FitsU32 n
ExportFits (exports.Memory n) = FitsU32 n
ExportFits (exports.Global n) = FitsU32 n

pub record ElementFits (e : ElementSegment) : Type 0 where
  pub table : FitsU32 e.table
  pub offset : All InstructionFits e.offset
  pub functions : All FitsU32 e.functions

pub record SegmentFits (s : DataSegment) : Type 0 where
  pub memory : FitsU32 s.memory
  pub offset : All InstructionFits s.offset
  pub bytes : All (λ b. b < 256) s.bytes

pub record BodyFits (b : FunctionBody) : Type 0 where
  pub locals : FitsU32 (length b.locals)
  pub code : All InstructionFits b.code

-- ---- modules

-- each number has the bits that its place has
pub record NumbersFit (m : WasmModule) : Type 0 where
  pub imports : All (λ i. ImportFits i.kind) m.imports
  pub functions : All FitsU32 m.functions
  pub tables : All LimitsFit m.tables
  pub memories : All LimitsFit m.memories
  pub globals : All (λ g. All InstructionFits g.init) m.globals
  pub exports : All (λ e. ExportFits e.kind) m.exports
  pub start : OptionFits m.start
  pub elements : All ElementFits m.elements
  pub bodies : All BodyFits m.bodies
  pub segments : All SegmentFits m.segments

-- what stands in each section, without its id and size, has fewer bytes than a size can say
pub record SectionsFit (m : WasmModule) : Type 0 where
  pub types : FitsU32 (length (vector function_type m.types))
  pub imports : FitsU32 (length (vector imported m.imports))
  pub functions : FitsU32 (length (vector unsigned m.functions))
  pub tables : FitsU32 (length (vector table m.tables))
  pub memories : FitsU32 (length (vector limits m.memories))
  pub globals : FitsU32 (length (vector global m.globals))
  pub exports : FitsU32 (length (vector exported m.exports))
  pub elements : FitsU32 (length (vector element m.elements))
  pub bodies : FitsU32 (length (vector (λ b. sized (body b)) m.bodies))
  pub segments : FitsU32 (length (vector segment m.segments))
