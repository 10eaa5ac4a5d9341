-- What the values of this crate stand for.
use Rattle.std.specs.Prelude.{◌≡◌, ℕ, List, [], map}
use Rattle.sem_words.specs.Lists.{text_bytes, list_items}
use Rattle.wasm_lang.specs.Instructions as plain
use Rattle.wasm_lang.specs.Instructions.{Instruction}
use Rattle.wasm_lang.specs.Modules.{FunctionType, Imported, GlobalEntry, Exported, ElementSegment, DataSegment, FunctionBody, WasmModule}
use Rattle.wasm_lang.specs.declared.types.ValType.{ValType}
use Rattle.wasm_lang.specs.Grammar.{IsCode, locals_of}
use Rattle.wasm_lang.specs.ReadingCode.{spelled}
use Rattle.wasm_tree.specs.declared.instr.Instr.{Instr}
use Rattle.wasm_tree.specs.declared.instr.Instr.TheVariants as code
use Rattle.wasm_tree.specs.declared.code.Bytes.{Bytes}
use Rattle.wasm_tree.specs.declared.code.Bytes.TheVariants as bytes
use Rattle.wasm_tree.specs.declared.code.Code.{Code}
use Rattle.wasm_tree.specs.declared.code.Code.TheVariants as codes
use Rattle.wasm_tree.specs.declared.module.FuncType.{FuncType}
use Rattle.wasm_tree.specs.declared.module.Import.{Import}
use Rattle.wasm_tree.specs.declared.module.GlobalDef.{GlobalDef}
use Rattle.wasm_tree.specs.declared.module.WasmExport.{WasmExport}
use Rattle.wasm_tree.specs.declared.module.Element.{Element}
use Rattle.wasm_tree.specs.declared.module.Segment.{Segment}
use Rattle.wasm_tree.specs.declared.module.Run.{Run}
use Rattle.wasm_tree.specs.declared.module.Body.{Body}
use Rattle.wasm_tree.specs.declared.module.Module.{Module}

abbrev pub instr_of : Instr → Instruction
instr_of code.Unreachable = plain.unreachable
instr_of code.Nop = plain.plain plain.nop
instr_of (code.Block r) = plain.block r
instr_of (code.Loop r) = plain.loop r
instr_of (code.If r) = plain.if_block r
instr_of code.Else = plain.else_mark
instr_of code.End = plain.end_mark
instr_of (code.Br l) = plain.br l
instr_of (code.BrIf l) = plain.br_if l
instr_of (code.BrTable ls l) = plain.br_table (list_items ls) l
instr_of code.Return = plain.return
instr_of (code.Call f) = plain.call f
instr_of (code.CallIndirect t) = plain.call_indirect t
instr_of code.Drop = plain.plain plain.drop_operand
instr_of code.Select = plain.plain plain.select
instr_of (code.LocalGet x) = plain.plain (plain.local_get x)
instr_of (code.LocalSet x) = plain.plain (plain.local_set x)
instr_of (code.LocalTee x) = plain.plain (plain.local_tee x)
instr_of (code.GlobalGet x) = plain.plain (plain.global_get x)
instr_of (code.GlobalSet x) = plain.plain (plain.global_set x)
instr_of (code.Load op align offset) = plain.plain (plain.load op align offset)
instr_of (code.Store op align offset) = plain.plain (plain.store op align offset)
instr_of code.MemorySize = plain.plain plain.memory_size
instr_of code.MemoryCopy = plain.plain plain.memory_copy
instr_of code.MemoryFill = plain.plain plain.memory_fill
instr_of (code.Const32 n) = plain.plain (plain.const32 n)
instr_of (code.Const64 n) = plain.plain (plain.const64 n)
instr_of code.Eqz32 = plain.plain plain.eqz32
instr_of code.Eqz64 = plain.plain plain.eqz64
instr_of (code.Rel32 op) = plain.plain (plain.rel32 op)
instr_of (code.Rel64 op) = plain.plain (plain.rel64 op)
instr_of (code.Un32 op) = plain.plain (plain.un32 op)
instr_of (code.Un64 op) = plain.plain (plain.un64 op)
instr_of (code.Bin32 op) = plain.plain (plain.bin32 op)
instr_of (code.Bin64 op) = plain.plain (plain.bin64 op)
instr_of code.Wrap = plain.plain plain.wrap
instr_of code.ExtendS = plain.plain plain.extend_s
instr_of code.ExtendU = plain.plain plain.extend_u
instr_of (code.SignExtend wide bits) = plain.plain (plain.sign_extend wide bits)

abbrev pub bytes_of : Bytes → List ℕ
bytes_of (bytes.Lent lent) = lent.now
bytes_of (bytes.Own text) = text_bytes text

-- lent code stands for the instructions that its bytes spell
abbrev pub code_of : Code → List Instruction
code_of (codes.Lent lent) = spelled lent.now
code_of (codes.Own list) = map instr_of (list_items list)

-- lent code is an expression whose spelling its bytes are; owned code is its list
abbrev pub IsCodeOf : Code → List Instruction → Type 0
IsCodeOf (codes.Lent lent) code = IsCode code lent.now []
IsCodeOf (codes.Own list) code = map instr_of (list_items list) ≡ code

-- these instructions are the only such expression
abbrev pub IsOnlyCodeOf : Code → List Instruction → Type 0
IsOnlyCodeOf c is = (code : List Instruction) → IsCodeOf c code → is ≡ code

abbrev pub type_of : FuncType → FunctionType
type_of t = record { params = list_items t.params; results = list_items t.results }

abbrev pub import_of : Import → Imported
import_of i = record { module_name = bytes_of i.module; name = bytes_of i.field; kind = i.kind }

abbrev pub global_of : GlobalDef → GlobalEntry
global_of g = record { kind = g.kind; init = map instr_of (list_items g.init) }

abbrev pub export_of : WasmExport → Exported
export_of e = record { name = bytes_of e.name; kind = e.kind }

abbrev pub element_of : Element → ElementSegment
element_of e = record { table = e.table; offset = map instr_of (list_items e.offset); functions = list_items e.functions }

abbrev pub segment_of : Segment → DataSegment
segment_of s = record { memory = s.memory; offset = map instr_of (list_items s.offset); bytes = bytes_of s.bytes }

abbrev pub run_of : Run → ℕ × ValType
run_of r = (r.count, r.kind)

-- the locals of runs, one after another
abbrev pub locals_in : List Run → List ValType
locals_in runs = locals_of (map run_of runs)

abbrev pub body_of : Body → FunctionBody
body_of b = record { locals = locals_in (list_items b.locals); code = code_of b.code }

abbrev pub module_of : Module → WasmModule
module_of m = record {
  types = map type_of (list_items m.types);
  imports = map import_of (list_items m.imports);
  functions = list_items m.functions;
  tables = list_items m.tables;
  memories = list_items m.memories;
  globals = map global_of (list_items m.globals);
  exports = map export_of (list_items m.exports);
  start = m.start;
  elements = map element_of (list_items m.elements);
  bodies = map body_of (list_items m.bodies);
  segments = map segment_of (list_items m.segments);
}
