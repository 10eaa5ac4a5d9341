-- What lists of the reader stand for.
use Rattle.std.specs.Prelude.{List, map}
use Rattle.sem_words.specs.declared.list.List.{List as Listed}
use Rattle.sem_words.specs.Lists.{list_items}
use Rattle.wasm_lang.specs.Instructions.{Instruction}
use Rattle.wasm_lang.specs.Modules.{FunctionType, Imported, GlobalEntry, Exported, ElementSegment, DataSegment, FunctionBody}
use Rattle.wasm_tree.specs.declared.instr.Instr.{Instr}
use Rattle.wasm_tree.specs.declared.module.FuncType.{FuncType}
use Rattle.wasm_tree.specs.declared.module.Import.{Import}
use Rattle.wasm_tree.specs.declared.module.GlobalDef.{GlobalDef}
use Rattle.wasm_tree.specs.declared.module.WasmExport.{WasmExport}
use Rattle.wasm_tree.specs.declared.module.Element.{Element}
use Rattle.wasm_tree.specs.declared.module.Segment.{Segment}
use Rattle.wasm_tree.specs.declared.module.Body.{Body}
use Rattle.wasm_tree.specs.Views.{instr_of, type_of, import_of, global_of, export_of, element_of, segment_of, body_of}

abbrev pub instrs_of : Listed Instr → List Instruction
instrs_of list = map instr_of (list_items list)

abbrev pub types_of : Listed FuncType → List FunctionType
types_of list = map type_of (list_items list)

abbrev pub imports_of : Listed Import → List Imported
imports_of list = map import_of (list_items list)

abbrev pub globals_of : Listed GlobalDef → List GlobalEntry
globals_of list = map global_of (list_items list)

abbrev pub exports_of : Listed WasmExport → List Exported
exports_of list = map export_of (list_items list)

abbrev pub elements_of : Listed Element → List ElementSegment
elements_of list = map element_of (list_items list)

abbrev pub bodies_of : Listed Body → List FunctionBody
bodies_of list = map body_of (list_items list)

abbrev pub segments_of : Listed Segment → List DataSegment
segments_of list = map segment_of (list_items list)
