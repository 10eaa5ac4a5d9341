-- What is spelled is shaped: names are UTF-8, instructions have opcodes, bodies are expressions, and there are as many as functions.
use Rattle.std.proofs.Common.{ℕ, List, [], ◌∷◌}
use Rattle.std.specs.Prelude.{All}
use Rattle.std.specs.List.{AllByRecursion}
use Rattle.std.specs.Str.{IsUtf8}
use Rattle.std.proofs.lemmas.List.Elements.{All-from_recursion}
use Rattle.wasm_lang.specs.Instructions.{Instruction}
use Rattle.wasm_lang.specs.Modules.{Imported, GlobalEntry, Exported, ElementSegment, DataSegment, FunctionBody, WasmModule}
use Rattle.wasm_lang.specs.Shape.{HasOpcode, IsShapedCode, IsShaped}
use Rattle.wasm_lang.specs.Grammar.{Spelling, Items, no_item, item, IsSized, IsInstruction, instruction, IsCode, IsImport, an_import, IsGlobal, a_global, IsExport, an_export, IsElement, an_element, IsFunctionBody, a_body, IsSegment, a_segment, IsSection, no_section, section, IsModuleBytes}

-- what each spelling tells of its value holds of all items
items_all : {X : Type 0} (P : Spelling X) (Q : X → Type 0) → ((v : X) (xs ys : List ℕ) → P v xs ys → Q v)
    → (vs : List X) (xs ys : List ℕ) → Items P vs xs ys → AllByRecursion Q vs
items_all P Q tells [] xs ys no_item = tt
items_all P Q tells (v ∷ vs) xs zs (item {ys = ms} p ps) = (tells v xs ms p, items_all P Q tells vs ms zs ps)

section_all : {X : Type 0} (number : ℕ) (P : Spelling X) (Q : X → Type 0) → ((v : X) (xs ys : List ℕ) → P v xs ys → Q v)
    → (vs : List X) (xs ys : List ℕ) → IsSection number P vs xs ys → All Q vs
section_all number P Q tells [] xs ys (no_section c) = All-from_recursion Q [] tt
section_all number P Q tells vs xs ys (section c s) =
    All-from_recursion Q vs (items_all P Q tells vs s.is.after_count [] s.is.items)

has_opcode : (i : Instruction) (xs ys : List ℕ) → IsInstruction i xs ys → HasOpcode i
has_opcode i xs ys (instruction {byte = byte} opcode immediates) = (byte, opcode)

shaped_code : (code : List Instruction) (xs ys : List ℕ) → IsCode code xs ys → IsShapedCode code
shaped_code code xs ys c = record {
  expression = c.expression;
  opcodes = All-from_recursion HasOpcode code (items_all IsInstruction HasOpcode has_opcode code xs ys c.instructions);
}

module_named : (i : Imported) (xs ys : List ℕ) → IsImport i xs ys → IsUtf8 i.module_name
module_named i xs ys (an_import a b c) = a.utf8

import_named : (i : Imported) (xs ys : List ℕ) → IsImport i xs ys → IsUtf8 i.name
import_named i xs ys (an_import a b c) = b.utf8

export_named : (e : Exported) (xs ys : List ℕ) → IsExport e xs ys → IsUtf8 e.name
export_named e xs ys (an_export a b) = a.utf8

shaped_global : (g : GlobalEntry) (xs ys : List ℕ) → IsGlobal g xs ys → IsShapedCode g.init
shaped_global g xs ys (a_global {code = code} {ys = ms} t c) = shaped_code code ms ys c

shaped_element : (e : ElementSegment) (xs ys : List ℕ) → IsElement e xs ys → IsShapedCode e.offset
shaped_element e xs ys (an_element {code = code} {ys = ms} {zs = ns} t c v) = shaped_code code ms ns c

shaped_segment : (s : DataSegment) (xs ys : List ℕ) → IsSegment s xs ys → IsShapedCode s.offset
shaped_segment s xs ys (a_segment {code = code} {ys = ms} {zs = ns} t c v) = shaped_code code ms ns c

shaped_body : (b : FunctionBody) (xs ys : List ℕ) → IsFunctionBody b xs ys → IsShapedCode b.code
shaped_body b xs ys (a_body {code = code} {ys = ms} v c few) = shaped_code code ms ys c

sized_body : (b : FunctionBody) (xs ys : List ℕ) → IsSized IsFunctionBody b xs ys → IsShapedCode b.code
sized_body b xs ys s = shaped_body b s.content [] s.is

pub spelled_shaped : (bytes : List ℕ) (m : WasmModule) → IsModuleBytes bytes m → IsShaped m
spelled_shaped bytes m b = record {
  module_names = section_all 2 IsImport (λ i. IsUtf8 i.module_name) module_named m.imports _ _ b.imports;
  import_names = section_all 2 IsImport (λ i. IsUtf8 i.name) import_named m.imports _ _ b.imports;
  export_names = section_all 7 IsExport (λ e. IsUtf8 e.name) export_named m.exports _ _ b.exports;
  bodies = section_all 10 (IsSized IsFunctionBody) (λ b. IsShapedCode b.code) sized_body m.bodies _ _ b.bodies;
  globals = section_all 6 IsGlobal (λ g. IsShapedCode g.init) shaped_global m.globals _ _ b.globals;
  elements = section_all 9 IsElement (λ e. IsShapedCode e.offset) shaped_element m.elements _ _ b.elements;
  segments = section_all 11 IsSegment (λ s. IsShapedCode s.offset) shaped_segment m.segments _ _ b.segments;
  bodies_match = b.bodies_match;
}
