-- Modules (section 2.5). Names, bytes and numbers are lists and numbers.
use Rattle.std.specs.Prelude.{ℕ, List, Option}
use Rattle.wasm_lang.specs.declared.types.ValType.{ValType}
use Rattle.wasm_lang.specs.declared.types.Limits.{Limits}
use Rattle.wasm_lang.specs.declared.types.GlobalType.{GlobalType}
use Rattle.wasm_lang.specs.declared.types.ImportKind.{ImportKind}
use Rattle.wasm_lang.specs.declared.types.ExportKind.{ExportKind}
use Rattle.wasm_lang.specs.Instructions.{Instruction}

-- the type of a function: what it takes and what it gives, the first first
pub record FunctionType : Type 0 where
  pub params : List ValType
  pub results : List ValType

pub record Imported : Type 0 where
  pub module_name : List ℕ
  pub name : List ℕ
  pub kind : ImportKind

-- a global, and the expression of its first value
pub record GlobalEntry : Type 0 where
  pub kind : GlobalType
  pub init : List Instruction

pub record Exported : Type 0 where
  pub name : List ℕ
  pub kind : ExportKind

-- functions that are put into a table from an offset on
pub record ElementSegment : Type 0 where
  pub table : ℕ
  pub offset : List Instruction
  pub functions : List ℕ

-- bytes that are put into a memory from an offset on
pub record DataSegment : Type 0 where
  pub memory : ℕ
  pub offset : List Instruction
  pub bytes : List ℕ

-- what a function has besides its type: the locals after its parameters, and its expression
pub record FunctionBody : Type 0 where
  pub locals : List ValType
  pub code : List Instruction

-- A function is the number of its type in `functions`, and what stands at the same place in `bodies`.
-- Numbers of functions, tables, memories and globals count the imported ones first.
pub record WasmModule : Type 0 where
  pub types : List FunctionType
  pub imports : List Imported
  pub functions : List ℕ
  pub tables : List Limits
  pub memories : List Limits
  pub globals : List GlobalEntry
  pub exports : List Exported
  pub start : Option ℕ
  pub elements : List ElementSegment
  pub bodies : List FunctionBody
  pub segments : List DataSegment
