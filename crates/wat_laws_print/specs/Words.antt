-- Modules whose numbers are words: numbers of functions and their like, labels and offsets have 32 bits, and constants those of
-- their type. So it is with each module that the binary format can spell.
use Rattle.std.specs.Prelude.{ℕ, ◌^◌, ◌<◌, List, Option, Some, None}
use Rattle.std.specs.List.{AllByRecursion}
use Rattle.wasm_lang.specs.declared.types.Limits.{Limits}
use Rattle.wasm_lang.specs.declared.types.ImportKind.{ImportKind}
use Rattle.wasm_lang.specs.declared.types.ImportKind.TheVariants as imports
use Rattle.wasm_lang.specs.declared.types.ExportKind.{ExportKind}
use Rattle.wasm_lang.specs.declared.types.ExportKind.TheVariants as exports
use Rattle.wasm_lang.specs.Instructions.{Plain, local_get, local_set, local_tee, global_get, global_set, load, store, const32, const64, Instruction, br, br_if, br_table, call, call_indirect, plain}
use Rattle.wasm_lang.specs.Modules.{WasmModule}

abbrev pub IsNumber : ℕ → Type 0
IsNumber n = n < 2 ^ 32

abbrev pub AreBytes : List ℕ → Type 0
AreBytes bytes = AllByRecursion (λ b. b < 256) bytes

abbrev pub HasPlainWords : Plain → Type 0
HasPlainWords (local_get x) = IsNumber x
HasPlainWords (local_set x) = IsNumber x
HasPlainWords (local_tee x) = IsNumber x
HasPlainWords (global_get x) = IsNumber x
HasPlainWords (global_set x) = IsNumber x
HasPlainWords (load op align offset) = IsNumber offset
HasPlainWords (store op align offset) = IsNumber offset
HasPlainWords (const32 word) = word < 2 ^ 32
HasPlainWords (const64 word) = word < 2 ^ 64
HasPlainWords p = Unit {0}

abbrev pub HasWords : Instruction → Type 0
HasWords (br label) = IsNumber label
HasWords (br_if label) = IsNumber label
HasWords (br_table labels label) = AllByRecursion IsNumber labels × IsNumber label
HasWords (call function) = IsNumber function
HasWords (call_indirect type) = IsNumber type
HasWords (plain p) = HasPlainWords p
HasWords i = Unit {0}

abbrev pub IsMaximum : Option ℕ → Type 0
IsMaximum None = Unit {0}
IsMaximum (Some n) = IsNumber n

abbrev pub AreLimits : Limits → Type 0
AreLimits l = IsNumber l.min × IsMaximum l.max

abbrev pub IsImported : ImportKind → Type 0
IsImported (imports.Func type) = IsNumber type
IsImported (imports.Table limits) = AreLimits limits
IsImported (imports.Memory limits) = AreLimits limits
IsImported (imports.Global kind) = Unit {0}

abbrev pub IsExported : ExportKind → Type 0
IsExported (exports.Func n) = IsNumber n
IsExported (exports.Table n) = IsNumber n
IsExported (exports.Memory n) = IsNumber n
IsExported (exports.Global n) = IsNumber n

pub record IsOfWords (m : WasmModule) : Type 0 where
  pub imports : AllByRecursion (λ i. AreBytes i.module_name × AreBytes i.name × IsImported i.kind) m.imports
  pub functions : AllByRecursion IsNumber m.functions
  pub tables : AllByRecursion AreLimits m.tables
  pub memories : AllByRecursion AreLimits m.memories
  pub globals : AllByRecursion (λ g. AllByRecursion HasWords g.init) m.globals
  pub exports : AllByRecursion (λ e. AreBytes e.name × IsExported e.kind) m.exports
  pub start : IsMaximum m.start
  pub elements : AllByRecursion (λ e. AllByRecursion HasWords e.offset × AllByRecursion IsNumber e.functions) m.elements
  pub bodies : AllByRecursion (λ b. AllByRecursion HasWords b.code) m.bodies
  pub segments : AllByRecursion (λ s. AllByRecursion HasWords s.offset × AreBytes s.bytes) m.segments
