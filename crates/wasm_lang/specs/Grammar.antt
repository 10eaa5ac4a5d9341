-- The binary format (sections 5.3 to 5.5, one case for each form; sign extensions, memory.copy, memory.fill and the data count
-- section are those of version 2.0). `IsX v xs ys` says that the bytes xs begin with a spelling of v, which the bytes ys follow.
use Rattle.std.specs.Prelude.{◌≡◌, ℕ, ◌^◌, Bool, true, false, ◌<◌, List, [], ◌∷◌, ◌++◌, length, replicate, All, Option, Some, None}
use Rattle.std.specs.Str.{IsUtf8}
use Rattle.wasm_lang.specs.declared.types.ValType.{ValType}
use Rattle.wasm_lang.specs.declared.types.ValType.TheVariants.{I32, I64}
use Rattle.wasm_lang.specs.declared.types.Limits.{Limits}
use Rattle.wasm_lang.specs.declared.types.GlobalType.{GlobalType}
use Rattle.wasm_lang.specs.declared.types.ImportKind.{ImportKind}
use Rattle.wasm_lang.specs.declared.types.ImportKind.TheVariants as imports
use Rattle.wasm_lang.specs.declared.types.ExportKind.{ExportKind}
use Rattle.wasm_lang.specs.declared.types.ExportKind.TheVariants as exports
use Rattle.wasm_lang.specs.Instructions.{Plain, local_get, local_set, local_tee, global_get, global_set, load, store, memory_size, memory_copy, memory_fill, const32, const64, Instruction, block, loop, if_block, br, br_if, br_table, call, call_indirect, plain, IsExpression}
use Rattle.wasm_lang.specs.Modules.{FunctionType, Imported, GlobalEntry, Exported, ElementSegment, DataSegment, FunctionBody, WasmModule}
use Rattle.wasm_lang.specs.Numbers.{IsU32, IsInteger}
use Rattle.wasm_lang.specs.Opcodes.{IsOpcode}

-- what a relation of this kind is
abbrev pub Spelling : Type 0 → Type 1
Spelling X = X → List ℕ → List ℕ → Type 0

-- ---- vectors and names (sections 5.1.3, 5.2.4)

-- items one after another
pub data Items {X : Type 0} (P : Spelling X) : List X → List ℕ → List ℕ → Type 0 where
  no_item : {xs : List ℕ} → Items P [] xs xs
  item : {v : X} {vs : List X} {xs ys zs : List ℕ} → P v xs ys → Items P vs ys zs → Items P (v ∷ vs) xs zs

-- their count, and then the items
pub record IsVec {X : Type 0} (P : Spelling X) (vs : List X) (xs ys : List ℕ) : Type 0 where
  pub after_count : List ℕ
  pub count : IsU32 (length vs) xs after_count
  pub items : Items P vs after_count ys

-- so many bytes, as they stand
pub record IsBytes (bytes xs ys : List ℕ) : Type 0 where
  pub after_count : List ℕ
  pub count : IsU32 (length bytes) xs after_count
  pub stand : after_count ≡ bytes ++ ys

pub record IsName (name xs ys : List ℕ) : Type 0 where
  pub bytes : IsBytes name xs ys
  pub utf8 : IsUtf8 name

-- a part whose size stands before it: the part takes up all of it
pub record IsSized {X : Type 0} (P : Spelling X) (v : X) (xs ys : List ℕ) : Type 0 where
  pub content : List ℕ
  pub after_size : List ℕ
  pub size : IsU32 (length content) xs after_size
  pub stands : after_size ≡ content ++ ys
  pub is : P v content []

-- ---- types (section 5.3)

pub data IsValType : ValType → List ℕ → List ℕ → Type 0 where
  i32_type : {ys : List ℕ} → IsValType I32 (0x7f ∷ ys) ys
  i64_type : {ys : List ℕ} → IsValType I64 (0x7e ∷ ys) ys

-- version 1.0: a block has one result or none
pub data IsBlockType : Option ValType → List ℕ → List ℕ → Type 0 where
  no_result : {ys : List ℕ} → IsBlockType None (0x40 ∷ ys) ys
  one_result : {t : ValType} {xs ys : List ℕ} → IsValType t xs ys → IsBlockType (Some t) xs ys

pub data IsFunctionType : FunctionType → List ℕ → List ℕ → Type 0 where
  function_type : {ps rs : List ValType} {xs ys zs : List ℕ} → IsVec IsValType ps xs ys → IsVec IsValType rs ys zs
      → IsFunctionType (record { params = ps; results = rs }) (0x60 ∷ xs) zs

pub data IsLimits : Limits → List ℕ → List ℕ → Type 0 where
  only_min : {n : ℕ} {xs ys : List ℕ} → IsU32 n xs ys → IsLimits (record { min = n; max = None }) (0x00 ∷ xs) ys
  min_and_max : {n m : ℕ} {xs ys zs : List ℕ} → IsU32 n xs ys → IsU32 m ys zs → IsLimits (record { min = n; max = Some m }) (0x01 ∷ xs) zs

-- a table of functions
pub data IsTable : Limits → List ℕ → List ℕ → Type 0 where
  a_table : {l : Limits} {xs ys : List ℕ} → IsLimits l xs ys → IsTable l (0x70 ∷ xs) ys

pub data IsMutable : Bool → List ℕ → List ℕ → Type 0 where
  is_constant : {ys : List ℕ} → IsMutable false (0x00 ∷ ys) ys
  is_variable : {ys : List ℕ} → IsMutable true (0x01 ∷ ys) ys

pub data IsGlobalType : GlobalType → List ℕ → List ℕ → Type 0 where
  global_type : {t : ValType} {m : Bool} {xs ys zs : List ℕ} → IsValType t xs ys → IsMutable m ys zs → IsGlobalType (record { kind = t; mutable = m }) xs zs

-- ---- instructions (section 5.4)

-- an alignment, as an exponent, and an offset
abbrev pub IsMemoryImmediate : (align offset : ℕ) → List ℕ → List ℕ → Type 0
IsMemoryImmediate align offset xs zs = (ys : List ℕ) × IsU32 align xs ys × IsU32 offset ys zs

-- what follows the opcode
abbrev pub ArePlainImmediates : Spelling Plain
ArePlainImmediates (local_get x) xs ys = IsU32 x xs ys
ArePlainImmediates (local_set x) xs ys = IsU32 x xs ys
ArePlainImmediates (local_tee x) xs ys = IsU32 x xs ys
ArePlainImmediates (global_get x) xs ys = IsU32 x xs ys
ArePlainImmediates (global_set x) xs ys = IsU32 x xs ys
ArePlainImmediates (load op align offset) xs ys = IsMemoryImmediate align offset xs ys
ArePlainImmediates (store op align offset) xs ys = IsMemoryImmediate align offset xs ys
ArePlainImmediates memory_size xs ys = xs ≡ 0x00 ∷ ys
ArePlainImmediates memory_copy xs ys = IsU32 10 xs (0x00 ∷ 0x00 ∷ ys)
ArePlainImmediates memory_fill xs ys = IsU32 11 xs (0x00 ∷ ys)
ArePlainImmediates (const32 word) xs ys = IsInteger 32 word xs ys
ArePlainImmediates (const64 word) xs ys = IsInteger 64 word xs ys
ArePlainImmediates p xs ys = xs ≡ ys

abbrev pub AreImmediates : Spelling Instruction
AreImmediates (block r) xs ys = IsBlockType r xs ys
AreImmediates (loop r) xs ys = IsBlockType r xs ys
AreImmediates (if_block r) xs ys = IsBlockType r xs ys
AreImmediates (br l) xs ys = IsU32 l xs ys
AreImmediates (br_if l) xs ys = IsU32 l xs ys
AreImmediates (br_table ls l) xs zs = (ys : List ℕ) × IsVec IsU32 ls xs ys × IsU32 l ys zs
AreImmediates (call f) xs ys = IsU32 f xs ys
AreImmediates (call_indirect t) xs ys = IsU32 t xs (0x00 ∷ ys)
AreImmediates (plain p) xs ys = ArePlainImmediates p xs ys
AreImmediates i xs ys = xs ≡ ys

-- an opcode of the table, and then the immediates
pub data IsInstruction : Instruction → List ℕ → List ℕ → Type 0 where
  instruction : {byte : ℕ} {i : Instruction} {xs ys : List ℕ} → IsOpcode byte i → AreImmediates i xs ys → IsInstruction i (byte ∷ xs) ys

-- instructions one after another that are an expression
pub record IsCode (code : List Instruction) (xs ys : List ℕ) : Type 0 where
  pub instructions : Items IsInstruction code xs ys
  pub expression : IsExpression code

-- ---- entries of sections (section 5.5)

pub data IsImportKind : ImportKind → List ℕ → List ℕ → Type 0 where
  function_import : {t : ℕ} {xs ys : List ℕ} → IsU32 t xs ys → IsImportKind (imports.Func t) (0x00 ∷ xs) ys
  table_import : {l : Limits} {xs ys : List ℕ} → IsTable l xs ys → IsImportKind (imports.Table l) (0x01 ∷ xs) ys
  memory_import : {l : Limits} {xs ys : List ℕ} → IsLimits l xs ys → IsImportKind (imports.Memory l) (0x02 ∷ xs) ys
  global_import : {t : GlobalType} {xs ys : List ℕ} → IsGlobalType t xs ys → IsImportKind (imports.Global t) (0x03 ∷ xs) ys

pub data IsImport : Imported → List ℕ → List ℕ → Type 0 where
  an_import : {m n : List ℕ} {k : ImportKind} {xs ys zs ws : List ℕ} → IsName m xs ys → IsName n ys zs → IsImportKind k zs ws
      → IsImport (record { module_name = m; name = n; kind = k }) xs ws

pub data IsGlobal : GlobalEntry → List ℕ → List ℕ → Type 0 where
  a_global : {t : GlobalType} {code : List Instruction} {xs ys zs : List ℕ} → IsGlobalType t xs ys → IsCode code ys zs
      → IsGlobal (record { kind = t; init = code }) xs zs

pub data IsExportKind : ExportKind → List ℕ → List ℕ → Type 0 where
  function_export : {n : ℕ} {xs ys : List ℕ} → IsU32 n xs ys → IsExportKind (exports.Func n) (0x00 ∷ xs) ys
  table_export : {n : ℕ} {xs ys : List ℕ} → IsU32 n xs ys → IsExportKind (exports.Table n) (0x01 ∷ xs) ys
  memory_export : {n : ℕ} {xs ys : List ℕ} → IsU32 n xs ys → IsExportKind (exports.Memory n) (0x02 ∷ xs) ys
  global_export : {n : ℕ} {xs ys : List ℕ} → IsU32 n xs ys → IsExportKind (exports.Global n) (0x03 ∷ xs) ys

pub data IsExport : Exported → List ℕ → List ℕ → Type 0 where
  an_export : {n : List ℕ} {k : ExportKind} {xs ys zs : List ℕ} → IsName n xs ys → IsExportKind k ys zs
      → IsExport (record { name = n; kind = k }) xs zs

pub data IsElement : ElementSegment → List ℕ → List ℕ → Type 0 where
  an_element : {t : ℕ} {code : List Instruction} {fs xs ys zs ws : List ℕ} → IsU32 t xs ys → IsCode code ys zs → IsVec IsU32 fs zs ws
      → IsElement (record { table = t; offset = code; functions = fs }) xs ws

-- locals in runs: how many, and of which type
abbrev pub locals_of : List (ℕ × ValType) → List ValType
locals_of [] = []
locals_of (run ∷ runs) = replicate run.0 run.1 ++ locals_of runs

pub data IsRun : ℕ × ValType → List ℕ → List ℕ → Type 0 where
  a_run : {n : ℕ} {t : ValType} {xs ys zs : List ℕ} → IsU32 n xs ys → IsValType t ys zs → IsRun (n, t) xs zs

-- The locals of all runs together are fewer than 2 ^ 32 (section 5.5.13).
pub data IsFunctionBody : FunctionBody → List ℕ → List ℕ → Type 0 where
  a_body : {runs : List (ℕ × ValType)} {code : List Instruction} {xs ys zs : List ℕ} → IsVec IsRun runs xs ys → IsCode code ys zs
      → length (locals_of runs) < 2 ^ 32
      → IsFunctionBody (record { locals = locals_of runs; code = code }) xs zs

pub data IsSegment : DataSegment → List ℕ → List ℕ → Type 0 where
  a_segment : {m : ℕ} {code : List Instruction} {bytes xs ys zs ws : List ℕ} → IsU32 m xs ys → IsCode code ys zs → IsBytes bytes zs ws
      → IsSegment (record { memory = m; offset = code; bytes = bytes }) xs ws

-- ---- sections and modules (sections 5.5.2, 5.5.15)

-- a name, and any bytes
pub record IsCustom (rest xs ys : List ℕ) : Type 0 where
  pub name : List ℕ
  pub is : IsName name xs (rest ++ ys)

-- custom sections, any number of them
pub data IsCustoms : List ℕ → List ℕ → Type 0 where
  no_custom : {xs : List ℕ} → IsCustoms xs xs
  custom : {rest xs ys zs : List ℕ} → IsSized IsCustom rest xs ys → IsCustoms ys zs → IsCustoms (0 ∷ xs) zs

-- A section of a vector that stands in its order, with its id and size. One that isn't there has no items. Custom sections may stand before it.
pub data IsSection {X : Type 0} (id : ℕ) (P : Spelling X) : List X → List ℕ → List ℕ → Type 0 where
  no_section : {xs ys : List ℕ} → IsCustoms xs ys → IsSection id P [] xs ys
  section : {vs : List X} {xs ys zs : List ℕ} → IsCustoms xs (id ∷ ys) → IsSized (IsVec P) vs ys zs → IsSection id P vs xs zs

-- the same for a section of one number
pub data IsNumberSection (id : ℕ) : Option ℕ → List ℕ → List ℕ → Type 0 where
  no_number : {xs ys : List ℕ} → IsCustoms xs ys → IsNumberSection id None xs ys
  number : {n : ℕ} {xs ys zs : List ℕ} → IsCustoms xs (id ∷ ys) → IsSized IsU32 n ys zs → IsNumberSection id (Some n) xs zs

-- where a data count section stands, it counts the data segments
abbrev pub Counts : Option ℕ → ℕ → Type 0
Counts None n = Unit {0}
Counts (Some count) n = count ≡ n

-- the bytes `\0asm`, and the version 1
abbrev pub header : List ℕ
header = 0x00 ∷ 0x61 ∷ 0x73 ∷ 0x6d ∷ 0x01 ∷ 0x00 ∷ 0x00 ∷ 0x00 ∷ []

-- The bytes are a spelling of the module. Sections stand in the order of their ids, and the data count before the code.
pub record IsModuleBytes (bytes : List ℕ) (m : WasmModule) : Type 0 where
  pub after_header : List ℕ
  pub after_types : List ℕ
  pub after_imports : List ℕ
  pub after_functions : List ℕ
  pub after_tables : List ℕ
  pub after_memories : List ℕ
  pub after_globals : List ℕ
  pub after_exports : List ℕ
  pub after_start : List ℕ
  pub after_elements : List ℕ
  pub after_data_count : List ℕ
  pub after_bodies : List ℕ
  pub after_segments : List ℕ
  pub data_count : Option ℕ
  pub are_bytes : All (λ b. b < 256) bytes
  pub begins : bytes ≡ header ++ after_header
  pub types : IsSection 1 IsFunctionType m.types after_header after_types
  pub imports : IsSection 2 IsImport m.imports after_types after_imports
  pub functions : IsSection 3 IsU32 m.functions after_imports after_functions
  pub tables : IsSection 4 IsTable m.tables after_functions after_tables
  pub memories : IsSection 5 IsLimits m.memories after_tables after_memories
  pub globals : IsSection 6 IsGlobal m.globals after_memories after_globals
  pub exports : IsSection 7 IsExport m.exports after_globals after_exports
  pub start : IsNumberSection 8 m.start after_exports after_start
  pub elements : IsSection 9 IsElement m.elements after_start after_elements
  pub data_count_section : IsNumberSection 12 data_count after_elements after_data_count
  pub bodies : IsSection 10 (IsSized IsFunctionBody) m.bodies after_data_count after_bodies
  pub segments : IsSection 11 IsSegment m.segments after_bodies after_segments
  pub ends : IsCustoms after_segments []
  pub bodies_match : length m.functions ≡ length m.bodies
  pub segments_match : Counts data_count (length m.segments)
