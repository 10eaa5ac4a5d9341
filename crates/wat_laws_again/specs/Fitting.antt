-- What the text form can say of a module: first values and offsets that are one constant, or one global (section 3.3.7), alignments
-- that an access may have, segments of the first table and the first memory, and functions whose types are there.
use Rattle.std.specs.Prelude.{◌≡◌, ℕ, ◌<◌, List, [], ◌∷◌, Some, slice_get}
use Rattle.std.specs.List.{AllByRecursion}
use Rattle.wasm_lang.specs.Instructions.{Plain, global_get, load, store, const32, const64, Instruction, plain, end_mark}
use Rattle.wasm_lang.specs.declared.types.ImportKind.{ImportKind}
use Rattle.wasm_lang.specs.declared.types.ImportKind.TheVariants as imports
use Rattle.wasm_lang.specs.Modules.{FunctionType, WasmModule}

abbrev pub IsPlainValue : Plain → Type 0
IsPlainValue (global_get x) = Unit {0}
IsPlainValue (const32 word) = Unit {0}
IsPlainValue (const64 word) = Unit {0}
IsPlainValue p = ⊥

abbrev pub IsValue : Instruction → Type 0
IsValue (plain p) = IsPlainValue p
IsValue i = ⊥

abbrev pub IsConstant : List Instruction → Type 0
IsConstant code = (i : Instruction) × (code ≡ i ∷ end_mark ∷ []) × IsValue i

pub record HasConstants (m : WasmModule) : Type 0 where
  pub globals : AllByRecursion (λ g. IsConstant g.init) m.globals
  pub elements : AllByRecursion (λ e. IsConstant e.offset) m.elements
  pub segments : AllByRecursion (λ s. IsConstant s.offset) m.segments

-- the exponent of an alignment is below 32
abbrev pub IsAligned : Instruction → Type 0
IsAligned (plain (load op align offset)) = align < 32
IsAligned (plain (store op align offset)) = align < 32
IsAligned i = Unit {0}

pub record HasOneOfEach (m : WasmModule) : Type 0 where
  pub bodies : AllByRecursion (λ b. AllByRecursion IsAligned b.code) m.bodies
  pub elements : AllByRecursion (λ e. e.table ≡ 0) m.elements
  pub segments : AllByRecursion (λ s. s.memory ≡ 0) m.segments

-- the types of functions are there
abbrev pub HasType : List FunctionType → ℕ → Type 0
HasType types t = (type : FunctionType) × (slice_get types t ≡ Some type)

abbrev pub ImportHasType : List FunctionType → ImportKind → Type 0
ImportHasType types (imports.Func t) = HasType types t
ImportHasType types kind = Unit {0}

pub record HasTypes (m : WasmModule) : Type 0 where
  pub imports : AllByRecursion (λ i. ImportHasType m.types i.kind) m.imports
  pub functions : AllByRecursion (HasType m.types) m.functions
