-- Which modules are valid, and which rule another one breaks first (section 3.4.10).
use Rattle.std.specs.Prelude.{◌≡◌, ℕ, ◌<◌, [], ◌++◌, length, Option, Some, None, slice_get}
use Rattle.wasm_lang.specs.Modules.{FunctionType, FunctionBody, WasmModule}
use Rattle.wasm_lang_valid.specs.declared.rule.Rule.{Rule}
use Rattle.wasm_lang_valid.specs.declared.section.Section.{Section}
use Rattle.wasm_lang_valid.specs.declared.section.Section.TheVariants as sections
use Rattle.wasm_lang_valid.specs.Typing.{Context, IsValid, result_of}
use Rattle.wasm_lang_valid.specs.Refusal.{Refuses}
use Rattle.wasm_lang_valid.specs.ModuleRules.{function_types, global_types, has_table, has_memory, item_rule}

abbrev pub no_type : FunctionType
no_type = record { params = []; results = [] }

-- the type of a function that the module defines, by its place among those; that of nothing where its number is none
abbrev pub own_type : WasmModule → ℕ → FunctionType
own_type m i = numbered (slice_get m.functions i)
  where
    found : Option FunctionType → FunctionType
    found None = no_type
    found (Some t) = t

    numbered : Option ℕ → FunctionType
    numbered None = no_type
    numbered (Some t) = found (slice_get m.types t)

-- the context outside the outermost block of the body at this place
abbrev pub body_context : WasmModule → ℕ → FunctionBody → Context
body_context m i body = record {
  types = m.types;
  functions = function_types m;
  table = has_table m;
  memory = has_memory m;
  globals = global_types m;
  locals = (own_type m i).params ++ body.locals;
  labels = [];
  returns = result_of (own_type m i);
}

abbrev pub start_count : Option ℕ → ℕ
start_count None = 0
start_count (Some f) = 1

-- how many items a section has
abbrev pub items : WasmModule → Section → ℕ
items m sections.Types = length m.types
items m sections.Imports = length m.imports
items m sections.Functions = length m.functions
items m sections.Tables = length m.tables
items m sections.Memories = length m.memories
items m sections.Globals = length m.globals
items m sections.Exports = length m.exports
items m sections.Start = start_count m.start
items m sections.Elements = length m.elements
items m sections.Code = length m.bodies
items m sections.Data = length m.segments

abbrev pub IsValidBody : WasmModule → ℕ → Option FunctionBody → Type 0
IsValidBody m i None = Unit {0}
IsValidBody m i (Some body) = IsValid (body_context m i body) body.code

abbrev pub BodyRefuses : WasmModule → ℕ → Option FunctionBody → Rule → ℕ → Type 0
BodyRefuses m i None rule instruction = ⊥
BodyRefuses m i (Some body) rule instruction = Refuses (body_context m i body) body.code instruction rule

-- the item of this section at this place breaks no rule
abbrev pub IsFine : WasmModule → Section → ℕ → Type 0
IsFine m sections.Code i = IsValidBody m i (slice_get m.bodies i)
IsFine m s i = item_rule m s i ≡ None

-- .. breaks this rule, in code at this instruction, else at 0
abbrev pub BreaksAt : WasmModule → Section → ℕ → Rule → ℕ → Type 0
BreaksAt m sections.Code i rule instruction = BodyRefuses m i (slice_get m.bodies i) rule instruction
BreaksAt m s i rule instruction = (item_rule m s i ≡ Some rule) × (instruction ≡ 0)

-- the sections' ids
abbrev pub id : Section → ℕ
id sections.Types = 1
id sections.Imports = 2
id sections.Functions = 3
id sections.Tables = 4
id sections.Memories = 5
id sections.Globals = 6
id sections.Exports = 7
id sections.Start = 8
id sections.Elements = 9
id sections.Code = 10
id sections.Data = 11

-- all items of a section are fine
abbrev pub IsFineSection : WasmModule → Section → Type 0
IsFineSection m s = (i : ℕ) → i < items m s → IsFine m s i

abbrev pub IsValidModule : WasmModule → Type 0
IsValidModule m = (s : Section) → IsFineSection m s

-- The module breaks this rule first: all sections before this one are fine, and all items before this one.
pub record RefusesModule (m : WasmModule) (rule : Rule) (section : Section) (index instruction : ℕ) : Type 0 where
  pub sections : (s : Section) → id s < id section → IsFineSection m s
  pub within : index < items m section
  pub items : (i : ℕ) → i < index → IsFine m section i
  pub here : BreaksAt m section index rule instruction

-- it breaks some rule first
pub record IsRefused (m : WasmModule) : Type 0 where
  pub rule : Rule
  pub section : Section
  pub index : ℕ
  pub instruction : ℕ
  pub refuses : RefusesModule m rule section index instruction
