-- What the names of a translated module mean in its functions.
use Rattle.std.specs.Prelude.{◌≡◌, ◌≤◌, Bool, true, false, List, ◌++◌, length}
use Rattle.std.specs.List.{list_all}
use Rattle.wasm_lang.specs.declared.types.ValType.{ValType}
use Rattle.wasm_lang.specs.Modules.{WasmModule}
use Rattle.wasm_lang_valid.specs.ModuleRules.{has_memory}
use Rattle.wasm_lang_valid.specs.Typing.{Context}
use Rattle.asm_lang.specs.Modules.{Stmt, Module}
use Rattle.asm_lang_valid.specs.Scope.{module_meaning}
use Rattle.asm_lang_valid.specs.Typing.{named}
use Rattle.asm_lang_valid.specs.Typed.{scope_of}
use Rattle.wasm2js_translation.specs.Names.{Numbered, local_low, local_high, operand_low, operand_high, Name, numbered, fixed, spelled}
use Rattle.wasm2js_translation.specs.Helpers.{function_of}
use Rattle.wasm2js_translation.specs.Modules.{param_names, translated}
use Rattle.wasm2js_translation.specs.Rooms.{Room, declared_names}
use Rattle.wasm2js_laws_scopes.specs.Provided.{HasRoom, HasFixed, HasMemory}

-- The variables that are declared for a room are ints, as are those of the source's parameters.
abbrev pub RoomIsDeclared : Type 0
RoomIsDeclared =
    (m : Module) (name : Name) (c : Context) (params more : List ValType) (r : Room) (ss : List Stmt) → c.locals ≡ params ++ more → r.wide_height ≤ r.height
    → HasRoom (scope_of m (function_of name (param_names 0 params) (declared_names r (length params) more) ss)) c r

-- ---- names that a function declares hide no name of its module

abbrev pub is_own_kind : Numbered → Bool
is_own_kind local_low = true
is_own_kind local_high = true
is_own_kind operand_low = true
is_own_kind operand_high = true
is_own_kind k = false

abbrev pub is_own : Name → Bool
is_own (numbered k n) = is_own_kind k
is_own (fixed f) = false

abbrev pub ModuleNamesAreSeen : Type 0
ModuleNamesAreSeen =
    (m : Module) (name : Name) (params locals : List Name) (ss : List Stmt) (n : Name) → list_all is_own params ≡ true → list_all is_own locals ≡ true → is_own n ≡ false
    → named (scope_of m (function_of name params locals ss)) (spelled n) ≡ module_meaning m (spelled n)

abbrev pub VariablesAreOwn : Type 0
VariablesAreOwn =
    (params more : List ValType) (r : Room) → (list_all is_own (param_names 0 params) ≡ true) × (list_all is_own (declared_names r (length params) more) ≡ true)

-- ---- the head of a translated module, and its views where the source has a memory

abbrev pub HeadIsProvided : Type 0
HeadIsProvided =
    (w : WasmModule) (name : Name) (params locals : List Name) (ss : List Stmt) → list_all is_own params ≡ true → list_all is_own locals ≡ true
    → HasFixed (scope_of (translated w) (function_of name params locals ss))

abbrev pub MemoryIsProvided : Type 0
MemoryIsProvided =
    (w : WasmModule) (name : Name) (params locals : List Name) (ss : List Stmt) → list_all is_own params ≡ true → list_all is_own locals ≡ true → has_memory w ≡ true
    → HasMemory (scope_of (translated w) (function_of name params locals ss))
