-- What is asked of the calls in an expression, of its foreign uses and of the scratch locals of its code.
use Rattle.std.specs.Prelude.{◌≡◌, ℕ, ◌+◌, ◌^◌, ◌≤◌, Bool, true, List, [], ◌∷◌, length, Some, slice_get, if◌then◌else◌, false}
use Rattle.sem_words.specs.declared.word.Word.TheVariants.{W32}
use Rattle.sem_words.specs.declared.js_value.JsValue.{JsValue}
use Rattle.wasm_lang_exec.specs.Code.{Trees, ε, ◌▹◌, call, call_indirect}
use Rattle.wasm_laws_trees.specs.Spelled.{reach}
use Rattle.asm_lang.specs.Modules.{Function, Table, Module}
use Rattle.asm_lang_valid.specs.Scope.{a_function, a_table, signature_of, first_member, module_meaning}
use Rattle.asm_lang_valid.specs.Typing.{matches}
use Rattle.asm_lang_valid.specs.LimitRows.{ForeignCall, Mark, a_row, a_use, is_same, foreign_calls}
use Rattle.asm_lang_valid.specs.Refusal.{function_number}
use Rattle.asm_lang_exec.specs.Values.{Calls, call_import}
use Rattle.wasm_lang.specs.Modules.{WasmModule}
use Rattle.wasm_lang_exec.specs.Reductions.{an_import, callee_at, of_type}
use Rattle.session_lang.specs.CallingForms.{foreign_import}
use Rattle.asm2wasm_lang.specs.Calling.{int_type}
use Rattle.asm2wasm_translation.specs.Numbers.{first_scratch, import_number, table_type, base_of}
use Rattle.asm2wasm_laws_run.specs.State.{Fixed, AnyValue}
use Rattle.asm2wasm_laws_preservation.specs.Kept.{values, result, Surroundings, Keeps}

-- ---- foreign uses

abbrev pub is_listed : ForeignCall → List ForeignCall → Bool
is_listed f [] = false
is_listed f (g ∷ gs) = if is_same f g then true else is_listed f gs

-- each foreign use among the marks is one of these calls
abbrev pub AllListed : List ForeignCall → List Mark → Type 0
AllListed fs [] = Unit {0}
AllListed fs (a_row r ∷ ms) = AllListed fs ms
AllListed fs (a_use f at ∷ ms) = (is_listed f fs ≡ true) × AllListed fs ms

-- ---- scratch locals

-- the code names no local past the scratch locals
abbrev pub Within : Surroundings → Trees → Type 0
Within s code = reach code ≤ first_scratch s.within + s.scratch

-- ---- calls, with the arguments on the stack, where no more units are left than the limit

-- of a function of the module, by its place: its result is left where it has one, and all scratch locals are as they were
abbrev pub OwnKept : (s : Surroundings) (limit : ℕ) (calls : Calls) → Type 0
OwnKept s limit calls =
    (g : Function) (n : ℕ) → slice_get s.home.functions n ≡ Some g → (d : ℕ) (vs : List JsValue) → length vs ≡ length g.params
    → Keeps s limit d (values vs) AnyValue (result (signature_of g).result) (call (length (foreign_calls s.home) + n) ▹ ε) (calls g vs)

pub record CallsKept (s : Surroundings) (limit : ℕ) (calls : Calls) : Type 0 where
  pub own : OwnKept s limit calls
  -- of a foreign function
  pub foreign : (name : List ℕ) (wanted : Bool) (d : ℕ) (vs : List JsValue) → let f : ForeignCall = record { name = name; params = length vs; result = wanted } in
      is_listed f (foreign_calls s.home) ≡ true
      → Keeps s limit d (values vs) AnyValue (result wanted) (call (import_number s.home f) ▹ ε) (call_import name vs)
  -- the indices of entries are words
  pub places : (n : List ℕ) (t : Table) → module_meaning s.home n ≡ a_table t → base_of s.home n + length t.members ≤ 2 ^ 32
  -- of an entry of a table, whose index is on top
  pub entry : (n : List ℕ) (t : Table) (j : ℕ) (name : List ℕ) (g : Function) (wanted : Bool) → module_meaning s.home n ≡ a_table t → slice_get t.members j ≡ Some name → module_meaning s.home name ≡ a_function g
      → (d : ℕ) (vs : List JsValue) → matches (first_member s.home t.members) (length vs) wanted ≡ true
      → Keeps s limit d (W32 (base_of s.home n + j) ∷ values vs) AnyValue (result wanted) (call_indirect (table_type s.home t) ▹ ε) (calls g vs)

-- ---- the translated module, as far as calls know it

-- the number of the function of this name
abbrev pub number_of : Module → List ℕ → ℕ
number_of m name = length (foreign_calls m) + function_number m.functions name

pub record IsMade (w : WasmModule) (x : Fixed) (m : Module) : Type 0 where
  -- a foreign function is an import of its name and its type
  pub imports : (f : ForeignCall) → is_listed f (foreign_calls m) ≡ true → callee_at w (import_number m f) ≡ Some (an_import (foreign_import f.name) (int_type f.params f.result))
  pub places : (n : List ℕ) (t : Table) → module_meaning m n ≡ a_table t → base_of m n + length t.members ≤ 2 ^ 32
  -- an entry is the function of its name, and has the type of its table
  pub entries : (n : List ℕ) (t : Table) (j : ℕ) (name : List ℕ) (g : Function) → module_meaning m n ≡ a_table t → slice_get t.members j ≡ Some name → module_meaning m name ≡ a_function g
      → slice_get x.entries (base_of m n + j) ≡ Some (Some (number_of m name))
  pub types : (n : List ℕ) (t : Table) (j : ℕ) (name : List ℕ) (g : Function) → module_meaning m n ≡ a_table t → slice_get t.members j ≡ Some name → module_meaning m name ≡ a_function g
      → of_type (slice_get w.types (table_type m t)) (callee_at w (number_of m name)) ≡ true
