-- What the code of a body finds in its context: the numbers by which a translated module names its variables, functions and types.
use Rattle.std.specs.Prelude.{◌≡◌, ℕ, ◌+◌, ◌<◌, true, List, [], ◌∷◌, length, Some, slice_get}
use Rattle.wasm_lang.specs.declared.types.ValType.TheVariants.{I32}
use Rattle.wasm_lang.specs.declared.types.GlobalType.{GlobalType}
use Rattle.wasm_lang_valid.specs.Typing.{Context, type_of}
use Rattle.asm_lang.specs.Modules.{Function, Table, Module}
use Rattle.asm_lang_valid.specs.declared.meaning.Element.{Element}
use Rattle.asm_lang_valid.specs.Scope.{a_view, a_function, a_table, Signature, signature_of, first_member}
use Rattle.asm_lang_valid.specs.LimitRows.{ForeignCall, Mark, a_row, a_use, is_among, foreign_calls}
use Rattle.asm_lang_valid.specs.Refusal.{foreign_globals}
use Rattle.asm_lang_valid.specs.Typing.{Scope, named}
use Rattle.asm2wasm_translation.specs.Numbers.{global_names, own_number, import_number, asked_signature, table_type}
use Rattle.asm2wasm_translation.specs.Modules.{type_for}

abbrev pub variable_int : GlobalType
variable_int = record { kind = I32; mutable = true }

-- The context of code in a function's body, which has so many locals. It says nothing of labels.
pub record IsContextOf (c : Scope) (room : ℕ) (w : Context) : Type 0 where
  pub locals : (x : ℕ) → x < room → slice_get w.locals x ≡ Some I32
  -- variables stand after the imported globals
  pub globals : (j : ℕ) → j < length (global_names c.home) → slice_get w.globals (length (foreign_globals c.home) + j) ≡ Some variable_int
  pub functions : (n : List ℕ) (f : Function) → named c n ≡ a_function f → type_of w (own_number c.home n) ≡ Some (type_for (signature_of f))
  pub imports : (f : ForeignCall) → is_among f (foreign_calls c.home) ≡ true → type_of w (import_number c.home f) ≡ Some (type_for (asked_signature f))
  pub types : (n : List ℕ) (t : Table) (s : Signature) → named c n ≡ a_table t → first_member c.home t.members ≡ Some s → slice_get w.types (table_type c.home t) ≡ Some (type_for s)
  pub table : (n : List ℕ) (t : Table) → named c n ≡ a_table t → w.table ≡ true
  pub memory : (n : List ℕ) (v : Element) → named c n ≡ a_view v → w.memory ≡ true

-- each call of a foreign function is among those that the module imports
abbrev pub AreListed : Module → List Mark → Type 0
AreListed m [] = Unit {0}
AreListed m (a_row x ∷ ms) = AreListed m ms
AreListed m (a_use f at ∷ ms) = (is_among f (foreign_calls m) ≡ true) × AreListed m ms
