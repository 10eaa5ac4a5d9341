-- Which functions of a module can be called at all: what is exported, and what the code of such a function names.
-- Code that nothing executes counts as any other.
use Rattle.std.specs.Prelude.{◌≡◌, ℕ, List, [], ◌∷◌, Some, slice_get, Contains}
use Rattle.asm_lang.specs.Modules.{Function, Table, Module}
use Rattle.asm_lang_valid.specs.Scope.{a_function, a_table, module_meaning}
use Rattle.asm_lang_valid.specs.Typing.{named}
use Rattle.asm_lang_valid.specs.Typed.{scope_of}
use Rattle.asm_lang_valid.specs.Refusal.{Exported, exported_from}
use Rattle.asm_short_lang.specs.Uses.{of_callee, of_table, stmts_uses}

-- A local variable hides a name of the module, so that a call of its name reaches nothing. A table that is called keeps all
-- its members.
pub data IsReached (m : Module) : Function → Type 0 where
  exported : {f : Function} (e : Exported) → Contains (exported_from m m.exports) e → slice_get m.functions e.function ≡ Some f → IsReached m f
  called : {f g : Function} (n : List ℕ) → IsReached m f → Contains (stmts_uses f.body) (of_callee n) → named (scope_of m f) n ≡ a_function g → IsReached m g
  member : {f g : Function} (n x : List ℕ) (t : Table) → IsReached m f → Contains (stmts_uses f.body) (of_table n) → named (scope_of m f) n ≡ a_table t
      → Contains t.members x → module_meaning m x ≡ a_function g → IsReached m g

-- a reached function calls members of the table
pub record IsEntered (m : Module) (t : Table) : Type 0 where
  pub function : Function
  pub reached : IsReached m function
  pub name : List ℕ
  pub used : Contains (stmts_uses function.body) (of_table name)
  pub means : named (scope_of m function) name ≡ a_table t

-- the second list has those of the first that have the property, in their order
pub data Keeps {A : Type 0} (P : A → Type 0) : List A → List A → Type 0 where
  none : Keeps P [] []
  kept : {x : A} {xs ys : List A} → P x → Keeps P xs ys → Keeps P (x ∷ xs) (x ∷ ys)
  left_out : {x : A} {xs ys : List A} → ¬ P x → Keeps P xs ys → Keeps P (x ∷ xs) ys
