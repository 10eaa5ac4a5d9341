-- Calls are kept, where calls follow.
use Rattle.std.specs.Prelude.{◌≡◌, ℕ, true, false, Some}
use Rattle.wasm_lang.specs.Modules.{FunctionType}
use Rattle.wasm_lang.specs.Shape.{IsShaped}
use Rattle.wasm_lang_valid.specs.ModuleRules.{type_of_function}
use Rattle.wasm_lang_valid.specs.Typing.{type_of}
use Rattle.wasm_lang_valid.specs.Profile.{IsInProfile}
use Rattle.wasm_lang_exec.specs.Code.{call, call_indirect}
use Rattle.asm_lang_valid.specs.Scope.{module_meaning}
use Rattle.asm_lang_valid.specs.Typing.{named}
use Rattle.asm_laws_continuation.specs.Following.{call_at_to}
use Rattle.wasm2js_translation.specs.Names.{Name, spelled}
use Rattle.wasm2js_lang.specs.Tables.{entries_of}
use Rattle.wasm2js_translation.specs.Modules.{translated}
use Rattle.wasm2js_translation.specs.Tables.{cell_count}
use Rattle.wasm2js_laws_scopes.specs.Laws.{is_own}
use Rattle.wasm2js_laws_acceptance.specs.ProvidedLaws.{is_called}
use Rattle.wasm2js_laws_preservation.specs.ControlControl.{Function, IsFair}
use Rattle.wasm2js_laws_preservation.specs.ControlLaws.{IsKeptFirst}
use Rattle.wasm2js_laws_simulation.specs.CallsCalled.{CallsFollow}

-- The function is one of what its module is translated to, and its calls are that module's. Its names hide none of the module's, and
-- what its code may call is what the module has.
pub record IsWithin (f : Function) : Type 0 where
  pub home : f.scope.home ≡ translated f.home
  pub calls : f.calls ≡ call_at_to f.scope.home f.bound
  pub seen : (n : Name) → is_own n ≡ false → named f.scope (spelled n) ≡ module_meaning f.scope.home (spelled n)
  pub types : f.context.types ≡ f.home.types
  pub functions : (k : ℕ) (t : FunctionType) → type_of f.context k ≡ Some t → type_of_function f.home k ≡ Some t
  pub called : (t : FunctionType) → f.called.types t ≡ true → (is_called f.home).types t ≡ true
  pub table : f.setting.table ≡ entries_of f.home
  pub cells : f.cells ≡ cell_count f.home

abbrev pub CallsAreKept : Type 0
CallsAreKept = (f : Function) → IsFair f → IsWithin f → CallsFollow f → (g : ℕ) → IsKeptFirst f (call g)

abbrev pub IndirectCallsAreKept : Type 0
IndirectCallsAreKept = (f : Function) → IsFair f → IsInProfile f.home → IsShaped f.home → IsWithin f → CallsFollow f → (n : ℕ) → IsKeptFirst f (call_indirect n)
