-- Arguments of calls, and functions past the last.
use Rattle.std.proofs.Common.{◌≡◌, ℕ, zero, suc, ◌≤◌, Bool, true, false, List, [], ◌∷◌, length, Option, Some, None, refl, ap, arith}
use Rattle.std.specs.Prelude.{ℤ, slice_get, ◌&&◌, if◌then◌else◌}
use Rattle.wasm_lang.specs.declared.types.ValType.{ValType}
use Rattle.wasm_lang.specs.Modules.{WasmModule}
use Rattle.wasm_lang_valid.specs.ModuleRules.{function_types, type_of_function}
use Rattle.wasm_lang_exec.specs.Fits.{in_range, takes_arguments}
use Rattle.wasm_run.specs.Forms.{after_argument}

none_past : {A : Type 0} (xs : List A) (i : ℕ) → length xs ≤ i → slice_get xs i ≡ None
none_past [] i le = refl
none_past (x ∷ xs) zero le = absurd (omega arith)
none_past (x ∷ xs) (suc i) le = none_past xs i (omega arith)

pub past_all : (m : WasmModule) (f : ℕ) → length (function_types m) ≤ f → type_of_function m f ≡ None
past_all m f le = rw (none_past (function_types m) f le) refl

-- ---- arguments

some_taken : (test : Bool) (ts : List ValType) (zs rest : List ℤ) → (if test then Some zs else None) ≡ Some rest → (test && takes_arguments ts zs) ≡ takes_arguments ts rest
some_taken true ts zs rest e = ap (takes_arguments ts) (cc e)
some_taken false ts zs rest e = cc e

none_taken : (test : Bool) (ts : List ValType) (zs : List ℤ) → ◌≡◌ {A = Option (List ℤ)} (if test then Some zs else None) None → (test && takes_arguments ts zs) ≡ false
none_taken true ts zs e = cc e
none_taken false ts zs e = refl

pub taken_some : (t : ValType) (ts : List ValType) (zs rest : List ℤ) → after_argument t zs ≡ Some rest → takes_arguments (t ∷ ts) zs ≡ takes_arguments ts rest
taken_some t ts [] rest e = cc e
taken_some t ts (z ∷ zs) rest e = some_taken (in_range t z) ts zs rest e

pub taken_none : (t : ValType) (ts : List ValType) (zs : List ℤ) → after_argument t zs ≡ None → takes_arguments (t ∷ ts) zs ≡ false
taken_none t ts [] e = refl
taken_none t ts (z ∷ zs) e = none_taken (in_range t z) ts zs e
