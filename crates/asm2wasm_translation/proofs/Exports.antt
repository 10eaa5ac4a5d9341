-- An export of another type isn't called as asked.
use Rattle.std.proofs.Common.{◌≡◌, ℕ, zero, suc, ◌<◌, List, [], ◌∷◌, length, get_or, Option, Some, None, refl, ap, subst, arith}
use Rattle.wasm_lang.specs.declared.types.ValType.{ValType}
use Rattle.wasm_lang.specs.declared.types.ValType.TheVariants.{I32, I64}
use Rattle.wasm_lang.specs.Modules.{FunctionType}
use Rattle.wasm_lang_valid.specs.ModuleRules.{type_of_function}
use Rattle.asm_lang.specs.Modules.{no_stmts, Function}
use Rattle.asm_lang_valid.specs.Scope.{signature_of}
use Rattle.asm_lang_valid.specs.Refusal.{Exported}
use Rattle.asm2wasm_lang.specs.Calling.{int_type, IsTypedAs, IsCalledAs}
use Rattle.asm2wasm_translation.specs.Modules.{translation}
use Rattle.asm2wasm_translation.specs.Pieces.{f}
use Rattle.asm2wasm_translation.specs.Worked.{giving_back, wide_export}

abbrev given : Exported
given = record { key = f; function = 0 }

abbrev first : List Function → Function → Function
first [] g = g
first (x ∷ xs) g = x

abbrev first_kind : List ValType → ValType
first_kind [] = I32
first_kind (k ∷ ks) = k

abbrev kind_of : Option FunctionType → ValType
kind_of None = I32
kind_of (Some t) = first_kind t.params

other_kinds : I64 ≡ I32 → ⊥
other_kinds e = cc e

pub wide_is_not_called : IsCalledAs giving_back 4096 wide_export → ⊥
wide_is_not_called h =
    let g : Function = record { name = f; params = []; locals = []; body = no_stmts } in
    other_kinds (ap kind_of (h.typed 0 given (omega arith) (first giving_back.functions g) refl))

typed : IsTypedAs giving_back (translation giving_back 4096) 0
typed g is = by g (cc is)
  where
    by : (g : Function) → first giving_back.functions g ≡ g → type_of_function (translation giving_back 4096) 0 ≡ Some (int_type (length g.params) (signature_of g).result)
    by g e = subst (λ (g : Function). type_of_function (translation giving_back 4096) 0 ≡ Some (int_type (length g.params) (signature_of g).result)) e refl

pub narrow_is_called : IsCalledAs giving_back 4096 (translation giving_back 4096)
narrow_is_called = record {
  functions = refl;
  globals = refl;
  memories = refl;
  tables = refl;
  exported = refl;
  typed = λ k d lt. at k d lt;
  no_memory = refl;
  no_bytes = refl;
  no_start = refl;
}
  where
    at : (k : ℕ) (d : Exported) → k < 1 → IsTypedAs giving_back (translation giving_back 4096) (get_or (given ∷ []) k d).function
    at zero d lt = typed
    at (suc k) d lt = absurd (omega arith)
