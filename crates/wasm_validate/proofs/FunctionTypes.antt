-- A function of a valid module has a type exactly where its number exists.
use Rattle.std.proofs.Common.{◌≡◌, inl, inr, ℕ, ◌<◌, ◌≤◌, length, Option, Some, None, Bor}
use Rattle.std.specs.Prelude.{MatchOption}
use Rattle.std.proofs.lemmas.Option.{slice_get_cases}
use Rattle.wasm_lang.specs.Modules.{FunctionType, WasmModule}
use Rattle.wasm_tree.specs.declared.module.FuncType.{FuncType}
use Rattle.wasm_tree.specs.Views.{type_of}
use Rattle.wasm_lang_valid.specs.ModuleRules.{function_types, type_of_function}

pub found_or_past : (m : WasmModule) (f : ℕ) (o : Option (Bor FuncType)) → (f < length (function_types m) → (t : FunctionType) × (type_of_function m f ≡ Some t)) → MatchOption o (type_of_function m f ≡ None) (λ t. type_of_function m f ≡ Some (type_of t.now)) → MatchOption o (length (function_types m) ≤ f) (λ t. type_of_function m f ≡ Some (type_of t.now))
found_or_past m f (Some t) law h = h
found_or_past m f None law h =
    elim ((slice_get_cases (function_types m) f).1) [ inl there ↦ (let e = (law there.1).1 in cc) | inr past ↦ past.0 ]
