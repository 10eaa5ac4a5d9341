-- All that the functions of a module are given.
use Rattle.std.proofs.Common.{◌≡◌, ℕ, List, length, Option, Some, None, refl, sym, ◌∙◌}
use Rattle.std.specs.Prelude.{slice_get}
use Rattle.wasm_lang.specs.declared.types.ValType.{ValType}
use Rattle.wasm_lang.specs.Modules.{FunctionType, WasmModule}
use Rattle.wasm_lang_valid.specs.ModuleRules.{function_types, type_of_function}
use Rattle.wasm_lang_valid.specs.Typing.{type_of}
use Rattle.wasm2js_translation.specs.Names.{numbered, function}
use Rattle.wasm2js_translation.specs.Bodies.{body_stmts}
use Rattle.wasm2js_translation.specs.Modules.{param_names, context_of}
use Rattle.wasm2js_translation.specs.Rooms.{body_room, declared_names}
use Rattle.wasm2js_translation.specs.Tables.{cell_count}
use Rattle.wasm_lang_valid.specs.Profile.{memory_bytes}
use Rattle.wasm2js_laws_scopes.proofs.Declared.{variables_are_own}
use Rattle.wasm2js_laws_scopes.proofs.HeadNames.{heads_are_provided, memories_are_provided}
use Rattle.wasm2js_laws_acceptance.specs.ProvidedLaws.{ModulesProvide}
use Rattle.wasm2js_laws_acceptance.proofs.ProvidedWithin.{rows_are_within, few_bytes}
use Rattle.wasm2js_laws_acceptance.proofs.ProvidedSizes.{some_cells, few_cells}
use Rattle.wasm2js_laws_acceptance.proofs.ProvidedHelpers.{helpers_are_provided, memory_helpers_are_provided}
use Rattle.wasm2js_laws_acceptance.proofs.ProvidedGlobals.{globals_are_provided}
use Rattle.wasm2js_laws_acceptance.proofs.ProvidedFunctions.{functions_are_provided}
use Rattle.wasm2js_laws_acceptance.proofs.ProvidedTables.{tables_are_provided}

same_type : (w : WasmModule) (t u : FunctionType) (more : List ValType) (f : ℕ) → type_of (context_of w t more) f ≡ Some u → type_of_function w f ≡ Some u
same_type w t u more f e = by (slice_get (function_types w) f) refl
  where
    by : (o : Option ℕ) → slice_get (function_types w) f ≡ o → type_of_function w f ≡ Some u
    by None is = let none : type_of (context_of w t more) f ≡ None = rw is refl in cc (none, e)
    by (Some n) is =
        let there : type_of (context_of w t more) f ≡ slice_get w.types n = rw is refl in
        let here : type_of_function w f ≡ slice_get w.types n = rw is refl in
        here ∙ sym there ∙ e

pub modules_provide : ModulesProvide
modules_provide w h shaped k t more code =
    let c = context_of w t more in
    let r = body_room c code in
    let ps = param_names 0 t.params in
    let ls = declared_names r (length t.params) more in
    let ss = body_stmts (memory_bytes w) (cell_count w) c code in
    let own = variables_are_own t.params more r in
    let name = numbered function k in
    let within = rows_are_within w h.within in
    record {
      fixed = heads_are_provided w name ps ls ss own.0 own.1;
      memory = memories_are_provided w name ps ls ss own.0 own.1;
      helpers = helpers_are_provided w name ps ls ss own.0 own.1;
      memory_helpers = memory_helpers_are_provided w name ps ls ss own.0 own.1;
      globals = globals_are_provided w h name ps ls ss own.0 own.1;
      functions = λ f u e. functions_are_provided w h shaped name ps ls ss own.0 own.1 f u (same_type w t u more f e);
      tables = tables_are_provided w h shaped name ps ls ss own.0 own.1;
      few_bytes = few_bytes w within;
      some_cells = some_cells w;
      few_cells = few_cells w within;
    }
