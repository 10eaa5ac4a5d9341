-- The types of a module in the profile take few values.
use Rattle.std.proofs.Common.{◌≡◌, ℕ, zero, suc, ◌≤◌, ◌*◌, false, List, [], ◌∷◌, length, Option, Some, None, map, ap, ◌∙◌, subst, arith}
use Rattle.std.specs.Prelude.{nat_lt}
use Rattle.std.proofs.lemmas.Bool.Decides.{nat_tests}
use Rattle.wasm_lang.specs.Modules.{FunctionType, WasmModule}
use Rattle.wasm_lang_valid.specs.Measures.{measures_of}
use Rattle.wasm_lang_valid.specs.ModuleRules.{function_types, global_types}
use Rattle.wasm_lang_valid.specs.Profile.{too_many, params_past, names_past, most_functions, most_params, most_globals, most_slots, most_entries, most_cells, table_length, padded, outside_profile}
use Rattle.wasm2js_lang.proofs.Padded.{within_rows, where_none}
use Rattle.sem_words.specs.Lists.{list_items}
use Rattle.wasm_tree.specs.declared.module.FuncType.{FuncType}
use Rattle.wasm_tree.specs.declared.module.Module.{Module}
use Rattle.wasm_tree.specs.Views.{type_of, module_of}
use Rattle.wasm2js_stubs.specs.Few.{TakeFew}

at_most : (a b : ℕ) → nat_lt a b ≡ false → b ≤ a
at_most a b h = grind (arith, nat_tests)

some_same : (a b : FunctionType) → Some a ≡ Some b → a ≡ b
some_same a b h = cc h

all_few : (ts : List FunctionType) (o : Option ℕ) → params_past ts o ≡ None → TakeFew ts
all_few [] o none i t h = cc h
all_few (u ∷ ts) o none zero t h =
    let few : length u.params ≤ 1000 = at_most 1000 (length u.params) (where_none (nat_lt most_params (length u.params)) (length u.params) (params_past ts o) none).0 in
    subst (λ (t : FunctionType). length t.params ≤ 1000) (some_same u t h) few
all_few (u ∷ ts) o none (suc i) t h = all_few ts o (where_none (nat_lt most_params (length u.params)) (length u.params) (params_past ts o) none).1 i t h

pub types_take_few : (w : WasmModule) → outside_profile w ≡ None → TakeFew w.types
types_take_few w within =
    let cells = too_many most_cells ((measures_of w).call_types * padded (table_length w)) (names_past w.imports) in
    let entries = too_many most_entries (table_length w) cells in
    let slots = too_many most_slots (measures_of w).slots entries in
    let globals = too_many most_globals (length (global_types w)) slots in
    let rows = within_rows w within in
    all_few w.types globals (where_none (nat_lt most_functions (length (function_types w))) (length (function_types w)) (params_past w.types globals) rows.small).1

pub types_are : (given : Module) (w : WasmModule) (types : List FuncType) → types ≡ list_items given.types → module_of given ≡ w → map type_of types ≡ w.types
types_are given w types e is = ap (map type_of) e ∙ ap (λ (w : WasmModule). w.types) is
