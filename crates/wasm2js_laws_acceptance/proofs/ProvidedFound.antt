-- What a declared name of a translated module means.
use Rattle.std.proofs.Common.{◌≡◌, Bool, true, false, ◌||◌, List, [], ◌∷◌, ◌++◌, map, sym, ap, ◌∙◌}
use Rattle.std.specs.Prelude.{codes, bytes_eq}
use Rattle.std.specs.List.{list_all}
use Rattle.wasm_lang.specs.Modules.{WasmModule}
use Rattle.asm_lang.specs.Modules.{Stmt, Variable, Function, Table}
use Rattle.asm_lang_valid.specs.Scope.{init_meaning, a_function, a_table, is_in, module_meaning, Meaning}
use Rattle.asm_lang_valid.specs.Typing.{named}
use Rattle.asm_lang_valid.specs.Typed.{scope_of}
use Rattle.wasm2js_translation.specs.Names.{Name, spelled}
use Rattle.wasm2js_translation.proofs.Spelling.{spellings_are_usable}
use Rattle.wasm2js_translation.specs.Helpers.{function_of}
use Rattle.wasm2js_translation.specs.Modules.{stdlib_name, foreign_name, heap_name, variables_of, functions_of, translated}
use Rattle.wasm2js_translation.specs.Tables.{tables_for}
use Rattle.wasm2js_laws_scopes.specs.Laws.{is_own}
use Rattle.wasm2js_laws_scopes.proofs.Declared.{module_names_are_seen}
use Rattle.wasm2js_laws_acceptance.proofs.ProvidedEntries.{Entry, variable_entry, function_entry, table_entry, entries, entry_means, In, in_left, in_right, in_map}
use Rattle.wasm2js_laws_acceptance.proofs.ProvidedDeclared.{declared_names, entries_are_named, declared_names_rise}

second_false : (a b : Bool) → (a || b) ≡ false → b ≡ false
second_false true b h = absurd (cc h)
second_false false b h = h

pub no_parameter : (n : Name) → is_in (spelled n) (stdlib_name ∷ foreign_name ∷ heap_name ∷ []) ≡ false
no_parameter n = second_false (bytes_eq (codes "wasm") (spelled n)) _ (spellings_are_usable n).is_not_own

module _ (w : WasmModule) where
  found : (e : Entry) (n : Name) → In e (entries (translated w)) → e.name ≡ spelled n → module_meaning (translated w) (spelled n) ≡ e.meaning
  found e n h is =
      ap (module_meaning (translated w)) (sym is)
      ∙ entry_means (translated w) (declared_names w) e (entries_are_named w) (declared_names_rise w) (ap (λ s. is_in s (stdlib_name ∷ foreign_name ∷ heap_name ∷ [])) is ∙ no_parameter n) h

  pub variable_found : (v : Variable) (n : Name) → In v (variables_of w) → v.name ≡ spelled n → module_meaning (translated w) (spelled n) ≡ init_meaning (translated w) v.init
  variable_found v n h is =
      found (variable_entry (translated w) v) n
      (in_left (variable_entry (translated w) v) (map (variable_entry (translated w)) (variables_of w)) (map function_entry (functions_of w) ++ map table_entry (tables_for w))
      (in_map (variable_entry (translated w)) v (variables_of w) h))
      is

  pub function_found : (f : Function) (n : Name) → In f (functions_of w) → f.name ≡ spelled n → module_meaning (translated w) (spelled n) ≡ a_function f
  function_found f n h is =
      found (function_entry f) n
      (in_right (function_entry f) (map (variable_entry (translated w)) (variables_of w)) (map function_entry (functions_of w) ++ map table_entry (tables_for w))
      (in_left (function_entry f) (map function_entry (functions_of w)) (map table_entry (tables_for w)) (in_map function_entry f (functions_of w) h)))
      is

  pub table_found : (t : Table) (n : Name) → In t (tables_for w) → t.name ≡ spelled n → module_meaning (translated w) (spelled n) ≡ a_table t
  table_found t n h is =
      found (table_entry t) n
      (in_right (table_entry t) (map (variable_entry (translated w)) (variables_of w)) (map function_entry (functions_of w) ++ map table_entry (tables_for w))
      (in_right (table_entry t) (map function_entry (functions_of w)) (map table_entry (tables_for w)) (in_map table_entry t (tables_for w) h)))
      is

  -- in a function that declares names of its own alone
  pub is_seen : (name : Name) (ps ls : List Name) (ss : List Stmt) → list_all is_own ps ≡ true → list_all is_own ls ≡ true → (n : Name) (o : Meaning) → is_own n ≡ false
      → module_meaning (translated w) (spelled n) ≡ o → named (scope_of (translated w) (function_of name ps ls ss)) (spelled n) ≡ o
  is_seen name ps ls ss p l n o k h = module_names_are_seen (translated w) name ps ls ss n p l k ∙ h
