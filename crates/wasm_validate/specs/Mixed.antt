-- The names that were imported so far, as functions and as globals.
use Rattle.std.specs.Prelude.{◌≡◌, ℕ, nat_eq, ◌&&◌, List, Bool}
use Rattle.std.specs.Borrow.{Bor}
use Rattle.std.specs.List.{list_any}
use Rattle.std.specs.Cmp.Lexicographic.{pointwise}
use Rattle.wasm_lang.specs.Modules.{Imported}
use Rattle.wasm_lang_valid.specs.Measures.{is_imported_so, is_function_import, is_global_import}
use Rattle.wasm_validate.specs.declared.mixed.Names.{Names}

abbrev pub Name : Type 0
Name = Bor (List ℕ) × Bor (List ℕ)

-- this is the import's name
abbrev pub is_named : Imported → Name → Bool
is_named i n = pointwise nat_eq i.module_name n.0.now && pointwise nat_eq i.name n.1.now

-- .. and is among these
abbrev pub holds : List Name → Imported → Bool
holds names i = list_any (is_named i) names

pub record AreNames (n : Names) (before : List Imported) : Type 0 where
  pub functions : (i : Imported) → holds n.functions.keys i ≡ is_imported_so is_function_import i before
  pub globals : (i : Imported) → holds n.globals.keys i ≡ is_imported_so is_global_import i before
