-- The rows of a module: those of its global variables, of its functions and of its tables.
use Rattle.std.proofs.Common.{◌≡◌, ℕ, ◌+◌, ◌++◌, List, [], length, map, None, sym, ap, subst, ◌∙◌}
use Rattle.std.specs.Prelude.{Result, Err, MatchResult}
use Rattle.sem_words.specs.Lists.{list_items}
use Rattle.asm_lang.specs.Modules as modules
use Rattle.asm_tree.specs.declared.tree.Module.{Module}
use Rattle.asm_tree.specs.declared.tree.Global_.{Global_}
use Rattle.asm_tree.specs.declared.tree.Function.{Function}
use Rattle.asm_tree.specs.declared.tree.Table.{Table}
use Rattle.asm_tree.specs.Views.{module_view, global_view, function_view, table_view}
use Rattle.asm_lang_valid.specs.declared.rule.Met.{Met}
use Rattle.asm_lang_valid.specs.Rows.{first, functions_count, functions_at, tables_at}
use Rattle.asm_lang_valid.specs.TypeRows.{globals_rows, functions_rows, tables_rows, type_rows}
use Rattle.asm_validate_names.proofs.Found.{first_after}
use Rattle.asm_validate_names.proofs.Bindings.{globals_length}
use Rattle.asm_validate_names.specs.declared.refusal.AsmRefusal.{AsmRefusal}
use Rattle.asm_validate_names.specs.Refusals.{IsRow}
use Rattle.asm_validate_names.proofs.Order.{row_same, row_before, row_rest}

pub err_exactly : (r : Result (Unit {0}) AsmRefusal) (rows : List Met) (f : AsmRefusal) → r ≡ Err f → IsRow rows f → MatchResult r (λ u. rows ≡ []) (IsRow rows)
err_exactly r rows f h k = subst (λ r. MatchResult r (λ u. rows ≡ []) (IsRow rows)) (sym h) k

-- `code` is the module, which is `home` too
module _ (home code : Module) (same : home ≡ code) (gs : List Global_) (globals : gs ≡ list_items home.globals) where
  abbrev m : modules.Module
  m = module_view code

  globals_same : globals_rows m 1 m.globals ≡ globals_rows (module_view home) 1 (map global_view gs)
  globals_same =
      ap (λ (h : Module). globals_rows (module_view h) 1 (map global_view (list_items h.globals))) (sym same)
      ∙ ap (λ l. globals_rows (module_view home) 1 (map global_view l)) (sym globals)

  pub in_globals : (f : AsmRefusal) → IsRow (globals_rows (module_view home) 1 (map global_view gs)) f → IsRow (type_rows m) f
  in_globals f h = row_before (globals_rows m 1 m.globals) _ f (row_same _ _ f (ap first globals_same) h)

  module _ (none : first (globals_rows (module_view home) 1 (map global_view gs)) ≡ None) (at : ℕ) (next : at ≡ 1 + length gs) (fs : List Function) (functions : fs ≡ list_items home.functions) where
    functions_are : list_items code.functions ≡ fs
    functions_are = ap (λ (h : Module). list_items h.functions) (sym same) ∙ sym functions

    at_is : functions_at m ≡ at
    at_is =
        ap (λ (h : Module). 1 + length (map global_view (list_items h.globals))) (sym same)
        ∙ ap (λ l. 1 + length (map global_view l)) (sym globals)
        ∙ ap (λ k. 1 + k) (globals_length gs)
        ∙ sym next

    after_globals : first (type_rows m) ≡ first (functions_rows m at (map function_view fs) ++ tables_rows m (tables_at m) m.tables)
    after_globals =
        first_after (globals_rows m 1 m.globals) _ (ap first globals_same ∙ none)
        ∙ ap (λ k. first (functions_rows m k m.functions ++ tables_rows m (tables_at m) m.tables)) at_is
        ∙ ap (λ l. first (functions_rows m at (map function_view l) ++ tables_rows m (tables_at m) m.tables)) functions_are

    pub in_functions : (f : AsmRefusal) → IsRow (functions_rows m at (map function_view fs)) f → IsRow (type_rows m) f
    in_functions f h = row_rest (type_rows m) (functions_rows m at (map function_view fs)) _ f after_globals h

    module _ (done : first (functions_rows m at (map function_view fs)) ≡ None) (mid : ℕ) (then : mid ≡ at + functions_count (map function_view fs)) (ts : List Table) (tables : ts ≡ list_items home.tables) where
      tables_are : list_items code.tables ≡ ts
      tables_are = ap (λ (h : Module). list_items h.tables) (sym same) ∙ sym tables

      mid_is : tables_at m ≡ mid
      mid_is =
          ap (λ k. k + functions_count m.functions) at_is
          ∙ ap (λ l. at + functions_count (map function_view l)) functions_are
          ∙ sym then

      pub after_functions : first (type_rows m) ≡ first (tables_rows m mid (map table_view ts))
      after_functions =
          after_globals
          ∙ first_after (functions_rows m at (map function_view fs)) _ done
          ∙ ap (λ k. first (tables_rows m k m.tables)) mid_is
          ∙ ap (λ l. first (tables_rows m mid (map table_view l))) tables_are

      pub in_tables : (f : AsmRefusal) → IsRow (tables_rows m mid (map table_view ts)) f → IsRow (type_rows m) f
      in_tables f h = row_same (type_rows m) _ f after_functions h
