use Rattle.std.proofs.Common.{ℕ, List, map, ap, ◌∙◌}
use Rattle.asm_tree.specs.declared.tree.Module.{Module as Tree}
use Rattle.asm_tree.specs.declared.tree.Function.{Function}
use Rattle.asm_tree.specs.declared.tree.Table.{Table}
use Rattle.asm_tree.specs.Views.{module_view, function_view, table_view}
use Rattle.asm2wasm_lang.specs.Tables.{entries_of}
use Rattle.asm2wasm_tables.specs.Names.{function_names, entries_in}
use Rattle.asm2wasm_tables.proofs.Laid.{entries_are}
use Rattle.asm2wasm_tables.proofs.plan.TablePlan.of.Goals as goal

pub returns-clause-entries : goal.returns-clause-entries
returns-clause-entries c =
    let m = module_view c.module-module.result.now in
    c.from_vec-2.ensures ∙ c.in_ok-bases.ensures.entries
    ∙ ap (λ (ns : List (List ℕ)). entries_in ns (map table_view c.as_slice-2.result.now)) (c.in_ok-functions.ensures ∙ ap (λ (fs : List Function). function_names (map function_view fs)) c.as_slice.ensures)
    ∙ ap (λ (ts : List Table). entries_in (function_names m.functions) (map table_view ts)) c.as_slice-2.ensures
    ∙ entries_are m m.tables
    ∙ ap (λ (t : Tree). entries_of (module_view t)) c.module-module.ensures.given
