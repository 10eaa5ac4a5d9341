use Rattle.std.proofs.Common.{ℕ, List, map, ap, ◌∙◌}
use Rattle.sem_words.specs.Lists.{list_items}
use Rattle.sem_words.specs.declared.list.List.{List as Listed}
use Rattle.asm_tree.specs.declared.tree.Module.{Module as Tree}
use Rattle.asm_tree.specs.declared.tree.Function.{Function}
use Rattle.asm_tree.specs.declared.tree.Table.{Table}
use Rattle.asm_tree.specs.Views.{module_view, function_view, table_view}
use Rattle.asm2wasm_lang.specs.Tables.{members_of}
use Rattle.asm_run_code.specs.Modules.{flat}
use Rattle.asm_run_emit_bodies.specs.declared.modules.Flat.{Flat}
use Rattle.asm_run_emit_bodies.specs.Flats.{flat_view}
use Rattle.asm_run_emit_bodies.proofs.modules.codes_by.Goals as goal

pub returns-clause-functions : goal.returns-clause-functions
returns-clause-functions c =
    ap (λ (l : List Flat). map flat_view l) c.from_vec.ensures
    ∙ c.in_ok-functions.ensures
    ∙ ap (λ (fs : List Function). map (flat (module_view c.args.names.now)) (map function_view fs)) c.as_slice.ensures
    ∙ ap (λ (m : Tree). map (flat (module_view c.args.names.now)) (map function_view (list_items m.functions))) c.module-module.ensures

pub returns-clause-tables : goal.returns-clause-tables
returns-clause-tables c =
    ap (λ (l : List (Listed ℕ)). map (λ (t : Listed ℕ). list_items t) l) c.from_vec-2.ensures
    ∙ c.in_ok-tables.ensures
    ∙ ap (λ (ts : List Table). map (members_of (module_view c.args.names.now)) (map table_view ts)) c.as_slice-2.ensures
    ∙ ap (λ (m : Tree). map (members_of (module_view c.args.names.now)) (map table_view (list_items m.tables))) c.module-module.ensures
