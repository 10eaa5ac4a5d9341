use Rattle.std.proofs.Common.{◌≡◌, ℕ, map, IfOk, subst}
use Rattle.sem_words.specs.Lists.{list_items}
use Rattle.sem_words.specs.declared.list.List.{List as Listed}
use Rattle.asm_tree.specs.declared.tree.Module.{Module as Tree}
use Rattle.asm_tree.specs.Views.{module_view, function_view, table_view}
use Rattle.asm2wasm_lang.specs.Tables.{members_of}
use Rattle.asm_run_code.specs.Modules.{flat}
use Rattle.asm_run_emit_bodies.specs.declared.modules.Codes.{Codes}
use Rattle.asm_run_emit_bodies.specs.Flats.{flat_view}
use Rattle.asm_run_emit_bodies.proofs.modules.codes_of.Goals as goal

pub returns-in-Ok-clause-functions : goal.returns-in-Ok-clause-functions
returns-in-Ok-clause-functions c =
    subst (λ (m : Tree). IfOk c.codes_by.result (λ (codes : Codes). map flat_view (list_items codes.functions) ≡ map (flat (module_view m)) (map function_view (list_items m.functions)))) (rw c.in-Ok.is at c.new.ensures) c.codes_by.ensures.functions

pub returns-in-Ok-clause-tables : goal.returns-in-Ok-clause-tables
returns-in-Ok-clause-tables c =
    subst (λ (m : Tree). IfOk c.codes_by.result (λ (codes : Codes). map (λ (t : Listed ℕ). list_items t) (list_items codes.tables) ≡ map (members_of (module_view m)) (map table_view (list_items m.tables)))) (rw c.in-Ok.is at c.new.ensures) c.codes_by.ensures.tables
