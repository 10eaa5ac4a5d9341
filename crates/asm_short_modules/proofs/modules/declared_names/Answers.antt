use Rattle.std.proofs.Common.{ap, map}
use Rattle.asm_lang.specs.Modules as plain
use Rattle.asm_tree.specs.Views.{texts_view, global_view}
use Rattle.asm_short_modules.specs.LeftModules.{functions_in, tables_in}
use Rattle.asm_short_modules.proofs.Gathered.{four_pushed}
use Rattle.asm_short_modules.proofs.modules.declared_names.Goals as goal

pub returns : goal.returns
returns c =
    four_pushed _ _ _ _ _ _ _ _ _ _ _ _ _ c.new-names.ensures.items
    c.in_ok-push_texts.ensures (ap texts_view c.as_slice.ensures)
    c.in_ok-push_globals.ensures (ap (λ l. map (λ (v : plain.Variable). v.name) (map global_view l)) c.as_slice-2.ensures)
    c.in_ok-push_functions.ensures (ap (λ l. map (λ (f : plain.Function). f.name) (functions_in l)) c.as_slice-3.ensures.value)
    c.in_ok-push_tables.ensures (ap (λ l. map (λ (t : plain.Table). t.name) (tables_in l)) c.as_slice-4.ensures.value)
