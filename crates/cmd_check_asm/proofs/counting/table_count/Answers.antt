use Rattle.std.proofs.Common.{length, sym, ap, ◌∙◌}
use Rattle.std.proofs.lemmas.List.{length-map}
use Rattle.sem_words.specs.Lists.{list_items}
use Rattle.asm_tree.specs.declared.tree.Module.{Module}
use Rattle.asm_tree.specs.Views.{module_view, table_view}
use Rattle.cmd_check_asm.proofs.counting.table_count.Goals as goal

pub returns : goal.returns
returns c = c.len.ensures ∙ sym (length-map (list_items c.module.result.now.tables) table_view) ∙ ap (λ (m : Module). length (module_view m).tables) c.module.ensures.given
