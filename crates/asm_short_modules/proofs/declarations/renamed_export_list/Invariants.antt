use Rattle.std.proofs.Common.{◌≡◌, map, take}
use Rattle.sem_words.specs.Lists.{list_items}
use Rattle.asm_tree.specs.declared.tree.Export.{Export}
use Rattle.asm_tree.specs.Views.{export_view}
use Rattle.asm_short_tree.specs.Looking.{declared_by}
use Rattle.asm_short_modules.specs.NewDeclared.{export_with}
use Rattle.asm_short_modules.proofs.declarations.renamed_export_list.Given as goal

abbrev pub invariant-loop-export : goal.invariant-loop-export
invariant-loop-export l = map export_view (list_items l.list) ≡ map (λ (x : Export). export_with (declared_by l.names) (export_view x)) (take l.export-index l.exports)
