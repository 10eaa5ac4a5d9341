use Rattle.std.proofs.Common.{◌≡◌, ◌++◌, drop}
use Rattle.asm_tree.specs.Views.{texts_view}
use Rattle.name_slots.specs.Names.{names_in}
use Rattle.asm_run.proofs.globals.names_of.Given as goal

abbrev pub invariant-loop-text : goal.invariant-loop-text
invariant-loop-text l = names_in l.names.items ++ texts_view (drop l.text-index l.texts) ≡ texts_view l.texts
