use Rattle.std.proofs.Common.{◌≡◌, ◌++◌, drop, map}
use Rattle.sem_words.specs.Lists.{list_items}
use Rattle.asm_tree.specs.Views.{local_view}
use Rattle.wasm2js_translation.specs.Helpers as helpers
use Rattle.wasm2js_nodes.specs.Names.{name_view}
use Rattle.wasm2js_nodes.proofs.statements.locals_of.Given as goal

abbrev pub invariant-loop-name : goal.invariant-loop-name
invariant-loop-name l = map local_view (list_items l.locals) ++ map helpers.zero_variable (map name_view (drop l.name-index l.names)) ≡ map helpers.zero_variable (map name_view l.names)
