use Rattle.std.proofs.Common.{◌≡◌, ◌++◌, drop, map}
use Rattle.sem_words.specs.Lists.{list_items}
use Rattle.asm_tree.specs.Views.{param_view}
use Rattle.wasm2js_translation.specs.Helpers as helpers
use Rattle.wasm2js_nodes.specs.Names.{name_view}
use Rattle.wasm2js_nodes.proofs.statements.params_of.Given as goal

abbrev pub invariant-loop-name : goal.invariant-loop-name
invariant-loop-name l = map param_view (list_items l.params) ++ map helpers.int_param (map name_view (drop l.name-index l.names)) ≡ map helpers.int_param (map name_view l.names)
