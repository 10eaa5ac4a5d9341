use Rattle.std.proofs.Common.{◌≡◌, map, take}
use Rattle.sem_words.specs.Lists.{list_items}
use Rattle.asm_tree.specs.Views.{expr_view}
use Rattle.wasm2js_nodes.specs.Names.{name_view}
use Rattle.wasm2js_functions.specs.Sending.{sent_word}
use Rattle.wasm2js_functions.proofs.wrappers.sent_words.Given as goal

abbrev pub invariant-loop-name : goal.invariant-loop-name
invariant-loop-name l = map expr_view (list_items l.sent) ≡ map sent_word (map name_view (take l.name-index l.names))
