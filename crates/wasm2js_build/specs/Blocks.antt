-- The statements of a block that grows.
use Rattle.std.specs.Prelude.{List, map}
use Rattle.sem_words.specs.Lists.{list_items}
use Rattle.asm_lang.specs.Modules.{Stmt}
use Rattle.asm_tree.specs.Views.{stmt_view}
use Rattle.wasm2js_build.specs.declared.block.Block.{Block}

abbrev pub statements_of : Block → List Stmt
statements_of b = map stmt_view (list_items b.statements)
