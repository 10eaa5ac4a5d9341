-- Statements of a list.
use Rattle.asm_lang.specs.Trees.{StmtTrees}
use Rattle.asm_grammar_nodes.specs.Tall.{stmts_tall_view}
use Rattle.asm_grammar_stmts.specs.declared.items.Items.{Items}

abbrev pub items_view : Items → StmtTrees
items_view ss = stmts_tall_view ss.stmts
