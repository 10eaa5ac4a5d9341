use Rattle.std.proofs.Common.{◌≡◌, drop}
use Rattle.asm_lang.specs.Lexemes.{class_in}
use Rattle.asm_grammar_nodes.specs.Views.{class_view}
use Rattle.asm_grammar_decls.specs.Tables.{entries}
use Rattle.asm_grammar_decls.proofs.lexeme.class_in.Given as goal

abbrev pub invariant-loop-spelling : goal.invariant-loop-spelling
invariant-loop-spelling l = class_in (entries (drop l.spelling-index l.table)) l.text (class_view l.last) ≡ class_in (entries l.table) l.text (class_view l.last)
