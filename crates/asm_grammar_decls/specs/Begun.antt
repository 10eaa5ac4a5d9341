-- Where a mark may begin.
use Rattle.std.specs.Prelude.{List, Option, Some, None, if◌then◌else◌}
use Rattle.asm_lang.specs.Lexemes.{Lexeme, named}
use Rattle.asm_lang.specs.Trees.{ParamTree}
use Rattle.asm_lang.specs.Machine.{State, Step, stuck, feed, meets}
use Rattle.asm_grammar_nodes.specs.declared.lexeme.Lexeme.{Lexeme as CodeLexeme}
use Rattle.asm_grammar_nodes.specs.Views.{lexeme_view}
use Rattle.asm_grammar_decls.specs.declared.marks.MarkPlace.TheVariants.{Equals}
use Rattle.asm_grammar_decls.specs.Variables.{in_mark}

-- where the mark of this parameter must begin, or all parameters have theirs
abbrev pub begun_mark : Option CodeLexeme → List Lexeme → List ParamTree → (List ParamTree → State) → Lexeme → Step
begun_mark None ps ds k t = feed (k ds) t
begun_mark (Some p) ps ds k t = if meets (named p.text.now) t then in_mark Equals (lexeme_view p) ps ds k else stuck t
