use Rattle.std.proofs.Common.{◌∙◌}
use Rattle.asm_lang.specs.Lexemes.{other, signs}
use Rattle.asm_grammar_decls.proofs.Entries.{long_class}
use Rattle.asm_grammar_decls.proofs.lexeme.sign_class.Goals as goal

pub returns-in-len2-up : goal.returns-in-len2-up
returns-in-len2-up c = c.class_in.ensures ∙ long_class signs c.args.text.now other c.in-len2-up.len_at_least
