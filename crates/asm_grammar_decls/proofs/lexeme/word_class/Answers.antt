use Rattle.std.proofs.Common.{ap, ◌∙◌}
use Rattle.asm_lang.specs.Lexemes.{class_in, identifier, reserved_words}
use Rattle.asm_grammar_decls.proofs.Entries.{beginning_class}
use Rattle.asm_grammar_decls.proofs.lexeme.word_class.Goals as goal

pub returns-in-len1-up : goal.returns-in-len1-up
returns-in-len1-up c =
    c.class_in.ensures
    ∙ ap (λ es. class_in es c.args.text.now identifier) c.words_from.ensures
    ∙ beginning_class reserved_words c.args.text.now _ identifier c.in-len1-up.len_at_least
