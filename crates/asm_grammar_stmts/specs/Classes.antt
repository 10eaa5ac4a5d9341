-- Classes of tokens that the code tells apart.
use Rattle.std.specs.Prelude.{Option, Some, None}
use Rattle.asm_lang.specs.Lexemes.{Class, open_paren, close_paren, open_brace, close_brace, semicolon, colon, while_word, else_word, case_word, default_word}
use Rattle.asm_grammar_stmts.specs.declared.classes.Sign.{Sign}
use Rattle.asm_grammar_stmts.specs.declared.classes.Sign.TheVariants as signs
use Rattle.asm_grammar_stmts.specs.declared.classes.ListEnd.{ListEnd}
use Rattle.asm_grammar_stmts.specs.declared.classes.ListEnd.TheVariants as list_ends

abbrev pub sign_class : Sign → Class
sign_class signs.OpenParen = open_paren
sign_class signs.CloseParen = close_paren
sign_class signs.OpenBrace = open_brace
sign_class signs.Semicolon = semicolon
sign_class signs.Colon = colon
sign_class signs.While = while_word
sign_class signs.Else = else_word

abbrev pub end_class : ListEnd → Class
end_class list_ends.Brace = close_brace
end_class list_ends.Case = case_word
end_class list_ends.Default = default_word

-- what ends the statements of a list or of a clause
abbrev pub list_end : Class → Option ListEnd
list_end close_brace = Some list_ends.Brace
list_end case_word = Some list_ends.Case
list_end default_word = Some list_ends.Default
list_end _ = None
