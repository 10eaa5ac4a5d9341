use Rattle.std.proofs.Common.{◌∙◌}
use Rattle.asm_grammar_nodes.specs.Views.{lexeme_view}
use Rattle.asm_grammar_decls.specs.Variables.{variables_of}
use Rattle.asm_grammar_outside.proofs.Classes.{ok_map, no_members}
use Rattle.asm_grammar_outside.proofs.globals.value.Goals as goal

pub returns-in_default : goal.returns-in_default
returns-in_default c =
    ok_map c.initial_value.result (λ r is h. is h ∙ no_members c.args.token.now.class (lexeme_view c.args.token.now) h (variables_of c.args.variables.now) (lexeme_view c.args.name) c.in_default.not-OpenBracket) c.initial_value.ensures
