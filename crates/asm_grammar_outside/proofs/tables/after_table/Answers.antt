use Rattle.std.proofs.Common.{◌∙◌}
use Rattle.asm_grammar_decls.specs.declared.want.Ending.TheVariants.{Written, Missing, Wrong}
use Rattle.asm_grammar_outside.proofs.Classes.{table_ends}
use Rattle.asm_grammar_outside.proofs.tables.after_table.Goals as goal

pub returns-in-Written : goal.returns-in-Written
returns-in-Written c = λ h gs fs ts. table_ends c.args.token.now c.end_before.result Written h gs fs ts c.in-Written.is c.end_before.ensures c.in_default.not-Comma

pub returns-in-Missing : goal.returns-in-Missing
returns-in-Missing c = λ h gs fs ts. c.at_tables.ensures h gs fs ts ∙ table_ends c.args.token.now c.end_before.result Missing h gs fs ts c.in-Missing.is c.end_before.ensures c.in_default.not-Comma

pub returns-in-Wrong : goal.returns-in-Wrong
returns-in-Wrong c = λ h gs fs ts. table_ends c.args.token.now c.end_before.result Wrong h gs fs ts c.in-Wrong.is c.end_before.ensures c.in_default.not-Comma
