use Rattle.std.proofs.Common.{◌∙◌}
use Rattle.asm_grammar_decls.specs.declared.want.Ending.TheVariants.{Written, Missing, Wrong}
use Rattle.asm_grammar_decls.specs.Variables.{variables_of}
use Rattle.asm_grammar_decls.proofs.Classes.{local_ends}
use Rattle.asm_grammar_decls.proofs.locals.after_local.Goals as goal

pub returns-in-Written : goal.returns-in-Written
returns-in-Written c = λ k. local_ends c.args.token.now c.end_before.result Written (variables_of c.args.locals) k c.in-Written.is c.end_before.ensures c.in_default.not-Comma

pub returns-in-Missing : goal.returns-in-Missing
returns-in-Missing c = λ k. c.at_locals.ensures k ∙ local_ends c.args.token.now c.end_before.result Missing (variables_of c.args.locals) k c.in-Missing.is c.end_before.ensures c.in_default.not-Comma

pub returns-in-Wrong : goal.returns-in-Wrong
returns-in-Wrong c = λ k. local_ends c.args.token.now c.end_before.result Wrong (variables_of c.args.locals) k c.in-Wrong.is c.end_before.ensures c.in_default.not-Comma
