use Rattle.std.proofs.Common.{sym, ◌∙◌, refl}
use Rattle.asm_grammar_decls.proofs.heading.first_param.Goals as goal

pub returns-then-is : goal.returns-then-is
returns-then-is c = rw (sym c.is.ensures ∙ c.if-is.true) refl
