use Rattle.std.proofs.Common.{sym, ◌∙◌}
use Rattle.wat_grammar.proofs.Rows.{code_rows}
use Rattle.wat_grammar.proofs.stack.Stack.begin.Goals as goal

pub returns-then-is_code-clause-begun : goal.returns-then-is_code-clause-begun
returns-then-is_code-clause-begun c = let e = code_rows c.args.rule (sym c.is_code.ensures ∙ c.if-is_code.true) in rw e c.begin_instruction.ensures.begun
