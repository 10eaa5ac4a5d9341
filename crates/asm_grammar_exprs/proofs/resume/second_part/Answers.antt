use Rattle.std.proofs.Common.{◌∙◌}
use Rattle.asm_lang.specs.Trees.{one_expr, no_expr}
use Rattle.asm_lang.specs.Machine.{more_exprs}
use Rattle.std.proofs.Common.{ap}
use Rattle.asm_grammar_nodes.specs.Tall.{tall_view}
use Rattle.asm_grammar_exprs.proofs.Steps.{ok_map}
use Rattle.asm_grammar_exprs.proofs.resume.second_part.Goals as goal

pub returns : goal.returns
returns c = ok_map c.next_item.result (λ r is k t. is k t (one_expr (tall_view c.args.expr) no_expr) (c.in_ok-parts.ensures ∙ ap (λ es. more_exprs es (tall_view c.args.expr)) c.new.ensures)) c.next_item.ensures.goes_on
