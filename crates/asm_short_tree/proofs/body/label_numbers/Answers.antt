use Rattle.std.proofs.Common.{rules, ap, ◌∙◌, zero-add}
use Rattle.std.specs.Prelude.{[]}
use Rattle.asm_short_lang.specs.Sequence.{first_names}
use Rattle.asm_short_names.specs.Excluding.{IsExactly}
use Rattle.asm_short_tree.proofs.Bare.{none_left_out}
use Rattle.asm_short_tree.proofs.body.label_numbers.Goals as goal

pub returns : goal.returns
returns c = c.in_ok-numbers.ensures [] (none_left_out _ (search rules)) ∙ ap (first_names []) (c.in_ok-count_stmts.ensures ∙ zero-add _)
