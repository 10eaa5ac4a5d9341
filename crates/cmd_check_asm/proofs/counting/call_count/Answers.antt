use Rattle.std.proofs.Common.{length, sym, ap, ◌∙◌}
use Rattle.std.proofs.lemmas.List.{length-map}
use Rattle.asm_tree.specs.Views.{module_view}
use Rattle.asm_validate_limits.specs.Called.{foreign_view}
use Rattle.cmd_check_asm.proofs.counting.call_count.Goals as goal

pub returns : goal.returns
returns c = sym (length-map c.foreign_calls.result.now (foreign_view (module_view c.args.checked.now))) ∙ ap length c.foreign_calls.ensures.calls
