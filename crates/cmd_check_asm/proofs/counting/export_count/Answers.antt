use Rattle.std.proofs.Common.{length, sym, ap, ◌∙◌}
use Rattle.std.proofs.lemmas.List.{length-map}
use Rattle.asm_tree.specs.Views.{module_view}
use Rattle.asm_validate_facts.specs.Numbers.{export_said}
use Rattle.cmd_check_asm.proofs.Judging.{exports_length}
use Rattle.cmd_check_asm.proofs.counting.export_count.Goals as goal

pub returns : goal.returns
returns c = sym (length-map c.exports.result.now export_said) ∙ ap length c.exports.ensures ∙ exports_length (module_view c.args.checked.now)
