use Rattle.gen_laws.specs.Modules.{recipe_module}
use Rattle.asm_tree.specs.Views.{module_view}
use Rattle.cmd_check_asm.proofs.Verdicts.{one_module}
use Rattle.bridge_cmd.proofs.Summaries.{only_memory}
use Rattle.bridge_cmd.proofs.generating.accepted.Goals as goal

pub returns-in-Ok : goal.returns-in-Ok
returns-in-Ok c = one_module c.args.text.now (module_view c.in-Ok.checked) (recipe_module c.args.count.functions) c.in-Ok.ensures.accepted c.requires

pub want_of_memory-requires : goal.want_of_memory-requires
want_of_memory-requires c = only_memory c.args.text.now (recipe_module c.args.count.functions) c.in-Err.fault c.requires c.in-Err.ensures.refused
