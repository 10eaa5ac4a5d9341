use Rattle.asm_tree.specs.Views.{module_view}
use Rattle.asm_run.proofs.Exported.{accepted_first}
use Rattle.asm_run.proofs.exports.exports_of.Goals as goal

pub returns-clause-first : goal.returns-clause-first
returns-clause-first c = accepted_first (module_view c.args.checked.now) _ c.«module».ensures.accepted c.exports.ensures
