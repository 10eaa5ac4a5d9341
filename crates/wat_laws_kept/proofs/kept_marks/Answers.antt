use Rattle.wat_laws_kept.proofs.Rows.{same_rows}
use Rattle.wat_laws_kept.proofs.Modules.{same_module}
use Rattle.wat_laws_kept.proofs.kept_marks.Goals as goal

pub returns-clause-rows : goal.returns-clause-rows
returns-clause-rows c = same_rows

pub returns-clause-modules : goal.returns-clause-modules
returns-clause-modules c = same_module
