use Rattle.std.proofs.Common.{rules}
use Rattle.std.specs.Fmt.{digits}
use Rattle.bridge_lang.specs.AsmRows.{row_name}
use Rattle.bridge_lang.specs.WasmRows.{binary_row_name, wat_row_name, beyond_name, link_row_name}
use Rattle.bridge_lang.proofs.laws.numbered_rows.Goals as goal

pub returns-clause-asm : goal.returns-clause-asm
unfolding row_name digits
returns-clause-asm c row = search rules

pub returns-clause-binary : goal.returns-clause-binary
unfolding binary_row_name digits
returns-clause-binary c row = search rules

pub returns-clause-wat : goal.returns-clause-wat
unfolding wat_row_name digits
returns-clause-wat c row = search rules

pub returns-clause-beyond : goal.returns-clause-beyond
unfolding beyond_name digits
returns-clause-beyond c row = search rules

pub returns-clause-linked : goal.returns-clause-linked
unfolding link_row_name digits
returns-clause-linked c row = search rules
