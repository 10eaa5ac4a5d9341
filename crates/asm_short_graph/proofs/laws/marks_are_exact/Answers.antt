use Rattle.asm_short_graph.proofs.Staying.{functions_kept, tables_kept, functions_within}
use Rattle.asm_short_graph.proofs.laws.marks_are_exact.Goals as goal

pub returns-clause-functions : goal.returns-clause-functions
returns-clause-functions c = functions_kept

pub returns-clause-tables : goal.returns-clause-tables
returns-clause-tables c = tables_kept

pub returns-clause-room : goal.returns-clause-room
returns-clause-room c = functions_within
