use Rattle.wasm_laws_trees.proofs.Read.{is_read_again, is_well_nested}
use Rattle.wasm_laws_trees.proofs.Counted.{size_bounds_length, levels_are_kept}
use Rattle.wasm_laws_trees.proofs.spellings.Goals as goal

pub returns-clause-again : goal.returns-clause-again
returns-clause-again c = is_read_again

pub returns-clause-nested : goal.returns-clause-nested
returns-clause-nested c = is_well_nested

pub returns-clause-size : goal.returns-clause-size
returns-clause-size c = size_bounds_length

pub returns-clause-levels : goal.returns-clause-levels
returns-clause-levels c = levels_are_kept
