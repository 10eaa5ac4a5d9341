-- The first row of rows after one another.
use Rattle.asm_validate_names.proofs.Found.{first_before, first_after}

pub ruleset sequences = (first_before, first_after)
