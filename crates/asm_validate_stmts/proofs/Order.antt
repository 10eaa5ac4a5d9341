-- What the proofs of rows after one another stand on.
use Rattle.std.proofs.Common.{append-nil}
use Rattle.asm_tree.proofs.Views.{views}
use Rattle.asm_validate_names.proofs.Found.{first_before, first_after}
use Rattle.asm_validate_names.proofs.Order.{row_before}

pub ruleset order = (views, row_before, first_before, first_after, append-nil)
