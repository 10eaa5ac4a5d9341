use Rattle.wasm_laws_widths.proofs.Deep.{depth_is_within}
use Rattle.wasm_laws_widths.proofs.Lesser.{wide_is_within}
use Rattle.wasm_laws_widths.proofs.Named.{named_locals_exist}
use Rattle.wasm_laws_widths.proofs.needs.Goals as goal

pub returns-clause-operands : goal.returns-clause-operands
returns-clause-operands c = depth_is_within

pub returns-clause-wide : goal.returns-clause-wide
returns-clause-wide c = wide_is_within

pub returns-clause-locals : goal.returns-clause-locals
returns-clause-locals c = named_locals_exist
