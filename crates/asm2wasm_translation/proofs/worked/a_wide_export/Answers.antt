use Rattle.asm2wasm_translation.proofs.Exports.{wide_is_not_called, narrow_is_called}
use Rattle.asm2wasm_translation.proofs.worked.a_wide_export.Goals as goal

pub returns-clause-wide : goal.returns-clause-wide
returns-clause-wide c = wide_is_not_called

pub returns-clause-narrow : goal.returns-clause-narrow
returns-clause-narrow c = narrow_is_called
