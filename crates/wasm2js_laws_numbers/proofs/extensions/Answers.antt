use Rattle.wasm2js_laws_numbers.proofs.Extended.{narrow_extensions, wide_extensions}
use Rattle.wasm2js_laws_numbers.proofs.extensions.Goals as goal

pub returns-clause-narrow : goal.returns-clause-narrow
returns-clause-narrow c = narrow_extensions

pub returns-clause-wide : goal.returns-clause-wide
returns-clause-wide c = wide_extensions
