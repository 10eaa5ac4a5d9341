use Rattle.wasm2js_laws_scripts.proofs.Calls.{shapes_are_found}
use Rattle.wasm2js_laws_scripts.proofs.Fitting.{scripts_fit}
use Rattle.wasm2js_laws_scripts.proofs.Heaps.{heaps_begin}
use Rattle.wasm2js_laws_scripts.proofs.Names.{shaped_exports_are_bytes}
use Rattle.wasm2js_laws_scripts.proofs.scripts.Goals as goal

pub returns-clause-shapes : goal.returns-clause-shapes
returns-clause-shapes c = shapes_are_found

pub returns-clause-fit : goal.returns-clause-fit
returns-clause-fit c = scripts_fit

pub returns-clause-heaps : goal.returns-clause-heaps
returns-clause-heaps c = heaps_begin

pub returns-clause-names : goal.returns-clause-names
returns-clause-names c = shaped_exports_are_bytes
