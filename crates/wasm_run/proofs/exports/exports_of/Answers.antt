use Rattle.std.proofs.Common.{map, ap, ◌∙◌}
use Rattle.wasm_lang.specs.Modules.{WasmModule}
use Rattle.wasm_tree.specs.Views.{export_of}
use Rattle.wasm_run.proofs.ExportNames.{valid_first}
use Rattle.wasm_run.proofs.exports.exports_of.Goals as goal

pub returns-clause-first : goal.returns-clause-first
returns-clause-first c =
    valid_first c.args.valid.now _ c.«module».ensures.valid (ap (map export_of) c.as_slice.ensures ∙ ap (λ (m : WasmModule). m.exports) c.«module».ensures.given)
