-- Translated modules have the helpers that operators on words of 64 bits call.
use Rattle.wasm_lang.specs.Modules.{WasmModule}
use Rattle.wasm2js_lang.specs.Helpers.{HasHelpers}
use Rattle.wasm2js_translation.specs.Modules.{translated}
use Rattle.wasm2js_laws_acceptance.specs.FunctionsFunctions.{IsSource}
use Rattle.wasm2js_laws_acceptance.specs.AcceptedLaws.{HaveFirstWords}

abbrev pub SourcesHaveHelpers : Type 0
SourcesHaveHelpers = (w : WasmModule) → IsSource w → HaveFirstWords w → HasHelpers w (translated w)
