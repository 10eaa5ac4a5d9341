-- The steps of translations are bounded.
use Rattle.std.specs.Prelude.{◌≡◌, false}
use Rattle.wasm_lang.specs.Modules.{WasmModule}
use Rattle.wasm_lang.specs.Shape.{IsWritable}
use Rattle.wasm_lang_valid.specs.Profile.{IsInProfile}
use Rattle.wasm2js_lang.specs.Allowed.{has_block_operations, IsBounded}
use Rattle.wasm2js_translation.specs.Modules.{translated}
use Rattle.wasm2js_laws_acceptance.specs.FunctionsFunctions.{IsSource}
use Rattle.wasm2js_laws_acceptance.specs.AcceptedLaws.{HaveFirstWords}
use Rattle.wasm2js_laws_simulation.specs.SessionsLaws.{IsReady}

-- where no body copies or fills, 256 units a reduction are enough
abbrev pub SourcesAreReady : Type 0
SourcesAreReady = (w : WasmModule) → IsSource w → HaveFirstWords w → has_block_operations w ≡ false → IsReady w 256

abbrev pub SourcesAreBounded : Type 0
SourcesAreBounded = (w : WasmModule) → IsSource w → HaveFirstWords w → IsBounded w (translated w)

-- where the premises come from
abbrev pub SpelledAreBounded : Type 0
SpelledAreBounded = (w : WasmModule) → IsWritable w → IsInProfile w → IsBounded w (translated w)
