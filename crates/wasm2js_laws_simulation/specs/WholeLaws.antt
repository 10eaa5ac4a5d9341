-- The translations of modules of the profile may be written for them.
use Rattle.std.specs.Prelude.{ℕ, ◌+◌, ◌^◌}
use Rattle.wasm_lang.specs.Modules.{WasmModule}
use Rattle.wasm_lang.specs.Shape.{IsWritable}
use Rattle.wasm_lang_valid.specs.Profile.{IsInProfile}
use Rattle.wasm2js_lang.specs.Allowed.{IsAllowed, TrapsAreCalls}
use Rattle.wasm2js_translation.specs.Modules.{translated}
use Rattle.wasm2js_laws_acceptance.specs.FunctionsFunctions.{IsSource}
use Rattle.wasm2js_laws_acceptance.specs.AcceptedLaws.{HaveFirstWords}
use Rattle.wasm2js_laws_simulation.specs.SessionsLaws.{IsReady}

-- a reduction that copies or fills pays for a loop over the whole memory, and no memory of the profile is larger than 2^28 bytes
abbrev pub most_pace : ℕ
most_pace = 2 ^ 28 + 256

abbrev pub SourcesAreReady : Type 0
SourcesAreReady = (w : WasmModule) → IsSource w → HaveFirstWords w → IsReady w most_pace

abbrev pub SourcesAreAllowed : Type 0
SourcesAreAllowed = (w : WasmModule) → IsSource w → HaveFirstWords w → IsAllowed w (translated w)

abbrev pub TrapsOfSourcesAreCalls : Type 0
TrapsOfSourcesAreCalls = (w : WasmModule) → IsSource w → HaveFirstWords w → TrapsAreCalls w (translated w)

-- ---- where the premises come from

abbrev pub SpelledAreAllowed : Type 0
SpelledAreAllowed = (w : WasmModule) → IsWritable w → IsInProfile w → IsAllowed w (translated w)

abbrev pub TrapsOfSpelledAreCalls : Type 0
TrapsOfSpelledAreCalls = (w : WasmModule) → IsWritable w → IsInProfile w → TrapsAreCalls w (translated w)
