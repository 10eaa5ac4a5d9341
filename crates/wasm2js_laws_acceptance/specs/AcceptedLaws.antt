-- Translated modules are accepted.
use Rattle.std.specs.Prelude.{◌≡◌, true, All}
use Rattle.wasm_lang.specs.Modules.{WasmModule}
use Rattle.wasm_lang.specs.Shape.{IsWritable}
use Rattle.wasm_lang_valid.specs.Profile.{IsInProfile}
use Rattle.asm_lang.specs.Heights.{IsWellFormed}
use Rattle.asm_lang_valid.specs.Refusal.{IsAccepted}
use Rattle.asm_lang_valid.specs.Typed.{module_typed}
use Rattle.wasm2js_translation.specs.Modules.{translated}
use Rattle.wasm2js_laws_acceptance.specs.FunctionsFunctions.{HasWord, IsSource}

-- constants that globals begin with are words of their widths
abbrev pub HaveFirstWords : WasmModule → Type 0
HaveFirstWords w = All (λ g. All HasWord g.init) w.globals

abbrev pub TranslationsAreTyped : Type 0
TranslationsAreTyped = (w : WasmModule) → IsSource w → HaveFirstWords w → module_typed (translated w) ≡ true

abbrev pub TranslationsAreAccepted : Type 0
TranslationsAreAccepted = (w : WasmModule) → IsSource w → HaveFirstWords w → IsAccepted (translated w)

-- some text says the module
abbrev pub TranslationsAreWellFormed : Type 0
TranslationsAreWellFormed = (w : WasmModule) → IsSource w → HaveFirstWords w → IsWellFormed (translated w)

-- ---- where the premises come from

-- a module that some bytes spell, valid and in the profile, has them all
abbrev pub SpelledAreSources : Type 0
SpelledAreSources = (w : WasmModule) → IsWritable w → IsInProfile w → IsSource w × HaveFirstWords w
