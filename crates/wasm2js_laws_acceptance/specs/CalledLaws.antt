-- How translated modules are called.
use Rattle.std.specs.Prelude.{◌≡◌, None}
use Rattle.session_lang.specs.Script.{ScriptPlain}
use Rattle.wasm_lang.specs.Modules.{WasmModule}
use Rattle.wasm_lang.specs.Shape.{IsShaped}
use Rattle.wasm_lang_valid.specs.Profile.{IsInProfile}
use Rattle.wasm_lang_exec.specs.Fits as machine
use Rattle.asm_lang_exec.specs.Fits.{misfit}
use Rattle.wasm2js_lang.specs.Heaps.{heap_bytes}
use Rattle.wasm2js_lang.specs.Calling.{IsCalledAs}
use Rattle.wasm2js_lang.specs.Allowed.{script_for}
use Rattle.wasm2js_translation.specs.Modules.{translated}

abbrev pub TranslationsAreCalled : Type 0
TranslationsAreCalled = (w : WasmModule) → IsInProfile w → IsShaped w → IsCalledAs w (translated w)

-- each script that fits the source fits what it is translated to
abbrev pub TranslationsFit : Type 0
TranslationsFit = (w : WasmModule) → IsInProfile w → IsShaped w → (s : ScriptPlain) → machine.misfit w s ≡ None → misfit (translated w) (heap_bytes w) (script_for w s) ≡ None
