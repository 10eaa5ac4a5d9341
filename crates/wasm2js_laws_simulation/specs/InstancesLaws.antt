-- The place where a session begins in asm.js and the store where it begins in WebAssembly.
use Rattle.std.specs.Prelude.{◌≡◌, map, None}
use Rattle.session_lang.specs.Script.{ScriptPlain}
use Rattle.wasm_lang.specs.declared.types.GlobalType.{GlobalType}
use Rattle.wasm_lang.specs.Modules.{WasmModule}
use Rattle.wasm_lang_valid.specs.ModuleRules.{global_types}
use Rattle.wasm_lang_exec.specs.Session.{first_globals}
use Rattle.wasm_lang_exec.specs.Fits.{misfit}
use Rattle.wasm2js_lang.specs.Calling.{IsCalledAs}
use Rattle.wasm2js_translation.specs.Modules.{translated}
use Rattle.wasm2js_laws_acceptance.specs.FunctionsFunctions.{IsSource}
use Rattle.wasm2js_laws_acceptance.specs.AcceptedLaws.{HaveFirstWords}
use Rattle.wasm2js_laws_places.specs.Places.{word_at, globals_of}
use Rattle.wasm2js_laws_simulation.specs.StartLaws.{begins_at, IsStored}

-- the module's variables begin with the words of the globals
abbrev pub HasFirstGlobals : WasmModule → ScriptPlain → Type 0
HasFirstGlobals w s = globals_of (map (λ (g : GlobalType). g.kind) (global_types w)) (word_at (begins_at w s 0)) ≡ first_globals w s

abbrev pub GlobalsBegin : Type 0
GlobalsBegin = (w : WasmModule) → IsSource w → HaveFirstWords w → (s : ScriptPlain) → HasFirstGlobals w s

-- after the segments the place stands for the store after instantiation
abbrev pub StoresAreHeld : Type 0
StoresAreHeld = (w : WasmModule) → IsSource w → HaveFirstWords w → IsCalledAs w (translated w) → (s : ScriptPlain) → misfit w s ≡ None → IsStored w s
