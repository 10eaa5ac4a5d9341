-- The helpers of a translated module do what is said of them.
use Rattle.std.specs.Prelude.{◌≡◌, ℕ, false, List}
use Rattle.wasm_lang.specs.declared.types.ValType.{ValType}
use Rattle.wasm_lang.specs.Modules.{FunctionType, WasmModule}
use Rattle.wasm_lang_valid.specs.Profile.{memory_bytes}
use Rattle.wasm_lang_exec.specs.Code.{Trees}
use Rattle.asm_lang_valid.specs.Scope.{module_meaning}
use Rattle.asm_lang_valid.specs.Typing.{Scope, named}
use Rattle.asm_lang_valid.specs.Typed.{scope_of}
use Rattle.asm_lang_exec.specs.Meaning.{call_at}
use Rattle.wasm2js_translation.specs.Names.{Name, Fixed, spelled}
use Rattle.wasm2js_translation.specs.Words.{name_of}
use Rattle.wasm2js_translation.specs.Modules.{own_function, translated}
use Rattle.wasm2js_laws_scopes.specs.Laws.{is_own}
use Rattle.wasm2js_laws_places.specs.Helped.{AreHelpers}
use Rattle.wasm2js_laws_preservation.specs.InstructionsPlain.{AreUsual}
use Rattle.wasm2js_laws_simulation.specs.HelpingHelping.{helping, fixed_meaning}

-- those on words do what their operators do
abbrev pub WordsAreUsual : Type 0
WordsAreUsual = (bytes : ℕ) → AreUsual (helping bytes)

-- each name, where it is declared
abbrev pub FixedNamesMean : Type 0
FixedNamesMean = (w : WasmModule) (f : Fixed) → module_meaning (translated w) (name_of f) ≡ fixed_meaning w f

-- ---- calls

-- the names of the module mean the same in this scope
abbrev pub SeesNames : Scope → Type 0
SeesNames c = (n : Name) → is_own n ≡ false → named c (spelled n) ≡ module_meaning c.home (spelled n)

-- where names of helpers mean what they mean in the module, however deep calls may lie
abbrev pub HelpersHelp : Type 0
HelpersHelp =
    (w : WasmModule) (c : Scope) (bound : ℕ) → c.home ≡ translated w → SeesNames c
    → AreHelpers c (call_at false (translated w) bound) bound (memory_bytes w) (helping (memory_bytes w))

-- in the body of any function of the source
abbrev pub BodiesHelp : Type 0
BodiesHelp =
    (w : WasmModule) (k : ℕ) (t : FunctionType) (more : List ValType) (code : Trees) (bound : ℕ)
    → AreHelpers (scope_of (translated w) (own_function w k t more code)) (call_at false (translated w) bound) bound (memory_bytes w) (helping (memory_bytes w))
