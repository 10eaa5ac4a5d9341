-- What a module of asm.js that stands for one of WebAssembly imports.
use Rattle.std.specs.Prelude.{◌≡◌, ℕ, List, [], ◌∷◌}
use Rattle.session_lang.specs.Imports.{high_name}
use Rattle.session_lang.specs.Observation.{trap_name}
use Rattle.wasm_lang.specs.Modules.{WasmModule}
use Rattle.asm_lang.specs.Modules.{Module}
use Rattle.asm_lang_valid.specs.Refusal.{foreign_globals}
use Rattle.asm_lang_valid.specs.Scope.{is_in}
use Rattle.wasm2js_lang.specs.Calling.{functions_asked, globals_asked, foreign_functions, foreign_doubles}

-- the trap import, the one that gives high words, each imported function of the source in order, its imported globals as ints, and no more
pub record HasImports (w : WasmModule) (a : Module) : Type 0 where
  pub functions : foreign_functions a ≡ trap_name ∷ high_name ∷ functions_asked w
  pub globals : (name : List ℕ) → is_in name (foreign_globals a) ≡ is_in name (globals_asked w)
  pub doubles : foreign_doubles a ≡ []
