-- What holds of a pair whose second module is empty.
use Rattle.std.specs.Prelude.{◌≡◌, ℕ, [], None}
use Rattle.session_lang.specs.Script.{ScriptPlain}
use Rattle.wasm_lang.specs.Modules.{WasmModule}
use Rattle.wasm_lang_exec.specs.Session.{wasm}
use Rattle.wasm_laws_sound.specs.Laws.{IsWhole}
use Rattle.wasm_link_lang.specs.Pairs.{Pair}
use Rattle.wasm_link_lang.specs.Session.{pair}

-- a module without sections
abbrev pub empty : WasmModule
empty = record {
  types = [];
  imports = [];
  functions = [];
  tables = [];
  memories = [];
  globals = [];
  exports = [];
  start = None;
  elements = [];
  bodies = [];
  segments = [];
}

abbrev pub with_empty : WasmModule → Pair
with_empty m = record { first = m; second = empty }

-- the same number of reductions, and all that is seen
abbrev pub PairsAreAlone : Type 0
PairsAreAlone = (m : WasmModule) → IsWhole m → (s : ScriptPlain) (n : ℕ) → pair (with_empty m) s n ≡ wasm m s n
