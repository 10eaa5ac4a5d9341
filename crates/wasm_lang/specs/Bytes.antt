-- Which module bytes spell, or the first field that can't be read.
use Rattle.std.specs.Prelude.{◌≡◌, ℕ, ◌≤◌, List, length, Err}
use Rattle.wasm_lang.specs.declared.fault.Row.{Row}
use Rattle.wasm_lang.specs.Grammar.{IsModuleBytes}
use Rattle.wasm_lang.specs.Limits.{IsWithinReader}
use Rattle.wasm_lang.specs.Modules.{WasmModule}
use Rattle.wasm_lang.specs.ReadingModule.{read_module}

-- the bytes spell this module, which is within the reader's limits
pub record IsRead (bytes : List ℕ) (m : WasmModule) : Type 0 where
  pub spelled : IsModuleBytes bytes m
  pub within : IsWithinReader m

-- the bytes spell no module within the reader's limits, and this is the first field that can't be read
pub record IsFirstFault (bytes : List ℕ) (row : Row) (at : ℕ) : Type 0 where
  pub first : read_module bytes ≡ Err (record { row = row; at = at })
  pub none : (m : WasmModule) → IsRead bytes m → ⊥
  pub within : at ≤ length bytes
