-- Which bytes are counted.
use Rattle.std.specs.Prelude.{◌≡◌, ℕ, List}
use Rattle.wasm_lang.specs.Modules.{WasmModule}
use Rattle.wasm_lang_valid.specs.Bytes.{IsValidBytes}
use Rattle.bridge_lang.specs.Listing.{counts_line}

-- the bytes spell a valid module, and the output is its counts
pub record IsCounted (bytes output : List ℕ) : Type 0 where
  pub «module» : WasmModule
  pub taken : IsValidBytes bytes «module»
  pub counted : output ≡ counts_line «module»
