-- How long a memory in the profile may be.
use Rattle.std.proofs.Common.{◌≡◌, None, ◌<◌, arith}
use Rattle.std.specs.Prelude.{◌^◌}
use Rattle.wasm_lang.specs.Modules.{WasmModule}
use Rattle.wasm_lang_valid.specs.Profile.{memory_bytes, outside_profile}
use Rattle.wasm2js_laws_acceptance.proofs.ProvidedWithin.{rows_are_within, few_bytes}

pub few : (w : WasmModule) → outside_profile w ≡ None → memory_bytes w < 2 ^ 32
few w h = let l = few_bytes w (rows_are_within w h) in omega (arith, l)
