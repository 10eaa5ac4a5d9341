-- A valid module that is shaped is whole.
use Rattle.wasm_lang.specs.Modules.{WasmModule}
use Rattle.wasm_lang.specs.Shape.{IsShaped}
use Rattle.wasm_lang_valid.specs.Validity.{IsValidModule}
use Rattle.wasm_laws_sound.specs.Laws.{IsWhole}

pub shaped_whole : (m : WasmModule) → IsValidModule m → IsShaped m → IsWhole m
shaped_whole m valid shaped = record { is_valid = valid; bodies_match = shaped.bodies_match }
