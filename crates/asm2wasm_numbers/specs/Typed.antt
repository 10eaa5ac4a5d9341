-- The calls and the types of a module, each in order.
use Rattle.std.specs.Prelude.{◌≡◌, map}
use Rattle.asm_lang.specs.Modules.{Module}
use Rattle.asm_lang_valid.specs.LimitRows.{foreign_calls}
use Rattle.asm_validate_limits.specs.Called.{foreign_view, EachIsFirst}
use Rattle.asm2wasm_translation.specs.Numbers.{signatures}
use Rattle.asm2wasm_numbers.specs.declared.signatures.ModuleTypes.{ModuleTypes}
use Rattle.asm2wasm_numbers.specs.Signatures.{said}

pub record IsTyped (m : Module) (types : ModuleTypes) : Type 0 where
  pub calls_are : map (foreign_view m) types.calls ≡ foreign_calls m
  pub calls_first : EachIsFirst m types.calls
  pub types_are : said types.signatures ≡ signatures m
