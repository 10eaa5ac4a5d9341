-- How many functions, types and globals a module has.
use Rattle.std.specs.Prelude.{◌≡◌, ◌≤◌, ◌^◌, length}
use Rattle.wasm_lang.specs.Modules.{WasmModule}
use Rattle.wasm_lang_valid.specs.ModuleRules.{function_types, global_types}
use Rattle.wasm_link_bind.specs.declared.counts.Sizes.{Sizes}

pub record AreSizes (s : Sizes) (m : WasmModule) : Type 0 where
  pub functions : s.functions ≡ length (function_types m)
  pub types : s.types ≡ length m.types
  pub globals : s.globals ≡ length (global_types m)
  pub few_functions : s.functions ≤ 2 ^ 62
  pub few_types : s.types ≤ 2 ^ 62
  pub few_globals : s.globals ≤ 2 ^ 62
