-- Modules whose translated code has numbers that fit their places.
use Rattle.std.specs.Prelude.{ℕ, List}
use Rattle.std.specs.List.{AllByRecursion}
use Rattle.wasm_laws_write.specs.Each.{EachIn}
use Rattle.wasm_laws_write.specs.Lengths.{IsNarrow}
use Rattle.asm_lang.specs.Modules.{Function, Module}
use Rattle.asm_lang_valid.specs.Typed.{scope_of}
use Rattle.asm2wasm_translation.specs.Bodies.{function_code}

abbrev pub IsNarrowFunction : Module → ℕ → Function → Type 0
IsNarrowFunction m size f = EachIn IsNarrow (function_code size (scope_of m f))

abbrev pub AreNarrow : Module → ℕ → List Function → Type 0
AreNarrow m size fs = AllByRecursion (IsNarrowFunction m size) fs
