-- Modules with one function as their one export.
use Rattle.std.specs.Prelude.{ℕ, List, [], ◌∷◌}
use Rattle.wasm_lang.specs.declared.types.ExportKind.TheVariants as kinds
use Rattle.wasm_lang.specs.Modules.{WasmModule}
use Rattle.asm_lang.specs.Modules.{Function, one, Module}

-- a module of asm.js with this function as its one export, which has the function's name
abbrev pub exporting : Function → Module → Module
exporting f m = record m { exports = one f.name }

-- a module of WebAssembly with the function of this number as its one export, under this name
abbrev pub exporting_number : List ℕ → ℕ → WasmModule → WasmModule
exporting_number name n w = record w { exports = record { name = name; kind = kinds.Func n } ∷ [] }
