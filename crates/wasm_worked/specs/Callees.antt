-- Exports by name.
use Rattle.std.specs.Prelude.{List, [], ◌∷◌, codes}
use Rattle.wasm_lang.specs.Modules.{Exported}
use Rattle.wasm_lang.specs.declared.types.ExportKind.TheVariants as kinds

abbrev pub named : List Exported
named =
    record { name = codes "a"; kind = kinds.Func 4 } ∷ record { name = codes "b"; kind = kinds.Global 0 }
    ∷ record { name = codes "a"; kind = kinds.Func 5 } ∷ []
