-- The foreign members that were imported.
use Rattle.std.specs.Prelude.{ℕ, List, [], map}
use Rattle.asm_lang.specs.Modules.{Variable}
use Rattle.asm_lang_valid.specs.NameRows.{Imports}
use Rattle.asm_validate_names.specs.declared.imports.Imports.{Imports as CodeImports}
use Rattle.asm_validate_names.specs.Seen.{names}

abbrev pub imports_view : CodeImports → Imports
imports_view s = record { values = names s.values; functions = names s.functions }

abbrev pub no_imports : Imports
no_imports = record { values = []; functions = [] }

abbrev pub globals_texts : List Variable → List (List ℕ)
globals_texts vs = map (λ (v : Variable). v.name) vs
