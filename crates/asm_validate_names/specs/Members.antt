-- The rows of one table and of one export.
use Rattle.std.specs.Prelude.{ℕ, Bool, false, List, [], ◌∷◌, ◌++◌, if◌then◌else◌}
use Rattle.asm_lang.specs.Modules.{Table, Export, Module}
use Rattle.asm_lang_valid.specs.declared.rule.Met.{Met}
use Rattle.asm_lang_valid.specs.declared.rule.Rule.TheVariants.{UnknownName, WrongKind}
use Rattle.asm_lang_valid.specs.Rows.{need}
use Rattle.asm_lang_valid.specs.NameRows.{declares, declares_key, function_uses}

-- names that are used and are declared or not, as what they have to be or not
abbrev pub fit_rows : Bool → Bool → ℕ → List Met
fit_rows known fits at = if known then need fits WrongKind at else need false UnknownName at

abbrev pub table_rows : Module → List (List ℕ) → Table → ℕ → List Met
table_rows m before t at = declares before t.name at ++ function_uses m t.members at

abbrev pub export_rows : Module → List (List ℕ) → Export → ℕ → List Met
export_rows m before e at = declares_key before e.key at ++ function_uses m (e.function ∷ []) at
