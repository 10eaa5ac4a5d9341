-- The names of a module that its users see, and those of the imports that are ints.
use Rattle.std.specs.Prelude.{ℕ, List, ◌++◌, map}
use Rattle.asm_lang.specs.Modules.{Function, Module}
use Rattle.asm_lang_valid.specs.Refusal.{Exported, exported_from, foreign_globals}

-- the names of the functions, the keys of the exports, and the foreign members that are imported as ints
abbrev pub module_names : Module → List (List ℕ)
module_names m = map (λ (f : Function). f.name) m.functions ++ (map (λ (x : Exported). x.key) (exported_from m m.exports) ++ foreign_globals m)
