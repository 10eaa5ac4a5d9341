-- The names of declarations.
use Rattle.std.specs.Prelude.{ℕ, List, map}
use Rattle.asm_lang.specs.Modules.{Variable, Param, Table}

abbrev pub table_names : List Table → List (List ℕ)
table_names ts = map (λ (t : Table). t.name) ts

abbrev pub variable_names : List Variable → List (List ℕ)
variable_names vs = map (λ (v : Variable). v.name) vs

abbrev pub param_names : List Param → List (List ℕ)
param_names ps = map (λ (p : Param). p.name) ps
