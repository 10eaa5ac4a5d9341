-- Items that are marked.
use Rattle.std.specs.Prelude.{Bool, true, false, List, [], ◌∷◌, map, if◌then◌else◌}
use Rattle.std.specs.Borrow.{Bor}
use Rattle.asm_lang.specs.Modules as plain
use Rattle.asm_tree.specs.Views.{function_view, table_view}
use Rattle.asm_tree.specs.declared.tree.Function.{Function}
use Rattle.asm_tree.specs.declared.tree.Table.{Table}

-- items without a mark of their own aren't marked
abbrev pub picked : {A : Type 0} → List Bool → List A → List A
picked bs [] = []
picked [] (x ∷ xs) = []
picked (b ∷ bs) (x ∷ xs) = let rest = picked bs xs in if b then x ∷ rest else rest

abbrev pub kept_if : {A : Type 0} → Bool → A → List A
kept_if true x = x ∷ []
kept_if false x = []

abbrev pub functions_in : List (Bor Function) → List plain.Function
functions_in fs = map (λ (f : Bor Function). function_view f.now) fs

abbrev pub tables_in : List (Bor Table) → List plain.Table
tables_in ts = map (λ (t : Bor Table). table_view t.now) ts
