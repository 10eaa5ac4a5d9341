-- The clauses of a branch by an index, as a list.
use Rattle.std.specs.Prelude.{ℕ, suc, List, [], ◌∷◌, Option, Some, ℤ}
use Rattle.sem_words.specs.Words.{signed_of}
use Rattle.asm_lang.specs.Modules.{Stmt}
use Rattle.asm_tree.specs.Views.{ClauseView}
use Rattle.wasm2js_translation.specs.Words.{stmts_in}

abbrev pub clause_for : Option ℤ → List Stmt → ClauseView
clause_for value body = record { value = value; body = stmts_in body }

-- the case for each of these labels, the first of which has this index
abbrev pub case_list : (ℕ → List Stmt) → (i : ℕ) → List ℕ → List ClauseView
case_list to i [] = []
case_list to i (k ∷ ks) = clause_for (Some (signed_of 32 i)) (to k) ∷ case_list to (suc i) ks
