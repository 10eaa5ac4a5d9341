-- The clauses of a switch that goes by a test for each case.
use Rattle.std.specs.Prelude.{ℕ, Option, ℤ}
use Rattle.wasm_lang_exec.specs.Code.{Trees, ε, ◌▹◌, ◌⊕◌, br}
use Rattle.asm_lang.specs.Modules.{no_stmts, Clauses, no_clauses, clauses}
use Rattle.asm_lang_exec.specs.Meaning.{before_default}
use Rattle.asm2wasm_translation.specs.Bodies as code

-- a clause without statements alone
abbrev pub one_clause : Option ℤ → Clauses
one_clause v = clauses v no_stmts no_clauses

-- a test for each case, and then the default
abbrev pub tests_for : (t : ℕ) → Clauses → Trees
tests_for t cs = code.case_branches t 0 cs ⊕ (br (before_default cs) ▹ ε)
