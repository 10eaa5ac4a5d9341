-- Code of parts of statements.
use Rattle.std.specs.Prelude.{ℕ, List, [], ◌∷◌, ◌++◌, replicate, Option, Some, None, if◌then◌else◌}
use Rattle.wasm_lang.specs.Instructions.{Instruction, local_set, end_mark}
use Rattle.wasm_lang_exec.specs.Code.{Trees, ε, ◌▹◌, ◌⊕◌, block, if_block, return}
use Rattle.wasm_laws_trees.specs.Spelled.{flat}
use Rattle.asm_lang.specs.Modules.{Expr, Stmt, Stmts, Clauses, no_clauses, clauses}
use Rattle.asm_lang_valid.specs.Typing.{Scope}
use Rattle.asm2wasm_translation.specs.Values.{one, value_code}
use Rattle.asm2wasm_translation.specs.Bodies as code

module _ (size : ℕ) (c : Scope) where
  abbrev pub return_code : Option Expr → Trees
  return_code None = return ▹ ε
  return_code (Some e) = value_code size c 0 e ⊕ (return ▹ ε)

  abbrev pub subject_code : Expr → Trees
  subject_code e = value_code size c 0 e ⊕ one (local_set (code.value_local size c))

  abbrev pub if_code : List code.Label → Expr → Stmt → Trees
  if_code ls e s = value_code size c 0 e ⊕ (if_block None (code.stmt_code size c (code.plainly ∷ ls) [] s) ε ▹ ε)

  abbrev pub if_else_code : List code.Label → Expr → (s r : Stmt) → Trees
  if_else_code ls e s r =
      value_code size c 0 e ⊕ (if_block None (code.stmt_code size c (code.plainly ∷ ls) [] s) (code.stmt_code size c (code.plainly ∷ ls) [] r) ▹ ε)

  -- a loop with its condition and its step
  abbrev pub while_code : List code.Label → (own : List (List ℕ)) → (test step : Option Expr) → Stmt → Trees
  while_code ls own test step s = code.loop_code (code.test_code size c test) (code.stmt_code size c (code.in_body own ls) [] s) (code.part_code size c step)

  abbrev pub until_code : List code.Label → (own : List (List ℕ)) → Stmt → Expr → Trees
  until_code ls own s e = code.do_code (code.stmt_code size c (code.in_body own ls) [] s) (value_code size c 0 e)

  -- what follows the subject of a switch of few clauses, and of many
  abbrev pub few_code : List code.Label → Clauses → Trees
  few_code ls cs = block None (code.short_code size c ls (code.dispatch (code.value_local size c) cs) cs) ▹ ε

  abbrev pub many_code : List code.Label → Clauses → Trees
  many_code ls cs = code.first_clause (code.value_local size c) (code.number_local size c) cs ⊕ (block None (code.long_code size c ls 0 cs) ▹ ε)

  abbrev pub switch_code : List code.Label → Expr → Clauses → Trees
  switch_code ls e cs = subject_code e ⊕ (if code.is_short cs then few_code ls cs else many_code ls cs)

  -- the clauses of a short switch, each after the end of its block
  abbrev pub clauses_spelled : List code.Label → Clauses → List Instruction
  clauses_spelled ls no_clauses = []
  clauses_spelled ls (clauses v ss cs) =
      end_mark ∷ (flat (code.stmts_code size c (replicate (code.clauses_count cs) code.plainly ++ code.breakable ∷ ls) ss) ++ clauses_spelled ls cs)

  -- clause j of a long switch
  abbrev pub clause_code : List code.Label → (j : ℕ) → Stmts → Trees
  clause_code ls j ss =
      code.reached (code.number_local size c) j
      ⊕ (if_block None (code.stmts_code size c (code.plainly ∷ code.breakable ∷ ls) ss ⊕ code.all_further (code.number_local size c)) ε ▹ ε)

  -- a last statement, with the value that it leaves
  abbrev pub last_form : Stmt → Option Expr → Trees
  last_form s None = code.stmt_code size c [] [] s
  last_form s (Some e) = value_code size c 0 e
