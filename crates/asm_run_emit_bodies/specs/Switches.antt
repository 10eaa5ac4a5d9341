-- The code before the clauses of a switch, case by case.
use Rattle.std.specs.Prelude.{ℕ, List, [], ◌∷◌, Option, Some, None, ℤ}
use Rattle.sem_words.specs.Words.{word_of}
use Rattle.asm_lang.specs.Modules.{Expr, Clauses}
use Rattle.asm_lang_valid.specs.Typing.{Scope}
use Rattle.asm_run_code.specs.declared.op.Op.TheVariants.{Go, Case}
use Rattle.asm_run_code.specs.Names.{local}
use Rattle.asm_run_code.specs.Values.{Before, into, value}
use Rattle.asm_run_code.specs.Bodies.{start_of, dispatched}
use Rattle.asm_run_emit_values.specs.Pieces.{out_of_place}

-- the comparison of a clause, whose address this is; the default has none
abbrev pub case_before : (slot : ℕ) → Option ℤ → (at : ℕ) → Before
case_before slot None at rest = rest
case_before slot (Some v) at rest = Case slot (word_of 32 v) at ∷ rest

-- a jump to each of these clauses
abbrev pub jumps : (starts clauses : List ℕ) → Before
jumps starts [] rest = rest
jumps starts (k ∷ ks) rest = Go (start_of starts k) ∷ jumps starts ks rest

-- the value of a switch, before the way from there to its clause
abbrev pub chosen : Scope → (d : ℕ) → Clauses → (starts : List ℕ) → Expr → Before
chosen c d cs starts e rest = out_of_place (local c e) (λ more. value c (Some d) d e more) (dispatched cs starts (into (local c e) d) rest)
