-- The code of statements and of functions. A loop keeps the address of its next turn in a slot of its own, so that each jump within
-- a body goes forward or takes a unit.
use Rattle.std.specs.Prelude.{ℕ, zero, suc, List, [], ◌∷◌, length, Option, Some, None, ℤ, pos, ◌+ℤ◌, if◌then◌else◌}
use Rattle.sem_words.specs.Words.{word_of}
use Rattle.asm_lang.specs.Trees.{Init, number}
use Rattle.asm_lang.specs.Modules as text
use Rattle.asm_lang.specs.Modules.{Expr, Stmt, if_only, if_else, returns, while_loop, do_while, for_loop, breaks, continues, labelled, switches, empty, Stmts, no_stmts, stmts, Clauses, no_clauses, clauses, Variable}
use Rattle.asm_lang_valid.specs.Scope.{is_in}
use Rattle.asm_lang_valid.specs.Typing.{Scope, values}
use Rattle.asm_lang_exec.specs.Meaning.{before_default, passed_over}
use Rattle.asm2wasm_translation.specs.Bodies.{low, span, is_dense}
use Rattle.asm_run_code.specs.declared.op.Op.{Op}
use Rattle.asm_run_code.specs.declared.op.Op.TheVariants.{Number, Go, Case, Choose, Turn, Again, Give}
use Rattle.asm_run_code.specs.Names.{first_free, local}
use Rattle.asm_run_code.specs.Values.{Before, seated, tested, chosen, value}

-- ---- what stands round a statement, with the addresses where it goes on

pub data Around : Type 0 where
  -- a loop with these labels: its next turn, and what comes after it
  a_loop : List (List ℕ) → (next past : ℕ) → Around
  a_switch : (past : ℕ) → Around
  -- a statement with these labels
  a_named : List (List ℕ) → (past : ℕ) → Around

-- where a break goes, and where a continue; an accepted module has one that is meant
abbrev pub break_address : List Around → Option (List ℕ) → ℕ
break_address [] label = 0
break_address (a_loop own next past ∷ around) None = past
break_address (a_switch past ∷ around) None = past
break_address (a_named ns past ∷ around) None = break_address around None
break_address (a_loop own next past ∷ around) (Some n) = break_address around (Some n)
break_address (a_switch past ∷ around) (Some n) = break_address around (Some n)
break_address (a_named ns past ∷ around) (Some n) = if is_in n ns then past else break_address around (Some n)

abbrev pub continue_address : List Around → Option (List ℕ) → ℕ
continue_address [] label = 0
continue_address (a_loop own next past ∷ around) None = next
continue_address (a_loop own next past ∷ around) (Some n) = if is_in n own then next else continue_address around (Some n)
continue_address (a_switch past ∷ around) label = continue_address around label
continue_address (a_named ns past ∷ around) label = continue_address around label

-- ---- switches

-- the code of clauses, and the address of each, with the address after the last one
pub record Placed : Type 0 where
  pub code : List Op
  pub starts : List ℕ

abbrev pub placed_before : List Op → List ℕ → Placed
placed_before code starts = record { code = code; starts = length code ∷ starts }

abbrev pub start_of : List ℕ → (clause : ℕ) → ℕ
start_of [] k = 0
start_of (a ∷ further) zero = a
start_of (a ∷ further) (suc k) = start_of further k

-- a comparison for each case, with the addresses of these clauses
abbrev pub case_ops : (slot : ℕ) → Clauses → List ℕ → Before
case_ops a no_clauses starts rest = rest
case_ops a (clauses v ss cs) [] rest = rest
case_ops a (clauses None ss cs) (k ∷ starts) rest = case_ops a cs starts rest
case_ops a (clauses (Some v) ss cs) (k ∷ starts) rest = Case a (word_of 32 v) k ∷ case_ops a cs starts rest

-- a jump for each of so many values from this one on
abbrev pub target_ops : ℕ → ℤ → Clauses → List ℕ → Before
target_ops zero z cs starts rest = rest
target_ops (suc n) z cs starts rest = Go (start_of starts (passed_over z cs)) ∷ target_ops n (z +ℤ pos 1) cs starts rest

-- to the clause of the value in a slot; values that lie close together have a table of jumps
abbrev pub dispatched : Clauses → List ℕ → (slot : ℕ) → Before
dispatched cs starts a rest =
    if is_dense (values cs) then Choose a (word_of 32 (low (values cs))) (suc (span (values cs))) ∷ target_ops (suc (span (values cs))) (low (values cs)) cs starts (Go (start_of starts (before_default cs)) ∷ rest)
    else case_ops a cs starts (Go (start_of starts (before_default cs)) ∷ rest)

abbrev pub switched : Option ℕ → (d : ℕ) → Before → Clauses → Placed → List Op
switched (Some a) d code cs placed = dispatched cs placed.starts a placed.code
switched None d code cs placed = code (dispatched cs placed.starts d placed.code)

-- ---- statements

module _ (c : Scope) where
  abbrev pub part : (d : ℕ) → Option Expr → Before
  part d None rest = rest
  part d (Some e) rest = value c None d e rest

  -- goes on where the condition holds, or where there is none
  abbrev pub condition : (d : ℕ) → Expr → (at : ℕ) → Before
  condition d e at rest = tested (local c e) d (λ more. value c (Some d) d e more) at rest

  abbrev pub condition_if : (d : ℕ) → Option Expr → (at : ℕ) → Before
  condition_if d None at rest = rest
  condition_if d (Some e) at rest = condition d e at rest

  -- a loop whose turns are tested before the body; `step` comes after it, and ends with the next turn
  abbrev pub looped : (d : ℕ) → (test : List Op → List Op) → (body : ℕ → List Op → List Op) → (step : List Op) → List Op
  looped d test body step = Turn d ∷ test (body (length step) step)

  unfoldable mutual
    -- a statement directly under these labels, where slots from d on are free
    pub stmt : List Around → (own : List (List ℕ)) → (d : ℕ) → Stmt → Before
    stmt around own d (text.block ss) rest = stmts_code around d ss rest
    stmt around own d (text.plain e) rest = value c None d e rest
    stmt around own d empty rest = rest
    stmt around own d (if_only e s) rest = condition d e (length rest) (stmt around [] d s rest)
    stmt around own d (if_else e s r) rest =
        chosen (local c e) d (λ more. value c (Some d) d e more) (λ more. stmt around [] d s more) (stmt around [] d r rest) rest
    stmt around own d (returns None) rest = Number d 0 ∷ Give d ∷ rest
    stmt around own d (returns (Some e)) rest = seated (local c e) d (λ more. value c (Some d) d e more) (λ a. Give a) rest
    stmt around own d (while_loop e s) rest =
        looped d (λ more. condition (suc d) e (length rest) more) (λ next more. stmt (a_loop own next (length rest) ∷ around) [] (suc d) s more) (Again d ∷ rest)
    stmt around own d (do_while s e) rest =
        looped d (λ more. more) (λ next more. stmt (a_loop own next (length rest) ∷ around) [] (suc d) s more) (condition (suc d) e (length rest) (Again d ∷ rest))
    stmt around own d (for_loop x y z s) rest =
        part d x
        (looped d (λ more. condition_if (suc d) y (length rest) more) (λ next more. stmt (a_loop own next (length rest) ∷ around) [] (suc d) s more) (part (suc d) z (Again d ∷ rest)))
    stmt around own d (breaks n) rest = Go (break_address around n) ∷ rest
    stmt around own d (continues n) rest = Go (continue_address around n) ∷ rest
    stmt around own d (labelled ns s) rest = stmt (a_named ns (length rest) ∷ around) ns d s rest
    stmt around own d (switches e cs) rest =
        switched (local c e) d (λ more. value c (Some d) d e more) cs (clauses_code (a_switch (length rest) ∷ around) d cs rest)

    pub stmts_code : List Around → (d : ℕ) → Stmts → Before
    stmts_code around d no_stmts rest = rest
    stmts_code around d (stmts s ss) rest = stmt around [] d s (stmts_code around d ss rest)

    pub clauses_code : List Around → (d : ℕ) → Clauses → List Op → Placed
    clauses_code around d no_clauses rest = record { code = rest; starts = length rest ∷ [] }
    clauses_code around d (clauses v ss cs) rest =
        placed_before (stmts_code around d ss (clauses_code around d cs rest).code) (clauses_code around d cs rest).starts

  -- ---- functions

  -- the first word of a local
  abbrev pub first_word : Variable → ℕ
  first_word v = word_in v.init
    where
      word_in : Init → ℕ
      word_in (number z) = word_of 32 z
      word_in _ = 0

  -- the whole code of the function, in the order in which it runs
  unfoldable pub body : List Op
  body = stmts_code [] (first_free c.within) c.within.body (Number (first_free c.within) 0 ∷ Give (first_free c.within) ∷ [])
