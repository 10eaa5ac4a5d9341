-- What keeps the numbers of an instruction small.
use Rattle.std.specs.Prelude.{ℕ, suc, ◌^◌, ◌<◌, ◌≤◌, length, All}
use Rattle.wasm_lang.specs.Instructions.{Plain, local_get, local_set, local_tee, global_get, global_set, load, store, const32, const64, Instruction, br, br_if, br_table, call, call_indirect, plain}
use Rattle.wasm_lang_valid.specs.Typing.{Context}
use Rattle.wasm_laws_write.specs.Fits.{FitsU32}
use Rattle.asm_lang.specs.Modules.{Stmt, block, if_only, if_else, while_loop, do_while, for_loop, labelled, switches, Stmts, no_stmts, stmts, Clauses, no_clauses, clauses}
use Rattle.asm_lang_valid.specs.LimitRows.{most_clauses}
use Rattle.asm2wasm_translation.specs.Bodies.{clauses_count}

-- ---- what an instruction names, a local, a global, a function, a type or a label, has a number below n, and an alignment is small

abbrev pub PlainNamesBelow : ℕ → Plain → Type 0
PlainNamesBelow n (local_get x) = x < n
PlainNamesBelow n (local_set x) = x < n
PlainNamesBelow n (local_tee x) = x < n
PlainNamesBelow n (global_get x) = x < n
PlainNamesBelow n (global_set x) = x < n
PlainNamesBelow n (load op align offset) = align < 128
PlainNamesBelow n (store op align offset) = align < 128
PlainNamesBelow n p = Unit {0}

abbrev pub NamesBelow : ℕ → Instruction → Type 0
NamesBelow n (br l) = l < n
NamesBelow n (br_if l) = l < n
NamesBelow n (br_table ls l) = All (λ k. k < n) ls × (l < n)
NamesBelow n (call f) = f < n
NamesBelow n (call_indirect t) = t < n
NamesBelow n (plain p) = PlainNamesBelow n p
NamesBelow n i = Unit {0}

-- a context that has at most n of each
pub record HasAtMost (n : ℕ) (c : Context) : Type 0 where
  pub types : length c.types ≤ n
  pub functions : length c.functions ≤ n
  pub globals : length c.globals ≤ n
  pub locals : length c.locals ≤ n

-- ---- constants and offsets are words, and no constant is wide

abbrev pub PlainConstantFits : Plain → Type 0
PlainConstantFits (load op align offset) = FitsU32 offset
PlainConstantFits (store op align offset) = FitsU32 offset
PlainConstantFits (const32 word) = word < 2 ^ 32
PlainConstantFits (const64 word) = ⊥
PlainConstantFits p = Unit {0}

abbrev pub ConstantFits : Instruction → Type 0
ConstantFits (plain p) = PlainConstantFits p
ConstantFits i = Unit {0}

-- ---- switches, none with more clauses than the limit and a default

abbrev mutual
  pub HasFewClauses : Stmt → Type 0
  HasFewClauses (block ss) = HaveFewClauses ss
  HasFewClauses (if_only e s) = HasFewClauses s
  HasFewClauses (if_else e s r) = HasFewClauses s × HasFewClauses r
  HasFewClauses (while_loop e s) = HasFewClauses s
  HasFewClauses (do_while s e) = HasFewClauses s
  HasFewClauses (for_loop x y z s) = HasFewClauses s
  HasFewClauses (labelled ns s) = HasFewClauses s
  HasFewClauses (switches e cs) = (clauses_count cs ≤ suc most_clauses) × EachHasFewClauses cs
  HasFewClauses _ = Unit {0}

  pub HaveFewClauses : Stmts → Type 0
  HaveFewClauses no_stmts = Unit {0}
  HaveFewClauses (stmts s ss) = HasFewClauses s × HaveFewClauses ss

  -- in each clause
  pub EachHasFewClauses : Clauses → Type 0
  EachHasFewClauses no_clauses = Unit {0}
  EachHasFewClauses (clauses v ss cs) = HaveFewClauses ss × EachHasFewClauses cs
