-- Each instruction of the code of statements and functions has an opcode.
use Rattle.std.proofs.Common.{ℕ, suc, true, false, List, [], ◌∷◌, ◌++◌, length, Option, Some, None}
use Rattle.std.specs.Prelude.{if◌then◌else◌, ◌==◌, replicate}
use Rattle.sem_words.specs.declared.word.Rel.TheVariants as rels
use Rattle.sem_words.specs.declared.word.Bin.TheVariants as bins
use Rattle.wasm_lang.specs.Instructions.{eqz32, local_set}
use Rattle.wasm_lang_exec.specs.Code.{Trees, ε, ◌▹◌, ◌⊕◌, block, if_block, br, br_if, return}
use Rattle.asm_lang.specs.Modules as text
use Rattle.asm_lang.specs.Modules.{Expr, Stmt, if_only, if_else, returns, while_loop, do_while, for_loop, breaks, continues, labelled, switches, empty, Stmts, no_stmts, stmts, Clauses, no_clauses, clauses, Variable}
use Rattle.asm_lang_valid.specs.Typing.{Scope, values}
use Rattle.asm_lang_exec.specs.Meaning.{before_default}
use Rattle.asm2wasm_translation.specs.Values.{number, plains, one, expr_code}
use Rattle.asm2wasm_translation.specs.Bodies.{Label, plainly, breakable, named_end, again, loop_code, do_code, clauses_count, is_short, is_dense, table_branch, case_branches, dispatch, case_numbers, first_clause, all_further, part_code, test_code, value_local, number_local, stmt_code, stmts_code, short_code, long_code, literal_word, first_value, locals_code, last_code, body_code, in_body}
use Rattle.asm2wasm_laws_writable.specs.OpcodesLaws.{StatementsHaveOpcodes, FunctionsHaveOpcodes}
use Rattle.asm2wasm_laws_writable.proofs.OpcodesOfValues.{Opcodes, joined, either_opcodes, plains_or_none, block_opcode, loop_opcode, if_opcode, br_opcode, br_if_opcode, br_table_opcode, return_opcode, get_opcode, set_opcode, number_opcode, eqz_opcode, rel_opcode, bin_opcode, value_opcodes}

-- ---- switches

branches_opcodes : (t i : ℕ) (cs : Clauses) → Opcodes (case_branches t i cs)
branches_opcodes t i no_clauses = tt
branches_opcodes t i (clauses None ss cs) = branches_opcodes t (suc i) cs
branches_opcodes t i (clauses (Some v) ss cs) = (get_opcode t, (number_opcode 0, (rel_opcode rels.Eq, (br_if_opcode i, branches_opcodes t (suc i) cs))))

numbers_opcodes : (t k i : ℕ) (cs : Clauses) → Opcodes (case_numbers t k i cs)
numbers_opcodes t k i no_clauses = tt
numbers_opcodes t k i (clauses None ss cs) = numbers_opcodes t k (suc i) cs
numbers_opcodes t k i (clauses (Some v) ss cs) =
    (number_opcode i, (set_opcode k, (get_opcode t, (number_opcode 0, (rel_opcode rels.Eq, (br_if_opcode 0, numbers_opcodes t k (suc i) cs))))))

dispatch_opcodes : (t : ℕ) (cs : Clauses) → Opcodes (dispatch t cs)
dispatch_opcodes t cs =
    let branches = joined (case_branches t 0 cs) (br (before_default cs) ▹ ε) (branches_opcodes t 0 cs) (br_opcode 0, tt) in
    either_opcodes (is_dense (values cs)) (table_branch t cs) _ (get_opcode t, (number_opcode 0, (bin_opcode bins.Sub, (br_table_opcode [] 0, tt)))) branches

first_opcodes : (t k : ℕ) (cs : Clauses) → Opcodes (first_clause t k cs)
first_opcodes t k cs =
    let last = plains (number (before_default cs) ∷ local_set k ∷ []) in
    (block_opcode None, joined (case_numbers t k 0 cs) last (numbers_opcodes t k 0 cs) (number_opcode 0, (set_opcode k, tt)), tt)

-- ---- loops

loop_opcodes : (test body step : Trees) → Opcodes test → Opcodes body → Opcodes step → Opcodes (loop_code test body step)
loop_opcodes test body step h i j =
    let turn = joined step again j (br_opcode 0, tt) in
    (block_opcode None, (loop_opcode None, joined test (block None body ▹ (step ⊕ again)) h (block_opcode None, i, turn), tt), tt)

do_opcodes : (body test : Trees) → Opcodes body → Opcodes test → Opcodes (do_code body test)
do_opcodes body test h i =
    (block_opcode None, (loop_opcode None, (block_opcode None, h, joined test (br_if 0 ▹ ε) i (br_if_opcode 0, tt)), tt), tt)

-- ---- statements

module _ (heap : ℕ) (c : Scope) where
  part_opcodes : (o : Option Expr) → Opcodes (part_code heap c o)
  part_opcodes None = tt
  part_opcodes (Some e) = value_opcodes heap c false 0 e

  test_opcodes : (o : Option Expr) → Opcodes (test_code heap c o)
  test_opcodes None = tt
  test_opcodes (Some e) = joined (expr_code heap c true 0 e) (one eqz32 ⊕ (br_if 1 ▹ ε)) (value_opcodes heap c true 0 e) (eqz_opcode, (br_if_opcode 1, tt))

  mutual
    pub stmt_opcodes : (ls : List Label) (own : List (List ℕ)) (s : Stmt) → Opcodes (stmt_code heap c ls own s)
    stmt_opcodes ls own (text.block ss) = stmts_opcodes ls ss
    stmt_opcodes ls own (text.plain e) = value_opcodes heap c false 0 e
    stmt_opcodes ls own empty = tt
    stmt_opcodes ls own (if_only e s) =
        joined (expr_code heap c true 0 e) (if_block None (stmt_code heap c (plainly ∷ ls) [] s) ε ▹ ε) (value_opcodes heap c true 0 e)
        (if_opcode None, stmt_opcodes (plainly ∷ ls) [] s, tt, tt)
    stmt_opcodes ls own (if_else e s r) =
        joined (expr_code heap c true 0 e) (if_block None (stmt_code heap c (plainly ∷ ls) [] s) (stmt_code heap c (plainly ∷ ls) [] r) ▹ ε) (value_opcodes heap c true 0 e)
        (if_opcode None, stmt_opcodes (plainly ∷ ls) [] s, stmt_opcodes (plainly ∷ ls) [] r, tt)
    stmt_opcodes ls own (returns None) = (return_opcode, tt)
    stmt_opcodes ls own (returns (Some e)) = joined (expr_code heap c true 0 e) (return ▹ ε) (value_opcodes heap c true 0 e) (return_opcode, tt)
    stmt_opcodes ls own (while_loop e s) = loop_opcodes (test_code heap c (Some e)) (stmt_code heap c (in_body own ls) [] s) ε (test_opcodes (Some e)) (stmt_opcodes (in_body own ls) [] s) tt
    stmt_opcodes ls own (do_while s e) = do_opcodes (stmt_code heap c (in_body own ls) [] s) (expr_code heap c true 0 e) (stmt_opcodes (in_body own ls) [] s) (value_opcodes heap c true 0 e)
    stmt_opcodes ls own (for_loop x y z s) =
        let turns = loop_code (test_code heap c y) (stmt_code heap c (in_body own ls) [] s) (part_code heap c z) in
        let all = loop_opcodes (test_code heap c y) (stmt_code heap c (in_body own ls) [] s) (part_code heap c z) (test_opcodes y) (stmt_opcodes (in_body own ls) [] s) (part_opcodes z) in
        joined (part_code heap c x) turns (part_opcodes x) all
    stmt_opcodes ls own (breaks n) = (br_opcode 0, tt)
    stmt_opcodes ls own (continues n) = (br_opcode 0, tt)
    stmt_opcodes ls own (labelled ns s) = (block_opcode None, stmt_opcodes (named_end ns ∷ ls) ns s, tt)
    stmt_opcodes ls own (switches e cs) =
        let t = value_local heap c in
        let k = number_local heap c in
        let few = block None (short_code heap c ls (dispatch t cs) cs) ▹ ε in
        let many = first_clause t k cs ⊕ (block None (long_code heap c ls 0 cs) ▹ ε) in
        let is_few : Opcodes few = (block_opcode None, short_opcodes ls (dispatch t cs) cs (dispatch_opcodes t cs), tt) in
        let is_many = joined (first_clause t k cs) (block None (long_code heap c ls 0 cs) ▹ ε) (first_opcodes t k cs) (block_opcode None, long_opcodes ls 0 cs, tt) in
        joined (expr_code heap c true 0 e) (one (local_set t) ⊕ (if is_short cs then few else many)) (value_opcodes heap c true 0 e)
        (set_opcode t, either_opcodes (is_short cs) few many is_few is_many)

    pub stmts_opcodes : (ls : List Label) (ss : Stmts) → Opcodes (stmts_code heap c ls ss)
    stmts_opcodes ls no_stmts = tt
    stmts_opcodes ls (stmts s ss) = joined (stmt_code heap c ls [] s) (stmts_code heap c ls ss) (stmt_opcodes ls [] s) (stmts_opcodes ls ss)

    short_opcodes : (ls : List Label) (inside : Trees) (cs : Clauses) → Opcodes inside → Opcodes (short_code heap c ls inside cs)
    short_opcodes ls inside no_clauses h = h
    short_opcodes ls inside (clauses v ss cs) h =
        let under = replicate (clauses_count cs) plainly ++ breakable ∷ ls in
        short_opcodes ls (block None inside ▹ stmts_code heap c under ss) cs (block_opcode None, h, stmts_opcodes under ss)

    long_opcodes : (ls : List Label) (j : ℕ) (cs : Clauses) → Opcodes (long_code heap c ls j cs)
    long_opcodes ls n no_clauses = tt
    long_opcodes ls n (clauses v ss cs) =
        let k = number_local heap c in
        let clause = joined (stmts_code heap c (plainly ∷ breakable ∷ ls) ss) (all_further k) (stmts_opcodes (plainly ∷ breakable ∷ ls) ss) (number_opcode 0, (set_opcode k, tt)) in
        (get_opcode k, (number_opcode n, (rel_opcode rels.LeU, (if_opcode None, clause, tt, long_opcodes ls (suc n) cs))))

  -- ---- functions

  last_opcodes : (s : Stmt) → Opcodes (last_code heap c s)
  last_opcodes (returns (Some e)) = value_opcodes heap c true 0 e
  last_opcodes s = stmt_opcodes [] [] s

  body_opcodes : (ss : Stmts) → Opcodes (body_code heap c ss)
  body_opcodes no_stmts = tt
  body_opcodes (stmts s no_stmts) = last_opcodes s
  body_opcodes (stmts s (stmts r rs)) = joined (stmt_code heap c [] [] s) (body_code heap c (stmts r rs)) (stmt_opcodes [] [] s) (body_opcodes (stmts r rs))

  locals_opcodes : (i : ℕ) (vs : List Variable) → Opcodes (locals_code heap c i vs)
  locals_opcodes i [] = tt
  locals_opcodes i (v ∷ vs) =
      let word = literal_word heap c v.init in
      joined (plains (first_value heap c i word)) (locals_code heap c (suc i) vs) (plains_or_none (word == 0) _ (number_opcode word, (set_opcode i, tt))) (locals_opcodes (suc i) vs)

pub statements_have_opcodes : StatementsHaveOpcodes
statements_have_opcodes = stmt_opcodes

pub functions_have_opcodes : FunctionsHaveOpcodes
functions_have_opcodes heap c =
    let i = length c.within.params in
    joined (locals_code heap c i c.within.locals) (body_code heap c c.within.body) (locals_opcodes heap c i c.within.locals) (body_opcodes heap c c.within.body)
