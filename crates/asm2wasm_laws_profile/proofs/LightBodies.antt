-- Each instruction of the code of statements and functions is a light one.
use Rattle.std.proofs.Common.{◌≡◌, ℕ, suc, true, false, List, [], ◌∷◌, ◌++◌, length, Option, Some, None, refl, ap}
use Rattle.std.specs.List.{AllByRecursion}
use Rattle.std.specs.Prelude.{if◌then◌else◌, ◌==◌, replicate, slice_get}
use Rattle.wasm_lang.specs.Instructions.{eqz32, local_set}
use Rattle.wasm_lang_exec.specs.Code.{Trees, ε, ◌▹◌, ◌⊕◌, block, if_block, br, br_if, return}
use Rattle.asm_lang.specs.Modules as text
use Rattle.asm_lang.specs.Modules.{Expr, Stmt, if_only, if_else, returns, while_loop, do_while, for_loop, breaks, continues, labelled, switches, empty, Stmts, no_stmts, stmts, Clauses, no_clauses, clauses, Variable, Function, Module}
use Rattle.wasm_laws_write.specs.Each.{EachIn}
use Rattle.asm_lang_valid.specs.Scope.{Meaning, nothing, an_int, an_outside, a_foreign, a_builtin, a_view, a_function, a_table, a_parameter}
use Rattle.asm_lang_valid.specs.Typed.{scope_of}
use Rattle.asm_lang_valid.specs.Typing.{Scope, named, values}
use Rattle.asm_lang_exec.specs.Meaning.{before_default}
use Rattle.asm2wasm_translation.specs.Values.{number, plains, one, expr_code}
use Rattle.asm2wasm_translation.specs.Bodies.{Label, plainly, breakable, named_end, again, loop_code, do_code, clauses_count, is_short, is_dense, table_branch, case_branches, dispatch, case_numbers, first_clause, all_further, part_code, test_code, value_local, number_local, stmt_code, stmts_code, short_code, long_code, literal_word, first_value, locals_code, last_code, body_code, function_code, in_body}
use Rattle.asm2wasm_laws_acceptance.proofs.Names.{of_module, table_stands}
use Rattle.asm2wasm_laws_profile.specs.Light.{IsLight}
use Rattle.asm2wasm_laws_profile.specs.Laws.{FunctionsAreLight}
use Rattle.asm2wasm_laws_profile.proofs.LightValues.{Light, joined, either_light, plains_or_none, NoTable, value_light}

-- ---- switches

branches_light : (t i : ℕ) (cs : Clauses) → Light (case_branches t i cs)
branches_light t i no_clauses = tt
branches_light t i (clauses None ss cs) = branches_light t (suc i) cs
branches_light t i (clauses (Some v) ss cs) = (tt, (tt, (tt, (tt, branches_light t (suc i) cs))))

numbers_light : (t k i : ℕ) (cs : Clauses) → Light (case_numbers t k i cs)
numbers_light t k i no_clauses = tt
numbers_light t k i (clauses None ss cs) = numbers_light t k (suc i) cs
numbers_light t k i (clauses (Some v) ss cs) =
    (tt, (tt, (tt, (tt, (tt, (tt, numbers_light t k (suc i) cs))))))

dispatch_light : (t : ℕ) (cs : Clauses) → Light (dispatch t cs)
dispatch_light t cs =
    let branches = joined (case_branches t 0 cs) (br (before_default cs) ▹ ε) (branches_light t 0 cs) (tt, tt) in
    either_light (is_dense (values cs)) (table_branch t cs) _ (tt, (tt, (tt, (tt, tt)))) branches

first_light : (t k : ℕ) (cs : Clauses) → Light (first_clause t k cs)
first_light t k cs =
    let last = plains (number (before_default cs) ∷ local_set k ∷ []) in
    (tt, joined (case_numbers t k 0 cs) last (numbers_light t k 0 cs) (tt, (tt, tt)), tt)

-- ---- loops

loop_light : (test body step : Trees) → Light test → Light body → Light step → Light (loop_code test body step)
loop_light test body step h i j =
    let turn = joined step again j (tt, tt) in
    (tt, (tt, joined test (block None body ▹ (step ⊕ again)) h (tt, i, turn), tt), tt)

do_light : (body test : Trees) → Light body → Light test → Light (do_code body test)
do_light body test h i =
    (tt, (tt, (tt, h, joined test (br_if 0 ▹ ε) i (tt, tt)), tt), tt)

-- ---- statements

module _ (heap : ℕ) (c : Scope) (none : (n : List ℕ) → NoTable (named c n)) where
  part_light : (o : Option Expr) → Light (part_code heap c o)
  part_light None = tt
  part_light (Some e) = value_light heap c none false 0 e

  test_light : (o : Option Expr) → Light (test_code heap c o)
  test_light None = tt
  test_light (Some e) = joined (expr_code heap c true 0 e) (one eqz32 ⊕ (br_if 1 ▹ ε)) (value_light heap c none true 0 e) (tt, (tt, tt))

  mutual
    stmt_light : (ls : List Label) (own : List (List ℕ)) (s : Stmt) → Light (stmt_code heap c ls own s)
    stmt_light ls own (text.block ss) = stmts_light ls ss
    stmt_light ls own (text.plain e) = value_light heap c none false 0 e
    stmt_light ls own empty = tt
    stmt_light ls own (if_only e s) =
        joined (expr_code heap c true 0 e) (if_block None (stmt_code heap c (plainly ∷ ls) [] s) ε ▹ ε) (value_light heap c none true 0 e)
        (tt, stmt_light (plainly ∷ ls) [] s, tt, tt)
    stmt_light ls own (if_else e s r) =
        joined (expr_code heap c true 0 e) (if_block None (stmt_code heap c (plainly ∷ ls) [] s) (stmt_code heap c (plainly ∷ ls) [] r) ▹ ε) (value_light heap c none true 0 e)
        (tt, stmt_light (plainly ∷ ls) [] s, stmt_light (plainly ∷ ls) [] r, tt)
    stmt_light ls own (returns None) = (tt, tt)
    stmt_light ls own (returns (Some e)) = joined (expr_code heap c true 0 e) (return ▹ ε) (value_light heap c none true 0 e) (tt, tt)
    stmt_light ls own (while_loop e s) = loop_light (test_code heap c (Some e)) (stmt_code heap c (in_body own ls) [] s) ε (test_light (Some e)) (stmt_light (in_body own ls) [] s) tt
    stmt_light ls own (do_while s e) = do_light (stmt_code heap c (in_body own ls) [] s) (expr_code heap c true 0 e) (stmt_light (in_body own ls) [] s) (value_light heap c none true 0 e)
    stmt_light ls own (for_loop x y z s) =
        let turns = loop_code (test_code heap c y) (stmt_code heap c (in_body own ls) [] s) (part_code heap c z) in
        let all = loop_light (test_code heap c y) (stmt_code heap c (in_body own ls) [] s) (part_code heap c z) (test_light y) (stmt_light (in_body own ls) [] s) (part_light z) in
        joined (part_code heap c x) turns (part_light x) all
    stmt_light ls own (breaks n) = (tt, tt)
    stmt_light ls own (continues n) = (tt, tt)
    stmt_light ls own (labelled ns s) = (tt, stmt_light (named_end ns ∷ ls) ns s, tt)
    stmt_light ls own (switches e cs) =
        let t = value_local heap c in
        let k = number_local heap c in
        let few = block None (short_code heap c ls (dispatch t cs) cs) ▹ ε in
        let many = first_clause t k cs ⊕ (block None (long_code heap c ls 0 cs) ▹ ε) in
        let is_few : Light few = (tt, short_light ls (dispatch t cs) cs (dispatch_light t cs), tt) in
        let is_many = joined (first_clause t k cs) (block None (long_code heap c ls 0 cs) ▹ ε) (first_light t k cs) (tt, long_light ls 0 cs, tt) in
        joined (expr_code heap c true 0 e) (one (local_set t) ⊕ (if is_short cs then few else many)) (value_light heap c none true 0 e)
        (tt, either_light (is_short cs) few many is_few is_many)

    stmts_light : (ls : List Label) (ss : Stmts) → Light (stmts_code heap c ls ss)
    stmts_light ls no_stmts = tt
    stmts_light ls (stmts s ss) = joined (stmt_code heap c ls [] s) (stmts_code heap c ls ss) (stmt_light ls [] s) (stmts_light ls ss)

    short_light : (ls : List Label) (inside : Trees) (cs : Clauses) → Light inside → Light (short_code heap c ls inside cs)
    short_light ls inside no_clauses h = h
    short_light ls inside (clauses v ss cs) h =
        let under = replicate (clauses_count cs) plainly ++ breakable ∷ ls in
        short_light ls (block None inside ▹ stmts_code heap c under ss) cs (tt, h, stmts_light under ss)

    long_light : (ls : List Label) (j : ℕ) (cs : Clauses) → Light (long_code heap c ls j cs)
    long_light ls n no_clauses = tt
    long_light ls n (clauses v ss cs) =
        let k = number_local heap c in
        let clause = joined (stmts_code heap c (plainly ∷ breakable ∷ ls) ss) (all_further k) (stmts_light (plainly ∷ breakable ∷ ls) ss) (tt, (tt, tt)) in
        (tt, (tt, (tt, (tt, clause, tt, long_light ls (suc n) cs))))

  -- ---- functions

  last_light : (s : Stmt) → Light (last_code heap c s)
  last_light (returns (Some e)) = value_light heap c none true 0 e
  last_light s = stmt_light [] [] s

  body_light : (ss : Stmts) → Light (body_code heap c ss)
  body_light no_stmts = tt
  body_light (stmts s no_stmts) = last_light s
  body_light (stmts s (stmts r rs)) = joined (stmt_code heap c [] [] s) (body_code heap c (stmts r rs)) (stmt_light [] [] s) (body_light (stmts r rs))

  locals_light : (i : ℕ) (vs : List Variable) → Light (locals_code heap c i vs)
  locals_light i [] = tt
  locals_light i (v ∷ vs) =
      let word = literal_word heap c v.init in
      joined (plains (first_value heap c i word)) (locals_code heap c (suc i) vs) (plains_or_none (word == 0) _ (tt, (tt, tt))) (locals_light (suc i) vs)

  function_light : Light (function_code heap c)
  function_light =
      let i = length c.within.params in
      joined (locals_code heap c i c.within.locals) (body_code heap c c.within.body) (locals_light i c.within.locals) (body_light c.within.body)

-- ---- modules

no_tables : (m : Module) (f : Function) (n : List ℕ) → m.tables ≡ [] → NoTable (named (scope_of m f) n)
no_tables m f n none = by (named (scope_of m f) n) refl
  where
    by : (x : Meaning) → named (scope_of m f) n ≡ x → NoTable x
    by (a_table t) e =
        let stands = table_stands m n t (of_module m f n (a_table t) refl e) in
        let there = stands.is_table in
        let absent : slice_get m.tables stands.place ≡ None = ap (λ ts. slice_get ts stands.place) none in
        absurd (cc (there, absent))
    by nothing e = tt
    by an_int e = tt
    by an_outside e = tt
    by (a_foreign p) e = tt
    by (a_builtin b) e = tt
    by (a_view v) e = tt
    by (a_function g) e = tt
    by a_parameter e = tt

pub functions_are_light : FunctionsAreLight
functions_are_light m heap none = each m.functions
  where
    each : (fs : List Function) → AllByRecursion (λ (f : Function). EachIn IsLight (function_code heap (scope_of m f))) fs
    each [] = tt
    each (f ∷ fs) = (function_light heap (scope_of m f) (λ n. no_tables m f n none), each fs)
