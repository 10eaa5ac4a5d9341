-- Switches of an accepted module that a text says have at most as many cases as the limit, and a default.
use Rattle.std.proofs.Common.{◌≡◌, ℕ, suc, ◌+◌, ◌≤◌, true, List, [], ◌∷◌, ◌++◌, length, Some, None, arith}
use Rattle.std.specs.Prelude.{nat_le}
use Rattle.std.specs.List.{AllByRecursion}
use Rattle.std.proofs.lemmas.Bool.Decides.{nat_tests}
use Rattle.asm_lang.specs.Modules.{Stmt, block, plain, empty, if_only, if_else, returns, while_loop, do_while, for_loop, breaks, continues, labelled, switches, Stmts, no_stmts, stmts, Clauses, no_clauses, clauses, Function, Module}
use Rattle.asm_lang_valid.specs.declared.rule.Rule.TheVariants.{PastLimit}
use Rattle.asm_lang_valid.specs.Rows.{need, expr_count, option_count, stmt_count, stmts_count, body_at, function_count, functions_at}
use Rattle.asm_lang_valid.specs.Typed.{scope_of}
use Rattle.asm_lang_valid.specs.Typing.{Scope}
use Rattle.asm_lang_valid.specs.LimitRows.{rows_of, expr_marks, part_marks, option_marks, clauses_length, stmt_marks, stmts_marks, clauses_marks, counted, names_marks, function_marks, functions_marks, most_functions, most_params, most_locals, most_clauses}
use Rattle.asm_laws_print.specs.Fitting.{FitsStmt, FitsStmts, FitsClauses, FitsFunction}
use Rattle.asm_laws_print.proofs.Printed.{well_formed_fits}
use Rattle.asm2wasm_translation.specs.Bodies.{clauses_count}
use Rattle.asm2wasm_laws_within.proofs.Marks.{NoRows, rows_split, held}
use Rattle.asm2wasm_laws_within.proofs.Within.{functions_meet_no_row}
use Rattle.asm2wasm_laws_writable.specs.Parts.{HasFewClauses, HaveFewClauses, EachHasFewClauses}
use Rattle.asm2wasm_laws_writable.specs.Laws.{ClausesAreFew}

-- ---- a default is the last clause

one_default : (cs : Clauses) → FitsClauses cs → clauses_count cs ≤ suc (clauses_length cs)
one_default no_clauses fits = omega arith
one_default (clauses None ss no_clauses) fits = omega arith
one_default (clauses None ss (clauses v rs cs)) fits = let last = fits.1 in absurd (cc last)
one_default (clauses (Some v) ss cs) fits = let rest = one_default cs fits.2 in omega (arith, rest)

few_clauses : (cs : Clauses) (at : ℕ) → FitsClauses cs → NoRows (rows_of (need (nat_le (clauses_length cs) most_clauses) PastLimit at)) → clauses_count cs ≤ suc most_clauses
few_clauses cs at fits none =
    let is : nat_le (clauses_length cs) most_clauses ≡ true = held (nat_le (clauses_length cs) most_clauses) at none in
    let few : clauses_length cs ≤ most_clauses = grind (arith, nat_tests) in
    let all = one_default cs fits in
    omega (arith, few, all)

-- ---- statements

module _ (c : Scope) where
  mutual
    stmt_few : (at : ℕ) (s : Stmt) → FitsStmt s → NoRows (stmt_marks c at s) → HasFewClauses s
    stmt_few at (block ss) fits h = stmts_few (at + 1) ss fits h
    stmt_few at (plain e) fits h = tt
    stmt_few at empty fits h = tt
    stmt_few at (if_only e s) fits h = stmt_few (at + 1 + expr_count e) s fits.1 (rows_split (expr_marks c (at + 1) e) (stmt_marks c (at + 1 + expr_count e) s) h).1
    stmt_few at (if_else e s r) fits h =
        let first = stmt_marks c (at + 1 + expr_count e) s in
        let second = stmt_marks c (at + 1 + expr_count e + stmt_count s) r in
        let both = rows_split first second (rows_split (expr_marks c (at + 1) e) (first ++ second) h).1 in
        (stmt_few (at + 1 + expr_count e) s fits.2 both.0, stmt_few (at + 1 + expr_count e + stmt_count s) r fits.3 both.1)
    stmt_few at (returns o) fits h = tt
    stmt_few at (while_loop e s) fits h = stmt_few (at + 1 + expr_count e) s fits.1 (rows_split (expr_marks c (at + 1) e) (stmt_marks c (at + 1 + expr_count e) s) h).1
    stmt_few at (do_while s e) fits h = stmt_few (at + 1) s fits.0 (rows_split (stmt_marks c (at + 1) s) (expr_marks c (at + 1 + stmt_count s) e) h).0
    stmt_few at (for_loop x y z s) fits h =
        let at1 = at + 1 + option_count x in
        let at2 = at + 1 + option_count x + option_count y in
        let at3 = at + 1 + option_count x + option_count y + option_count z in
        let body = stmt_marks c at3 s in
        let step = part_marks c at2 z ++ body in
        let first = rows_split (part_marks c (at + 1) x) (option_marks c at1 y ++ step) h in
        let second = rows_split (option_marks c at1 y) step first.1 in
        stmt_few at3 s fits.3 (rows_split (part_marks c at2 z) body second.1).1
    stmt_few at (breaks l) fits h = tt
    stmt_few at (continues l) fits h = tt
    stmt_few at (labelled ls s) fits h = stmt_few (at + 1) s fits.3 h
    stmt_few at (switches e cs) fits h =
        let row = rows_of (need (nat_le (clauses_length cs) most_clauses) PastLimit at) in
        let inside = clauses_marks c (at + 1 + expr_count e) cs in
        let parts = rows_split row inside (rows_split (expr_marks c (at + 1) e) (row ++ inside) h).1 in
        (few_clauses cs at fits.1 parts.0, clauses_few (at + 1 + expr_count e) cs fits.1 parts.1)

    stmts_few : (at : ℕ) (ss : Stmts) → FitsStmts ss → NoRows (stmts_marks c at ss) → HaveFewClauses ss
    stmts_few at no_stmts fits h = tt
    stmts_few at (stmts s ss) fits h =
        let parts = rows_split (stmt_marks c at s) (stmts_marks c (at + stmt_count s) ss) h in
        (stmt_few at s fits.0 parts.0, stmts_few (at + stmt_count s) ss fits.1 parts.1)

    clauses_few : (at : ℕ) (cs : Clauses) → FitsClauses cs → NoRows (clauses_marks c at cs) → EachHasFewClauses cs
    clauses_few at no_clauses fits h = tt
    clauses_few at (clauses None ss no_clauses) fits h = (stmts_few at ss fits.0 (rows_split (stmts_marks c at ss) [] h).0, tt)
    clauses_few at (clauses None ss (clauses v rs cs)) fits h = let last = fits.1 in absurd (cc last)
    clauses_few at (clauses (Some v) ss cs) fits h =
        let parts = rows_split (stmts_marks c at ss) (clauses_marks c (at + stmts_count ss) cs) h in
        (stmts_few at ss fits.1 parts.0, clauses_few (at + stmts_count ss) cs fits.2 parts.1)

-- ---- functions

function_few : (m : Module) (before at : ℕ) (f : Function) → FitsFunction f → NoRows (function_marks m before at f) → HaveFewClauses f.body
function_few m before at f fits h =
    let body = stmts_marks (scope_of m f) (body_at f at) f.body in
    let locals = names_marks (length f.params) most_locals (at + 1 + length f.params) f.locals in
    let params = names_marks 0 most_params (at + 1) f.params in
    let first = rows_split (counted before most_functions at) (params ++ (locals ++ body)) h in
    let second = rows_split params (locals ++ body) first.1 in
    stmts_few (scope_of m f) (body_at f at) f.body fits.body (rows_split locals body second.1).1

functions_few : (m : Module) (fs : List Function) (before at : ℕ) → AllByRecursion FitsFunction fs → NoRows (functions_marks m before at fs) → AllByRecursion (λ (f : Function). HaveFewClauses f.body) fs
functions_few m [] before at fits h = tt
functions_few m (f ∷ fs) before at fits h =
    let parts = rows_split (function_marks m before at f) (functions_marks m (before + 1) (at + function_count f) fs) h in
    (function_few m before at f fits.0 parts.0, functions_few m fs (before + 1) (at + function_count f) fits.1 parts.1)

pub clauses_are_few : ClausesAreFew
clauses_are_few m ok formed = functions_few m m.functions 0 (functions_at m) (well_formed_fits m formed).functions (functions_meet_no_row m ok)
