-- The bound never falls and no peak is above it: a module is at least as high as each peak on the way to it.
use Rattle.std.proofs.Common.{ℕ, ◌≡◌, ◌≤◌, ◌+◌, Bool, true, false, max, List, [], ◌∷◌, ◌++◌, Option, Some, None, Ok, ap, arith}
use Rattle.std.specs.Prelude.{◌==◌, codes, bytes_eq, pos, neg_ℤ}
use Rattle.sem_words.specs.declared.js_value.JsOp.TheVariants.{Add, Sub, Or}
use Rattle.asm_lang.specs.Lexemes.{Class, identifier, function_word, new_word, return_word, var_word, while_word, a_number, a_decimal, directive, open_brace, close_brace, open_bracket, dot, semicolon, comma, operator, Lexeme, is_word, named}
use Rattle.asm_lang.specs.Trees.{variable, element, plain, empty, if_only, StmtTrees, no_stmt, no_clause, one_clause, Init, number, decimal, foreign_int, foreign_double, member, math, view, VariableTree, ParamTree, FunctionTree, TableTree, ExportTree, ExportsTree, one, many, Heading, ModuleTree}
use Rattle.asm_lang.specs.Machine as machine
use Rattle.asm_lang.specs.Machine.{same_class, meets, is_quiet, State, closes, at_expr, after_minus, after_name, after_index, after_expr, at_arguments, in_rest, ends, ends_do, at_stmt, after_stmt_name, at_option, at_return, at_target, after_arm, after_body, at_stmts, at_clauses, in_case, at_literal, after_sign, at_init, after_member, in_names, at_marks, at_locals, in_locals, may_comma, at_use, at_globals, at_value, in_globals, at_functions, at_tables, in_tables, at_export, at_exports, in_exports, at_end, Step, goes, expects, either, refuses, stuck, literal_by, sign_by, init_by, member_by, names_by, int_mark, double_mark, mark_step, variable_of, local_step, locals_by, in_locals_by, export_by, members_step, table_step, body_step, function_step, globals_by, value_by, in_globals_by, functions_by, tables_by, in_tables_by, exports_step, in_exports_by, use_by, end_step, comma_by, feed, advance, ended, run, params_step, heading_step, at_start}
use Rattle.asm_lang.specs.TreeHeights.{block_height, whole_height}
use Rattle.asm_laws_height.specs.Peaks.{peak, step_peak}
use Rattle.asm_laws_height.proofs.Sizes.{last_below, bodies, bodies_more, last_function_low, bodies_low}
use Rattle.asm_laws_height.proofs.Bounds.{no_init, no_token, bound, step_bound, Holds, Flat, none, Kept, KeptStep, Rises}
use Rattle.asm_laws_height.proofs.Holding.{up_stmt}
use Rattle.asm_laws_height.proofs.Rising.{by_test, rises_to, expr_rises, minus_rises, infix_rises, name_rises, index_rises, arguments_rise, rest_rises, end_rises, do_end_rises, stmt_rises, stmt_name_rises, option_rises, return_rises, target_rises, arm_rises, stmts_rise, clauses_rise, in_case_rises}

same : (n : ℕ) → n ≤ n
same n = omega arith

-- ---- declarations

abbrev FlatInit : (Init → State) → Type 0
FlatInit k = Flat (λ (i : Init). bound (k i))

abbrev KeptInit : (Init → State) → Type 0
KeptInit k = (i : Init) → Kept (k i)

literal_rises : (c : Class) (t : Lexeme) (d : Bool) (k : Init → State) → FlatInit k → KeptInit k → Rises (bound (k no_init)) (literal_by c t d k)
literal_rises a_number t d k h g = (h no_init (number (pos t.value)), g (number (pos t.value)))
literal_rises a_decimal t d k h g = by_test (bound (k no_init)) d (goes (k (decimal t.text))) (stuck t) (λ yes. (h no_init (decimal t.text), g (decimal t.text))) (λ no. tt)
literal_rises (operator Sub) t d k h g = (same (bound (k no_init)), (h, g))
literal_rises _ t d k h g = tt

sign_rises : (c : Class) (t : Lexeme) (d : Bool) (m : Lexeme) (k : Init → State) → FlatInit k → KeptInit k → Rises (bound (k no_init)) (sign_by c t d m k)
sign_rises a_number t d m k h g = by_test (bound (k no_init)) (t.value == 0) (stuck t) _ (λ zero. tt) (λ no. (h no_init (number (neg_ℤ (pos t.value))), g (number (neg_ℤ (pos t.value)))))
sign_rises a_decimal t d m k h g = by_test (bound (k no_init)) d _ (stuck t) (λ yes. (h no_init (decimal (45 ∷ t.text)), g (decimal (45 ∷ t.text)))) (λ no. tt)
sign_rises _ t d m k h g = tt

init_rises : (c : Class) (t : Lexeme) (k : Init → State) → FlatInit k → KeptInit k → Rises (bound (k no_init)) (init_by c t k)
init_rises identifier f k h g = (h no_init (member f.text no_token.text), λ t. (same _, λ p. (h (member f.text no_token.text) (member f.text p.text), (h, g))))
init_rises (operator Add) t k h g = (
  h no_init (foreign_double no_token.text no_token.text),
  λ f. (h (foreign_double no_token.text no_token.text) (foreign_double f.text no_token.text), λ u. (same _, λ p. (h (foreign_double f.text no_token.text) (foreign_double f.text p.text), g (foreign_double f.text p.text)))),
)
init_rises new_word t k h g = (
  h no_init (view no_token.text no_token.text no_token.text),
  λ f. (h _ _, λ u. (same _, λ p. (h _ _, λ v. (same _, λ b. (h _ _, λ w. (same _, g (view f.text p.text b.text))))))),
)
init_rises c t k h g = literal_rises c t true k h g

member_rises : (c : Class) (t : Lexeme) (f p : Lexeme) (k : Init → State) (last : Step) → FlatInit k → KeptInit k → Rises (bound (k (member f.text p.text))) last → Rises (bound (k (member f.text p.text))) (member_by c t f p k last)
member_rises (operator Or) t f p k last h g r = (h (member f.text p.text) (foreign_int f.text p.text), λ u. (same _, g (foreign_int f.text p.text)))
member_rises dot t f p k last h g r = by_test (bound (k (member f.text p.text))) (bytes_eq (codes "Math") p.text) _ (stuck t)
    (λ yes. (h (member f.text p.text) (math f.text no_token.text), λ q. (h (math f.text no_token.text) (math f.text q.text), g (math f.text q.text))))
    (λ no. tt)
member_rises _ t f p k last h g r = r

names_rise : (d : Class) (t : Lexeme) (c : Class) (q : is_quiet c ≡ true) (ns : List Lexeme) (k : List Lexeme → Step) → Flat (λ (ms : List Lexeme). step_bound (k ms)) → ((ms : List Lexeme) → KeptStep (k ms)) → Rises (step_bound (k ns)) (names_by d t c q ns k)
names_rise comma t c q ns k h g = (h ns (ns ++ no_token ∷ []), λ n. (h (ns ++ no_token ∷ []) (ns ++ n ∷ []), (h, g)))
names_rise d t c q ns k h g = by_test (step_bound (k ns)) (same_class c d) (k ns) (stuck t) (λ yes. rises_to (step_bound (k ns)) (k ns) (same (step_bound (k ns))) (g ns)) (λ no. tt)

mark_rises : (t p : Lexeme) (ps : List Lexeme) (ds : List ParamTree) (k : List ParamTree → State) → Flat (λ (es : List ParamTree). bound (k es)) → ((es : List ParamTree) → Kept (k es)) → Rises (bound (k ds)) (mark_step t p ps ds k)
mark_rises t p ps ds k h g = by_test (bound (k ds)) (meets (named p.text) t) _ (stuck t)
    (λ yes. (
      h ds (ds ++ double_mark p ∷ []),
      λ b. (
        same _,
        (
          λ c. (h (ds ++ double_mark p ∷ []) (ds ++ int_mark p ∷ []), λ d. (same _, λ e. (same _, (h, g)))),
          λ d. (same _, (h, g)),
        ),
      ),
    ))
    (λ no. tt)

local_rises : (ls : List VariableTree) (k : List VariableTree → State) → Flat (λ (ds : List VariableTree). bound (k ds)) → ((ds : List VariableTree) → Kept (k ds)) → Rises (bound (k ls)) (local_step ls k)
local_rises ls k h g = (
  h ls (ls ++ variable_of no_token no_init ∷ []),
  λ n. (h (ls ++ variable_of no_token no_init ∷ []) (ls ++ variable_of n no_init ∷ []), λ t. (same _, (λ i j. h (ls ++ variable_of n i ∷ []) (ls ++ variable_of n j ∷ []), λ i. (h, g)))),
)

locals_rise : (c : Class) (ls : List VariableTree) (k : List VariableTree → State) (last : Step) → Flat (λ (ds : List VariableTree). bound (k ds)) → ((ds : List VariableTree) → Kept (k ds)) → Rises (bound (k ls)) last → Rises (bound (k ls)) (locals_by c ls k last)
locals_rise var_word ls k last h g r = local_rises ls k h g
locals_rise _ ls k last h g r = r

in_locals_rise : (c : Class) (t : Lexeme) (ls : List VariableTree) (k : List VariableTree → State) (last : Step) → Flat (λ (ds : List VariableTree). bound (k ds)) → ((ds : List VariableTree) → Kept (k ds)) → Rises (bound (k ls)) last
    → Rises (bound (k ls)) (in_locals_by c t ls k last)
in_locals_rise comma t ls k last h g r = local_rises ls k h g
in_locals_rise c t ls k last h g r = end_rises c t (at_locals ls k) last (h, g) r

-- ---- modules

module_bound : (h : Heading) (gs : List VariableTree) (fs : List FunctionTree) (ts : List TableTree) (ex : ExportsTree) → 1 + bodies fs ≤ whole_height (machine.module_of h gs fs ts ex)
module_bound h gs fs ts ex = omega (arith, bodies_low fs)

export_rises : (c : Class) (t : Lexeme) (h : Heading) (gs : List VariableTree) (fs : List FunctionTree) (ts : List TableTree) → Rises (1 + bodies fs) (export_by c t h gs fs ts)
export_rises identifier t h gs fs ts = (module_bound h gs fs ts (one t.at t.text), tt)
export_rises open_brace t h gs fs ts = (module_bound h gs fs ts (many []), λ es. (omega arith, tt))
export_rises _ t h gs fs ts = tt

members_rise : (n : Lexeme) (h : Heading) (gs : List VariableTree) (fs : List FunctionTree) (ts : List TableTree) → Rises (1 + bodies fs) (members_step n h gs fs ts)
members_rise n h gs fs ts = (same _, λ m. (same _, (λ a b. same _, λ ms. tt)))

table_rises : (h : Heading) (gs : List VariableTree) (fs : List FunctionTree) (ts : List TableTree) → Rises (1 + bodies fs) (table_step h gs fs ts)
table_rises h gs fs ts = (same _, λ n. (same _, λ u. (same _, λ v. (same _, λ m. (same _, (λ a b. same _, λ ms. tt))))))

-- ---- functions

with_body_is : (fs : List FunctionTree) (n : Lexeme) (ds : List ParamTree) (ls : List VariableTree) (ss : StmtTrees) → 1 + bodies (fs ++ machine.function_of n ds ls ss ∷ []) ≡ 1 + max (bodies fs) (1 + block_height ss)
with_body_is fs n ds ls ss = omega (arith, bodies_more fs (machine.function_of n ds ls ss))

alike : (fs : List FunctionTree) (n m : Lexeme) (ds es : List ParamTree) (ls ks : List VariableTree) (ss : StmtTrees) → 1 + bodies (fs ++ machine.function_of n ds ls ss ∷ []) ≤ 1 + bodies (fs ++ machine.function_of m es ks ss ∷ [])
alike fs n m ds es ls ks ss = omega (arith, with_body_is fs n ds ls ss, with_body_is fs m es ks ss)

body_holds : (fs : List FunctionTree) (n : Lexeme) (ds : List ParamTree) (ls : List VariableTree) → Holds block_height (λ ss. 1 + bodies (fs ++ machine.function_of n ds ls ss ∷ [])) none
body_holds fs n ds ls = record {
  covers = λ ss. omega (arith, with_body_is fs n ds ls ss);
  rises = λ d a b le. omega (arith, with_body_is fs n ds ls a, with_body_is fs n ds ls b);
  tops = λ ss. omega (arith, with_body_is fs n ds ls ss);
}

body_kept : (n : Lexeme) (ps : List Lexeme) (h : Heading) (gs : List VariableTree) (fs : List FunctionTree) → KeptStep (body_step n ps h gs fs)
body_kept n ps h gs fs = λ u. (same _, (λ a b. alike fs n n a b [] [] no_stmt, λ ds. (λ a b. alike fs n n ds ds a b no_stmt, λ ls. (body_holds fs n ds ls, λ ss. tt))))

function_rises : (h : Heading) (gs : List VariableTree) (fs : List FunctionTree) → Rises (1 + bodies fs) (function_step h gs fs)
function_rises h gs fs = (
  omega (arith, with_body_is fs no_token [] [] no_stmt),
  λ n. (
    alike fs no_token n [] [] [] [] no_stmt,
    λ t. (
      same _,
      (
        λ p. (same _, (λ a b. same _, λ ps. body_kept n (p ∷ ps) h gs fs)),
        body_kept n [] h gs fs,
      ),
    ),
  ),
)

globals_rise : (c : Class) (t : Lexeme) (h : Heading) (gs : List VariableTree) → Rises 1 (globals_by c t h gs)
globals_rise var_word t h gs = (same _, λ n. (same _, λ u. (same _, tt)))
globals_rise function_word t h gs = function_rises h gs []
globals_rise return_word t h gs = (same _, tt)
globals_rise _ t h gs = tt

value_rises : (c : Class) (t : Lexeme) (h : Heading) (gs : List VariableTree) (n : Lexeme) → Rises 1 (value_by c t h gs n)
value_rises open_bracket t h gs n = members_rise n h gs [] []
value_rises c t h gs n = init_rises c t (λ i. in_globals h (gs ++ variable_of n i ∷ [])) (λ i j. same 1) (λ i. tt)

in_globals_rise : (c : Class) (t : Lexeme) (h : Heading) (gs : List VariableTree) → Rises 1 (in_globals_by c t h gs)
in_globals_rise comma t h gs = (same _, λ n. (same _, λ u. (same _, (λ i j. same _, λ i. tt))))
in_globals_rise c t h gs = end_rises c t (at_globals h gs) (globals_by c t h gs) tt (globals_rise c t h gs)

functions_rise : (c : Class) (t : Lexeme) (h : Heading) (gs : List VariableTree) (fs : List FunctionTree) → Rises (1 + bodies fs) (functions_by c t h gs fs)
functions_rise var_word t h gs fs = table_rises h gs fs []
functions_rise function_word t h gs fs = function_rises h gs fs
functions_rise return_word t h gs fs = (same _, tt)
functions_rise _ t h gs fs = tt

tables_rise : (c : Class) (t : Lexeme) (h : Heading) (gs : List VariableTree) (fs : List FunctionTree) (ts : List TableTree) → Rises (1 + bodies fs) (tables_by c t h gs fs ts)
tables_rise var_word t h gs fs ts = table_rises h gs fs ts
tables_rise return_word t h gs fs ts = (same _, tt)
tables_rise _ t h gs fs ts = tt

in_tables_rise : (c : Class) (t : Lexeme) (h : Heading) (gs : List VariableTree) (fs : List FunctionTree) (ts : List TableTree) → Rises (1 + bodies fs) (in_tables_by c t h gs fs ts)
in_tables_rise comma t h gs fs ts = table_rises h gs fs ts
in_tables_rise c t h gs fs ts = end_rises c t (at_tables h gs fs ts) (tables_by c t h gs fs ts) tt (tables_rise c t h gs fs ts)

abbrev KeptExports : (List ExportTree → Step) → Type 0
KeptExports k = (ds : List ExportTree) → (step_bound (k []) ≤ step_bound (k ds)) × KeptStep (k ds)

exports_done : (k : List ExportTree → Step) → KeptExports k → (es : List ExportTree) → Rises (step_bound (k [])) (k es)
exports_done k g es = let h = g es in rises_to (step_bound (k [])) (k es) h.0 h.1

exports_rise : (t : Lexeme) (es : List ExportTree) (k : List ExportTree → Step) → KeptExports k → Rises (step_bound (k [])) (exports_step t es k)
exports_rise t es k g = by_test (step_bound (k [])) (is_word t.class) _ _
    (λ yes. (same _, λ u. (same _, λ f. (same _, g))))
    (λ no. by_test (step_bound (k [])) (same_class close_brace t.class) (k es) (stuck t) (λ yes. exports_done k g es) (λ no. tt))

in_exports_rise : (c : Class) (t : Lexeme) (es : List ExportTree) (k : List ExportTree → Step) → KeptExports k → Rises (step_bound (k [])) (in_exports_by c t es k)
in_exports_rise comma t es k g = (same _, g)
in_exports_rise close_brace t es k g = exports_done k g es
in_exports_rise _ t es k g = tt

use_rises : (c : Class) (t : Lexeme) (h : Heading) → Rises 0 (use_by c t h)
use_rises directive t h = (omega arith, tt)
use_rises _ t h = tt

end_kept : (b : Bool) (c : Class) (t : Lexeme) (m : ModuleTree) → Rises (whole_height m) (end_step b c t m)
end_kept true semicolon t m = (same _, tt)
end_kept true _ t m = tt
end_kept false c t m = tt

comma_rises : (c : Class) (t : Lexeme) (n : ℕ) (k : Lexeme → Step) (last : Step) → ((u : Lexeme) → (n ≤ step_bound (k u)) × KeptStep (k u)) → Rises n last → Rises n (comma_by c t k last)
comma_rises comma t n k last g r = let h = g t in rises_to n (k t) h.0 h.1
comma_rises _ t n k last g r = r

-- ---- a token

pub feed_rises : (s : State) (t : Lexeme) → Kept s → Rises (bound s) (feed s t)
feed_rises (closes c q s) t h = by_test (step_bound s) (same_class c t.class) s (stuck t) (λ yes. rises_to (step_bound s) s (same _) h) (λ no. tt)
feed_rises (at_expr p k) t h = expr_rises t.class t p k h.0 h.1
feed_rises (after_minus m k) t h = minus_rises t.class m t k h.0 h.1
feed_rises (after_name p n k) t h = name_rises t.class t p n k _ h.0 h.1 (feed_rises (k (variable n.at n.text)) t (h.1 (variable n.at n.text)))
feed_rises (after_index p n i k) t h = index_rises t.class t p n i k _ h.0 h.1 (feed_rises (k (element n.at n.text i)) t (h.1 (element n.at n.text i)))
feed_rises (after_expr p e k) t h = infix_rises t.class t p e k _ h.0 h.1 (feed_rises (k e) t (h.1 e))
feed_rises (at_arguments k) t h = arguments_rise t.class t k h.0 h.1
feed_rises (in_rest es k) t h = rest_rises t.class es k _ h.0 h.1 (feed_rises (k es) t (h.1 es))
feed_rises (ends s) t h = end_rises t.class t s _ h (feed_rises s t h)
feed_rises (ends_do s) t h = do_end_rises t.class s _ h (feed_rises s t h)
feed_rises (at_stmt k) t h = stmt_rises t.class t k h.0 h.1
feed_rises (after_stmt_name n k) t h = stmt_name_rises t.class t n k _ h.0 h.1
    (end_rises t.class t (k (plain n.at (variable n.at n.text))) _ (h.1 (plain n.at (variable n.at n.text))) (feed_rises (k (plain n.at (variable n.at n.text))) t (h.1 (plain n.at (variable n.at n.text)))))
feed_rises (at_option c q b k) t h = option_rises t.class t c q k h.0 h.1
feed_rises (at_return k) t h = return_rises t.class t k _ h.0 h.1 (end_rises t.class t (k None) _ (h.1 None) (feed_rises (k None) t (h.1 None)))
feed_rises (at_target k) t h = target_rises t.class t k _ h.0 h.1 (end_rises t.class t (k None) _ (h.1 None) (feed_rises (k None) t (h.1 None)))
feed_rises (after_arm at c s k) t h = arm_rises t.class at c s k _ h.0 h.1 (feed_rises (k (if_only at c s)) t (h.1 (if_only at c s)))
feed_rises (after_body b s) t h = by_test (step_bound s) (same_class while_word t.class) s (stuck t) (λ yes. rises_to (step_bound s) s (same _) h.1) (λ no. tt)
feed_rises (at_stmts ss k) t h = stmts_rise t.class t ss k h.0 h.1
feed_rises (at_clauses k) t h = clauses_rise t.class t k h.0 h.1
feed_rises (in_case v ss k) t h = in_case_rises t.class t v ss k h.0 h.1
feed_rises (at_literal d k) t h = literal_rises t.class t d k h.0 h.1
feed_rises (after_sign d m k) t h = sign_rises t.class t d m k h.0 h.1
feed_rises (at_init k) t h = init_rises t.class t k h.0 h.1
feed_rises (after_member f p k) t h = member_rises t.class t f p k _ h.0 h.1 (feed_rises (k (member f.text p.text)) t (h.1 (member f.text p.text)))
feed_rises (in_names c q ns k) t h = names_rise t.class t c q ns k h.0 h.1
feed_rises (at_marks [] ds k) t h = feed_rises (k ds) t (h.1 ds)
feed_rises (at_marks (p ∷ ps) ds k) t h = mark_rises t p ps ds k h.0 h.1
feed_rises (at_locals ls k) t h = locals_rise t.class ls k _ h.0 h.1 (feed_rises (k ls) t (h.1 ls))
feed_rises (in_locals ls k) t h = in_locals_rise t.class t ls k _ h.0 h.1 (locals_rise t.class ls k _ h.0 h.1 (feed_rises (k ls) t (h.1 ls)))
feed_rises (may_comma k s) t h = comma_rises t.class t (bound s) k _ h.0 (feed_rises s t h.1)
feed_rises (at_use h) t r = use_rises t.class t h
feed_rises (at_globals h gs) t r = globals_rise t.class t h gs
feed_rises (at_value h gs n) t r = value_rises t.class t h gs n
feed_rises (in_globals h gs) t r = in_globals_rise t.class t h gs
feed_rises (at_functions h gs fs) t r = functions_rise t.class t h gs fs
feed_rises (at_tables h gs fs ts) t r = tables_rise t.class t h gs fs ts
feed_rises (in_tables h gs fs ts) t r = in_tables_rise t.class t h gs fs ts
feed_rises (at_export h gs fs ts) t r = by_test (1 + bodies fs) t.line (stuck t) _ (λ yes. tt) (λ no. export_rises t.class t h gs fs ts)
feed_rises (at_exports es k) t h = exports_rise t es k h
feed_rises (in_exports es k) t h = in_exports_rise t.class t es k h
feed_rises (at_end b m) t h = end_kept b t.class t m

pub advance_rises : (s : Step) (t : Lexeme) → KeptStep s → Rises (step_bound s) (advance s t)
advance_rises (goes s) t h = feed_rises s t h
advance_rises (expects w k) t h = let g = h t in by_test (step_bound (k no_token)) (meets w t) (k t) (stuck t) (λ yes. rises_to (step_bound (k no_token)) (k t) g.0 g.1) (λ no. tt)
advance_rises (either w d q k s) t h = let g = h.0 t in by_test (step_bound s) (meets w t) (k t) _ (λ yes. rises_to (step_bound s) (k t) g.0 g.1)
    (λ no. by_test (step_bound s) (same_class d t.class) s (stuck t) (λ yes. rises_to (step_bound s) s (same _) h.1) (λ no. tt))
advance_rises (refuses f back) t h = tt

-- ---- the end

end_bound : (s : State) (m : ModuleTree) → Kept s → ended s ≡ Ok m → bound s ≤ whole_height m
end_bound (at_end b n) m h e = let is : n ≡ m = cc in omega (arith, ap whole_height is)
end_bound (after_name p n k) m h e = end_bound (k (variable n.at n.text)) m (h.1 (variable n.at n.text)) e
end_bound (after_index p n i k) m h e = end_bound (k (element n.at n.text i)) m (h.1 (element n.at n.text i)) e
end_bound (after_expr p x k) m h e = end_bound (k x) m (h.1 x) e
end_bound (in_rest es k) m h e = end_bound (k es) m (h.1 es) e
end_bound (ends s) m h e = end_bound s m h e
end_bound (ends_do s) m h e = end_bound s m h e
end_bound (after_stmt_name n k) m h e = omega (arith, up_stmt h.0 (empty 0) (plain n.at (variable n.at n.text)) (omega arith) (omega arith), end_bound (k (plain n.at (variable n.at n.text))) m (h.1 (plain n.at (variable n.at n.text))) e)
end_bound (at_return k) m h e = end_bound (k None) m (h.1 None) e
end_bound (at_target k) m h e = end_bound (k None) m (h.1 None) e
end_bound (after_arm at c s k) m h e = end_bound (k (if_only at c s)) m (h.1 (if_only at c s)) e
end_bound (after_member f p k) m h e = end_bound (k (member f.text p.text)) m (h.1 (member f.text p.text)) e
end_bound (at_marks [] ds k) m h e = end_bound (k ds) m (h.1 ds) e
end_bound (at_locals ls k) m h e = end_bound (k ls) m (h.1 ls) e
end_bound (in_locals ls k) m h e = end_bound (k ls) m (h.1 ls) e
end_bound (may_comma k s) m h e = end_bound s m h.1 e
end_bound _ m h e = absurd cc

pub refused_is : (f : machine.Fault) (back xs : List Lexeme) (m : ModuleTree) → run (refuses f back) xs ≡ Ok m → ⊥
refused_is f back [] m e = absurd cc
refused_is f back (t ∷ ts) m e = refused_is f (back ++ t ∷ []) ts m e

pub run_bound : (xs : List Lexeme) (s : Step) (m : ModuleTree) → KeptStep s → run s xs ≡ Ok m → step_bound s ≤ whole_height m
run_bound [] (goes s) m h e = end_bound s m h e
run_bound [] (expects w k) m h e = absurd cc
run_bound [] (either w d q k s) m h e = absurd cc
run_bound [] (refuses f back) m h e = absurd cc
run_bound (t ∷ ts) s m h e =
    let P : Step → Type 0 = λ r. Rises (step_bound s) r → run r ts ≡ Ok m → step_bound s ≤ whole_height m in
    let step : (r : Step) → P r = elim [
      | goes q ↦ λ up f. (let le = up.0 in let later = run_bound ts (goes q) m up.1 f in omega arith)
      | expects w k ↦ λ up f. (let le = up.0 in let later = run_bound ts (expects w k) m up.1 f in omega arith)
      | either w d q k r ↦ λ up f. (let le = up.0 in let later = run_bound ts (either w d q k r) m up.1 f in omega arith)
      | refuses f back ↦ λ up g. absurd (refused_is f back ts m g)
    ] in
    step (advance s t) (advance_rises s t h) e

-- ---- no peak above the bound

pub peak_below : (s : State) → Kept s → peak s ≤ bound s
peak_below (after_name p n k) h = let g = h.0 in omega (arith, g.tops (variable n.at n.text))
peak_below (after_index p n i k) h = let g = h.0 in omega (arith, g.tops (element n.at n.text i), g.covers (element n.at n.text i))
peak_below (after_expr p e k) h = let g = h.0 in omega (arith, g.tops e, g.covers e)
peak_below (in_rest es k) h = let g = h.0 in omega (arith, g.tops es)
peak_below (ends s) h = peak_below s h
peak_below (ends_do s) h = peak_below s h
peak_below (after_stmt_name n k) h = let g = h.0 in omega (arith, g.tops (plain n.at (variable n.at n.text)), g.covers (empty 0), g.rises 1 (plain n.at (variable n.at n.text)) (empty 0) (omega arith) (omega arith))
peak_below (at_return k) h = let g = h.0 in omega (arith, g.tops None)
peak_below (at_target k) h = peak_below (k None) (h.1 None)
peak_below (after_arm at c s k) h = let g = h.0 in omega (arith, g.tops (if_only at c s))
peak_below (after_body b s) h = omega (arith, h.0)
peak_below (at_stmts ss k) h = let g = h.0 in omega (arith, last_below ss, g.covers ss)
peak_below (in_case v ss k) h = let g = h.0 in omega (arith, last_below ss, g.covers (one_clause (Some v) ss no_clause))
peak_below (after_member f p k) h = peak_below (k (member f.text p.text)) (h.1 (member f.text p.text))
peak_below (at_marks [] ds k) h = peak_below (k ds) (h.1 ds)
peak_below (at_locals ls k) h = peak_below (k ls) (h.1 ls)
peak_below (in_locals ls k) h = peak_below (k ls) (h.1 ls)
peak_below (may_comma k s) h = peak_below s h.1
peak_below (at_functions h gs fs) r = last_function_low fs
peak_below (at_end b m) h = same _
peak_below _ h = omega arith

pub step_peak_below : (s : Step) → KeptStep s → step_peak s ≤ step_bound s
step_peak_below (goes s) h = peak_below s h
step_peak_below _ h = omega arith

-- ---- the heading

params_kept : (name : Option (List ℕ)) (params : List (List ℕ)) → KeptStep (params_step name params)
params_kept name params = λ u. (same _, tt)

heading_kept : (name : Option (List ℕ)) → KeptStep (heading_step name)
heading_kept name = (
  λ a. (
    same _,
    (
      λ t. (
        same _,
        λ b. (
          same _,
          (
            λ u. (same _, λ c. (same _, params_kept name (a.text ∷ b.text ∷ c.text ∷ []))),
            params_kept name (a.text ∷ b.text ∷ []),
          ),
        ),
      ),
      params_kept name (a.text ∷ []),
    ),
  ),
  params_kept name [],
)

pub start_kept : KeptStep at_start
start_kept = λ f. (same _, (λ n. (same _, λ t. (same _, heading_kept (Some n.text))), heading_kept None))
