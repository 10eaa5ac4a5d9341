-- How deep the code of an expression is nested: at most as deep as the expression.
use Rattle.std.proofs.Common.{◌≡◌, ℕ, suc, ◌≤◌, Bool, true, false, List, [], ◌∷◌, Some, arith}
use Rattle.std.specs.Prelude.{if◌then◌else◌, ◌||◌}
use Rattle.sem_words.specs.declared.js_value.JsOp.{JsOp}
use Rattle.sem_words.specs.declared.js_value.JsOp.TheVariants.{Add, Sub, Mul, Div, Rem, Or, And, Xor, Shl, Sar, Shr, Lt, Le, Gt, Ge, Eq, Ne}
use Rattle.sem_words.specs.declared.js_value.JsUnary.{JsUnary}
use Rattle.sem_words.specs.declared.js_value.JsUnary.TheVariants.{Neg, BitNot, Not, Plus}
use Rattle.wasm_lang.specs.declared.types.ValType.TheVariants.{I32}
use Rattle.wasm_lang.specs.Instructions.{Plain, bin32, local_get, local_set, drop_operand}
use Rattle.wasm_lang_exec.specs.Code.{Trees, ε, ◌▹◌, ◌⊕◌, if_block}
use Rattle.wasm_laws_trees.specs.Spelled.{tree_levels}
use Rattle.wasm_laws_trees.proofs.Joined.{levels_join}
use Rattle.asm_lang.specs.Heights.{expr_height, exprs_height, links_height}
use Rattle.asm_lang.specs.Modules.{Expr, lit, decimal, var, index, call, table_call, assign, store, unary, binary, chain, cond, comma, Exprs, no_exprs, exprs, Links, no_links, links}
use Rattle.asm_lang_valid.specs.declared.meaning.Builtin.TheVariants.{Imul, Clz32}
use Rattle.asm_lang_valid.specs.Scope.{Meaning, a_foreign, a_builtin, a_view, a_function, a_table}
use Rattle.asm_lang_valid.specs.Typing.{Scope, named, exprs_length, or_zero}
use Rattle.asm2wasm_translation.specs.Numbers.{VariablePlace, a_local, a_global, nowhere, place_of, base_of}
use Rattle.asm2wasm_translation.specs.Values.{plains, one, get_code, put_code, quotient, operator, before_operand, after_operand, aligned, is_shift, place_code, exponent_in, load_code, store_code, stored_code, callee_code, dropped, from_base, entry_code, finished, is_unsigned, link_operator, scratch, expr_code, left_code, arguments_code, links_code, comma_code}
use Rattle.asm2wasm_laws_typed.specs.Laws.{ExpressionsAreFlat}

-- ---- pieces

pub plains_levels : (ps : List Plain) → tree_levels (plains ps) ≡ 0
plains_levels [] = omega arith
plains_levels (p ∷ ps) = plains_levels ps

get_levels : (p : VariablePlace) → tree_levels (get_code p) ≡ 0
get_levels (a_local x) = omega arith
get_levels (a_global x) = omega arith
get_levels nowhere = omega arith

put_levels : (wanted : Bool) (p : VariablePlace) → tree_levels (put_code wanted p) ≡ 0
put_levels true (a_local x) = omega arith
put_levels false (a_local x) = omega arith
put_levels true (a_global x) = omega arith
put_levels false (a_global x) = omega arith
put_levels true nowhere = omega arith
put_levels false nowhere = omega arith

quotient_levels : (unsigned : Bool) (x y : ℕ) → tree_levels (quotient unsigned x y) ≤ 1
quotient_levels true x y = omega arith
quotient_levels false x y = omega arith

operator_levels : (op : JsOp) (unsigned : Bool) (x y : ℕ) → tree_levels (operator op unsigned x y) ≤ 1
operator_levels Add u x y = omega arith
operator_levels Sub u x y = omega arith
operator_levels Mul u x y = omega arith
operator_levels Div u x y = quotient_levels u x y
operator_levels Rem u x y = omega arith
operator_levels Or u x y = omega arith
operator_levels And u x y = omega arith
operator_levels Xor u x y = omega arith
operator_levels Shl u x y = omega arith
operator_levels Sar u x y = omega arith
operator_levels Shr u x y = omega arith
operator_levels Lt u x y = omega arith
operator_levels Le u x y = omega arith
operator_levels Gt u x y = omega arith
operator_levels Ge u x y = omega arith
operator_levels Eq u x y = omega arith
operator_levels Ne u x y = omega arith

before_levels : (op : JsUnary) → tree_levels (before_operand op) ≡ 0
before_levels Neg = omega arith
before_levels BitNot = omega arith
before_levels Not = omega arith
before_levels Plus = omega arith

after_levels : (op : JsUnary) → tree_levels (after_operand op) ≡ 0
after_levels Neg = omega arith
after_levels BitNot = omega arith
after_levels Not = omega arith
after_levels Plus = omega arith

load_levels : (heap x : ℕ) (v : Meaning) → tree_levels (load_code heap x v) ≤ 1
load_levels heap x (a_view v) = omega arith
load_levels heap x _ = omega arith

store_levels : (heap x y : ℕ) (v : Meaning) → tree_levels (store_code heap x y v) ≤ 1
store_levels heap x y (a_view v) = omega arith
store_levels heap x y _ = omega arith

stored_levels : (wanted : Bool) (y : ℕ) → tree_levels (stored_code wanted y) ≡ 0
stored_levels true y = omega arith
stored_levels false y = omega arith

callee_levels : (c : Scope) (wanted : Bool) (n : List ℕ) (count : ℕ) (v : Meaning) → tree_levels (callee_code c wanted n count v) ≡ 0
callee_levels c wanted n count (a_function f) = omega arith
callee_levels c wanted n count (a_foreign p) = omega arith
callee_levels c wanted n count (a_builtin Imul) = omega arith
callee_levels c wanted n count (a_builtin Clz32) = omega arith
callee_levels c wanted n count _ = omega arith

dropped_levels : (wanted : Bool) (v : Meaning) → tree_levels (dropped wanted v) ≡ 0
dropped_levels true v = omega arith
dropped_levels false (a_builtin b) = omega arith
dropped_levels false _ = omega arith

entry_levels : (c : Scope) (v : Meaning) → tree_levels (entry_code c v) ≡ 0
entry_levels c (a_table t) = omega arith
entry_levels c _ = omega arith

finished_levels : (wanted : Bool) (t : Trees) (n : ℕ) → tree_levels t ≤ n → tree_levels (finished wanted t) ≤ n
finished_levels true t n h = h
finished_levels false t n h = omega (arith, h, levels_join t (one drop_operand))

either_levels : (b : Bool) (x y : Trees) (n : ℕ) → tree_levels x ≤ n → tree_levels y ≤ n → tree_levels (if b then x else y) ≤ n
either_levels true x y n h i = h
either_levels false x y n h i = i

place_levels : (k : ℕ) (i : Expr) (code left : Trees) (n : ℕ) → tree_levels code ≤ n → tree_levels left ≤ n → tree_levels (place_code k i code left) ≤ n
place_levels k (lit z) code left n h l = omega arith
place_levels k (binary op e s) code left n h l = either_levels (is_shift op) (left ⊕ plains (aligned k)) code n (omega (arith, l, levels_join left (plains (aligned k)), plains_levels (aligned k))) h
place_levels k i code left n h l = h

-- ---- expressions

module _ (heap : ℕ) (c : Scope) where
  mutual
    pub value_levels : (wanted : Bool) (d : ℕ) (e : Expr) → tree_levels (expr_code heap c wanted d e) ≤ expr_height e
    value_levels wanted d (lit z) = finished_levels wanted _ _ (omega arith)
    value_levels wanted d (decimal bs) = finished_levels wanted _ _ (omega arith)
    value_levels wanted d (var n) = finished_levels wanted _ _ (omega (arith, get_levels (place_of c n)))
    value_levels wanted d (index n i) =
        let x = scratch heap c d in
        let first = place_levels (exponent_in (named c n)) i (expr_code heap c true d i) (left_code heap c d i) (expr_height i) (value_levels true d i) (left_levels d i) in
        let joined = levels_join (place_code (exponent_in (named c n)) i (expr_code heap c true d i) (left_code heap c d i)) (load_code heap x (named c n)) in
        finished_levels wanted _ _ (omega (arith, first, joined, load_levels heap x (named c n)))
    value_levels wanted d (call n es) =
        let callee = callee_code c wanted n (exprs_length es) (named c n) in
        let first = arguments_levels d es in
        let joined = levels_join (arguments_code heap c d es) (callee ⊕ dropped wanted (named c n)) in
        let ended = levels_join callee (dropped wanted (named c n)) in
        omega (arith, first, joined, ended, callee_levels c wanted n (exprs_length es) (named c n), dropped_levels wanted (named c n))
    value_levels wanted d (table_call n i es) =
        let x = scratch heap c d in
        let entry = one (local_get x) ⊕ entry_code c (named c n) in
        let arguments = arguments_code heap c (suc d) es in
        let base = plains (from_base (base_of c.home n)) in
        let first = value_levels true d i in
        let second = arguments_levels (suc d) es in
        let joined = levels_join (expr_code heap c true d i) (base ⊕ (one (local_set x) ⊕ (arguments ⊕ entry))) in
        let based = levels_join base (one (local_set x) ⊕ (arguments ⊕ entry)) in
        let called = levels_join arguments entry in
        omega (arith, first, second, joined, based, called, plains_levels (from_base (base_of c.home n)), entry_levels c (named c n))
    value_levels wanted d (assign n e) =
        let first = value_levels true d e in
        let joined = levels_join (expr_code heap c true d e) (put_code wanted (place_of c n)) in
        omega (arith, first, joined, put_levels wanted (place_of c n))
    value_levels wanted d (store n i e) =
        let x = scratch heap c d in
        let y = scratch heap c (suc d) in
        let kept = store_code heap x y (named c n) in
        let last = stored_code wanted y in
        let first = place_levels (exponent_in (named c n)) i (expr_code heap c true d i) (left_code heap c d i) (expr_height i) (value_levels true d i) (left_levels d i) in
        let second = value_levels true d e in
        let joined = levels_join (place_code (exponent_in (named c n)) i (expr_code heap c true d i) (left_code heap c d i)) (expr_code heap c true d e ⊕ (kept ⊕ last)) in
        let further = levels_join (expr_code heap c true d e) (kept ⊕ last) in
        let ended = levels_join kept last in
        omega (arith, first, second, joined, further, ended, store_levels heap x y (named c n), stored_levels wanted y)
    value_levels wanted d (unary op e) =
        let first = value_levels true d e in
        let joined = levels_join (before_operand op) (expr_code heap c true d e ⊕ after_operand op) in
        let ended = levels_join (expr_code heap c true d e) (after_operand op) in
        finished_levels wanted _ _ (omega (arith, first, joined, ended, before_levels op, after_levels op))
    value_levels wanted d (binary op l r) =
        let done = operator op (is_unsigned l || is_unsigned r) (scratch heap c d) (scratch heap c (suc d)) in
        let first = value_levels true d l in
        let second = value_levels true d r in
        let joined = levels_join (expr_code heap c true d l) (expr_code heap c true d r ⊕ done) in
        let ended = levels_join (expr_code heap c true d r) done in
        let alone : tree_levels (expr_code heap c true d l) ≤ expr_height (binary op l r) = omega (arith, first) in
        let both : tree_levels (expr_code heap c true d l ⊕ (expr_code heap c true d r ⊕ done)) ≤ expr_height (binary op l r) =
        omega (arith, first, second, joined, ended, operator_levels op (is_unsigned l || is_unsigned r) (scratch heap c d) (scratch heap c (suc d))) in
        finished_levels wanted _ _ (either_levels (or_zero op r) _ _ _ alone both)
    value_levels wanted d (chain e ls) =
        let first = value_levels true d e in
        let second = links_levels d ls in
        let joined = levels_join (expr_code heap c true d e) (links_code heap c d ls) in
        finished_levels wanted _ _ (omega (arith, first, second, joined))
    value_levels wanted d (cond e a b) =
        let first = value_levels true d e in
        let second = value_levels true d a in
        let third = value_levels true d b in
        let joined = levels_join (expr_code heap c true d e) (if_block (Some I32) (expr_code heap c true d a) (expr_code heap c true d b) ▹ ε) in
        finished_levels wanted _ _ (omega (arith, first, second, third, joined))
    value_levels wanted d (comma es) = let first = comma_levels d es in finished_levels wanted _ _ (omega (arith, first))

    left_levels : (d : ℕ) (e : Expr) → tree_levels (left_code heap c d e) ≤ expr_height e
    left_levels d (binary op l r) = let first = value_levels true d l in omega (arith, first)
    left_levels d e = omega arith

    arguments_levels : (d : ℕ) (es : Exprs) → tree_levels (arguments_code heap c d es) ≤ exprs_height es
    arguments_levels d no_exprs = omega arith
    arguments_levels d (exprs e es) =
        let first = value_levels true d e in
        let second = arguments_levels d es in
        let joined = levels_join (expr_code heap c true d e) (arguments_code heap c d es) in
        omega (arith, first, second, joined)

    links_levels : (d : ℕ) (ls : Links) → tree_levels (links_code heap c d ls) ≤ links_height ls
    links_levels d no_links = omega arith
    links_levels d (links minus e ls) =
        let first = value_levels true d e in
        let second = links_levels d ls in
        let joined = levels_join (expr_code heap c true d e) (one (bin32 (link_operator minus)) ⊕ links_code heap c d ls) in
        omega (arith, first, second, joined)

    comma_levels : (d : ℕ) (es : Exprs) → tree_levels (comma_code heap c d es) ≤ exprs_height es
    comma_levels d no_exprs = omega arith
    comma_levels d (exprs e no_exprs) = let first = value_levels true d e in omega (arith, first)
    comma_levels d (exprs e (exprs x es)) =
        let first = value_levels false d e in
        let second = comma_levels d (exprs x es) in
        let joined = levels_join (expr_code heap c false d e) (comma_code heap c d (exprs x es)) in
        omega (arith, first, second, joined)

pub expressions_are_flat : ExpressionsAreFlat
expressions_are_flat = value_levels
