-- How many instructions the code of an expression has. The induction keeps four to spare for each expression.
use Rattle.std.proofs.Common.{◌≡◌, ℕ, suc, Some, ◌+◌, ◌*◌, ◌≤◌, Bool, true, false, List, [], ◌∷◌, length, refl, arith}
use Rattle.std.specs.Prelude.{if◌then◌else◌, ◌==◌, ◌||◌}
use Rattle.sem_words.specs.declared.js_value.JsOp.{JsOp}
use Rattle.sem_words.specs.declared.js_value.JsOp.TheVariants.{Add, Sub, Mul, Div, Rem, Or, And, Xor, Shl, Sar, Shr, Lt, Le, Gt, Ge, Eq, Ne}
use Rattle.sem_words.specs.declared.js_value.JsUnary.{JsUnary}
use Rattle.sem_words.specs.declared.js_value.JsUnary.TheVariants.{Neg, BitNot, Not, Plus}
use Rattle.wasm_lang.specs.declared.types.ValType.TheVariants.{I32}
use Rattle.wasm_lang.specs.Instructions.{Plain, bin32, local_get, local_set, drop_operand}
use Rattle.wasm_lang_exec.specs.Code.{Trees, ε, ◌▹◌, ◌⊕◌, if_block}
use Rattle.wasm_laws_trees.specs.Spelled.{else_size, size}
use Rattle.wasm_laws_trees.proofs.Joined.{sizes_add}
use Rattle.asm_lang.specs.Modules.{Expr, lit, decimal, var, index, call, table_call, assign, store, unary, binary, chain, cond, comma, Exprs, no_exprs, exprs, Links, no_links, links}
use Rattle.asm_lang_valid.specs.declared.meaning.Builtin.TheVariants.{Imul, Clz32}
use Rattle.asm_lang_valid.specs.Scope.{Meaning, a_foreign, a_builtin, a_view, a_function, a_table}
use Rattle.asm_lang_valid.specs.Rows.{expr_count, exprs_count, links_count}
use Rattle.asm_lang_valid.specs.Typing.{Scope, named, exprs_length, or_zero}
use Rattle.asm2wasm_translation.specs.Numbers.{VariablePlace, a_local, a_global, nowhere, place_of, base_of}
use Rattle.asm2wasm_translation.specs.Values.{plains, one, get_code, put_code, quotient, operator, before_operand, after_operand, aligned, is_shift, place_code, exponent_in, load_code, store_code, stored_code, callee_code, dropped, from_base, entry_code, finished, is_unsigned, link_operator, scratch, expr_code, left_code, arguments_code, links_code, comma_code}
use Rattle.asm2wasm_laws_typed.specs.Laws.{ExpressionsAreSmall}

-- ---- pieces

pub plains_size : (ps : List Plain) → size (plains ps) ≡ length ps
plains_size [] = omega arith
plains_size (p ∷ ps) = let h = plains_size ps in omega (arith, h)

pub else_small : (t : Trees) → else_size t (size t) ≤ 1 + size t
else_small ε = omega arith
else_small (x ▹ xs) = omega arith

get_small : (p : VariablePlace) → size (get_code p) ≡ 1
get_small (a_local x) = omega arith
get_small (a_global x) = omega arith
get_small nowhere = omega arith

put_small : (wanted : Bool) (p : VariablePlace) → size (put_code wanted p) ≤ 2
put_small true (a_local x) = omega arith
put_small false (a_local x) = omega arith
put_small true (a_global x) = omega arith
put_small false (a_global x) = omega arith
put_small true nowhere = omega arith
put_small false nowhere = omega arith

quotient_small : (unsigned : Bool) (x y : ℕ) → size (quotient unsigned x y) ≤ 16
quotient_small true x y = omega arith
quotient_small false x y = omega arith

operator_small : (op : JsOp) (unsigned : Bool) (x y : ℕ) → size (operator op unsigned x y) ≤ 16
operator_small Add u x y = omega arith
operator_small Sub u x y = omega arith
operator_small Mul u x y = omega arith
operator_small Div u x y = quotient_small u x y
operator_small Rem u x y = omega arith
operator_small Or u x y = omega arith
operator_small And u x y = omega arith
operator_small Xor u x y = omega arith
operator_small Shl u x y = omega arith
operator_small Sar u x y = omega arith
operator_small Shr u x y = omega arith
operator_small Lt u x y = omega arith
operator_small Le u x y = omega arith
operator_small Gt u x y = omega arith
operator_small Ge u x y = omega arith
operator_small Eq u x y = omega arith
operator_small Ne u x y = omega arith

before_small : (op : JsUnary) → size (before_operand op) ≤ 1
before_small Neg = omega arith
before_small BitNot = omega arith
before_small Not = omega arith
before_small Plus = omega arith

after_small : (op : JsUnary) → size (after_operand op) ≤ 1
after_small Neg = omega arith
after_small BitNot = omega arith
after_small Not = omega arith
after_small Plus = omega arith

-- the instructions of a choice that may be none
two_or_none : (b : Bool) (ps : List Plain) → length ps ≡ 2 → size (plains (if b then [] else ps)) ≤ 2
two_or_none true ps h = omega arith
two_or_none false ps h = omega (arith, h, plains_size ps)

aligned_small : (k : ℕ) → size (plains (aligned k)) ≤ 2
aligned_small k = two_or_none (k == 0) _ refl

base_small : (base : ℕ) → size (plains (from_base base)) ≤ 2
base_small base = two_or_none (base == 0) _ refl

load_small : (heap x : ℕ) (v : Meaning) → size (load_code heap x v) ≤ 9
load_small heap x (a_view v) = omega arith
load_small heap x _ = omega arith

store_small : (heap x y : ℕ) (v : Meaning) → size (store_code heap x y v) ≤ 9
store_small heap x y (a_view v) = omega arith
store_small heap x y _ = omega arith

stored_small : (wanted : Bool) (y : ℕ) → size (stored_code wanted y) ≤ 1
stored_small true y = omega arith
stored_small false y = omega arith

callee_small : (c : Scope) (wanted : Bool) (n : List ℕ) (count : ℕ) (v : Meaning) → size (callee_code c wanted n count v) ≤ 1
callee_small c wanted n count (a_function f) = omega arith
callee_small c wanted n count (a_foreign p) = omega arith
callee_small c wanted n count (a_builtin Imul) = omega arith
callee_small c wanted n count (a_builtin Clz32) = omega arith
callee_small c wanted n count _ = omega arith

dropped_small : (wanted : Bool) (v : Meaning) → size (dropped wanted v) ≤ 1
dropped_small true v = omega arith
dropped_small false (a_builtin b) = omega arith
dropped_small false _ = omega arith

entry_small : (c : Scope) (v : Meaning) → size (entry_code c v) ≡ 1
entry_small c (a_table t) = omega arith
entry_small c _ = omega arith

finished_small : (wanted : Bool) (t : Trees) (n : ℕ) → size t + 5 ≤ n → size (finished wanted t) + 4 ≤ n
finished_small true t n h = omega (arith, h)
finished_small false t n h = omega (arith, h, sizes_add t (one drop_operand))

pub either_small : (b : Bool) (x y : Trees) (n k : ℕ) → size x + k ≤ n → size y + k ≤ n → size (if b then x else y) + k ≤ n
either_small true x y n k h i = h
either_small false x y n k h i = i

-- where an element begins: at most two more than the index, or than the operand that is shifted
place_small : (k : ℕ) (i : Expr) (code left : Trees) (n : ℕ) → 3 ≤ n → size code + 2 ≤ n → size left + 4 ≤ n → size (place_code k i code left) + 2 ≤ n
place_small k (lit z) code left n few h l = omega (arith, few)
place_small k (binary op e s) code left n few h l = either_small (is_shift op) (left ⊕ plains (aligned k)) code n 2 (omega (arith, l, sizes_add left (plains (aligned k)), aligned_small k)) h
place_small k i code left n few h l = h

-- ---- expressions

module _ (heap : ℕ) (c : Scope) where
  mutual
    pub value_small : (wanted : Bool) (d : ℕ) (e : Expr) → size (expr_code heap c wanted d e) + 4 ≤ 14 * expr_count e
    value_small wanted d (lit z) = finished_small wanted _ _ (omega arith)
    value_small wanted d (decimal bs) = finished_small wanted _ _ (omega arith)
    value_small wanted d (var n) = finished_small wanted _ _ (omega (arith, get_small (place_of c n)))
    value_small wanted d (index n i) =
        let x = scratch heap c d in
        let whole = value_small true d i in
        let first = place_small (exponent_in (named c n)) i (expr_code heap c true d i) (left_code heap c d i) (14 * expr_count i) (omega (arith, whole)) (omega (arith, whole)) (left_small d i) in
        let joined = sizes_add (place_code (exponent_in (named c n)) i (expr_code heap c true d i) (left_code heap c d i)) (load_code heap x (named c n)) in
        finished_small wanted _ _ (omega (arith, first, joined, load_small heap x (named c n)))
    value_small wanted d (call n es) =
        let callee = callee_code c wanted n (exprs_length es) (named c n) in
        let first = arguments_small d es in
        let joined = sizes_add (arguments_code heap c d es) (callee ⊕ dropped wanted (named c n)) in
        let ended = sizes_add callee (dropped wanted (named c n)) in
        omega (arith, first, joined, ended, callee_small c wanted n (exprs_length es) (named c n), dropped_small wanted (named c n))
    value_small wanted d (table_call n i es) =
        let x = scratch heap c d in
        let entry = one (local_get x) ⊕ entry_code c (named c n) in
        let arguments = arguments_code heap c (suc d) es in
        let base = plains (from_base (base_of c.home n)) in
        let first = value_small true d i in
        let second = arguments_small (suc d) es in
        let joined = sizes_add (expr_code heap c true d i) (base ⊕ (one (local_set x) ⊕ (arguments ⊕ entry))) in
        let based = sizes_add base (one (local_set x) ⊕ (arguments ⊕ entry)) in
        let called = sizes_add arguments entry in
        omega (arith, first, second, joined, based, called, base_small (base_of c.home n), entry_small c (named c n))
    value_small wanted d (assign n e) =
        let first = value_small true d e in
        let joined = sizes_add (expr_code heap c true d e) (put_code wanted (place_of c n)) in
        omega (arith, first, joined, put_small wanted (place_of c n))
    value_small wanted d (store n i e) =
        let x = scratch heap c d in
        let y = scratch heap c (suc d) in
        let kept = store_code heap x y (named c n) in
        let last = stored_code wanted y in
        let whole = value_small true d i in
        let first = place_small (exponent_in (named c n)) i (expr_code heap c true d i) (left_code heap c d i) (14 * expr_count i) (omega (arith, whole)) (omega (arith, whole)) (left_small d i) in
        let second = value_small true d e in
        let joined = sizes_add (place_code (exponent_in (named c n)) i (expr_code heap c true d i) (left_code heap c d i)) (expr_code heap c true d e ⊕ (kept ⊕ last)) in
        let further = sizes_add (expr_code heap c true d e) (kept ⊕ last) in
        let ended = sizes_add kept last in
        omega (arith, first, second, joined, further, ended, store_small heap x y (named c n), stored_small wanted y)
    value_small wanted d (unary op e) =
        let first = value_small true d e in
        let joined = sizes_add (before_operand op) (expr_code heap c true d e ⊕ after_operand op) in
        let ended = sizes_add (expr_code heap c true d e) (after_operand op) in
        finished_small wanted _ _ (omega (arith, first, joined, ended, before_small op, after_small op))
    value_small wanted d (binary op l r) =
        let done = operator op (is_unsigned l || is_unsigned r) (scratch heap c d) (scratch heap c (suc d)) in
        let first = value_small true d l in
        let second = value_small true d r in
        let joined = sizes_add (expr_code heap c true d l) (expr_code heap c true d r ⊕ done) in
        let ended = sizes_add (expr_code heap c true d r) done in
        let alone : size (expr_code heap c true d l) + 5 ≤ 14 * expr_count (binary op l r) = omega (arith, first) in
        let both : size (expr_code heap c true d l ⊕ (expr_code heap c true d r ⊕ done)) + 5 ≤ 14 * expr_count (binary op l r) =
        omega (arith, first, second, joined, ended, operator_small op (is_unsigned l || is_unsigned r) (scratch heap c d) (scratch heap c (suc d))) in
        finished_small wanted _ _ (either_small (or_zero op r) _ _ _ 5 alone both)
    value_small wanted d (chain e ls) =
        let first = value_small true d e in
        let second = links_small d ls in
        let joined = sizes_add (expr_code heap c true d e) (links_code heap c d ls) in
        finished_small wanted _ _ (omega (arith, first, second, joined))
    value_small wanted d (cond e a b) =
        let first = value_small true d e in
        let second = value_small true d a in
        let third = value_small true d b in
        let joined = sizes_add (expr_code heap c true d e) (if_block (Some I32) (expr_code heap c true d a) (expr_code heap c true d b) ▹ ε) in
        finished_small wanted _ _ (omega (arith, first, second, third, joined, else_small (expr_code heap c true d b)))
    value_small wanted d (comma es) = let first = comma_small d es in finished_small wanted _ _ (omega (arith, first))

    left_small : (d : ℕ) (e : Expr) → size (left_code heap c d e) + 4 ≤ 14 * expr_count e
    left_small d (binary op l r) = let first = value_small true d l in omega (arith, first)
    left_small d e = omega arith

    arguments_small : (d : ℕ) (es : Exprs) → size (arguments_code heap c d es) ≤ 14 * exprs_count es
    arguments_small d no_exprs = omega arith
    arguments_small d (exprs e es) =
        let first = value_small true d e in
        let second = arguments_small d es in
        let joined = sizes_add (expr_code heap c true d e) (arguments_code heap c d es) in
        omega (arith, first, second, joined)

    links_small : (d : ℕ) (ls : Links) → size (links_code heap c d ls) ≤ 14 * links_count ls
    links_small d no_links = omega arith
    links_small d (links minus e ls) =
        let first = value_small true d e in
        let second = links_small d ls in
        let joined = sizes_add (expr_code heap c true d e) (one (bin32 (link_operator minus)) ⊕ links_code heap c d ls) in
        omega (arith, first, second, joined)

    comma_small : (d : ℕ) (es : Exprs) → size (comma_code heap c d es) ≤ 14 * exprs_count es + 1
    comma_small d no_exprs = omega arith
    comma_small d (exprs e no_exprs) = let first = value_small true d e in omega (arith, first)
    comma_small d (exprs e (exprs x es)) =
        let first = value_small false d e in
        let second = comma_small d (exprs x es) in
        let joined = sizes_add (expr_code heap c false d e) (comma_code heap c d (exprs x es)) in
        omega (arith, first, second, joined)

pub expressions_are_small : ExpressionsAreSmall
expressions_are_small heap c wanted d e = let h = value_small heap c wanted d e in omega (arith, h)
