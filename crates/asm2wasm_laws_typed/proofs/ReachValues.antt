-- Which locals the code of an expression names: variables, and a scratch local for each level of the expression from its depth on.
use Rattle.std.proofs.Common.{◌≡◌, ℕ, suc, ◌+◌, ◌<◌, ◌≤◌, max, Bool, true, false, List, [], ◌∷◌, length, Option, Some, None, subst, map, arith, length-append}
use Rattle.std.specs.Prelude.{if◌then◌else◌, ◌==◌, ◌||◌, bytes_eq, option_map}
use Rattle.std.specs.Option.{IfSome}
use Rattle.std.proofs.lemmas.List.{length-map}
use Rattle.sem_words.specs.declared.js_value.JsOp.{JsOp}
use Rattle.sem_words.specs.declared.js_value.JsOp.TheVariants.{Add, Sub, Mul, Div, Rem, Or, And, Xor, Shl, Sar, Shr, Lt, Le, Gt, Ge, Eq, Ne}
use Rattle.sem_words.specs.declared.js_value.JsUnary.{JsUnary}
use Rattle.sem_words.specs.declared.js_value.JsUnary.TheVariants.{Neg, BitNot, Not, Plus}
use Rattle.wasm_lang.specs.declared.types.ValType.TheVariants.{I32}
use Rattle.wasm_lang.specs.Instructions.{Plain, bin32, local_get, local_set, drop_operand}
use Rattle.wasm_lang_exec.specs.Code.{Trees, ε, ◌▹◌, ◌⊕◌, if_block}
use Rattle.wasm_laws_trees.specs.Spelled.{reach}
use Rattle.wasm_laws_trees.proofs.Joined.{reach_joins}
use Rattle.asm_lang.specs.Heights.{expr_height, exprs_height, links_height}
use Rattle.asm_lang.specs.Modules.{Expr, lit, decimal, var, index, call, table_call, assign, store, unary, binary, chain, cond, comma, Exprs, no_exprs, exprs, Links, no_links, links, Variable, Param, Function}
use Rattle.asm_lang_valid.specs.declared.meaning.Builtin.TheVariants.{Imul, Clz32}
use Rattle.asm_lang_valid.specs.Scope.{Meaning, a_foreign, a_builtin, a_view, a_function, a_table}
use Rattle.asm_lang_valid.specs.Typing.{Scope, named, exprs_length, or_zero}
use Rattle.asm_lang_valid.specs.Refusal.{foreign_globals}
use Rattle.asm2wasm_translation.specs.Numbers.{VariablePlace, a_local, a_global, nowhere, slot_of, local_names, place_among, place_of, first_scratch, base_of}
use Rattle.asm2wasm_translation.specs.Values.{plains, one, get_code, put_code, quotient, operator, before_operand, after_operand, aligned, is_shift, place_code, exponent_in, load_code, store_code, stored_code, callee_code, dropped, from_base, entry_code, finished, is_unsigned, link_operator, scratch, expr_code, left_code, arguments_code, links_code, comma_code}
use Rattle.asm2wasm_laws_typed.specs.Laws.{ExpressionsReach}

-- ---- pieces

pub slot_below : (xs : List (List ℕ)) (n : List ℕ) → IfSome (slot_of xs n) (λ i. i < length xs)
slot_below [] n = tt
slot_below (x ∷ xs) n = by (bytes_eq x n) (slot_of xs n) (slot_below xs n)
  where
    by : (b : Bool) (o : Option ℕ) → IfSome o (λ i. i < length xs) → IfSome (if b then Some 0 else option_map (λ i. suc i) o) (λ i. i < suc (length xs))
    by true o h = omega arith
    by false None h = tt
    by false (Some i) h = omega (arith, h)

-- the code of an operation on a variable names a local below n
abbrev IsBelow : ℕ → VariablePlace → Type 0
IsBelow n (a_local x) = x < n
IsBelow n _ = Unit {0}

among_below : (imported n : ℕ) (o p : Option ℕ) → IfSome o (λ i. i < n) → IsBelow n (place_among imported o p)
among_below imported n (Some i) p h = h
among_below imported n None (Some j) h = tt
among_below imported n None None h = tt

pub local_count : (f : Function) → length (local_names f) ≡ first_scratch f
local_count f =
    let joined = length-append (map (λ (p : Param). p.name) f.params) (map (λ (v : Variable). v.name) f.locals) in
    omega (arith, joined, length-map f.params (λ (p : Param). p.name), length-map f.locals (λ (v : Variable). v.name))

variable_below : (c : Scope) (n : List ℕ) → IsBelow (first_scratch c.within) (place_of c n)
variable_below c n =
    subst (λ k. IsBelow k (place_of c n)) (local_count c.within)
    (among_below (length (foreign_globals c.home)) (length (local_names c.within)) _ _ (slot_below (local_names c.within) n))

get_reach : (n : ℕ) (p : VariablePlace) → IsBelow n p → reach (get_code p) ≤ n
get_reach n (a_local x) h = omega (arith, h)
get_reach n (a_global x) h = omega arith
get_reach n nowhere h = omega arith

put_reach : (wanted : Bool) (n : ℕ) (p : VariablePlace) → IsBelow n p → reach (put_code wanted p) ≤ n
put_reach true n (a_local x) h = omega (arith, h)
put_reach false n (a_local x) h = omega (arith, h)
put_reach true n (a_global x) h = omega arith
put_reach false n (a_global x) h = omega arith
put_reach true n nowhere h = omega arith
put_reach false n nowhere h = omega arith

quotient_reach : (unsigned : Bool) (x y : ℕ) → reach (quotient unsigned x y) ≤ max x y + 1
quotient_reach true x y = omega arith
quotient_reach false x y = omega arith

operator_reach : (op : JsOp) (unsigned : Bool) (x y : ℕ) → reach (operator op unsigned x y) ≤ max x y + 1
operator_reach Add u x y = omega arith
operator_reach Sub u x y = omega arith
operator_reach Mul u x y = omega arith
operator_reach Div u x y = quotient_reach u x y
operator_reach Rem u x y = omega arith
operator_reach Or u x y = omega arith
operator_reach And u x y = omega arith
operator_reach Xor u x y = omega arith
operator_reach Shl u x y = omega arith
operator_reach Sar u x y = omega arith
operator_reach Shr u x y = omega arith
operator_reach Lt u x y = omega arith
operator_reach Le u x y = omega arith
operator_reach Gt u x y = omega arith
operator_reach Ge u x y = omega arith
operator_reach Eq u x y = omega arith
operator_reach Ne u x y = omega arith

before_reach : (op : JsUnary) → reach (before_operand op) ≡ 0
before_reach Neg = omega arith
before_reach BitNot = omega arith
before_reach Not = omega arith
before_reach Plus = omega arith

after_reach : (op : JsUnary) → reach (after_operand op) ≡ 0
after_reach Neg = omega arith
after_reach BitNot = omega arith
after_reach Not = omega arith
after_reach Plus = omega arith

-- instructions of a choice that may be none
none_or : (b : Bool) (ps : List Plain) → reach (plains ps) ≡ 0 → reach (plains (if b then [] else ps)) ≡ 0
none_or true ps h = omega arith
none_or false ps h = h

aligned_reach : (k : ℕ) → reach (plains (aligned k)) ≡ 0
aligned_reach k = none_or (k == 0) _ (omega arith)

base_reach : (base : ℕ) → reach (plains (from_base base)) ≡ 0
base_reach base = none_or (base == 0) _ (omega arith)

load_reach : (heap x : ℕ) (v : Meaning) → reach (load_code heap x v) ≤ x + 1
load_reach heap x (a_view v) = omega arith
load_reach heap x _ = omega arith

store_reach : (heap x y : ℕ) (v : Meaning) → reach (store_code heap x y v) ≤ max x y + 1
store_reach heap x y (a_view v) = omega arith
store_reach heap x y _ = omega arith

stored_reach : (wanted : Bool) (y : ℕ) → reach (stored_code wanted y) ≤ y + 1
stored_reach true y = omega arith
stored_reach false y = omega arith

callee_reach : (c : Scope) (wanted : Bool) (n : List ℕ) (count : ℕ) (v : Meaning) → reach (callee_code c wanted n count v) ≡ 0
callee_reach c wanted n count (a_function f) = omega arith
callee_reach c wanted n count (a_foreign p) = omega arith
callee_reach c wanted n count (a_builtin Imul) = omega arith
callee_reach c wanted n count (a_builtin Clz32) = omega arith
callee_reach c wanted n count _ = omega arith

dropped_reach : (wanted : Bool) (v : Meaning) → reach (dropped wanted v) ≡ 0
dropped_reach true v = omega arith
dropped_reach false (a_builtin b) = omega arith
dropped_reach false _ = omega arith

entry_reach : (c : Scope) (v : Meaning) → reach (entry_code c v) ≡ 0
entry_reach c (a_table t) = omega arith
entry_reach c _ = omega arith

finished_reach : (wanted : Bool) (t : Trees) (n : ℕ) → reach t ≤ n → reach (finished wanted t) ≤ n
finished_reach true t n h = h
finished_reach false t n h = omega (arith, h, reach_joins t (one drop_operand))

either_reach : (b : Bool) (x y : Trees) (n : ℕ) → reach x ≤ n → reach y ≤ n → reach (if b then x else y) ≤ n
either_reach true x y n h i = h
either_reach false x y n h i = i

place_reach : (k : ℕ) (i : Expr) (code left : Trees) (n : ℕ) → reach code ≤ n → reach left ≤ n → reach (place_code k i code left) ≤ n
place_reach k (lit z) code left n h l = omega arith
place_reach k (binary op e s) code left n h l = either_reach (is_shift op) (left ⊕ plains (aligned k)) code n (omega (arith, l, reach_joins left (plains (aligned k)), aligned_reach k)) h
place_reach k i code left n h l = h

-- ---- expressions

module _ (heap : ℕ) (c : Scope) where
  mutual
    pub value_reach : (wanted : Bool) (d : ℕ) (e : Expr) → reach (expr_code heap c wanted d e) ≤ first_scratch c.within + d + expr_height e + 1
    value_reach wanted d (lit z) = finished_reach wanted _ _ (omega arith)
    value_reach wanted d (decimal bs) = finished_reach wanted _ _ (omega arith)
    value_reach wanted d (var n) = finished_reach wanted _ _ (omega (arith, get_reach (first_scratch c.within) (place_of c n) (variable_below c n)))
    value_reach wanted d (index n i) =
        let x = scratch heap c d in
        let first = place_reach (exponent_in (named c n)) i (expr_code heap c true d i) (left_code heap c d i) (first_scratch c.within + d + expr_height i + 1) (value_reach true d i) (left_reach d i) in
        let joined = reach_joins (place_code (exponent_in (named c n)) i (expr_code heap c true d i) (left_code heap c d i)) (load_code heap x (named c n)) in
        finished_reach wanted _ _ (omega (arith, first, joined, load_reach heap x (named c n)))
    value_reach wanted d (call n es) =
        let callee = callee_code c wanted n (exprs_length es) (named c n) in
        let first = arguments_reach d es in
        let joined = reach_joins (arguments_code heap c d es) (callee ⊕ dropped wanted (named c n)) in
        let ended = reach_joins callee (dropped wanted (named c n)) in
        omega (arith, first, joined, ended, callee_reach c wanted n (exprs_length es) (named c n), dropped_reach wanted (named c n))
    value_reach wanted d (table_call n i es) =
        let x = scratch heap c d in
        let entry = one (local_get x) ⊕ entry_code c (named c n) in
        let arguments = arguments_code heap c (suc d) es in
        let base = plains (from_base (base_of c.home n)) in
        let first = value_reach true d i in
        let second = arguments_reach (suc d) es in
        let joined = reach_joins (expr_code heap c true d i) (base ⊕ (one (local_set x) ⊕ (arguments ⊕ entry))) in
        let based = reach_joins base (one (local_set x) ⊕ (arguments ⊕ entry)) in
        let called = reach_joins arguments entry in
        omega (arith, first, second, joined, based, called, base_reach (base_of c.home n), entry_reach c (named c n))
    value_reach wanted d (assign n e) =
        let first = value_reach true d e in
        let joined = reach_joins (expr_code heap c true d e) (put_code wanted (place_of c n)) in
        omega (arith, first, joined, put_reach wanted (first_scratch c.within) (place_of c n) (variable_below c n))
    value_reach wanted d (store n i e) =
        let x = scratch heap c d in
        let y = scratch heap c (suc d) in
        let kept = store_code heap x y (named c n) in
        let last = stored_code wanted y in
        let first = place_reach (exponent_in (named c n)) i (expr_code heap c true d i) (left_code heap c d i) (first_scratch c.within + d + expr_height i + 1) (value_reach true d i) (left_reach d i) in
        let second = value_reach true d e in
        let joined = reach_joins (place_code (exponent_in (named c n)) i (expr_code heap c true d i) (left_code heap c d i)) (expr_code heap c true d e ⊕ (kept ⊕ last)) in
        let further = reach_joins (expr_code heap c true d e) (kept ⊕ last) in
        let ended = reach_joins kept last in
        omega (arith, first, second, joined, further, ended, store_reach heap x y (named c n), stored_reach wanted y)
    value_reach wanted d (unary op e) =
        let first = value_reach true d e in
        let joined = reach_joins (before_operand op) (expr_code heap c true d e ⊕ after_operand op) in
        let ended = reach_joins (expr_code heap c true d e) (after_operand op) in
        finished_reach wanted _ _ (omega (arith, first, joined, ended, before_reach op, after_reach op))
    value_reach wanted d (binary op l r) =
        let done = operator op (is_unsigned l || is_unsigned r) (scratch heap c d) (scratch heap c (suc d)) in
        let first = value_reach true d l in
        let second = value_reach true d r in
        let joined = reach_joins (expr_code heap c true d l) (expr_code heap c true d r ⊕ done) in
        let ended = reach_joins (expr_code heap c true d r) done in
        let alone : reach (expr_code heap c true d l) ≤ first_scratch c.within + d + expr_height (binary op l r) + 1 = omega (arith, first) in
        let both : reach (expr_code heap c true d l ⊕ (expr_code heap c true d r ⊕ done)) ≤ first_scratch c.within + d + expr_height (binary op l r) + 1 =
        omega (arith, first, second, joined, ended, operator_reach op (is_unsigned l || is_unsigned r) (scratch heap c d) (scratch heap c (suc d))) in
        finished_reach wanted _ _ (either_reach (or_zero op r) _ _ _ alone both)
    value_reach wanted d (chain e ls) =
        let first = value_reach true d e in
        let second = links_reach d ls in
        let joined = reach_joins (expr_code heap c true d e) (links_code heap c d ls) in
        finished_reach wanted _ _ (omega (arith, first, second, joined))
    value_reach wanted d (cond e a b) =
        let first = value_reach true d e in
        let second = value_reach true d a in
        let third = value_reach true d b in
        let joined = reach_joins (expr_code heap c true d e) (if_block (Some I32) (expr_code heap c true d a) (expr_code heap c true d b) ▹ ε) in
        finished_reach wanted _ _ (omega (arith, first, second, third, joined))
    value_reach wanted d (comma es) = let first = comma_reach d es in finished_reach wanted _ _ (omega (arith, first))

    left_reach : (d : ℕ) (e : Expr) → reach (left_code heap c d e) ≤ first_scratch c.within + d + expr_height e + 1
    left_reach d (binary op l r) = let first = value_reach true d l in omega (arith, first)
    left_reach d e = omega arith

    arguments_reach : (d : ℕ) (es : Exprs) → reach (arguments_code heap c d es) ≤ first_scratch c.within + d + exprs_height es + 1
    arguments_reach d no_exprs = omega arith
    arguments_reach d (exprs e es) =
        let first = value_reach true d e in
        let second = arguments_reach d es in
        let joined = reach_joins (expr_code heap c true d e) (arguments_code heap c d es) in
        omega (arith, first, second, joined)

    links_reach : (d : ℕ) (ls : Links) → reach (links_code heap c d ls) ≤ first_scratch c.within + d + links_height ls + 1
    links_reach d no_links = omega arith
    links_reach d (links minus e ls) =
        let first = value_reach true d e in
        let second = links_reach d ls in
        let joined = reach_joins (expr_code heap c true d e) (one (bin32 (link_operator minus)) ⊕ links_code heap c d ls) in
        omega (arith, first, second, joined)

    comma_reach : (d : ℕ) (es : Exprs) → reach (comma_code heap c d es) ≤ first_scratch c.within + d + exprs_height es + 1
    comma_reach d no_exprs = omega arith
    comma_reach d (exprs e no_exprs) = let first = value_reach true d e in omega (arith, first)
    comma_reach d (exprs e (exprs x es)) =
        let first = value_reach false d e in
        let second = comma_reach d (exprs x es) in
        let joined = reach_joins (expr_code heap c false d e) (comma_code heap c d (exprs x es)) in
        omega (arith, first, second, joined)

pub expressions_reach : ExpressionsReach
expressions_reach = value_reach
