-- Each instruction of the code of an expression is a light one.
use Rattle.std.proofs.Common.{ℕ, suc, Bool, true, false, List, [], ◌∷◌, Some}
use Rattle.std.specs.Prelude.{if◌then◌else◌, ◌==◌, ◌||◌}
use Rattle.sem_words.specs.declared.word.Bin.{Bin}
use Rattle.sem_words.specs.declared.word.Bin.TheVariants as bins
use Rattle.sem_words.specs.declared.js_value.JsOp.{JsOp}
use Rattle.sem_words.specs.declared.js_value.JsOp.TheVariants.{Add, Sub, Mul, Div, Rem, Or, And, Xor, Shl, Sar, Shr, Lt, Le, Gt, Ge, Eq, Ne}
use Rattle.sem_words.specs.declared.js_value.JsUnary.{JsUnary}
use Rattle.sem_words.specs.declared.js_value.JsUnary.TheVariants.{Neg, BitNot, Not, Plus}
use Rattle.wasm_lang.specs.declared.types.ValType.TheVariants.{I32}
use Rattle.wasm_lang.specs.Instructions.{Plain, bin32, local_get, local_set, drop_operand}
use Rattle.wasm_lang_exec.specs.Code.{Trees, ε, ◌▹◌, ◌⊕◌, if_block}
use Rattle.wasm_laws_write.specs.Each.{EachIn}
use Rattle.wasm_laws_write.proofs.Spelled.{each_joins}
use Rattle.asm_lang.specs.Modules.{Expr, lit, decimal, var, index, call, table_call, assign, store, unary, binary, chain, cond, comma, Exprs, no_exprs, exprs, Links, no_links, links}
use Rattle.asm_lang_valid.specs.declared.meaning.Builtin.TheVariants.{Imul, Clz32}
use Rattle.asm_lang_valid.specs.Scope.{Meaning, nothing, an_int, an_outside, a_foreign, a_builtin, a_view, a_function, a_table, a_parameter}
use Rattle.asm_lang_valid.specs.Typing.{Scope, named, exprs_length, or_zero}
use Rattle.asm2wasm_translation.specs.Numbers.{VariablePlace, a_local, a_global, nowhere, place_of, base_of}
use Rattle.asm2wasm_translation.specs.Values.{plains, one, get_code, put_code, guarded, quotient, operator, before_operand, after_operand, aligned, is_shift, place_code, exponent_in, load_code, store_code, stored_code, callee_code, dropped, from_base, entry_code, finished, is_unsigned, link_operator, scratch, expr_code, left_code, arguments_code, links_code, comma_code}
use Rattle.asm2wasm_laws_profile.specs.Light.{IsLight}

-- ---- pieces

abbrev pub Light : Trees → Type 0
Light code = EachIn IsLight code

pub joined : (a b : Trees) → Light a → Light b → Light (a ⊕ b)
joined = each_joins IsLight

pub either_light : (b : Bool) (x y : Trees) → Light x → Light y → Light (if b then x else y)
either_light true x y h i = h
either_light false x y h i = i

pub plains_or_none : (b : Bool) (ps : List Plain) → Light (plains ps) → Light (plains (if b then [] else ps))
plains_or_none true ps h = tt
plains_or_none false ps h = h

get_light : (p : VariablePlace) → Light (get_code p)
get_light (a_local x) = (tt, tt)
get_light (a_global x) = (tt, tt)
get_light nowhere = (tt, tt)

put_light : (wanted : Bool) (p : VariablePlace) → Light (put_code wanted p)
put_light true (a_local x) = (tt, tt)
put_light false (a_local x) = (tt, tt)
put_light true (a_global x) = (tt, (tt, tt))
put_light false (a_global x) = (tt, tt)
put_light true nowhere = (tt, tt)
put_light false nowhere = (tt, tt)

guarded_light : (x y : ℕ) (op : Bin) → Light (guarded x y op)
guarded_light x y op = (tt, (tt, (tt, (tt, (tt, (tt, (tt, tt))), (tt, tt), tt))))

quotient_light : (unsigned : Bool) (x y : ℕ) → Light (quotient unsigned x y)
quotient_light true x y = guarded_light x y bins.DivU
quotient_light false x y =
    (tt, (tt, (tt, (tt, (tt, (tt, (tt, (tt, (tt, (tt, (tt, tt))), (tt, (tt, (tt, tt))), tt))))))))

operator_light : (op : JsOp) (unsigned : Bool) (x y : ℕ) → Light (operator op unsigned x y)
operator_light Add u x y = (tt, tt)
operator_light Sub u x y = (tt, tt)
operator_light Mul u x y = (tt, tt)
operator_light Div u x y = quotient_light u x y
operator_light Rem u x y = guarded_light x y (if u then bins.RemU else bins.RemS)
operator_light Or u x y = (tt, tt)
operator_light And u x y = (tt, tt)
operator_light Xor u x y = (tt, tt)
operator_light Shl u x y = (tt, tt)
operator_light Sar u x y = (tt, tt)
operator_light Shr u x y = (tt, tt)
operator_light Lt u x y = (tt, tt)
operator_light Le u x y = (tt, tt)
operator_light Gt u x y = (tt, tt)
operator_light Ge u x y = (tt, tt)
operator_light Eq u x y = (tt, tt)
operator_light Ne u x y = (tt, tt)

before_light : (op : JsUnary) → Light (before_operand op)
before_light Neg = (tt, tt)
before_light BitNot = (tt, tt)
before_light Not = tt
before_light Plus = tt

after_light : (op : JsUnary) → Light (after_operand op)
after_light Neg = (tt, tt)
after_light BitNot = (tt, tt)
after_light Not = (tt, tt)
after_light Plus = (tt, tt)

load_light : (heap x : ℕ) (v : Meaning) → Light (load_code heap x v)
load_light heap x (a_view v) = (tt, (tt, (tt, (tt, (tt, (tt, tt)), (tt, tt), tt))))
load_light heap x _ = (tt, tt)

store_light : (heap x y : ℕ) (v : Meaning) → Light (store_code heap x y v)
store_light heap x y (a_view v) = (tt, (tt, (tt, (tt, (tt, (tt, (tt, (tt, tt))), tt, tt)))))
store_light heap x y _ = (tt, tt)

stored_light : (wanted : Bool) (y : ℕ) → Light (stored_code wanted y)
stored_light true y = (tt, tt)
stored_light false y = tt

callee_light : (c : Scope) (wanted : Bool) (n : List ℕ) (count : ℕ) (v : Meaning) → Light (callee_code c wanted n count v)
callee_light c wanted n count (a_function f) = (tt, tt)
callee_light c wanted n count (a_foreign p) = (tt, tt)
callee_light c wanted n count (a_builtin Imul) = (tt, tt)
callee_light c wanted n count (a_builtin Clz32) = (tt, tt)
callee_light c wanted n count _ = (tt, tt)

dropped_light : (wanted : Bool) (v : Meaning) → Light (dropped wanted v)
dropped_light true v = tt
dropped_light false (a_builtin b) = (tt, tt)
dropped_light false _ = tt

base_light : (base : ℕ) → Light (plains (from_base base))
base_light base = plains_or_none (base == 0) _ (tt, (tt, tt))

-- a name that means no table
abbrev pub NoTable : Meaning → Type 0
NoTable (a_table t) = ⊥
NoTable _ = Unit {0}

entry_light : (c : Scope) (v : Meaning) → NoTable v → Light (entry_code c v)
entry_light c (a_table t) none = absurd none
entry_light c nothing none = (tt, tt)
entry_light c an_int none = (tt, tt)
entry_light c an_outside none = (tt, tt)
entry_light c (a_foreign p) none = (tt, tt)
entry_light c (a_builtin b) none = (tt, tt)
entry_light c (a_view v) none = (tt, tt)
entry_light c (a_function f) none = (tt, tt)
entry_light c a_parameter none = (tt, tt)

finished_light : (wanted : Bool) (t : Trees) → Light t → Light (finished wanted t)
finished_light true t h = h
finished_light false t h = joined t (one drop_operand) h (tt, tt)

place_light : (k : ℕ) (i : Expr) (code left : Trees) → Light code → Light left → Light (place_code k i code left)
place_light k (lit z) code left h l = (tt, tt)
place_light k (binary op e s) code left h l =
    either_light (is_shift op) _ _ (joined left (plains (aligned k)) l (plains_or_none (k == 0) _ (tt, (tt, tt)))) h
place_light k i code left h l = h

-- ---- expressions

module _ (heap : ℕ) (c : Scope) (none : (n : List ℕ) → NoTable (named c n)) where
  mutual
    pub value_light : (wanted : Bool) (d : ℕ) (e : Expr) → Light (expr_code heap c wanted d e)
    value_light wanted d (lit z) = finished_light wanted _ (tt, tt)
    value_light wanted d (decimal bs) = finished_light wanted _ (tt, tt)
    value_light wanted d (var n) = finished_light wanted _ (get_light (place_of c n))
    value_light wanted d (index n i) =
        let x = scratch heap c d in
        finished_light wanted _ (joined (place_code (exponent_in (named c n)) i (expr_code heap c true d i) (left_code heap c d i)) (load_code heap x (named c n)) (place_light (exponent_in (named c n)) i (expr_code heap c true d i) (left_code heap c d i) (value_light true d i) (left_light d i)) (load_light heap x (named c n)))
    value_light wanted d (call n es) =
        let callee = callee_code c wanted n (exprs_length es) (named c n) in
        let ended = joined callee (dropped wanted (named c n)) (callee_light c wanted n (exprs_length es) (named c n)) (dropped_light wanted (named c n)) in
        joined (arguments_code heap c d es) (callee ⊕ dropped wanted (named c n)) (arguments_light d es) ended
    value_light wanted d (table_call n i es) =
        let x = scratch heap c d in
        let entry = one (local_get x) ⊕ entry_code c (named c n) in
        let arguments = arguments_code heap c (suc d) es in
        let base = plains (from_base (base_of c.home n)) in
        let called = joined arguments entry (arguments_light (suc d) es) (tt, entry_light c (named c n) (none n)) in
        let based = joined base (one (local_set x) ⊕ (arguments ⊕ entry)) (base_light (base_of c.home n)) (tt, called) in
        joined (expr_code heap c true d i) (base ⊕ (one (local_set x) ⊕ (arguments ⊕ entry))) (value_light true d i) based
    value_light wanted d (assign n e) = joined (expr_code heap c true d e) (put_code wanted (place_of c n)) (value_light true d e) (put_light wanted (place_of c n))
    value_light wanted d (store n i e) =
        let x = scratch heap c d in
        let y = scratch heap c (suc d) in
        let kept = store_code heap x y (named c n) in
        let last = stored_code wanted y in
        let ended = joined kept last (store_light heap x y (named c n)) (stored_light wanted y) in
        let further = joined (expr_code heap c true d e) (kept ⊕ last) (value_light true d e) ended in
        joined (place_code (exponent_in (named c n)) i (expr_code heap c true d i) (left_code heap c d i)) (expr_code heap c true d e ⊕ (kept ⊕ last)) (place_light (exponent_in (named c n)) i (expr_code heap c true d i) (left_code heap c d i) (value_light true d i) (left_light d i)) further
    value_light wanted d (unary op e) =
        let ended = joined (expr_code heap c true d e) (after_operand op) (value_light true d e) (after_light op) in
        finished_light wanted _ (joined (before_operand op) (expr_code heap c true d e ⊕ after_operand op) (before_light op) ended)
    value_light wanted d (binary op l r) =
        let done = operator op (is_unsigned l || is_unsigned r) (scratch heap c d) (scratch heap c (suc d)) in
        let ended = joined (expr_code heap c true d r) done (value_light true d r) (operator_light op (is_unsigned l || is_unsigned r) (scratch heap c d) (scratch heap c (suc d))) in
        let both = joined (expr_code heap c true d l) (expr_code heap c true d r ⊕ done) (value_light true d l) ended in
        finished_light wanted _ (either_light (or_zero op r) _ _ (value_light true d l) both)
    value_light wanted d (chain e ls) = finished_light wanted _ (joined (expr_code heap c true d e) (links_code heap c d ls) (value_light true d e) (links_light d ls))
    value_light wanted d (cond e a b) =
        let choice = if_block (Some I32) (expr_code heap c true d a) (expr_code heap c true d b) ▹ ε in
        finished_light wanted _ (joined (expr_code heap c true d e) choice (value_light true d e) (tt, value_light true d a, value_light true d b, tt))
    value_light wanted d (comma es) = finished_light wanted _ (comma_light d es)

    left_light : (d : ℕ) (e : Expr) → Light (left_code heap c d e)
    left_light d (binary op l r) = value_light true d l
    left_light d e = tt

    arguments_light : (d : ℕ) (es : Exprs) → Light (arguments_code heap c d es)
    arguments_light d no_exprs = tt
    arguments_light d (exprs e es) = joined (expr_code heap c true d e) (arguments_code heap c d es) (value_light true d e) (arguments_light d es)

    links_light : (d : ℕ) (ls : Links) → Light (links_code heap c d ls)
    links_light d no_links = tt
    links_light d (links minus e ls) =
        joined (expr_code heap c true d e) (one (bin32 (link_operator minus)) ⊕ links_code heap c d ls) (value_light true d e) (tt, links_light d ls)

    comma_light : (d : ℕ) (es : Exprs) → Light (comma_code heap c d es)
    comma_light d no_exprs = (tt, tt)
    comma_light d (exprs e no_exprs) = value_light true d e
    comma_light d (exprs e (exprs x es)) = joined (expr_code heap c false d e) (comma_code heap c d (exprs x es)) (value_light false d e) (comma_light d (exprs x es))
