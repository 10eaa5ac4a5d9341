-- Constants of the code of an expression are words.
use Rattle.std.proofs.Common.{ℕ, suc, ◌-◌, ◌^◌, ◌<◌, Bool, true, false, List, [], ◌∷◌, Some, ℤ, pos, negsuc, arith}
use Rattle.std.specs.Prelude.{if◌then◌else◌, ◌==◌, ◌||◌}
use Rattle.std.proofs.lemmas.Nat.{pow_pos}
use Rattle.sem_words.specs.declared.word.Bin.{Bin}
use Rattle.sem_words.specs.declared.word.Bin.TheVariants as bins
use Rattle.sem_words.specs.declared.js_value.JsOp.{JsOp}
use Rattle.sem_words.specs.declared.js_value.JsOp.TheVariants.{Add, Sub, Mul, Div, Rem, Or, And, Xor, Shl, Sar, Shr, Lt, Le, Gt, Ge, Eq, Ne}
use Rattle.sem_words.specs.declared.js_value.JsUnary.{JsUnary}
use Rattle.sem_words.specs.declared.js_value.JsUnary.TheVariants.{Neg, BitNot, Not, Plus}
use Rattle.sem_words.proofs.WordLaws.{word_of-IsWord}
use Rattle.wasm_lang.specs.declared.types.ValType.TheVariants.{I32}
use Rattle.wasm_lang.specs.Instructions.{Plain, bin32, local_get, local_set, drop_operand}
use Rattle.wasm_lang_exec.specs.Code.{Trees, ε, ◌▹◌, ◌⊕◌, if_block}
use Rattle.wasm_laws_write.specs.Each.{EachIn}
use Rattle.wasm_laws_write.proofs.Spelled.{each_joins}
use Rattle.asm_lang.specs.Modules.{Expr, lit, decimal, var, index, call, table_call, assign, store, unary, binary, chain, cond, comma, Exprs, no_exprs, exprs, Links, no_links, links}
use Rattle.asm_lang_valid.specs.declared.meaning.Builtin.TheVariants.{Imul, Clz32}
use Rattle.asm_lang_valid.specs.Scope.{Meaning, a_foreign, a_builtin, a_view, a_function, a_table}
use Rattle.asm_lang_valid.specs.Typing.{Scope, named, exprs_length, or_zero}
use Rattle.asm2wasm_translation.specs.Numbers.{VariablePlace, a_local, a_global, nowhere, place_of, base_of}
use Rattle.asm2wasm_translation.specs.Values.{number, plains, one, get_code, put_code, guarded, quotient, operator, before_operand, after_operand, aligned, is_shift, literal_place, place_code, exponent_in, load_code, store_code, stored_code, callee_code, dropped, from_base, entry_code, finished, is_unsigned, link_operator, scratch, expr_code, left_code, arguments_code, links_code, comma_code}
use Rattle.asm2wasm_laws_writable.specs.Parts.{ConstantFits}

-- ---- pieces

abbrev pub Fit : Trees → Type 0
Fit code = EachIn ConstantFits code

pub joined : (a b : Trees) → Fit a → Fit b → Fit (a ⊕ b)
joined = each_joins ConstantFits

pub either_fit : (b : Bool) (x y : Trees) → Fit x → Fit y → Fit (if b then x else y)
either_fit true x y h i = h
either_fit false x y h i = i

pub plains_or_none : (b : Bool) (ps : List Plain) → Fit (plains ps) → Fit (plains (if b then [] else ps))
plains_or_none true ps h = tt
plains_or_none false ps h = h

get_fit : (p : VariablePlace) → Fit (get_code p)
get_fit (a_local x) = (tt, tt)
get_fit (a_global x) = (tt, tt)
get_fit nowhere = (tt, tt)

put_fit : (wanted : Bool) (p : VariablePlace) → Fit (put_code wanted p)
put_fit true (a_local x) = (tt, tt)
put_fit false (a_local x) = (tt, tt)
put_fit true (a_global x) = (tt, (tt, tt))
put_fit false (a_global x) = (tt, tt)
put_fit true nowhere = (tt, tt)
put_fit false nowhere = (tt, tt)

guarded_fit : (x y : ℕ) (op : Bin) → Fit (guarded x y op)
guarded_fit x y op = (tt, (tt, (tt, (tt, (tt, (tt, (tt, tt))), (omega arith, tt), tt))))

quotient_fit : (unsigned : Bool) (x y : ℕ) → Fit (quotient unsigned x y)
quotient_fit true x y = guarded_fit x y bins.DivU
quotient_fit false x y = (tt, (tt, (tt, (omega arith, (tt, (omega arith, (tt, (tt, (tt, (tt, (tt, tt))), (tt, (tt, (tt, tt))), tt))))))))

operator_fit : (op : JsOp) (unsigned : Bool) (x y : ℕ) → Fit (operator op unsigned x y)
operator_fit Add u x y = (tt, tt)
operator_fit Sub u x y = (tt, tt)
operator_fit Mul u x y = (tt, tt)
operator_fit Div u x y = quotient_fit u x y
operator_fit Rem u x y = guarded_fit x y (if u then bins.RemU else bins.RemS)
operator_fit Or u x y = (tt, tt)
operator_fit And u x y = (tt, tt)
operator_fit Xor u x y = (tt, tt)
operator_fit Shl u x y = (tt, tt)
operator_fit Sar u x y = (tt, tt)
operator_fit Shr u x y = (tt, tt)
operator_fit Lt u x y = (tt, tt)
operator_fit Le u x y = (tt, tt)
operator_fit Gt u x y = (tt, tt)
operator_fit Ge u x y = (tt, tt)
operator_fit Eq u x y = (tt, tt)
operator_fit Ne u x y = (tt, tt)

before_fit : (op : JsUnary) → Fit (before_operand op)
before_fit Neg = (omega arith, tt)
before_fit BitNot = (omega arith, tt)
before_fit Not = tt
before_fit Plus = tt

after_fit : (op : JsUnary) → Fit (after_operand op)
after_fit Neg = (tt, tt)
after_fit BitNot = (tt, tt)
after_fit Not = (tt, tt)
after_fit Plus = (tt, tt)

-- ---- elements of a view

aligned_low : (k : ℕ) → 2 ^ 32 - 2 ^ k < 2 ^ 32
aligned_low k = let some = pow_pos k in omega (arith, some)

literal_low : (k : ℕ) (z : ℤ) → literal_place k z < 2 ^ 32
literal_low k (pos n) = omega arith
literal_low k (negsuc n) = word_of-IsWord 32 (negsuc n)

load_fit : (heap x : ℕ) → heap < 2 ^ 32 → (v : Meaning) → Fit (load_code heap x v)
load_fit heap x low (a_view v) = (tt, (low, (tt, (tt, (tt, (omega arith, tt)), (omega arith, tt), tt))))
load_fit heap x low _ = (tt, tt)

store_fit : (heap x y : ℕ) → heap < 2 ^ 32 → (v : Meaning) → Fit (store_code heap x y v)
store_fit heap x y low (a_view v) = (tt, (tt, (low, (tt, (tt, (tt, (tt, (omega arith, tt))), tt, tt)))))
store_fit heap x y low _ = (tt, tt)

stored_fit : (wanted : Bool) (y : ℕ) → Fit (stored_code wanted y)
stored_fit true y = (tt, tt)
stored_fit false y = tt

-- ---- calls

callee_fit : (c : Scope) (wanted : Bool) (n : List ℕ) (count : ℕ) (v : Meaning) → Fit (callee_code c wanted n count v)
callee_fit c wanted n count (a_function f) = (tt, tt)
callee_fit c wanted n count (a_foreign p) = (tt, tt)
callee_fit c wanted n count (a_builtin Imul) = (tt, tt)
callee_fit c wanted n count (a_builtin Clz32) = (tt, tt)
callee_fit c wanted n count _ = (tt, tt)

dropped_fit : (wanted : Bool) (v : Meaning) → Fit (dropped wanted v)
dropped_fit true v = tt
dropped_fit false (a_builtin b) = (tt, tt)
dropped_fit false _ = tt

base_fit : (base : ℕ) → base < 2 ^ 32 → Fit (plains (from_base base))
base_fit base low = plains_or_none (base == 0) (number base ∷ bin32 bins.Add ∷ []) (low, (tt, tt))

entry_fit : (c : Scope) (v : Meaning) → Fit (entry_code c v)
entry_fit c (a_table t) = (tt, tt)
entry_fit c _ = (tt, tt)

finished_fit : (wanted : Bool) (t : Trees) → Fit t → Fit (finished wanted t)
finished_fit true t h = h
finished_fit false t h = joined t (one drop_operand) h (tt, tt)

place_fit : (k : ℕ) (i : Expr) (code left : Trees) → Fit code → Fit left → Fit (place_code k i code left)
place_fit k (lit z) code left h l = (literal_low k z, tt)
place_fit k (binary op e s) code left h l =
    either_fit (is_shift op) _ _ (joined left (plains (aligned k)) l (plains_or_none (k == 0) _ (aligned_low k, (tt, tt)))) h
place_fit k i code left h l = h

-- ---- expressions

module _ (heap : ℕ) (c : Scope) (low : heap < 2 ^ 32) (bases : (n : List ℕ) → base_of c.home n < 2 ^ 32) where
  mutual
    pub value_fit : (wanted : Bool) (d : ℕ) (e : Expr) → Fit (expr_code heap c wanted d e)
    value_fit wanted d (lit z) = finished_fit wanted _ (word_of-IsWord 32 z, tt)
    value_fit wanted d (decimal bs) = finished_fit wanted _ (tt, tt)
    value_fit wanted d (var n) = finished_fit wanted _ (get_fit (place_of c n))
    value_fit wanted d (index n i) =
        let x = scratch heap c d in
        finished_fit wanted _ (joined (place_code (exponent_in (named c n)) i (expr_code heap c true d i) (left_code heap c d i)) (load_code heap x (named c n)) (place_fit (exponent_in (named c n)) i (expr_code heap c true d i) (left_code heap c d i) (value_fit true d i) (left_fit d i)) (load_fit heap x low (named c n)))
    value_fit wanted d (call n es) =
        let callee = callee_code c wanted n (exprs_length es) (named c n) in
        let ended = joined callee (dropped wanted (named c n)) (callee_fit c wanted n (exprs_length es) (named c n)) (dropped_fit wanted (named c n)) in
        joined (arguments_code heap c d es) (callee ⊕ dropped wanted (named c n)) (arguments_fit d es) ended
    value_fit wanted d (table_call n i es) =
        let x = scratch heap c d in
        let entry = one (local_get x) ⊕ entry_code c (named c n) in
        let arguments = arguments_code heap c (suc d) es in
        let base = plains (from_base (base_of c.home n)) in
        let called = joined arguments entry (arguments_fit (suc d) es) (tt, entry_fit c (named c n)) in
        let based = joined base (one (local_set x) ⊕ (arguments ⊕ entry)) (base_fit (base_of c.home n) (bases n)) (tt, called) in
        joined (expr_code heap c true d i) (base ⊕ (one (local_set x) ⊕ (arguments ⊕ entry))) (value_fit true d i) based
    value_fit wanted d (assign n e) = joined (expr_code heap c true d e) (put_code wanted (place_of c n)) (value_fit true d e) (put_fit wanted (place_of c n))
    value_fit wanted d (store n i e) =
        let x = scratch heap c d in
        let y = scratch heap c (suc d) in
        let kept = store_code heap x y (named c n) in
        let last = stored_code wanted y in
        let ended = joined kept last (store_fit heap x y low (named c n)) (stored_fit wanted y) in
        let further = joined (expr_code heap c true d e) (kept ⊕ last) (value_fit true d e) ended in
        joined (place_code (exponent_in (named c n)) i (expr_code heap c true d i) (left_code heap c d i)) (expr_code heap c true d e ⊕ (kept ⊕ last)) (place_fit (exponent_in (named c n)) i (expr_code heap c true d i) (left_code heap c d i) (value_fit true d i) (left_fit d i)) further
    value_fit wanted d (unary op e) =
        let ended = joined (expr_code heap c true d e) (after_operand op) (value_fit true d e) (after_fit op) in
        finished_fit wanted _ (joined (before_operand op) (expr_code heap c true d e ⊕ after_operand op) (before_fit op) ended)
    value_fit wanted d (binary op l r) =
        let done = operator op (is_unsigned l || is_unsigned r) (scratch heap c d) (scratch heap c (suc d)) in
        let ended = joined (expr_code heap c true d r) done (value_fit true d r) (operator_fit op (is_unsigned l || is_unsigned r) (scratch heap c d) (scratch heap c (suc d))) in
        let both = joined (expr_code heap c true d l) (expr_code heap c true d r ⊕ done) (value_fit true d l) ended in
        finished_fit wanted _ (either_fit (or_zero op r) _ _ (value_fit true d l) both)
    value_fit wanted d (chain e ls) = finished_fit wanted _ (joined (expr_code heap c true d e) (links_code heap c d ls) (value_fit true d e) (links_fit d ls))
    value_fit wanted d (cond e a b) =
        let choice = if_block (Some I32) (expr_code heap c true d a) (expr_code heap c true d b) ▹ ε in
        finished_fit wanted _ (joined (expr_code heap c true d e) choice (value_fit true d e) (tt, value_fit true d a, value_fit true d b, tt))
    value_fit wanted d (comma es) = finished_fit wanted _ (comma_fit d es)

    left_fit : (d : ℕ) (e : Expr) → Fit (left_code heap c d e)
    left_fit d (binary op l r) = value_fit true d l
    left_fit d e = tt

    arguments_fit : (d : ℕ) (es : Exprs) → Fit (arguments_code heap c d es)
    arguments_fit d no_exprs = tt
    arguments_fit d (exprs e es) = joined (expr_code heap c true d e) (arguments_code heap c d es) (value_fit true d e) (arguments_fit d es)

    links_fit : (d : ℕ) (ls : Links) → Fit (links_code heap c d ls)
    links_fit d no_links = tt
    links_fit d (links minus e ls) =
        joined (expr_code heap c true d e) (one (bin32 (link_operator minus)) ⊕ links_code heap c d ls) (value_fit true d e) (tt, links_fit d ls)

    comma_fit : (d : ℕ) (es : Exprs) → Fit (comma_code heap c d es)
    comma_fit d no_exprs = (tt, tt)
    comma_fit d (exprs e no_exprs) = value_fit true d e
    comma_fit d (exprs e (exprs x es)) = joined (expr_code heap c false d e) (comma_code heap c d (exprs x es)) (value_fit false d e) (comma_fit d (exprs x es))
