-- Each instruction of the code of an expression has an opcode.
use Rattle.std.proofs.Common.{ℕ, suc, Bool, true, false, List, [], ◌∷◌, Option, Some, None, refl}
use Rattle.std.specs.Prelude.{if◌then◌else◌, ◌==◌, ◌||◌}
use Rattle.sem_words.specs.declared.word.Bin.{Bin}
use Rattle.sem_words.specs.declared.word.Bin.TheVariants as bins
use Rattle.sem_words.specs.declared.word.Un.{Un}
use Rattle.sem_words.specs.declared.word.Un.TheVariants as uns
use Rattle.sem_words.specs.declared.word.Rel.{Rel}
use Rattle.sem_words.specs.declared.word.Rel.TheVariants as rels
use Rattle.sem_words.specs.declared.js_value.JsOp.{JsOp}
use Rattle.sem_words.specs.declared.js_value.JsOp.TheVariants.{Add, Sub, Mul, Div, Rem, Or, And, Xor, Shl, Sar, Shr, Lt, Le, Gt, Ge, Eq, Ne}
use Rattle.sem_words.specs.declared.js_value.JsUnary.{JsUnary}
use Rattle.sem_words.specs.declared.js_value.JsUnary.TheVariants.{Neg, BitNot, Not, Plus}
use Rattle.wasm_lang.specs.declared.types.ValType.{ValType}
use Rattle.wasm_lang.specs.declared.types.ValType.TheVariants.{I32}
use Rattle.wasm_lang.specs.Instructions as instructions
use Rattle.wasm_lang.specs.Instructions.{Plain, bin32, rel32, un32, eqz32, local_get, local_set, local_tee, global_get, global_set, drop_operand}
use Rattle.wasm_lang.specs.Opcodes.{form_at}
use Rattle.wasm_lang.specs.Shape.{HasOpcode}
use Rattle.wasm_lang_exec.specs.Code.{Trees, ε, ◌▹◌, ◌⊕◌, if_block}
use Rattle.wasm_laws_write.specs.Each.{EachIn}
use Rattle.wasm_laws_write.proofs.Spelled.{each_joins}
use Rattle.asm_lang.specs.Modules.{Expr, lit, decimal, var, index, call, table_call, assign, store, unary, binary, chain, cond, comma, Exprs, no_exprs, exprs, Links, no_links, links}
use Rattle.asm_lang_valid.specs.declared.meaning.Element.{Element}
use Rattle.asm_lang_valid.specs.declared.meaning.Element.TheVariants.{Int8, Uint8, Int16, Uint16, Int32, Uint32}
use Rattle.asm_lang_valid.specs.declared.meaning.Builtin.TheVariants.{Imul, Clz32}
use Rattle.asm_lang_valid.specs.Scope.{shift_of, Meaning, a_foreign, a_builtin, a_view, a_function, a_table}
use Rattle.asm_lang_valid.specs.Typing.{Scope, named, exprs_length, or_zero}
use Rattle.asm2wasm_translation.specs.Numbers.{VariablePlace, a_local, a_global, nowhere, place_of, base_of}
use Rattle.asm2wasm_translation.specs.Values.{number, plains, one, get_code, put_code, guarded, quotient, operator, before_operand, after_operand, aligned, is_shift, place_code, exponent_in, load_code, store_code, stored_code, callee_code, dropped, from_base, entry_code, finished, access, is_signed_element, is_unsigned, link_operator, scratch, expr_code, left_code, arguments_code, links_code, comma_code}
use Rattle.asm2wasm_laws_writable.specs.OpcodesLaws.{ExpressionsHaveOpcodes}

-- ---- single instructions

pub unreachable_opcode : HasOpcode instructions.unreachable
unfolding form_at
unreachable_opcode = (0x00, refl)

pub block_opcode : (r : Option ValType) → HasOpcode (instructions.block r)
unfolding form_at
block_opcode r = (0x02, refl)

pub loop_opcode : (r : Option ValType) → HasOpcode (instructions.loop r)
unfolding form_at
loop_opcode r = (0x03, refl)

pub if_opcode : (r : Option ValType) → HasOpcode (instructions.if_block r)
unfolding form_at
if_opcode r = (0x04, refl)

pub br_opcode : (l : ℕ) → HasOpcode (instructions.br l)
unfolding form_at
br_opcode l = (0x0c, refl)

pub br_if_opcode : (l : ℕ) → HasOpcode (instructions.br_if l)
unfolding form_at
br_if_opcode l = (0x0d, refl)

pub br_table_opcode : (ls : List ℕ) (l : ℕ) → HasOpcode (instructions.br_table ls l)
unfolding form_at
br_table_opcode ls l = (0x0e, refl)

pub return_opcode : HasOpcode instructions.return
unfolding form_at
return_opcode = (0x0f, refl)

call_opcode : (f : ℕ) → HasOpcode (instructions.call f)
unfolding form_at
call_opcode f = (0x10, refl)

call_indirect_opcode : (t : ℕ) → HasOpcode (instructions.call_indirect t)
unfolding form_at
call_indirect_opcode t = (0x11, refl)

drop_opcode : HasOpcode (instructions.plain drop_operand)
unfolding form_at
drop_opcode = (0x1a, refl)

pub get_opcode : (x : ℕ) → HasOpcode (instructions.plain (local_get x))
unfolding form_at
get_opcode x = (0x20, refl)

pub set_opcode : (x : ℕ) → HasOpcode (instructions.plain (local_set x))
unfolding form_at
set_opcode x = (0x21, refl)

tee_opcode : (x : ℕ) → HasOpcode (instructions.plain (local_tee x))
unfolding form_at
tee_opcode x = (0x22, refl)

pub global_get_opcode : (x : ℕ) → HasOpcode (instructions.plain (global_get x))
unfolding form_at
global_get_opcode x = (0x23, refl)

global_set_opcode : (x : ℕ) → HasOpcode (instructions.plain (global_set x))
unfolding form_at
global_set_opcode x = (0x24, refl)

load_opcode : (v : Element) (align offset : ℕ) → HasOpcode (instructions.plain (instructions.load (access v (is_signed_element v)) align offset))
unfolding form_at
load_opcode Int8 align offset = (0x2c, refl)
load_opcode Uint8 align offset = (0x2d, refl)
load_opcode Int16 align offset = (0x2e, refl)
load_opcode Uint16 align offset = (0x2f, refl)
load_opcode Int32 align offset = (0x28, refl)
load_opcode Uint32 align offset = (0x28, refl)

store_opcode : (v : Element) (align offset : ℕ) → HasOpcode (instructions.plain (instructions.store (access v false) align offset))
unfolding form_at
store_opcode Int8 align offset = (0x3a, refl)
store_opcode Uint8 align offset = (0x3a, refl)
store_opcode Int16 align offset = (0x3b, refl)
store_opcode Uint16 align offset = (0x3b, refl)
store_opcode Int32 align offset = (0x36, refl)
store_opcode Uint32 align offset = (0x36, refl)

pub number_opcode : (n : ℕ) → HasOpcode (instructions.plain (number n))
unfolding form_at
number_opcode n = (0x41, refl)

pub eqz_opcode : HasOpcode (instructions.plain eqz32)
unfolding form_at
eqz_opcode = (0x45, refl)

pub rel_opcode : (op : Rel) → HasOpcode (instructions.plain (rel32 op))
unfolding form_at
rel_opcode rels.Eq = (0x46, refl)
rel_opcode rels.Ne = (0x47, refl)
rel_opcode rels.LtS = (0x48, refl)
rel_opcode rels.LtU = (0x49, refl)
rel_opcode rels.GtS = (0x4a, refl)
rel_opcode rels.GtU = (0x4b, refl)
rel_opcode rels.LeS = (0x4c, refl)
rel_opcode rels.LeU = (0x4d, refl)
rel_opcode rels.GeS = (0x4e, refl)
rel_opcode rels.GeU = (0x4f, refl)

un_opcode : (op : Un) → HasOpcode (instructions.plain (un32 op))
unfolding form_at
un_opcode uns.Clz = (0x67, refl)
un_opcode uns.Ctz = (0x68, refl)
un_opcode uns.Popcnt = (0x69, refl)

pub bin_opcode : (op : Bin) → HasOpcode (instructions.plain (bin32 op))
unfolding form_at
bin_opcode bins.Add = (0x6a, refl)
bin_opcode bins.Sub = (0x6b, refl)
bin_opcode bins.Mul = (0x6c, refl)
bin_opcode bins.DivS = (0x6d, refl)
bin_opcode bins.DivU = (0x6e, refl)
bin_opcode bins.RemS = (0x6f, refl)
bin_opcode bins.RemU = (0x70, refl)
bin_opcode bins.And = (0x71, refl)
bin_opcode bins.Or = (0x72, refl)
bin_opcode bins.Xor = (0x73, refl)
bin_opcode bins.Shl = (0x74, refl)
bin_opcode bins.ShrS = (0x75, refl)
bin_opcode bins.ShrU = (0x76, refl)
bin_opcode bins.Rotl = (0x77, refl)
bin_opcode bins.Rotr = (0x78, refl)

-- ---- pieces

abbrev pub Opcodes : Trees → Type 0
Opcodes code = EachIn HasOpcode code

pub joined : (a b : Trees) → Opcodes a → Opcodes b → Opcodes (a ⊕ b)
joined = each_joins HasOpcode

pub either_opcodes : (b : Bool) (x y : Trees) → Opcodes x → Opcodes y → Opcodes (if b then x else y)
either_opcodes true x y h i = h
either_opcodes false x y h i = i

pub plains_or_none : (b : Bool) (ps : List Plain) → Opcodes (plains ps) → Opcodes (plains (if b then [] else ps))
plains_or_none true ps h = tt
plains_or_none false ps h = h

get_opcodes : (p : VariablePlace) → Opcodes (get_code p)
get_opcodes (a_local x) = (get_opcode x, tt)
get_opcodes (a_global x) = (global_get_opcode x, tt)
get_opcodes nowhere = (unreachable_opcode, tt)

put_opcodes : (wanted : Bool) (p : VariablePlace) → Opcodes (put_code wanted p)
put_opcodes true (a_local x) = (tee_opcode x, tt)
put_opcodes false (a_local x) = (set_opcode x, tt)
put_opcodes true (a_global x) = (global_set_opcode x, (global_get_opcode x, tt))
put_opcodes false (a_global x) = (global_set_opcode x, tt)
put_opcodes true nowhere = (unreachable_opcode, tt)
put_opcodes false nowhere = (unreachable_opcode, tt)

guarded_opcodes : (x y : ℕ) (op : Bin) → Opcodes (guarded x y op)
guarded_opcodes x y op = (set_opcode y, (set_opcode x, (get_opcode y, (if_opcode (Some I32), (get_opcode x, (get_opcode y, (bin_opcode op, tt))), (number_opcode 0, tt), tt))))

quotient_opcodes : (unsigned : Bool) (x y : ℕ) → Opcodes (quotient unsigned x y)
quotient_opcodes true x y = guarded_opcodes x y bins.DivU
quotient_opcodes false x y =
    (set_opcode y, (set_opcode x, (get_opcode y, (number_opcode 1, (bin_opcode bins.Add, (number_opcode 1, (rel_opcode rels.GtU, (if_opcode (Some I32), (get_opcode x, (get_opcode y, (bin_opcode bins.DivS, tt))), (get_opcode x, (get_opcode y, (bin_opcode bins.Mul, tt))), tt))))))))

operator_opcodes : (op : JsOp) (unsigned : Bool) (x y : ℕ) → Opcodes (operator op unsigned x y)
operator_opcodes Add u x y = (bin_opcode bins.Add, tt)
operator_opcodes Sub u x y = (bin_opcode bins.Sub, tt)
operator_opcodes Mul u x y = (bin_opcode bins.Mul, tt)
operator_opcodes Div u x y = quotient_opcodes u x y
operator_opcodes Rem u x y = guarded_opcodes x y (if u then bins.RemU else bins.RemS)
operator_opcodes Or u x y = (bin_opcode bins.Or, tt)
operator_opcodes And u x y = (bin_opcode bins.And, tt)
operator_opcodes Xor u x y = (bin_opcode bins.Xor, tt)
operator_opcodes Shl u x y = (bin_opcode bins.Shl, tt)
operator_opcodes Sar u x y = (bin_opcode bins.ShrS, tt)
operator_opcodes Shr u x y = (bin_opcode bins.ShrU, tt)
operator_opcodes Lt u x y = (rel_opcode (if u then rels.LtU else rels.LtS), tt)
operator_opcodes Le u x y = (rel_opcode (if u then rels.LeU else rels.LeS), tt)
operator_opcodes Gt u x y = (rel_opcode (if u then rels.GtU else rels.GtS), tt)
operator_opcodes Ge u x y = (rel_opcode (if u then rels.GeU else rels.GeS), tt)
operator_opcodes Eq u x y = (rel_opcode rels.Eq, tt)
operator_opcodes Ne u x y = (rel_opcode rels.Ne, tt)

before_opcodes : (op : JsUnary) → Opcodes (before_operand op)
before_opcodes Neg = (number_opcode 0, tt)
before_opcodes BitNot = (number_opcode 0, tt)
before_opcodes Not = tt
before_opcodes Plus = tt

after_opcodes : (op : JsUnary) → Opcodes (after_operand op)
after_opcodes Neg = (bin_opcode bins.Sub, tt)
after_opcodes BitNot = (bin_opcode bins.Sub, tt)
after_opcodes Not = (eqz_opcode, tt)
after_opcodes Plus = (unreachable_opcode, tt)

load_opcodes : (heap x : ℕ) (v : Meaning) → Opcodes (load_code heap x v)
load_opcodes heap x (a_view v) =
    (tee_opcode x, (number_opcode 0, (rel_opcode rels.LtU, (if_opcode (Some I32), (get_opcode x, (load_opcode v (shift_of v) 0, tt)), (number_opcode 0, tt), tt))))
load_opcodes heap x _ = (unreachable_opcode, tt)

store_opcodes : (heap x y : ℕ) (v : Meaning) → Opcodes (store_code heap x y v)
store_opcodes heap x y (a_view v) =
    (set_opcode y, (tee_opcode x, (number_opcode 0, (rel_opcode rels.LtU, (if_opcode None, (get_opcode x, (get_opcode y, (store_opcode v (shift_of v) 0, tt))), tt, tt)))))
store_opcodes heap x y _ = (unreachable_opcode, tt)

stored_opcodes : (wanted : Bool) (y : ℕ) → Opcodes (stored_code wanted y)
stored_opcodes true y = (get_opcode y, tt)
stored_opcodes false y = tt

callee_opcodes : (c : Scope) (wanted : Bool) (n : List ℕ) (count : ℕ) (v : Meaning) → Opcodes (callee_code c wanted n count v)
callee_opcodes c wanted n count (a_function f) = (call_opcode 0, tt)
callee_opcodes c wanted n count (a_foreign p) = (call_opcode 0, tt)
callee_opcodes c wanted n count (a_builtin Imul) = (bin_opcode bins.Mul, tt)
callee_opcodes c wanted n count (a_builtin Clz32) = (un_opcode uns.Clz, tt)
callee_opcodes c wanted n count _ = (unreachable_opcode, tt)

dropped_opcodes : (wanted : Bool) (v : Meaning) → Opcodes (dropped wanted v)
dropped_opcodes true v = tt
dropped_opcodes false (a_builtin b) = (drop_opcode, tt)
dropped_opcodes false _ = tt

base_opcodes : (base : ℕ) → Opcodes (plains (from_base base))
base_opcodes base = plains_or_none (base == 0) _ (number_opcode base, (bin_opcode bins.Add, tt))

entry_opcodes : (c : Scope) (v : Meaning) → Opcodes (entry_code c v)
entry_opcodes c (a_table t) = (call_indirect_opcode 0, tt)
entry_opcodes c _ = (unreachable_opcode, tt)

finished_opcodes : (wanted : Bool) (t : Trees) → Opcodes t → Opcodes (finished wanted t)
finished_opcodes true t h = h
finished_opcodes false t h = joined t (one drop_operand) h (drop_opcode, tt)

place_opcodes : (k : ℕ) (i : Expr) (code left : Trees) → Opcodes code → Opcodes left → Opcodes (place_code k i code left)
place_opcodes k (lit z) code left h l = (number_opcode 0, tt)
place_opcodes k (binary op e s) code left h l =
    either_opcodes (is_shift op) _ _ (joined left (plains (aligned k)) l (plains_or_none (k == 0) _ (number_opcode 0, (bin_opcode bins.And, tt)))) h
place_opcodes k i code left h l = h

-- ---- expressions

module _ (heap : ℕ) (c : Scope) where
  mutual
    pub value_opcodes : (wanted : Bool) (d : ℕ) (e : Expr) → Opcodes (expr_code heap c wanted d e)
    value_opcodes wanted d (lit z) = finished_opcodes wanted _ (number_opcode 0, tt)
    value_opcodes wanted d (decimal bs) = finished_opcodes wanted _ (unreachable_opcode, tt)
    value_opcodes wanted d (var n) = finished_opcodes wanted _ (get_opcodes (place_of c n))
    value_opcodes wanted d (index n i) =
        let x = scratch heap c d in
        finished_opcodes wanted _ (joined (place_code (exponent_in (named c n)) i (expr_code heap c true d i) (left_code heap c d i)) (load_code heap x (named c n)) (place_opcodes (exponent_in (named c n)) i (expr_code heap c true d i) (left_code heap c d i) (value_opcodes true d i) (left_opcodes d i)) (load_opcodes heap x (named c n)))
    value_opcodes wanted d (call n es) =
        let callee = callee_code c wanted n (exprs_length es) (named c n) in
        let ended = joined callee (dropped wanted (named c n)) (callee_opcodes c wanted n (exprs_length es) (named c n)) (dropped_opcodes wanted (named c n)) in
        joined (arguments_code heap c d es) (callee ⊕ dropped wanted (named c n)) (arguments_opcodes d es) ended
    value_opcodes wanted d (table_call n i es) =
        let x = scratch heap c d in
        let entry = one (local_get x) ⊕ entry_code c (named c n) in
        let arguments = arguments_code heap c (suc d) es in
        let base = plains (from_base (base_of c.home n)) in
        let called = joined arguments entry (arguments_opcodes (suc d) es) (get_opcode x, entry_opcodes c (named c n)) in
        let based = joined base (one (local_set x) ⊕ (arguments ⊕ entry)) (base_opcodes (base_of c.home n)) (set_opcode x, called) in
        joined (expr_code heap c true d i) (base ⊕ (one (local_set x) ⊕ (arguments ⊕ entry))) (value_opcodes true d i) based
    value_opcodes wanted d (assign n e) = joined (expr_code heap c true d e) (put_code wanted (place_of c n)) (value_opcodes true d e) (put_opcodes wanted (place_of c n))
    value_opcodes wanted d (store n i e) =
        let x = scratch heap c d in
        let y = scratch heap c (suc d) in
        let kept = store_code heap x y (named c n) in
        let last = stored_code wanted y in
        let ended = joined kept last (store_opcodes heap x y (named c n)) (stored_opcodes wanted y) in
        let further = joined (expr_code heap c true d e) (kept ⊕ last) (value_opcodes true d e) ended in
        joined (place_code (exponent_in (named c n)) i (expr_code heap c true d i) (left_code heap c d i)) (expr_code heap c true d e ⊕ (kept ⊕ last)) (place_opcodes (exponent_in (named c n)) i (expr_code heap c true d i) (left_code heap c d i) (value_opcodes true d i) (left_opcodes d i)) further
    value_opcodes wanted d (unary op e) =
        let ended = joined (expr_code heap c true d e) (after_operand op) (value_opcodes true d e) (after_opcodes op) in
        finished_opcodes wanted _ (joined (before_operand op) (expr_code heap c true d e ⊕ after_operand op) (before_opcodes op) ended)
    value_opcodes wanted d (binary op l r) =
        let done = operator op (is_unsigned l || is_unsigned r) (scratch heap c d) (scratch heap c (suc d)) in
        let ended = joined (expr_code heap c true d r) done (value_opcodes true d r) (operator_opcodes op (is_unsigned l || is_unsigned r) (scratch heap c d) (scratch heap c (suc d))) in
        let both = joined (expr_code heap c true d l) (expr_code heap c true d r ⊕ done) (value_opcodes true d l) ended in
        finished_opcodes wanted _ (either_opcodes (or_zero op r) _ _ (value_opcodes true d l) both)
    value_opcodes wanted d (chain e ls) = finished_opcodes wanted _ (joined (expr_code heap c true d e) (links_code heap c d ls) (value_opcodes true d e) (links_opcodes d ls))
    value_opcodes wanted d (cond e a b) =
        let choice = if_block (Some I32) (expr_code heap c true d a) (expr_code heap c true d b) ▹ ε in
        finished_opcodes wanted _ (joined (expr_code heap c true d e) choice (value_opcodes true d e) (if_opcode (Some I32), value_opcodes true d a, value_opcodes true d b, tt))
    value_opcodes wanted d (comma es) = finished_opcodes wanted _ (comma_opcodes d es)

    left_opcodes : (d : ℕ) (e : Expr) → Opcodes (left_code heap c d e)
    left_opcodes d (binary op l r) = value_opcodes true d l
    left_opcodes d e = tt

    arguments_opcodes : (d : ℕ) (es : Exprs) → Opcodes (arguments_code heap c d es)
    arguments_opcodes d no_exprs = tt
    arguments_opcodes d (exprs e es) = joined (expr_code heap c true d e) (arguments_code heap c d es) (value_opcodes true d e) (arguments_opcodes d es)

    links_opcodes : (d : ℕ) (ls : Links) → Opcodes (links_code heap c d ls)
    links_opcodes d no_links = tt
    links_opcodes d (links minus e ls) =
        joined (expr_code heap c true d e) (one (bin32 (link_operator minus)) ⊕ links_code heap c d ls) (value_opcodes true d e) (bin_opcode (link_operator minus), links_opcodes d ls)

    comma_opcodes : (d : ℕ) (es : Exprs) → Opcodes (comma_code heap c d es)
    comma_opcodes d no_exprs = (unreachable_opcode, tt)
    comma_opcodes d (exprs e no_exprs) = value_opcodes true d e
    comma_opcodes d (exprs e (exprs x es)) = joined (expr_code heap c false d e) (comma_code heap c d (exprs x es)) (value_opcodes false d e) (comma_opcodes d (exprs x es))

pub expressions_have_opcodes : ExpressionsHaveOpcodes
expressions_have_opcodes = value_opcodes
