-- The code of expressions. An int stands as the word of its low 32 bits. Operands wait on the stack; a guard moves them into scratch
-- locals once both are there, and the index of a table call waits in one while its arguments are computed. At depth d, that is inside
-- the arguments of d table calls, scratch locals from the d-th on are free.
use Rattle.std.specs.Prelude.{ℕ, suc, ◌+◌, ◌-◌, ◌*◌, ◌%◌, ◌^◌, Bool, true, false, ◌||◌, ◌==◌, nat_le, List, [], ◌∷◌, Some, None, ℤ, pos, negsuc, if◌then◌else◌}
use Rattle.sem_words.specs.declared.word.Bin.{Bin}
use Rattle.sem_words.specs.declared.word.Bin.TheVariants as bins
use Rattle.sem_words.specs.declared.word.Un.TheVariants as uns
use Rattle.sem_words.specs.declared.word.Rel.{Rel}
use Rattle.sem_words.specs.declared.word.Rel.TheVariants as rels
use Rattle.sem_words.specs.declared.js_value.JsOp.{JsOp}
use Rattle.sem_words.specs.declared.js_value.JsOp.TheVariants.{Add, Sub, Mul, Div, Rem, Or, And, Xor, Shl, Sar, Shr, Lt, Le, Gt, Ge, Eq, Ne}
use Rattle.sem_words.specs.declared.js_value.JsUnary.{JsUnary}
use Rattle.sem_words.specs.declared.js_value.JsUnary.TheVariants.{Neg, BitNot, Not, Plus}
use Rattle.sem_words.specs.Words.{word_of}
use Rattle.wasm_lang.specs.declared.types.ValType.TheVariants.{I32}
use Rattle.wasm_lang.specs.declared.types.MemOp.{MemOp}
use Rattle.wasm_lang.specs.Instructions as code
use Rattle.wasm_lang.specs.Instructions.{Plain, const32, bin32, rel32, un32, eqz32, local_get, local_set, local_tee, global_get, global_set, drop_operand}
use Rattle.wasm_lang_exec.specs.Code.{Trees, ε, ◌▹◌, ◌⊕◌, unreachable, if_block, call_indirect, plain}
use Rattle.wasm_lang_exec.specs.Code as trees
use Rattle.asm_lang.specs.Modules.{Expr, lit, decimal, var, index, call, table_call, assign, store, unary, binary, chain, cond, comma, Exprs, no_exprs, exprs, Links, no_links, links}
use Rattle.asm_lang_valid.specs.declared.meaning.Element.{Element}
use Rattle.asm_lang_valid.specs.declared.meaning.Element.TheVariants.{Int8, Int16}
use Rattle.asm_lang_valid.specs.declared.meaning.Builtin.{Builtin}
use Rattle.asm_lang_valid.specs.declared.meaning.Builtin.TheVariants.{Imul, Clz32}
use Rattle.asm_lang_valid.specs.Scope.{shift_of, Meaning, a_foreign, a_builtin, a_view, a_function, a_table}
use Rattle.asm_lang_valid.specs.Typing.{Scope, named, exprs_length, or_zero}
use Rattle.asm2wasm_translation.specs.Numbers.{VariablePlace, a_local, a_global, nowhere, place_of, first_scratch, import_number, own_number, table_type, base_of}

-- ---- instructions

abbrev pub plains : List Plain → Trees
plains [] = ε
plains (p ∷ ps) = plain p ▹ plains ps

abbrev pub one : Plain → Trees
one p = plain p ▹ ε

abbrev pub number : ℕ → Plain
number n = const32 n

-- ---- variables

abbrev pub get_code : VariablePlace → Trees
get_code (a_local x) = one (local_get x)
get_code (a_global x) = one (global_get x)
get_code nowhere = unreachable ▹ ε

-- puts the value on the stack into a variable, and leaves it there where it is wanted
abbrev pub put_code : Bool → VariablePlace → Trees
put_code true (a_local x) = one (local_tee x)
put_code false (a_local x) = one (local_set x)
put_code true (a_global x) = plains (global_set x ∷ global_get x ∷ [])
put_code false (a_global x) = one (global_set x)
put_code wanted nowhere = unreachable ▹ ε

-- ---- signedness

-- an expression whose value is unsigned and may be no signed number, by its form alone
abbrev mutual
  pub is_unsigned : Expr → Bool
  is_unsigned (lit (pos n)) = nat_le (2 ^ 31) n
  is_unsigned (binary Shr l r) = true
  is_unsigned (assign n e) = is_unsigned e
  is_unsigned (store n i e) = is_unsigned e
  is_unsigned (comma es) = last_unsigned es
  is_unsigned e = false

  pub last_unsigned : Exprs → Bool
  last_unsigned no_exprs = false
  last_unsigned (exprs e no_exprs) = is_unsigned e
  last_unsigned (exprs e (exprs x es)) = last_unsigned (exprs x es)

-- ---- operators on two operands on the stack, the second on top; x and y are scratch locals

abbrev pub relation : Bool → Rel → Rel → Trees
relation unsigned u s = one (rel32 (if unsigned then u else s))

-- an operator that would trap gives 0 for the divisor 0
abbrev pub guarded : (x y : ℕ) → Bin → Trees
guarded x y op =
    plains (local_set y ∷ local_set x ∷ local_get y ∷ [])
    ⊕ (if_block (Some I32) (plains (local_get x ∷ local_get y ∷ bin32 op ∷ [])) (one (number 0)) ▹ ε)

-- where the divisor is 0 or -1, and y + 1 so at most 1, the quotient is the product
abbrev pub signed_quotient : (x y : ℕ) → Trees
signed_quotient x y =
    plains (local_set y ∷ local_set x ∷ local_get y ∷ number 1 ∷ bin32 bins.Add ∷ number 1 ∷ rel32 rels.GtU ∷ [])
    ⊕ (if_block (Some I32) (plains (local_get x ∷ local_get y ∷ bin32 bins.DivS ∷ [])) (plains (local_get x ∷ local_get y ∷ bin32 bins.Mul ∷ [])) ▹ ε)

abbrev pub quotient : Bool → (x y : ℕ) → Trees
quotient true x y = guarded x y bins.DivU
quotient false x y = signed_quotient x y

abbrev pub operator : JsOp → Bool → (x y : ℕ) → Trees
operator Add unsigned x y = one (bin32 bins.Add)
operator Sub unsigned x y = one (bin32 bins.Sub)
operator Mul unsigned x y = one (bin32 bins.Mul)
operator Div unsigned x y = quotient unsigned x y
operator Rem unsigned x y = guarded x y (if unsigned then bins.RemU else bins.RemS)
operator Or unsigned x y = one (bin32 bins.Or)
operator And unsigned x y = one (bin32 bins.And)
operator Xor unsigned x y = one (bin32 bins.Xor)
operator Shl unsigned x y = one (bin32 bins.Shl)
operator Sar unsigned x y = one (bin32 bins.ShrS)
operator Shr unsigned x y = one (bin32 bins.ShrU)
operator Lt unsigned x y = relation unsigned rels.LtU rels.LtS
operator Le unsigned x y = relation unsigned rels.LeU rels.LeS
operator Gt unsigned x y = relation unsigned rels.GtU rels.GtS
operator Ge unsigned x y = relation unsigned rels.GeU rels.GeS
operator Eq unsigned x y = one (rel32 rels.Eq)
operator Ne unsigned x y = one (rel32 rels.Ne)

-- a prefix operator has a number before its operand and an instruction after it
abbrev pub before_operand : JsUnary → Trees
before_operand Neg = one (number 0)
before_operand BitNot = one (number (2 ^ 32 - 1))
before_operand Not = ε
before_operand Plus = ε

abbrev pub after_operand : JsUnary → Trees
after_operand Neg = one (bin32 bins.Sub)
after_operand BitNot = one (bin32 bins.Sub)
after_operand Not = one eqz32
after_operand Plus = unreachable ▹ ε

abbrev pub link_operator : Bool → Bin
link_operator true = bins.Sub
link_operator false = bins.Add

-- ---- elements of a view; the heap has `size` bytes, and the memory may have more

abbrev pub is_signed_element : Element → Bool
is_signed_element Int8 = true
is_signed_element Int16 = true
is_signed_element _ = false

abbrev pub access : Element → Bool → MemOp
access v signed = record { wide = false; size = 2 ^ shift_of v; signed = signed }

-- the elements of a view have 2 to this number of bytes
abbrev pub exponent_in : Meaning → ℕ
exponent_in (a_view v) = shift_of v
exponent_in _ = 0

-- clears the lowest k bits
abbrev pub aligned : ℕ → List Plain
aligned k = if k == 0 then [] else number (2 ^ 32 - 2 ^ k) ∷ bin32 bins.And ∷ []

-- where the element of an index begins that is a literal; one that is negative lies past each heap
abbrev pub literal_place : ℕ → ℤ → ℕ
literal_place k (pos n) = word_of 32 (pos n) * 2 ^ k % 2 ^ 32
literal_place k (negsuc n) = word_of 32 (negsuc n)

abbrev pub is_shift : JsOp → Bool
is_shift Sar = true
is_shift op = false

-- where the element of an index begins: that of `e >> k` at e without its lowest k bits. `code` is the index's, and `left` that of e
abbrev pub place_code : (k : ℕ) → Expr → (code left : Trees) → Trees
place_code k (lit z) code left = one (number (literal_place k z))
place_code k (binary op l r) code left = if is_shift op then left ⊕ plains (aligned k) else code
place_code k e code left = code

-- does the element whose place is on the stack, and stays in x, lie in the heap
abbrev pub within : (size x : ℕ) → List Plain
within size x = local_tee x ∷ number size ∷ rel32 rels.LtU ∷ []

abbrev pub load_code : (size x : ℕ) → Meaning → Trees
load_code size x (a_view v) =
    plains (within size x)
    ⊕ (if_block (Some I32) (plains (local_get x ∷ code.load (access v (is_signed_element v)) (shift_of v) 0 ∷ [])) (one (number 0)) ▹ ε)
load_code size x _ = unreachable ▹ ε

-- the value is left in y
abbrev pub store_code : (size x y : ℕ) → Meaning → Trees
store_code size x y (a_view v) =
    one (local_set y)
    ⊕ (plains (within size x) ⊕ (if_block None (plains (local_get x ∷ local_get y ∷ code.store (access v false) (shift_of v) 0 ∷ [])) ε ▹ ε))
store_code size x y _ = unreachable ▹ ε

abbrev pub stored_code : Bool → (y : ℕ) → Trees
stored_code true y = one (local_get y)
stored_code false y = ε

-- ---- calls, with the arguments on the stack

abbrev pub builtin_code : Builtin → Trees
builtin_code Imul = one (bin32 bins.Mul)
builtin_code Clz32 = one (un32 uns.Clz)

abbrev pub callee_code : Scope → (result : Bool) → List ℕ → (count : ℕ) → Meaning → Trees
callee_code c result n count (a_function f) = trees.call (own_number c.home n) ▹ ε
callee_code c result n count (a_foreign p) = trees.call (import_number c.home (record { name = p; params = count; result = result })) ▹ ε
callee_code c result n count (a_builtin b) = builtin_code b
callee_code c result n count _ = unreachable ▹ ε

-- a call of the standard library has a value also where none is wanted
abbrev pub dropped : Bool → Meaning → Trees
dropped false (a_builtin b) = one drop_operand
dropped wanted _ = ε

-- where the entries of a table begin, added to the index on the stack
abbrev pub from_base : ℕ → List Plain
from_base base = if base == 0 then [] else number base ∷ bin32 bins.Add ∷ []

abbrev pub entry_code : Scope → Meaning → Trees
entry_code c (a_table t) = call_indirect (table_type c.home t) ▹ ε
entry_code c _ = unreachable ▹ ε

-- ---- expressions, where the heap has `size` bytes

-- a value that isn't wanted is dropped
abbrev pub finished : Bool → Trees → Trees
finished true code = code
finished false code = code ⊕ one drop_operand

module _ (size : ℕ) (c : Scope) where
  -- the scratch local of this depth
  abbrev pub scratch : ℕ → ℕ
  scratch d = first_scratch c.within + d

  abbrev mutual
    -- leaves the value where it is wanted, and else nothing
    pub expr_code : (wanted : Bool) (d : ℕ) → Expr → Trees
    expr_code wanted d (lit z) = finished wanted (one (number (word_of 32 z)))
    expr_code wanted d (decimal bs) = finished wanted (unreachable ▹ ε)
    expr_code wanted d (var n) = finished wanted (get_code (place_of c n))
    expr_code wanted d (index n i) = finished wanted (place_code (exponent_in (named c n)) i (expr_code true d i) (left_code d i) ⊕ load_code size (scratch d) (named c n))
    expr_code wanted d (call n es) = arguments_code d es ⊕ (callee_code c wanted n (exprs_length es) (named c n) ⊕ dropped wanted (named c n))
    -- the index of the entry waits in a scratch local, and the arguments take those after it
    expr_code wanted d (table_call n i es) =
        expr_code true d i
        ⊕ (plains (from_base (base_of c.home n)) ⊕ (one (local_set (scratch d)) ⊕ (arguments_code (suc d) es ⊕ (one (local_get (scratch d)) ⊕ entry_code c (named c n)))))
    expr_code wanted d (assign n e) = expr_code true d e ⊕ put_code wanted (place_of c n)
    expr_code wanted d (store n i e) =
        place_code (exponent_in (named c n)) i (expr_code true d i) (left_code d i)
        ⊕ (expr_code true d e ⊕ (store_code size (scratch d) (scratch (suc d)) (named c n) ⊕ stored_code wanted (scratch (suc d))))
    expr_code wanted d (unary op e) = finished wanted (before_operand op ⊕ (expr_code true d e ⊕ after_operand op))
    expr_code wanted d (binary op l r) =
        finished wanted
        (if or_zero op r then expr_code true d l
        else expr_code true d l ⊕ (expr_code true d r ⊕ operator op (is_unsigned l || is_unsigned r) (scratch d) (scratch (suc d))))
    expr_code wanted d (chain e ls) = finished wanted (expr_code true d e ⊕ links_code d ls)
    expr_code wanted d (cond e a b) = finished wanted (expr_code true d e ⊕ (if_block (Some I32) (expr_code true d a) (expr_code true d b) ▹ ε))
    expr_code wanted d (comma es) = finished wanted (comma_code d es)

    -- of the left operand
    pub left_code : (d : ℕ) → Expr → Trees
    left_code d (binary op l r) = expr_code true d l
    left_code d e = ε

    -- leaves the values, from left to right
    pub arguments_code : (d : ℕ) → Exprs → Trees
    arguments_code d no_exprs = ε
    arguments_code d (exprs e es) = expr_code true d e ⊕ arguments_code d es

    pub links_code : (d : ℕ) → Links → Trees
    links_code d no_links = ε
    links_code d (links minus e ls) = expr_code true d e ⊕ (one (bin32 (link_operator minus)) ⊕ links_code d ls)

    -- leaves the last value
    pub comma_code : (d : ℕ) → Exprs → Trees
    comma_code d no_exprs = unreachable ▹ ε
    comma_code d (exprs e no_exprs) = expr_code true d e
    comma_code d (exprs e (exprs x es)) = expr_code false d e ⊕ comma_code d (exprs x es)

  abbrev pub value_code : (d : ℕ) → Expr → Trees
  value_code d e = expr_code true d e

  abbrev pub void_code : (d : ℕ) → Expr → Trees
  void_code d e = expr_code false d e
