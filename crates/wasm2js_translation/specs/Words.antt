-- Straight code over words of 32 bits, of which each instruction's is made, and the statements of asm.js that it stands for.
use Rattle.std.specs.Prelude.{ℕ, Bool, true, false, List, [], ◌∷◌, ℤ, pos, if◌then◌else◌}
use Rattle.sem_words.specs.declared.js_value.JsOp.{JsOp}
use Rattle.sem_words.specs.declared.js_value.JsOp.TheVariants.{Or, And, Xor, Shl, Sar, Shr, Lt, Le, Gt, Ge, Eq, Ne}
use Rattle.sem_words.specs.declared.js_value.JsUnary.TheVariants.{BitNot}
use Rattle.asm_types.specs.declared.value_type.ValueType.TheVariants.{Signed, Unsigned}
use Rattle.asm_lang_valid.specs.Typing.{typed_below, literal_type}
use Rattle.asm_lang.specs.Modules.{Expr, lit, var, index, call, assign, store, unary, binary, chain, cond, Exprs, no_exprs, exprs, Links, no_links, links, Stmt, plain, block, if_only, if_else, returns, breaks, continues, Stmts, no_stmts, stmts}
use Rattle.wasm2js_translation.specs.Names.{Fixed, view_of_bytes, view_of_signed_bytes, view_of_words, imul, clz32, trap, Name, fixed, spelled}

-- operators on the bits of two words; a count of a shift counts modulo 32
pub data BitOp : Type 0 where
  conjunction : BitOp
  disjunction : BitOp
  exclusion : BitOp
  shift_left : BitOp
  shift_right_signed : BitOp
  shift_right : BitOp

pub data Relation : Type 0 where
  equal : Relation
  unequal : Relation
  less : Relation
  at_most : Relation
  greater : Relation
  at_least : Relation

-- a word; a truth value is 1 or 0
mutual
  pub data Term : Type 0 where
    read : Name → Term  -- of a variable
    number : ℤ → Term  -- a literal of asm.js
    both : BitOp → Term → Term → Term
    flip : Term → Term
    sum : Term → Summands → Term
    product : Term → Term → Term
    zeros : Term → Term  -- how many leading bits are 0
    compare : (signed : Bool) → Relation → Term → Term → Term
    choose : (test first second : Term) → Term
    byte : (signed : Bool) → (at : Term) → Term  -- of the heap
    whole : (at : Term) → Term  -- four bytes of the heap, at a place that is a multiple of four

  -- further operands of a sum, each with whether it is subtracted
  pub data Summands : Type 0 where
    no_more : Summands
    further : (minus : Bool) → Term → Summands → Summands

pub data Simple : Type 0 where
  put : Name → Term → Simple
  -- a call of a helper with a result, and of one without
  ask : Name → (helper : Fixed) → List Term → Simple
  tell : (helper : Fixed) → List Term → Simple
  -- a trap of this number where the word is above a bound
  guard : Term → (most : ℕ) → (kind : ℕ) → Simple
  -- a trap of this number, whatever the words are
  stop : (kind : ℕ) → Simple
  -- the lowest byte, and the word at a place that is a multiple of four, of the heap
  write_byte : (at : Term) → Term → Simple
  write_whole : (at : Term) → Term → Simple

pub data Action : Type 0 where
  simply : Simple → Action
  either : (test : Term) → (first second : List Simple) → Action

-- ---- expressions

abbrev pub bit_operator : BitOp → JsOp
bit_operator conjunction = And
bit_operator disjunction = Or
bit_operator exclusion = Xor
bit_operator shift_left = Shl
bit_operator shift_right_signed = Sar
bit_operator shift_right = Shr

abbrev pub relation_operator : Relation → JsOp
relation_operator equal = Eq
relation_operator unequal = Ne
relation_operator less = Lt
relation_operator at_most = Le
relation_operator greater = Gt
relation_operator at_least = Ge

abbrev pub natural : ℕ → Expr
natural n = lit (pos n)

-- `e|0` and `e>>>0`, the number of a word with its sign and without

abbrev pub signed_number : Expr → Expr
signed_number e = binary Or e (natural 0)

abbrev pub plain_number : Expr → Expr
plain_number e = binary Shr e (natural 0)

-- The expression of a term, of a type that is asked for: it stands bare where its own type will do. Operators on bits, but `>>>`, and what the
-- standard library gives are signed, `>>>` and a number of zeros are unsigned, and a literal is so by its value.

abbrev pub as_signed : Term → Expr → Expr
as_signed (number z) e = if typed_below Signed (literal_type z) then e else signed_number e
as_signed (both shift_right a b) e = signed_number e
as_signed (both op a b) e = e
as_signed (flip a) e = e
as_signed (product a b) e = e
as_signed (zeros a) e = e
as_signed t e = signed_number e

abbrev pub as_unsigned : Term → Expr → Expr
as_unsigned (number z) e = if typed_below Unsigned (literal_type z) then e else plain_number e
as_unsigned (both shift_right a b) e = e
as_unsigned (zeros a) e = e
as_unsigned t e = plain_number e

abbrev pub as_number : Bool → Term → Expr → Expr
as_number true t e = as_signed t e
as_number false t e = as_unsigned t e

-- of type int: sums and what the heap holds are only intish
abbrev pub as_int : Term → Expr → Expr
as_int (sum t ts) e = signed_number e
as_int (byte signed at) e = signed_number e
as_int (whole at) e = signed_number e
as_int t e = e

-- as a condition: an operator gives the number of a word, or a truth value
abbrev pub as_test : Term → Expr → Expr
as_test (read n) e = signed_number e
as_test (number z) e = signed_number e
as_test (sum t ts) e = signed_number e
as_test (choose t a b) e = signed_number e
as_test (byte signed at) e = signed_number e
as_test (whole at) e = signed_number e
as_test t e = e

abbrev pub byte_view : Bool → Fixed
byte_view true = view_of_signed_bytes
byte_view false = view_of_bytes

abbrev pub name_of : Fixed → List ℕ
name_of f = spelled (fixed f)

abbrev pub called : Fixed → Exprs → Expr
called f es = call (name_of f) es

-- the index of a view whose elements have 2 ^ k bytes
abbrev pub indexed : ℕ → Expr → Expr
indexed k e = binary Sar e (natural k)

abbrev mutual
  pub expr : Term → Expr
  expr (read n) = var (spelled n)
  expr (number z) = lit z
  expr (both op a b) = binary (bit_operator op) (expr a) (expr b)
  expr (flip a) = unary BitNot (expr a)
  expr (sum a ts) = chain (as_int a (expr a)) (summands ts)
  expr (product a b) = called imul (exprs (as_int a (expr a)) (exprs (as_int b (expr b)) no_exprs))
  expr (zeros a) = called clz32 (exprs (as_int a (expr a)) no_exprs)
  expr (compare signed r a b) = binary (relation_operator r) (as_number signed a (expr a)) (as_number signed b (expr b))
  expr (choose t a b) = cond (as_test t (expr t)) (as_int a (expr a)) (as_int b (expr b))
  expr (byte signed at) = index (name_of (byte_view signed)) (indexed 0 (expr at))
  expr (whole at) = index (name_of view_of_words) (indexed 2 (expr at))

  pub summands : Summands → Links
  summands no_more = no_links
  summands (further minus a ts) = links minus (as_int a (expr a)) (summands ts)

abbrev pub int_of : Term → Expr
int_of t = as_int t (expr t)

abbrev pub test_of : Term → Expr
test_of t = as_test t (expr t)

abbrev pub arguments : List Term → Exprs
arguments [] = no_exprs
arguments (t ∷ ts) = exprs (int_of t) (arguments ts)

-- ---- statements

abbrev pub put_in : Name → Expr → Stmt
put_in n e = plain (assign (spelled n) e)

abbrev pub trap_call : ℕ → Stmt
trap_call n = plain (called trap (exprs (natural n) no_exprs))

abbrev pub stmts_in : List Stmt → Stmts
stmts_in [] = no_stmts
stmts_in (s ∷ ss) = stmts s (stmts_in ss)

abbrev pub simple_statement : Simple → Stmt
simple_statement (put n t) = put_in n (int_of t)
simple_statement (ask n helper ts) = put_in n (signed_number (called helper (arguments ts)))
simple_statement (tell helper ts) = plain (called helper (arguments ts))
simple_statement (guard t most kind) = if_only (binary Gt (as_unsigned t (expr t)) (natural most)) (trap_call kind)
simple_statement (stop kind) = trap_call kind
simple_statement (write_byte at t) = plain (store (name_of view_of_bytes) (indexed 0 (expr at)) (int_of t))
simple_statement (write_whole at t) = plain (store (name_of view_of_words) (indexed 2 (expr at)) (int_of t))

abbrev pub simple_statements : List Simple → List Stmt
simple_statements [] = []
simple_statements (s ∷ ss) = simple_statement s ∷ simple_statements ss

-- it holds no other statement
abbrev pub is_flat : Stmt → Bool
is_flat (plain e) = true
is_flat (breaks l) = true
is_flat (continues l) = true
is_flat (returns o) = true
is_flat s = false

abbrev pub stands_alone : List Stmt → Bool
stands_alone (s ∷ []) = is_flat s
stands_alone ss = false

-- statements as a part of an `if`: one that holds no other stands alone, and others in a block
abbrev pub part_of : List Stmt → Stmt
part_of (s ∷ []) = if is_flat s then s else block (stmts s no_stmts)
part_of ss = block (stmts_in ss)

abbrev pub branch : List Simple → Stmt
branch ss = part_of (simple_statements ss)

abbrev pub statement : Action → Stmt
statement (simply s) = simple_statement s
statement (either test first second) = if_else (test_of test) (branch first) (branch second)

abbrev pub statements : List Action → List Stmt
statements [] = []
statements (a ∷ others) = statement a ∷ statements others
