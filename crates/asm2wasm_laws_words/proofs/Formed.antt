-- Signedness by the form of an expression.
use Rattle.std.proofs.Common.{◌≡◌, ℕ, ◌^◌, Bool, true, false, ◌&&◌, Option, Some, None, ℤ, pos, negsuc, refl, ap, ◌∙◌, arith}
use Rattle.std.specs.Prelude.{if◌then◌else◌, option_and_then, nat_lt, nat_le}
use Rattle.std.proofs.lemmas.Bool.Decides.{nat_tests}
use Rattle.sem_words.specs.declared.js_value.JsOp.{JsOp}
use Rattle.sem_words.specs.declared.js_value.JsOp.TheVariants.{Mul, Or, Shr}
use Rattle.sem_words.specs.declared.js_value.JsUnary.{JsUnary}
use Rattle.sem_words.specs.declared.js_value.JsUnary.TheVariants.{Neg, BitNot, Not, Plus}
use Rattle.asm_types.specs.declared.value_type.ValueType.{ValueType}
use Rattle.asm_types.specs.declared.value_type.ValueType.TheVariants.{Fixnum, Signed, Unsigned, Int, Intish}
use Rattle.asm_types.specs.Rows.{row, accepts, takes_of, gives_of, binary_row_of, unary_row_of}
use Rattle.asm_types.specs.Types.{is_below}
use Rattle.asm_types.proofs.Sound.{from_row}
use Rattle.asm_lang.specs.Modules.{Expr, lit, decimal, var, index, call, table_call, assign, store, unary, binary, chain, cond, comma, Exprs, no_exprs, exprs}
use Rattle.asm_lang_valid.specs.declared.meaning.Builtin.TheVariants.{Imul, Clz32}
use Rattle.asm_lang_valid.specs.Scope.{Meaning, a_builtin}
use Rattle.asm_lang_valid.specs.Typing.{Scope, named, literal_type, is_int, index_fits, operated, or_zero, is_call, exprs_length, all_below, builtin_call, call_fits, type_of, last_type}
use Rattle.asm2wasm_translation.specs.Values.{is_unsigned, last_unsigned}
use Rattle.asm2wasm_laws_words.specs.Laws.{is_unsigned_type, FormSaysType, AlikeByOne}

from_if : (b : Bool) (o : Option ValueType) (t : ValueType) → (if b then o else None) ≡ Some t → o ≡ Some t
from_if true o t h = h
from_if false o t h = absurd (cc h)

-- the type of a row
row_type : (b : Bool) (r t : ValueType) → row b r ≡ Some t → is_unsigned_type r ≡ is_unsigned_type t
row_type b r t h = ap is_unsigned_type (from_row b r t h).1

literal_form : (z : ℤ) (t : ValueType) → literal_type z ≡ Some t → is_unsigned (lit z) ≡ is_unsigned_type t
literal_form (pos n) t h = by (nat_lt n (2 ^ 31)) refl h
  where
    by : (b : Bool) → nat_lt n (2 ^ 31) ≡ b → (if b then Some Fixnum else row (nat_lt n (2 ^ 32)) Unsigned) ≡ Some t → nat_le (2 ^ 31) n ≡ is_unsigned_type t
    by true is h = let small : nat_le (2 ^ 31) n ≡ false = grind (arith, nat_tests) in let e : Fixnum ≡ t = cc h in small ∙ ap is_unsigned_type e
    by false is h = let large : nat_le (2 ^ 31) n ≡ true = grind (arith, nat_tests) in large ∙ row_type (nat_lt n (2 ^ 32)) Unsigned t h
literal_form (negsuc n) t h = row_type (nat_lt n (2 ^ 31)) Signed t h

builtin_form : (mm : Meaning) (count : ℕ) (ints : Bool) (t : ValueType) → builtin_call mm count ints ≡ Some t → false ≡ is_unsigned_type t
builtin_form (a_builtin Imul) count ints t h = row_type _ Signed t h
builtin_form (a_builtin Clz32) count ints t h = row_type _ Fixnum t h
builtin_form mm count ints t h = absurd (cc h)

unary_form : (op : JsUnary) (o : Option ValueType) (t : ValueType) → option_and_then (λ s. unary_row_of op s) o ≡ Some t → false ≡ is_unsigned_type t
unary_form op None t h = absurd (cc h)
unary_form Neg (Some s) t h = row_type (is_below s Int) Intish t h
unary_form BitNot (Some s) t h = row_type (is_below s Intish) Signed t h
unary_form Not (Some s) t h = row_type (is_below s Int) Int t h
unary_form Plus (Some s) t h = absurd (cc h)

-- the operator that gives an unsigned number
is_shr : JsOp → Bool
is_shr Shr = true
is_shr _ = false

gives_form : (op : JsOp) → is_shr op ≡ is_unsigned_type (gives_of op)
unfolding is_shr
gives_form Shr = refl
gives_form op = refl

binary_is : (op : JsOp) (l r : Expr) → is_unsigned (binary op l r) ≡ is_shr op
unfolding is_shr
binary_is Shr l r = refl
binary_is op l r = refl

rows_form : (op : JsOp) (o q : Option ValueType) (t : ValueType) → option_and_then (λ a. option_and_then (λ b. binary_row_of op a b) q) o ≡ Some t → is_shr op ≡ is_unsigned_type t
rows_form op None q t h = absurd (cc h)
rows_form op (Some a) None t h = absurd (cc h)
rows_form op (Some a) (Some b) t h = gives_form op ∙ row_type (accepts (takes_of op) a b) (gives_of op) t h

operated_form : (op : JsOp) (l r : Expr) (o q : Option ValueType) (t : ValueType) → operated op l r o q ≡ Some t → is_shr op ≡ is_unsigned_type t
unfolding is_shr
operated_form Mul l r o q t h = row_type _ Intish t h
operated_form op l r o q t h = rows_form op o q t h

-- a call before `|0` is signed
zero_form : (b : Bool) (op : JsOp) (l r : Expr) (fits : Bool) (o q : Option ValueType) (t : ValueType)
    → (if b && or_zero op r then row fits Signed else operated op l r o q) ≡ Some t → is_shr op ≡ is_unsigned_type t
unfolding is_shr
zero_form false op l r fits o q t h = operated_form op l r o q t h
zero_form true Or l r fits o q t h = by (or_zero Or r) h
  where
    by : (z : Bool) → (if z then row fits Signed else operated Or l r o q) ≡ Some t → false ≡ is_unsigned_type t
    by true h = row_type fits Signed t h
    by false h = operated_form Or l r o q t h
zero_form true op l r fits o q t h = operated_form op l r o q t h

mutual
  formed : (c : Scope) (e : Expr) (t : ValueType) → type_of c e ≡ Some t → is_unsigned e ≡ is_unsigned_type t
  formed c (lit z) t h = literal_form z t h
  formed c (decimal bs) t h = absurd (cc h)
  formed c (var n) t h = row_type (is_int (named c n)) Int t h
  formed c (index n i) t h = row_type (index_fits (named c n) i (type_of c i)) Intish t h
  formed c (call n es) t h = builtin_form (named c n) (exprs_length es) (all_below c Int es) t h
  formed c (table_call n i es) t h = absurd (cc h)
  formed c (assign n e) t h = formed c e t (from_if _ (type_of c e) t h)
  formed c (store n i e) t h = formed c e t (from_if _ (type_of c e) t h)
  formed c (unary op e) t h = unary_form op (type_of c e) t h
  formed c (binary op l r) t h = binary_is op l r ∙ zero_form (is_call c l) op l r (call_fits c true l) (type_of c l) (type_of c r) t h
  formed c (chain e ls) t h = row_type _ Intish t h
  formed c (cond e a b) t h = row_type _ Int t h
  formed c (comma es) t h = last_formed c es t h

  last_formed : (c : Scope) (es : Exprs) (t : ValueType) → last_type c es ≡ Some t → last_unsigned es ≡ is_unsigned_type t
  last_formed c no_exprs t h = absurd (cc h)
  last_formed c (exprs e no_exprs) t h = formed c e t h
  last_formed c (exprs e (exprs x es)) t h = last_formed c (exprs x es) t (from_if _ (last_type c (exprs x es)) t h)

pub form_says_type : FormSaysType
form_says_type c e t h = formed c e t h

pub alike_by_one : AlikeByOne
alike_by_one Fixnum Fixnum h = refl
alike_by_one Fixnum Signed h = refl
alike_by_one Signed Fixnum h = refl
alike_by_one Signed Signed h = refl
alike_by_one Fixnum Unsigned h = refl
alike_by_one Unsigned Fixnum h = refl
alike_by_one Unsigned Unsigned h = refl
alike_by_one a b h = absurd (cc h)
