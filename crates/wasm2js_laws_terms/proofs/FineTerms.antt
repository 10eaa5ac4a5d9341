-- Sound terms are fine expressions, by induction.
use Rattle.std.proofs.Common.{◌≡◌, ℕ, suc, ◌+◌, ◌*◌, ◌≤◌, max, Bool, true, false, ◌&&◌, List, [], ◌∷◌, length, Option, Some, None, refl, sym, ap, ◌∙◌, subst, arith}
use Rattle.std.specs.Prelude.{if◌then◌else◌, option_and_then}
use Rattle.sem_words.specs.declared.js_value.JsOp.{JsOp}
use Rattle.sem_words.specs.declared.js_value.JsUnary.TheVariants.{BitNot}
use Rattle.asm_types.specs.declared.value_type.ValueType.{ValueType}
use Rattle.asm_types.specs.declared.value_type.ValueType.TheVariants.{Fixnum, Signed, Unsigned, Int, Intish}
use Rattle.asm_types.specs.Types.{is_below}
use Rattle.asm_types.specs.Rows.{row, takes_of, accepts, gives_of, binary_row_of, unary_row_of}
use Rattle.asm_types.proofs.Sound.{from_row}
use Rattle.asm_lang.specs.Modules.{Expr, binary}
use Rattle.asm_lang_valid.specs.Scope.{Meaning, a_builtin}
use Rattle.asm_lang_valid.specs.declared.meaning.Builtin.{Builtin}
use Rattle.asm_lang_valid.specs.declared.meaning.Element.TheVariants.{Int8, Uint8, Int32}
use Rattle.asm_lang_valid.specs.declared.meaning.Builtin.TheVariants.{Imul, Clz32}
use Rattle.asm_laws_print.specs.Spelled.{is_chain, some_links}
use Rattle.asm_lang_valid.specs.Typing.{Scope, literal_type, typed_below, builtin_type, builtin_call, is_literal, is_call, call_fits, type_of, most_operators, links_length, exprs_length}
use Rattle.wasm2js_translation.specs.Names.{imul, clz32, view_of_words}
use Rattle.wasm2js_translation.specs.Words.{BitOp, conjunction, disjunction, exclusion, shift_left, shift_right_signed, shift_right, bit_operator, Term, read, number, both, flip, sum, product, zeros, compare, choose, byte, whole, Summands, no_more, further, byte_view, signed_number, plain_number, as_number, expr, summands, int_of, test_of, arguments}
use Rattle.wasm2js_laws_terms.specs.Sound.{IsSound, AreSound, AllSound, summands_length, some_summands, term_depth, summands_depth, terms_depth}
use Rattle.wasm2js_laws_terms.specs.Laws.{IsFineExpr, IsFineTerm, TermsAreFine}
use Rattle.wasm2js_laws_terms.proofs.FineExprs.{higher, intish, signed_int, variable_fine, literal_fine, bits_fine, signed_fine, plain_fine, number_type, relation_fine, flipped_fine, chosen_fine, AreFineLinks, no_links_fine, links_fine, chain_fine, AreFineExprs, no_exprs_fine, exprs_fine, product_fine, zeros_fine, element_fine}

-- ---- what is an int is no chain, and each term has depth

int_is_no_chain : (t : Term) → is_chain (int_of t) ≡ false
int_is_no_chain (read n) = refl
int_is_no_chain (number z) = refl
int_is_no_chain (both op a b) = refl
int_is_no_chain (flip a) = refl
int_is_no_chain (sum a ts) = refl
int_is_no_chain (product a b) = refl
int_is_no_chain (zeros a) = refl
int_is_no_chain (compare signed r a b) = refl
int_is_no_chain (choose t a b) = refl
int_is_no_chain (byte signed at) = refl
int_is_no_chain (whole at) = refl

pub has_depth : (t : Term) → 1 ≤ term_depth t
has_depth (read n) = omega arith
has_depth (number z) = omega arith
has_depth (both op a b) = omega arith
has_depth (flip a) = omega arith
has_depth (sum a ts) = omega arith
has_depth (product a b) = omega arith
has_depth (zeros a) = omega arith
has_depth (compare signed r a b) = omega arith
has_depth (choose t a b) = omega arith
has_depth (byte signed at) = omega arith
has_depth (whole at) = omega arith

same_length : (ts : Summands) → links_length (summands ts) ≡ summands_length ts
same_length no_more = refl
same_length (further minus t ts) = ap suc (same_length ts)

some_too : (ts : Summands) → some_links (summands ts) ≡ some_summands ts
some_too no_more = refl
some_too (further minus t ts) = refl

-- ---- heights

of_one : 1 ≤ 3 * 1
of_one = omega arith

of_two : (a b : ℕ) → 1 + max (3 * a) (3 * b) ≤ 3 * (1 + max a b)
of_two a b = omega arith

of_next : (a : ℕ) → 1 + 3 * a ≤ 3 * (1 + a)
of_next a = omega arith

of_sum : (a b : ℕ) → 1 + max (1 + max (3 * a) (3 * b)) 1 ≤ 3 * (1 + max a b)
of_sum a b = omega arith

of_pair : (a b : ℕ) → 1 + max (3 * a) (max (3 * b) 0) ≤ 3 * (1 + max a b)
of_pair a b = omega arith

of_argument : (a : ℕ) → 1 + max (3 * a) 0 ≤ 3 * (1 + a)
of_argument a = omega arith

of_compared : (a b : ℕ) → 1 + max (1 + max (3 * a) 1) (1 + max (3 * b) 1) ≤ 3 * (1 + max a b)
of_compared a b = omega arith

of_chosen : (t a b : ℕ) → 1 + max (1 + max (3 * t) 1) (max (3 * a) (3 * b)) ≤ 3 * (1 + max t (max a b))
of_chosen t a b = omega arith

of_element : (a : ℕ) → 2 + max (3 * a) 1 ≤ 3 * (1 + a)
of_element a = omega arith

of_int_element : (a : ℕ) → 1 ≤ a → 1 + max (2 + max (3 * a) 1) 1 ≤ 3 * (1 + a)
of_int_element a h = omega (arith, h)

thrice : (a b : ℕ) → max (3 * a) (3 * b) ≤ 3 * max a b
thrice a b = omega arith

-- ---- the types of operators, whatever they are applied to

from_some : {A : Type 0} (a b : A) → Some a ≡ Some b → a ≡ b
from_some a b h = cc h

row_gives : (op : JsOp) (a b : Option ValueType) (k : ValueType) → option_and_then (λ s. option_and_then (λ t. binary_row_of op s t) b) a ≡ Some k → gives_of op ≡ k
row_gives op None b k h = absurd (cc h)
row_gives op (Some s) None k h = absurd (cc h)
row_gives op (Some s) (Some t) k h = (from_row (accepts (takes_of op) s t) (gives_of op) k h).1

no_and : (b : Bool) → (b && false) ≡ false
no_and true = refl
no_and false = refl

-- where it isn't a call that is converted
module _ (c : Scope) (l r : Expr) (k : ValueType) where
  abbrev of_row : JsOp → Option ValueType
  of_row op = option_and_then (λ s. option_and_then (λ t. binary_row_of op s t) (type_of c r)) (type_of c l)

  not_converted : (op : JsOp) → (if is_call c l && false then row (call_fits c true l) Signed else of_row op) ≡ Some k → gives_of op ≡ k
  not_converted op h = row_gives op (type_of c l) (type_of c r) k (sym (ap (λ (b : Bool). if b then row (call_fits c true l) Signed else of_row op) (no_and (is_call c l))) ∙ h)

  bits_give : (op : BitOp) → type_of c (binary (bit_operator op) l r) ≡ Some k → gives_of (bit_operator op) ≡ k
  bits_give conjunction h = not_converted (bit_operator conjunction) h
  bits_give disjunction h = converted (is_call c l && is_literal 0 r) h
    where
      converted : (b : Bool) → (if b then row (call_fits c true l) Signed else of_row (bit_operator disjunction)) ≡ Some k → Signed ≡ k
      converted true h = (from_row (call_fits c true l) Signed k h).1
      converted false h = row_gives (bit_operator disjunction) (type_of c l) (type_of c r) k h
  bits_give exclusion h = not_converted (bit_operator exclusion) h
  bits_give shift_left h = not_converted (bit_operator shift_left) h
  bits_give shift_right_signed h = not_converted (bit_operator shift_right_signed) h
  bits_give shift_right h = not_converted (bit_operator shift_right) h

flip_gives : (o : Option ValueType) (k : ValueType) → option_and_then (λ t. unary_row_of BitNot t) o ≡ Some k → Signed ≡ k
flip_gives None k h = absurd (cc h)
flip_gives (Some t) k h = (from_row (is_below t Intish) Signed k h).1

builtin_gives : (m : Meaning) (b : Builtin) (count : ℕ) (ints : Bool) (k : ValueType) → m ≡ a_builtin b → builtin_call m count ints ≡ Some k → builtin_type b ≡ k
builtin_gives m b count ints k is h = (from_row _ (builtin_type b) k (sym (ap (λ m. builtin_call m count ints) is) ∙ h)).1

-- ---- terms of a type that is asked for, and as conditions

module _ (c : Scope) where
  -- bare, as it is of a type that is below
  bare : {e : Expr} {h : ℕ} (top : ValueType) → (f : IsFineExpr c e Intish h) → is_below f.type top ≡ true → IsFineExpr c e top (1 + max h 1)
  bare {h = h} top f b = record { type = f.type; has_type = f.has_type; below = b; no_call = f.no_call; printed = f.printed; low = more h f.low; no_marks = f.no_marks }
    where
      more : {a : ℕ} (h : ℕ) → a ≤ h → a ≤ 1 + max h 1
      more h p = omega (arith, p)

  -- .. of this very type
  bare_as : {e : Expr} {h : ℕ} (k top : ValueType) → is_below k top ≡ true → (f : IsFineExpr c e Intish h) → k ≡ f.type → IsFineExpr c e top (1 + max h 1)
  bare_as k top b f is = bare top f (subst (λ k. is_below k top ≡ true) is b)

  signed_if : {e : Expr} {h : ℕ} (b : Bool) (f : IsFineExpr c e Intish h) → (b ≡ true → is_below f.type Signed ≡ true) → IsFineExpr c (if b then e else signed_number e) Signed (1 + max h 1)
  signed_if true f g = bare Signed f (g refl)
  signed_if false f g = signed_fine c f

  plain_if : {e : Expr} {h : ℕ} (b : Bool) (f : IsFineExpr c e Intish h) → (b ≡ true → is_below f.type Unsigned ≡ true) → IsFineExpr c (if b then e else plain_number e) Unsigned (1 + max h 1)
  plain_if true f g = bare Unsigned f (g refl)
  plain_if false f g = plain_fine c f

  pub number_fine : {h : ℕ} (signed : Bool) (t : Term) → IsSound c t → IsFineExpr c (expr t) Intish h → IsFineExpr c (as_number signed t (expr t)) (number_type c signed) (1 + max h 1)
  number_fine true (read n) s f = signed_fine c f
  number_fine true (number z) s f = signed_if (typed_below Signed (literal_type z)) f (λ e. sym (ap (typed_below Signed) f.has_type) ∙ e)
  number_fine true (both conjunction a b) s f = bare_as Signed Signed refl f (bits_give c (expr a) (expr b) f.type conjunction f.has_type)
  number_fine true (both disjunction a b) s f = bare_as Signed Signed refl f (bits_give c (expr a) (expr b) f.type disjunction f.has_type)
  number_fine true (both exclusion a b) s f = bare_as Signed Signed refl f (bits_give c (expr a) (expr b) f.type exclusion f.has_type)
  number_fine true (both shift_left a b) s f = bare_as Signed Signed refl f (bits_give c (expr a) (expr b) f.type shift_left f.has_type)
  number_fine true (both shift_right_signed a b) s f = bare_as Signed Signed refl f (bits_give c (expr a) (expr b) f.type shift_right_signed f.has_type)
  number_fine true (both shift_right a b) s f = signed_fine c f
  number_fine true (flip a) s f = bare_as Signed Signed refl f (flip_gives (type_of c (expr a)) f.type f.has_type)
  number_fine true (sum a ts) s f = signed_fine c f
  number_fine true (product a b) s f = bare_as Signed Signed refl f (builtin_gives _ Imul _ _ f.type s.0 f.has_type)
  number_fine true (zeros a) s f = bare_as Fixnum Signed refl f (builtin_gives _ Clz32 _ _ f.type s.0 f.has_type)
  number_fine true (compare signed r a b) s f = signed_fine c f
  number_fine true (choose t a b) s f = signed_fine c f
  number_fine true (byte signed at) s f = signed_fine c f
  number_fine true (whole at) s f = signed_fine c f
  number_fine false (read n) s f = plain_fine c f
  number_fine false (number z) s f = plain_if (typed_below Unsigned (literal_type z)) f (λ e. sym (ap (typed_below Unsigned) f.has_type) ∙ e)
  number_fine false (both conjunction a b) s f = plain_fine c f
  number_fine false (both disjunction a b) s f = plain_fine c f
  number_fine false (both exclusion a b) s f = plain_fine c f
  number_fine false (both shift_left a b) s f = plain_fine c f
  number_fine false (both shift_right_signed a b) s f = plain_fine c f
  number_fine false (both shift_right a b) s f = bare_as Unsigned Unsigned refl f (bits_give c (expr a) (expr b) f.type shift_right f.has_type)
  number_fine false (flip a) s f = plain_fine c f
  number_fine false (sum a ts) s f = plain_fine c f
  number_fine false (product a b) s f = plain_fine c f
  number_fine false (zeros a) s f = bare_as Fixnum Unsigned refl f (builtin_gives _ Clz32 _ _ f.type s.0 f.has_type)
  number_fine false (compare signed r a b) s f = plain_fine c f
  number_fine false (choose t a b) s f = plain_fine c f
  number_fine false (byte signed at) s f = plain_fine c f
  number_fine false (whole at) s f = plain_fine c f

  as_high : (h : ℕ) → h ≤ 1 + max h 1
  as_high h = omega arith

  pub test_fine : {h : ℕ} (t : Term) → IsFineExpr c (expr t) Intish h → IsFineExpr c (int_of t) Int h → IsFineExpr c (test_of t) Int (1 + max h 1)
  test_fine (read n) f g = signed_int c (signed_fine c f)
  test_fine (number z) f g = signed_int c (signed_fine c f)
  test_fine {h = h} (both op a b) f g = higher c _ (as_high h) g
  test_fine {h = h} (flip a) f g = higher c _ (as_high h) g
  test_fine (sum a ts) f g = signed_int c (signed_fine c f)
  test_fine {h = h} (product a b) f g = higher c _ (as_high h) g
  test_fine {h = h} (zeros a) f g = higher c _ (as_high h) g
  test_fine {h = h} (compare signed r a b) f g = higher c _ (as_high h) g
  test_fine (choose t a b) f g = signed_int c (signed_fine c f)
  test_fine (byte signed at) f g = signed_int c (signed_fine c f)
  test_fine (whole at) f g = signed_int c (signed_fine c f)

-- ---- by induction

module _ (c : Scope) where
  lower_links : {k : ℕ} (ts : Summands) (n : ℕ) → k ≤ n → AreFineLinks c (summands ts) k → AreFineLinks c (summands ts) n
  lower_links ts n le f = record { fit = f.fit; printed = f.printed; low = within f.low le; no_marks = f.no_marks }
    where
      within : {a b d : ℕ} → a ≤ b → b ≤ d → a ≤ d
      within p q = omega (arith, p, q)

  mutual
    pub term_fine : (t : Term) → IsSound c t → IsFineTerm c t
    term_fine (read n) h = let f = higher c 3 of_one (variable_fine c n h) in record { as_it_is = intish c f; as_int = f }
    term_fine (number z) h = let f = higher c 3 of_one (literal_fine c z h) in record { as_it_is = intish c f; as_int = f }
    term_fine (both op a b) h =
        let f = higher c _ (of_two (term_depth a) (term_depth b)) (bits_fine c op (term_fine a h.0).as_it_is (term_fine b h.1).as_it_is) in
        record { as_it_is = intish c f; as_int = f }
    term_fine (flip a) h = let f = higher c _ (of_next (term_depth a)) (flipped_fine c (term_fine a h).as_it_is) in record { as_it_is = intish c f; as_int = f }
    term_fine (sum a ts) h =
        let few = subst (λ n. n ≤ most_operators) (sym (same_length ts)) h.3 in
        let f = chain_fine c (int_is_no_chain a) (some_too ts ∙ h.2) few (term_fine a h.0).as_int (summands_fine ts h.1) in
        record { as_it_is = higher c _ (of_two (term_depth a) (summands_depth ts)) f; as_int = higher c _ (of_sum (term_depth a) (summands_depth ts)) (signed_int c (signed_fine c f)) }
    term_fine (product a b) h =
        let f = higher c _ (of_pair (term_depth a) (term_depth b)) (product_fine c imul h.0 (exprs_fine c (term_fine a h.1).as_int (exprs_fine c (term_fine b h.2).as_int (no_exprs_fine c)))) in
        record { as_it_is = intish c f; as_int = f }
    term_fine (zeros a) h =
        let f = higher c _ (of_argument (term_depth a)) (zeros_fine c clz32 h.0 (exprs_fine c (term_fine a h.1).as_int (no_exprs_fine c))) in
        record { as_it_is = intish c f; as_int = f }
    term_fine (compare signed r a b) h =
        let f = higher c _ (of_compared (term_depth a) (term_depth b)) (relation_fine c signed r _ _ (number_fine c signed a h.0 (term_fine a h.0).as_it_is) (number_fine c signed b h.1 (term_fine b h.1).as_it_is)) in
        record { as_it_is = intish c f; as_int = f }
    term_fine (choose t a b) h =
        let f = higher c _ (of_chosen (term_depth t) (term_depth a) (term_depth b)) (chosen_fine c (test_fine c t (term_fine t h.0).as_it_is (term_fine t h.0).as_int) (term_fine a h.1).as_int (term_fine b h.2).as_int) in
        record { as_it_is = intish c f; as_int = f }
    term_fine (byte true at) h =
        let f = element_fine c Int8 (byte_view true) h.0 (term_fine at h.1).as_it_is in
        record { as_it_is = higher c _ (of_element (term_depth at)) f; as_int = higher c _ (of_int_element (term_depth at) (has_depth at)) (signed_int c (signed_fine c f)) }
    term_fine (byte false at) h =
        let f = element_fine c Uint8 (byte_view false) h.0 (term_fine at h.1).as_it_is in
        record { as_it_is = higher c _ (of_element (term_depth at)) f; as_int = higher c _ (of_int_element (term_depth at) (has_depth at)) (signed_int c (signed_fine c f)) }
    term_fine (whole at) h =
        let f = element_fine c Int32 view_of_words h.0 (term_fine at h.1).as_it_is in
        record { as_it_is = higher c _ (of_element (term_depth at)) f; as_int = higher c _ (of_int_element (term_depth at) (has_depth at)) (signed_int c (signed_fine c f)) }

    summands_fine : (ts : Summands) → AreSound c ts → AreFineLinks c (summands ts) (3 * summands_depth ts)
    summands_fine no_more h = lower_links no_more _ (omega arith) (no_links_fine c)
    summands_fine (further minus t ts) h = lower_links (further minus t ts) _ (thrice (term_depth t) (summands_depth ts)) (links_fine c minus (term_fine t h.0).as_int (summands_fine ts h.1))

pub terms_are_fine : TermsAreFine
terms_are_fine c t h = term_fine c t h

-- ---- arguments

pub arguments_length : (ts : List Term) → exprs_length (arguments ts) ≡ length ts
arguments_length [] = refl
arguments_length (t ∷ ts) = ap suc (arguments_length ts)

pub arguments_fine : (c : Scope) (ts : List Term) → AllSound c ts → AreFineExprs c (arguments ts) (3 * terms_depth ts)
arguments_fine c [] h = no_exprs_fine c
arguments_fine c (t ∷ ts) h =
    let f = exprs_fine c (term_fine c t h.0).as_int (arguments_fine c ts h.1) in
    record { ints = f.ints; printed = f.printed; low = within f.low (thrice (term_depth t) (terms_depth ts)); no_marks = f.no_marks }
  where
    within : {a b d : ℕ} → a ≤ b → b ≤ d → a ≤ d
    within p q = omega (arith, p, q)
