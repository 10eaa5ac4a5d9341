-- Which expressions are fine, operator by operator.
use Rattle.std.proofs.Common.{◌≡◌, ℕ, ◌+◌, ◌≤◌, ◌<◌, ◌^◌, max, Bool, true, false, ◌&&◌, ◌||◌, List, [], Option, Some, None, refl, sym, ap, ◌∙◌, subst, arith}
use Rattle.std.specs.Prelude.{ℤ, pos, negsuc, is_some, nat_lt, nat_le, if◌then◌else◌, option_and_then}
use Rattle.std.proofs.lemmas.Bool.Decides.{nat_tests}
use Rattle.asm_types.specs.declared.value_type.ValueType.{ValueType}
use Rattle.asm_types.specs.declared.value_type.ValueType.TheVariants.{Fixnum, Signed, Unsigned, Int, Intish, Extern, Void}
use Rattle.asm_types.specs.Types.{is_below}
use Rattle.asm_types.specs.Rows.{row, gives_of, binary_row_of, unary_row_of}
use Rattle.sem_words.specs.declared.js_value.JsOp.{JsOp}
use Rattle.sem_words.specs.declared.js_value.JsUnary.TheVariants.{BitNot}
use Rattle.asm_lang_tokens.specs.Forms.{name, kind_of, is_name, is_number, number, number_value, is_decimal, decimal, is_quoted, quoted, punctuator}
use Rattle.asm_lang.specs.Lexemes.{identifier, class_of}
use Rattle.asm_lang.specs.Modules.{Expr, lit, var, index, call, unary, binary, chain, cond, Exprs, no_exprs, exprs, Links, no_links, links}
use Rattle.asm_lang.specs.Heights.{expr_height, exprs_height, links_height}
use Rattle.asm_laws_print.specs.Spelled.{HasClass, FitsExpr, FitsExprs, FitsLinks, is_chain, some_links}
use Rattle.asm_lang_valid.specs.declared.meaning.Element.{Element}
use Rattle.asm_lang_valid.specs.declared.meaning.Element.TheVariants as elements
use Rattle.asm_lang_valid.specs.declared.meaning.Builtin.TheVariants.{Imul, Clz32}
use Rattle.asm_lang_valid.specs.Scope.{an_int, a_builtin, a_view, shift_of}
use Rattle.asm_lang_valid.specs.Rows.{expr_count}
use Rattle.asm_lang_valid.specs.Typing.{Scope, named, literal_type, typed_below, is_int, is_call, most_operators, links_length, index_fits, type_of, all_below, links_fit}
use Rattle.asm_lang_valid.specs.LimitRows.{expr_marks, exprs_marks, links_marks}
use Rattle.wasm2js_translation.specs.Names.{Name, Fixed, fixed, spelled}
use Rattle.wasm2js_translation.specs.Words.{bit_operator, BitOp, conjunction, disjunction, exclusion, shift_left, shift_right_signed, shift_right, Relation, equal, unequal, less, at_most, greater, at_least, relation_operator, natural, signed_number, plain_number, indexed, name_of}
use Rattle.wasm2js_translation.proofs.Spelling.{spellings_are_usable}
use Rattle.wasm2js_laws_terms.specs.Laws.{IsFineExpr}

-- ---- names are identifiers

named_class : (w : List ℕ) → is_name w ≡ true → class_of name w ≡ identifier → HasClass identifier w
named_class w is_word h =
    let k : kind_of w ≡ name = ap (λ b. if b then name else (if is_number w then number (number_value w) else (if is_decimal w then decimal else (if is_quoted w then quoted else punctuator)))) is_word in
    subst (λ k. class_of k w ≡ identifier) (sym k) h

pub is_identifier : (n : Name) → HasClass identifier (spelled n)
is_identifier n = let u = spellings_are_usable n in named_class (spelled n) u.is_word u.is_identifier

-- ---- types below others

pub int_is_intish : (t : ValueType) → is_below t Int ≡ true → is_below t Intish ≡ true
int_is_intish Fixnum h = refl
int_is_intish Signed h = refl
int_is_intish Unsigned h = refl
int_is_intish Int h = refl
int_is_intish Intish h = refl
int_is_intish Extern h = cc h
int_is_intish Void h = cc h

pub signed_is_int : (t : ValueType) → is_below t Signed ≡ true → is_below t Int ≡ true
signed_is_int Fixnum h = refl
signed_is_int Signed h = refl
signed_is_int Unsigned h = refl
signed_is_int Int h = refl
signed_is_int Intish h = cc h
signed_is_int Extern h = cc h
signed_is_int Void h = cc h

no_type : (o : Option ValueType) → is_some o ≡ true → o ≡ None → ⊥
no_type None h e = cc h
no_type (Some t) h e = cc e

module _ (c : Scope) where
  -- ---- weaker

  pub higher : {e : Expr} {top : ValueType} {h : ℕ} (k : ℕ) → h ≤ k → IsFineExpr c e top h → IsFineExpr c e top k
  higher {h = h} k le f = record { type = f.type; has_type = f.has_type; below = f.below; no_call = f.no_call; printed = f.printed; low = within f.low le; no_marks = f.no_marks }
    where
      within : {a b d : ℕ} → a ≤ b → b ≤ d → a ≤ d
      within p q = omega (arith, p, q)

  pub intish : {e : Expr} {h : ℕ} → IsFineExpr c e Int h → IsFineExpr c e Intish h
  intish f = record { type = f.type; has_type = f.has_type; below = int_is_intish f.type f.below; no_call = f.no_call; printed = f.printed; low = f.low; no_marks = f.no_marks }

  pub signed_int : {e : Expr} {h : ℕ} → IsFineExpr c e Signed h → IsFineExpr c e Int h
  signed_int f = record { type = f.type; has_type = f.has_type; below = signed_is_int f.type f.below; no_call = f.no_call; printed = f.printed; low = f.low; no_marks = f.no_marks }

  pub is_typed_below : {e : Expr} {top : ValueType} {h : ℕ} → IsFineExpr c e top h → typed_below top (type_of c e) ≡ true
  is_typed_below {top = top} f = ap (typed_below top) f.has_type ∙ f.below

  -- ---- without operands

  pub variable_fine : (n : Name) → named c (spelled n) ≡ an_int → IsFineExpr c (var (spelled n)) Int 1
  variable_fine n h = record { type = Int; has_type = ap (λ m. row (is_int m) Int) h; below = refl; no_call = refl; printed = is_identifier n; low = omega arith; no_marks = λ at. refl }

  -- a literal has a type where it is below 2 ^ 32, and above -2 ^ 31
  pub literal_fine : (z : ℤ) → is_some (literal_type z) ≡ true → IsFineExpr c (lit z) Int 1
  literal_fine (pos n) h = by (nat_lt n (2 ^ 31)) (nat_lt n (2 ^ 32)) refl refl
    where
      small : nat_lt n (2 ^ 32) ≡ true → n < 2 ^ 64
      small e = grind (arith, nat_tests)

      smaller : nat_lt n (2 ^ 31) ≡ true → n < 2 ^ 64
      smaller e = grind (arith, nat_tests)

      by : (a b : Bool) → nat_lt n (2 ^ 31) ≡ a → nat_lt n (2 ^ 32) ≡ b → IsFineExpr c (lit (pos n)) Int 1
      by true b e f = record { type = Fixnum; has_type = ap (λ a. if a then Some Fixnum else row (nat_lt n (2 ^ 32)) Unsigned) e; below = refl; no_call = refl; printed = smaller e; low = omega arith; no_marks = λ at. refl }
      by false true e f = record { type = Unsigned; has_type = ap (λ a. if a then Some Fixnum else row (nat_lt n (2 ^ 32)) Unsigned) e ∙ ap (λ b. row b Unsigned) f; below = refl; no_call = refl; printed = small f; low = omega arith; no_marks = λ at. refl }
      by false false e f = absurd (no_type (literal_type (pos n)) h (ap (λ a. if a then Some Fixnum else row (nat_lt n (2 ^ 32)) Unsigned) e ∙ ap (λ b. row b Unsigned) f))
  literal_fine (negsuc n) h = by (nat_lt n (2 ^ 31)) refl
    where
      small : nat_lt n (2 ^ 31) ≡ true → n + 1 < 2 ^ 64
      small e = grind (arith, nat_tests)

      by : (a : Bool) → nat_lt n (2 ^ 31) ≡ a → IsFineExpr c (lit (negsuc n)) Int 1
      by true e = record { type = Signed; has_type = ap (λ a. row a Signed) e; below = refl; no_call = refl; printed = small e; low = omega arith; no_marks = λ at. refl }
      by false e = absurd (no_type (literal_type (negsuc n)) h (ap (λ a. row a Signed) e))

  -- ---- operators of two operands; the first is no call

  -- what the two have in common: no marks, and the height
  two_low : (l r : Expr) {h k : ℕ} → expr_height l ≤ h → expr_height r ≤ k → 1 + max (expr_height l) (expr_height r) ≤ 1 + max h k
  two_low l r p q = omega (arith, p, q)

  two_marks : (op : JsOp) (l r : Expr) → is_call c l ≡ false → ((at : ℕ) → expr_marks c at l ≡ []) → ((at : ℕ) → expr_marks c at r ≡ []) → (at : ℕ) → expr_marks c at (binary op l r) ≡ []
  two_marks op l r free a b at = let p = a (at + 1) in let q = b (at + 1 + expr_count l) in rw (free, p, q) refl

  -- each operator but a product
  module _ (l r : Expr) (s t : ValueType) (free : is_call c l ≡ false) (ls : type_of c l ≡ Some s) (rt : type_of c r ≡ Some t) where
    bits_type : (op : BitOp) → type_of c (binary (bit_operator op) l r) ≡ binary_row_of (bit_operator op) s t
    bits_type conjunction = rw (free, ls, rt) refl
    bits_type disjunction = rw (free, ls, rt) refl
    bits_type exclusion = rw (free, ls, rt) refl
    bits_type shift_left = rw (free, ls, rt) refl
    bits_type shift_right_signed = rw (free, ls, rt) refl
    bits_type shift_right = rw (free, ls, rt) refl

    relation_type : (op : Relation) → type_of c (binary (relation_operator op) l r) ≡ binary_row_of (relation_operator op) s t
    relation_type equal = rw (free, ls, rt) refl
    relation_type unequal = rw (free, ls, rt) refl
    relation_type less = rw (free, ls, rt) refl
    relation_type at_most = rw (free, ls, rt) refl
    relation_type greater = rw (free, ls, rt) refl
    relation_type at_least = rw (free, ls, rt) refl

  bits_row : (op : BitOp) (s t : ValueType) → is_below s Intish ≡ true → is_below t Intish ≡ true → binary_row_of (bit_operator op) s t ≡ Some (gives_of (bit_operator op))
  bits_row conjunction s t p q = rw (p, q) refl
  bits_row disjunction s t p q = rw (p, q) refl
  bits_row exclusion s t p q = rw (p, q) refl
  bits_row shift_left s t p q = rw (p, q) refl
  bits_row shift_right_signed s t p q = rw (p, q) refl
  bits_row shift_right s t p q = rw (p, q) refl

  bits_below : (op : BitOp) → is_below (gives_of (bit_operator op)) Int ≡ true
  bits_below conjunction = refl
  bits_below disjunction = refl
  bits_below exclusion = refl
  bits_below shift_left = refl
  bits_below shift_right_signed = refl
  bits_below shift_right = refl

  bits_is_none : (op : BitOp) (l r : Expr) → FitsExpr l → FitsExpr r → FitsExpr (binary (bit_operator op) l r)
  bits_is_none conjunction l r p q = (refl, p, q)
  bits_is_none disjunction l r p q = (refl, p, q)
  bits_is_none exclusion l r p q = (refl, p, q)
  bits_is_none shift_left l r p q = (refl, p, q)
  bits_is_none shift_right_signed l r p q = (refl, p, q)
  bits_is_none shift_right l r p q = (refl, p, q)

  module _ {l r : Expr} {h k : ℕ} where
    -- as a number of this type
    bits_are : (op : BitOp) (top : ValueType) → is_below (gives_of (bit_operator op)) top ≡ true → IsFineExpr c l Intish h → IsFineExpr c r Intish k → IsFineExpr c (binary (bit_operator op) l r) top (1 + max h k)
    bits_are op top b f g = record {
      type = gives_of (bit_operator op);
      has_type = bits_type l r f.type g.type f.no_call f.has_type g.has_type op ∙ bits_row op f.type g.type f.below g.below;
      below = b;
      no_call = refl;
      printed = bits_is_none op l r f.printed g.printed;
      low = two_low l r f.low g.low;
      no_marks = two_marks (bit_operator op) l r f.no_call f.no_marks g.no_marks;
    }

    pub bits_fine : (op : BitOp) → IsFineExpr c l Intish h → IsFineExpr c r Intish k → IsFineExpr c (binary (bit_operator op) l r) Int (1 + max h k)
    bits_fine op f g = bits_are op Int (bits_below op) f g

  pub zero_fine : IsFineExpr c (natural 0) Int 1
  zero_fine = literal_fine (pos 0) refl

  pub signed_fine : {e : Expr} {h : ℕ} → IsFineExpr c e Intish h → IsFineExpr c (signed_number e) Signed (1 + max h 1)
  signed_fine f = bits_are disjunction Signed refl f (intish zero_fine)

  pub plain_fine : {e : Expr} {h : ℕ} → IsFineExpr c e Intish h → IsFineExpr c (plain_number e) Unsigned (1 + max h 1)
  plain_fine f = bits_are shift_right Unsigned refl f (intish zero_fine)

  -- both operands of a relation have a sign, or none has

  or_true : (b : Bool) → (b || true) ≡ true
  or_true true = refl
  or_true false = refl

  abbrev pub number_type : Bool → ValueType
  number_type true = Signed
  number_type false = Unsigned

  are_alike : (signed : Bool) (s t : ValueType) → is_below s (number_type signed) ≡ true → is_below t (number_type signed) ≡ true
      → ((is_below s Signed && is_below t Signed) || (is_below s Unsigned && is_below t Unsigned)) ≡ true
  are_alike true s t p q = rw (p, q) refl
  are_alike false s t p q = rw (p, q) (or_true (is_below s Signed && is_below t Signed))

  relation_row : (op : Relation) (s t : ValueType) → ((is_below s Signed && is_below t Signed) || (is_below s Unsigned && is_below t Unsigned)) ≡ true → binary_row_of (relation_operator op) s t ≡ Some Int
  relation_row equal s t h = ap (λ b. row b Int) h
  relation_row unequal s t h = ap (λ b. row b Int) h
  relation_row less s t h = ap (λ b. row b Int) h
  relation_row at_most s t h = ap (λ b. row b Int) h
  relation_row greater s t h = ap (λ b. row b Int) h
  relation_row at_least s t h = ap (λ b. row b Int) h

  relation_printed : (op : Relation) (l r : Expr) → FitsExpr l → FitsExpr r → FitsExpr (binary (relation_operator op) l r)
  relation_printed equal l r p q = (refl, p, q)
  relation_printed unequal l r p q = (refl, p, q)
  relation_printed less l r p q = (refl, p, q)
  relation_printed at_most l r p q = (refl, p, q)
  relation_printed greater l r p q = (refl, p, q)
  relation_printed at_least l r p q = (refl, p, q)

  pub relation_fine : (signed : Bool) (op : Relation) (l r : Expr) {h k : ℕ} → IsFineExpr c l (number_type signed) h → IsFineExpr c r (number_type signed) k
      → IsFineExpr c (binary (relation_operator op) l r) Int (1 + max h k)
  relation_fine signed op l r f g = record {
    type = Int;
    has_type = relation_type l r f.type g.type f.no_call f.has_type g.has_type op ∙ relation_row op f.type g.type (are_alike signed f.type g.type f.below g.below);
    below = refl;
    no_call = refl;
    printed = relation_printed op l r f.printed g.printed;
    low = two_low l r f.low g.low;
    no_marks = two_marks (relation_operator op) l r f.no_call f.no_marks g.no_marks;
  }

  -- a number without a sign above a literal
  pub above_fine : (n : ℕ) {e : Expr} {h : ℕ} → n < 2 ^ 32 → IsFineExpr c e Unsigned h → IsFineExpr c (binary (relation_operator greater) e (natural n)) Int (1 + max h 1)
  above_fine n {e = e} small f = relation_fine false greater e (natural n) f (unsigned_literal n small)
    where
      in_words : (n : ℕ) → n < 2 ^ 32 → nat_lt n (2 ^ 32) ≡ true
      in_words n h = grind (arith, nat_tests)

      low_enough : (n : ℕ) → n < 2 ^ 32 → n < 2 ^ 64
      low_enough n h = omega (arith, h)

      unsigned_literal : (n : ℕ) → n < 2 ^ 32 → IsFineExpr c (natural n) Unsigned 1
      unsigned_literal n h = by (nat_lt n (2 ^ 31)) refl
        where
          by : (a : Bool) → nat_lt n (2 ^ 31) ≡ a → IsFineExpr c (natural n) Unsigned 1
          by true e = record { type = Fixnum; has_type = ap (λ a. if a then Some Fixnum else row (nat_lt n (2 ^ 32)) Unsigned) e; below = refl; no_call = refl; printed = low_enough n h; low = omega arith; no_marks = λ at. refl }
          by false e = record { type = Unsigned; has_type = ap (λ a. if a then Some Fixnum else row (nat_lt n (2 ^ 32)) Unsigned) e ∙ ap (λ b. row b Unsigned) (in_words n h); below = refl; no_call = refl; printed = low_enough n h; low = omega arith; no_marks = λ at. refl }

  -- ---- other operators

  pub flipped_fine : {e : Expr} {h : ℕ} → IsFineExpr c e Intish h → IsFineExpr c (unary BitNot e) Int (1 + h)
  flipped_fine {e = e} {h = h} f = record {
    type = Signed;
    has_type = ap (λ o. option_and_then (λ t. unary_row_of BitNot t) o) f.has_type ∙ ap (λ b. row b Signed) f.below;
    below = refl;
    no_call = refl;
    printed = f.printed;
    low = more f.low;
    no_marks = λ at. f.no_marks (at + 1);
  }
    where
      more : {a b : ℕ} → a ≤ b → 1 + a ≤ 1 + b
      more p = omega (arith, p)

  pub chosen_fine : {t a b : Expr} {h k m : ℕ} → IsFineExpr c t Int h → IsFineExpr c a Int k → IsFineExpr c b Int m → IsFineExpr c (cond t a b) Int (1 + max h (max k m))
  chosen_fine {t = t} {a = a} {b = b} f g i = record {
    type = Int;
    has_type = (let p = is_typed_below f in let q = is_typed_below g in let r = is_typed_below i in rw (p, q, r) refl);
    below = refl;
    no_call = refl;
    printed = (f.printed, g.printed, i.printed);
    low = three f.low g.low i.low;
    no_marks = λ at. let p = f.no_marks (at + 1) in let q = g.no_marks (at + 1 + expr_count t) in let r = i.no_marks (at + 1 + expr_count t + expr_count a) in rw (p, q, r) refl;
  }
    where
      three : {a b d h k m : ℕ} → a ≤ h → b ≤ k → d ≤ m → 1 + max a (max b d) ≤ 1 + max h (max k m)
      three p q r = omega (arith, p, q, r)

  -- ---- sums

  pub record AreFineLinks (ls : Links) (h : ℕ) : Type 0 where
    pub fit : links_fit c ls ≡ true
    pub printed : FitsLinks ls
    pub low : links_height ls ≤ h
    pub no_marks : (at : ℕ) → links_marks c at ls ≡ []

  pub no_links_fine : AreFineLinks no_links 0
  no_links_fine = record { fit = refl; printed = tt; low = omega arith; no_marks = λ at. refl }

  pub links_fine : (minus : Bool) {e : Expr} {ls : Links} {h k : ℕ} → IsFineExpr c e Int h → AreFineLinks ls k → AreFineLinks (links minus e ls) (max h k)
  links_fine minus {e = e} {ls = ls} f g = record {
    fit = (let p = is_typed_below f in let q = g.fit in rw (p, q) refl);
    printed = (f.printed, g.printed);
    low = two f.low g.low;
    no_marks = λ at. let p = f.no_marks at in let q = g.no_marks (at + expr_count e) in rw (p, q) refl;
  }
    where
      two : {a b h k : ℕ} → a ≤ h → b ≤ k → max a b ≤ max h k
      two p q = omega (arith, p, q)

  pub chain_fine : {e : Expr} {ls : Links} {h k : ℕ} → is_chain e ≡ false → some_links ls ≡ true → links_length ls ≤ most_operators → IsFineExpr c e Int h → AreFineLinks ls k
      → IsFineExpr c (chain e ls) Intish (1 + max h k)
  chain_fine {e = e} {ls = ls} plain some few f g = record {
    type = Intish;
    has_type = (let p = is_typed_below f in let q = g.fit in let r = test (links_length ls) most_operators few in rw (p, q, r) refl);
    below = refl;
    no_call = refl;
    printed = (plain, some, f.printed, g.printed);
    low = two f.low g.low;
    no_marks = λ at. let p = f.no_marks (at + 1) in let q = g.no_marks (at + 1 + expr_count e) in rw (p, q) refl;
  }
    where
      test : (a b : ℕ) → a ≤ b → nat_le a b ≡ true
      test a b h = grind (arith, nat_tests)

      two : {a b h k : ℕ} → a ≤ h → b ≤ k → 1 + max a b ≤ 1 + max h k
      two p q = omega (arith, p, q)

  -- ---- calls

  pub record AreFineExprs (es : Exprs) (h : ℕ) : Type 0 where
    pub ints : all_below c Int es ≡ true
    pub printed : FitsExprs es
    pub low : exprs_height es ≤ h
    pub no_marks : (at : ℕ) → exprs_marks c at es ≡ []

  pub no_exprs_fine : AreFineExprs no_exprs 0
  no_exprs_fine = record { ints = refl; printed = tt; low = omega arith; no_marks = λ at. refl }

  pub exprs_fine : {e : Expr} {es : Exprs} {h k : ℕ} → IsFineExpr c e Int h → AreFineExprs es k → AreFineExprs (exprs e es) (max h k)
  exprs_fine {e = e} f g = record {
    ints = (let p = is_typed_below f in let q = g.ints in rw (p, q) refl);
    printed = (f.printed, g.printed);
    low = two f.low g.low;
    no_marks = λ at. let p = f.no_marks at in let q = g.no_marks (at + expr_count e) in rw (p, q) refl;
  }
    where
      two : {a b h k : ℕ} → a ≤ h → b ≤ k → max a b ≤ max h k
      two p q = omega (arith, p, q)

  -- of the standard library
  builtin_low : {a h : ℕ} → a ≤ h → 1 + a ≤ 1 + h
  builtin_low p = omega (arith, p)

  pub product_fine : {a b : Expr} {h : ℕ} (f : Fixed) → named c (name_of f) ≡ a_builtin Imul → AreFineExprs (exprs a (exprs b no_exprs)) h → IsFineExpr c (call (name_of f) (exprs a (exprs b no_exprs))) Int (1 + h)
  product_fine f is g = record {
    type = Signed;
    has_type = (let p = g.ints in rw (is, p) refl);
    below = refl;
    no_call = rw is refl;
    printed = (is_identifier (fixed f), g.printed);
    low = builtin_low g.low;
    no_marks = λ at. g.no_marks (at + 1);
  }

  pub zeros_fine : {a : Expr} {h : ℕ} (f : Fixed) → named c (name_of f) ≡ a_builtin Clz32 → AreFineExprs (exprs a no_exprs) h → IsFineExpr c (call (name_of f) (exprs a no_exprs)) Int (1 + h)
  zeros_fine f is g = record {
    type = Fixnum;
    has_type = (let p = g.ints in rw (is, p) refl);
    below = refl;
    no_call = rw is refl;
    printed = (is_identifier (fixed f), g.printed);
    low = builtin_low g.low;
    no_marks = λ at. g.no_marks (at + 1);
  }

  -- ---- elements of a view

  shift_is_literal : (v : Element) → is_some (literal_type (pos (shift_of v))) ≡ true
  shift_is_literal elements.Int8 = refl
  shift_is_literal elements.Uint8 = refl
  shift_is_literal elements.Int16 = refl
  shift_is_literal elements.Uint16 = refl
  shift_is_literal elements.Int32 = refl
  shift_is_literal elements.Uint32 = refl

  pub place_fine : (v : Element) {e : Expr} {h : ℕ} → IsFineExpr c e Intish h → IsFineExpr c (indexed (shift_of v) e) Int (1 + max h 1)
  place_fine v f = bits_fine shift_right_signed f (intish (literal_fine (pos (shift_of v)) (shift_is_literal v)))

  shifted : (v : Element) (e : Expr) (t : ValueType) → index_fits (a_view v) (indexed (shift_of v) e) (Some t) ≡ true
  shifted elements.Int8 e t = refl
  shifted elements.Uint8 e t = refl
  shifted elements.Int16 e t = refl
  shifted elements.Uint16 e t = refl
  shifted elements.Int32 e t = refl
  shifted elements.Uint32 e t = refl

  pub index_is_fit : (v : Element) (f : Fixed) {e : Expr} {h : ℕ} → named c (name_of f) ≡ a_view v → IsFineExpr c (indexed (shift_of v) e) Int h
      → index_fits (named c (name_of f)) (indexed (shift_of v) e) (type_of c (indexed (shift_of v) e)) ≡ true
  index_is_fit v f {e = e} is g =
      ap (λ m. index_fits m (indexed (shift_of v) e) (type_of c (indexed (shift_of v) e))) is
      ∙ ap (λ o. index_fits (a_view v) (indexed (shift_of v) e) o) g.has_type
      ∙ shifted v e g.type

  pub element_fine : (v : Element) (f : Fixed) {e : Expr} {h : ℕ} → named c (name_of f) ≡ a_view v → IsFineExpr c e Intish h → IsFineExpr c (index (name_of f) (indexed (shift_of v) e)) Intish (2 + max h 1)
  element_fine v f {e = e} {h = h} is g =
      let p = place_fine v g in
      record {
        type = Intish;
        has_type = ap (λ b. row b Intish) (index_is_fit v f is p);
        below = refl;
        no_call = refl;
        printed = (is_identifier (fixed f), p.printed);
        low = one_more (max h 1) p.low;
        no_marks = λ at. p.no_marks (at + 1);
      }
    where
      one_more : {a : ℕ} (h : ℕ) → a ≤ 1 + h → 1 + a ≤ 2 + h
      one_more h p = omega (arith, p)
