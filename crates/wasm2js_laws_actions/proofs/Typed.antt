-- What the outermost operator of a term gives is of its type, whatever it is applied to: where such a number is asked for, the term stands bare.
use Rattle.std.proofs.Common.{◌≡◌, ◌≢◌, ℕ, ◌^◌, ◌<◌, ◌≤◌, Bool, true, false, not, List, [], ◌∷◌, ℤ, pos, negsuc, Option, Some, None, refl, sym, ap, ◌∙◌, subst, arith}
use Rattle.std.specs.Prelude.{◌==◌, nat_lt, if◌then◌else◌, option_map}
use Rattle.std.proofs.lemmas.Bool.Decides.{nat_tests}
use Rattle.std.proofs.lemmas.Int.{ints}
use Rattle.sem_words.specs.declared.word.Bin.TheVariants as bins
use Rattle.sem_words.specs.declared.js_value.JsValue.{JsValue}
use Rattle.sem_words.specs.declared.js_value.JsValue.TheVariants.{Whole, Bool as Boolean}
use Rattle.sem_words.specs.declared.js_value.JsOp.{JsOp}
use Rattle.sem_words.specs.declared.js_value.JsOp.TheVariants.{Mul}
use Rattle.sem_words.specs.declared.js_value.JsUnary.TheVariants.{BitNot}
use Rattle.sem_words.specs.JsValues.{to_uint32_of, truthy_of}
use Rattle.sem_words.specs.JsOperators.{whole_of, wholes_of, alike_of, signed_value, unsigned_value, js_binary_of, js_unary_of}
use Rattle.sem_words.specs.Words.{word_of, signed_of, mul_of, leading_zeros_of}
use Rattle.asm_types.specs.declared.value_type.ValueType.{ValueType}
use Rattle.asm_types.specs.declared.value_type.ValueType.TheVariants.{Fixnum, Signed, Unsigned, Int, Intish}
use Rattle.asm_types.specs.Types.{is_below}
use Rattle.asm_types.specs.Rows.{row, gives_of, takes_of}
use Rattle.asm_types.specs.Values.{fits_of, is_between, least}
use Rattle.asm_types.proofs.Sound.{wider, to_uint32_lt, Gives, Good, binary_gives, unary_sound, from_row}
use Rattle.asm_lang.specs.Modules.{Expr, Exprs, call, unary, binary}
use Rattle.asm_lang_valid.specs.declared.meaning.Builtin.TheVariants.{Imul, Clz32}
use Rattle.asm_lang_valid.specs.Scope.{a_builtin}
use Rattle.asm_lang_valid.specs.Typing.{Scope, named, literal_type, typed_below}
use Rattle.asm_lang_exec.specs.Runs.{Place, Run, goes, stops, spent, wrong, Part, after, and_then, defined}
use Rattle.asm_lang_exec.specs.Values.{Calls, call_named}
use Rattle.asm_lang_exec.specs.Meaning.{eval, eval_all}
use Rattle.wasm2js_translation.specs.Names.{imul, clz32}
use Rattle.wasm2js_translation.specs.Words.{BitOp, conjunction, disjunction, exclusion, shift_left, shift_right_signed, shift_right, Relation, equal, unequal, less, at_most, greater, at_least, Term, read, number, both, flip, sum, product, zeros, compare, choose, byte, whole, bit_operator, relation_operator, name_of}
use Rattle.wasm2js_laws_terms.specs.Sound.{IsSound}
use Rattle.wasm2js_laws_actions.specs.Reads.{Reads}
use Rattle.wasm2js_laws_actions.proofs.Numbers.{small, few_zeros}

-- ---- runs whose value is of a type; what has no value is of each

abbrev pub Fits : ValueType → Run JsValue → Type 0
Fits k (goes v q) = fits_of k v ≡ true
Fits k (stops e q) = Unit {0}
Fits k (spent q) = Unit {0}
Fits k wrong = Unit {0}

pub fits_then : {A : Type 0} (k : ValueType) (r : Run A) (next : A → Part JsValue) → ((a : A) (q : Place) → Fits k (next a q)) → Fits k (after r next)
fits_then k (goes a q) next f = f a q
fits_then k (stops e q) next f = tt
fits_then k (spent q) next f = tt
fits_then k wrong next f = tt

fits_given : (k : ValueType) (o : Option JsValue) (p : Place) → Gives k o → Fits k (defined o p)
fits_given k o p g = subst (λ o. Fits k (defined o p)) (sym g.is) g.fit

fits_wider : (k m : ValueType) (r : Run JsValue) → is_below k m ≡ true → Fits k r → Fits m r
fits_wider k m (goes v q) b f = wider k m v b f
fits_wider k m (stops e q) b f = tt
fits_wider k m (spent q) b f = tt
fits_wider k m wrong b f = tt

-- with its word, and what comes after it
pub typed_then : {B : Type 0} (k : ValueType) (x : ℕ) (p : Place) (P : Run B → Type 0) (r : Run JsValue) (next : JsValue → Part B)
    → P wrong → Reads x p r → Fits k r → ((v : JsValue) → to_uint32_of v ≡ x → fits_of k v ≡ true → P (next v p)) → P (after r next)
typed_then k x p P (goes v q) next w h g f = subst (λ q. P (next v q)) (sym h.0) (f v h.1 g)
typed_then k x p P (stops e q) next w h g f = absurd h
typed_then k x p P (spent q) next w h g f = absurd h
typed_then k x p P wrong next w h g f = w

-- ---- operators

module _ (v w : JsValue) where
  no_product : (op : BitOp) → bit_operator op ≢ Mul
  no_product conjunction = λ e. absurd (cc e)
  no_product disjunction = λ e. absurd (cc e)
  no_product exclusion = λ e. absurd (cc e)
  no_product shift_left = λ e. absurd (cc e)
  no_product shift_right_signed = λ e. absurd (cc e)
  no_product shift_right = λ e. absurd (cc e)

  takes_all : (op : BitOp) → Good (takes_of (bit_operator op)) v w
  takes_all conjunction = (refl, refl)
  takes_all disjunction = (refl, refl)
  takes_all exclusion = (refl, refl)
  takes_all shift_left = (refl, refl)
  takes_all shift_right_signed = (refl, refl)
  takes_all shift_right = (refl, refl)

  bits_fit : (op : BitOp) (p : Place) → Fits (gives_of (bit_operator op)) (defined (js_binary_of (bit_operator op) v w) p)
  bits_fit op p = fits_given (gives_of (bit_operator op)) (js_binary_of (bit_operator op) v w) p (binary_gives (bit_operator op) v w (no_product op) (takes_all op))

  -- a comparison gives a truth value
  tested_fit : (test : ℤ → ℤ → Bool) (p : Place) → Fits Int (defined (option_map (λ (p : ℤ × ℤ). Boolean (test p.0 p.1)) (alike_of v w)) p)
  tested_fit test p = by (alike_of v w)
    where
      by : (o : Option (ℤ × ℤ)) → Fits Int (defined (option_map (λ (p : ℤ × ℤ). Boolean (test p.0 p.1)) o) p)
      by None = tt
      by (Some z) = refl

  relation_fits : (r : Relation) (p : Place) → Fits Int (defined (js_binary_of (relation_operator r) v w) p)
  relation_fits equal p = tested_fit _ p
  relation_fits unequal p = tested_fit _ p
  relation_fits less p = tested_fit _ p
  relation_fits at_most p = tested_fit _ p
  relation_fits greater p = tested_fit _ p
  relation_fits at_least p = tested_fit _ p

signed_fits : (a : ℕ) → a < 2 ^ 32 → fits_of Signed (signed_value a) ≡ true
signed_fits a h = grind (arith, ints, nat_tests)

fixnum_fits : (a : ℕ) → a ≤ 32 → fits_of Fixnum (unsigned_value a) ≡ true
fixnum_fits a h = grind (arith, ints, nat_tests)

product_fits : (calls : Calls) (vs : List JsValue) (p : Place) → Fits Signed (call_named calls (a_builtin Imul) vs p)
product_fits calls [] p = tt
product_fits calls (v ∷ []) p = tt
product_fits calls (v ∷ w ∷ []) p = by (wholes_of v w)
  where
    by : (o : Option (ℤ × ℤ)) → Fits Signed (defined (option_map (λ _. signed_value (mul_of 32 (to_uint32_of v) (to_uint32_of w))) o) p)
    by None = tt
    by (Some z) = signed_fits (mul_of 32 (to_uint32_of v) (to_uint32_of w)) (small bins.Mul v w)
product_fits calls (v ∷ w ∷ u ∷ us) p = tt

zeros_fit : (calls : Calls) (vs : List JsValue) (p : Place) → Fits Fixnum (call_named calls (a_builtin Clz32) vs p)
zeros_fit calls [] p = tt
zeros_fit calls (v ∷ []) p = by (whole_of v)
  where
    by : (o : Option ℤ) → Fits Fixnum (defined (option_map (λ _. unsigned_value (leading_zeros_of 32 (to_uint32_of v))) o) p)
    by None = tt
    by (Some z) = fixnum_fits (leading_zeros_of 32 (to_uint32_of v)) (few_zeros (to_uint32_of v) (to_uint32_lt v))
zeros_fit calls (v ∷ w ∷ us) p = tt

module _ (calls : Calls) (c : Scope) where
  abbrev ev : Expr → Part JsValue
  ev e = eval false calls c e

  two_fit : (k : ValueType) (op : JsOp) (l r : Expr) (p : Place) → ((v w : JsValue) (q : Place) → Fits k (defined (js_binary_of op v w) q)) → Fits k (ev (binary op l r) p)
  two_fit k op l r p each =
      fits_then k (ev l p) (λ v. and_then (ev r) (λ w. defined (js_binary_of op v w)))
      (λ v q. fits_then k (ev r q) (λ w. defined (js_binary_of op v w)) (λ w q. each v w q))

  pub bits_typed : (op : BitOp) (l r : Expr) (p : Place) → Fits (gives_of (bit_operator op)) (ev (binary (bit_operator op) l r) p)
  bits_typed op l r p = two_fit (gives_of (bit_operator op)) (bit_operator op) l r p (λ v w q. bits_fit v w op q)

  pub relation_typed : (op : Relation) (l r : Expr) (p : Place) → Fits Int (ev (binary (relation_operator op) l r) p)
  relation_typed op l r p = two_fit Int (relation_operator op) l r p (λ v w q. relation_fits v w op q)

  pub flip_typed : (e : Expr) (p : Place) → Fits Signed (ev (unary BitNot e) p)
  flip_typed e p = fits_then Signed (ev e p) (λ v. defined (js_unary_of BitNot v)) (λ v q. fits_given Signed (js_unary_of BitNot v) q (unary_sound BitNot Intish Signed v refl refl))

  pub product_typed : (es : Exprs) (p : Place) → named c (name_of imul) ≡ a_builtin Imul → Fits Signed (ev (call (name_of imul) es) p)
  product_typed es p is =
      fits_then Signed (eval_all false calls c es p) (λ vs. call_named calls (named c (name_of imul)) vs)
      (λ vs q. subst (λ m. Fits Signed (call_named calls m vs q)) (sym is) (product_fits calls vs q))

  pub zeros_typed : (es : Exprs) (p : Place) → named c (name_of clz32) ≡ a_builtin Clz32 → Fits Fixnum (ev (call (name_of clz32) es) p)
  zeros_typed es p is =
      fits_then Fixnum (eval_all false calls c es p) (λ vs. call_named calls (named c (name_of clz32)) vs)
      (λ vs q. subst (λ m. Fits Fixnum (call_named calls m vs q)) (sym is) (zeros_fit calls vs q))

pub bits_below : (op : BitOp) → is_below (gives_of (bit_operator op)) Int ≡ true
bits_below conjunction = refl
bits_below disjunction = refl
bits_below exclusion = refl
bits_below shift_left = refl
bits_below shift_right_signed = refl
bits_below shift_right = refl

-- a product and a number of zeros are the standard library's
module _ (c : Scope) where
  abbrev pub IsNamed : Term → Type 0
  IsNamed (product a b) = named c (name_of imul) ≡ a_builtin Imul
  IsNamed (zeros a) = named c (name_of clz32) ≡ a_builtin Clz32
  IsNamed t = Unit {0}

  pub sound_named : (t : Term) → IsSound c t → IsNamed t
  sound_named (read n) s = tt
  sound_named (number z) s = tt
  sound_named (both op a b) s = tt
  sound_named (flip a) s = tt
  sound_named (sum a ts) s = tt
  sound_named (product a b) s = s.0
  sound_named (zeros a) s = s.0
  sound_named (compare signed r a b) s = tt
  sound_named (choose t a b) s = tt
  sound_named (byte signed at) s = tt
  sound_named (whole at) s = tt

-- ---- literals

literal_is : (z : ℤ) (t : ValueType) → literal_type z ≡ Some t → fits_of t (Whole z) ≡ true
literal_is (pos n) t h = small n t _ refl h
  where
    small : (n : ℕ) (t : ValueType) (b : Bool) → nat_lt n (2 ^ 31) ≡ b → (if b then Some Fixnum else row (nat_lt n (2 ^ 32)) Unsigned) ≡ Some t → fits_of t (Whole (pos n)) ≡ true
    small n t true e h = let s : Fixnum ≡ t = cc h in subst (λ t. fits_of t (Whole (pos n)) ≡ true) s (grind (arith, ints, nat_tests))
    small n t false e h = let w = from_row _ _ _ h in subst (λ t. fits_of t (Whole (pos n)) ≡ true) w.1 (let k = w.0 in grind (arith, ints, nat_tests))
literal_is (negsuc n) t h = let w = from_row _ _ _ h in subst (λ t. fits_of t (Whole (negsuc n)) ≡ true) w.1 (let k = w.0 in grind (arith, ints, nat_tests))

pub literal_fits : (k : ValueType) (z : ℤ) → typed_below k (literal_type z) ≡ true → fits_of k (Whole z) ≡ true
literal_fits k z h = by (literal_type z) refl h
  where
    by : (o : Option ValueType) → literal_type z ≡ o → typed_below k o ≡ true → fits_of k (Whole z) ≡ true
    by None e h = absurd (cc h)
    by (Some t) e h = wider t k (Whole z) h (literal_is z t e)

-- ---- values by their types

signed_back : (z : ℤ) → is_between least (pos (2 ^ 31)) z ≡ true → signed_of 32 (word_of 32 z) ≡ z
signed_back z h = grind (arith, ints, nat_tests)

unsigned_back : (z : ℤ) → is_between (pos 0) (pos (2 ^ 32)) z ≡ true → pos (word_of 32 z) ≡ z
unsigned_back z h = grind (arith, ints, nat_tests)

pub signed_is : (v : JsValue) (x : ℕ) → fits_of Signed v ≡ true → to_uint32_of v ≡ x → v ≡ signed_value x
signed_is (Whole z) x f e = ap Whole (sym (signed_back z f)) ∙ ap signed_value e
signed_is v x f e = absurd (cc f)

pub unsigned_is : (v : JsValue) (x : ℕ) → fits_of Unsigned v ≡ true → to_uint32_of v ≡ x → v ≡ unsigned_value x
unsigned_is (Whole z) x f e = ap Whole (sym (unsigned_back z f)) ∙ ap unsigned_value e
unsigned_is v x f e = absurd (cc f)

whole_truth : (z : ℤ) → is_between least (pos (2 ^ 32)) z ≡ true → truthy_of (Whole z) ≡ not (word_of 32 z == 0)
whole_truth z h = grind (arith, ints, nat_tests)

pub truth_is : (v : JsValue) (x : ℕ) → fits_of Int v ≡ true → to_uint32_of v ≡ x → truthy_of v ≡ not (x == 0)
truth_is (Whole z) x f e = whole_truth z f ∙ ap (λ n. not (n == 0)) e
truth_is (Boolean true) x f e = ap (λ n. not (n == 0)) e
truth_is (Boolean false) x f e = ap (λ n. not (n == 0)) e
truth_is v x f e = absurd (cc f)
