-- Each term's value has the term's word.
use Rattle.std.proofs.Common.{◌≡◌, ℕ, ◌-◌, ◌%◌, ◌^◌, ◌<◌, Bool, true, false, not, List, [], ◌∷◌, ℤ, pos, refl, sym, ap, ◌∙◌, subst}
use Rattle.std.specs.Prelude.{if◌then◌else◌, ◌==◌, map, Option, Some, None}
use Rattle.std.specs.Int.{int_shr}
use Rattle.std.specs.Int.Bits.{or_zero_r}
use Rattle.sem_words.specs.declared.word.Bin.TheVariants as bins
use Rattle.sem_words.specs.declared.js_value.JsValue.{JsValue}
use Rattle.sem_words.specs.declared.js_value.JsValue.TheVariants.{Whole}
use Rattle.sem_words.specs.declared.js_value.JsOp.{JsOp}
use Rattle.sem_words.specs.declared.js_value.JsOp.TheVariants.{Or, Shr, Sar}
use Rattle.sem_words.specs.declared.js_value.JsUnary.TheVariants.{BitNot}
use Rattle.sem_words.specs.JsValues.{to_uint32_of, truthy_of}
use Rattle.sem_words.specs.JsOperators.{js_binary_of, js_unary_of, signed_value, unsigned_value}
use Rattle.sem_words.specs.Words.{signed_of, mul_of, leading_zeros_of, rel_of}
use Rattle.sem_words.proofs.WordLaws.{word_of-signed_of_32}
use Rattle.asm_types.specs.declared.value_type.ValueType.{ValueType}
use Rattle.asm_types.specs.declared.value_type.ValueType.TheVariants.{Fixnum, Signed, Unsigned, Int}
use Rattle.asm_types.specs.Types.{is_below}
use Rattle.asm_types.specs.Rows.{gives_of}
use Rattle.asm_types.specs.Values.{fits_of}
use Rattle.asm_types.proofs.Sound.{wider, to_uint32_lt}
use Rattle.heap_lang.specs.Heap.{load}
use Rattle.asm_lang.specs.Modules.{Expr, lit, index, unary, binary, cond, no_exprs, exprs}
use Rattle.asm_lang_valid.specs.declared.meaning.Builtin.TheVariants.{Imul, Clz32}
use Rattle.asm_lang_valid.specs.declared.meaning.Element.TheVariants.{Int8, Uint8, Int32}
use Rattle.asm_lang_valid.specs.declared.meaning.Element.{Element}
use Rattle.asm_lang_valid.specs.Scope.{a_builtin, a_view}
use Rattle.asm_lang_valid.specs.Typing.{Scope, named, typed_below, literal_type}
use Rattle.asm_lang_exec.specs.Runs.{Place, Run, wrong, Part, after, and_then, defined}
use Rattle.asm_lang_exec.specs.Values.{Calls, call_named, read_element, element_value, kind_of}
use Rattle.asm_lang_exec.specs.Meaning.{eval, eval_all, eval_links, link_operator}
use Rattle.wasm2js_translation.specs.Names.{view_of_words, imul, clz32}
use Rattle.wasm2js_translation.specs.Words.{called, Relation, conjunction, disjunction, exclusion, shift_left, shift_right_signed, shift_right, Term, read, number, both, flip, sum, product, zeros, compare, choose, byte, whole, Summands, no_more, further, as_int, as_signed, as_unsigned, as_number, signed_number, plain_number, relation_operator, bit_operator, indexed, name_of, byte_view, expr, summands, int_of, test_of, arguments}
use Rattle.wasm2js_laws_terms.specs.Sound.{IsSound, AreSound, AllSound, byte_element}
use Rattle.wasm2js_laws_places.specs.Straight.{value, summed, values, bits_of, relation_of, truth, added, byte_kind, index_at, element_word}
use Rattle.wasm2js_laws_places.specs.Places.{word_at, AreApart}
use Rattle.wasm2js_laws_actions.specs.Reads.{Reads, ReadsAll}
use Rattle.wasm2js_laws_actions.proofs.Numbers.{small, bits_read, links_read, product_read, zeros_read, flipped, number_value, compared_read, is_true, whole_quotient}
use Rattle.wasm2js_laws_actions.proofs.Reading.{read_then, all_then, one_more}
use Rattle.wasm2js_laws_actions.proofs.Typed.{Fits, typed_then, IsNamed, sound_named, bits_below, bits_typed, relation_typed, flip_typed, product_typed, zeros_typed, literal_fits, signed_is, unsigned_is, truth_is}
use Rattle.wasm2js_laws_actions.proofs.Variables.{variable_read}

-- a value of the heap, and what a word's element is
element_is : (o : Option ℤ) → to_uint32_of (element_value o) ≡ element_word o
element_is None = refl
element_is (Some z) = refl

-- a product and a number of zeros, by their arguments
product_called : (x y : ℕ) (calls : Calls) (vs : List JsValue) (p : Place) → map to_uint32_of vs ≡ x ∷ y ∷ [] → Reads (mul_of 32 x y) p (call_named calls (a_builtin Imul) vs p)
product_called x y calls [] p h = tt
product_called x y calls (v ∷ []) p h = tt
product_called x y calls (v ∷ w ∷ []) p h =
    let a : to_uint32_of v ≡ x = cc h in
    let b : to_uint32_of w ≡ y = cc h in
    subst (λ n. Reads n p (call_named calls (a_builtin Imul) (v ∷ w ∷ []) p)) (ap (λ n. mul_of 32 n (to_uint32_of w)) a ∙ ap (mul_of 32 x) b) (product_read v w p)
product_called x y calls (v ∷ w ∷ u ∷ us) p h = tt

zeros_called : (x : ℕ) (calls : Calls) (vs : List JsValue) (p : Place) → map to_uint32_of vs ≡ x ∷ [] → Reads (leading_zeros_of 32 x) p (call_named calls (a_builtin Clz32) vs p)
zeros_called x calls [] p h = tt
zeros_called x calls (v ∷ []) p h =
    let a : to_uint32_of v ≡ x = cc h in
    subst (λ n. Reads n p (call_named calls (a_builtin Clz32) (v ∷ []) p)) (ap (leading_zeros_of 32) a) (zeros_read v p)
zeros_called x calls (v ∷ w ∷ us) p h = tt

-- an expression's number, with its sign or without
abbrev pub converted : Bool → Expr → Expr
converted true e = signed_number e
converted false e = plain_number e

module _ (calls : Calls) (c : Scope) where
  abbrev ev : Expr → Part JsValue
  ev e = eval false calls c e

  -- ---- operators

  pub two : (f : ℕ → ℕ → ℕ) (op : JsOp) → ((v w : JsValue) (p : Place) → Reads (f (to_uint32_of v) (to_uint32_of w)) p (defined (js_binary_of op v w) p))
      → (l r : Expr) (x y : ℕ) (p : Place) → Reads x p (ev l p) → Reads y p (ev r p) → Reads (f x y) p (ev (binary op l r) p)
  two f op each l r x y p h k =
      read_then (Reads (f x y) p) x p (ev l p) (λ v. and_then (ev r) (λ w. defined (js_binary_of op v w))) tt h
      (λ v a. read_then (Reads (f x y) p) y p (ev r p) (λ w. defined (js_binary_of op v w)) tt k
      (λ w b. subst (λ n. Reads n p (defined (js_binary_of op v w) p)) (ap (λ n. f n (to_uint32_of w)) a ∙ ap (f x) b) (each v w p)))

  -- `e|0` as a word
  pub signed_read : (e : Expr) (x : ℕ) (p : Place) → Reads x p (ev e p) → Reads x p (ev (signed_number e) p)
  signed_read e x p h =
      read_then (Reads x p) x p (ev e p) (λ v. and_then (ev (lit (pos 0))) (λ w. defined (js_binary_of Or v w))) tt h
      (λ v a. (refl, word_of-signed_of_32 _ (small bins.Or v (Whole (pos 0))) ∙ or_zero_r (to_uint32_of v) ∙ a))

  -- `e|0` and `e>>>0` as values, with what comes after them
  pub converted_then : {B : Type 0} (signed : Bool) (e : Expr) (x : ℕ) (p : Place) (P : Run B → Type 0) (next : JsValue → Part B)
      → P wrong → Reads x p (ev e p) → (x < 2 ^ 32 → P (next (number_value signed x) p)) → P (after (ev (converted signed e) p) next)
  converted_then true e x p P next w h f =
      read_then (λ r. P (after r next)) x p (ev e p) (λ v. and_then (ev (lit (pos 0))) (λ w. defined (js_binary_of Or v w))) w h
      (λ v a. subst (λ y. P (next y p)) (sym (ap signed_value (or_zero_r (to_uint32_of v) ∙ a))) (f (subst (λ n. n < 2 ^ 32) a (to_uint32_lt v))))
  converted_then false e x p P next w h f =
      read_then (λ r. P (after r next)) x p (ev e p) (λ v. and_then (ev (lit (pos 0))) (λ w. defined (js_binary_of Shr v w))) w h
      (λ v a. subst (λ y. P (next y p)) (sym (ap unsigned_value (whole_quotient (to_uint32_of v) ∙ a))) (f (subst (λ n. n < 2 ^ 32) a (to_uint32_lt v))))

  -- a bare number is the word's

  bare_signed : {B : Type 0} (k : ValueType) (e : Expr) (x : ℕ) (p : Place) (P : Run B → Type 0) (next : JsValue → Part B) → is_below k Signed ≡ true
      → P wrong → Reads x p (ev e p) → Fits k (ev e p) → (x < 2 ^ 32 → P (next (signed_value x) p)) → P (after (ev e p) next)
  bare_signed k e x p P next b w h g f =
      typed_then k x p P (ev e p) next w h g (λ v a t. subst (λ y. P (next y p)) (sym (signed_is v x (wider k Signed v b t) a)) (f (subst (λ n. n < 2 ^ 32) a (to_uint32_lt v))))

  bare_unsigned : {B : Type 0} (k : ValueType) (e : Expr) (x : ℕ) (p : Place) (P : Run B → Type 0) (next : JsValue → Part B) → is_below k Unsigned ≡ true
      → P wrong → Reads x p (ev e p) → Fits k (ev e p) → (x < 2 ^ 32 → P (next (unsigned_value x) p)) → P (after (ev e p) next)
  bare_unsigned k e x p P next b w h g f =
      typed_then k x p P (ev e p) next w h g (λ v a t. subst (λ y. P (next y p)) (sym (unsigned_is v x (wider k Unsigned v b t) a)) (f (subst (λ n. n < 2 ^ 32) a (to_uint32_lt v))))

  -- a term's number as a value, bare or converted, with what comes after it
  module _ {B : Type 0} (x : ℕ) (p : Place) (P : Run B → Type 0) (next : JsValue → Part B) (w : P wrong) where
    signed_literal : (z : ℤ) (b : Bool) → (b ≡ true → fits_of Signed (Whole z) ≡ true) → Reads x p (ev (lit z) p) → (x < 2 ^ 32 → P (next (signed_value x) p))
        → P (after (ev (if b then lit z else signed_number (lit z)) p) next)
    signed_literal z true g h f = bare_signed Signed (lit z) x p P next refl w h (g refl) f
    signed_literal z false g h f = converted_then true (lit z) x p P next w h f

    unsigned_literal : (z : ℤ) (b : Bool) → (b ≡ true → fits_of Unsigned (Whole z) ≡ true) → Reads x p (ev (lit z) p) → (x < 2 ^ 32 → P (next (unsigned_value x) p))
        → P (after (ev (if b then lit z else plain_number (lit z)) p) next)
    unsigned_literal z true g h f = bare_unsigned Unsigned (lit z) x p P next refl w h (g refl) f
    unsigned_literal z false g h f = converted_then false (lit z) x p P next w h f

    signed_then : (t : Term) → IsNamed c t → Reads x p (ev (expr t) p) → (x < 2 ^ 32 → P (next (signed_value x) p)) → P (after (ev (as_signed t (expr t)) p) next)
    signed_then (read n) is h f = converted_then true (expr (read n)) x p P next w h f
    signed_then (number z) is h f = signed_literal z (typed_below Signed (literal_type z)) (literal_fits Signed z) h f
    signed_then (both conjunction l r) is h f = bare_signed Signed (expr (both conjunction l r)) x p P next refl w h (bits_typed calls c conjunction (expr l) (expr r) p) f
    signed_then (both disjunction l r) is h f = bare_signed Signed (expr (both disjunction l r)) x p P next refl w h (bits_typed calls c disjunction (expr l) (expr r) p) f
    signed_then (both exclusion l r) is h f = bare_signed Signed (expr (both exclusion l r)) x p P next refl w h (bits_typed calls c exclusion (expr l) (expr r) p) f
    signed_then (both shift_left l r) is h f = bare_signed Signed (expr (both shift_left l r)) x p P next refl w h (bits_typed calls c shift_left (expr l) (expr r) p) f
    signed_then (both shift_right_signed l r) is h f = bare_signed Signed (expr (both shift_right_signed l r)) x p P next refl w h (bits_typed calls c shift_right_signed (expr l) (expr r) p) f
    signed_then (both shift_right l r) is h f = converted_then true (expr (both shift_right l r)) x p P next w h f
    signed_then (flip t) is h f = bare_signed Signed (expr (flip t)) x p P next refl w h (flip_typed calls c (expr t) p) f
    signed_then (sum t ts) is h f = converted_then true (expr (sum t ts)) x p P next w h f
    signed_then (product l r) is h f = bare_signed Signed (expr (product l r)) x p P next refl w h (product_typed calls c (exprs (int_of l) (exprs (int_of r) no_exprs)) p is) f
    signed_then (zeros t) is h f = bare_signed Fixnum (expr (zeros t)) x p P next refl w h (zeros_typed calls c (exprs (int_of t) no_exprs) p is) f
    signed_then (compare signed r l m) is h f = converted_then true (expr (compare signed r l m)) x p P next w h f
    signed_then (choose t l m) is h f = converted_then true (expr (choose t l m)) x p P next w h f
    signed_then (byte signed at) is h f = converted_then true (expr (byte signed at)) x p P next w h f
    signed_then (whole at) is h f = converted_then true (expr (whole at)) x p P next w h f

    unsigned_then : (t : Term) → IsNamed c t → Reads x p (ev (expr t) p) → (x < 2 ^ 32 → P (next (unsigned_value x) p)) → P (after (ev (as_unsigned t (expr t)) p) next)
    unsigned_then (read n) is h f = converted_then false (expr (read n)) x p P next w h f
    unsigned_then (number z) is h f = unsigned_literal z (typed_below Unsigned (literal_type z)) (literal_fits Unsigned z) h f
    unsigned_then (both conjunction l r) is h f = converted_then false (expr (both conjunction l r)) x p P next w h f
    unsigned_then (both disjunction l r) is h f = converted_then false (expr (both disjunction l r)) x p P next w h f
    unsigned_then (both exclusion l r) is h f = converted_then false (expr (both exclusion l r)) x p P next w h f
    unsigned_then (both shift_left l r) is h f = converted_then false (expr (both shift_left l r)) x p P next w h f
    unsigned_then (both shift_right_signed l r) is h f = converted_then false (expr (both shift_right_signed l r)) x p P next w h f
    unsigned_then (both shift_right l r) is h f = bare_unsigned Unsigned (expr (both shift_right l r)) x p P next refl w h (bits_typed calls c shift_right (expr l) (expr r) p) f
    unsigned_then (flip t) is h f = converted_then false (expr (flip t)) x p P next w h f
    unsigned_then (sum t ts) is h f = converted_then false (expr (sum t ts)) x p P next w h f
    unsigned_then (product l r) is h f = converted_then false (expr (product l r)) x p P next w h f
    unsigned_then (zeros t) is h f = bare_unsigned Fixnum (expr (zeros t)) x p P next refl w h (zeros_typed calls c (exprs (int_of t) no_exprs) p is) f
    unsigned_then (compare signed r l m) is h f = converted_then false (expr (compare signed r l m)) x p P next w h f
    unsigned_then (choose t l m) is h f = converted_then false (expr (choose t l m)) x p P next w h f
    unsigned_then (byte signed at) is h f = converted_then false (expr (byte signed at)) x p P next w h f
    unsigned_then (whole at) is h f = converted_then false (expr (whole at)) x p P next w h f

    -- a condition holds where the word isn't 0

    abbrev Tests : Type 0
    Tests = (v : JsValue) → truthy_of v ≡ not (x == 0) → P (next v p)

    converted_test : (e : Expr) → Reads x p (ev e p) → Tests → P (after (ev (signed_number e) p) next)
    converted_test e h f = converted_then true e x p P next w h (λ low. f (signed_value x) (is_true x low))

    bare_test : (k : ValueType) (e : Expr) → is_below k Int ≡ true → Reads x p (ev e p) → Fits k (ev e p) → Tests → P (after (ev e p) next)
    bare_test k e b h g f = typed_then k x p P (ev e p) next w h g (λ v a t. f v (truth_is v x (wider k Int v b t) a))

    pub test_then : (t : Term) → IsNamed c t → Reads x p (ev (expr t) p) → Tests → P (after (ev (test_of t) p) next)
    test_then (read n) is h f = converted_test (expr (read n)) h f
    test_then (number z) is h f = converted_test (expr (number z)) h f
    test_then (both op l r) is h f = bare_test (gives_of (bit_operator op)) (expr (both op l r)) (bits_below op) h (bits_typed calls c op (expr l) (expr r) p) f
    test_then (flip t) is h f = bare_test Signed (expr (flip t)) refl h (flip_typed calls c (expr t) p) f
    test_then (sum t ts) is h f = converted_test (expr (sum t ts)) h f
    test_then (product l r) is h f = bare_test Signed (expr (product l r)) refl h (product_typed calls c (exprs (int_of l) (exprs (int_of r) no_exprs)) p is) f
    test_then (zeros t) is h f = bare_test Fixnum (expr (zeros t)) refl h (zeros_typed calls c (exprs (int_of t) no_exprs) p is) f
    test_then (compare signed r l m) is h f = bare_test Int (expr (compare signed r l m)) refl h (relation_typed calls c r (as_number signed l (expr l)) (as_number signed m (expr m)) p) f
    test_then (choose t l m) is h f = converted_test (expr (choose t l m)) h f
    test_then (byte signed at) is h f = converted_test (expr (byte signed at)) h f
    test_then (whole at) is h f = converted_test (expr (whole at)) h f

  pub number_then : {B : Type 0} (signed : Bool) (t : Term) (x : ℕ) (p : Place) (P : Run B → Type 0) (next : JsValue → Part B)
      → P wrong → IsNamed c t → Reads x p (ev (expr t) p) → (x < 2 ^ 32 → P (next (number_value signed x) p)) → P (after (ev (as_number signed t (expr t)) p) next)
  number_then true t x p P next w is h f = signed_then x p P next w t is h f
  number_then false t x p P next w is h f = unsigned_then x p P next w t is h f

  -- an index of a view
  pub index_then : {B : Type 0} (k : ℕ) (e : Expr) (x : ℕ) (p : Place) (P : Run B → Type 0) (next : JsValue → Part B)
      → to_uint32_of (Whole (pos k)) % 32 ≡ k → P wrong → Reads x p (ev e p) → P (next (Whole (index_at k x)) p) → P (after (ev (indexed k e) p) next)
  index_then k e x p P next is w h f =
      read_then (λ r. P (after r next)) x p (ev e p) (λ v. and_then (ev (lit (pos k))) (λ w. defined (js_binary_of Sar v w))) w h
      (λ v a. subst (λ y. P (next y p)) (sym (ap (λ j. Whole (int_shr (signed_of 32 (to_uint32_of v)) j)) is ∙ ap (λ n. Whole (int_shr (signed_of 32 n) k)) a)) f)

  pub compared : (signed : Bool) (r : Relation) (a b : Term) (x y : ℕ) (p : Place) → IsNamed c a → IsNamed c b → Reads x p (ev (expr a) p) → Reads y p (ev (expr b) p)
      → Reads (truth (rel_of 32 (relation_of signed r) x y)) p (ev (expr (compare signed r a b)) p)
  compared signed r a b x y p i j h k =
      let z : ℕ = truth (rel_of 32 (relation_of signed r) x y) in
      number_then signed a x p (Reads z p) (λ v. and_then (ev (as_number signed b (expr b))) (λ w. defined (js_binary_of (relation_operator r) v w))) tt i h
      (λ f. number_then signed b y p (Reads z p) (λ w. defined (js_binary_of (relation_operator r) (number_value signed x) w)) tt j k
      (λ g. compared_read signed r x y p f g))

  pub chosen : (t : Term) (a b : Expr) (x y z : ℕ) (p : Place) → IsNamed c t → Reads x p (ev (expr t) p) → Reads y p (ev a p) → Reads z p (ev b p) → Reads (if x == 0 then z else y) p (ev (cond (test_of t) a b) p)
  chosen t a b x y z p is h k l =
      test_then x p (Reads (if x == 0 then z else y) p) (λ v. if truthy_of v then ev a else ev b) tt t is h
      (λ v e. subst (λ c. Reads (if x == 0 then z else y) p ((if c then ev a else ev b) p)) (sym e) (pick (x == 0)))
    where
      pick : (c : Bool) → Reads (if c then z else y) p ((if not c then ev a else ev b) p)
      pick true = l
      pick false = k

  element_read : (n : List ℕ) (v : Element) (k : ℕ) (e : Expr) (x : ℕ) (p : Place) → to_uint32_of (Whole (pos k)) % 32 ≡ k → named c n ≡ a_view v → Reads x p (ev e p)
      → Reads (element_word (load (kind_of v) (index_at k x) p.heap)) p (ev (index n (indexed k e)) p)
  element_read n v k e x p is view h =
      index_then k e x p (Reads (element_word (load (kind_of v) (index_at k x) p.heap)) p) (λ i. read_element (named c n) i) is tt h
      (subst (λ m. Reads (element_word (load (kind_of v) (index_at k x) p.heap)) p (read_element m (Whole (index_at k x)) p)) (sym view) (refl, element_is _))

  pub byte_read : (signed : Bool) (e : Expr) (x : ℕ) (p : Place) → named c (name_of (byte_view signed)) ≡ a_view (byte_element signed) → Reads x p (ev e p)
      → Reads (element_word (load (byte_kind signed) (index_at 0 x) p.heap)) p (ev (index (name_of (byte_view signed)) (indexed 0 e)) p)
  byte_read true e x p view h = element_read (name_of (byte_view true)) Int8 0 e x p refl view h
  byte_read false e x p view h = element_read (name_of (byte_view false)) Uint8 0 e x p refl view h

  flip_read : (e : Expr) (x : ℕ) (p : Place) → Reads x p (ev e p) → Reads (2 ^ 32 - 1 - x) p (ev (unary BitNot e) p)
  flip_read e x p h =
      read_then (Reads (2 ^ 32 - 1 - x) p) x p (ev e p) (λ v. defined (js_unary_of BitNot v)) tt h
      (λ v a. (refl, flipped (to_uint32_of v) (to_uint32_lt v) ∙ ap (λ n. 2 ^ 32 - 1 - n) a))

  times_read : (a b : Expr) (x y : ℕ) (p : Place) → named c (name_of imul) ≡ a_builtin Imul → Reads x p (ev a p) → Reads y p (ev b p)
      → Reads (mul_of 32 x y) p (ev (called imul (exprs a (exprs b no_exprs))) p)
  times_read a b x y p is h k =
      all_then (Reads (mul_of 32 x y) p) (x ∷ y ∷ []) p (eval_all false calls c (exprs a (exprs b no_exprs)) p) (λ vs. call_named calls (named c (name_of imul)) vs) tt
      (one_more x (y ∷ []) p (ev a p) (eval_all false calls c (exprs b no_exprs)) h (one_more y [] p (ev b p) (eval_all false calls c no_exprs) k (refl, refl)))
      (λ vs e. subst (λ m. Reads (mul_of 32 x y) p (call_named calls m vs p)) (sym is) (product_called x y calls vs p e))

  leading_read : (a : Expr) (x : ℕ) (p : Place) → named c (name_of clz32) ≡ a_builtin Clz32 → Reads x p (ev a p) → Reads (leading_zeros_of 32 x) p (ev (called clz32 (exprs a no_exprs)) p)
  leading_read a x p is h =
      all_then (Reads (leading_zeros_of 32 x) p) (x ∷ []) p (eval_all false calls c (exprs a no_exprs) p) (λ vs. call_named calls (named c (name_of clz32)) vs) tt
      (one_more x [] p (ev a p) (eval_all false calls c no_exprs) h (refl, refl))
      (λ vs e. subst (λ m. Reads (leading_zeros_of 32 x) p (call_named calls m vs p)) (sym is) (zeros_called x calls vs p e))

  pub as_int_read : (t : Term) (e : Expr) (x : ℕ) (p : Place) → Reads x p (ev e p) → Reads x p (ev (as_int t e) p)
  as_int_read (read n) e x p h = h
  as_int_read (number z) e x p h = h
  as_int_read (both op a b) e x p h = h
  as_int_read (flip a) e x p h = h
  as_int_read (sum a ts) e x p h = signed_read e x p h
  as_int_read (product a b) e x p h = h
  as_int_read (zeros a) e x p h = h
  as_int_read (compare signed r a b) e x p h = h
  as_int_read (choose t a b) e x p h = h
  as_int_read (byte signed at) e x p h = signed_read e x p h
  as_int_read (whole at) e x p h = signed_read e x p h

  -- ---- terms

  mutual
    pub expr_read : (t : Term) (p : Place) → IsSound c t → AreApart p → Reads (value t (word_at p) p.heap) p (ev (expr t) p)
    expr_read (read n) p s a = variable_read n p a
    expr_read (number z) p s a = (refl, refl)
    expr_read (both op l r) p s a =
        two (bits_of op) (bit_operator op) (bits_read op) (expr l) (expr r) _ _ p (expr_read l p s.0 a) (expr_read r p s.1 a)
    expr_read (flip t) p s a = flip_read (expr t) _ p (expr_read t p s a)
    expr_read (sum t ts) p s a =
        read_then (Reads (value (sum t ts) (word_at p) p.heap) p) (value t (word_at p) p.heap) p (ev (int_of t) p) (λ v. eval_links false calls c (summands ts) v) tt
        (as_int_read t (expr t) _ p (expr_read t p s.0 a)) (λ v e. summands_read ts (value t (word_at p) p.heap) v p s.1 a e)
    expr_read (product l r) p s a =
        times_read (int_of l) (int_of r) _ _ p s.0 (as_int_read l (expr l) _ p (expr_read l p s.1 a)) (as_int_read r (expr r) _ p (expr_read r p s.2 a))
    expr_read (zeros t) p s a = leading_read (int_of t) _ p s.0 (as_int_read t (expr t) _ p (expr_read t p s.1 a))
    expr_read (compare signed r x y) p s a = compared signed r x y _ _ p (sound_named c x s.0) (sound_named c y s.1) (expr_read x p s.0 a) (expr_read y p s.1 a)
    expr_read (choose t x y) p s a =
        chosen t (int_of x) (int_of y) _ _ _ p (sound_named c t s.0) (expr_read t p s.0 a) (as_int_read x (expr x) _ p (expr_read x p s.1 a)) (as_int_read y (expr y) _ p (expr_read y p s.2 a))
    expr_read (byte signed t) p s a = byte_read signed (expr t) _ p s.0 (expr_read t p s.1 a)
    expr_read (whole t) p s a = element_read (name_of view_of_words) Int32 2 (expr t) _ p refl s.0 (expr_read t p s.1 a)

    summands_read : (ts : Summands) (x : ℕ) (v : JsValue) (p : Place) → AreSound c ts → AreApart p → to_uint32_of v ≡ x
        → Reads (summed ts x (word_at p) p.heap) p (eval_links false calls c (summands ts) v p)
    summands_read no_more x v p s a e = (refl, e)
    summands_read (further minus t ts) x v p s a e =
        read_then (Reads (summed (further minus t ts) x (word_at p) p.heap) p) (value t (word_at p) p.heap) p (ev (int_of t) p)
        (λ w. and_then (defined (js_binary_of (link_operator minus) v w)) (λ y. eval_links false calls c (summands ts) y)) tt
        (as_int_read t (expr t) _ p (expr_read t p s.0 a))
        (λ w f. read_then (Reads (summed (further minus t ts) x (word_at p) p.heap) p) (added minus x (value t (word_at p) p.heap)) p
        (defined (js_binary_of (link_operator minus) v w) p) (λ y. eval_links false calls c (summands ts) y) tt
        (subst (λ n. Reads n p (defined (js_binary_of (link_operator minus) v w) p)) (ap (λ n. added minus n (to_uint32_of w)) e ∙ ap (added minus x) f) (links_read minus v w p))
        (λ y g. summands_read ts (added minus x (value t (word_at p) p.heap)) y p s.1 a g))

  pub int_read : (t : Term) (p : Place) → IsSound c t → AreApart p → Reads (value t (word_at p) p.heap) p (ev (int_of t) p)
  int_read t p s a = as_int_read t (expr t) _ p (expr_read t p s a)

  pub arguments_read : (ts : List Term) (p : Place) → AllSound c ts → AreApart p → ReadsAll (values ts (word_at p) p.heap) p (eval_all false calls c (arguments ts) p)
  arguments_read [] p s a = (refl, refl)
  arguments_read (t ∷ ts) p s a = one_more _ _ p (ev (int_of t) p) (eval_all false calls c (arguments ts)) (int_read t p s.0 a) (arguments_read ts p s.1 a)
