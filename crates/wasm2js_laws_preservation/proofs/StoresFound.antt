-- Terms over variables that are found, of every form but a choice and a count of zeros.
use Rattle.std.proofs.Common.{◌≡◌, ℕ, ◌^◌, ◌<◌, Bool, true, false, not, List, [], ◌∷◌, ℤ, pos, refl, sym, ap, ◌∙◌, subst, arith}
use Rattle.std.specs.Prelude.{map, ◌%◌, Option, Some, None, nat_lt, nat_le, ◌==◌, if◌then◌else◌, option_map, ◌-ℤ◌, int_lt, int_le}
use Rattle.std.proofs.lemmas.Bool.Decides.{nat_tests}
use Rattle.std.proofs.lemmas.Int.{ints}
use Rattle.sem_words.specs.declared.js_value.JsValue.{JsValue}
use Rattle.sem_words.specs.declared.js_value.JsValue.TheVariants.{Whole, Bool as Boolean}
use Rattle.sem_words.specs.JsValues.{to_uint32_of}
use Rattle.sem_words.specs.JsOperators.{js_binary_of, is_zero, are_alike}
use Rattle.sem_words.specs.Words.{signed_of, mul_of, rel_of}
use Rattle.heap_lang.specs.Heap.{load}
use Rattle.asm_lang.specs.Modules.{Expr, index, no_exprs, exprs}
use Rattle.asm_lang_valid.specs.declared.meaning.Builtin.TheVariants.{Imul}
use Rattle.asm_lang_valid.specs.declared.meaning.Element.TheVariants.{Int32}
use Rattle.asm_lang_valid.specs.declared.meaning.Element.{Element}
use Rattle.asm_lang_valid.specs.Scope.{a_builtin, a_view}
use Rattle.asm_lang_valid.specs.Typing.{Scope, named}
use Rattle.asm_lang_exec.specs.Runs as runs
use Rattle.asm_lang_exec.specs.Runs.{Place, Run, wrong, Part, after, and_then, defined}
use Rattle.asm_lang_exec.specs.Values.{Calls, call_named, read_element, element_value, kind_of}
use Rattle.asm_lang_exec.specs.Meaning.{eval, eval_all, eval_links, link_operator}
use Rattle.wasm2js_translation.specs.Names.{view_of_words, imul, spelled}
use Rattle.wasm2js_translation.specs.Words.{called, Relation, equal, unequal, less, at_most, greater, at_least, Term, read, number, both, flip, sum, product, zeros, compare, choose, byte, whole, Summands, no_more, further, as_int, as_number, bit_operator, relation_operator, name_of, expr, summands, int_of, byte_view, indexed}
use Rattle.wasm2js_laws_terms.specs.Sound.{byte_element}
use Rattle.wasm2js_laws_places.specs.Straight.{Words, value, summed, bits_of, relation_of, added, index_at, element_word}
use Rattle.wasm2js_laws_actions.specs.Reads.{Reads, Finds}
use Rattle.wasm2js_laws_actions.proofs.Numbers.{bits_read, links_read, product_read, number_value}
use Rattle.wasm2js_laws_actions.proofs.Reading.{read_then, all_then, found_then, one_more}
use Rattle.wasm2js_laws_actions.proofs.Typed.{IsNamed}
use Rattle.wasm2js_laws_actions.proofs.Evaluated.{two, signed_read, byte_read, number_then, compared, index_then}

-- ---- the value of a comparison

tested : (test : ℤ → ℤ → Bool) (y z : ℤ) (p : Place) (b : Bool) → test y z ≡ b
    → Finds (Boolean b) p (defined (option_map (λ (p : ℤ × ℤ). Boolean (test p.0 p.1)) (if are_alike y z then Some (y, z) else None)) p)
tested test y z p b e = by (are_alike y z)
  where
    by : (alike : Bool) → Finds (Boolean b) p (defined (option_map (λ (p : ℤ × ℤ). Boolean (test p.0 p.1)) (if alike then Some (y, z) else None)) p)
    by true = (refl, ap Boolean e)
    by false = tt

equal_signed : (x y : ℕ) → x < 2 ^ 32 → y < 2 ^ 32 → is_zero (signed_of 32 x -ℤ signed_of 32 y) ≡ (x == y)
equal_signed x y f g = grind (arith, ints, nat_tests)

equal_plain : (x y : ℕ) → is_zero (pos x -ℤ pos y) ≡ (x == y)
equal_plain x y = grind (arith, ints, nat_tests)

less_plain : (x y : ℕ) → int_lt (pos x) (pos y) ≡ nat_lt x y
less_plain x y = grind (arith, ints, nat_tests)

most_plain : (x y : ℕ) → int_le (pos x) (pos y) ≡ nat_le x y
most_plain x y = grind (arith, ints, nat_tests)

compared_found : (signed : Bool) (r : Relation) (x y : ℕ) (p : Place) → x < 2 ^ 32 → y < 2 ^ 32
    → Finds (Boolean (rel_of 32 (relation_of signed r) x y)) p (defined (js_binary_of (relation_operator r) (number_value signed x) (number_value signed y)) p)
compared_found true equal x y p f g = tested (λ a b. is_zero (a -ℤ b)) (signed_of 32 x) (signed_of 32 y) p (x == y) (equal_signed x y f g)
compared_found false equal x y p f g = tested (λ a b. is_zero (a -ℤ b)) (pos x) (pos y) p (x == y) (equal_plain x y)
compared_found true unequal x y p f g = tested (λ a b. not (is_zero (a -ℤ b))) (signed_of 32 x) (signed_of 32 y) p (not (x == y)) (ap not (equal_signed x y f g))
compared_found false unequal x y p f g = tested (λ a b. not (is_zero (a -ℤ b))) (pos x) (pos y) p (not (x == y)) (ap not (equal_plain x y))
compared_found true less x y p f g = tested int_lt (signed_of 32 x) (signed_of 32 y) p _ refl
compared_found false less x y p f g = tested int_lt (pos x) (pos y) p (nat_lt x y) (less_plain x y)
compared_found true at_most x y p f g = tested int_le (signed_of 32 x) (signed_of 32 y) p _ refl
compared_found false at_most x y p f g = tested int_le (pos x) (pos y) p (nat_le x y) (most_plain x y)
compared_found true greater x y p f g = tested (λ a b. int_lt b a) (signed_of 32 x) (signed_of 32 y) p _ refl
compared_found false greater x y p f g = tested (λ a b. int_lt b a) (pos x) (pos y) p (nat_lt y x) (less_plain y x)
compared_found true at_least x y p f g = tested (λ a b. int_le b a) (signed_of 32 x) (signed_of 32 y) p _ refl
compared_found false at_least x y p f g = tested (λ a b. int_le b a) (pos x) (pos y) p (nat_le y x) (most_plain y x)

-- ---- operators

product_called : (x y : ℕ) (calls : Calls) (vs : List JsValue) (p : Place) → map to_uint32_of vs ≡ x ∷ y ∷ [] → Reads (mul_of 32 x y) p (call_named calls (a_builtin Imul) vs p)
product_called x y calls [] p h = tt
product_called x y calls (v ∷ []) p h = tt
product_called x y calls (v ∷ w ∷ []) p h =
    let a : to_uint32_of v ≡ x = cc h in
    let b : to_uint32_of w ≡ y = cc h in
    subst (λ n. Reads n p (call_named calls (a_builtin Imul) (v ∷ w ∷ []) p)) (ap (λ n. mul_of 32 n (to_uint32_of w)) a ∙ ap (mul_of 32 x) b) (product_read v w p)
product_called x y calls (v ∷ w ∷ u ∷ us) p h = tt

element_is : (o : Option ℤ) → to_uint32_of (element_value o) ≡ element_word o
element_is None = refl
element_is (Some z) = refl

module _ (calls : Calls) (c : Scope) where
  abbrev ev : Expr → Part JsValue
  ev e = eval false calls c e

  -- a comparison's value, and with what comes after it
  pub compared_finds : (signed : Bool) (r : Relation) (a b : Term) (x y : ℕ) (p : Place) → IsNamed c a → IsNamed c b → Reads x p (ev (expr a) p) → Reads y p (ev (expr b) p)
      → Finds (Boolean (rel_of 32 (relation_of signed r) x y)) p (ev (expr (compare signed r a b)) p)
  compared_finds signed r a b x y p i j h k =
      let z : JsValue = Boolean (rel_of 32 (relation_of signed r) x y) in
      number_then calls c signed a x p (Finds z p) (λ v. and_then (ev (as_number signed b (expr b))) (λ w. defined (js_binary_of (relation_operator r) v w))) tt i h
      (λ small. number_then calls c signed b y p (Finds z p) (λ w. defined (js_binary_of (relation_operator r) (number_value signed x) w)) tt j k
      (λ few. compared_found signed r x y p small few))

  pub compare_then : {B : Type 0} (signed : Bool) (r : Relation) (a b : Term) (x y : ℕ) (p : Place) (P : Run B → Type 0) (next : JsValue → Part B) → P wrong
      → IsNamed c a → IsNamed c b → Reads x p (ev (expr a) p) → Reads y p (ev (expr b) p) → P (next (Boolean (rel_of 32 (relation_of signed r) x y)) p)
      → P (after (ev (expr (compare signed r a b)) p) next)
  compare_then signed r a b x y p P next w i j h k f =
      found_then P (Boolean (rel_of 32 (relation_of signed r) x y)) p (ev (expr (compare signed r a b)) p) next w (compared_finds signed r a b x y p i j h k) f

  element_read : (n : List ℕ) (v : Element) (k : ℕ) (e : Expr) (x : ℕ) (p : Place) → to_uint32_of (Whole (pos k)) % 32 ≡ k → named c n ≡ a_view v → Reads x p (ev e p)
      → Reads (element_word (load (kind_of v) (index_at k x) p.heap)) p (ev (index n (indexed k e)) p)
  element_read n v k e x p is view h =
      index_then calls c k e x p (Reads (element_word (load (kind_of v) (index_at k x) p.heap)) p) (λ i. read_element (named c n) i) is tt h
      (subst (λ m. Reads (element_word (load (kind_of v) (index_at k x) p.heap)) p (read_element m (Whole (index_at k x)) p)) (sym view) (refl, element_is _))

  times_read : (a b : Expr) (x y : ℕ) (p : Place) → named c (name_of imul) ≡ a_builtin Imul → Reads x p (ev a p) → Reads y p (ev b p)
      → Reads (mul_of 32 x y) p (ev (called imul (exprs a (exprs b no_exprs))) p)
  times_read a b x y p is h k =
      all_then (Reads (mul_of 32 x y) p) (x ∷ y ∷ []) p (eval_all false calls c (exprs a (exprs b no_exprs)) p) (λ vs. call_named calls (named c (name_of imul)) vs) tt
      (one_more x (y ∷ []) p (ev a p) (eval_all false calls c (exprs b no_exprs)) h (one_more y [] p (ev b p) (eval_all false calls c no_exprs) k (refl, refl)))
      (λ vs e. subst (λ m. Reads (mul_of 32 x y) p (call_named calls m vs p)) (sym is) (product_called x y calls vs p e))

  as_int_read : (t : Term) (e : Expr) (x : ℕ) (p : Place) → Reads x p (ev e p) → Reads x p (ev (as_int t e) p)
  as_int_read (read n) e x p h = h
  as_int_read (number z) e x p h = h
  as_int_read (both op a b) e x p h = h
  as_int_read (flip a) e x p h = h
  as_int_read (sum a ts) e x p h = signed_read calls c e x p h
  as_int_read (product a b) e x p h = h
  as_int_read (zeros a) e x p h = h
  as_int_read (compare signed r a b) e x p h = h
  as_int_read (choose t a b) e x p h = h
  as_int_read (byte signed at) e x p h = signed_read calls c e x p h
  as_int_read (whole at) e x p h = signed_read calls c e x p h

  -- ---- terms

  module _ (words : Words) (p : Place) where
    -- each variable of a term is found with its word
    abbrev mutual
      pub Found : Term → Type 0
      Found (read n) = Reads (words n) p (runs.read (spelled n) p)
      Found (number z) = Unit {0}
      Found (both op l r) = Found l × Found r
      Found (flip t) = ⊥
      Found (sum t ts) = Found t × AllFound ts
      Found (product l r) = (named c (name_of imul) ≡ a_builtin Imul) × Found l × Found r
      Found (zeros t) = ⊥
      Found (compare signed r x y) = Found x × Found y
      Found (choose t x y) = ⊥
      Found (byte signed at) = (named c (name_of (byte_view signed)) ≡ a_view (byte_element signed)) × Found at
      Found (whole at) = (named c (name_of view_of_words) ≡ a_view Int32) × Found at

      pub AllFound : Summands → Type 0
      AllFound no_more = Unit {0}
      AllFound (further minus t ts) = Found t × AllFound ts

    pub found_named : (t : Term) → Found t → IsNamed c t
    found_named (read n) k = tt
    found_named (number z) k = tt
    found_named (both op l r) k = tt
    found_named (flip t) k = absurd k
    found_named (sum t ts) k = tt
    found_named (product l r) k = k.0
    found_named (zeros t) k = absurd k
    found_named (compare signed r x y) k = tt
    found_named (choose t x y) k = absurd k
    found_named (byte signed at) k = tt
    found_named (whole at) k = tt

    mutual
      pub expr_read : (t : Term) → Found t → Reads (value t words p.heap) p (ev (expr t) p)
      expr_read (read n) k = k
      expr_read (number z) k = (refl, refl)
      expr_read (both op l r) k =
          two calls c (bits_of op) (bit_operator op) (bits_read op) (expr l) (expr r) _ _ p (expr_read l k.0) (expr_read r k.1)
      expr_read (flip t) k = absurd k
      expr_read (sum t ts) k =
          read_then (Reads (value (sum t ts) words p.heap) p) (value t words p.heap) p (ev (int_of t) p) (λ v. eval_links false calls c (summands ts) v) tt
          (as_int_read t (expr t) _ p (expr_read t k.0)) (λ v e. summands_read ts (value t words p.heap) v k.1 e)
      expr_read (product l r) k = times_read (int_of l) (int_of r) _ _ p k.0 (as_int_read l (expr l) _ p (expr_read l k.1)) (as_int_read r (expr r) _ p (expr_read r k.2))
      expr_read (zeros t) k = absurd k
      expr_read (compare signed r x y) k = compared calls c signed r x y _ _ p (found_named x k.0) (found_named y k.1) (expr_read x k.0) (expr_read y k.1)
      expr_read (choose t x y) k = absurd k
      expr_read (byte signed t) k = byte_read calls c signed (expr t) _ p k.0 (expr_read t k.1)
      expr_read (whole t) k = element_read (name_of view_of_words) Int32 2 (expr t) _ p refl k.0 (expr_read t k.1)

      summands_read : (ts : Summands) (x : ℕ) (v : JsValue) → AllFound ts → to_uint32_of v ≡ x → Reads (summed ts x words p.heap) p (eval_links false calls c (summands ts) v p)
      summands_read no_more x v k e = (refl, e)
      summands_read (further minus t ts) x v k e =
          read_then (Reads (summed (further minus t ts) x words p.heap) p) (value t words p.heap) p (ev (int_of t) p)
          (λ w. and_then (defined (js_binary_of (link_operator minus) v w)) (λ y. eval_links false calls c (summands ts) y)) tt
          (as_int_read t (expr t) _ p (expr_read t k.0))
          (λ w f. read_then (Reads (summed (further minus t ts) x words p.heap) p) (added minus x (value t words p.heap)) p
          (defined (js_binary_of (link_operator minus) v w) p) (λ y. eval_links false calls c (summands ts) y) tt
          (subst (λ n. Reads n p (defined (js_binary_of (link_operator minus) v w) p)) (ap (λ n. added minus n (to_uint32_of w)) e ∙ ap (added minus x) f) (links_read minus v w p))
          (λ y g. summands_read ts (added minus x (value t words p.heap)) y k.1 g))

    pub int_read : (t : Term) → Found t → Reads (value t words p.heap) p (ev (int_of t) p)
    int_read t k = as_int_read t (expr t) _ p (expr_read t k)
