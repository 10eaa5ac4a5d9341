-- Terms: each has a word of 32 bits, and a variable has it once it is put there. An expression of a term calls no function of the module, so
-- what calls do is of no matter.
use Rattle.std.proofs.Common.{◌≡◌, ℕ, ◌^◌, ◌<◌, Bool, true, false, not, List, [], ◌∷◌, Option, Some, None, refl, sym, ap, ◌∙◌, subst, arith}
use Rattle.std.specs.Prelude.{◌-◌, ℤ, ◌==◌, if◌then◌else◌}
use Rattle.sem_words.specs.declared.word.Bin.TheVariants as bins
use Rattle.sem_words.specs.declared.js_value.JsValue.{JsValue}
use Rattle.sem_words.specs.declared.js_value.JsOp.{JsOp}
use Rattle.sem_words.specs.declared.js_value.JsOp.TheVariants.{Or, Shr, Sar}
use Rattle.sem_words.specs.declared.js_value.JsUnary.TheVariants.{BitNot}
use Rattle.sem_words.specs.JsValues.{to_uint32_of, truthy_of}
use Rattle.sem_words.specs.JsOperators.{js_binary_of, js_unary_of}
use Rattle.sem_words.specs.Words.{rel_of, leading_zeros_of}
use Rattle.sem_words.proofs.WordLaws.{bin_of-IsWord, word_of-IsWord}
use Rattle.asm_types.specs.declared.value_type.ValueType.TheVariants.{Signed, Unsigned}
use Rattle.asm_lang.specs.Modules.{Expr, binary}
use Rattle.asm_lang_valid.specs.declared.meaning.Builtin.{Builtin}
use Rattle.asm_lang_valid.specs.declared.meaning.Builtin.TheVariants.{Imul, Clz32}
use Rattle.asm_lang_valid.specs.Scope.{Meaning, a_builtin}
use Rattle.asm_lang_valid.specs.Typing.{Scope, named, literal_type, typed_below}
use Rattle.asm_lang_exec.specs.Runs.{Place, Part, after, and_then, goes_wrong, defined, write}
use Rattle.asm_lang_exec.specs.Values.{Calls, read_element}
use Rattle.asm_lang_exec.specs.Meaning.{link_operator, eval, Completion, normal}
use Rattle.asm_laws_continuation.specs.Following.{Before, CallsBefore, call_named_to, eval_to, eval_links_to, exec_to}
use Rattle.asm_laws_continuation.proofs.Following.{expressions_follow}
use Rattle.wasm2js_translation.specs.Names.{Name, imul, clz32, view_of_words, spelled}
use Rattle.wasm2js_translation.specs.Words.{BitOp, conjunction, disjunction, exclusion, shift_left, shift_right_signed, shift_right, Term, read, number, both, flip, sum, product, zeros, compare, choose, byte, whole, Summands, no_more, further, put, bit_operator, relation_operator, byte_view, natural, signed_number, plain_number, as_signed, as_unsigned, as_number, as_int, as_test, name_of, expr, summands, int_of, test_of, simple_statement}
use Rattle.wasm2js_laws_terms.specs.Sound.{IsSound, AreSound}
use Rattle.wasm2js_laws_places.specs.Following.{Rest}
use Rattle.wasm2js_laws_places.specs.Straight.{Words, with_word, bits_of, relation_of, truth, element_word, added, value, summed}
use Rattle.wasm2js_laws_places.specs.Places.{word_at, AreApart, IsHeap}
use Rattle.wasm2js_laws_places.specs.Helped.{IsOn}
use Rattle.wasm2js_laws_actions.proofs.Evaluated.{signed_read, test_then, expr_read, int_read}
use Rattle.wasm2js_laws_actions.proofs.Numbers.{few_zeros}
use Rattle.wasm2js_laws_actions.proofs.Reading.{read_then}
use Rattle.wasm2js_laws_actions.proofs.Typed.{sound_named}
use Rattle.wasm2js_laws_preservation.specs.ControlControl.{Function, IsFollowed}
use Rattle.wasm2js_laws_preservation.specs.InstructionsPlain.{AreWords}
use Rattle.wasm2js_laws_preservation.proofs.BranchesMoved.{write_then}

-- ---- words of 32 bits

bits_are_word : (op : BitOp) (a b : ℕ) → a < 2 ^ 32 → b < 2 ^ 32 → bits_of op a b < 2 ^ 32
bits_are_word conjunction a b h k = bin_of-IsWord 32 bins.And a b (omega arith) h k
bits_are_word disjunction a b h k = bin_of-IsWord 32 bins.Or a b (omega arith) h k
bits_are_word exclusion a b h k = bin_of-IsWord 32 bins.Xor a b (omega arith) h k
bits_are_word shift_left a b h k = bin_of-IsWord 32 bins.Shl a b (omega arith) h k
bits_are_word shift_right_signed a b h k = bin_of-IsWord 32 bins.ShrS a b (omega arith) h k
bits_are_word shift_right a b h k = bin_of-IsWord 32 bins.ShrU a b (omega arith) h k

added_is_word : (minus : Bool) (a b : ℕ) → a < 2 ^ 32 → b < 2 ^ 32 → added minus a b < 2 ^ 32
added_is_word true a b h k = bin_of-IsWord 32 bins.Sub a b (omega arith) h k
added_is_word false a b h k = bin_of-IsWord 32 bins.Add a b (omega arith) h k

truth_is_word : (b : Bool) → truth b < 2 ^ 32
truth_is_word true = omega arith
truth_is_word false = omega arith

element_is_word : (o : Option ℤ) → element_word o < 2 ^ 32
element_is_word None = omega arith
element_is_word (Some z) = word_of-IsWord 32 z

chosen_is_word : (b : Bool) (x y : ℕ) → x < 2 ^ 32 → y < 2 ^ 32 → (if b then x else y) < 2 ^ 32
chosen_is_word true x y h k = h
chosen_is_word false x y h k = k

flipped_is_word : (a : ℕ) → 2 ^ 32 - 1 - a < 2 ^ 32
flipped_is_word a = omega arith

zeros_are_word : (a : ℕ) → a < 2 ^ 32 → leading_zeros_of 32 a < 2 ^ 32
zeros_are_word a h = let few = few_zeros a h in omega (arith, few)

module _ (words : Words) (heap : List ℕ) (are : AreWords words) where
  mutual
    pub term_is_word : (t : Term) → value t words heap < 2 ^ 32
    term_is_word (read n) = are n
    term_is_word (number z) = word_of-IsWord 32 z
    term_is_word (both op a b) = bits_are_word op (value a words heap) (value b words heap) (term_is_word a) (term_is_word b)
    term_is_word (flip a) = flipped_is_word (value a words heap)
    term_is_word (sum a ts) = sum_is_word ts (value a words heap) (term_is_word a)
    term_is_word (product a b) = bin_of-IsWord 32 bins.Mul (value a words heap) (value b words heap) (omega arith) (term_is_word a) (term_is_word b)
    term_is_word (zeros a) = zeros_are_word (value a words heap) (term_is_word a)
    term_is_word (compare signed r a b) = truth_is_word (rel_of 32 (relation_of signed r) (value a words heap) (value b words heap))
    term_is_word (choose t a b) = chosen_is_word (value t words heap == 0) (value b words heap) (value a words heap) (term_is_word b) (term_is_word a)
    term_is_word (byte signed at) = element_is_word _
    term_is_word (whole at) = element_is_word _

    sum_is_word : (ts : Summands) (x : ℕ) → x < 2 ^ 32 → summed ts x words heap < 2 ^ 32
    sum_is_word no_more x h = h
    sum_is_word (further minus t ts) x h = sum_is_word ts (added minus x (value t words heap)) (added_is_word minus x (value t words heap) h (term_is_word t))

-- ---- parts of expressions, with what comes after them

abbrev ValueTo : Type 0
ValueTo = Before (Unit {0}) JsValue

abbrev one : ValueTo → (JsValue → Part JsValue) → ValueTo
one f op next = f (λ v. and_then (op v) next)

abbrev two : ValueTo → ValueTo → (JsValue → JsValue → Part JsValue) → ValueTo
two f g op next = f (λ v. g (λ w. and_then (op v w) next))

abbrev either_of : (f g h : ValueTo) → ValueTo
either_of f g h next = f (λ v. if truthy_of v then g next else h next)

abbrev linked : ValueTo → (JsValue → ValueTo) → ValueTo
linked f links next = f (λ v. links v next)

abbrev one_link : Bool → ValueTo → (JsValue → ValueTo) → JsValue → ValueTo
one_link minus f links v next = f (λ w. and_then (defined (js_binary_of (link_operator minus) v w)) (λ x. links x next))

abbrev called_with_one : ValueTo → (List JsValue → ValueTo) → ValueTo
called_with_one f k next = f (λ v. k (v ∷ []) next)

abbrev called_with_two : (f g : ValueTo) → (List JsValue → ValueTo) → ValueTo
called_with_two f g k next = f (λ v. g (λ w. k (v ∷ w ∷ []) next))

one_same : {f f' : ValueTo} (op : JsValue → Part JsValue) → f ≡ f' → one f op ≡ one f' op
one_same op h = rw h refl

two_same : {f f' g g' : ValueTo} (op : JsValue → JsValue → Part JsValue) → f ≡ f' → g ≡ g' → two f g op ≡ two f' g' op
two_same op h k = rw (h, k) refl

either_same : {f f' g g' e e' : ValueTo} → f ≡ f' → g ≡ g' → e ≡ e' → either_of f g e ≡ either_of f' g' e'
either_same h k l = rw (h, k, l) refl

linked_same : {f f' : ValueTo} {k k' : JsValue → ValueTo} → f ≡ f' → k ≡ k' → linked f k ≡ linked f' k'
linked_same h k = rw (h, k) refl

one_link_same : {f f' : ValueTo} {k k' : JsValue → ValueTo} (minus : Bool) → f ≡ f' → k ≡ k' → one_link minus f k ≡ one_link minus f' k'
one_link_same minus h k = rw (h, k) refl

called_with_one_same : {f f' : ValueTo} {k k' : List JsValue → ValueTo} → f ≡ f' → k ≡ k' → called_with_one f k ≡ called_with_one f' k'
called_with_one_same h k = rw (h, k) refl

called_with_two_same : {f f' g g' : ValueTo} {k k' : List JsValue → ValueTo} → f ≡ f' → g ≡ g' → k ≡ k' → called_with_two f g k ≡ called_with_two f' g' k'
called_with_two_same h k l = rw (h, k, l) refl

-- ---- expressions of terms, whatever calls do

abbrev by_operator : JsOp → JsValue → JsValue → Part JsValue
by_operator op v w = defined (js_binary_of op v w)

module _ (c : Scope) (calls others : CallsBefore (Unit {0})) where
  abbrev Same : Expr → Type 0
  Same e = eval_to calls c e ≡ eval_to others c e

  same_named : (m : Meaning) (b : Builtin) → m ≡ a_builtin b → call_named_to calls m ≡ call_named_to others m
  same_named m b h = ap (call_named_to calls) h ∙ sym (ap (call_named_to others) h)

  same_if : (b : Bool) (e x : Expr) → Same e → Same x → Same (if b then e else x)
  same_if true e x h k = h
  same_if false e x h k = k

  -- with a number as the second operand
  number_same : (op : JsOp) (k : ℕ) (e : Expr) → Same e → Same (binary op e (natural k))
  number_same op k e h = two_same {g = eval_to calls c (natural k)} {g' = eval_to others c (natural k)} (by_operator op) h refl

  signed_same : (e : Expr) → Same e → Same (signed_number e)
  signed_same e h = number_same Or 0 e h

  plain_same : (e : Expr) → Same e → Same (plain_number e)
  plain_same e h = number_same Shr 0 e h

  as_int_same : (t : Term) (e : Expr) → Same e → Same (as_int t e)
  as_int_same (sum a ts) e h = signed_same e h
  as_int_same (byte signed at) e h = signed_same e h
  as_int_same (whole at) e h = signed_same e h
  as_int_same t e h = h

  as_test_same : (t : Term) (e : Expr) → Same e → Same (as_test t e)
  as_test_same (read n) e h = signed_same e h
  as_test_same (number z) e h = signed_same e h
  as_test_same (sum a ts) e h = signed_same e h
  as_test_same (choose t a b) e h = signed_same e h
  as_test_same (byte signed at) e h = signed_same e h
  as_test_same (whole at) e h = signed_same e h
  as_test_same t e h = h

  as_signed_same : (t : Term) (e : Expr) → Same e → Same (as_signed t e)
  as_signed_same (read n) e h = signed_same e h
  as_signed_same (number z) e h = same_if (typed_below Signed (literal_type z)) e (signed_number e) h (signed_same e h)
  as_signed_same (both shift_right a b) e h = signed_same e h
  as_signed_same (both op a b) e h = h
  as_signed_same (flip a) e h = h
  as_signed_same (product a b) e h = h
  as_signed_same (zeros a) e h = h
  as_signed_same t e h = signed_same e h

  as_unsigned_same : (t : Term) (e : Expr) → Same e → Same (as_unsigned t e)
  as_unsigned_same (number z) e h = same_if (typed_below Unsigned (literal_type z)) e (plain_number e) h (plain_same e h)
  as_unsigned_same (both shift_right a b) e h = h
  as_unsigned_same (zeros a) e h = h
  as_unsigned_same t e h = plain_same e h

  as_number_same : (signed : Bool) (t : Term) (e : Expr) → Same e → Same (as_number signed t e)
  as_number_same true t e h = as_signed_same t e h
  as_number_same false t e h = as_unsigned_same t e h

  mutual
    expr_same : (t : Term) → IsSound c t → Same (expr t)
    expr_same (read n) k = refl
    expr_same (number z) k = refl
    expr_same (both op a b) k = two_same (by_operator (bit_operator op)) (expr_same a k.0) (expr_same b k.1)
    expr_same (flip a) k = one_same (λ v. defined (js_unary_of BitNot v)) (expr_same a k)
    expr_same (sum a ts) k = linked_same (as_int_same a (expr a) (expr_same a k.0)) (links_same ts k.1)
    expr_same (product a b) k =
        called_with_two_same (as_int_same a (expr a) (expr_same a k.1)) (as_int_same b (expr b) (expr_same b k.2)) (same_named (named c (name_of imul)) Imul k.0)
    expr_same (zeros a) k = called_with_one_same (as_int_same a (expr a) (expr_same a k.1)) (same_named (named c (name_of clz32)) Clz32 k.0)
    expr_same (compare signed r a b) k =
        two_same (by_operator (relation_operator r)) (as_number_same signed a (expr a) (expr_same a k.0)) (as_number_same signed b (expr b) (expr_same b k.1))
    expr_same (choose t a b) k = either_same (as_test_same t (expr t) (expr_same t k.0)) (as_int_same a (expr a) (expr_same a k.1)) (as_int_same b (expr b) (expr_same b k.2))
    expr_same (byte signed at) k = one_same (read_element (named c (name_of (byte_view signed)))) (number_same Sar 0 (expr at) (expr_same at k.1))
    expr_same (whole at) k = one_same (read_element (named c (name_of view_of_words))) (number_same Sar 2 (expr at) (expr_same at k.1))

    links_same : (ts : Summands) → AreSound c ts → eval_links_to calls c (summands ts) ≡ eval_links_to others c (summands ts)
    links_same no_more k = refl
    links_same (further minus t ts) k = one_link_same minus (as_int_same t (expr t) (expr_same t k.0)) (links_same ts k.1)

  int_same : (t : Term) → IsSound c t → Same (int_of t)
  int_same t k = as_int_same t (expr t) (expr_same t k)

  test_same : (t : Term) → IsSound c t → Same (test_of t)
  test_same t k = as_test_same t (expr t) (expr_same t k)

  result_same : (t : Term) → IsSound c t → Same (signed_number (expr t))
  result_same t k = signed_same (expr t) (expr_same t k)

-- ---- a variable that is to have a term's word, at p, seen from another place

-- calls that go wrong, alone and with what comes after them
abbrev no_calls : Calls
no_calls f vs = goes_wrong

abbrev no_calls_to : CallsBefore (Unit {0})
no_calls_to f vs next = and_then (no_calls f vs) next

module _ (f : Function) (r : Rest) (here : Place) where
  pub put_then : (n : Name) (t : Term) (p : Place) (next : Completion → Part (Unit {0})) → IsSound f.scope t → AreApart p → IsHeap f.setting.bytes p.heap
      → ((q : Place) → IsOn f.setting.bytes (with_word n (value t (word_at p) p.heap) (word_at p)) p.heap 0 p q → IsFollowed f here r (next normal q))
      → IsFollowed f here r (exec_to f.calls f.scope f.bound [] (simple_statement (put n t)) next p)
  put_then n t p next sound apart heap k =
      subst (λ (run : Before (Unit {0}) JsValue). IsFollowed f here r (run after_value p)) (sym (int_same f.scope f.calls no_calls_to t sound))
      (subst (λ run. IsFollowed f here r run) (sym (expressions_follow no_calls no_calls_to f.scope (int_of t) (λ g vs after q. refl) after_value p))
      (read_then (IsFollowed f here r) (value t (word_at p) p.heap) p (eval false no_calls f.scope (int_of t) p) after_value tt (int_read no_calls f.scope t p sound apart)
      (λ v is. write_then f r here p n v next apart heap (λ q on. k q (subst (λ x. IsOn f.setting.bytes (with_word n x (word_at p)) p.heap 0 p q) is on)))))
    where
      after_value : JsValue → Part (Unit {0})
      after_value v = and_then (write (spelled n) v) (λ v. next normal)

-- ---- a term's word where it is asked for, at p, seen from another place

module _ (f : Function) (r : Rest) (here : Place) where
  evaluated_then : (e : Expr) (p : Place) (next : JsValue → Part (Unit {0})) → eval_to f.calls f.scope e ≡ eval_to no_calls_to f.scope e
      → IsFollowed f here r (after (eval false no_calls f.scope e p) next) → IsFollowed f here r (eval_to f.calls f.scope e next p)
  evaluated_then e p next same h =
      subst (λ (run : Before (Unit {0}) JsValue). IsFollowed f here r (run next p)) (sym same)
      (subst (λ run. IsFollowed f here r run) (sym (expressions_follow no_calls no_calls_to f.scope e (λ g vs after q. refl) next p)) h)

  -- as a condition
  pub tested_then : (t : Term) (p : Place) (first second : Part (Unit {0})) → IsSound f.scope t → AreApart p
      → ((x : ℕ) → x ≡ value t (word_at p) p.heap → IsFollowed f here r ((if not (x == 0) then first else second) p))
      → IsFollowed f here r (eval_to f.calls f.scope (test_of t) (λ v. if truthy_of v then first else second) p)
  tested_then t p first second sound apart h =
      let x : ℕ = value t (word_at p) p.heap in
      evaluated_then (test_of t) p either (test_same f.scope f.calls no_calls_to t sound)
      (test_then no_calls f.scope x p (IsFollowed f here r) either tt t (sound_named f.scope t sound) (expr_read no_calls f.scope t p sound apart)
      (λ v e. subst (λ c. IsFollowed f here r ((if c then first else second) p)) (sym e) (h x refl)))
    where
      either : JsValue → Part (Unit {0})
      either v = if truthy_of v then first else second

  -- as an int
  pub int_then : (t : Term) (p : Place) (next : JsValue → Part (Unit {0})) → IsSound f.scope t → AreApart p
      → ((v : JsValue) → to_uint32_of v ≡ value t (word_at p) p.heap → IsFollowed f here r (next v p))
      → IsFollowed f here r (eval_to f.calls f.scope (int_of t) next p)
  int_then t p next sound apart h =
      evaluated_then (int_of t) p next (int_same f.scope f.calls no_calls_to t sound)
      (read_then (IsFollowed f here r) (value t (word_at p) p.heap) p (eval false no_calls f.scope (int_of t) p) next tt (int_read no_calls f.scope t p sound apart) h)

  -- as a number
  pub given_then : (t : Term) (p : Place) (next : JsValue → Part (Unit {0})) → IsSound f.scope t → AreApart p
      → ((v : JsValue) → to_uint32_of v ≡ value t (word_at p) p.heap → IsFollowed f here r (next v p))
      → IsFollowed f here r (eval_to f.calls f.scope (signed_number (expr t)) next p)
  given_then t p next sound apart h =
      evaluated_then (signed_number (expr t)) p next (result_same f.scope f.calls no_calls_to t sound)
      (read_then (IsFollowed f here r) (value t (word_at p) p.heap) p (eval false no_calls f.scope (signed_number (expr t)) p) next tt
      (signed_read no_calls f.scope (expr t) (value t (word_at p) p.heap) p (expr_read no_calls f.scope t p sound apart)) h)
