-- Variables by name: a read gives the word of a place, and a write changes it and no other.
use Rattle.std.proofs.Common.{◌≡◌, ℕ, Bool, true, false, ◌&&◌, ◌||◌, List, [], ◌∷◌, Option, Some, None, refl, sym, ap, ◌∙◌, subst}
use Rattle.std.specs.Prelude.{bytes_eq, if◌then◌else◌, ◌==◌}
use Rattle.std.proofs.lemmas.Bool.{and_parts}
use Rattle.std.proofs.lemmas.Bool.Decides.{Decides-eqb}
use Rattle.std.proofs.lemmas.Slice.Eq.{bytes_eq-Decides}
use Rattle.sem_words.specs.declared.js_value.JsValue.{JsValue}
use Rattle.sem_words.specs.JsValues.{to_uint32_of}
use Rattle.asm_lang_valid.specs.Scope.{is_in}
use Rattle.asm_lang_exec.specs.Runs.{Binding, binding, Place, defined, value_in, with_value, either_value, read}
use Rattle.wasm2js_translation.specs.Names.{Fixed, view_of_bytes, view_of_signed_bytes, view_of_words, imul, clz32, trap, high, spare_high, result_high, shift_left, shift_right_signed, shift_right, rotate_left, leading_zeros, trailing_zeros, set_bits, divide_signed, divide, remainder_signed, remainder, load_32, load_64, store_32, store_64, copy, fill, data_words, data_zeros, init, last_high, Name, numbered, fixed, letter, numeral, spelled, fixed_rank, same_fixed, same_name}
use Rattle.wasm2js_translation.proofs.Spelling.{spellings_differ}
use Rattle.wasm2js_laws_places.specs.Straight.{with_word}
use Rattle.wasm2js_laws_places.specs.Places.{is_own, variables, word_bound, word_at, names_in, AreApart}
use Rattle.wasm2js_laws_actions.specs.Reads.{Reads}

-- ---- equal names

abbrev all_fixed : List Fixed
all_fixed =
    view_of_bytes ∷ view_of_signed_bytes ∷ view_of_words ∷ imul ∷ clz32 ∷ trap ∷ high ∷ spare_high ∷ result_high ∷ shift_left ∷ shift_right_signed ∷ shift_right ∷ rotate_left
    ∷ leading_zeros ∷ trailing_zeros ∷ set_bits ∷ divide_signed ∷ divide ∷ remainder_signed ∷ remainder ∷ load_32 ∷ load_64 ∷ store_32 ∷ store_64 ∷ copy ∷ fill ∷ data_words ∷ data_zeros ∷ init ∷ last_high ∷ []

abbrev ranked : List Fixed → (group place : ℕ) → Option Fixed
ranked [] g p = None
ranked (f ∷ fs) g p = if ((fixed_rank f).group == g) && ((fixed_rank f).place == p) then Some f else ranked fs g p

found : (f : Fixed) → ranked all_fixed (fixed_rank f).group (fixed_rank f).place ≡ Some f
found view_of_bytes = refl
found view_of_signed_bytes = refl
found view_of_words = refl
found imul = refl
found clz32 = refl
found trap = refl
found high = refl
found spare_high = refl
found result_high = refl
found shift_left = refl
found shift_right_signed = refl
found shift_right = refl
found rotate_left = refl
found leading_zeros = refl
found trailing_zeros = refl
found set_bits = refl
found divide_signed = refl
found divide = refl
found remainder_signed = refl
found remainder = refl
found load_32 = refl
found load_64 = refl
found store_32 = refl
found store_64 = refl
found copy = refl
found fill = refl
found data_words = refl
found data_zeros = refl
found init = refl
found last_high = refl

fixed_is : (f g : Fixed) → same_fixed f g ≡ true → f ≡ g
fixed_is f g h =
    let parts = and_parts ((fixed_rank f).group == (fixed_rank g).group) ((fixed_rank f).place == (fixed_rank g).place) h in
    let a = (Decides-eqb (fixed_rank f).group (fixed_rank g).group).0 parts.0 in
    let b = (Decides-eqb (fixed_rank f).place (fixed_rank g).place).0 parts.1 in
    let e : Some f ≡ Some g = sym (found f) ∙ ap (λ x. ranked all_fixed x (fixed_rank f).place) a ∙ ap (ranked all_fixed (fixed_rank g).group) b ∙ found g in
    cc e

equal_number : (n : ℕ) → (n == n) ≡ true
equal_number n = (Decides-eqb n n).1 refl

both_true : (x y : Bool) → x ≡ true → y ≡ true → (x && y) ≡ true
both_true x y e f = cc (e, f)

same_itself : (n : Name) → same_name n n ≡ true
same_itself (numbered k n) = both_true (letter k == letter k) (n == n) (equal_number (letter k)) (equal_number n)
same_itself (fixed f) =
    both_true ((fixed_rank f).group == (fixed_rank f).group) ((fixed_rank f).place == (fixed_rank f).place) (equal_number (fixed_rank f).group) (equal_number (fixed_rank f).place)

same_is : (n m : Name) → same_name n m ≡ true → n ≡ m
same_is (numbered k n) (numbered l m) h =
    let parts = and_parts (letter k == letter l) (n == m) h in
    let a = (Decides-eqb (letter k) (letter l)).0 parts.0 in
    let b = (Decides-eqb n m).0 parts.1 in
    spellings_differ (numbered k n) (numbered l m) (ap (λ x. x ∷ numeral n) a ∙ ap (λ x. letter l ∷ numeral x) b)
same_is (numbered k n) (fixed g) h = absurd (cc h)
same_is (fixed f) (numbered l m) h = absurd (cc h)
same_is (fixed f) (fixed g) h = ap fixed (fixed_is f g h)

pub spelled_alike : (n m : Name) → bytes_eq (spelled n) (spelled m) ≡ same_name n m
spelled_alike n m = by (bytes_eq (spelled n) (spelled m)) (same_name n m) refl refl
  where
    by : (s t : Bool) → bytes_eq (spelled n) (spelled m) ≡ s → same_name n m ≡ t → bytes_eq (spelled n) (spelled m) ≡ same_name n m
    by true t e f =
        let same = spellings_differ n m ((bytes_eq-Decides (spelled n) (spelled m)).0 e) in
        e ∙ sym (subst (λ x. same_name n x ≡ true) same (same_itself n))
    by false true e f = (bytes_eq-Decides (spelled n) (spelled m)).1 (ap spelled (same_is n m f)) ∙ sym f
    by false false e f = e ∙ sym f

-- ---- lists of variables

either_false : (a b : Bool) → (a || b) ≡ false → (a ≡ false) × (b ≡ false)
either_false true b h = absurd (cc h)
either_false false b h = (refl, h)

pub not_there : (bs : List Binding) (s : List ℕ) → is_in s (names_in bs) ≡ false → value_in bs s ≡ None
not_there [] s h = refl
not_there (b ∷ bs) s h =
    let parts = either_false (bytes_eq b.name s) (is_in s (names_in bs)) h in
    rw parts.0 (not_there bs s parts.1)

module _ (s t : List ℕ) (v : JsValue) where
  hidden : (b : Binding) (bs : List Binding) → b.name ≡ s → (if bytes_eq b.name t then Some v else value_in bs t) ≡ (if bytes_eq s t then Some v else (if bytes_eq b.name t then Some b.value else value_in bs t))
  hidden b bs e = subst (λ n. (if bytes_eq n t then Some v else value_in bs t) ≡ (if bytes_eq s t then Some v else (if bytes_eq n t then Some b.value else value_in bs t))) (sym e) (by (bytes_eq s t))
    where
      by : (x : Bool) → (if x then Some v else value_in bs t) ≡ (if x then Some v else (if x then Some b.value else value_in bs t))
      by true = refl
      by false = refl

  passed : (b : Binding) (x y : Option JsValue) → bytes_eq b.name s ≡ false → x ≡ (if bytes_eq s t then Some v else y)
      → (if bytes_eq b.name t then Some b.value else x) ≡ (if bytes_eq s t then Some v else (if bytes_eq b.name t then Some b.value else y))
  passed b x y apart h = by (bytes_eq b.name t) (bytes_eq s t) refl refl h
    where
      by : (i j : Bool) → bytes_eq b.name t ≡ i → bytes_eq s t ≡ j → x ≡ (if j then Some v else y) → (if i then Some b.value else x) ≡ (if j then Some v else (if i then Some b.value else y))
      by true true e f h =
          let a = (bytes_eq-Decides b.name t).0 e in
          let c = (bytes_eq-Decides s t).0 f in
          let same : bytes_eq b.name s ≡ true = (bytes_eq-Decides b.name s).1 (a ∙ sym c) in
          absurd (cc (same, apart))
      by true false e f h = refl
      by false true e f h = h
      by false false e f h = h

pub set_get : (s t : List ℕ) (v old : JsValue) (bs : List Binding) → value_in bs s ≡ Some old → value_in (with_value s v bs) t ≡ (if bytes_eq s t then Some v else value_in bs t)
set_get s t v old [] h = absurd (cc h)
set_get s t v old (b ∷ bs) h = by (bytes_eq b.name s) refl (set_get s t v old bs) h
  where
    by : (x : Bool) → bytes_eq b.name s ≡ x → (value_in bs s ≡ Some old → value_in (with_value s v bs) t ≡ (if bytes_eq s t then Some v else value_in bs t))
        → (if x then Some b.value else value_in bs s) ≡ Some old
        → value_in (if x then binding b.name v ∷ bs else b ∷ with_value s v bs) t ≡ (if bytes_eq s t then Some v else (if bytes_eq b.name t then Some b.value else value_in bs t))
    by true e ih h = hidden s t v b bs ((bytes_eq-Decides b.name s).0 e)
    by false e ih h = passed s t v b (value_in (with_value s v bs) t) (value_in bs t) e (ih h)

pub names_stay : (s : List ℕ) (v : JsValue) (bs : List Binding) → names_in (with_value s v bs) ≡ names_in bs
names_stay s v [] = refl
names_stay s v (b ∷ bs) = by (bytes_eq b.name s) (names_stay s v bs)
  where
    by : (x : Bool) → names_in (with_value s v bs) ≡ names_in bs → names_in (if x then binding b.name v ∷ bs else b ∷ with_value s v bs) ≡ b.name ∷ names_in bs
    by true ih = refl
    by false ih = ap (λ ns. b.name ∷ ns) ih

-- ---- reads

pub variable_read : (n : Name) (p : Place) → AreApart p → Reads (word_at p n) p (read (spelled n) p)
variable_read n p apart = by (is_own n) (apart n)
  where
    own : (o : Option JsValue) → Reads (word_bound o) p (defined (either_value o None) p)
    own None = tt
    own (Some v) = (refl, refl)

    outer : (o : Option JsValue) → Reads (word_bound o) p (defined (either_value None o) p)
    outer None = tt
    outer (Some v) = (refl, refl)

    by : (b : Bool) → is_in (spelled n) (names_in (if b then p.globals else p.locals)) ≡ false → Reads (word_bound (value_in (variables b p) (spelled n))) p (read (spelled n) p)
    by true h =
        subst (λ o. Reads (word_bound (value_in p.locals (spelled n))) p (defined (either_value (value_in p.locals (spelled n)) o) p)) (sym (not_there p.globals (spelled n) h))
        (own (value_in p.locals (spelled n)))
    by false h =
        subst (λ o. Reads (word_bound (value_in p.globals (spelled n))) p (defined (either_value o (value_in p.globals (spelled n))) p)) (sym (not_there p.locals (spelled n) h))
        (outer (value_in p.globals (spelled n)))

-- ---- the words after a write

bound_if : (b : Bool) (v : JsValue) (o : Option JsValue) → word_bound (if b then Some v else o) ≡ (if b then to_uint32_of v else word_bound o)
bound_if true v o = refl
bound_if false v o = refl

word_set : (n m : Name) (v old : JsValue) (bs : List Binding) → value_in bs (spelled n) ≡ Some old
    → word_bound (value_in (with_value (spelled n) v bs) (spelled m)) ≡ (if same_name n m then to_uint32_of v else word_bound (value_in bs (spelled m)))
word_set n m v old bs h =
    ap word_bound (set_get (spelled n) (spelled m) v old bs h)
    ∙ bound_if (bytes_eq (spelled n) (spelled m)) v (value_in bs (spelled m))
    ∙ ap (λ b. if b then to_uint32_of v else word_bound (value_in bs (spelled m))) (spelled_alike n m)

-- names of two kinds are different
apart_kinds : (n m : Name) (b : Bool) → is_own n ≡ b → (is_own m ≡ b → ⊥) → same_name n m ≡ false
apart_kinds n m b e f = by (same_name n m) refl
  where
    by : (s : Bool) → same_name n m ≡ s → same_name n m ≡ false
    by true h = absurd (f (subst (λ x. is_own x ≡ b) (same_is n m h) e))
    by false h = h

other_word : (n m : Name) (x y : ℕ) → same_name n m ≡ false → y ≡ (if same_name n m then x else y)
other_word n m x y h = rw h refl

pub own_set : (n m : Name) (v old : JsValue) (p : Place) → is_own n ≡ true → value_in p.locals (spelled n) ≡ Some old
    → word_at (record p { locals = with_value (spelled n) v p.locals }) m ≡ with_word n (to_uint32_of v) (word_at p) m
own_set n m v old p own h = by (is_own m) refl
  where
    by : (b : Bool) → is_own m ≡ b
        → word_bound (value_in (variables b (record p { locals = with_value (spelled n) v p.locals })) (spelled m)) ≡ (if same_name n m then to_uint32_of v else word_bound (value_in (variables b p) (spelled m)))
    by true e = word_set n m v old p.locals h
    by false e = other_word n m (to_uint32_of v) _ (apart_kinds n m true own (λ k. cc (e, k)))

pub outer_set : (n m : Name) (v old : JsValue) (p : Place) → is_own n ≡ false → value_in p.globals (spelled n) ≡ Some old
    → word_at (record p { globals = with_value (spelled n) v p.globals }) m ≡ with_word n (to_uint32_of v) (word_at p) m
outer_set n m v old p own h = by (is_own m) refl
  where
    by : (b : Bool) → is_own m ≡ b
        → word_bound (value_in (variables b (record p { globals = with_value (spelled n) v p.globals })) (spelled m)) ≡ (if same_name n m then to_uint32_of v else word_bound (value_in (variables b p) (spelled m)))
    by true e = other_word n m (to_uint32_of v) _ (apart_kinds n m false own (λ k. cc (e, k)))
    by false e = word_set n m v old p.globals h
