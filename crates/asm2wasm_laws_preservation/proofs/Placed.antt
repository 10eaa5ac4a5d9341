-- Where the element of an index begins: indices of each form.
use Rattle.std.proofs.Common.{◌≡◌, ℕ, zero, suc, ◌-◌, ◌*◌, ◌/◌, ◌%◌, ◌^◌, ◌<◌, ◌≤◌, Bool, true, false, List, [], ◌∷◌, Option, Some, None, ℤ, pos, negsuc, refl, sym, ap, ◌∙◌, subst, arith}
use Rattle.std.proofs.lemmas.Bool.{and_parts, eqb-true}
use Rattle.std.proofs.lemmas.Bool.Decides.{nat_tests}
use Rattle.std.proofs.lemmas.Int.{ints}
use Rattle.std.proofs.lemmas.Nat.Bits.{and_high_mask}
use Rattle.std.specs.Int.{int_shr}
use Rattle.std.specs.Prelude.{bit_and, nat_lt, if◌then◌else◌}
use Rattle.sem_words.specs.declared.word.Word.{Word}
use Rattle.sem_words.specs.declared.word.Word.TheVariants.{W32}
use Rattle.sem_words.specs.declared.js_value.JsValue.{JsValue}
use Rattle.sem_words.specs.declared.js_value.JsValue.TheVariants.{Whole}
use Rattle.sem_words.specs.declared.js_value.JsOp.TheVariants.{Sar}
use Rattle.sem_words.specs.Words.{word_of, signed_of}
use Rattle.sem_words.specs.JsValues.{to_uint32_of, to_int32_of}
use Rattle.sem_words.specs.JsOperators.{js_binary_of}
use Rattle.asm_types.proofs.Sound.{to_uint32_lt}
use Rattle.asm_lang.specs.Modules.{Expr, lit}
use Rattle.asm_lang_valid.specs.declared.meaning.Element.{Element}
use Rattle.asm_lang_valid.specs.declared.meaning.Element.TheVariants.{Int8, Uint8, Int16, Uint16, Int32, Uint32}
use Rattle.asm_lang_valid.specs.Scope.{shift_of, Meaning, a_view}
use Rattle.asm_lang_valid.specs.Typing.{Scope, is_literal, literal_index, index_form, index_fits}
use Rattle.asm_types.specs.declared.value_type.ValueType.{ValueType}
use Rattle.asm_lang_exec.specs.Runs.{Part, and_then, gives, defined}
use Rattle.asm_lang_exec.specs.Values.{Calls}
use Rattle.asm_lang_exec.specs.Meaning.{eval}
use Rattle.asm2wasm_translation.specs.Values.{plains, exponent_in, aligned, literal_place}
use Rattle.asm2wasm_laws_heap.specs.Guards.{IsPlace, is_index}
use Rattle.asm2wasm_laws_run.specs.Straight.{effects}
use Rattle.asm2wasm_laws_run.specs.State.{IsIndex}
use Rattle.asm2wasm_laws_preservation.specs.Kept.{word, Surroundings, Keeps}
use Rattle.asm2wasm_laws_preservation.proofs.Joined.{keeps_same, keeps_operation}
use Rattle.asm2wasm_laws_preservation.proofs.Stepped.{IsIndexAt}

-- ---- exponents

few_shifts : (v : Element) → shift_of v ≤ 2
few_shifts Int8 = omega arith
few_shifts Uint8 = omega arith
few_shifts Int16 = omega arith
few_shifts Uint16 = omega arith
few_shifts Int32 = omega arith
few_shifts Uint32 = omega arith

pub few_exponents : (mm : Meaning) → exponent_in mm ≤ 2
few_exponents (a_view v) = few_shifts v
few_exponents mm = omega arith

pub form_at : (mm : Meaning) (i : Expr) (o : Option ValueType) (t : ValueType) → o ≡ Some t → index_fits mm i o ≡ true → index_form (exponent_in mm) i (Some t) ≡ true
form_at (a_view v) i (Some u) t e h = ap (index_form (shift_of v) i) (sym e) ∙ (and_parts true (index_form (shift_of v) i (Some u)) h).1
form_at (a_view v) i None t e h = absurd (cc h)
form_at mm i o t e h = absurd (cc h)

-- ---- an index as it is, of a byte

bare_at : (z : ℤ) → is_index z ≡ true → IsPlace 0 z (word_of 32 z)
bare_at (pos n) h = grind (arith, ints, nat_tests)
bare_at (negsuc n) h = grind (arith, ints, nat_tests)

pub bare_is : (v : JsValue) → IsIndex v → IsIndexAt 0 (to_uint32_of v) v
bare_is v i = subst (λ v. IsIndexAt 0 (to_uint32_of v) v) (sym i.is) (record { number = i.number; is = refl; place = bare_at i.number i.in_range })

-- ---- a literal

literal_at : (k : ℕ) (z : ℤ) → k ≤ 2 → literal_index k z ≡ true → is_index z ≡ true → IsPlace k z (literal_place k z)
literal_at zero (pos n) few h is = grind (arith, nat_tests)
literal_at (suc zero) (pos n) few h is = grind (arith, nat_tests)
literal_at (suc (suc zero)) (pos n) few h is = grind (arith, nat_tests)
literal_at (suc (suc (suc k))) (pos n) few h is = absurd (omega (arith, few))
literal_at k (negsuc n) few h is = grind (arith, ints, nat_tests)

pub literal_is : (k : ℕ) (z : ℤ) → k ≤ 2 → literal_index k z ≡ true → (v : JsValue) → IsIndex v → v ≡ Whole z → IsIndexAt k (literal_place k z) v
literal_is k z few h v i e =
    let same : i.number ≡ z = cc (sym i.is ∙ e) in
    record { number = z; is = e; place = literal_at k z few h (ap is_index (sym same) ∙ i.in_range) }

-- ---- a shift: a number without its lowest bits, which are 0 where the element begins

signed_low : (w : ℕ) → nat_lt w (2 ^ 31) ≡ true → signed_of 32 w ≡ pos w
signed_low w h = grind (arith, ints, nat_tests)

signed_high : (w : ℕ) → w < 2 ^ 32 → nat_lt w (2 ^ 31) ≡ false → signed_of 32 w ≡ negsuc (2 ^ 32 - 1 - w)
signed_high w l h = grind (arith, ints, nat_tests)

put_back_low : (k w : ℕ) → k ≤ 2 → nat_lt w (2 ^ 31) ≡ true → w / 2 ^ k % 2 ^ 32 * 2 ^ k % 2 ^ 32 ≡ w / 2 ^ k * 2 ^ k
put_back_low zero w few h = grind (arith, nat_tests)
put_back_low (suc zero) w few h = grind (arith, nat_tests)
put_back_low (suc (suc zero)) w few h = grind (arith, nat_tests)
put_back_low (suc (suc (suc k))) w few h = absurd (omega (arith, few))

put_back_high : (k w : ℕ) → k ≤ 2 → w < 2 ^ 32 → nat_lt w (2 ^ 31) ≡ false → (2 ^ 32 - 1 - (2 ^ 32 - 1 - w) / 2 ^ k % 2 ^ 32) * 2 ^ k % 2 ^ 32 ≡ w / 2 ^ k * 2 ^ k
put_back_high zero w few l h = omega (arith, l)
put_back_high (suc zero) w few l h = omega (arith, l)
put_back_high (suc (suc zero)) w few l h = omega (arith, l)
put_back_high (suc (suc (suc k))) w few l h = absurd (omega (arith, few))

put_back : (k w : ℕ) → k ≤ 2 → w < 2 ^ 32 → word_of 32 (int_shr (signed_of 32 w) k) * 2 ^ k % 2 ^ 32 ≡ w / 2 ^ k * 2 ^ k
put_back k w few l = by (nat_lt w (2 ^ 31)) refl
  where
    by : (b : Bool) → nat_lt w (2 ^ 31) ≡ b → word_of 32 (int_shr (signed_of 32 w) k) * 2 ^ k % 2 ^ 32 ≡ w / 2 ^ k * 2 ^ k
    by true e = ap (λ z. word_of 32 (int_shr z k) * 2 ^ k % 2 ^ 32) (signed_low w e) ∙ put_back_low k w few e
    by false e = ap (λ z. word_of 32 (int_shr z k) * 2 ^ k % 2 ^ 32) (signed_high w l e) ∙ put_back_high k w few l e

high_enough : (k w : ℕ) → k ≤ 2 → w < 2 ^ 32 → nat_lt w (2 ^ 31) ≡ false → 2 ^ 31 ≤ w / 2 ^ k * 2 ^ k
high_enough zero w few l h = grind (arith, nat_tests)
high_enough (suc zero) w few l h = grind (arith, nat_tests)
high_enough (suc (suc zero)) w few l h = grind (arith, nat_tests)
high_enough (suc (suc (suc k))) w few l h = absurd (omega (arith, few))

shifted_at : (k w : ℕ) → k ≤ 2 → w < 2 ^ 32 → IsPlace k (int_shr (signed_of 32 w) k) (w / 2 ^ k * 2 ^ k)
shifted_at k w few l = by (nat_lt w (2 ^ 31)) refl
  where
    by : (b : Bool) → nat_lt w (2 ^ 31) ≡ b → IsPlace k (int_shr (signed_of 32 w) k) (w / 2 ^ k * 2 ^ k)
    by true e = subst (λ z. IsPlace k (int_shr z k) (w / 2 ^ k * 2 ^ k)) (sym (signed_low w e)) refl
    by false e = subst (λ z. IsPlace k (int_shr z k) (w / 2 ^ k * 2 ^ k)) (sym (signed_high w l e)) (high_enough k w few l e)

-- where the element of a shifted index begins
abbrev pub shifted_place : ℕ → JsValue → ℕ
shifted_place k v = to_uint32_of v * 2 ^ k % 2 ^ 32

abbrev shifted : ℕ → JsValue → JsValue
shifted k v = Whole (int_shr (to_int32_of v) k)

masked : (k : ℕ) (v : JsValue) → k ≤ 2 → bit_and (to_uint32_of v) (2 ^ 32 - 2 ^ k) ≡ shifted_place k (shifted k v)
masked k v few =
    let low = to_uint32_lt v in
    and_high_mask 32 k (omega (arith, few)) (to_uint32_of v) low ∙ sym (put_back k (to_uint32_of v) few low)

shifted_is : (k : ℕ) (v : JsValue) → k ≤ 2 → IsIndexAt k (shifted_place k (shifted k v)) (shifted k v)
shifted_is k v few =
    let low = to_uint32_lt v in
    record {
      number = int_shr (to_int32_of v) k;
      is = refl;
      place = subst (IsPlace k (int_shr (to_int32_of v) k)) (sym (put_back k (to_uint32_of v) few low)) (shifted_at k (to_uint32_of v) few low);
    }

module _ (s : Surroundings) (limit d : ℕ) (calls : Calls) (c : Scope) where
  -- the shift by a literal of what is on the stack
  abbrev shifts : JsValue → Expr → Part JsValue
  shifts v r = and_then (eval true calls c r) (λ w. defined (js_binary_of Sar v w))

  abbrev Shifting : ℕ → JsValue → Expr → Type 0
  Shifting k v r = Keeps s limit d (word v ∷ []) (λ v. IsIndexAt k (shifted_place k v) v) (λ v. W32 (shifted_place k v) ∷ []) (plains (aligned k)) (shifts v r)

  by_literal : (k : ℕ) (v : JsValue) → k ≤ 2 → Shifting k v (lit (pos k))
  by_literal zero v few =
      keeps_same s limit d (word v ∷ []) (λ v. IsIndexAt 0 (shifted_place 0 v) v) (λ v. W32 (shifted_place 0 v) ∷ []) (plains (aligned 0)) (gives (shifted 0 v)) (shifts v (lit (pos 0))) (λ p. refl)
      (keeps_operation s limit d (word v ∷ []) (λ v. IsIndexAt 0 (shifted_place 0 v) v) (λ v. W32 (shifted_place 0 v) ∷ []) (aligned 0) (shifted 0 v) (shifted_is 0 v few)
      (λ stack locals store. let low = to_uint32_lt v in let whole : to_uint32_of v ≡ to_uint32_of v / 2 ^ 0 * 2 ^ 0 = omega arith in
      ap (λ n. effects [] (W32 n ∷ stack) locals store) (whole ∙ sym (put_back 0 (to_uint32_of v) few low))))
  by_literal (suc zero) v few =
      keeps_same s limit d (word v ∷ []) (λ v. IsIndexAt 1 (shifted_place 1 v) v) (λ v. W32 (shifted_place 1 v) ∷ []) (plains (aligned 1)) (gives (shifted 1 v)) (shifts v (lit (pos 1))) (λ p. refl)
      (keeps_operation s limit d (word v ∷ []) (λ v. IsIndexAt 1 (shifted_place 1 v) v) (λ v. W32 (shifted_place 1 v) ∷ []) (aligned 1) (shifted 1 v) (shifted_is 1 v few)
      (λ stack locals store. ap (λ n. effects [] (W32 n ∷ stack) locals store) (masked 1 v few)))
  by_literal (suc (suc zero)) v few =
      keeps_same s limit d (word v ∷ []) (λ v. IsIndexAt 2 (shifted_place 2 v) v) (λ v. W32 (shifted_place 2 v) ∷ []) (plains (aligned 2)) (gives (shifted 2 v)) (shifts v (lit (pos 2))) (λ p. refl)
      (keeps_operation s limit d (word v ∷ []) (λ v. IsIndexAt 2 (shifted_place 2 v) v) (λ v. W32 (shifted_place 2 v) ∷ []) (aligned 2) (shifted 2 v) (shifted_is 2 v few)
      (λ stack locals store. ap (λ n. effects [] (W32 n ∷ stack) locals store) (masked 2 v few)))
  by_literal (suc (suc (suc k))) v few = absurd (omega (arith, few))

  pub keeps_shift : (k : ℕ) (v : JsValue) (r : Expr) → k ≤ 2 → is_literal k r ≡ true → Shifting k v r
  keeps_shift k v (lit (pos n)) few h = subst (λ n. Shifting k v (lit (pos n))) (sym (eqb-true n k h)) (by_literal k v few)
  keeps_shift k v r few h = absurd (cc h)
