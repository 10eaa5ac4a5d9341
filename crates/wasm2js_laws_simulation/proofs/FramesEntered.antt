-- The variables of a function that is entered: its parameters have what was passed, and the others are 0.
use Rattle.std.proofs.Common.{◌≡◌, ℕ, suc, ◌+◌, ◌*◌, ◌^◌, ◌≤◌, Bool, true, false, List, [], ◌∷◌, ◌++◌, map, length, Some, pos, refl, sym, ap, ◌∙◌, arith}
use Rattle.std.specs.Prelude.{bytes_eq, option_map, if◌then◌else◌, ◌==◌}
use Rattle.std.proofs.lemmas.Bool.Decides.{nat_tests}
use Rattle.std.proofs.lemmas.Slice.Eq.{bytes_eq-Decides}
use Rattle.sem_words.specs.declared.word.Word.{Word}
use Rattle.sem_words.specs.declared.word.Word.TheVariants.{W32, W64}
use Rattle.sem_words.specs.declared.js_value.JsValue.{JsValue}
use Rattle.sem_words.specs.declared.js_value.JsValue.TheVariants.{Whole}
use Rattle.sem_words.specs.JsValues.{to_uint32_of}
use Rattle.sem_words.specs.JsOperators.{signed_value}
use Rattle.sem_words.proofs.WordLaws.{word_of-signed_of_32}
use Rattle.asm_types.proofs.Sound.{to_uint32_lt}
use Rattle.wasm_lang.specs.declared.types.ValType.{ValType}
use Rattle.wasm_lang.specs.declared.types.ValType.TheVariants.{I32, I64}
use Rattle.wasm_lang_exec.specs.Store.{zeros_of}
use Rattle.asm_lang.specs.Modules.{Variable}
use Rattle.asm_lang_exec.specs.Runs.{Binding, binding, Place, value_in}
use Rattle.asm_lang_exec.specs.Meaning.{first_value, parameters}
use Rattle.wasm2js_translation.specs.Names.{Name, numbered, local_low, local_high, spelled, same_name}
use Rattle.wasm2js_translation.specs.Helpers.{int_param, zero_variable}
use Rattle.wasm2js_translation.specs.Modules.{param_names}
use Rattle.wasm2js_laws_places.specs.Straight.{Words}
use Rattle.wasm2js_laws_places.specs.Places.{word_bound, word_at, names_in, locals_from}
use Rattle.wasm2js_laws_actions.proofs.Variables.{spelled_alike}
use Rattle.wasm2js_laws_simulation.specs.CallsCalled.{Passes}

-- ---- words of variables

abbrev pub words_in : List Binding → Words
words_in bs n = word_bound (value_in bs (spelled n))

bound_first : (n : Name) (v : JsValue) (bs : List Binding) → words_in (binding (spelled n) v ∷ bs) n ≡ to_uint32_of v
bound_first n v bs = ap (λ b. word_bound (if b then Some v else value_in bs (spelled n))) ((bytes_eq-Decides (spelled n) (spelled n)).1 refl)

bound_later : (m n : Name) (v : JsValue) (bs : List Binding) → same_name m n ≡ false → words_in (binding (spelled m) v ∷ bs) n ≡ words_in bs n
bound_later m n v bs e = ap (λ b. word_bound (if b then Some v else value_in bs (spelled n))) (spelled_alike m n ∙ e)

-- from local x on
pub record AgreeFrom (x : ℕ) (a b : Words) : Type 0 where
  pub lows : (y : ℕ) → x ≤ y → a (numbered local_low y) ≡ b (numbered local_low y)
  pub highs : (y : ℕ) → x ≤ y → a (numbered local_high y) ≡ b (numbered local_high y)

locals_agree : (x : ℕ) (ts : List ValType) (a b : Words) → AgreeFrom x a b → locals_from x ts a ≡ locals_from x ts b
locals_agree x [] a b h = refl
locals_agree x (I32 ∷ ts) a b h =
    let e = h.lows x (omega arith) in
    let k = locals_agree (suc x) ts a b (record { lows = λ y le. h.lows y (omega (arith, le)); highs = λ y le. h.highs y (omega (arith, le)) }) in
    cc (e, k)
locals_agree x (I64 ∷ ts) a b h =
    let e = h.lows x (omega arith) in
    let g = h.highs x (omega arith) in
    let k = locals_agree (suc x) ts a b (record { lows = λ y le. h.lows y (omega (arith, le)); highs = λ y le. h.highs y (omega (arith, le)) }) in
    cc (e, g, k)

later_number : (x y : ℕ) → suc x ≤ y → (x == y) ≡ false
later_number x y h = grind (arith, nat_tests)

low_apart : (x : ℕ) (v : JsValue) (bs : List Binding) → AgreeFrom (suc x) (words_in (binding (spelled (numbered local_low x)) v ∷ bs)) (words_in bs)
low_apart x v bs = record {
  lows = λ y le. bound_later (numbered local_low x) (numbered local_low y) v bs (let e = later_number x y le in rw e refl);
  highs = λ y le. bound_later (numbered local_low x) (numbered local_high y) v bs refl;
}

high_apart : (x : ℕ) (v : JsValue) (bs : List Binding) → AgreeFrom (suc x) (words_in (binding (spelled (numbered local_high x)) v ∷ bs)) (words_in bs)
high_apart x v bs = record {
  lows = λ y le. bound_later (numbered local_high x) (numbered local_low y) v bs refl;
  highs = λ y le. bound_later (numbered local_high x) (numbered local_high y) v bs (let e = later_number x y le in rw e refl);
}

-- ---- what is passed

-- an int is converted as a signed number
abbrev marked : JsValue → JsValue
marked v = signed_value (to_uint32_of v)

marked_word : (v : JsValue) → to_uint32_of (marked v) ≡ to_uint32_of v
marked_word v = word_of-signed_of_32 (to_uint32_of v) (to_uint32_lt v)

-- parameters from local x on
abbrev pub bound_from : ℕ → List ValType → List JsValue → List Binding
bound_from x [] vs = []
bound_from x (I32 ∷ ts) (v ∷ vs) = binding (spelled (numbered local_low x)) (marked v) ∷ bound_from (suc x) ts vs
bound_from x (I64 ∷ ts) (l ∷ h ∷ vs) = binding (spelled (numbered local_low x)) (marked l) ∷ binding (spelled (numbered local_high x)) (marked h) ∷ bound_from (suc x) ts vs
bound_from x ts vs = []

pub parameters_are : (x : ℕ) (ts : List ValType) (vs : List JsValue) (xs : List Word) → Passes ts vs xs → parameters (map int_param (param_names x ts)) vs ≡ Some (bound_from x ts vs)
parameters_are x [] [] [] h = refl
parameters_are x (I32 ∷ ts) (v ∷ vs) (a ∷ xs) h = ap (λ o. option_map (λ bs. binding (spelled (numbered local_low x)) (marked v) ∷ bs) o) (parameters_are (suc x) ts vs xs h.1)
parameters_are x (I64 ∷ ts) (l ∷ u ∷ vs) (a ∷ xs) h =
    ap (λ o. option_map (λ bs. binding (spelled (numbered local_low x)) (marked l) ∷ bs) (option_map (λ bs. binding (spelled (numbered local_high x)) (marked u) ∷ bs) o)) (parameters_are (suc x) ts vs xs h.1)
parameters_are x [] [] (a ∷ xs) h = absurd h
parameters_are x [] (v ∷ vs) xs h = absurd h
parameters_are x (I32 ∷ ts) [] xs h = absurd h
parameters_are x (I32 ∷ ts) (v ∷ vs) [] h = absurd h
parameters_are x (I64 ∷ ts) [] xs h = absurd h
parameters_are x (I64 ∷ ts) (v ∷ []) xs h = absurd h
parameters_are x (I64 ∷ ts) (v ∷ u ∷ vs) [] h = absurd h

pub as_many : (ts : List ValType) (vs : List JsValue) (xs : List Word) → Passes ts vs xs → length xs ≡ length ts
as_many [] [] [] h = refl
as_many (I32 ∷ ts) (v ∷ vs) (a ∷ xs) h = ap suc (as_many ts vs xs h.1)
as_many (I64 ∷ ts) (l ∷ u ∷ vs) (a ∷ xs) h = ap suc (as_many ts vs xs h.1)
as_many [] [] (a ∷ xs) h = absurd h
as_many [] (v ∷ vs) xs h = absurd h
as_many (I32 ∷ ts) [] xs h = absurd h
as_many (I32 ∷ ts) (v ∷ vs) [] h = absurd h
as_many (I64 ∷ ts) [] xs h = absurd h
as_many (I64 ∷ ts) (v ∷ []) xs h = absurd h
as_many (I64 ∷ ts) (v ∷ u ∷ vs) [] h = absurd h

pub names_bound : (x : ℕ) (ts : List ValType) (vs : List JsValue) (xs : List Word) → Passes ts vs xs → names_in (bound_from x ts vs) ≡ map spelled (param_names x ts)
names_bound x [] [] [] h = refl
names_bound x (I32 ∷ ts) (v ∷ vs) (a ∷ xs) h = ap (λ ns. spelled (numbered local_low x) ∷ ns) (names_bound (suc x) ts vs xs h.1)
names_bound x (I64 ∷ ts) (l ∷ u ∷ vs) (a ∷ xs) h = ap (λ ns. spelled (numbered local_low x) ∷ spelled (numbered local_high x) ∷ ns) (names_bound (suc x) ts vs xs h.1)
names_bound x [] [] (a ∷ xs) h = absurd h
names_bound x [] (v ∷ vs) xs h = absurd h
names_bound x (I32 ∷ ts) [] xs h = absurd h
names_bound x (I32 ∷ ts) (v ∷ vs) [] h = absurd h
names_bound x (I64 ∷ ts) [] xs h = absurd h
names_bound x (I64 ∷ ts) (v ∷ []) xs h = absurd h
names_bound x (I64 ∷ ts) (v ∷ u ∷ vs) [] h = absurd h

-- ---- the other variables

abbrev pub zero_bindings : List Name → List Binding
zero_bindings ns = map (λ (v : Variable). binding v.name (first_value v.init)) (map zero_variable ns)

pub zero_words : (ns : List Name) (n : Name) → words_in (zero_bindings ns) n ≡ 0
zero_words [] n = refl
zero_words (m ∷ ns) n = by (bytes_eq (spelled m) (spelled n)) (zero_words ns n)
  where
    by : (b : Bool) → words_in (zero_bindings ns) n ≡ 0 → word_bound (if b then Some (Whole (pos 0)) else value_in (zero_bindings ns) (spelled n)) ≡ 0
    by true h = refl
    by false h = h

pub zero_names : (ns : List Name) → names_in (zero_bindings ns) ≡ map spelled ns
zero_names [] = refl
zero_names (n ∷ ns) = ap (λ xs. spelled n ∷ xs) (zero_names ns)

zero_locals : (x : ℕ) (more : List ValType) (words : Words) → ((n : Name) → words n ≡ 0) → locals_from x more words ≡ zeros_of more
zero_locals x [] words h = refl
zero_locals x (I32 ∷ more) words h = ap (λ n. W32 n ∷ locals_from (suc x) more words) (h (numbered local_low x)) ∙ ap (λ vs. W32 0 ∷ vs) (zero_locals (suc x) more words h)
zero_locals x (I64 ∷ more) words h =
    ap (λ n. W64 (n + 2 ^ 32 * words (numbered local_high x)) ∷ locals_from (suc x) more words) (h (numbered local_low x))
    ∙ ap (λ n. W64 (0 + 2 ^ 32 * n) ∷ locals_from (suc x) more words) (h (numbered local_high x))
    ∙ ap (λ vs. W64 0 ∷ vs) (zero_locals (suc x) more words h)

-- ---- all of them

module _ (more : List ValType) (zs : List Binding) (zero_in : (n : Name) → words_in zs n ≡ 0) where
  pub locals_entered : (x : ℕ) (ts : List ValType) (vs : List JsValue) (xs : List Word) → Passes ts vs xs → locals_from x (ts ++ more) (words_in (bound_from x ts vs ++ zs)) ≡ xs ++ zeros_of more
  locals_entered x [] [] [] h = zero_locals x more (words_in zs) zero_in
  locals_entered x (I32 ∷ ts) (v ∷ vs) (a ∷ xs) h =
      let bs : List Binding = bound_from (suc x) ts vs ++ zs in
      let all : List Binding = binding (spelled (numbered local_low x)) (marked v) ∷ bs in
      ap (λ n. W32 n ∷ locals_from (suc x) (ts ++ more) (words_in all)) (bound_first (numbered local_low x) (marked v) bs ∙ marked_word v)
      ∙ ap (λ ls. W32 (to_uint32_of v) ∷ ls) (locals_agree (suc x) (ts ++ more) (words_in all) (words_in bs) (low_apart x (marked v) bs) ∙ locals_entered (suc x) ts vs xs h.1)
      ∙ ap (λ w. w ∷ (xs ++ zeros_of more)) (sym h.0)
  locals_entered x (I64 ∷ ts) (l ∷ u ∷ vs) (a ∷ xs) h =
      let bs : List Binding = bound_from (suc x) ts vs ++ zs in
      let some : List Binding = binding (spelled (numbered local_high x)) (marked u) ∷ bs in
      let all : List Binding = binding (spelled (numbered local_low x)) (marked l) ∷ some in
      ap (λ n. W64 (n + 2 ^ 32 * words_in all (numbered local_high x)) ∷ locals_from (suc x) (ts ++ more) (words_in all)) (bound_first (numbered local_low x) (marked l) some ∙ marked_word l)
      ∙ ap (λ n. W64 (to_uint32_of l + 2 ^ 32 * n) ∷ locals_from (suc x) (ts ++ more) (words_in all))
      (bound_later (numbered local_low x) (numbered local_high x) (marked l) some refl ∙ bound_first (numbered local_high x) (marked u) bs ∙ marked_word u)
      ∙ ap (λ ls. W64 (to_uint32_of l + 2 ^ 32 * to_uint32_of u) ∷ ls)
      (locals_agree (suc x) (ts ++ more) (words_in all) (words_in some) (low_apart x (marked l) some)
      ∙ locals_agree (suc x) (ts ++ more) (words_in some) (words_in bs) (high_apart x (marked u) bs)
      ∙ locals_entered (suc x) ts vs xs h.1)
      ∙ ap (λ w. w ∷ (xs ++ zeros_of more)) (sym h.0)
  locals_entered x [] [] (a ∷ xs) h = absurd h
  locals_entered x [] (v ∷ vs) xs h = absurd h
  locals_entered x (I32 ∷ ts) [] xs h = absurd h
  locals_entered x (I32 ∷ ts) (v ∷ vs) [] h = absurd h
  locals_entered x (I64 ∷ ts) [] xs h = absurd h
  locals_entered x (I64 ∷ ts) (v ∷ []) xs h = absurd h
  locals_entered x (I64 ∷ ts) (v ∷ u ∷ vs) [] h = absurd h

-- the words of a place whose variables these are
pub same_locals : (x : ℕ) (ts : List ValType) (q : Place) → locals_from x ts (words_in q.locals) ≡ locals_from x ts (word_at q)
same_locals x [] q = refl
same_locals x (I32 ∷ ts) q = ap (λ vs. W32 (word_at q (numbered local_low x)) ∷ vs) (same_locals (suc x) ts q)
same_locals x (I64 ∷ ts) q = ap (λ vs. W64 (word_at q (numbered local_low x) + 2 ^ 32 * word_at q (numbered local_high x)) ∷ vs) (same_locals (suc x) ts q)
