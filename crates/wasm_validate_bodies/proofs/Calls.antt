-- The types that calls named, one more at a time.
use Rattle.std.proofs.Common.{◌≡◌, inl, inr, ℕ, ◌+◌, ◌^◌, ◌<◌, ◌≤◌, Bool, true, false, not, cond, ◌||◌, nat_eq, List, [], ◌∷◌, ◌++◌, length, get_or, map, take, Some, None, refl, sym, ap, ◌∙◌, subst, arith, append_assoc, append-nil}
use Rattle.std.specs.Global.{Vec}
use Rattle.std.specs.List.{list_any, IsDistinct}
use Rattle.std.proofs.lemmas.Map.Steps.{length-le_from_distinct_below}
use Rattle.std.specs.Prelude.{slice_get, Result, Ok, Err, IfOk, if◌then◌else◌}
use Rattle.std.specs.Cmp.Lexicographic.{pointwise}
use Rattle.std.proofs.lemmas.List.{map-append, length-append}
use Rattle.std.proofs.lemmas.List.Folds.{list_any-append}
use Rattle.std.proofs.lemmas.Option.{slice_get-get_or}
use Rattle.wasm_lang.specs.Instructions.{Instruction, call_indirect}
use Rattle.wasm_lang.specs.Modules.{FunctionType}
use Rattle.wasm_tree.specs.declared.instr.Instr.{Instr}
use Rattle.wasm_tree.specs.Views.{instr_of}
use Rattle.wasm_lang_valid.proofs.Main.{one_longer}
use Rattle.wasm_lang_valid.specs.Measures.{called, called_in, same_type, is_among, distinct}
use Rattle.wasm_validate_bodies.specs.declared.called.Called.{Called}
use Rattle.wasm_validate_bodies.specs.Calls.{form, holds, IsNoted, known, fresh, IsCalled}
use Rattle.wasm_validate_bodies.proofs.Forms.{form_same, bool, or_false, among_more, among_same, distinct_more, among_self, among_still, type_is}

pub if_ok : {A E : Type 0} {P Q : A → Type 0} (r : Result A E) → IfOk r P → ((x : A) → P x → Q x) → IfOk r Q
if_ok (Ok x) p f = f x p
if_ok (Err e) p f = tt

pub both_ok : {A E : Type 0} {P Q R : A → Type 0} (r : Result A E) → IfOk r P → IfOk r Q → ((x : A) → P x → Q x → R x) → IfOk r R
both_ok (Ok x) p q f = f x p q
both_ok (Err e) p q f = tt

-- the keys of a set after one was put into it
pub keys_longer : {A : Type 0} (before is_new : Bool) (keys new : List A) (k : A) → is_new ≡ not before → is_new ≡ true → new ≡ (if before then keys else keys ++ k ∷ []) → new ≡ keys ++ k ∷ []
keys_longer true is_new keys new k is e h = cc
keys_longer false is_new keys new k is e h = h

pub keys_same : {A : Type 0} (before is_new : Bool) (keys new : List A) (k : A) → is_new ≡ not before → is_new ≡ false → new ≡ (if before then keys else keys ++ k ∷ []) → (before ≡ true) × (new ≡ keys)
keys_same true is_new keys new k is e h = (refl, h)
keys_same false is_new keys new k is e h = cc

-- a set's keys after a form was put into it
pub noted : (f : List ℕ) (keys new : List (Vec ℕ)) (k : Vec ℕ) → k.items ≡ f → new ≡ (if list_any (λ x. pointwise nat_eq k.items x.items) keys then keys else keys ++ k ∷ []) → IsNoted f keys new
noted f keys new k is e = by (holds keys f) refl
  where
    same : list_any (λ x. pointwise nat_eq k.items x.items) keys ≡ holds keys f
    same = ap (holds keys) is

    by : (b : Bool) → holds keys f ≡ b → IsNoted f keys new
    by true h = subst (IsNoted f keys) (sym (e ∙ ap (λ b. if b then keys else keys ++ k ∷ []) (same ∙ h))) (known h)
    by false h = subst (IsNoted f keys) (sym (e ∙ ap (λ b. if b then keys else keys ++ k ∷ []) (same ∙ h))) (fresh h k is)

abbrev AreSmall : List ℕ → Type 0
AreSmall keys = (n : ℕ) → list_any (nat_eq n) keys ≡ true → n < 2 ^ 32

one_small : (n : ℕ) (keys : List ℕ) → n < 2 ^ 32 → AreSmall keys → AreSmall (keys ++ n ∷ [])
one_small n keys low are k e = elim (bool (list_any (nat_eq k) keys)) [ inl h ↦ are k h | inr h ↦ this (sym (list_any-append (nat_eq k) keys (n ∷ []) ∙ ap (λ b. b || (nat_eq k n || false)) h ∙ or_false (nat_eq k n)) ∙ e) ]
  where
    this : nat_eq k n ≡ true → k < 2 ^ 32
    this q = let same : n ≡ k = sym (grind arith) in subst (λ m. m < 2 ^ 32) same low

-- one more number, and one more form at most
one_longer_each : (n : ℕ) (numbers more : List ℕ) → more ≡ numbers ++ n ∷ [] → (keys new : List (Vec ℕ)) (f : List ℕ) → IsNoted f keys new → length keys ≤ length numbers → length new ≤ length more
one_longer_each n numbers more e keys _ f (known h) le = let l = ap length e ∙ length-append numbers (n ∷ []) in omega (arith, l, le)
one_longer_each n numbers more e keys _ f (fresh h k is) le = let l = ap length e ∙ length-append numbers (n ∷ []) in let m = length-append keys (k ∷ []) in omega (arith, l, m, le)

module _ (types before : List FunctionType) (n : ℕ) (t : FunctionType) (stands : slice_get types n ≡ Some t) where
  abbrev AreNumbers : List ℕ → List FunctionType → Type 0
  AreNumbers keys called = (n : ℕ) → list_any (nat_eq n) keys ≡ true → (t : FunctionType) × (slice_get types n ≡ Some t) × (is_among t called ≡ true)

  still : (keys : List ℕ) → AreNumbers keys before → AreNumbers keys (before ++ t ∷ [])
  still keys are k e = let a = are k e in (a.0, a.1, among_still a.0 t before a.2)

  abbrev AreForms : List (Vec ℕ) → List FunctionType → Type 0
  AreForms keys called = ((u : FunctionType) → holds keys (form u) ≡ is_among u called) × (length keys ≡ distinct called)

  same_forms : (keys : List (Vec ℕ)) → is_among t before ≡ true → AreForms keys before → AreForms keys (before ++ t ∷ [])
  same_forms keys there are =
      (λ u. are.0 u ∙ sym (among_same u t before there), are.1 ∙ sym (distinct_more before t ∙ ap (λ b. cond b (distinct before) (distinct before + 1)) there))

  new_form : (keys : List (Vec ℕ)) (k : Vec ℕ) → k.items ≡ form t → is_among t before ≡ false → AreForms keys before → AreForms (keys ++ k ∷ []) (before ++ t ∷ [])
  new_form keys k is not_there are = (
    λ u. list_any-append (λ x. pointwise nat_eq (form u) x.items) keys (k ∷ []) ∙ ap (λ b. b || (pointwise nat_eq (form u) k.items || false)) (are.0 u) ∙ ap (λ b. is_among u before || b) (or_false _ ∙ ap (pointwise nat_eq (form u)) is ∙ form_same u t) ∙ sym (among_more u t before),
    length-append keys (k ∷ []) ∙ ap (λ n. n + 1) are.1 ∙ sym (distinct_more before t ∙ ap (λ b. cond b (distinct before) (distinct before + 1)) not_there),
  )

  noted_forms : (keys new : List (Vec ℕ)) → IsNoted (form t) keys new → AreForms keys before → AreForms new (before ++ t ∷ [])
  noted_forms keys _ (known h) are = same_forms keys (sym (are.0 t) ∙ h) are
  noted_forms keys _ (fresh h k is) are = new_form keys k is (sym (are.0 t) ∙ h) are

  one_number : (keys : List ℕ) → AreNumbers keys before → AreNumbers (keys ++ n ∷ []) (before ++ t ∷ [])
  one_number keys are k e = elim (bool (list_any (nat_eq k) keys)) [ inl h ↦ still keys are k h | inr h ↦ this (sym (list_any-append (nat_eq k) keys (n ∷ []) ∙ ap (λ b. b || (nat_eq k n || false)) h ∙ or_false (nat_eq k n)) ∙ e) ]
    where
      this : nat_eq k n ≡ true → (u : FunctionType) × (slice_get types k ≡ Some u) × (is_among u (before ++ t ∷ []) ≡ true)
      this q = (t, subst (λ n. slice_get types n ≡ Some t) (sym (grind arith)) stands, among_self t before)

  abbrev AreNamed : List FunctionType → Type 0
  AreNamed called = (u : FunctionType) → is_among u called ≡ true → (k : ℕ) × (k < 2 ^ 32) × (slice_get types k ≡ Some u)

  one_named : n < 2 ^ 32 → AreNamed before → AreNamed (before ++ t ∷ [])
  one_named low are u e = elim (bool (is_among u before)) [ inl h ↦ are u h | inr h ↦ this (sym (among_more u t before ∙ ap (λ b. b || same_type u t) h) ∙ e) ]
    where
      this : same_type u t ≡ true → (k : ℕ) × (k < 2 ^ 32) × (slice_get types k ≡ Some u)
      this q = (n, low, stands ∙ ap Some (sym (type_is u t q)))

  -- the number was seen before
  pub seen : (c d : Called) → list_any (nat_eq n) c.numbers.keys ≡ true → d.numbers.keys ≡ c.numbers.keys → d.forms.keys ≡ c.forms.keys → IsCalled c types before → IsCalled d types (before ++ t ∷ [])
  seen c d h numbers forms is =
      let a = is.numbers n h in
      let same : a.0 ≡ t = let q : Some a.0 ≡ Some t = sym a.1 ∙ stands in cc in
      let there : is_among t before ≡ true = subst (λ u. is_among u before ≡ true) same a.2 in
      let f = subst (λ ks. AreForms ks (before ++ t ∷ [])) (sym forms) (same_forms c.forms.keys there (is.forms, is.count)) in
      record {
        numbers = subst (λ ks. AreNumbers ks (before ++ t ∷ [])) (sym numbers) (still c.numbers.keys is.numbers);
        forms = f.0;
        count = f.1;
        named = one_named (is.small n h) is.named;
        small = subst AreSmall (sym numbers) is.small;
        few_numbers = subst (λ ks. length ks ≤ 2 ^ 32) (sym numbers) is.few_numbers;
        few_forms = subst (λ ks. length ks ≤ length d.numbers.keys) (sym forms) (subst (λ ks. length c.forms.keys ≤ length ks) (sym numbers) is.few_forms);
      }

  -- .. and wasn't
  pub unseen : (c d : Called) → n < 2 ^ 32 → IsDistinct nat_eq d.numbers.keys → d.numbers.keys ≡ c.numbers.keys ++ n ∷ [] → IsNoted (form t) c.forms.keys d.forms.keys → IsCalled c types before → IsCalled d types (before ++ t ∷ [])
  unseen c d low apart numbers forms is =
      let f = noted_forms c.forms.keys d.forms.keys forms (is.forms, is.count) in
      let small = subst AreSmall (sym numbers) (one_small n c.numbers.keys low is.small) in
      record {
        numbers = subst (λ ks. AreNumbers ks (before ++ t ∷ [])) (sym numbers) (one_number c.numbers.keys is.numbers);
        forms = f.0;
        count = f.1;
        named = one_named low is.named;
        small = small;
        few_numbers = length-le_from_distinct_below d.numbers.keys (2 ^ 32) apart small;
        few_forms = one_longer_each n c.numbers.keys d.numbers.keys numbers c.forms.keys d.forms.keys (form t) forms is.few_forms;
      }

-- what one instruction calls

pub calls_one : (types : List FunctionType) (n : ℕ) (t : FunctionType) → slice_get types n ≡ Some t → called types (call_indirect n) ≡ t ∷ []
calls_one types n t e = rw e refl

pub calls_none : (types : List FunctionType) (n : ℕ) → slice_get types n ≡ None → called types (call_indirect n) ≡ []
calls_none types n e = rw e refl

called_append : (types : List FunctionType) (xs ys : List Instruction) → called_in types (xs ++ ys) ≡ called_in types xs ++ called_in types ys
called_append types [] ys = refl
called_append types (x ∷ xs) ys = ap (λ l. called types x ++ l) (called_append types xs ys) ∙ sym (append_assoc (called types x) (called_in types xs) (called_in types ys))

-- .. after those before
pub called_more : (types before : List FunctionType) (code : List Instr) (i : ℕ) (at : Instr) → at ≡ get_or code i at → i < length code → before ++ called_in types (map instr_of (take (i + 1) code)) ≡ (before ++ called_in types (map instr_of (take i code))) ++ called types (instr_of at)
called_more types before code i at is h =
    let stands : slice_get code i ≡ Some at = slice_get-get_or code i at h ∙ ap Some (sym is) in
    let longer = ap (map instr_of) (one_longer code i at stands) ∙ map-append instr_of (take i code) (at ∷ []) in
    ap (λ l. before ++ called_in types l) longer ∙ ap (λ l. before ++ l) (called_append types (map instr_of (take i code)) (instr_of at ∷ []) ∙ ap (λ l. called_in types (map instr_of (take i code)) ++ l) (append-nil (called types (instr_of at)))) ∙ sym (append_assoc before (called_in types (map instr_of (take i code))) (called types (instr_of at)))
