-- A choice between two operands, and the size of the memory.
use Rattle.std.proofs.Common.{◌≡◌, ℕ, ◌+◌, ◌^◌, ◌≤◌, Bool, true, false, List, [], ◌∷◌, ◌++◌, length, take, Ok, refl, sym, ap, ◌∙◌, subst, arith}
use Rattle.std.specs.Prelude.{◌==◌, ◌*◌, ◌/◌, ◌%◌, if◌then◌else◌}
use Rattle.std.proofs.lemmas.List.{length-take-le}
use Rattle.std.proofs.lemmas.Bool.Decides.{nat_tests}
use Rattle.sem_words.specs.declared.word.Word.{Word}
use Rattle.sem_words.specs.declared.word.Word.TheVariants.{W32, W64}
use Rattle.wasm_lang.specs.declared.types.ValType.{ValType}
use Rattle.wasm_lang.specs.declared.types.ValType.TheVariants.{I32, I64}
use Rattle.wasm_lang.specs.Instructions.{select, memory_size}
use Rattle.wasm_lang_valid.specs.declared.rule.Rule.TheVariants.{NoMemory}
use Rattle.wasm_lang_valid.specs.Typing.{Shape, Fixed, TwoAlike, Acts, two_alike, unless}
use Rattle.wasm_lang_exec.specs.Store.{page}
use Rattle.wasm_lang_exec.specs.Plain as machine
use Rattle.wasm2js_translation.specs.Words.{Action, simply, put}
use Rattle.wasm2js_translation.specs.Pairs.{operand_pair, literal}
use Rattle.wasm2js_translation.specs.Bodies.{after_form}
use Rattle.wasm2js_laws_places.specs.Straight.{Words, with_word, Helping, goes, ActionsAsk, run_actions, actions_units}
use Rattle.wasm2js_laws_places.specs.Places.{value_at, operands, locals_of, store_with}
use Rattle.wasm2js_laws_preservation.specs.ControlControl.{Function}
use Rattle.wasm2js_laws_preservation.specs.InstructionsPlain.{IsAlike, IsPlain, code_of, Always}
use Rattle.wasm2js_laws_preservation.proofs.WideKept.{is_self, low, high, Keeps, kept_all, kept_low, kept_high, value_alike}
use Rattle.wasm2js_laws_typed.proofs.SoundPlain.{of_fixed}
use Rattle.wasm2js_laws_preservation.proofs.WideExtending.{drop_none}

-- ---- a choice

is_past : (d : ℕ) → (d == d + 2) ≡ false
is_past d = grind (arith, nat_tests)

module _ (d : ℕ) (words : Words) where
  abbrev zero_chosen : Bool
  zero_chosen = words (low (d + 2)) == 0

  abbrev low_chosen : ℕ
  low_chosen = if zero_chosen then words (low (d + 1)) else words (low d)

  abbrev first_chosen : Words
  first_chosen = with_word (low d) low_chosen words

  abbrev high_chosen : ℕ
  high_chosen = if first_chosen (low (d + 2)) == 0 then words (high (d + 1)) else words (high d)

  abbrev both_chosen : Words
  both_chosen = with_word (high d) high_chosen first_chosen

  same_test : high_chosen ≡ (if zero_chosen then words (high (d + 1)) else words (high d))
  same_test = rw (is_past d) refl

  first_is : first_chosen (low d) ≡ low_chosen
  first_is = rw (is_self d) refl

  second_is : both_chosen (high d) ≡ (if zero_chosen then words (high (d + 1)) else words (high d))
  second_is = let e : both_chosen (high d) ≡ high_chosen = rw (is_self d) refl in e ∙ same_test

  abbrev chosen : ValType → Words
  chosen I32 = first_chosen
  chosen I64 = both_chosen

  narrow_choice : (s : Bool) (x y : ℕ) → (if s then W32 y else W32 x) ≡ W32 (if s then y else x)
  narrow_choice true x y = refl
  narrow_choice false x y = refl

  wide_choice : (s : Bool) (x x' y y' : ℕ) → (if s then W64 (y + 2 ^ 32 * y') else W64 (x + 2 ^ 32 * x')) ≡ W64 ((if s then y else x) + 2 ^ 32 * (if s then y' else x'))
  wide_choice true x x' y y' = refl
  wide_choice false x x' y y' = refl

  chosen_is : (t : ValType) → (if zero_chosen then value_at t (operand_pair (d + 1)) words else value_at t (operand_pair d) words) ≡ value_at t (operand_pair d) (chosen t)
  chosen_is I32 = narrow_choice zero_chosen (words (low d)) (words (low (d + 1))) ∙ ap W32 (sym first_is)
  chosen_is I64 =
      wide_choice zero_chosen (words (low d)) (words (high d)) (words (low (d + 1))) (words (high (d + 1)))
      ∙ ap (λ y. W64 (low_chosen + 2 ^ 32 * y)) (sym second_is) ∙ ap (λ x. W64 (x + 2 ^ 32 * both_chosen (high d))) (sym first_is)

  chosen_keeps : (t : ValType) → Keeps d words (chosen t)
  chosen_keeps I32 = kept_low d low_chosen words words (kept_all d words)
  chosen_keeps I64 = kept_high d high_chosen words first_chosen (kept_low d low_chosen words words (kept_all d words))

module _ (f : Function) (helping : Helping) (b : ℕ) (below : List ValType) where
  abbrev d : ℕ
  d = b + length below

  abbrev before : ValType → List ValType
  before t = I32 ∷ t ∷ t ∷ below

  asks : (t : ValType) → ActionsAsk (code_of f helping select b (before t))
  asks I32 = (tt, tt)
  asks I64 = (tt, (tt, tt))

  costs_none : (t : ValType) (words : Words) (heap : List ℕ) → actions_units helping (code_of f helping select b (before t)) words heap ≡ 0
  costs_none I32 words heap = refl
  costs_none I64 words heap = refl

  runs : (t : ValType) (words : Words) (heap : List ℕ) → run_actions helping (code_of f helping select b (before t)) words heap ≡ goes (chosen d words t) heap
  runs I32 words heap = refl
  runs I64 words heap = refl

  module _ (t : ValType) (words : Words) where
    -- the choice stands above the second of the two, and that above the first
    abbrev chosen_of : (first second : ℕ) → Word
    chosen_of n m = if words (low n) == 0 then value_at t (operand_pair m) words else value_at t (operand_pair d) words

    stands_there : chosen_of (b + length (t ∷ t ∷ below)) (b + length (t ∷ below)) ≡ chosen_of (d + 2) (d + 1)
    stands_there =
        let top : b + length (t ∷ t ∷ below) ≡ d + 2 = omega arith in
        let middle : b + length (t ∷ below) ≡ d + 1 = omega arith in
        ap (λ n. chosen_of n (b + length (t ∷ below))) top ∙ ap (chosen_of (d + 2)) middle

  select_plain : (t : ValType) → IsPlain f helping select b (before t) (t ∷ below)
  select_plain t = record {
    types = ap (λ ts. t ∷ ts) (drop_none below);
    asks = asks t;
    paid = λ words heap. subst (λ n. n ≤ f.pace) (sym (costs_none t words heap)) (omega arith);
    free = λ e words heap. costs_none t words heap;
    alike = λ words heap replies events are is_heap.
        let v = chosen_of t words (b + length (t ∷ t ∷ below)) (b + length (t ∷ below)) in
        subst (λ o. IsAlike f helping b (t ∷ below) words heap replies events (machine.goes (v ∷ operands b below words) (locals_of f.context.locals words) (store_with f.setting words heap replies events)) o)
        (sym (runs t words heap))
        (value_alike f helping b below words (chosen d words t) heap replies events (chosen_keeps d words t) t v (stands_there t words ∙ chosen_is d words t));
  }

two_alike_takes : (P : List ValType → List ValType → Type 0) {takes gives : List ValType} → Acts TwoAlike takes gives → ((t : ValType) → P (I32 ∷ t ∷ t ∷ []) (t ∷ [])) → P takes gives
two_alike_takes P (two_alike {t = t}) h = h t

pub selected_is : Always select
selected_is f helping supports ls b form takes gives below is acts =
    let e : TwoAlike ≡ form = cc is in
    two_alike_takes (λ takes gives. IsPlain f helping select b (takes ++ below) (gives ++ below)) (subst (λ f. Acts f takes gives) (sym e) acts) (select_plain f helping b below)

-- ---- the size of the memory

abbrev size_code : ℕ → ℕ → List ValType → List Action
size_code bytes b ts = simply (put (low (b + length ts)) (literal (bytes / page))) ∷ []

few_pages : (bytes n : ℕ) → bytes ≤ n → n ≤ 2 ^ 28 → bytes / page % 2 ^ 32 ≡ bytes / page
few_pages bytes n h k = omega (arith, h, k)

module _ (f : Function) (helping : Helping) (b : ℕ) (below : List ValType) (c : f.context.memory ≡ true) where
  code_is : code_of f helping memory_size b below ≡ size_code f.setting.bytes b below
  code_is = ap (size_code f.setting.bytes b) (drop_none below)

  abbrev pages : ℕ
  pages = f.setting.bytes / page

  abbrev size_put : Words → Words
  size_put words = with_word (low (b + length below)) (pages % 2 ^ 32) words

  put_is : (words : Words) → size_put words (low (b + length below)) ≡ pages % 2 ^ 32
  put_is words = rw (is_self (b + length below)) refl

  size_plain : IsPlain f helping memory_size b below (I32 ∷ below)
  size_plain = record {
    types = ap (λ m. after_form (unless m NoMemory (Fixed [] (I32 ∷ []))) below) c ∙ ap (λ ts. I32 ∷ ts) (drop_none below);
    asks = subst ActionsAsk (sym code_is) (tt, tt);
    paid = λ words heap. subst (λ c. actions_units helping c words heap ≤ f.pace) (sym code_is) (omega arith);
    free = λ e words heap. subst (λ c. actions_units helping c words heap ≡ 0) (sym code_is) refl;
    alike = λ words heap replies events are is_heap.
        let d = b + length below in
        let size = length (take f.setting.bytes heap) / page in
        let effect = machine.goes (W32 size ∷ operands b below words) (locals_of f.context.locals words) (store_with f.setting words heap replies events) in
        subst (λ c. IsAlike f helping b (I32 ∷ below) words heap replies events effect (run_actions helping c words heap)) (sym code_is)
        (value_alike f helping b below words (size_put words) heap replies events (kept_low d (pages % 2 ^ 32) words words (kept_all d words)) I32 (W32 size)
        (ap (λ n. W32 (n / page)) (length-take-le f.setting.bytes heap is_heap.holds) ∙ ap W32 (sym (put_is words ∙ few_pages f.setting.bytes (length heap) is_heap.holds is_heap.small))));
  }

size_is_kept : (f : Function) (helping : Helping) (b : ℕ) (form : Shape) (takes gives below : List ValType) → Acts form takes gives → (m : Bool) → f.context.memory ≡ m
    → unless m NoMemory (Fixed [] (I32 ∷ [])) ≡ Ok form → IsPlain f helping memory_size b (takes ++ below) (gives ++ below)
size_is_kept f helping b form takes gives below acts false c is = absurd (cc is)
size_is_kept f helping b form takes gives below acts true c is =
    of_fixed (λ takes gives. IsPlain f helping memory_size b (takes ++ below) (gives ++ below)) [] (I32 ∷ []) takes gives form is acts (size_plain f helping b below c)

pub size_is : Always memory_size
size_is f helping supports ls b form takes gives below is acts = size_is_kept f helping b form takes gives below acts f.context.memory refl is
