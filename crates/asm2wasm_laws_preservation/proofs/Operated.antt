-- Literals, and operators on operands that are on the stack.
use Rattle.std.proofs.Common.{◌≡◌, ℕ, ◌-◌, ◌^◌, Bool, true, List, [], ◌∷◌, Option, Some, ℤ, refl, ap}
use Rattle.sem_words.specs.declared.word.Word.{Word}
use Rattle.sem_words.specs.declared.word.Word.TheVariants.{W32}
use Rattle.sem_words.specs.declared.word.Bin.{Bin}
use Rattle.sem_words.specs.declared.word.Bin.TheVariants as bins
use Rattle.sem_words.specs.declared.word.Rel.{Rel}
use Rattle.sem_words.specs.declared.js_value.JsValue.{JsValue}
use Rattle.sem_words.specs.declared.js_value.JsValue.TheVariants.{Whole}
use Rattle.sem_words.specs.declared.js_value.JsOp.{JsOp}
use Rattle.sem_words.specs.declared.js_value.JsUnary.{JsUnary}
use Rattle.sem_words.specs.declared.js_value.JsUnary.TheVariants.{Neg, BitNot, Not, Plus}
use Rattle.sem_words.specs.Words.{word_of}
use Rattle.sem_words.specs.JsOperators.{js_binary_of, js_unary_of}
use Rattle.wasm_lang.specs.Instructions.{const32, bin32, rel32, eqz32}
use Rattle.wasm_lang_exec.specs.Code.{Trees, ◌⊕◌}
use Rattle.wasm_lang_exec.specs.Plain.{answer32}
use Rattle.asm_types.specs.declared.value_type.ValueType.{ValueType}
use Rattle.asm_types.specs.declared.value_type.ValueType.TheVariants.{Int}
use Rattle.asm_types.specs.Types.{is_below}
use Rattle.asm_types.specs.Rows.{unary_row_of}
use Rattle.asm_types.specs.Values.{fits_of}
use Rattle.asm_types.proofs.Sound.{wider, from_row}
use Rattle.asm_lang_exec.specs.Runs.{Part, and_then, gives, defined}
use Rattle.asm2wasm_translation.specs.Values.{one, number, before_operand, after_operand}
use Rattle.asm2wasm_laws_words.specs.Laws.{instruction_of, relation_of, compared}
use Rattle.asm2wasm_laws_words.proofs.Operated.{words_of_results, words_of_negations, words_of_complements}
use Rattle.asm2wasm_laws_words.proofs.Compared.{words_of_comparisons, words_of_nots}
use Rattle.asm2wasm_laws_run.specs.Straight.{on_from, effects}
use Rattle.asm2wasm_laws_run.specs.State.{AnyValue}
use Rattle.asm2wasm_laws_preservation.specs.Kept.{word, a_value, Surroundings, Keeps}
use Rattle.asm2wasm_laws_preservation.proofs.Joined.{keeps_then, keeps_over, keeps_same, keeps_defined, keeps_operation}

module _ (s : Surroundings) (limit d : ℕ) where
  pub keeps_literal : (z : ℤ) → Keeps s limit d [] (λ v. v ≡ Whole z) a_value (one (number (word_of 32 z))) (gives (Whole z))
  keeps_literal z = keeps_operation s limit d [] (λ v. v ≡ Whole z) a_value (const32 (word_of 32 z) ∷ []) (Whole z) refl (λ stack locals store. refl)

  -- a number below an operand
  pub keeps_under : {A : Type 0} (n : ℕ) (has : A → Type 0) (on : A → List Word) (code : Trees) (part : Part A)
      → Keeps s limit d (W32 n ∷ []) has on code part → Keeps s limit d [] has on (one (number n) ⊕ code) part
  keeps_under {A} n has on code part k =
      keeps_same s limit d [] has on (one (number n) ⊕ code) (and_then (gives (tt {0})) (λ (u : Unit {0}). part)) part (λ p. refl)
      (keeps_then s limit d [] (λ u. Unit {0}) (λ u. W32 n ∷ []) has on (one (number n)) code (gives (tt {0})) (λ u. part)
      (keeps_operation s limit d [] (λ u. Unit {0}) (λ u. W32 n ∷ []) (const32 n ∷ []) (tt {0}) (tt {0}) (λ stack locals store. refl)) (λ u t. k))

  -- ---- one operand

  difference : (n : ℕ) (o : Option JsValue) (v : JsValue)
      → ((x : JsValue) → o ≡ Some x → (stack locals : List Word) → effects (bin32 bins.Sub ∷ []) (word v ∷ W32 n ∷ stack) locals ≡ effects [] (word x ∷ stack) locals)
      → Keeps s limit d (word v ∷ W32 n ∷ []) AnyValue a_value (one (bin32 bins.Sub)) (defined o)
  difference n o v same =
      keeps_defined s limit d (word v ∷ W32 n ∷ []) AnyValue a_value (one (bin32 bins.Sub)) o
      (λ x e. keeps_operation s limit d (word v ∷ W32 n ∷ []) AnyValue a_value (bin32 bins.Sub ∷ []) x tt (λ stack locals store. ap (λ f. f store) (same x e stack locals)))

  pub keeps_unary : (op : JsUnary) (a t : ValueType) (has : JsValue → Type 0) (code : Trees) (part : Part JsValue)
      → unary_row_of op a ≡ Some t → ((v : JsValue) → has v → fits_of a v ≡ true)
      → Keeps s limit d [] has a_value code part
      → Keeps s limit d [] AnyValue a_value (before_operand op ⊕ (code ⊕ after_operand op)) (and_then part (λ v. defined (js_unary_of op v)))
  keeps_unary Neg a t has code part h fits k =
      keeps_under 0 AnyValue a_value (code ⊕ after_operand Neg) (and_then part (λ v. defined (js_unary_of Neg v)))
      (keeps_then s limit d (W32 0 ∷ []) has (λ v. word v ∷ W32 0 ∷ []) AnyValue a_value code (after_operand Neg) part (λ v. defined (js_unary_of Neg v))
      (keeps_over s limit d (W32 0 ∷ []) has a_value code part k)
      (λ v g. difference 0 (js_unary_of Neg v) v (λ x e stack locals. ap (λ n. effects [] (W32 n ∷ stack) locals) (words_of_negations v x e))))
  keeps_unary BitNot a t has code part h fits k =
      keeps_under (2 ^ 32 - 1) AnyValue a_value (code ⊕ after_operand BitNot) (and_then part (λ v. defined (js_unary_of BitNot v)))
      (keeps_then s limit d (W32 (2 ^ 32 - 1) ∷ []) has (λ v. word v ∷ W32 (2 ^ 32 - 1) ∷ []) AnyValue a_value code (after_operand BitNot) part (λ v. defined (js_unary_of BitNot v))
      (keeps_over s limit d (W32 (2 ^ 32 - 1) ∷ []) has a_value code part k)
      (λ v g. difference (2 ^ 32 - 1) (js_unary_of BitNot v) v (λ x e stack locals. ap (λ n. effects [] (W32 n ∷ stack) locals) (words_of_complements v x e))))
  keeps_unary Not a t has code part h fits k =
      keeps_then s limit d [] has a_value AnyValue a_value code (one eqz32) part (λ v. defined (js_unary_of Not v)) k
      (λ v g. keeps_defined s limit d (word v ∷ []) AnyValue a_value (one eqz32) (js_unary_of Not v)
      (λ x e. keeps_operation s limit d (word v ∷ []) AnyValue a_value (eqz32 ∷ []) x tt
      (λ stack locals store. ap (λ n. effects [] (W32 n ∷ stack) locals store) (words_of_nots v x (wider a Int v (from_row (is_below a Int) Int t h).0 (fits v g)) e))))
  keeps_unary Plus a t has code part h fits k = absurd (cc h)

  -- ---- two operands

  pub keeps_word : (op : JsOp) (bin : Bin) (v w : JsValue) → instruction_of op ≡ Some bin
      → Keeps s limit d (word w ∷ word v ∷ []) AnyValue a_value (one (bin32 bin)) (defined (js_binary_of op v w))
  keeps_word op bin v w h =
      keeps_defined s limit d (word w ∷ word v ∷ []) AnyValue a_value (one (bin32 bin)) (js_binary_of op v w)
      (λ x e. keeps_operation s limit d (word w ∷ word v ∷ []) AnyValue a_value (bin32 bin ∷ []) x tt
      (λ stack locals store. ap (λ r. on_from (answer32 r stack locals store) (effects [])) (words_of_results op bin v w x h e)))

  pub keeps_relation : (op : JsOp) (unsigned : Bool) (rel : Rel) (v w : JsValue) → relation_of op unsigned ≡ Some rel
      → fits_of (compared unsigned) v ≡ true → fits_of (compared unsigned) w ≡ true
      → Keeps s limit d (word w ∷ word v ∷ []) AnyValue a_value (one (rel32 rel)) (defined (js_binary_of op v w))
  keeps_relation op unsigned rel v w h f g =
      keeps_defined s limit d (word w ∷ word v ∷ []) AnyValue a_value (one (rel32 rel)) (js_binary_of op v w)
      (λ x e. keeps_operation s limit d (word w ∷ word v ∷ []) AnyValue a_value (rel32 rel ∷ []) x tt
      (λ stack locals store. ap (λ n. effects [] (W32 n ∷ stack) locals store) (words_of_comparisons op unsigned rel v w x h f g e)))
