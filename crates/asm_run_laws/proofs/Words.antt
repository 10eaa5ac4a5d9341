-- Operators on words are those of asm.js on the values.
use Rattle.std.proofs.Common.{◌≡◌, Bool, true, false, ◌||◌, Some, pos, refl, sym, ap, ◌∙◌, subst}
use Rattle.std.specs.Int.Bits.{bit_or, or_zero_r}
use Rattle.sem_words.specs.declared.word.Bin.TheVariants as bins
use Rattle.sem_words.specs.declared.word.Rel.TheVariants as rels
use Rattle.sem_words.specs.declared.js_value.JsValue.{JsValue}
use Rattle.sem_words.specs.declared.js_value.JsValue.TheVariants.{Whole}
use Rattle.sem_words.specs.declared.js_value.JsOp.{JsOp}
use Rattle.sem_words.specs.declared.js_value.JsOp.TheVariants.{Add, Sub, Mul, Div, Rem, Or, And, Xor, Shl, Sar, Shr, Lt, Le, Gt, Ge, Eq, Ne}
use Rattle.sem_words.specs.JsValues.{to_uint32_of}
use Rattle.sem_words.specs.JsOperators.{js_binary_of}
use Rattle.asm_types.specs.declared.value_type.ValueType.{ValueType}
use Rattle.asm_types.specs.Rows.{row, accepts, alike}
use Rattle.asm_types.specs.Values.{fits_of}
use Rattle.asm_types.proofs.Sound.{wider, from_row}
use Rattle.std.proofs.lemmas.Bool.{and_parts}
use Rattle.asm_lang.specs.Modules.{Expr}
use Rattle.asm_lang_valid.specs.Typing.{operated}
use Rattle.asm_lang_exec.specs.Meaning as meaning
use Rattle.asm2wasm_laws_words.specs.Laws.{compared, is_unsigned_type}
use Rattle.asm2wasm_laws_words.proofs.Operated.{words_of_results}
use Rattle.asm2wasm_laws_words.proofs.Compared.{words_of_comparisons}
use Rattle.asm2wasm_laws_words.proofs.Formed.{alike_by_one}
use Rattle.asm2wasm_laws_words.proofs.Divided.{signed_quotients, unsigned_quotients, signed_remainders, unsigned_remainders}
use Rattle.asm_run_code.specs.Operators.{or_zero, word_op, operator_of, link_operator}

pub record Alike (unsigned : Bool) (v w : JsValue) : Type 0 where
  pub first : fits_of (compared unsigned) v ≡ true
  pub second : fits_of (compared unsigned) w ≡ true

alike_fits : (a b t r : ValueType) (unsigned : Bool) (v w : JsValue) → unsigned ≡ (is_unsigned_type a || is_unsigned_type b) → row (accepts alike a b) r ≡ Some t → fits_of a v ≡ true → fits_of b w ≡ true → Alike unsigned v w
alike_fits a b t r unsigned v w e h f g =
    let top = compared (is_unsigned_type a || is_unsigned_type b) in
    let p = and_parts _ _ (alike_by_one a b (from_row (accepts alike a b) r t h).0) in
    subst (λ u. Alike u v w) (sym e) (record { first = wider a top v p.0 f; second = wider b top w p.1 g })

pub operator_word : (op : JsOp) (l r : Expr) (a b t : ValueType) (unsigned : Bool) (v w y : JsValue) → unsigned ≡ (is_unsigned_type a || is_unsigned_type b)
    → operated op l r (Some a) (Some b) ≡ Some t → fits_of a v ≡ true → fits_of b w ≡ true → js_binary_of op v w ≡ Some y
    → word_op (operator_of op unsigned) (to_uint32_of v) (to_uint32_of w) ≡ to_uint32_of y
operator_word Add l r a b t unsigned v w y e h f g is = ap or_zero (words_of_results Add bins.Add v w y refl is)
operator_word Sub l r a b t unsigned v w y e h f g is = ap or_zero (words_of_results Sub bins.Sub v w y refl is)
operator_word Mul l r a b t unsigned v w y e h f g is = ap or_zero (words_of_results Mul bins.Mul v w y refl is)
operator_word Or l r a b t unsigned v w y e h f g is = ap or_zero (words_of_results Or bins.Or v w y refl is)
operator_word And l r a b t unsigned v w y e h f g is = ap or_zero (words_of_results And bins.And v w y refl is)
operator_word Xor l r a b t unsigned v w y e h f g is = ap or_zero (words_of_results Xor bins.Xor v w y refl is)
operator_word Shl l r a b t unsigned v w y e h f g is = ap or_zero (words_of_results Shl bins.Shl v w y refl is)
operator_word Sar l r a b t unsigned v w y e h f g is = ap or_zero (words_of_results Sar bins.ShrS v w y refl is)
operator_word Shr l r a b t unsigned v w y e h f g is = ap or_zero (words_of_results Shr bins.ShrU v w y refl is)
operator_word Div l r a b t true v w y e h f g is = let k = alike_fits a b t _ true v w e h f g in ap or_zero (unsigned_quotients v w y k.first k.second is)
operator_word Div l r a b t false v w y e h f g is = let k = alike_fits a b t _ false v w e h f g in ap or_zero (signed_quotients v w y k.first k.second is)
operator_word Rem l r a b t true v w y e h f g is = let k = alike_fits a b t _ true v w e h f g in ap or_zero (unsigned_remainders v w y k.first k.second is)
operator_word Rem l r a b t false v w y e h f g is = let k = alike_fits a b t _ false v w e h f g in ap or_zero (signed_remainders v w y k.first k.second is)
operator_word Lt l r a b t true v w y e h f g is = let k = alike_fits a b t _ true v w e h f g in words_of_comparisons Lt true rels.LtU v w y refl k.first k.second is
operator_word Lt l r a b t false v w y e h f g is = let k = alike_fits a b t _ false v w e h f g in words_of_comparisons Lt false rels.LtS v w y refl k.first k.second is
operator_word Le l r a b t true v w y e h f g is = let k = alike_fits a b t _ true v w e h f g in words_of_comparisons Le true rels.LeU v w y refl k.first k.second is
operator_word Le l r a b t false v w y e h f g is = let k = alike_fits a b t _ false v w e h f g in words_of_comparisons Le false rels.LeS v w y refl k.first k.second is
operator_word Gt l r a b t true v w y e h f g is = let k = alike_fits a b t _ true v w e h f g in words_of_comparisons Gt true rels.GtU v w y refl k.first k.second is
operator_word Gt l r a b t false v w y e h f g is = let k = alike_fits a b t _ false v w e h f g in words_of_comparisons Gt false rels.GtS v w y refl k.first k.second is
operator_word Ge l r a b t true v w y e h f g is = let k = alike_fits a b t _ true v w e h f g in words_of_comparisons Ge true rels.GeU v w y refl k.first k.second is
operator_word Ge l r a b t false v w y e h f g is = let k = alike_fits a b t _ false v w e h f g in words_of_comparisons Ge false rels.GeS v w y refl k.first k.second is
operator_word Eq l r a b t unsigned v w y e h f g is = let k = alike_fits a b t _ unsigned v w e h f g in words_of_comparisons Eq unsigned rels.Eq v w y refl k.first k.second is
operator_word Ne l r a b t unsigned v w y e h f g is = let k = alike_fits a b t _ unsigned v w e h f g in words_of_comparisons Ne unsigned rels.Ne v w y refl k.first k.second is

pub link_word : (minus : Bool) (v w y : JsValue) → js_binary_of (meaning.link_operator minus) v w ≡ Some y → word_op (link_operator minus) (to_uint32_of v) (to_uint32_of w) ≡ to_uint32_of y
link_word true v w y is = ap or_zero (words_of_results Sub bins.Sub v w y refl is)
link_word false v w y is = ap or_zero (words_of_results Add bins.Add v w y refl is)

-- `|0` leaves the word as it is
pub same_word : (v y : JsValue) → js_binary_of Or v (Whole (pos 0)) ≡ Some y → to_uint32_of v ≡ to_uint32_of y
same_word v y e =
    let ok = words_of_results Or bins.Or v (Whole (pos 0)) y refl e in
    let n : bit_or (to_uint32_of v) 0 ≡ to_uint32_of y = cc ok in
    sym (or_zero_r (to_uint32_of v)) ∙ n
