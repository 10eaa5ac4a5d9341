-- Each typed expression is kept by its code.
use Rattle.std.proofs.Common.{◌≡◌, ℕ, suc, ◌+◌, ◌^◌, ◌<◌, ◌≤◌, Bool, true, false, ◌&&◌, ◌||◌, List, [], ◌∷◌, ◌++◌, length, Option, Some, None, is_some, pos, refl, sym, ap, ◌∙◌, subst, arith}
use Rattle.std.proofs.lemmas.Bool.{and_parts, eqb-true}
use Rattle.std.specs.Prelude.{if◌then◌else◌}
use Rattle.sem_words.specs.declared.word.Word.{Word}
use Rattle.sem_words.specs.declared.word.Word.TheVariants.{W32}
use Rattle.sem_words.specs.declared.js_value.JsValue.{JsValue}
use Rattle.sem_words.specs.declared.js_value.JsValue.TheVariants.{Whole}
use Rattle.sem_words.specs.declared.js_value.JsOp.{JsOp}
use Rattle.sem_words.specs.declared.js_value.JsOp.TheVariants.{Or, Sar}
use Rattle.sem_words.specs.Words.{word_of}
use Rattle.sem_words.specs.JsValues.{to_uint32_of, truthy_of}
use Rattle.sem_words.specs.JsOperators.{js_binary_of, js_unary_of}
use Rattle.heap_lang.specs.Heap.{IsHeapLength}
use Rattle.wasm_lang.specs.declared.types.ValType.TheVariants.{I32}
use Rattle.wasm_lang.specs.Instructions.{const32, local_get, local_set, bin32, drop_operand}
use Rattle.wasm_lang_exec.specs.Code.{Trees, ε, ◌▹◌, ◌⊕◌, if_block}
use Rattle.asm_types.specs.declared.value_type.ValueType.{ValueType}
use Rattle.asm_types.specs.declared.value_type.ValueType.TheVariants.{Signed, Int, Intish, Extern}
use Rattle.asm_types.specs.Rows.{row, unary_row_of}
use Rattle.asm_types.proofs.Sound.{wider, from_row}
use Rattle.asm_lang.specs.Modules.{Expr, lit, decimal, var, index, call, table_call, assign, store, unary, binary, chain, cond, comma, Exprs, no_exprs, exprs, Links, no_links, links}
use Rattle.asm_lang_valid.specs.Scope.{Meaning, first_member, nothing, an_int, an_outside, a_foreign, a_builtin, a_view, a_function, a_table, a_parameter}
use Rattle.asm_lang_valid.specs.Refusal.{foreign_globals, has_heap}
use Rattle.asm_lang_valid.specs.Rows.{expr_count}
use Rattle.asm_lang_valid.specs.LimitRows.{Mark, expr_marks, exprs_marks, links_marks, comma_marks, call_marks, callee_marks, foreign_calls}
use Rattle.asm_lang_valid.specs.Typing.{Scope, named, typed_below, is_int, matches, bare_index, index_form, index_fits, operated, exprs_length, is_call, or_zero, builtin_call, callee_fits, table_fits, mask_fits, type_of, all_below, links_fit, call_fits, last_type}
use Rattle.asm_lang_valid.specs.Typed.{scope_of}
use Rattle.asm_lang_exec.specs.Runs.{Run, goes, stops, spent, wrong, Part, after, and_then, gives, goes_wrong, defined, read, write}
use Rattle.asm_lang_exec.specs.Values.{Calls, read_element, write_element, call_named, entry_of}
use Rattle.asm_lang_exec.specs.Meaning.{in_type, seen, eval, eval_all, eval_links, eval_last}
use Rattle.asm_laws_sound.proofs.Members.{Typed, Good, good_name}
use Rattle.asm_laws_sound.proofs.Expressions.{from_bind, from_if, from_below, from_some, Masks, Valued, known_binary, index_of, operands_of, builtin_of, masked_known}
use Rattle.asm2wasm_translation.specs.Numbers.{place_of, base_of}
use Rattle.asm2wasm_translation.specs.Values as translated
use Rattle.asm2wasm_translation.specs.Values.{plains, one, number, is_unsigned, operator, get_code, put_code, exponent_in, aligned, literal_place, is_shift, place_code, load_code, store_code, stored_code, before_operand, after_operand, callee_code, dropped, from_base, entry_code, finished, expr_code, left_code, arguments_code, links_code, comma_code}
use Rattle.asm2wasm_laws_words.specs.Laws.{is_unsigned_type}
use Rattle.asm2wasm_laws_words.proofs.Compared.{words_of_conditions}
use Rattle.asm2wasm_laws_words.proofs.Formed.{form_says_type}
use Rattle.asm2wasm_laws_run.specs.State.{AnyValue, IsIndex}
use Rattle.asm2wasm_laws_preservation.specs.Kept.{word, a_value, values, no_value, result, Surroundings, Keeps}
use Rattle.asm2wasm_laws_preservation.specs.Made.{AllListed, Within, CallsKept}
use Rattle.asm2wasm_laws_preservation.proofs.Rooms.{first_within, second_within, arms_within, listed_parts}
use Rattle.asm2wasm_laws_preservation.proofs.Joined.{keeps_then, keeps_weaker, keeps_over, keeps_same, keeps_known, keeps_seen, keeps_none, keeps_gives, keeps_operation}
use Rattle.asm2wasm_laws_preservation.proofs.Operated.{keeps_literal, keeps_unary}
use Rattle.asm2wasm_laws_preservation.proofs.Variables.{keeps_read, keeps_write}
use Rattle.asm2wasm_laws_preservation.proofs.Chosen.{keeps_chosen, keeps_finished, keeps_link, keeps_or_zero}
use Rattle.asm2wasm_laws_preservation.proofs.Meant.{in_module, view_said}
use Rattle.asm2wasm_laws_preservation.proofs.Scratch.{scratch_x, scratch_y}
use Rattle.asm2wasm_laws_preservation.proofs.Stepped.{index_is, IsIndexAt, keeps_operator, keeps_index, keeps_stored}
use Rattle.asm2wasm_laws_preservation.proofs.Placed.{few_exponents, form_at, bare_is, literal_is, shifted_place, keeps_shift}
use Rattle.asm2wasm_laws_preservation.proofs.Called.{values_more, keeps_builtin, keeps_named, keeps_entry, keeps_place, keeps_waiting}

-- a call that isn't one of the standard library has no type
no_builtin : (mm : Meaning) (result : Bool) (count count' : ℕ) (a b d : Bool) → callee_fits mm result count a b ≡ true → builtin_call mm count' d ≡ None
no_builtin (a_builtin x) result count count' a b d h = absurd (cc h)
no_builtin mm result count count' a b d h = refl

shift_isnt_or : (op : JsOp) (r : Expr) (b : Bool) → is_shift op ≡ true → (b && or_zero op r) ≡ false
shift_isnt_or Sar r true e = refl
shift_isnt_or Sar r false e = refl
shift_isnt_or op r b e = absurd (cc e)

shift_operated : (b : Bool) (x y o : Option ValueType) → (if b && false then x else y) ≡ o → y ≡ o
shift_operated true x y o h = h
shift_operated false x y o h = h

-- the place on the stack where the code of an index ends
abbrev place_at : ℕ → Expr → JsValue → ℕ
place_at k (lit z) v = literal_place k z
place_at k (binary op l r) v = if is_shift op then shifted_place k v else to_uint32_of v
place_at k e v = to_uint32_of v

unseen : (o : Run JsValue) → o ≡ after o (λ v. if in_type None v then gives v else goes_wrong)
unseen (goes v p) = refl
unseen (stops e p) = refl
unseen (spent p) = refl
unseen wrong = refl

module _ (s : Surroundings) (limit : ℕ) (calls : Calls) (kept : CallsKept s limit calls) (given : length s.fixed.given ≡ length (foreign_globals s.home)) (long : has_heap s.home ≡ true → IsHeapLength s.heap) (ok : Typed s.home) where
  abbrev c : Scope
  c = scope_of s.home s.within

  abbrev code_of : Bool → ℕ → Expr → Trees
  code_of wanted d e = expr_code s.heap c wanted d e

  abbrev does : Expr → Part JsValue
  does e = eval true calls c e

  abbrev Listed : List Mark → Type 0
  Listed ms = AllListed (foreign_calls s.home) ms

  finished_within : (wanted : Bool) (code : Trees) → Within s (finished wanted code) → Within s code
  finished_within true code h = h
  finished_within false code h = first_within s code (one drop_operand) h

  keeps_unseen : (d : ℕ) (on : JsValue → List Word) (code : Trees) (o : Option ValueType) (part : Part JsValue) → o ≡ None → Keeps s limit d [] AnyValue on code part → Keeps s limit d [] AnyValue on code (seen true o part)
  keeps_unseen d on code o part e k = subst (λ o. Keeps s limit d [] AnyValue on code (seen true o part)) (sym e) (keeps_same s limit d [] AnyValue on code part (seen true None part) (λ p. unseen (part p)) k)

  any : (t : ValueType) (e : Expr) (d : ℕ) (on : JsValue → List Word) (code : Trees) (part : Part JsValue) → Keeps s limit d [] (Valued t e) on code part → Keeps s limit d [] AnyValue on code part
  any t e d on code part k = keeps_weaker s limit d [] (Valued t e) AnyValue on code part (λ v g. tt) k

  -- ---- operators of two operands

  zero_kept : (op : JsOp) (l r : Expr) (d : ℕ) (has : JsValue → Type 0) → or_zero op r ≡ true → Keeps s limit d [] has a_value (code_of true d l) (does l)
      → Keeps s limit d [] (Masks op r) a_value (code_of true d l) (and_then (does l) (λ v. and_then (does r) (λ w. defined (js_binary_of op v w))))
  zero_kept Or l (lit (pos n)) d has h k =
      subst (λ n. Keeps s limit d [] (Masks Or (lit (pos n))) a_value (code_of true d l) (and_then (does l) (λ v. and_then (does (lit (pos n))) (λ w. defined (js_binary_of Or v w))))) (sym (eqb-true n 0 h))
      (keeps_or_zero s limit d has (code_of true d l) (does l) (does (lit (pos 0))) (λ p. refl) k)
  zero_kept op l r d has h k = absurd (cc h)

  module _ (op : JsOp) (l r : Expr) (t : ValueType) (d : ℕ) where
    abbrev operation : Trees
    operation = operator op (is_unsigned l || is_unsigned r) (scratch_x s limit d) (scratch_y s limit d)

    abbrev both_do : Part JsValue
    both_do = and_then (does l) (λ v. and_then (does r) (λ w. defined (js_binary_of op v w)))

    operated_kept : operated op l r (type_of c l) (type_of c r) ≡ Some t → Within s (code_of true d l ⊕ (code_of true d r ⊕ operation))
        → (Within s (code_of true d l) → (a : ValueType) → type_of c l ≡ Some a → Keeps s limit d [] (Valued a l) a_value (code_of true d l) (does l))
        → (Within s (code_of true d r) → (b : ValueType) → type_of c r ≡ Some b → Keeps s limit d [] (Valued b r) a_value (code_of true d r) (does r))
        → Keeps s limit d [] (Masks op r) a_value (code_of true d l ⊕ (code_of true d r ⊕ operation)) both_do
    operated_kept h room left right =
        let o = operands_of op l r (type_of c l) (type_of c r) t h in
        let rest = second_within s (code_of true d l) (code_of true d r ⊕ operation) room in
        let unsigned : (is_unsigned l || is_unsigned r) ≡ (is_unsigned_type o.left || is_unsigned_type o.right)
        = ap (λ a. a || is_unsigned r) (form_says_type c l o.left o.left_is) ∙ ap (λ b. is_unsigned_type o.left || b) (form_says_type c r o.right o.right_is) in
        keeps_then s limit d [] (Valued o.left l) a_value (Masks op r) a_value (code_of true d l) (code_of true d r ⊕ operation) (does l) (λ v. and_then (does r) (λ w. defined (js_binary_of op v w)))
        (left (first_within s (code_of true d l) (code_of true d r ⊕ operation) room) o.left o.left_is)
        (λ v g. keeps_then s limit d (word v ∷ []) (Valued o.right r) (λ w. word w ∷ word v ∷ []) (Masks op r) a_value (code_of true d r) operation (does r) (λ w. defined (js_binary_of op v w))
        (keeps_over s limit d (word v ∷ []) (Valued o.right r) a_value (code_of true d r) (does r) (right (first_within s (code_of true d r) operation rest) o.right o.right_is))
        (λ w g'. keeps_known s limit d (word w ∷ word v ∷ []) (Masks op r) a_value operation (js_binary_of op v w) (λ x e. known_binary op r v w x g'.1 e)
        (keeps_operator s limit d op l r o.left o.right t (is_unsigned l || is_unsigned r) v w unsigned o.row_is (second_within s (code_of true d r) operation rest) g.0 g'.0)))

    binary_kept : (zero both : Bool) → or_zero op r ≡ zero → (is_call c l && zero) ≡ both
        → (if both then row (call_fits c true l) Signed else operated op l r (type_of c l) (type_of c r)) ≡ Some t
        → Within s (if zero then code_of true d l else code_of true d l ⊕ (code_of true d r ⊕ operation))
        → (both ≡ true → Within s (code_of true d l) → call_fits c true l ≡ true → Keeps s limit d [] AnyValue a_value (code_of true d l) (does l))
        → (both ≡ false → Within s (code_of true d l) → (a : ValueType) → type_of c l ≡ Some a → Keeps s limit d [] (Valued a l) a_value (code_of true d l) (does l))
        → (both ≡ false → Within s (code_of true d r) → (b : ValueType) → type_of c r ≡ Some b → Keeps s limit d [] (Valued b r) a_value (code_of true d r) (does r))
        → Keeps s limit d [] (Masks op r) a_value (if zero then code_of true d l else code_of true d l ⊕ (code_of true d r ⊕ operation)) both_do
    binary_kept true true z is h room by_call left right = zero_kept op l r d AnyValue z (by_call refl room (from_row (call_fits c true l) Signed t h).0)
    binary_kept true false z is h room by_call left right =
        let o = operands_of op l r (type_of c l) (type_of c r) t h in zero_kept op l r d (Valued o.left l) z (left refl room o.left o.left_is)
    binary_kept false true z is h room by_call left right = let p = and_parts (is_call c l) false is in absurd (cc p.1)
    binary_kept false false z is h room by_call left right = operated_kept h room (left refl) (right refl)

  -- ---- where the element of an index begins

  abbrev place_of_index : (k d : ℕ) → Expr → Trees
  place_of_index k d i = place_code k i (code_of true d i) (left_code s.heap c d i)

  -- the left operand of a shift
  abbrev LeftKept : ℕ → Expr → Type 0
  LeftKept d (binary op l r) = is_shift op ≡ true → Within s (code_of true d l) → (a : ValueType) → type_of c l ≡ Some a → Keeps s limit d [] (Valued a l) a_value (code_of true d l) (does l)
  LeftKept d e = Unit {0}

  bare_kept : (k : ℕ) (i : Expr) (t : ValueType) (d : ℕ) → bare_index k (Some t) ≡ true → ((v : JsValue) → Valued t i v → IsIndex v)
      → Keeps s limit d [] (Valued t i) a_value (code_of true d i) (does i)
      → Keeps s limit d [] (λ v. IsIndexAt k (to_uint32_of v) v) (λ v. W32 (to_uint32_of v) ∷ []) (code_of true d i) (does i)
  bare_kept k i t d form whole value =
      keeps_weaker s limit d [] (Valued t i) (λ v. IsIndexAt k (to_uint32_of v) v) a_value (code_of true d i) (does i)
      (λ v g. subst (λ k. IsIndexAt k (to_uint32_of v) v) (sym (eqb-true k 0 (and_parts _ _ form).0)) (bare_is v (whole v g))) value

  place_kept : (k : ℕ) → k ≤ 2 → (i : Expr) (t : ValueType) (d : ℕ) → type_of c i ≡ Some t → index_form k i (Some t) ≡ true → ((v : JsValue) → Valued t i v → IsIndex v)
      → (Within s (code_of true d i) → Keeps s limit d [] (Valued t i) a_value (code_of true d i) (does i)) → LeftKept d i → Within s (place_of_index k d i)
      → Keeps s limit d [] (λ v. IsIndexAt k (place_at k i v) v) (λ v. W32 (place_at k i v) ∷ []) (place_of_index k d i) (does i)
  place_kept k few (lit z) t d h form whole value left room =
      keeps_weaker s limit d [] (Valued t (lit z)) (λ v. IsIndexAt k (literal_place k z) v) (λ v. W32 (literal_place k z) ∷ []) (one (number (literal_place k z))) (does (lit z))
      (λ v g. literal_is k z few form v (whole v g) g.1)
      (keeps_seen s limit d [] t (type_of c (lit z)) (λ v. v ≡ Whole z) (λ v. W32 (literal_place k z) ∷ []) (one (number (literal_place k z))) (gives (Whole z)) h
      (keeps_operation s limit d [] (λ v. v ≡ Whole z) (λ v. W32 (literal_place k z) ∷ []) (const32 (literal_place k z) ∷ []) (Whole z) refl (λ stack locals store. refl)))
  place_kept k few (binary Sar l r) t d h form whole value left room =
      let o = operands_of Sar l r (type_of c l) (type_of c r) t (shift_operated (is_call c l) (row (call_fits c true l) Signed) (operated Sar l r (type_of c l) (type_of c r)) (Some t) h) in
      let at = λ (v : JsValue). IsIndexAt k (shifted_place k v) v in
      let on = λ (v : JsValue). W32 (shifted_place k v) ∷ [] in
      let part = and_then (does l) (λ v. and_then (does r) (λ w. defined (js_binary_of Sar v w))) in
      keeps_weaker s limit d [] (λ v. (in_type (Some t) v ≡ true) × at v) at on (code_of true d l ⊕ plains (aligned k)) (does (binary Sar l r)) (λ v g. g.1)
      (keeps_seen s limit d [] t (type_of c (binary Sar l r)) at on (code_of true d l ⊕ plains (aligned k)) part h
      (keeps_then s limit d [] (Valued o.left l) a_value at on (code_of true d l) (plains (aligned k)) (does l) (λ v. and_then (does r) (λ w. defined (js_binary_of Sar v w)))
      (left refl (first_within s (code_of true d l) (plains (aligned k)) room) o.left o.left_is)
      (λ v g. keeps_shift s limit d calls c k v r few form)))
  place_kept k few i t d h form whole value left room = bare_kept k i t d form whole (value room)

  -- ---- an expression whose value isn't used

  pub effect_kept : (e : Expr) (d : ℕ) (ms ns : List Mark) (b : Bool) → (if b then call_fits c false e else is_some (type_of c e)) ≡ true → Listed (if b then ms else ns)
      → (call_fits c false e ≡ true → Listed ms → Keeps s limit d [] AnyValue no_value (code_of false d e) (does e))
      → ((t : ValueType) → type_of c e ≡ Some t → Listed ns → Keeps s limit d [] (Valued t e) no_value (code_of false d e) (does e))
      → Keeps s limit d [] AnyValue no_value (code_of false d e) (does e)
  effect_kept e d ms ns true h l by_call typed = by_call h l
  effect_kept e d ms ns false h l by_call typed = let t = from_some (type_of c e) h in any t.0 e d no_value (code_of false d e) (does e) (typed t.0 t.1 l)

  -- arguments that fit a callee
  arguments_kept : (es : Exprs) (mm : Meaning) (wanted : Bool) (d : ℕ) → callee_fits mm wanted (exprs_length es) (all_below c Int es) (all_below c Extern es) ≡ true
      → ((top : ValueType) → all_below c top es ≡ true → Keeps s limit d [] (λ vs. length vs ≡ exprs_length es) values (arguments_code s.heap c d es) (eval_all true calls c es))
      → Keeps s limit d [] (λ vs. length vs ≡ exprs_length es) values (arguments_code s.heap c d es) (eval_all true calls c es)
  arguments_kept es (a_function g) wanted d h all = all Int (and_parts _ _ h).1
  arguments_kept es (a_foreign name) wanted d h all = all Extern h
  arguments_kept es nothing wanted d h all = absurd (cc h)
  arguments_kept es an_int wanted d h all = absurd (cc h)
  arguments_kept es an_outside wanted d h all = absurd (cc h)
  arguments_kept es (a_builtin b) wanted d h all = absurd (cc h)
  arguments_kept es (a_view v) wanted d h all = absurd (cc h)
  arguments_kept es (a_table t) wanted d h all = absurd (cc h)
  arguments_kept es a_parameter wanted d h all = absurd (cc h)

  -- ---- a call of a table's entry

  module _ (n : List ℕ) (i : Expr) (es : Exprs) (wanted : Bool) (d : ℕ) where
    abbrev waiting : Meaning → Trees
    waiting mm = one (local_set (scratch_x s limit d)) ⊕ (arguments_code s.heap c (suc d) es ⊕ (one (local_get (scratch_x s limit d)) ⊕ entry_code c mm))

    table_kept : (mm : Meaning) (t : ValueType) → named c n ≡ mm → table_fits s.home mm wanted (exprs_length es) (all_below c Int es) ≡ true → mask_fits mm i ≡ true → d + 1 ≤ s.scratch
        → Keeps s limit d [] (Valued t i) a_value (code_of true d i) (does i)
        → (all_below c Int es ≡ true → Keeps s limit (suc d) [] (λ vs. length vs ≡ exprs_length es) values (arguments_code s.heap c (suc d) es) (eval_all true calls c es))
        → Keeps s limit d [] AnyValue (result wanted) (code_of true d i ⊕ (plains (from_base (base_of s.home n)) ⊕ waiting mm))
        (and_then (does i) (λ x. and_then (eval_all true calls c es) (λ vs. and_then (defined (entry_of s.home mm x)) (λ g. calls g vs))))
    table_kept (a_table u) t e h mask some at all =
        let p = and_parts _ _ h in
        let mm = in_module s.home s.within n (a_table u) e (λ q. q) in
        let base = base_of s.home n in
        let good = subst (λ mm. Good s.home mm) e (good_name s.home ok s.within n) in
        keeps_then s limit d [] (Valued t i) a_value AnyValue (result wanted) (code_of true d i) (plains (from_base base) ⊕ waiting (a_table u)) (does i) (λ x. and_then (eval_all true calls c es) (λ vs. and_then (defined (entry_of s.home (a_table u) x)) (λ g. calls g vs))) at
        (λ x known.
        let j = masked_known i x (length u.members) mask known.1 good.1 in
        let room = kept.places n u mm in
        let small : base + j.0 < 2 ^ 32 = let less = j.2 in omega (arith, less, room) in
        let same : word_of 32 (pos j.0) ≡ j.0 = omega (arith, small) in
        subst (λ x. Keeps s limit d (word x ∷ []) AnyValue (result wanted) (plains (from_base base) ⊕ waiting (a_table u)) (and_then (eval_all true calls c es) (λ vs. and_then (defined (entry_of s.home (a_table u) x)) (λ g. calls g vs)))) (sym j.1)
        (subst (λ k. Keeps s limit d (W32 k ∷ []) AnyValue (result wanted) (plains (from_base base) ⊕ waiting (a_table u)) (and_then (eval_all true calls c es) (λ vs. and_then (defined (entry_of s.home (a_table u) (Whole (pos j.0)))) (λ g. calls g vs)))) (sym same)
        (keeps_place s limit d base j.0 AnyValue (result wanted) (waiting (a_table u)) (and_then (eval_all true calls c es) (λ vs. and_then (defined (entry_of s.home (a_table u) (Whole (pos j.0)))) (λ g. calls g vs))) small
        (keeps_waiting s limit d (W32 (base + j.0)) (λ vs. length vs ≡ exprs_length es) values AnyValue (result wanted) (arguments_code s.heap c (suc d) es) (entry_code c (a_table u)) (eval_all true calls c es) (λ vs. and_then (defined (entry_of s.home (a_table u) (Whole (pos j.0)))) (λ g. calls g vs)) some (all p.1)
        (λ vs many. keeps_entry s limit d calls kept wanted n u j.0 vs mm (ap (λ k. matches (first_member s.home u.members) k wanted) many ∙ p.0))))))
    table_kept nothing t e h mask some at all = absurd (cc h)
    table_kept an_int t e h mask some at all = absurd (cc h)
    table_kept an_outside t e h mask some at all = absurd (cc h)
    table_kept (a_foreign p) t e h mask some at all = absurd (cc h)
    table_kept (a_builtin b) t e h mask some at all = absurd (cc h)
    table_kept (a_view v) t e h mask some at all = absurd (cc h)
    table_kept (a_function g) t e h mask some at all = absurd (cc h)
    table_kept a_parameter t e h mask some at all = absurd (cc h)

  mutual
    pub value_kept : (e : Expr) (wanted : Bool) (t : ValueType) (d at : ℕ) → type_of c e ≡ Some t → Within s (code_of wanted d e) → Listed (expr_marks c at e)
        → Keeps s limit d [] (Valued t e) (result wanted) (code_of wanted d e) (does e)
    value_kept (lit z) wanted t d at h room l =
        keeps_seen s limit d [] t (type_of c (lit z)) (λ v. v ≡ Whole z) (result wanted) (code_of wanted d (lit z)) (gives (Whole z)) h
        (keeps_finished s limit d wanted (λ v. v ≡ Whole z) (one (number (word_of 32 z))) (gives (Whole z)) (keeps_literal s limit d z))
    value_kept (decimal bs) wanted t d at h room l = absurd (cc h)
    value_kept (var n) wanted t d at h room l =
        keeps_seen s limit d [] t (type_of c (var n)) AnyValue (result wanted) (code_of wanted d (var n)) (read n) h
        (keeps_finished s limit d wanted AnyValue (get_code (place_of c n)) (read n) (keeps_read s limit d given n))
    value_kept (index n i) wanted t d at h room l =
        let w = from_row (index_fits (named c n) i (type_of c i)) Intish t h in
        let x = index_of c (named c n) i (type_of c i) refl w.0 in
        let has_one = view_said s.home n x.view (in_module s.home s.within n (a_view x.view) x.is_view (λ q. q)) in
        let k = exponent_in (named c n) in
        let load = load_code s.heap (scratch_x s limit d) (named c n) in
        let inside = finished_within wanted (place_of_index k d i ⊕ load) room in
        let part = and_then (does i) (λ x. read_element (named c n) x) in
        keeps_seen s limit d [] t (type_of c (index n i)) AnyValue (result wanted) (code_of wanted d (index n i)) part h
        (keeps_finished s limit d wanted AnyValue (place_of_index k d i ⊕ load) part
        (keeps_index s limit d (named c n) x.view x.is_view has_one (long has_one) (place_at k i) (λ v. IsIndexAt k (place_at k i v) v) (place_of_index k d i) (does i)
        (λ v g. subst (λ j. IsIndexAt j (place_at k i v) v) (ap exponent_in x.is_view) g) (second_within s (place_of_index k d i) load inside)
        (place_kept k (few_exponents (named c n)) i x.type d x.has_type (form_at (named c n) i (type_of c i) x.type x.has_type w.0) (index_is c (named c n) i x w.0)
        (λ whole. value_kept i true x.type d (at + 1) x.has_type whole l) (left_kept i d (at + 1) l) (first_within s (place_of_index k d i) load inside))))
    value_kept (call n es) wanted t d at h room l =
        let b = builtin_of (named c n) (exprs_length es) (all_below c Int es) t h in
        let more = callee_code c wanted n (exprs_length es) (named c n) ⊕ dropped wanted (named c n) in
        let part = and_then (eval_all true calls c es) (λ vs. call_named calls (named c n) vs) in
        keeps_seen s limit d [] t (type_of c (call n es)) AnyValue (result wanted) (code_of wanted d (call n es)) part h
        (keeps_then s limit d [] (λ vs. length vs ≡ exprs_length es) values AnyValue (result wanted) (arguments_code s.heap c d es) more (eval_all true calls c es) (λ vs. call_named calls (named c n) vs)
        (all_kept es Int d (at + 1) b.are_ints (first_within s (arguments_code s.heap c d es) more room) l)
        (λ vs many. subst (λ mm. Keeps s limit d (values vs) AnyValue (result wanted) (callee_code c wanted n (exprs_length es) mm ⊕ dropped wanted mm) (call_named calls mm vs)) (sym b.is) (keeps_builtin s limit d wanted b.builtin n (exprs_length es) calls vs)))
    value_kept (table_call n i es) wanted t d at h room l = absurd (cc h)
    value_kept (assign n e) wanted t d at h room l =
        let w = from_if (is_int (named c n) && typed_below Int (type_of c e)) (type_of c e) t h in
        let put = put_code wanted (place_of c n) in
        keeps_seen s limit d [] t (type_of c (assign n e)) AnyValue (result wanted) (code_of wanted d (assign n e)) (and_then (does e) (λ v. write n v)) h
        (keeps_then s limit d [] (Valued t e) a_value AnyValue (result wanted) (code_of true d e) put (does e) (λ v. write n v)
        (value_kept e true t d (at + 1) w.1 (first_within s (code_of true d e) put room) l)
        (λ v g. keeps_write s limit d given n v wanted))
    value_kept (store n i e) wanted t d at h room l =
        let w = from_if (index_fits (named c n) i (type_of c i) && typed_below Intish (type_of c e)) (type_of c e) t h in
        let p = and_parts _ _ w.0 in
        let x = index_of c (named c n) i (type_of c i) refl p.0 in
        let has_one = view_said s.home n x.view (in_module s.home s.within n (a_view x.view) x.is_view (λ q. q)) in
        let k = exponent_in (named c n) in
        let put = store_code s.heap (scratch_x s limit d) (scratch_y s limit d) (named c n) in
        let last = stored_code wanted (scratch_y s limit d) in
        let rest = second_within s (place_of_index k d i) (code_of true d e ⊕ (put ⊕ last)) room in
        let ls = listed_parts (foreign_calls s.home) (expr_marks c (at + 1) i) (expr_marks c (at + 1 + expr_count i) e) l in
        keeps_seen s limit d [] t (type_of c (store n i e)) AnyValue (result wanted) (code_of wanted d (store n i e)) (and_then (does i) (λ x. and_then (does e) (λ v. write_element (named c n) x v))) h
        (keeps_stored s limit d (named c n) x.view x.is_view has_one (long has_one) (place_at k i) wanted (λ v. IsIndexAt k (place_at k i v) v) (Valued t e) (place_of_index k d i) (code_of true d e) (does i) (does e)
        (λ v g. subst (λ j. IsIndexAt j (place_at k i v) v) (ap exponent_in x.is_view) g)
        (first_within s put last (second_within s (code_of true d e) (put ⊕ last) rest))
        (place_kept k (few_exponents (named c n)) i x.type d x.has_type (form_at (named c n) i (type_of c i) x.type x.has_type p.0) (index_is c (named c n) i x p.0)
        (λ whole. value_kept i true x.type d (at + 1) x.has_type whole ls.0) (left_kept i d (at + 1) ls.0) (first_within s (place_of_index k d i) (code_of true d e ⊕ (put ⊕ last)) room))
        (value_kept e true t d (at + 1 + expr_count i) w.1 (first_within s (code_of true d e) (put ⊕ last) rest) ls.1))
    value_kept (unary op e) wanted t d at h room l =
        let p = from_bind (λ a. unary_row_of op a) (type_of c e) t h in
        let whole = before_operand op ⊕ (code_of true d e ⊕ after_operand op) in
        let part = and_then (does e) (λ v. defined (js_unary_of op v)) in
        let inside = second_within s (before_operand op) (code_of true d e ⊕ after_operand op) (finished_within wanted whole room) in
        keeps_seen s limit d [] t (type_of c (unary op e)) AnyValue (result wanted) (code_of wanted d (unary op e)) part h
        (keeps_finished s limit d wanted AnyValue whole part
        (keeps_unary s limit d op p.0 t (Valued p.0 e) (code_of true d e) (does e) p.2 (λ v g. g.0) (value_kept e true p.0 d (at + 1) p.1 (first_within s (code_of true d e) (after_operand op) inside) l)))
    value_kept (binary op l r) wanted t d at h room ls =
        let both = is_call c l && or_zero op r in
        let whole = if or_zero op r then code_of true d l else code_of true d l ⊕ (code_of true d r ⊕ operation op l r t d) in
        let parts = λ (e : both ≡ false). listed_parts (foreign_calls s.home) (expr_marks c (at + 1) l) (expr_marks c (at + 1 + expr_count l) r)
        (subst (λ b. Listed (if b then call_marks c true (at + 1) l else expr_marks c (at + 1) l ++ expr_marks c (at + 1 + expr_count l) r)) e ls) in
        keeps_seen s limit d [] t (type_of c (binary op l r)) (Masks op r) (result wanted) (code_of wanted d (binary op l r)) (both_do op l r t d) h
        (keeps_finished s limit d wanted (Masks op r) whole (both_do op l r t d)
        (binary_kept op l r t d (or_zero op r) both refl refl h (finished_within wanted whole room)
        (λ e inside fits. call_kept l true d (at + 1) fits inside (subst (λ b. Listed (if b then call_marks c true (at + 1) l else expr_marks c (at + 1) l ++ expr_marks c (at + 1 + expr_count l) r)) e ls))
        (λ e inside a is. value_kept l true a d (at + 1) is inside (parts e).0)
        (λ e inside b is. value_kept r true b d (at + 1 + expr_count l) is inside (parts e).1)))
    value_kept (chain e ls) wanted t d at h room l =
        let w = from_row _ Intish t h in
        let p = and_parts _ _ w.0 in
        let q = and_parts _ _ p.0 in
        let x = from_below Int (type_of c e) q.0 in
        let more = links_code s.heap c d ls in
        let inside = finished_within wanted (code_of true d e ⊕ more) room in
        let part = and_then (does e) (λ v. eval_links true calls c ls v) in
        let both = listed_parts (foreign_calls s.home) (expr_marks c (at + 1) e) (links_marks c (at + 1 + expr_count e) ls) l in
        keeps_seen s limit d [] t (type_of c (chain e ls)) AnyValue (result wanted) (code_of wanted d (chain e ls)) part h
        (keeps_finished s limit d wanted AnyValue (code_of true d e ⊕ more) part
        (keeps_then s limit d [] (Valued x.type e) a_value AnyValue a_value (code_of true d e) more (does e) (λ v. eval_links true calls c ls v)
        (value_kept e true x.type d (at + 1) x.is (first_within s (code_of true d e) more inside) both.0)
        (λ v g. links_kept ls d (at + 1 + expr_count e) v q.1 (second_within s (code_of true d e) more inside) both.1)))
    value_kept (cond e a b) wanted t d at h room l =
        let w = from_row _ Int t h in
        let p = and_parts _ _ w.0 in
        let q = and_parts _ _ p.0 in
        let x = from_below Int (type_of c e) q.0 in
        let y = from_below Int (type_of c a) q.1 in
        let z = from_below Int (type_of c b) p.1 in
        let choice = if_block (Some I32) (code_of true d a) (code_of true d b) ▹ ε in
        let inside = finished_within wanted (code_of true d e ⊕ choice) room in
        let arms = arms_within s (Some I32) (code_of true d a) (code_of true d b) (second_within s (code_of true d e) choice inside) in
        let part = and_then (does e) (λ v. if truthy_of v then does a else does b) in
        let first = listed_parts (foreign_calls s.home) (expr_marks c (at + 1) e) (expr_marks c (at + 1 + expr_count e) a ++ expr_marks c (at + 1 + expr_count e + expr_count a) b) l in
        let both = listed_parts (foreign_calls s.home) (expr_marks c (at + 1 + expr_count e) a) (expr_marks c (at + 1 + expr_count e + expr_count a) b) first.1 in
        keeps_seen s limit d [] t (type_of c (cond e a b)) AnyValue (result wanted) (code_of wanted d (cond e a b)) part h
        (keeps_finished s limit d wanted AnyValue (code_of true d e ⊕ choice) part
        (keeps_then s limit d [] (Valued x.type e) a_value AnyValue a_value (code_of true d e) choice (does e) (λ v. if truthy_of v then does a else does b)
        (value_kept e true x.type d (at + 1) x.is (first_within s (code_of true d e) choice inside) first.0)
        (λ v g. keeps_chosen s limit d (Some I32) (to_uint32_of v) (truthy_of v) AnyValue a_value (code_of true d a) (code_of true d b) (does a) (does b) (words_of_conditions v (wider x.type Int v x.is_lower g.0))
        (any y.type a d a_value (code_of true d a) (does a) (value_kept a true y.type d (at + 1 + expr_count e) y.is arms.0 both.0))
        (any z.type b d a_value (code_of true d b) (does b) (value_kept b true z.type d (at + 1 + expr_count e + expr_count a) z.is arms.1 both.1)))))
    value_kept (comma es) wanted t d at h room l =
        keeps_seen s limit d [] t (type_of c (comma es)) AnyValue (result wanted) (code_of wanted d (comma es)) (eval_last true calls c es) h
        (keeps_finished s limit d wanted AnyValue (comma_code s.heap c d es) (eval_last true calls c es) (last_kept es t d (at + 1) h (finished_within wanted (comma_code s.heap c d es) room) l))

    left_kept : (e : Expr) (d at : ℕ) → Listed (expr_marks c at e) → LeftKept d e
    left_kept (binary op l r) d at ls =
        λ is inside a has.
        value_kept l true a d (at + 1) has inside
        (listed_parts (foreign_calls s.home) (expr_marks c (at + 1) l) (expr_marks c (at + 1 + expr_count l) r)
        (subst (λ b. Listed (if b then call_marks c true (at + 1) l else expr_marks c (at + 1) l ++ expr_marks c (at + 1 + expr_count l) r)) (shift_isnt_or op r (is_call c l) is) ls)).0
    left_kept e d at ls = tt

    all_kept : (es : Exprs) (top : ValueType) (d at : ℕ) → all_below c top es ≡ true → Within s (arguments_code s.heap c d es) → Listed (exprs_marks c at es)
        → Keeps s limit d [] (λ vs. length vs ≡ exprs_length es) values (arguments_code s.heap c d es) (eval_all true calls c es)
    all_kept no_exprs top d at h room l = keeps_none s limit d (λ vs. length vs ≡ 0) values [] refl
    all_kept (exprs e es) top d at h room l =
        let p = and_parts _ _ h in
        let x = from_below top (type_of c e) p.0 in
        let more = arguments_code s.heap c d es in
        let both = listed_parts (foreign_calls s.home) (expr_marks c at e) (exprs_marks c (at + expr_count e) es) l in
        keeps_then s limit d [] (Valued x.type e) a_value (λ vs. length vs ≡ suc (exprs_length es)) values (code_of true d e) more (does e) (λ v. and_then (eval_all true calls c es) (λ vs. gives (v ∷ vs)))
        (value_kept e true x.type d at x.is (first_within s (code_of true d e) more room) both.0)
        (λ v g. keeps_gives s limit d (word v ∷ []) (λ vs. length vs ≡ exprs_length es) (λ vs. values vs ++ (word v ∷ [])) (λ vs. length vs ≡ suc (exprs_length es)) values more (eval_all true calls c es) (λ vs. v ∷ vs) (λ vs many. ap suc many) (λ vs. values_more v vs)
        (keeps_over s limit d (word v ∷ []) (λ vs. length vs ≡ exprs_length es) values more (eval_all true calls c es) (all_kept es top d (at + expr_count e) p.1 (second_within s (code_of true d e) more room) both.1)))

    links_kept : (ls : Links) (d at : ℕ) (v : JsValue) → links_fit c ls ≡ true → Within s (links_code s.heap c d ls) → Listed (links_marks c at ls)
        → Keeps s limit d (word v ∷ []) AnyValue a_value (links_code s.heap c d ls) (eval_links true calls c ls v)
    links_kept no_links d at v h room l = keeps_none s limit d AnyValue a_value v tt
    links_kept (links minus e ls) d at v h room l =
        let p = and_parts _ _ h in
        let y = from_below Int (type_of c e) p.0 in
        let op = one (bin32 (translated.link_operator minus)) in
        let more = links_code s.heap c d ls in
        let rest = second_within s (code_of true d e) (op ⊕ more) room in
        let both = listed_parts (foreign_calls s.home) (expr_marks c at e) (links_marks c (at + expr_count e) ls) l in
        keeps_link s limit d minus v (Valued y.type e) (code_of true d e) more (does e) (λ x. eval_links true calls c ls x)
        (value_kept e true y.type d at y.is (first_within s (code_of true d e) (op ⊕ more) room) both.0)
        (λ x. links_kept ls d (at + expr_count e) x p.1 (second_within s op more rest) both.1)

    last_kept : (es : Exprs) (t : ValueType) (d at : ℕ) → last_type c es ≡ Some t → Within s (comma_code s.heap c d es) → Listed (comma_marks c at es)
        → Keeps s limit d [] AnyValue a_value (comma_code s.heap c d es) (eval_last true calls c es)
    last_kept no_exprs t d at h room l = absurd (cc h)
    last_kept (exprs e no_exprs) t d at h room l = any t e d a_value (code_of true d e) (does e) (value_kept e true t d at h room l)
    last_kept (exprs e (exprs x es)) t d at h room l =
        let w = from_if (if is_call c e then call_fits c false e else is_some (type_of c e)) (last_type c (exprs x es)) t h in
        let more = comma_code s.heap c d (exprs x es) in
        let inside = first_within s (code_of false d e) more room in
        let both = listed_parts (foreign_calls s.home) (if is_call c e then call_marks c false at e else expr_marks c at e) (comma_marks c (at + expr_count e) (exprs x es)) l in
        keeps_then s limit d [] AnyValue no_value AnyValue a_value (code_of false d e) more (does e) (λ v. eval_last true calls c (exprs x es))
        (effect_kept e d (call_marks c false at e) (expr_marks c at e) (is_call c e) w.0 both.0 (λ fits ls. call_kept e false d at fits inside ls) (λ u is ls. value_kept e false u d at is inside ls))
        (λ v g. last_kept (exprs x es) t d (at + expr_count e) w.1 (second_within s (code_of false d e) more room) both.1)

    pub call_kept : (e : Expr) (wanted : Bool) (d at : ℕ) → call_fits c wanted e ≡ true → Within s (code_of wanted d e) → Listed (call_marks c wanted at e)
        → Keeps s limit d [] AnyValue (result wanted) (code_of wanted d e) (does e)
    call_kept (call n es) wanted d at h room l =
        let more = callee_code c wanted n (exprs_length es) (named c n) ⊕ dropped wanted (named c n) in
        let part = and_then (eval_all true calls c es) (λ vs. call_named calls (named c n) vs) in
        let both = listed_parts (foreign_calls s.home) (exprs_marks c (at + 1) es) (callee_marks (named c n) wanted (exprs_length es) at) l in
        let args = arguments_kept es (named c n) wanted d h (λ top fits. all_kept es top d (at + 1) fits (first_within s (arguments_code s.heap c d es) more room) both.0) in
        keeps_unseen d (result wanted) (code_of wanted d (call n es)) (type_of c (call n es)) part
        (no_builtin (named c n) wanted (exprs_length es) (exprs_length es) (all_below c Int es) (all_below c Extern es) (all_below c Int es) h)
        (keeps_then s limit d [] (λ vs. length vs ≡ exprs_length es) values AnyValue (result wanted) (arguments_code s.heap c d es) more (eval_all true calls c es) (λ vs. call_named calls (named c n) vs) args
        (λ vs many. keeps_named s limit d calls kept wanted n (named c n) (exprs_length es) at (all_below c Int es) (all_below c Extern es) vs refl h both.1 many))
    call_kept (table_call n i es) wanted d at h room l =
        let p = and_parts _ _ h in
        let q = and_parts _ _ p.1 in
        let t = from_some (type_of c i) q.0 in
        let wait = waiting n i es wanted d (named c n) in
        let place = plains (from_base (base_of s.home n)) in
        let rest = second_within s place wait (second_within s (code_of true d i) (place ⊕ wait) room) in
        let set = one (local_set (scratch_x s limit d)) in
        let last = one (local_get (scratch_x s limit d)) ⊕ entry_code c (named c n) in
        let first = first_within s set (arguments_code s.heap c (suc d) es ⊕ last) rest in
        let both = listed_parts (foreign_calls s.home) (expr_marks c (at + 1) i) (exprs_marks c (at + 1 + expr_count i) es) l in
        table_kept n i es wanted d (named c n) t.0 refl p.0 q.1 (omega (arith, first))
        (value_kept i true t.0 d (at + 1) t.1 (first_within s (code_of true d i) (place ⊕ wait) room) both.0)
        (λ ints. all_kept es Int (suc d) (at + 1 + expr_count i) ints (first_within s (arguments_code s.heap c (suc d) es) last (second_within s set (arguments_code s.heap c (suc d) es ⊕ last) rest)) both.1)
    call_kept e wanted d at h room l = absurd (cc h)
