-- A call of the helper that writes words of a segment.
use Rattle.std.proofs.Common.{◌≡◌, ℕ, zero, suc, ◌+◌, ◌*◌, ◌/◌, ◌%◌, ◌^◌, ◌<◌, ◌≤◌, Bool, true, false, List, [], ◌∷◌, ◌++◌, length, map, pos, Option, Some, None, refl, sym, ap, ◌∙◌, subst, append-nil, arith}
use Rattle.std.specs.Prelude.{◌==◌, bytes_eq, nat_le, option_map, if◌then◌else◌}
use Rattle.std.specs.Int.{int_shr}
use Rattle.std.proofs.lemmas.Bool.Decides.{nat_tests, Decides-eqb}
use Rattle.std.proofs.lemmas.Slice.Eq.{bytes_eq-Decides}
use Rattle.sem_words.specs.declared.js_value.JsValue.{JsValue}
use Rattle.sem_words.specs.declared.js_value.JsValue.TheVariants.{Whole, Undef}
use Rattle.sem_words.specs.declared.js_value.JsOp.TheVariants.{Add, Sar}
use Rattle.sem_words.specs.JsValues.{to_uint32_of}
use Rattle.sem_words.specs.JsOperators.{signed_value, js_binary_of}
use Rattle.sem_words.specs.Words.{signed_of}
use Rattle.heap_lang.specs.declared.kind.ViewKind.TheVariants.{I32}
use Rattle.heap_lang.specs.Heap as heaps
use Rattle.asm_lang.specs.Modules.{Stmt, var, Function, Module}
use Rattle.asm_lang_valid.specs.declared.meaning.Element.TheVariants.{Int32}
use Rattle.asm_lang_valid.specs.Scope.{a_view}
use Rattle.asm_lang_valid.specs.Typing.{Scope, named}
use Rattle.asm_lang_valid.specs.Typed.{scope_of}
use Rattle.asm_lang_exec.specs.Runs.{Binding, binding, Place, Part, Run, spent, after, and_then, defined, paid, value_in, either_value}
use Rattle.asm_lang_exec.specs.Values.{write_element}
use Rattle.asm_lang_exec.specs.Meaning.{Completion, normal, parameters, first_locals, function_end}
use Rattle.asm_laws_continuation.specs.Following.{CallsBefore, eval_to, exec_to, exec_all_to, unless_left_to, with_locals_to, call_at_to}
use Rattle.wasm2js_translation.specs.Names.{fixed, data_words, view_of_words, spelled}
use Rattle.wasm2js_translation.proofs.Spelling.{spellings_differ}
use Rattle.wasm2js_translation.specs.Words.{read, write_whole, name_of, simple_statement, stmts_in}
use Rattle.wasm2js_translation.specs.Pairs.{literal, plus}
use Rattle.wasm2js_translation.specs.Helpers.{int_param, function_of, argument, arguments_after, put_at}
use Rattle.wasm2js_laws_helpers.proofs.Turned.{marked_word}
use Rattle.wasm2js_laws_preservation.proofs.LoadsNumbers.{word_index_is}

-- ---- numbers

pub added : (a k : ℕ) → a + k ≤ 2 ^ 28 → js_binary_of Add (Whole (pos a)) (Whole (pos k)) ≡ Some (Whole (pos (a + k)))
added a k h =
    let few : a + k ≤ 2 ^ 53 = omega (arith, h) in
    let e : nat_le (a + k) (2 ^ 53) ≡ true = grind (arith, nat_tests, few) in
    ap (λ b. if b then Some (Whole (pos (a + k))) else None) e

pub shifted : (n : ℕ) → n ≤ 2 ^ 28 → js_binary_of Sar (Whole (pos n)) (Whole (pos 2)) ≡ Some (Whole (pos (n / 4)))
shifted n h =
    let e : n % 2 ^ 32 ≡ n = omega (arith, h) in
    ap (λ x. Some (Whole (int_shr (signed_of 32 x) 2))) e ∙ ap (λ z. Some (Whole z)) (word_index_is n (omega (arith, h)))

-- ---- variables of the helper

abbrev marked : JsValue → JsValue
marked v = signed_value (to_uint32_of v)

-- the arguments from number i on
abbrev bound_from : (i : ℕ) → List JsValue → List Binding
bound_from i [] = []
bound_from i (v ∷ vs) = binding (spelled (argument i)) (marked v) ∷ bound_from (suc i) vs

-- these are the values of the arguments from number i on
abbrev Found : (locals : List Binding) (i : ℕ) → List JsValue → Type 0
Found locals i [] = Unit {0}
Found locals i (v ∷ vs) = (value_in locals (spelled (argument i)) ≡ Some (marked v)) × Found locals (suc i) vs

same_name : (n : List ℕ) → bytes_eq n n ≡ true
same_name n = (bytes_eq-Decides n n).1 refl

other_name : (i j : ℕ) → i < j → bytes_eq (spelled (argument i)) (spelled (argument j)) ≡ false
other_name i j h = by (bytes_eq (spelled (argument i)) (spelled (argument j))) refl
  where
    by : (t : Bool) → bytes_eq (spelled (argument i)) (spelled (argument j)) ≡ t → bytes_eq (spelled (argument i)) (spelled (argument j)) ≡ false
    by true e =
        let same : argument i ≡ argument j = spellings_differ (argument i) (argument j) ((bytes_eq-Decides (spelled (argument i)) (spelled (argument j))).0 e) in
        let equal : i ≡ j = cc same in
        absurd (omega (arith, h, equal))
    by false e = e

-- one more variable before those that are found
found_behind : (b : Binding) (bs : List Binding) (k i : ℕ) (vs : List JsValue) → b.name ≡ spelled (argument k) → k < i → Found bs i vs → Found (b ∷ bs) i vs
found_behind b bs k i [] e h f = tt
found_behind b bs k i (v ∷ vs) e h f =
    let apart : bytes_eq b.name (spelled (argument i)) ≡ false = ap (λ n. bytes_eq n (spelled (argument i))) e ∙ other_name k i h in
    (ap (λ t. if t then Some b.value else value_in bs (spelled (argument i))) apart ∙ f.0, found_behind b bs k (suc i) vs e (omega (arith, h)) f.1)

found : (i : ℕ) (vs : List JsValue) → Found (bound_from i vs) i vs
found i [] = tt
found i (v ∷ vs) =
    let here = same_name (spelled (argument i)) in
    (ap (λ t. if t then Some (marked v) else value_in (bound_from (suc i) vs) (spelled (argument i))) here, found_behind (binding (spelled (argument i)) (marked v)) (bound_from (suc i) vs) i (suc i) vs refl (omega arith) (found (suc i) vs))

passed : (i : ℕ) (vs : List JsValue) → parameters (map int_param (arguments_after i (length vs))) vs ≡ Some (bound_from i vs)
passed i [] = refl
passed i (v ∷ vs) = ap (option_map (λ bs. binding (spelled (argument i)) (marked v) ∷ bs)) (passed (suc i) vs)

-- ---- the body

-- so many arguments, to the places from so many bytes past the first one on
abbrev pub put_arguments : (offset i count : ℕ) → List Stmt
put_arguments offset i zero = []
put_arguments offset i (suc n) = put_at offset i ∷ put_arguments (offset + 4) (suc i) n

-- a heap with words at places four bytes apart
abbrev pub with_words : (at : ℕ) → List JsValue → List ℕ → List ℕ
with_words at [] heap = heap
with_words at (v ∷ vs) heap = with_words (at + 4) vs (heaps.store I32 (pos (at / 4)) (to_uint32_of v) heap)

not_zero : (o : ℕ) → 0 < o → (o == 0) ≡ false
not_zero o h = by (o == 0) refl
  where
    by : (t : Bool) → (o == 0) ≡ t → (o == 0) ≡ false
    by true e = let same = (Decides-eqb o 0).0 e in absurd (omega (arith, h, same))
    by false e = e

module _ (calls : CallsBefore (Unit {0})) (c : Scope) (views : named c (name_of view_of_words) ≡ a_view Int32) (bound : ℕ) (next : Completion → Part (Unit {0})) (at : ℕ) where
  abbrev IsFirst : Place → Type 0
  IsFirst p = value_in p.locals (spelled (argument 0)) ≡ Some (Whole (pos at))

  -- a store of a variable, with its index
  abbrev stores : (i : ℕ) → (Completion → Part (Unit {0})) → JsValue → Part (Unit {0})
  stores i next x = eval_to calls c (var (spelled (argument i))) (λ v. and_then (write_element (named c (name_of view_of_words)) x v) (λ v. next normal))

  stored : (i k : ℕ) (v : JsValue) (next : Completion → Part (Unit {0})) (p : Place) → value_in p.locals (spelled (argument i)) ≡ Some v
      → stores i next (Whole (pos k)) p ≡ next normal (record p { heap = heaps.store I32 (pos k) (to_uint32_of v) p.heap })
  stored i k v next p f =
      ap (λ o. after (defined (either_value o (value_in p.globals (spelled (argument i)))) p) (λ v. and_then (write_element (named c (name_of view_of_words)) (Whole (pos k)) v) (λ v. next normal))) f
      ∙ ap (λ m. and_then (write_element m (Whole (pos k)) v) (λ v. next normal) p) views

  first_put : (i : ℕ) (v : JsValue) (next : Completion → Part (Unit {0})) (p : Place) → IsFirst p → value_in p.locals (spelled (argument i)) ≡ Some v → at ≤ 2 ^ 28
      → exec_to calls c bound [] (put_at 0 i) next p ≡ next normal (record p { heap = heaps.store I32 (pos (at / 4)) (to_uint32_of v) p.heap })
  first_put i v next p e f h =
      ap (λ o. after (defined (either_value o (value_in p.globals (spelled (argument 0)))) p) (λ a. and_then (defined (js_binary_of Sar a (Whole (pos 2)))) (stores i next))) e
      ∙ ap (λ o. and_then (defined o) (stores i next) p) (shifted at h)
      ∙ stored i (at / 4) v next p f

  later_put : (o i : ℕ) (v : JsValue) (next : Completion → Part (Unit {0})) (p : Place) → 0 < o → IsFirst p → value_in p.locals (spelled (argument i)) ≡ Some v → at + o ≤ 2 ^ 28
      → exec_to calls c bound [] (put_at o i) next p ≡ next normal (record p { heap = heaps.store I32 (pos ((at + o) / 4)) (to_uint32_of v) p.heap })
  later_put o i v next p some e f h =
      ap (λ t. exec_to calls c bound [] (simple_statement (write_whole (if t then read (argument 0) else plus (read (argument 0)) (literal o)) (read (argument i)))) next p) (not_zero o some)
      ∙ ap (λ q. after (defined (either_value q (value_in p.globals (spelled (argument 0)))) p)
      (λ a. and_then (defined (js_binary_of Add a (Whole (pos o)))) (λ x. and_then (defined (js_binary_of Sar x (Whole (pos 2)))) (stores i next)))) e
      ∙ ap (λ q. and_then (defined q) (λ x. and_then (defined (js_binary_of Sar x (Whole (pos 2)))) (stores i next)) p) (added at o h)
      ∙ ap (λ q. and_then (defined q) (stores i next) p) (shifted (at + o) h)
      ∙ stored i ((at + o) / 4) v next p f

  later_words : (o i : ℕ) (vs : List JsValue) (p : Place) → 0 < o → IsFirst p → Found p.locals i vs → at + o + 4 * length vs ≤ 2 ^ 28
      → exec_all_to calls c bound (stmts_in (put_arguments o i (length vs))) next p ≡ next normal (record p { heap = with_words (at + o) (map marked vs) p.heap })
  later_words o i [] p some e f h = refl
  later_words o i (v ∷ vs) p some e f h =
      let heap = heaps.store I32 (pos ((at + o) / 4)) (to_uint32_of (marked v)) p.heap in
      let on : at + (o + 4) ≡ at + o + 4 = omega arith in
      later_put o i (marked v) (λ d. unless_left_to d (exec_all_to calls c bound (stmts_in (put_arguments (o + 4) (suc i) (length vs)))) next) p some e f.0 (omega (arith, h))
      ∙ later_words (o + 4) (suc i) vs (record p { heap = heap }) (omega arith) e f.1 (omega (arith, h))
      ∙ ap (λ to. next normal (record p { heap = with_words to (map marked vs) heap })) on

  all_words : (vs : List JsValue) (p : Place) → IsFirst p → Found p.locals 1 vs → at + 4 * length vs ≤ 2 ^ 28
      → exec_all_to calls c bound (stmts_in (put_arguments 0 1 (length vs))) next p ≡ next normal (record p { heap = with_words at (map marked vs) p.heap })
  all_words [] p e f h = refl
  all_words (v ∷ vs) p e f h =
      first_put 1 (marked v) (λ d. unless_left_to d (exec_all_to calls c bound (stmts_in (put_arguments 4 2 (length vs)))) next) p e f.0 (omega (arith, h))
      ∙ later_words 4 2 vs (record p { heap = heaps.store I32 (pos (at / 4)) (to_uint32_of (marked v)) p.heap }) (omega arith) e f.1 (omega (arith, h))

-- ---- the call

abbrev pub put_of : ℕ → Function
put_of n = function_of (fixed data_words) (arguments_after 0 (suc n)) [] (put_arguments 0 1 n)

same_words : (at : ℕ) (vs : List JsValue) (heap : List ℕ) → with_words at (map marked vs) heap ≡ with_words at vs heap
same_words at [] heap = refl
same_words at (v ∷ vs) heap =
    ap (λ x. with_words (at + 4) (map marked vs) (heaps.store I32 (pos (at / 4)) x heap)) (marked_word v) ∙ same_words (at + 4) vs (heaps.store I32 (pos (at / 4)) (to_uint32_of v) heap)

module _ (m : Module) (at : ℕ) (vs : List JsValue) (views : named (scope_of m (put_of (length vs))) (name_of view_of_words) ≡ a_view Int32) (few : at + 4 * length vs ≤ 2 ^ 28) (next : JsValue → Part (Unit {0})) where
  abbrev f : Function
  f = put_of (length vs)

  abbrev given : List JsValue
  given = Whole (pos at) ∷ vs

  locals_are : first_locals f given ≡ Some (bound_from 0 given)
  locals_are = ap (option_map (λ bs. bs ++ [])) (passed 0 given) ∙ ap Some (append-nil (bound_from 0 given))

  place_marked : marked (Whole (pos at)) ≡ Whole (pos at)
  place_marked =
      let e : at % 2 ^ 32 ≡ at = omega (arith, few) in
      let g : signed_of 32 at ≡ pos at = grind (arith, few) in
      ap (λ x. Whole (signed_of 32 x)) e ∙ ap Whole g

  module _ (d n : ℕ) (p : Place) where
    abbrev inside : Place
    inside = record p { units = n; locals = bound_from 0 given }

    body_done : exec_all_to (call_at_to m d) (scope_of m f) d f.body (λ d. and_then (function_end d) (λ a q. next a (record q { locals = p.locals }))) inside
        ≡ next Undef (record p { units = n; heap = with_words at vs p.heap })
    body_done =
        let all = found 0 given in
        all_words (call_at_to m d) (scope_of m f) views d (λ d. and_then (function_end d) (λ a q. next a (record q { locals = p.locals }))) at vs inside (all.0 ∙ ap Some place_marked) all.1 few
        ∙ ap (λ heap. next Undef (record p { units = n; heap = heap })) (same_words at vs p.heap)

    abbrev called : Option (List Binding) → Run (Unit {0})
    called o =
        after (defined o (record p { units = n }))
        (λ locals. with_locals_to locals (λ next. exec_all_to (call_at_to m d) (scope_of m f) d f.body (λ d. and_then (function_end d) next)) next)

    goes : called (first_locals f given) ≡ next Undef (record p { units = n; heap = with_words at vs p.heap })
    goes = ap called locals_are ∙ body_done

  -- with a unit
  put_done : (bound n : ℕ) (p : Place) → suc n ≤ bound → p.units ≡ suc n → call_at_to m bound f given next p ≡ next Undef (record p { units = n; heap = with_words at vs p.heap })
  put_done zero n p le e = absurd (omega (arith, le))
  put_done (suc d) n p le e =
      ap (λ u. after (paid u p) (λ t. and_then (defined (first_locals f given)) (λ locals. with_locals_to locals (λ next. exec_all_to (call_at_to m d) (scope_of m f) d f.body (λ d. and_then (function_end d) next)) next))) e
      ∙ goes d n p

-- of so many words
pub words_are_put : (m : Module) (count : ℕ) (at : ℕ) (vs : List JsValue) → length vs ≡ count → named (scope_of m (put_of count)) (name_of view_of_words) ≡ a_view Int32 → at + 4 * count ≤ 2 ^ 28
    → (next : JsValue → Part (Unit {0})) (bound n : ℕ) (p : Place) → suc n ≤ bound → p.units ≡ suc n
    → call_at_to m bound (put_of count) (Whole (pos at) ∷ vs) next p ≡ next Undef (record p { units = n; heap = with_words at vs p.heap })
words_are_put m count at vs e views few next bound n p le u =
    let views' = subst (λ k. named (scope_of m (put_of k)) (name_of view_of_words) ≡ a_view Int32) (sym e) views in
    subst (λ k. call_at_to m bound (put_of k) (Whole (pos at) ∷ vs) next p ≡ next Undef (record p { units = n; heap = with_words at vs p.heap })) e
    (put_done m at vs views' (omega (arith, few, e)) next bound n p le u)

pub no_words_are_put : (m : Module) (count : ℕ) (at : ℕ) (vs : List JsValue) → (next : JsValue → Part (Unit {0})) (bound : ℕ) (p : Place) → p.units ≡ 0
    → call_at_to m bound (put_of count) (Whole (pos at) ∷ vs) next p ≡ spent p
no_words_are_put m count at vs next zero p e = refl
no_words_are_put m count at vs next (suc d) p e =
    ap (λ u. after (paid u p) (λ t. and_then (defined (first_locals (put_of count) (Whole (pos at) ∷ vs))) (λ locals. with_locals_to locals (λ next. exec_all_to (call_at_to m d) (scope_of m (put_of count)) d (put_of count).body (λ d. and_then (function_end d) next)) next))) e
