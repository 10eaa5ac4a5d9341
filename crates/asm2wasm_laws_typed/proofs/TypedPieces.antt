-- The types of the pieces that the code of an expression is made of.
use Rattle.std.proofs.Common.{◌≡◌, ℕ, ◌-◌, ◌^◌, ◌≤◌, Bool, true, false, List, [], ◌∷◌, Option, Some, None, refl, sym, ap, subst, ◌∙◌, arith}
use Rattle.std.specs.Prelude.{if◌then◌else◌, ◌==◌, slice_get, nat_le}
use Rattle.std.specs.Option.{is_some}
use Rattle.std.proofs.lemmas.Bool.{and_parts, eqb-true}
use Rattle.sem_words.specs.declared.word.Bin.{Bin}
use Rattle.sem_words.specs.declared.js_value.JsOp.{JsOp}
use Rattle.sem_words.specs.declared.js_value.JsOp.TheVariants.{Add, Sub, Mul, Div, Rem, Or, And, Xor, Shl, Sar, Shr, Lt, Le, Gt, Ge, Eq, Ne}
use Rattle.sem_words.specs.declared.js_value.JsUnary.{JsUnary}
use Rattle.sem_words.specs.declared.js_value.JsUnary.TheVariants.{Neg, BitNot, Not, Plus}
use Rattle.wasm_lang.specs.declared.types.ValType.{ValType}
use Rattle.wasm_lang.specs.declared.types.ValType.TheVariants.{I32}
use Rattle.wasm_lang.specs.Instructions as instructions
use Rattle.wasm_lang.specs.Instructions.{bin32, local_get, drop_operand}
use Rattle.wasm_lang_valid.specs.Typing.{Context, type_of, inside}
use Rattle.wasm_lang_exec.specs.Code.{Trees, ◌⊕◌}
use Rattle.wasm_laws_sound.specs.Trees.{IsTyped}
use Rattle.wasm_laws_trees.specs.Spelled.{reach}
use Rattle.wasm_laws_trees.proofs.Joined.{types_join, reach_joins}
use Rattle.asm_lang_valid.specs.declared.meaning.Element.{Element}
use Rattle.asm_lang_valid.specs.declared.meaning.Builtin.{Builtin}
use Rattle.asm_lang_valid.specs.declared.meaning.Builtin.TheVariants.{Imul, Clz32}
use Rattle.asm_lang_valid.specs.Scope.{shift_of, Meaning, a_foreign, a_builtin, a_view, a_function, a_table, Signature, signature_of, first_member}
use Rattle.asm_lang_valid.specs.LimitRows.{callee_marks, a_use, rows_of, most_params}
use Rattle.asm_lang_valid.specs.declared.rule.Rule.TheVariants.{PastLimit}
use Rattle.asm_lang_valid.specs.Rows.{need}
use Rattle.asm_lang_valid.specs.Typing.{Scope, named, matches, builtin_arguments, builtin_type, builtin_call, callee_fits, table_fits}
use Rattle.asm2wasm_translation.specs.Numbers.{VariablePlace, a_local, a_global, nowhere, own_number, import_number}
use Rattle.asm2wasm_lang.specs.Calling.{int_type}
use Rattle.asm2wasm_translation.specs.Values.{number, plains, one, get_code, put_code, guarded, quotient, operator, before_operand, after_operand, aligned, from_base, load_code, store_code, stored_code, callee_code, builtin_code, dropped, entry_code, finished, access, is_signed_element}
use Rattle.asm2wasm_laws_typed.specs.Contexts.{IsContextOf, AreListed, variable_int}
use Rattle.asm2wasm_laws_typed.specs.Laws.{given}
use Rattle.asm2wasm_laws_typed.proofs.Steps.{const_step, bin_step, rel_step, un_step, eqz_step, drop_step, get_step, set_step, tee_step, global_get_step, global_set_step, stop_step, load_step, store_step, ints, call_step, entry_step}
use Rattle.asm2wasm_laws_typed.proofs.Known.{signature_matches, row_holds, listed_right}

pub inside_context : {c : Scope} {room : ℕ} {w : Context} (r : Option ValType) → IsContextOf c room w → IsContextOf c room (inside r w)
inside_context r k = record { locals = k.locals; globals = k.globals; functions = k.functions; imports = k.imports; types = k.types; table = k.table; memory = k.memory }

pub finished_reach : (wanted : Bool) (t : Trees) {n : ℕ} → reach (finished wanted t) ≤ n → reach t ≤ n
finished_reach true t h = h
finished_reach false t h = omega (arith, h, reach_joins t (one drop_operand))

module _ (w : Context) where
  pub finished_typed : (wanted : Bool) (t : Trees) (before : List ValType) → IsTyped w t before (I32 ∷ before) → IsTyped w (finished wanted t) before (given wanted before)
  finished_typed true t before h = h
  finished_typed false t before h = types_join w t (one drop_operand) before (I32 ∷ before) before h (drop_step refl)

  -- two instructions that may be left out
  optional_typed : (b : Bool) (n : ℕ) (op : Bin) (before : List ValType) → IsTyped w (plains (if b then [] else number n ∷ bin32 op ∷ [])) (I32 ∷ before) (I32 ∷ before)
  optional_typed true n op before = refl
  optional_typed false n op before = const_step (bin_step refl)

  pub aligned_typed : (k : ℕ) (before : List ValType) → IsTyped w (plains (aligned k)) (I32 ∷ before) (I32 ∷ before)
  aligned_typed k before = optional_typed (k == 0) (2 ^ 32 - 2 ^ k) _ before

  pub base_typed : (base : ℕ) (before : List ValType) → IsTyped w (plains (from_base base)) (I32 ∷ before) (I32 ∷ before)
  base_typed base before = optional_typed (base == 0) base _ before

  -- ---- prefix operators

  pub unary_typed : (op : JsUnary) (t : Trees) (before : List ValType) → ((below : List ValType) → IsTyped w t below (I32 ∷ below))
      → IsTyped w (before_operand op ⊕ (t ⊕ after_operand op)) before (I32 ∷ before)
  unary_typed Neg t before h = const_step (types_join w t _ (I32 ∷ before) (I32 ∷ I32 ∷ before) (I32 ∷ before) (h (I32 ∷ before)) (bin_step refl))
  unary_typed BitNot t before h = const_step (types_join w t _ (I32 ∷ before) (I32 ∷ I32 ∷ before) (I32 ∷ before) (h (I32 ∷ before)) (bin_step refl))
  unary_typed Not t before h = types_join w t _ before (I32 ∷ before) (I32 ∷ before) (h before) (eqz_step refl)
  unary_typed Plus t before h = types_join w t _ before (I32 ∷ before) (I32 ∷ before) (h before) (stop_step [] [] (I32 ∷ before) refl)

  pub builtin_typed : (c : Scope) (wanted : Bool) (n : List ℕ) (v : Meaning) (count : ℕ) (all : Bool) (before : List ValType) → is_some (builtin_call v count all) ≡ true
      → IsTyped w (callee_code c wanted n count v ⊕ dropped wanted v) (ints count before) (given wanted before)
  builtin_typed c wanted n (a_builtin b) count all before h =
      let parts = and_parts (count == builtin_arguments b) all (row_holds _ (builtin_type b) h) in
      subst (λ k. IsTyped w (builtin_code b ⊕ dropped wanted (a_builtin b)) (ints k before) (given wanted before)) (sym (eqb-true count (builtin_arguments b) parts.0)) (of b wanted)
    where
      of : (b : Builtin) (wanted : Bool) → IsTyped w (builtin_code b ⊕ dropped wanted (a_builtin b)) (ints (builtin_arguments b) before) (given wanted before)
      of Imul true = bin_step refl
      of Imul false = bin_step (drop_step refl)
      of Clz32 true = un_step refl
      of Clz32 false = un_step (drop_step refl)
  builtin_typed c wanted n _ count all before h = absurd (cc h)

module _ {c : Scope} {room : ℕ} (w : Context) (k : IsContextOf c room w) where
  -- ---- variables

  pub get_typed : (p : VariablePlace) (before : List ValType) → ((x : ℕ) → p ≡ a_global x → slice_get w.globals x ≡ Some variable_int) → reach (get_code p) ≤ room → IsTyped w (get_code p) before (I32 ∷ before)
  get_typed (a_local x) before g r = get_step (k.locals x (omega (arith, r))) refl
  get_typed (a_global x) before g r = global_get_step (g x refl) refl
  get_typed nowhere before g r = stop_step [] (I32 ∷ []) before refl

  pub put_typed : (wanted : Bool) (p : VariablePlace) (before : List ValType) → ((x : ℕ) → p ≡ a_global x → slice_get w.globals x ≡ Some variable_int) → reach (put_code wanted p) ≤ room
      → IsTyped w (put_code wanted p) (I32 ∷ before) (given wanted before)
  put_typed true (a_local x) before g r = tee_step (k.locals x (omega (arith, r))) refl
  put_typed false (a_local x) before g r = set_step (k.locals x (omega (arith, r))) refl
  put_typed true (a_global x) before g r = global_set_step (g x refl) (global_get_step (g x refl) refl)
  put_typed false (a_global x) before g r = global_set_step (g x refl) refl
  put_typed true nowhere before g r = stop_step (I32 ∷ []) (I32 ∷ []) before refl
  put_typed false nowhere before g r = stop_step (I32 ∷ []) [] before refl

  -- ---- operators on two operands

  guarded_typed : (x y : ℕ) (op : Bin) (before : List ValType) → reach (guarded x y op) ≤ room → IsTyped w (guarded x y op) (I32 ∷ I32 ∷ before) (I32 ∷ before)
  guarded_typed x y op before r =
      let is_x = k.locals x (omega (arith, r)) in
      let is_y = k.locals y (omega (arith, r)) in
      set_step is_y (set_step is_x (get_step is_y (before, refl, get_step is_x (get_step is_y (bin_step refl)), const_step refl, refl)))

  quotient_typed : (unsigned : Bool) (x y : ℕ) (before : List ValType) → reach (quotient unsigned x y) ≤ room → IsTyped w (quotient unsigned x y) (I32 ∷ I32 ∷ before) (I32 ∷ before)
  quotient_typed true x y before r = guarded_typed x y _ before r
  quotient_typed false x y before r =
      let is_x = k.locals x (omega (arith, r)) in
      let is_y = k.locals y (omega (arith, r)) in
      set_step is_y (set_step is_x (get_step is_y (const_step (bin_step (const_step (rel_step
      (before, refl, get_step is_x (get_step is_y (bin_step refl)), get_step is_x (get_step is_y (bin_step refl)), refl)))))))

  pub operator_typed : (op : JsOp) (unsigned : Bool) (x y : ℕ) (before : List ValType) → reach (operator op unsigned x y) ≤ room → IsTyped w (operator op unsigned x y) (I32 ∷ I32 ∷ before) (I32 ∷ before)
  operator_typed Add u x y before r = bin_step refl
  operator_typed Sub u x y before r = bin_step refl
  operator_typed Mul u x y before r = bin_step refl
  operator_typed Div u x y before r = quotient_typed u x y before r
  operator_typed Rem u x y before r = guarded_typed x y _ before r
  operator_typed Or u x y before r = bin_step refl
  operator_typed And u x y before r = bin_step refl
  operator_typed Xor u x y before r = bin_step refl
  operator_typed Shl u x y before r = bin_step refl
  operator_typed Sar u x y before r = bin_step refl
  operator_typed Shr u x y before r = bin_step refl
  operator_typed Lt u x y before r = rel_step refl
  operator_typed Le u x y before r = rel_step refl
  operator_typed Gt u x y before r = rel_step refl
  operator_typed Ge u x y before r = rel_step refl
  operator_typed Eq u x y before r = rel_step refl
  operator_typed Ne u x y before r = rel_step refl

  -- ---- elements of views

  pub load_typed : (heap x : ℕ) (v : Meaning) (before : List ValType) → ((e : Element) → v ≡ a_view e → w.memory ≡ true) → reach (load_code heap x v) ≤ room
      → IsTyped w (load_code heap x v) (I32 ∷ before) (I32 ∷ before)
  load_typed heap x (a_view v) before memory r =
      let is_x = k.locals x (omega (arith, r)) in
      tee_step is_x (const_step (rel_step (before, refl, get_step is_x (load_step v (memory v refl) refl), const_step refl, refl)))
  load_typed heap x _ before memory r = stop_step [] [] (I32 ∷ before) refl

  pub store_typed : (heap x y : ℕ) (v : Meaning) (before : List ValType) → ((e : Element) → v ≡ a_view e → w.memory ≡ true) → reach (store_code heap x y v) ≤ room
      → IsTyped w (store_code heap x y v) (I32 ∷ I32 ∷ before) before
  store_typed heap x y (a_view v) before memory r =
      let is_x = k.locals x (omega (arith, r)) in
      let is_y = k.locals y (omega (arith, r)) in
      set_step is_y (tee_step is_x (const_step (rel_step (before, refl, get_step is_x (get_step is_y (store_step v (memory v refl) refl)), refl, refl))))
  store_typed heap x y _ before memory r = stop_step (I32 ∷ I32 ∷ []) [] before refl

  pub stored_typed : (wanted : Bool) (y : ℕ) (before : List ValType) → reach (stored_code wanted y) ≤ room → IsTyped w (stored_code wanted y) before (given wanted before)
  stored_typed true y before r = get_step (k.locals y (omega (arith, r))) refl
  stored_typed false y before r = refl

  -- ---- calls

  pub callee_typed : (wanted : Bool) (n : List ℕ) (v : Meaning) (count at : ℕ) (are_ints are_externs : Bool) (before : List ValType) → named c n ≡ v
      → callee_fits v wanted count are_ints are_externs ≡ true → AreListed c.home (callee_marks v wanted count at)
      → IsTyped w (callee_code c wanted n count v ⊕ dropped wanted v) (ints count before) (given wanted before)
  callee_typed wanted n (a_function f) count at are_ints are_externs before is fits listed =
      let alike = signature_matches (signature_of f) count wanted (and_parts (matches (Some (signature_of f)) count wanted) are_ints fits).0 in
      let typed = k.functions n f is ∙ ap (λ i. Some (int_type i (signature_of f).result)) (sym alike.0) ∙ ap (λ b. Some (int_type count b)) (sym alike.1) in
      of wanted typed
    where
      of : (wanted : Bool) → type_of w (own_number c.home n) ≡ Some (int_type count wanted) → IsTyped w (callee_code c wanted n count (a_function f) ⊕ dropped wanted (a_function f)) (ints count before) (given wanted before)
      of true t = call_step count true before t refl
      of false t = call_step count false before t refl
  callee_typed wanted n (a_foreign p) count at are_ints are_externs before is fits listed =
      let asked = listed_right c.home (rows_of (need (nat_le count most_params) PastLimit at)) (a_use (record { name = p; params = count; result = wanted }) at ∷ []) listed in
      of wanted (k.imports (record { name = p; params = count; result = wanted }) asked.0)
    where
      of : (wanted : Bool) → type_of w (import_number c.home (record { name = p; params = count; result = wanted })) ≡ Some (int_type count wanted)
          → IsTyped w (callee_code c wanted n count (a_foreign p) ⊕ dropped wanted (a_foreign p)) (ints count before) (given wanted before)
      of true t = call_step count true before t refl
      of false t = call_step count false before t refl
  callee_typed wanted n _ count at are_ints are_externs before is fits listed = absurd (cc fits)

  pub entry_typed : (wanted : Bool) (n : List ℕ) (v : Meaning) (count : ℕ) (are_ints : Bool) (before : List ValType) → named c n ≡ v → table_fits c.home v wanted count are_ints ≡ true
      → IsTyped w (entry_code c v) (I32 ∷ ints count before) (given wanted before)
  entry_typed wanted n (a_table t) count are_ints before is fits =
      of (first_member c.home t.members) refl (and_parts (matches (first_member c.home t.members) count wanted) are_ints fits).0
    where
      of : (o : Option Signature) → first_member c.home t.members ≡ o → matches o count wanted ≡ true → IsTyped w (entry_code c (a_table t)) (I32 ∷ ints count before) (given wanted before)
      of None e h = absurd (cc h)
      of (Some s) e h =
          let alike = signature_matches s count wanted h in
          let typed = k.types n t s is e ∙ ap (λ i. Some (int_type i s.result)) (sym alike.0) ∙ ap (λ b. Some (int_type count b)) (sym alike.1) in
          entry_step _ count wanted before (k.table n t is) typed refl
  entry_typed wanted n _ count are_ints before is fits = absurd (cc fits)
