-- The types of the code of expressions.
use Rattle.std.proofs.Common.{◌≡◌, ℕ, suc, ◌+◌, ◌<◌, ◌≤◌, Bool, true, false, List, [], ◌∷◌, ◌++◌, length, Option, Some, None, refl, subst, arith}
use Rattle.std.specs.Prelude.{if◌then◌else◌, ◌&&◌, ◌||◌, slice_get}
use Rattle.std.specs.Option.{is_some, IfSome}
use Rattle.std.proofs.lemmas.Bool.{and_parts}
use Rattle.sem_words.specs.declared.js_value.JsOp.{JsOp}
use Rattle.sem_words.specs.declared.js_value.JsOp.TheVariants.{Sar}
use Rattle.asm_types.specs.declared.value_type.ValueType.TheVariants.{Signed, Int, Intish, Extern}
use Rattle.asm_types.specs.Rows.{unary_row_of}
use Rattle.wasm_lang.specs.declared.types.ValType.{ValType}
use Rattle.wasm_lang.specs.declared.types.ValType.TheVariants.{I32}
use Rattle.wasm_lang.specs.Instructions.{bin32, local_get, local_set}
use Rattle.wasm_lang_valid.specs.Typing.{Context, inside}
use Rattle.wasm_lang_exec.specs.Code.{Trees, ε, ◌▹◌, ◌⊕◌, if_block}
use Rattle.wasm_laws_sound.specs.Trees.{IsTyped}
use Rattle.wasm_laws_trees.specs.Spelled.{reach}
use Rattle.wasm_laws_trees.proofs.Joined.{types_join}
use Rattle.asm_lang.specs.Modules.{Expr, lit, decimal, var, index, call, table_call, assign, store, unary, binary, chain, cond, comma, Exprs, no_exprs, exprs, Links, no_links, links}
use Rattle.asm_lang_valid.specs.Scope.{Meaning, a_function, a_foreign, a_table, a_builtin}
use Rattle.asm_lang_valid.specs.Rows.{expr_count}
use Rattle.asm_lang_valid.specs.LimitRows.{expr_marks, exprs_marks, links_marks, comma_marks, call_marks, callee_marks, effect_marks}
use Rattle.asm_lang_valid.specs.Refusal.{foreign_globals}
use Rattle.asm_lang_valid.specs.Typing.{Scope, named, typed_below, is_int, index_fits, operated, exprs_length, is_call, or_zero, callee_fits, table_fits, mask_fits, builtin_call, builtin_type, type_of, all_below, links_fit, call_fits, last_type, effect_fits}
use Rattle.asm2wasm_translation.specs.Numbers.{a_global, slot_of, global_names, local_names, place_among, place_of, base_of}
use Rattle.asm2wasm_translation.specs.Values.{plains, one, get_code, put_code, operator, before_operand, after_operand, from_base, aligned, is_shift, place_code, exponent_in, load_code, store_code, stored_code, callee_code, dropped, entry_code, is_unsigned, link_operator, scratch, expr_code, left_code, arguments_code, links_code, comma_code, void_code}
use Rattle.asm2wasm_laws_typed.specs.Contexts.{IsContextOf, AreListed, variable_int}
use Rattle.asm2wasm_laws_typed.specs.Laws.{given, ValuesAreTyped, CallsAreTyped, EffectsAreTyped}
use Rattle.asm2wasm_laws_typed.proofs.ReachValues.{slot_below}
use Rattle.asm2wasm_laws_typed.proofs.Steps.{const_step, bin_step, get_step, set_step, stop_step, ints, one_further, reach_left, reach_right}
use Rattle.asm2wasm_laws_typed.proofs.Known.{row_holds, below_has, if_has, then_has, index_has, operated_has, AllHave, all_have, listed_left, listed_right, either_form, binary_form}
use Rattle.asm2wasm_laws_typed.proofs.TypedPieces.{inside_context, aligned_typed, finished_reach, finished_typed, base_typed, unary_typed, builtin_typed, get_typed, put_typed, operator_typed, load_typed, store_typed, stored_typed, callee_typed, entry_typed}

-- one of two pieces, of which both would do, or the first is taken
pub of_two : (w : Context) {room : ℕ} (b : Bool) (x y : Trees) (before after : List ValType) → (reach x ≤ room → IsTyped w x before after) → (reach y ≤ room → IsTyped w y before after)
    → reach (if b then x else y) ≤ room → IsTyped w (if b then x else y) before after
of_two w true x y before after h i r = h r
of_two w false x y before after h i r = i r

the_first : (w : Context) {room : ℕ} (b : Bool) (x y : Trees) (before after : List ValType) → b ≡ true → (reach x ≤ room → IsTyped w x before after)
    → reach (if b then x else y) ≤ room → IsTyped w (if b then x else y) before after
the_first w true x y before after e h r = h r
the_first w false x y before after e h r = absurd (cc e)

-- .. where the first one would do if it is taken
of_shift : (w : Context) {room : ℕ} (b : Bool) (x y : Trees) (before after : List ValType) → (b ≡ true → reach x ≤ room → IsTyped w x before after) → (reach y ≤ room → IsTyped w y before after)
    → reach (if b then x else y) ≤ room → IsTyped w (if b then x else y) before after
of_shift w true x y before after h i r = h refl r
of_shift w false x y before after h i r = i r

shift_isnt_or : (op : JsOp) (r : Expr) → is_shift op ≡ true → or_zero op r ≡ false
shift_isnt_or Sar r e = refl
shift_isnt_or op r e = absurd (cc e)

among_globals : (w : Context) (imported : ℕ) (names : List (List ℕ)) (o p : Option ℕ) → ((j : ℕ) → j < length names → slice_get w.globals (imported + j) ≡ Some variable_int)
    → IfSome p (λ j. j < length names) → (x : ℕ) → place_among imported o p ≡ a_global x → slice_get w.globals x ≡ Some variable_int
among_globals w imported names (Some i) p g h x e = absurd (cc e)
among_globals w imported names None (Some j) g h x e = let same : imported + j ≡ x = cc e in subst (λ y. slice_get w.globals y ≡ Some variable_int) same (g j h)
among_globals w imported names None None g h x e = absurd (cc e)

-- the arguments of a callee that they fit
callee_arguments : (c : Scope) (v : Meaning) (wanted : Bool) (count : ℕ) (es : Exprs) → callee_fits v wanted count (all_below c Int es) (all_below c Extern es) ≡ true → AllHave c es
callee_arguments c (a_function f) wanted count es h = all_have c Int es (and_parts _ (all_below c Int es) h).1
callee_arguments c (a_foreign p) wanted count es h = all_have c Extern es h
callee_arguments c _ wanted count es h = absurd (cc h)

table_arguments : (c : Scope) (v : Meaning) (wanted : Bool) (count : ℕ) (es : Exprs) → table_fits c.home v wanted count (all_below c Int es) ≡ true → AllHave c es
table_arguments c (a_table t) wanted count es h = all_have c Int es (and_parts _ (all_below c Int es) h).1
table_arguments c _ wanted count es h = absurd (cc h)

builtin_arguments : (c : Scope) (v : Meaning) (count : ℕ) (es : Exprs) → is_some (builtin_call v count (all_below c Int es)) ≡ true → AllHave c es
builtin_arguments c (a_builtin b) count es h = all_have c Int es (and_parts _ (all_below c Int es) (row_holds _ (builtin_type b) h)).1
builtin_arguments c _ count es h = absurd (cc h)

module _ (heap : ℕ) (c : Scope) (room : ℕ) where
  variable_known : (w : Context) → IsContextOf c room w → (n : List ℕ) (x : ℕ) → place_of c n ≡ a_global x → slice_get w.globals x ≡ Some variable_int
  variable_known w k n x e =
      among_globals w (length (foreign_globals c.home)) (global_names c.home) (slot_of (local_names c.within) n) (slot_of (global_names c.home) n) k.globals (slot_below (global_names c.home) n) x e

  -- the left operand of a shift
  abbrev LeftIs : Context → (d : ℕ) → Expr → Type 0
  LeftIs w d (binary op l r) = is_shift op ≡ true → reach (expr_code heap c true d l) ≤ room → (before : List ValType) → IsTyped w (expr_code heap c true d l) before (I32 ∷ before)
  LeftIs w d e = Unit {0}

  place_typed : (w : Context) (k d : ℕ) (i : Expr) (before : List ValType) → (reach (expr_code heap c true d i) ≤ room → IsTyped w (expr_code heap c true d i) before (I32 ∷ before)) → LeftIs w d i
      → reach (place_code k i (expr_code heap c true d i) (left_code heap c d i)) ≤ room → IsTyped w (place_code k i (expr_code heap c true d i) (left_code heap c d i)) before (I32 ∷ before)
  place_typed w k d (lit z) before whole left r = const_step refl
  place_typed w k d (binary op e s) before whole left r =
      let first = expr_code heap c true d e in
      of_shift w (is_shift op) (first ⊕ plains (aligned k)) (expr_code heap c true d (binary op e s)) before (I32 ∷ before)
      (λ is r. types_join w first (plains (aligned k)) before (I32 ∷ before) (I32 ∷ before) (left is (reach_left first (plains (aligned k)) r) before) (aligned_typed w k before)) whole r
  place_typed w k d i before whole left r = whole r

  mutual
    pub value_typed : (w : Context) → IsContextOf c room w → (wanted : Bool) (d at : ℕ) (e : Expr) → is_some (type_of c e) ≡ true → AreListed c.home (expr_marks c at e)
        → reach (expr_code heap c wanted d e) ≤ room → (before : List ValType) → IsTyped w (expr_code heap c wanted d e) before (given wanted before)
    value_typed w k wanted d at (lit z) t m r before = finished_typed w wanted _ before (const_step refl)
    value_typed w k wanted d at (decimal bs) t m r before = finished_typed w wanted _ before (stop_step [] (I32 ∷ []) before refl)
    value_typed w k wanted d at (var n) t m r before = finished_typed w wanted _ before (get_typed w k (place_of c n) before (variable_known w k n) (finished_reach wanted (get_code (place_of c n)) r))
    value_typed w k wanted d at (index n i) t m r before =
        let place = place_code (exponent_in (named c n)) i (expr_code heap c true d i) (left_code heap c d i) in
        let loaded = load_code heap (scratch heap c d) (named c n) in
        let q = finished_reach wanted (place ⊕ loaded) r in
        let has = index_has (named c n) i (type_of c i) (row_holds _ Intish t) in
        finished_typed w wanted _ before
        (types_join w place loaded before (I32 ∷ before) (I32 ∷ before)
        (place_typed w (exponent_in (named c n)) d i before (λ r. value_typed w k true d (at + 1) i has m r before) (left_typed w k d (at + 1) i has m) (reach_left place loaded q))
        (load_typed w k heap (scratch heap c d) (named c n) before (λ v e. k.memory n v e) (reach_right place loaded q)))
    value_typed w k wanted d at (call n es) t m r before =
        let args = arguments_code heap c d es in
        let called = callee_code c wanted n (exprs_length es) (named c n) ⊕ dropped wanted (named c n) in
        types_join w args called before (ints (exprs_length es) before) (given wanted before)
        (arguments_typed w k d (at + 1) es (builtin_arguments c (named c n) (exprs_length es) es t) m (reach_left args called r) before)
        (builtin_typed w c wanted n (named c n) (exprs_length es) (all_below c Int es) before t)
    value_typed w k wanted d at (table_call n i es) t m r before = absurd (cc t)
    value_typed w k wanted d at (assign n e) t m r before =
        let value = expr_code heap c true d e in
        let put = put_code wanted (place_of c n) in
        types_join w value put before (I32 ∷ before) (given wanted before)
        (value_typed w k true d (at + 1) e (if_has (is_int (named c n) && typed_below Int (type_of c e)) (type_of c e) t).1 m (reach_left value put r) before)
        (put_typed w k wanted (place_of c n) before (variable_known w k n) (reach_right value put r))
    value_typed w k wanted d at (store n i e) t m r before =
        let x = scratch heap c d in
        let y = scratch heap c (suc d) in
        let place = place_code (exponent_in (named c n)) i (expr_code heap c true d i) (left_code heap c d i) in
        let value = expr_code heap c true d e in
        let kept = store_code heap x y (named c n) in
        let last = stored_code wanted y in
        let fits = if_has (index_fits (named c n) i (type_of c i) && typed_below Intish (type_of c e)) (type_of c e) t in
        let has = index_has (named c n) i (type_of c i) (and_parts _ (typed_below Intish (type_of c e)) fits.0).0 in
        let index_marks = listed_left c.home (expr_marks c (at + 1) i) (expr_marks c (at + 1 + expr_count i) e) m in
        let r1 = reach_right place (value ⊕ (kept ⊕ last)) r in
        let r2 = reach_right value (kept ⊕ last) r1 in
        types_join w place (value ⊕ (kept ⊕ last)) before (I32 ∷ before) (given wanted before)
        (place_typed w (exponent_in (named c n)) d i before (λ r. value_typed w k true d (at + 1) i has index_marks r before) (left_typed w k d (at + 1) i has index_marks) (reach_left place (value ⊕ (kept ⊕ last)) r))
        (types_join w value (kept ⊕ last) (I32 ∷ before) (I32 ∷ I32 ∷ before) (given wanted before)
        (value_typed w k true d (at + 1 + expr_count i) e fits.1 (listed_right c.home (expr_marks c (at + 1) i) (expr_marks c (at + 1 + expr_count i) e) m) (reach_left value (kept ⊕ last) r1) (I32 ∷ before))
        (types_join w kept last (I32 ∷ I32 ∷ before) before (given wanted before)
        (store_typed w k heap x y (named c n) before (λ v e. k.memory n v e) (reach_left kept last r2))
        (stored_typed w k wanted y before (reach_right kept last r2))))
    value_typed w k wanted d at (unary op e) t m r before =
        let value = expr_code heap c true d e in
        let q = finished_reach wanted (before_operand op ⊕ (value ⊕ after_operand op)) r in
        let q1 = reach_left value (after_operand op) (reach_right (before_operand op) (value ⊕ after_operand op) q) in
        finished_typed w wanted _ before (unary_typed w op value before (λ below. value_typed w k true d (at + 1) e (then_has (λ t. unary_row_of op t) (type_of c e) t) m q1 below))
    value_typed w k wanted d at (binary op l r) t m h before =
        let left = expr_code heap c true d l in
        let right = expr_code heap c true d r in
        let unsigned = is_unsigned l || is_unsigned r in
        let done = operator op unsigned (scratch heap c d) (scratch heap c (suc d)) in
        let q = finished_reach wanted (if or_zero op r then left else left ⊕ (right ⊕ done)) h in
        let all = operated op l r (type_of c l) (type_of c r) in
        let first_marks = expr_marks c (at + 1) l in
        let second_marks = expr_marks c (at + 1 + expr_count l) r in
        finished_typed w wanted _ before
        (binary_form c.home (is_call c l) (or_zero op r) (call_fits c true l) Signed all (call_marks c true (at + 1) l) (first_marks ++ second_marks)
        (λ z fits listed. the_first w (or_zero op r) left (left ⊕ (right ⊕ done)) before (I32 ∷ before) z (λ reached. call_typed w k true d (at + 1) l fits listed reached before) q)
        (λ has listed.
        let both = operated_has op l r (type_of c l) (type_of c r) has in
        of_two w (or_zero op r) left (left ⊕ (right ⊕ done)) before (I32 ∷ before)
        (λ reached. value_typed w k true d (at + 1) l both.0 (listed_left c.home first_marks second_marks listed) reached before)
        (λ reached.
        let further = reach_right left (right ⊕ done) reached in
        types_join w left (right ⊕ done) before (I32 ∷ before) (I32 ∷ before)
        (value_typed w k true d (at + 1) l both.0 (listed_left c.home first_marks second_marks listed) (reach_left left (right ⊕ done) reached) before)
        (types_join w right done (I32 ∷ before) (I32 ∷ I32 ∷ before) (I32 ∷ before)
        (value_typed w k true d (at + 1 + expr_count l) r both.1 (listed_right c.home first_marks second_marks listed) (reach_left right done further) (I32 ∷ before))
        (operator_typed w k op unsigned (scratch heap c d) (scratch heap c (suc d)) before (reach_right right done further)))) q)
        t m)
    value_typed w k wanted d at (chain e ls) t m r before =
        let value = expr_code heap c true d e in
        let others = links_code heap c d ls in
        let q = finished_reach wanted (value ⊕ others) r in
        let fits = and_parts (typed_below Int (type_of c e)) (links_fit c ls) (and_parts (typed_below Int (type_of c e) && links_fit c ls) _ (row_holds _ Intish t)).0 in
        let first_marks = expr_marks c (at + 1) e in
        let second_marks = links_marks c (at + 1 + expr_count e) ls in
        finished_typed w wanted _ before
        (types_join w value others before (I32 ∷ before) (I32 ∷ before)
        (value_typed w k true d (at + 1) e (below_has Int (type_of c e) fits.0) (listed_left c.home first_marks second_marks m) (reach_left value others q) before)
        (links_typed w k d (at + 1 + expr_count e) ls fits.1 (listed_right c.home first_marks second_marks m) (reach_right value others q) before))
    value_typed w k wanted d at (cond e a b) t m r before =
        let test = expr_code heap c true d e in
        let one_way = expr_code heap c true d a in
        let other_way = expr_code heap c true d b in
        let choice = if_block (Some I32) one_way other_way ▹ ε in
        let q = finished_reach wanted (test ⊕ choice) r in
        let q1 = reach_right test choice q in
        let fits = and_parts (typed_below Int (type_of c e) && typed_below Int (type_of c a)) (typed_below Int (type_of c b)) (row_holds _ Int t) in
        let first_two = and_parts (typed_below Int (type_of c e)) (typed_below Int (type_of c a)) fits.0 in
        let marks_e = expr_marks c (at + 1) e in
        let marks_a = expr_marks c (at + 1 + expr_count e) a in
        let marks_b = expr_marks c (at + 1 + expr_count e + expr_count a) b in
        let further = listed_right c.home marks_e (marks_a ++ marks_b) m in
        finished_typed w wanted _ before
        (types_join w test choice before (I32 ∷ before) (I32 ∷ before)
        (value_typed w k true d (at + 1) e (below_has Int (type_of c e) first_two.0) (listed_left c.home marks_e (marks_a ++ marks_b) m) (reach_left test choice q) before) (
          before,
          refl,
          value_typed (inside (Some I32) w) (inside_context (Some I32) k) true d (at + 1 + expr_count e) a (below_has Int (type_of c a) first_two.1) (listed_left c.home marks_a marks_b further) (omega (arith, q1)) [],
          value_typed (inside (Some I32) w) (inside_context (Some I32) k) true d (at + 1 + expr_count e + expr_count a) b (below_has Int (type_of c b) fits.1) (listed_right c.home marks_a marks_b further) (omega (arith, q1)) [],
          refl,
        ))
    value_typed w k wanted d at (comma es) t m r before = finished_typed w wanted _ before (comma_typed w k d (at + 1) es t m (finished_reach wanted (comma_code heap c d es) r) before)

    left_typed : (w : Context) → IsContextOf c room w → (d at : ℕ) (e : Expr) → is_some (type_of c e) ≡ true → AreListed c.home (expr_marks c at e) → LeftIs w d e
    left_typed w k d at (binary op l r) t m =
        λ is reached before.
        let all = operated op l r (type_of c l) (type_of c r) in
        let first_marks = expr_marks c (at + 1) l in
        let second_marks = expr_marks c (at + 1 + expr_count l) r in
        binary_form c.home (is_call c l) (or_zero op r) (call_fits c true l) Signed all (call_marks c true (at + 1) l) (first_marks ++ second_marks)
        (λ z fits listed. absurd (cc (shift_isnt_or op r is, z)))
        (λ has listed. value_typed w k true d (at + 1) l (operated_has op l r (type_of c l) (type_of c r) has).0 (listed_left c.home first_marks second_marks listed) reached before)
        t m
    left_typed w k d at e t m = tt

    arguments_typed : (w : Context) → IsContextOf c room w → (d at : ℕ) (es : Exprs) → AllHave c es → AreListed c.home (exprs_marks c at es)
        → reach (arguments_code heap c d es) ≤ room → (before : List ValType) → IsTyped w (arguments_code heap c d es) before (ints (exprs_length es) before)
    arguments_typed w k d at no_exprs t m r before = refl
    arguments_typed w k d at (exprs e es) t m r before =
        let value = expr_code heap c true d e in
        let others = arguments_code heap c d es in
        let first_marks = expr_marks c at e in
        let second_marks = exprs_marks c (at + expr_count e) es in
        types_join w value others before (I32 ∷ before) (I32 ∷ ints (exprs_length es) before)
        (value_typed w k true d at e t.0 (listed_left c.home first_marks second_marks m) (reach_left value others r) before)
        (subst (λ ts. IsTyped w others (I32 ∷ before) ts) (one_further (exprs_length es) before)
        (arguments_typed w k d (at + expr_count e) es t.1 (listed_right c.home first_marks second_marks m) (reach_right value others r) (I32 ∷ before)))

    links_typed : (w : Context) → IsContextOf c room w → (d at : ℕ) (ls : Links) → links_fit c ls ≡ true → AreListed c.home (links_marks c at ls)
        → reach (links_code heap c d ls) ≤ room → (before : List ValType) → IsTyped w (links_code heap c d ls) (I32 ∷ before) (I32 ∷ before)
    links_typed w k d at no_links t m r before = refl
    links_typed w k d at (links minus e ls) t m r before =
        let value = expr_code heap c true d e in
        let others = links_code heap c d ls in
        let added = one (bin32 (link_operator minus)) ⊕ others in
        let fits = and_parts (typed_below Int (type_of c e)) (links_fit c ls) t in
        let first_marks = expr_marks c at e in
        let second_marks = links_marks c (at + expr_count e) ls in
        let further = reach_right value added r in
        types_join w value added (I32 ∷ before) (I32 ∷ I32 ∷ before) (I32 ∷ before)
        (value_typed w k true d at e (below_has Int (type_of c e) fits.0) (listed_left c.home first_marks second_marks m) (reach_left value added r) (I32 ∷ before))
        (bin_step (links_typed w k d (at + expr_count e) ls fits.1 (listed_right c.home first_marks second_marks m) (omega (arith, further)) before))

    comma_typed : (w : Context) → IsContextOf c room w → (d at : ℕ) (es : Exprs) → is_some (last_type c es) ≡ true → AreListed c.home (comma_marks c at es)
        → reach (comma_code heap c d es) ≤ room → (before : List ValType) → IsTyped w (comma_code heap c d es) before (I32 ∷ before)
    comma_typed w k d at no_exprs t m r before = absurd (cc t)
    comma_typed w k d at (exprs e no_exprs) t m r before = value_typed w k true d at e t m r before
    comma_typed w k d at (exprs e (exprs x es)) t m r before =
        let value = expr_code heap c false d e in
        let others = comma_code heap c d (exprs x es) in
        let fits = if_has (if is_call c e then call_fits c false e else is_some (type_of c e)) (last_type c (exprs x es)) t in
        let first_marks = if is_call c e then call_marks c false at e else expr_marks c at e in
        let second_marks = comma_marks c (at + expr_count e) (exprs x es) in
        types_join w value others before before (I32 ∷ before)
        (either_form c.home (is_call c e) (call_fits c false e) (is_some (type_of c e)) (call_marks c false at e) (expr_marks c at e)
        (λ h listed. call_typed w k false d at e h listed (reach_left value others r) before)
        (λ h listed. value_typed w k false d at e h listed (reach_left value others r) before)
        fits.0 (listed_left c.home first_marks second_marks m))
        (comma_typed w k d (at + expr_count e) (exprs x es) fits.1 (listed_right c.home first_marks second_marks m) (reach_right value others r) before)

    pub call_typed : (w : Context) → IsContextOf c room w → (wanted : Bool) (d at : ℕ) (e : Expr) → call_fits c wanted e ≡ true → AreListed c.home (call_marks c wanted at e)
        → reach (expr_code heap c wanted d e) ≤ room → (before : List ValType) → IsTyped w (expr_code heap c wanted d e) before (given wanted before)
    call_typed w k wanted d at (call n es) t m r before =
        let args = arguments_code heap c d es in
        let called = callee_code c wanted n (exprs_length es) (named c n) ⊕ dropped wanted (named c n) in
        let first_marks = exprs_marks c (at + 1) es in
        let second_marks = callee_marks (named c n) wanted (exprs_length es) at in
        types_join w args called before (ints (exprs_length es) before) (given wanted before)
        (arguments_typed w k d (at + 1) es (callee_arguments c (named c n) wanted (exprs_length es) es t) (listed_left c.home first_marks second_marks m) (reach_left args called r) before)
        (callee_typed w k wanted n (named c n) (exprs_length es) at (all_below c Int es) (all_below c Extern es) before refl t (listed_right c.home first_marks second_marks m))
    call_typed w k wanted d at (table_call n i es) t m r before =
        let x = scratch heap c d in
        let place = expr_code heap c true d i in
        let based = plains (from_base (base_of c.home n)) in
        let args = arguments_code heap c (suc d) es in
        let entry = one (local_get x) ⊕ entry_code c (named c n) in
        let saved = one (local_set x) ⊕ (args ⊕ entry) in
        let fits = and_parts (table_fits c.home (named c n) wanted (exprs_length es) (all_below c Int es)) (is_some (type_of c i) && mask_fits (named c n) i) t in
        let first_marks = expr_marks c (at + 1) i in
        let second_marks = exprs_marks c (at + 1 + expr_count i) es in
        let r1 = reach_right place (based ⊕ saved) r in
        let r2 = reach_right based saved r1 in
        let r3 = reach_right (one (local_set x)) (args ⊕ entry) r2 in
        let is_x = k.locals x (omega (arith, r2)) in
        types_join w place (based ⊕ saved) before (I32 ∷ before) (given wanted before)
        (value_typed w k true d (at + 1) i (and_parts (is_some (type_of c i)) (mask_fits (named c n) i) fits.1).0 (listed_left c.home first_marks second_marks m) (reach_left place (based ⊕ saved) r) before)
        (types_join w based saved (I32 ∷ before) (I32 ∷ before) (given wanted before) (base_typed w (base_of c.home n) before)
        (set_step is_x
        (types_join w args entry before (ints (exprs_length es) before) (given wanted before)
        (arguments_typed w k (suc d) (at + 1 + expr_count i) es (table_arguments c (named c n) wanted (exprs_length es) es fits.0) (listed_right c.home first_marks second_marks m) (reach_left args entry r3) before)
        (get_step is_x (entry_typed w k wanted n (named c n) (exprs_length es) (all_below c Int es) before refl fits.0)))))
    call_typed w k wanted d at _ t m r before = absurd (cc t)

  pub effect_typed : (w : Context) → IsContextOf c room w → (d at : ℕ) (e : Expr) → effect_fits c e ≡ true → AreListed c.home (effect_marks c at e)
      → reach (void_code heap c d e) ≤ room → (before : List ValType) → IsTyped w (void_code heap c d e) before before
  effect_typed w k d at e t m r before =
      either_form c.home (is_call c e) (call_fits c false e) (is_some (type_of c e)) (call_marks c false at e) (expr_marks c at e)
      (λ h listed. call_typed w k false d at e h listed r before)
      (λ h listed. value_typed w k false d at e h listed r before)
      t m

pub values_are_typed : ValuesAreTyped
values_are_typed = value_typed

pub calls_are_typed : CallsAreTyped
calls_are_typed = call_typed

pub effects_are_typed : EffectsAreTyped
effects_are_typed = effect_typed
