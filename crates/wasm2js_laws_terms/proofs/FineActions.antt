-- Sound actions are fine statements.
use Rattle.std.proofs.Common.{◌≡◌, ℕ, ◌+◌, ◌*◌, ◌≤◌, ◌<◌, ◌^◌, max, Bool, true, false, ◌&&◌, List, [], ◌∷◌, ◌++◌, length, Option, Some, None, refl, sym, ap, subst, arith, append-nil}
use Rattle.std.specs.List.{AllByRecursion}
use Rattle.std.specs.Prelude.{pos, is_some, nat_lt, ◌==◌, if◌then◌else◌}
use Rattle.std.proofs.lemmas.Bool.Decides.{nat_tests}
use Rattle.asm_types.specs.declared.value_type.ValueType.{ValueType}
use Rattle.asm_types.specs.declared.value_type.ValueType.TheVariants.{Fixnum, Signed, Unsigned, Int, Intish}
use Rattle.asm_types.specs.Rows.{row}
use Rattle.sem_words.specs.declared.js_value.JsOp.TheVariants.{Gt}
use Rattle.asm_lang.specs.Modules.{Expr, binary, call, assign, store, Stmt, block, plain, empty, if_only, if_else, returns, while_loop, do_while, for_loop, breaks, continues, labelled, switches}
use Rattle.asm_lang.specs.Heights.{expr_height, exprs_height, stmt_heights}
use Rattle.asm_laws_print.specs.Fitting.{ends_open, FitsStmt}
use Rattle.asm_lang_valid.specs.declared.meaning.Element.{Element}
use Rattle.asm_lang_valid.specs.declared.meaning.Element.TheVariants.{Uint8, Int32}
use Rattle.asm_lang_valid.specs.Scope.{an_int, a_foreign, a_view, shift_of, Signature, last_gives_value}
use Rattle.asm_lang_valid.specs.Rows.{expr_count, stmt_count}
use Rattle.asm_lang_valid.specs.Typing.{Scope, Around, named, same, literal_type, typed_below, is_int, is_call, type_of, call_fits, index_fits, typed}
use Rattle.asm_lang_valid.specs.LimitRows.{Mark, call_marks, stmt_marks}
use Rattle.wasm2js_translation.specs.Names.{Name, Fixed, fixed, spelled, view_of_bytes, view_of_words, trap}
use Rattle.wasm2js_translation.specs.Words.{Term, Simple, put, ask, tell, guard, stop, write_byte, write_whole, Action, simply, either, natural, signed_number, as_unsigned, indexed, name_of, expr, int_of, test_of, arguments, trap_call, stmts_in, is_flat, part_of, simple_statement, simple_statements, statement, statements}
use Rattle.wasm2js_laws_terms.specs.Sound.{IsHelper, IsSoundSimple, AreSoundSimple, IsSoundAction, AreSoundActions, simple_depth, simples_depth, action_depth, actions_depth, term_depth, terms_depth}
use Rattle.wasm2js_laws_terms.specs.Laws.{IsFineExpr, IsTrapUse, IsFine, AreFine, height_of, ActionsAreFine, StatementsAreFine}
use Rattle.wasm2js_laws_terms.proofs.FineExprs.{is_identifier, is_typed_below, intish, above_fine, place_fine, index_is_fit, AreFineExprs}
use Rattle.wasm2js_laws_terms.proofs.FineTerms.{has_depth, number_fine, test_fine, term_fine, arguments_fine, arguments_length}

-- ---- marks

pub no_marks : (ms : List Mark) → ms ≡ [] → AllByRecursion IsTrapUse ms
no_marks ms h = subst (AllByRecursion IsTrapUse) (sym h) tt

pub both_marks : (a b : List Mark) → AllByRecursion IsTrapUse a → AllByRecursion IsTrapUse b → AllByRecursion IsTrapUse (a ++ b)
both_marks [] b p q = q
both_marks (m ∷ a) b p q = (p.0, both_marks a b p.1 q)

-- ---- tests

pub same_self : (b : Bool) → same b b ≡ true
same_self true = refl
same_self false = refl

pub equal_self : (n : ℕ) → (n == n) ≡ true
equal_self n = grind (arith, nat_tests)

some_if : (b : Bool) (o : Option ValueType) (t : ValueType) → b ≡ true → o ≡ Some t → is_some (if b then o else None) ≡ true
some_if b o t p q = rw (p, q) refl

pub both_true : (a b : Bool) → a ≡ true → b ≡ true → (a && b) ≡ true
both_true a b p q = rw (p, q) refl

-- ---- heights

in_turn : {a b : ℕ} (d : ℕ) → a ≤ b → b ≤ d → a ≤ d
in_turn d p q = omega (arith, p, q)

put_low : (a d : ℕ) → a ≤ 3 * d → 1 + (1 + a) ≤ 4 + 3 * d
put_low a d h = omega (arith, h)

ask_low : (a d : ℕ) → a ≤ 3 * d → 1 + (1 + (1 + max (1 + a) 1)) ≤ 4 + 3 * d
ask_low a d h = omega (arith, h)

guard_low : (a d : ℕ) → a ≤ 1 + max (1 + max (3 * d) 1) 1 → 1 ≤ d → 1 + max a (1 + (1 + max 1 0)) ≤ 4 + 3 * d
guard_low a d h p = omega (arith, h, p)

write_low : (i t a b : ℕ) → i ≤ 1 + max (3 * a) 1 → t ≤ 3 * b → 1 + (1 + max i t) ≤ 4 + 3 * max a b
write_low i t a b h k = omega (arith, h, k)

either_low : (e f s t a b : ℕ) → e ≤ 1 + max (3 * t) 1 → f ≤ max 1 (4 + 3 * a) → s ≤ max 1 (4 + 3 * b) → 1 + max e (max f s) ≤ 5 + 3 * max t (max a b)
either_low e f s t a b p q r = omega (arith, p, q, r)

module _ (c : Scope) (around : Around) where
  -- ---- assignments and writes

  pub assigned : (n : Name) (e : Expr) (t : ValueType) → named c (spelled n) ≡ an_int → typed_below Int (type_of c e) ≡ true → type_of c e ≡ Some t → is_some (type_of c (assign (spelled n) e)) ≡ true
  assigned n e t h below is = some_if (is_int (named c (spelled n)) && typed_below Int (type_of c e)) (type_of c e) t (both_true _ _ (ap is_int h) below) is

  put_fine : (n : Name) (t : Term) → IsSoundSimple c (put n t) → IsFine c around (simple_statement (put n t)) (4 + 3 * term_depth t)
  put_fine n t h =
      let f = (term_fine c t h.1).as_int in
      record {
        is_typed = assigned n (int_of t) f.type h.0 (is_typed_below c f) f.has_type;
        printed = (is_identifier n, f.printed);
        low = put_low (expr_height (int_of t)) (term_depth t) f.low;
        marks = λ at. no_marks _ (f.no_marks (at + 1 + 1));
      }

  write_fine : (v : Element) (view : Fixed) (at t : Term) → named c (name_of view) ≡ a_view v → IsFineExpr c (expr at) Intish (3 * term_depth at) → IsFineExpr c (int_of t) Int (3 * term_depth t)
      → IsFine c around (plain (store (name_of view) (indexed (shift_of v) (expr at)) (int_of t))) (4 + 3 * max (term_depth at) (term_depth t))
  write_fine v view at t is f g =
      let p = place_fine c v f in
      record {
        is_typed = some_if (index_fits (named c (name_of view)) (indexed (shift_of v) (expr at)) (type_of c (indexed (shift_of v) (expr at))) && typed_below Intish (type_of c (int_of t)))
            (type_of c (int_of t)) g.type (both_true _ _ (index_is_fit c v view is p) (is_typed_below c (intish c g))) g.has_type;
        printed = (is_identifier (fixed view), p.printed, g.printed);
        low = write_low (expr_height (indexed (shift_of v) (expr at))) (expr_height (int_of t)) (term_depth at) (term_depth t) p.low g.low;
        marks = λ n. both_marks _ _ (no_marks _ (p.no_marks (n + 1 + 1))) (no_marks _ (g.no_marks (n + 1 + 1 + expr_count (indexed (shift_of v) (expr at)))));
      }

  -- ---- calls of helpers

  module _ (f : Fixed) (ts : List Term) (result : Bool) (h : IsHelper c f (length ts) result) (g : AreFineExprs c (arguments ts) (3 * terms_depth ts)) where
    is_a_call : is_call c (call (name_of f) (arguments ts)) ≡ true
    is_a_call = let e = h.is_this in rw e refl

    call_is_fit : call_fits c result (call (name_of f) (arguments ts)) ≡ true
    call_is_fit =
        let e = h.is_this in
        let p : length h.function.params ≡ length ts = ap (λ (s : Signature). s.params) h.signature in
        let r : last_gives_value h.function.body ≡ result = ap (λ (s : Signature). s.result) h.signature in
        let n = arguments_length ts in
        let i = g.ints in
        let self = equal_self (length ts) in
        let as_asked = same_self result in
        rw (e, p, r, n, i, self, as_asked) refl

    call_has_no_marks : (at : ℕ) → call_marks c result at (call (name_of f) (arguments ts)) ≡ []
    call_has_no_marks at =
        let e = h.is_this in
        let m = g.no_marks (at + 1) in
        rw (m, e) refl

  ask_fine : (n : Name) (f : Fixed) (ts : List Term) → IsSoundSimple c (ask n f ts) → IsFine c around (simple_statement (ask n f ts)) (4 + 3 * terms_depth ts)
  ask_fine n f ts h =
      let g = arguments_fine c ts h.2 in
      let called = call (name_of f) (arguments ts) in
      let yes = is_a_call f ts true h.1 g in
      let fits = call_is_fit f ts true h.1 g in
      let has : type_of c (signed_number called) ≡ Some Signed = rw (yes, fits) refl in
      record {
        is_typed = assigned n (signed_number called) Signed h.0 (rw has refl) has;
        printed = (is_identifier n, (refl, (is_identifier (fixed f), g.printed), omega arith));
        low = ask_low (exprs_height (arguments ts)) (terms_depth ts) g.low;
        marks = λ at. no_marks _ (let m = call_has_no_marks f ts true h.1 g (at + 1 + 1 + 1) in rw (yes, m) refl);
      }

  tell_fine : (f : Fixed) (ts : List Term) → IsSoundSimple c (tell f ts) → IsFine c around (simple_statement (tell f ts)) (4 + 3 * terms_depth ts)
  tell_fine f ts h =
      let g = arguments_fine c ts h.1 in
      let yes = is_a_call f ts false h.0 g in
      let fits = call_is_fit f ts false h.0 g in
      record {
        is_typed = rw (yes, fits) refl;
        printed = (is_identifier (fixed f), g.printed);
        low = tell_low (exprs_height (arguments ts)) (terms_depth ts) g.low;
        marks = λ at. no_marks _ (let m = call_has_no_marks f ts false h.0 g (at + 1) in rw (yes, m) refl);
      }
    where
      tell_low : (a d : ℕ) → a ≤ 3 * d → 1 + (1 + a) ≤ 4 + 3 * d
      tell_low a d h = omega (arith, h)

  -- ---- traps

  pub trap_fine : (kind : ℕ) → named c (name_of trap) ≡ a_foreign (name_of trap) → kind < 2 ^ 31 → IsFine c around (trap_call kind) 3
  trap_fine kind is small =
      let t : literal_type (pos kind) ≡ Some Fixnum = ap (λ b. if b then Some Fixnum else row (nat_lt kind (2 ^ 32)) Unsigned) (in_words kind small) in
      record {
        is_typed = rw (is, t) refl;
        printed = (is_identifier (fixed trap), (wide kind small, tt));
        low = omega arith;
        marks = λ at. rw is (refl, tt);
      }
    where
      in_words : (n : ℕ) → n < 2 ^ 31 → nat_lt n (2 ^ 31) ≡ true
      in_words n h = grind (arith, nat_tests)

      wide : (n : ℕ) → n < 2 ^ 31 → n < 2 ^ 64
      wide n h = omega (arith, h)

  guard_fine : (t : Term) (most kind : ℕ) → IsSoundSimple c (guard t most kind) → IsFine c around (simple_statement (guard t most kind)) (4 + 3 * term_depth t)
  guard_fine t most kind h =
      let f = above_fine c most h.1 (number_fine c false t h.0 (term_fine c t h.0).as_it_is) in
      let s = trap_fine kind h.2.0 h.2.1 in
      record {
        is_typed = both_true _ _ (is_typed_below c f) s.is_typed;
        printed = (f.printed, s.printed);
        low = guard_low _ (term_depth t) f.low (has_depth t);
        marks = λ at. both_marks _ _ (no_marks _ (f.no_marks (at + 1))) (s.marks (at + 1 + expr_count (binary Gt (as_unsigned t (expr t)) (natural most))));
      }

  pub simple_fine : (s : Simple) → IsSoundSimple c s → IsFine c around (simple_statement s) (4 + 3 * simple_depth s)
  simple_fine (put n t) h = put_fine n t h
  simple_fine (ask n f ts) h = ask_fine n f ts h
  simple_fine (tell f ts) h = tell_fine f ts h
  simple_fine (guard t most kind) h = guard_fine t most kind h
  simple_fine (stop kind) h = let f = trap_fine kind h.0 h.1 in record { is_typed = f.is_typed; printed = f.printed; low = in_turn _ f.low (omega arith); marks = f.marks }
  simple_fine (write_byte at t) h = write_fine Uint8 view_of_bytes at t h.0 (term_fine c at h.1).as_it_is (term_fine c t h.2).as_int
  simple_fine (write_whole at t) h = write_fine Int32 view_of_words at t h.0 (term_fine c at h.1).as_it_is (term_fine c t h.2).as_int

  -- ---- statements in a row

  pub none_fine : (h : ℕ) → AreFine c around [] h
  none_fine h = record { are_typed = refl; printed = tt; low = omega arith; marks = λ at. tt }

  pub one_more_fine : (s : Stmt) (ss : List Stmt) (h k m : ℕ) → h ≤ m → k ≤ m → IsFine c around s h → AreFine c around ss k → AreFine c around (s ∷ ss) m
  one_more_fine s ss h k m p q f g = record {
    are_typed = both_true _ _ f.is_typed g.are_typed;
    printed = (f.printed, g.printed);
    low = two f.low g.low p q;
    marks = λ at. both_marks _ _ (f.marks at) (g.marks (at + stmt_count s));
  }
    where
      two : {a b h k m : ℕ} → a ≤ h → b ≤ k → h ≤ m → k ≤ m → max a b ≤ m
      two p q r s = omega (arith, p, q, r, s)

  -- ---- a part of an `if`

  -- no `else` behind it would go to another `if`
  pub record IsFinePart (s : Stmt) (h : ℕ) : Type 0 where
    pub is_typed : typed c around s ≡ true
    pub closed : ends_open s ≡ false
    pub printed : FitsStmt s
    pub low : (stmt_heights s).as_body ≤ max 1 h
    pub marks : (at : ℕ) → AllByRecursion IsTrapUse (stmt_marks c at s)

  part_low : (k h : ℕ) → k ≤ h → max 1 k ≤ max 1 h
  part_low k h p = omega (arith, p)

  in_block_fine : (ss : List Stmt) {h : ℕ} → AreFine c around ss h → IsFinePart (block (stmts_in ss)) h
  in_block_fine ss {h = h} f = record { is_typed = f.are_typed; closed = refl; printed = f.printed; low = part_low _ h f.low; marks = λ at. f.marks (at + 1) }

  one_low : (k h : ℕ) → max k 0 ≤ h → k ≤ max 1 h
  one_low k h p = omega (arith, p)

  first_true : (b : Bool) → (b && true) ≡ true → b ≡ true
  first_true true e = refl
  first_true false e = e

  one_alone : (s : Stmt) {h : ℕ} → ends_open s ≡ false → (stmt_heights s).as_body ≡ (stmt_heights s).height → AreFine c around (s ∷ []) h → IsFinePart s h
  one_alone s {h = h} closed same f = record {
    is_typed = first_true _ f.are_typed;
    closed = closed;
    printed = f.printed.0;
    low = subst (λ k. k ≤ max 1 h) (sym same) (one_low (stmt_heights s).height h f.low);
    marks = λ at. subst (AllByRecursion IsTrapUse) (append-nil (stmt_marks c at s)) (f.marks at);
  }

  pub part_fine : (ss : List Stmt) {h : ℕ} → AreFine c around ss h → IsFinePart (part_of ss) h
  part_fine [] f = in_block_fine [] f
  part_fine (plain e ∷ []) f = one_alone (plain e) refl refl f
  part_fine (breaks l ∷ []) f = one_alone (breaks l) refl refl f
  part_fine (continues l ∷ []) f = one_alone (continues l) refl refl f
  part_fine (returns o ∷ []) f = one_alone (returns o) refl refl f
  part_fine (block ss ∷ []) f = in_block_fine (block ss ∷ []) f
  part_fine (empty ∷ []) f = in_block_fine (empty ∷ []) f
  part_fine (if_only e s ∷ []) f = in_block_fine (if_only e s ∷ []) f
  part_fine (if_else e s r ∷ []) f = in_block_fine (if_else e s r ∷ []) f
  part_fine (while_loop e s ∷ []) f = in_block_fine (while_loop e s ∷ []) f
  part_fine (do_while s e ∷ []) f = in_block_fine (do_while s e ∷ []) f
  part_fine (for_loop x y z s ∷ []) f = in_block_fine (for_loop x y z s ∷ []) f
  part_fine (labelled ls s ∷ []) f = in_block_fine (labelled ls s ∷ []) f
  part_fine (switches e cs ∷ []) f = in_block_fine (switches e cs ∷ []) f
  part_fine (s ∷ r ∷ ss) f = in_block_fine (s ∷ r ∷ ss) f

  first_less : (n a b : ℕ) → n + 3 * a ≤ n + 3 * max a b
  first_less n a b = omega arith

  second_less : (n a b : ℕ) → n + 3 * b ≤ n + 3 * max a b
  second_less n a b = omega arith

  simples_fine : (ss : List Simple) → AreSoundSimple c ss → AreFine c around (simple_statements ss) (4 + 3 * simples_depth ss)
  simples_fine [] h = none_fine _
  simples_fine (s ∷ ss) h = one_more_fine _ _ _ _ _ (first_less 4 (simple_depth s) (simples_depth ss)) (second_less 4 (simple_depth s) (simples_depth ss)) (simple_fine s h.0) (simples_fine ss h.1)

  pub action_fine : (a : Action) → IsSoundAction c a → IsFine c around (statement a) (height_of (action_depth a))
  action_fine (simply s) h = let f = simple_fine s h in record { is_typed = f.is_typed; printed = f.printed; low = in_turn _ f.low (omega arith); marks = f.marks }
  action_fine (either t first second) h =
      let e = test_fine c t (term_fine c t h.0).as_it_is (term_fine c t h.0).as_int in
      let f = part_fine (simple_statements first) (simples_fine first h.1) in
      let g = part_fine (simple_statements second) (simples_fine second h.2) in
      record {
        is_typed = both_true _ _ (both_true _ _ (is_typed_below c e) f.is_typed) g.is_typed;
        printed = (e.printed, f.closed, f.printed, g.printed);
        low = either_low _ _ _ (term_depth t) (simples_depth first) (simples_depth second) e.low f.low g.low;
        marks = λ at. both_marks _ _ (no_marks _ (e.no_marks (at + 1))) (both_marks _ _ (f.marks (at + 1 + expr_count (test_of t))) (g.marks _));
      }

  actions_fine : (actions : List Action) → AreSoundActions c actions → AreFine c around (statements actions) (height_of (actions_depth actions))
  actions_fine [] h = none_fine _
  actions_fine (a ∷ actions) h = one_more_fine _ _ _ _ _ (first_less 5 (action_depth a) (actions_depth actions)) (second_less 5 (action_depth a) (actions_depth actions)) (action_fine a h.0) (actions_fine actions h.1)

pub actions_are_fine : ActionsAreFine
actions_are_fine c around a h = action_fine c around a h

pub statements_are_fine : StatementsAreFine
statements_are_fine c around actions h = actions_fine c around actions h
