-- Functions that call imported ones are fine.
use Rattle.std.proofs.Common.{◌≡◌, ℕ, suc, ◌+◌, ◌≤◌, max, Bool, true, false, List, [], ◌∷◌, length, Option, Some, None, refl, ap, ◌∙◌, arith}
use Rattle.std.specs.Prelude.{is_some, slice_get, bytes_eq, nat_le, ◌||◌}
use Rattle.std.specs.List.{AllByRecursion, list_all}
use Rattle.std.proofs.lemmas.Bool.Decides.{nat_tests}
use Rattle.std.proofs.lemmas.Slice.Eq.{bytes_eq-Decides}
use Rattle.asm_types.specs.declared.value_type.ValueType.{ValueType}
use Rattle.asm_types.specs.declared.value_type.ValueType.TheVariants.{Fixnum, Signed, Unsigned, Int, Intish, Extern, Void}
use Rattle.asm_types.specs.Types.{is_below}
use Rattle.wasm_lang.specs.declared.types.ValType.{ValType}
use Rattle.wasm_lang.specs.declared.types.ValType.TheVariants.{I32, I64}
use Rattle.wasm_lang.specs.Modules.{FunctionType, WasmModule}
use Rattle.wasm_lang_valid.specs.Typing.{result_of as type_result}
use Rattle.wasm_lang_exec.specs.Reductions.{an_import, callees}
use Rattle.asm_lang.specs.Modules as text
use Rattle.asm_lang.specs.Modules.{Expr, call, Exprs, no_exprs, Stmt, Function, returns}
use Rattle.asm_lang.specs.Heights.{expr_height, exprs_height, stmts_height}
use Rattle.asm_laws_print.specs.Spelled.{FitsExpr, FitsExprs}
use Rattle.asm_laws_print.specs.Fitting.{FitsStmts}
use Rattle.asm_lang_valid.specs.Scope.{a_foreign}
use Rattle.asm_lang_valid.specs.Rows.{expr_count, stmt_count}
use Rattle.asm_lang_valid.specs.LimitRows as limits
use Rattle.asm_lang_valid.specs.LimitRows.{ForeignCall, expr_marks, exprs_marks, call_marks, stmt_marks, stmts_marks}
use Rattle.asm_lang_valid.specs.Typing.{Scope, at_top, named, typed_below, is_call, type_of, all_below, exprs_length, call_fits, result_of, all_typed}
use Rattle.asm_lang_valid.specs.Typed.{scope_of}
use Rattle.wasm2js_translation.specs.Names as names
use Rattle.wasm2js_translation.specs.Names.{Name, numbered, function, foreign, fixed, spelled}
use Rattle.wasm2js_translation.specs.Words.{signed_number, put_in, name_of, stmts_in}
use Rattle.wasm2js_laws_terms.specs.Sound.{IsInt}
use Rattle.wasm2js_laws_terms.specs.Laws.{IsFineExpr}
use Rattle.wasm2js_laws_terms.proofs.FineExprs.{is_identifier, intish, variable_fine, signed_fine}
use Rattle.wasm2js_laws_terms.proofs.FineActions.{both_true, assigned, equal_self, same_self}
use Rattle.wasm2js_translation.specs.Actions.{low}
use Rattle.wasm2js_translation.specs.Bodies.{word_in, signed_word, high_result}
use Rattle.wasm2js_translation.specs.Helpers.{function_of}
use Rattle.wasm2js_translation.specs.Modules.{param_names, sent, wrapper_body, wrapper_locals, translated}
use Rattle.wasm2js_translation.specs.Tables.{words_of}
use Rattle.wasm2js_laws_scopes.specs.Laws.{is_own}
use Rattle.wasm2js_laws_scopes.specs.Provided.{AreInts, HasFixed}
use Rattle.wasm2js_laws_scopes.proofs.Declared.{variables_are_own}
use Rattle.wasm2js_laws_scopes.proofs.HeadNames.{heads_are_provided}
use Rattle.wasm2js_laws_acceptance.specs.FunctionsFunctions.{IsUse, high_use, IsFineFunction, IsSource}
use Rattle.wasm2js_laws_acceptance.specs.FunctionsLaws.{WrappersAreFine}
use Rattle.wasm2js_laws_acceptance.proofs.FunctionsLimited.{limited}
use Rattle.wasm2js_laws_acceptance.proofs.FunctionsMade.{made}
use Rattle.wasm2js_laws_acceptance.proofs.FunctionsRoomy.{few_params}
use Rattle.wasm2js_laws_acceptance.proofs.FunctionsReturning.{returned_fine, uses_join, uses_none}
use Rattle.wasm2js_laws_acceptance.proofs.FunctionsChecking.{params_are, locals_are}
use Rattle.wasm2js_laws_acceptance.proofs.FunctionsForeign.{high_is_foreign, import_is_foreign, import_type}

-- ---- uses

or_true : (a : Bool) → (a || true) ≡ true
or_true true = refl
or_true false = refl

same_bytes : (n : List ℕ) → bytes_eq n n ≡ true
same_bytes n = (bytes_eq-Decides n n).1 refl

is_same_call : (c : ForeignCall) → limits.is_same c c ≡ true
is_same_call c = let e = same_bytes c.name in let f = equal_self c.params in let g = same_self c.result in rw (e, f, g) refl

pub first_among : (c : ForeignCall) (cs : List ForeignCall) → limits.is_among c (c ∷ cs) ≡ true
first_among c cs = let e = is_same_call c in rw e refl

pub later_among : (c d : ForeignCall) (cs : List ForeignCall) → limits.is_among c cs ≡ true → limits.is_among c (d ∷ cs) ≡ true
later_among c d cs h = rw h (or_true (limits.is_same c d))

-- ---- numbers that are sent out

signed_is_extern : (t : ValueType) → is_below t Signed ≡ true → is_below t Extern ≡ true
signed_is_extern Fixnum h = refl
signed_is_extern Signed h = refl
signed_is_extern Unsigned h = cc h
signed_is_extern Int h = cc h
signed_is_extern Intish h = cc h
signed_is_extern Extern h = refl
signed_is_extern Void h = cc h

words_long : (x : ℕ) (ts : List ValType) → length (param_names x ts) ≡ words_of ts
words_long x [] = refl
words_long x (I32 ∷ ts) = let e = words_long (suc x) ts in omega (arith, e)
words_long x (I64 ∷ ts) = let e = words_long (suc x) ts in omega (arith, e)

sent_long : (ns : List Name) → exprs_length (sent ns) ≡ length ns
sent_long [] = refl
sent_long (n ∷ ns) = ap suc (sent_long ns)

record AreSent (s : Scope) (es : Exprs) : Type 0 where
  externs : all_below s Extern es ≡ true
  printed : FitsExprs es
  low : exprs_height es ≤ 2
  no_marks : (at : ℕ) → exprs_marks s at es ≡ []

word_signed : (s : Scope) (n : Name) → IsInt s n → IsFineExpr s (signed_number (word_in n)) Signed 2
word_signed s n h = signed_fine s (intish s (variable_fine s n h))

are_sent : (s : Scope) (ns : List Name) → AreInts s ns → AreSent s (sent ns)
are_sent s [] h = record { externs = refl; printed = tt; low = omega arith; no_marks = λ at. refl }
are_sent s (n ∷ ns) h =
    let f = word_signed s n h.0 in
    let g = are_sent s ns h.1 in
    let below : typed_below Extern (type_of s (signed_number (word_in n))) ≡ true = ap (typed_below Extern) f.has_type ∙ signed_is_extern f.type f.below in
    record {
      externs = both_true _ _ below g.externs;
      printed = (f.printed, g.printed);
      low = two f.low g.low;
      no_marks = λ at. let p = f.no_marks at in let q = g.no_marks (at + expr_count (signed_number (word_in n))) in rw (p, q) refl;
    }
  where
    two : {a b : ℕ} → a ≤ 2 → b ≤ 2 → max a b ≤ 2
    two p q = omega (arith, p, q)

-- ---- a foreign call

record IsForeignCall (s : Scope) (uses : List ForeignCall) (e : Expr) (result : Bool) : Type 0 where
  is : is_call s e ≡ true
  fits : call_fits s result e ≡ true
  printed : FitsExpr e
  low : expr_height e ≤ 3
  marks : (at : ℕ) → AllByRecursion (IsUse uses) (call_marks s result at e)

foreign_call : (s : Scope) (uses : List ForeignCall) (n : Name) (name : List ℕ) (es : Exprs) (result : Bool) (count : ℕ) → named s (spelled n) ≡ a_foreign name → AreSent s es → exprs_length es ≡ count → count ≤ 2000
    → limits.is_among (record { name = name; params = count; result = result }) uses ≡ true → IsForeignCall s uses (call (spelled n) es) result
foreign_call s uses n name es result count means f long few among =
    let x = f.externs in
    let le = small count few in
    record {
      is = rw means refl;
      fits = rw (means, x) refl;
      printed = (is_identifier n, f.printed);
      low = lower f.low;
      marks = λ at. let m = f.no_marks (at + 1) in rw (m, means, long, le) (among, tt);
    }
  where
    lower : {k : ℕ} → k ≤ 2 → 1 + k ≤ 3
    lower h = omega (arith, h)

    small : (n : ℕ) → n ≤ 2000 → nat_le n 2000 ≡ true
    small n h = grind (arith, nat_tests)

-- ---- statements with such a call

record IsUsing (s : Scope) (uses : List ForeignCall) (ss : List Stmt) : Type 0 where
  are_typed : all_typed s at_top (stmts_in ss) ≡ true
  printed : FitsStmts (stmts_in ss)
  low : stmts_height (stmts_in ss) ≤ 8
  marks : (at : ℕ) → AllByRecursion (IsUse uses) (stmts_marks s at (stmts_in ss))

module _ (s : Scope) (uses : List ForeignCall) where
  none_using : IsUsing s uses []
  none_using = record { are_typed = refl; printed = tt; low = omega arith; marks = λ at. tt }

  two_low : {a b : ℕ} → a ≤ 8 → b ≤ 8 → max a b ≤ 8
  two_low p q = omega (arith, p, q)

  -- `e;`, which has no result
  effect_using : (e : Expr) → IsForeignCall s uses e false → IsUsing s uses (text.plain e ∷ [])
  effect_using e f =
      let yes = f.is in
      let fits = f.fits in
      record {
        are_typed = rw (yes, fits) refl;
        printed = (f.printed, tt);
        low = low_enough f.low;
        marks = λ at. rw yes (uses_join uses _ [] (f.marks (at + 1)) tt);
      }
    where
      low_enough : {k : ℕ} → k ≤ 3 → max (1 + k) 0 ≤ 8
      low_enough p = omega (arith, p)

  -- `n=e|0;`
  put_using : (n : Name) (e : Expr) (ss : List Stmt) → IsInt s n → IsForeignCall s uses e true → IsUsing s uses ss → IsUsing s uses (put_in n (signed_number e) ∷ ss)
  put_using n e ss h f g =
      let yes = f.is in
      let fits = f.fits in
      let has : type_of s (signed_number e) ≡ Some Signed = rw (yes, fits) refl in
      record {
        are_typed = both_true _ _ (assigned s at_top n (signed_number e) Signed h (rw has refl) has) g.are_typed;
        printed = ((is_identifier n, (refl, f.printed, omega arith)), g.printed);
        low = two_low (low_enough f.low) g.low;
        marks = λ at. uses_join uses (stmt_marks s at (put_in n (signed_number e))) _ (put_marks at yes (f.marks (at + 1 + 1 + 1))) (g.marks (at + stmt_count (put_in n (signed_number e))));
      }
    where
      low_enough : {k : ℕ} → k ≤ 3 → 1 + (1 + (1 + max k 1)) ≤ 8
      low_enough p = omega (arith, p)

      put_marks : (at : ℕ) → is_call s e ≡ true → AllByRecursion (IsUse uses) (call_marks s true (at + 1 + 1 + 1) e) → AllByRecursion (IsUse uses) (stmt_marks s at (put_in n (signed_number e)))
      put_marks at e h = rw e h

  -- `return e|0;`
  return_using : (e : Expr) → result_of s ≡ true → IsForeignCall s uses e true → IsUsing s uses (returns (Some (signed_number e)) ∷ [])
  return_using e gives f =
      let yes = f.is in
      let fits = f.fits in
      let has : type_of s (signed_number e) ≡ Some Signed = rw (yes, fits) refl in
      record {
        are_typed = both_true _ _ (both_true _ _ gives (ap (typed_below Signed) has)) refl;
        printed = ((refl, f.printed, omega arith), tt);
        low = low_enough f.low;
        marks = λ at. uses_join uses (stmt_marks s at (returns (Some (signed_number e)))) [] (return_marks at yes (f.marks (at + 1 + 1))) tt;
      }
    where
      low_enough : {k : ℕ} → k ≤ 3 → max (1 + (1 + max k 1)) 0 ≤ 8
      low_enough p = omega (arith, p)

      return_marks : (at : ℕ) → is_call s e ≡ true → AllByRecursion (IsUse uses) (call_marks s true (at + 1 + 1) e) → AllByRecursion (IsUse uses) (stmt_marks s at (returns (Some (signed_number e))))
      return_marks at is h = rw is h

module _ (w : WasmModule) (source : IsSource w) (k : ℕ) (name : List ℕ) (t : FunctionType) (there : slice_get (callees w) k ≡ Some (Some (an_import name t))) (few : length t.params ≤ 1000) where
  abbrev params : List Name
  params = param_names 0 t.params

  abbrev call_of : Expr
  call_of = call (spelled (numbered foreign k)) (sent params)

  abbrev uses : Bool → List ForeignCall
  uses result = record { name = name; params = words_of t.params; result = result } ∷ high_use ∷ []

  abbrev with : Option ValType → Function
  with r = function_of (numbered function k) params (wrapper_locals r) (wrapper_body r call_of)

  abbrev s : Option ValType → Scope
  s r = scope_of (translated w) (with r)

  params_own : list_all is_own params ≡ true
  params_own = (variables_are_own t.params [] (record { height = 0; wide_height = 0; locals = [] })).0

  locals_own : (r : Option ValType) → list_all is_own (wrapper_locals r) ≡ true
  locals_own None = refl
  locals_own (Some I32) = refl
  locals_own (Some I64) = refl

  few_words : words_of t.params ≤ 2000
  few_words = let e = words_long 0 t.params in let f = few_params 0 t.params in omega (arith, e, f, few)

  call_fine : (r : Option ValType) → IsForeignCall (s r) (uses (is_some r)) call_of (is_some r)
  call_fine r =
      foreign_call (s r) (uses (is_some r)) (numbered foreign k) name (sent params) (is_some r) (words_of t.params)
      (import_is_foreign w (numbered function k) params (wrapper_locals r) (wrapper_body r call_of) params_own (locals_own r) source.whole.is_valid k name t there)
      (are_sent (s r) params (params_are w (numbered function k) params (wrapper_locals r) (wrapper_body r call_of))) (sent_long params ∙ words_long 0 t.params) few_words
      (first_among (record { name = name; params = words_of t.params; result = is_some r }) (high_use ∷ []))

  high_fine : (r : Option ValType) → IsForeignCall (s r) (uses (is_some r)) (call (name_of names.high) no_exprs) true
  high_fine r =
      foreign_call (s r) (uses (is_some r)) (fixed names.high) (name_of names.high) no_exprs true 0
      (high_is_foreign w (numbered function k) params (wrapper_locals r) (wrapper_body r call_of) params_own (locals_own r))
      (are_sent (s r) [] tt) refl (omega arith) (later_among high_use (record { name = name; params = words_of t.params; result = is_some r }) (high_use ∷ []) (first_among high_use []))

  given : (r : Option ValType) → HasFixed (s r)
  given r = heads_are_provided w (numbered function k) params (wrapper_locals r) (wrapper_body r call_of) params_own (locals_own r)

  body_using : (r : Option ValType) → IsUsing (s r) (uses (is_some r)) (wrapper_body r call_of)
  body_using None = effect_using (s None) (uses false) call_of (call_fine None)
  body_using (Some I32) = return_using (s (Some I32)) (uses true) call_of refl (call_fine (Some I32))
  body_using (Some I64) =
      let q = s (Some I64) in
      let local = (locals_are w (numbered function k) params (low 0 ∷ []) (wrapper_body (Some I64) call_of)).0 in
      let r = returned_fine q at_top (signed_word 0) 2 refl (word_signed q (low 0) local) in
      let e = word_signed q (low 0) local in
      put_using q (uses true) (low 0) call_of _ local (call_fine (Some I64))
      (put_using q (uses true) high_result (call (name_of names.high) no_exprs) _ (given (Some I64)).high (high_fine (Some I64)) (record {
        are_typed = both_true _ _ r.is_typed refl;
        printed = (r.printed, tt);
        low = low_enough r.low;
        marks = λ at. uses_join (uses true) (expr_marks q (at + 1) (signed_word 0)) [] (uses_none (uses true) (expr_marks q (at + 1) (signed_word 0)) (e.no_marks (at + 1))) tt;
      }))
    where
      low_enough : {k : ℕ} → k ≤ 3 → max k 0 ≤ 8
      low_enough p = omega (arith, p)

  locals_few : (r : Option ValType) → length (wrapper_locals r) ≤ 1
  locals_few None = omega arith
  locals_few (Some I32) = omega arith
  locals_few (Some I64) = omega arith

  fine : (r : Option ValType) → IsFineFunction (translated w) (uses (is_some r)) (with r)
  fine r =
      let f = body_using r in
      let e = words_long 0 t.params in
      let few = few_words in
      let l = locals_few r in
      made (translated w) (numbered function k) params (wrapper_locals r) (wrapper_body r call_of) (uses (is_some r)) f.are_typed f.printed (low_enough f.low) f.marks (omega (arith, e, few)) (omega (arith, e, few, l))
    where
      low_enough : {k : ℕ} → k ≤ 8 → k ≤ 998
      low_enough p = omega (arith, p)

pub wrappers_are_fine : WrappersAreFine
wrappers_are_fine w k name t source there =
    let it = import_type w t name k there in
    fine w source k name t there ((limited w source.within).params it.0 t it.1) (type_result t)
