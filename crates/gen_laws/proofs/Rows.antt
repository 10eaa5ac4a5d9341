-- The module of so many functions is accepted.
use Rattle.std.proofs.Common.{◌≡◌, ◌≢◌, ℕ, zero, suc, ◌+◌, ◌-◌, ◌*◌, ◌^◌, ◌≤◌, ◌<◌, true, false, List, [], ◌∷◌, ◌++◌, inl, inr, refl, sym, subst, arith, codes}
use Rattle.std.specs.Prelude.{decimal, bytes_eq, nat_lt, Some, None}
use Rattle.std.specs.List.{list_all}
use Rattle.std.proofs.lemmas.Bool.{and_parts, or_parts, false_from_ne_true, lt-ltb, cases_lt}
use Rattle.std.proofs.lemmas.Fmt.{decimal_injective}
use Rattle.std.proofs.lemmas.Slice.Eq.{bytes_eq-Decides}
use Rattle.asm_lang_tokens.specs.Bytes.{is_digit}
use Rattle.asm_lang.specs.Modules.{Function, Module}
use Rattle.asm_lang_valid.specs.declared.meaning.Element.TheVariants.{Int32}
use Rattle.asm_lang_valid.specs.declared.rule.Met.{Met}
use Rattle.asm_lang_valid.specs.Scope.{Meaning, an_int, a_view, a_function, among_functions, is_in, module_meaning, signature_of}
use Rattle.asm_lang_valid.specs.Typing.{Scope, named, matches, at_top, result_of}
use Rattle.asm_lang_valid.specs.Typed.{scope_of}
use Rattle.asm_lang_valid.specs.Rows.{first, body_at as body_place, functions_at, exports_at, function_count}
use Rattle.asm_lang_valid.specs.NameRows.{stmts_names, functions_names, name_rows, exports_names}
use Rattle.asm_lang_valid.specs.TypeRows.{stmts_rows, functions_rows, type_rows}
use Rattle.asm_lang_valid.specs.LimitRows.{Mark, stmts_marks, functions_marks, rows_after, limit_rows}
use Rattle.asm_lang_valid.specs.Refusal.{IsAccepted}
use Rattle.gen_lang.specs.Recipe.{name_of}
use Rattle.gen_laws.specs.Modules.{x_name, heap_name, calling, body_at, function_at, functions_from, recipe_module}
use Rattle.gen_laws.proofs.Words.{digits_of, other_byte}

-- ---- names that differ

same_bytes : (bs : List ℕ) → bytes_eq bs bs ≡ true
same_bytes bs = (bytes_eq-Decides bs bs).1 refl

names_differ : (i j : ℕ) → i < 10000 → j < 10000 → i ≢ j → bytes_eq (name_of i) (name_of j) ≡ false
names_differ i j few few' other =
    false_from_ne_true (bytes_eq (decimal i) (decimal j)) (λ e. other (decimal_injective i j (omega (arith, few)) (omega (arith, few')) ((bytes_eq-Decides (decimal i) (decimal j)).0 e)))

-- `foreign` is no name of a function
not_foreign : (ds : List ℕ) → list_all is_digit ds ≡ true → bytes_eq (codes "oreign") ds ≡ false
not_foreign [] h = refl
not_foreign (d ∷ ds) h = rw (other_byte 111 d (and_parts (is_digit d) (list_all is_digit ds) h).0 refl) refl

-- ---- what names mean

lookup : (k i j : ℕ) → i ≤ j → j < i + k → j < 10000 → (other : Meaning) → among_functions (functions_from i k) (name_of j) other ≡ a_function (function_at j)
lookup zero i j ge lt few other = absurd (omega (arith, ge, lt))
lookup (suc k) i j ge lt few other = elim (cases_lt i j) [
  | inl less ↦
      let differ : bytes_eq (name_of i) (name_of j) ≡ false = names_differ i j (omega (arith, less, few)) few (λ e. omega (arith, less, e)) in
      rw differ (lookup k (suc i) j (omega (arith, less)) (omega (arith, lt)) few other)
  | inr more ↦
      let same : i ≡ j = omega (arith, ge, more) in
      subst (λ v. among_functions (functions_from v (suc k)) (name_of j) other ≡ a_function (function_at j)) (sym same) (rw (same_bytes (name_of j)) refl)
]

module_is : (n j : ℕ) → j < n → n ≤ 10000 → module_meaning (recipe_module n) (name_of j) ≡ a_function (function_at j)
module_is n j lt few =
    let digits = digits_of j (omega (arith, lt, few)) in
    rw (not_foreign (decimal j) digits.all) (lookup n 0 j (omega arith) (omega (arith, lt)) (omega (arith, lt, few)) _)

callee_is : (n i j : ℕ) → j < n → n ≤ 10000 → named (scope_of (recipe_module n) (function_at i)) (name_of j) ≡ a_function (function_at j)
callee_is n i j lt few = module_is n j lt few

-- ---- bodies

module _ (c : Scope) (f : List ℕ) (g : Function) (k at : ℕ) (x_is : named c x_name ≡ an_int) (heap_is : named c heap_name ≡ a_view Int32) (callee : named c f ≡ a_function g) where
  calling_names : stmts_names c at (calling f k) ≡ []
  calling_names = rw (x_is, heap_is, callee) refl

  calling_marks : stmts_marks c at (calling f k) ≡ []
  calling_marks = rw callee refl

  calling_rows : matches (Some (signature_of g)) 1 true ≡ true → result_of c ≡ true → nat_lt k (2 ^ 31) ≡ true → nat_lt (k * 2 ^ 2) (2 ^ 31) ≡ true → stmts_rows c at_top at (calling f k) ≡ []
  calling_rows matching result literal place = rw (x_is, heap_is, callee, matching, result, literal, place) refl

gives : (i : ℕ) → matches (Some (signature_of (function_at i))) 1 true ≡ true
gives zero = refl
gives (suc i) = refl

module _ (n : ℕ) (few : n ≤ 10000) where
  body_names : (i at : ℕ) → i < n → stmts_names (scope_of (recipe_module n) (function_at i)) at (body_at i) ≡ []
  body_names zero at lt = refl
  body_names (suc i) at lt = calling_names (scope_of (recipe_module n) (function_at (suc i))) (name_of i) (function_at i) (suc i) at refl refl (callee_is n (suc i) i (omega (arith, lt)) few)

  body_marks : (i at : ℕ) → i < n → stmts_marks (scope_of (recipe_module n) (function_at i)) at (body_at i) ≡ []
  body_marks zero at lt = refl
  body_marks (suc i) at lt = calling_marks (scope_of (recipe_module n) (function_at (suc i))) (name_of i) (function_at i) (suc i) at refl refl (callee_is n (suc i) i (omega (arith, lt)) few)

  body_rows : (i at : ℕ) → i < n → stmts_rows (scope_of (recipe_module n) (function_at i)) at_top at (body_at i) ≡ []
  body_rows zero at lt = refl
  body_rows (suc i) at lt =
      calling_rows (scope_of (recipe_module n) (function_at (suc i))) (name_of i) (function_at i) (suc i) at refl refl (callee_is n (suc i) i (omega (arith, lt)) few) (gives i) refl (lt-ltb (suc i) (2 ^ 31) (omega (arith, lt, few))) (lt-ltb (suc i * 2 ^ 2) (2 ^ 31) (omega (arith, lt, few)))

  -- ---- names of functions

  -- none of these is the name of this function or a later one
  record Fresh (before : List (List ℕ)) (i : ℕ) : Type 0 where
    is : (j : ℕ) → i ≤ j → j < n → is_in (name_of j) before ≡ false

  in_more : (name : List ℕ) (before : List (List ℕ)) (last : List ℕ) → is_in name before ≡ false → bytes_eq last name ≡ false → is_in name (before ++ last ∷ []) ≡ false
  in_more name [] last h e = rw e refl
  in_more name (b ∷ bs) last h e =
      let both = or_parts (bytes_eq b name) (is_in name bs) h in
      rw both.0 (in_more name bs last both.1 e)

  fresh_first : Fresh (codes "stdlib" ∷ codes "foreign" ∷ codes "heap" ∷ codes "H" ∷ []) 0
  fresh_first = record { is = λ j ge lt. rw (not_foreign (decimal j) (digits_of j (omega (arith, lt, few))).all) refl }

  fresh_next : (before : List (List ℕ)) (i : ℕ) → i < n → Fresh before i → Fresh (before ++ name_of i ∷ []) (suc i)
  fresh_next before i here fresh = record {
    is = λ j ge lt. in_more (name_of j) before (name_of i) (fresh.is j (omega (arith, ge)) lt) (names_differ i j (omega (arith, here, few)) (omega (arith, lt, few)) (λ e. omega (arith, ge, e)));
  }

  names_ok : (k i at : ℕ) (before : List (List ℕ)) → i + k ≡ n → Fresh before i → functions_names (recipe_module n) before (functions_from i k) at ≡ []
  names_ok zero i at before is fresh = refl
  names_ok (suc k) i at before is fresh =
      let here : i < n = omega (arith, is) in
      rw (fresh.is i (omega arith) here, body_names i (body_place (function_at i) at) here, names_ok k (suc i) (at + function_count (function_at i)) (before ++ name_of i ∷ []) (omega (arith, is)) (fresh_next before i here fresh)) refl

  rows_ok : (k i at : ℕ) → i + k ≡ n → functions_rows (recipe_module n) at (functions_from i k) ≡ []
  rows_ok zero i at is = refl
  rows_ok (suc k) i at is =
      let here : i < n = omega (arith, is) in
      rw (body_rows i (body_place (function_at i) at) here, rows_ok k (suc i) (at + function_count (function_at i)) (omega (arith, is))) refl

  -- after so many functions
  marks_ok : (k i before at : ℕ) → i + k ≡ n → before + k ≤ n → functions_marks (recipe_module n) before at (functions_from i k) ≡ []
  marks_ok zero i before at is fits = refl
  marks_ok (suc k) i before at is fits =
      let here : i < n = omega (arith, is) in
      rw (lt-ltb before 50000 (omega (arith, fits, few)), body_marks i (body_place (function_at i) at) here, marks_ok k (suc i) (before + 1) (at + function_count (function_at i)) (omega (arith, is)) (omega (arith, fits))) refl

  -- ---- the whole

  two_none : (xs ys : List Met) → xs ≡ [] → ys ≡ [] → xs ++ ys ≡ []
  two_none xs ys a b = rw (a, b) refl

  three_none : (xs ys zs : List Met) → xs ≡ [] → ys ≡ [] → zs ≡ [] → first (xs ++ (ys ++ zs)) ≡ None
  three_none xs ys zs a b c = rw (a, b, c) refl

  none_named : 1 ≤ n → name_rows (recipe_module n) ≡ []
  none_named some =
      let m : Module = recipe_module n in
      two_none (functions_names m (codes "stdlib" ∷ codes "foreign" ∷ codes "heap" ∷ codes "H" ∷ []) (functions_from 0 n) (functions_at m)) (exports_names m m.exports (exports_at m))
      (names_ok n 0 (functions_at m) _ (omega arith) fresh_first) (rw (module_is n (n - 1) (omega (arith, some)) few) refl)

  none_typed : type_rows (recipe_module n) ≡ []
  none_typed = let m : Module = recipe_module n in two_none (functions_rows m (functions_at m) (functions_from 0 n)) [] (rows_ok n 0 (functions_at m) (omega arith)) refl

  marked : (ms : List Mark) → ms ≡ [] → rows_after [] (ms ++ []) ≡ []
  marked ms e = rw e refl

  none_limited : limit_rows (recipe_module n) ≡ []
  none_limited = let m : Module = recipe_module n in marked (functions_marks m 0 (functions_at m) (functions_from 0 n)) (marks_ok n 0 0 (functions_at m) (omega arith) (omega arith))

  pub accepted : 1 ≤ n → IsAccepted (recipe_module n)
  accepted some = let m : Module = recipe_module n in three_none (name_rows m) (type_rows m) (limit_rows m) (none_named some) none_typed none_limited
