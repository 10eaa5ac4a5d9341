-- In a module that can be translated the import that gives high words has no result of 64 bits itself.
use Rattle.std.proofs.Common.{◌≡◌, ℕ, zero, suc, ◌+◌, Bool, true, false, ◌&&◌, not, List, [], ◌∷◌, ◌++◌, Option, Some, None, refl, sym, ap, ◌∙◌, subst, arith}
use Rattle.std.specs.Prelude.{bytes_eq, nat_eq, codes, slice_get, option_map, if◌then◌else◌}
use Rattle.std.specs.List.{starts_with}
use Rattle.std.specs.Cmp.Lexicographic.{pointwise}
use Rattle.std.proofs.lemmas.Bool.{and_parts}
use Rattle.std.proofs.lemmas.Slice.Eq.{bytes_eq-Decides}
use Rattle.hex.specs.Hex.{encode_lower}
use Rattle.session_lang.specs.Names.{import_name, is_plain_name}
use Rattle.session_lang.specs.Imports.{high_name}
use Rattle.wasm_lang.specs.declared.types.ValType.TheVariants.{I64}
use Rattle.wasm_lang.specs.declared.types.ImportKind.{ImportKind}
use Rattle.wasm_lang.specs.declared.types.ImportKind.TheVariants as imports
use Rattle.wasm_lang.specs.Modules.{FunctionType, Imported, FunctionBody, WasmModule}
use Rattle.wasm_lang_valid.specs.Measures as measures
use Rattle.wasm_lang_valid.specs.Profile.{has_wide_result, is_wide_kind, wide_import}
use Rattle.wasm_lang_valid.specs.Typing.{same_result, result_of}
use Rattle.wasm_lang_exec.specs.Code.{Trees, tree_of}
use Rattle.wasm_lang_exec.specs.Reductions.{Callee, an_import, if_function, imported_callee, imported_callees, own_callee, own_callees, callees, callee_at, found}
use Rattle.wasm2js_lang.proofs.Padded.{where_none}

-- ---- the name

abbrev is_kept : List ℕ → List ℕ → Bool
is_kept m n = bytes_eq m (codes "env") && is_plain_name n && not (starts_with nat_eq n (codes "$x"))

abbrev second : List ℕ → ℕ
second (x ∷ y ∷ xs) = y
second xs = 0

other_name : (xs : List ℕ) → 36 ∷ 120 ∷ xs ≡ high_name → ⊥
other_name xs e = let h : 120 ≡ 104 = ap second e in omega (arith, h)

is_high : (m n : List ℕ) → import_name m n ≡ high_name → (pointwise nat_eq m measures.env_name ≡ true) × (pointwise nat_eq n measures.high_name ≡ true)
is_high m n = by (is_kept m n) refl
  where
    by : (b : Bool) → is_kept m n ≡ b → (if b then n else codes "$x" ++ encode_lower m ++ codes "$" ++ encode_lower n) ≡ high_name
        → (pointwise nat_eq m measures.env_name ≡ true) × (pointwise nat_eq n measures.high_name ≡ true)
    by true kept e =
        let parts = and_parts (bytes_eq m (codes "env") && is_plain_name n) (not (starts_with nat_eq n (codes "$x"))) kept in
        let env = and_parts (bytes_eq m (codes "env")) (is_plain_name n) parts.0 in
        let is : m ≡ codes "env" = (bytes_eq-Decides m (codes "env")).0 env.0 in
        (subst (λ x. pointwise nat_eq x measures.env_name ≡ true) (sym is) refl, subst (λ x. pointwise nat_eq x measures.high_name ≡ true) (sym e) refl)
    by false kept e = absurd (other_name _ e)

-- ---- each import

module _ (w : WasmModule) (name : List ℕ) (t : FunctionType) (is_name : name ≡ high_name) (wide : result_of t ≡ Some I64) where
  all_three : (a b c : Bool) → a ≡ true → b ≡ true → c ≡ true → (a && b && c) ≡ false → ⊥
  all_three a b c h k l e = cc (h, k, l, e)

  wide_there : (o : Option FunctionType) → o ≡ Some t → has_wide_result o ≡ true
  wide_there o e = ap has_wide_result e ∙ ap (λ r. same_result r (Some I64)) wide

  not_wide : (x : Imported) (n : ℕ) (o : Option FunctionType) → slice_get w.types n ≡ o → is_wide_kind w x (imports.Func n) ≡ false
      → option_map (an_import (import_name x.module_name x.name)) o ≡ Some (an_import name t) → ⊥
  not_wide x n None is h e = cc e
  not_wide x n (Some u) is h e =
      let same : import_name x.module_name x.name ≡ name = cc e in
      let type : u ≡ t = cc e in
      let names = is_high x.module_name x.name (same ∙ is_name) in
      all_three (pointwise nat_eq x.module_name measures.env_name) (pointwise nat_eq x.name measures.high_name) (has_wide_result (slice_get w.types n)) names.0 names.1
      (wide_there (slice_get w.types n) (is ∙ ap Some type)) h

  not_own : (c : Option FunctionType) (b : FunctionBody) (tree : Option Trees) → own_callee c b tree ≡ Some (an_import name t) → ⊥
  not_own None b tree e = cc e
  not_own (Some u) b None e = cc e
  not_own (Some u) b (Some code) e = cc e

  none_own : (ts : List ℕ) (bs : List FunctionBody) (k : ℕ) → slice_get (own_callees w ts bs) k ≡ Some (Some (an_import name t)) → ⊥
  none_own [] [] k e = cc e
  none_own [] (b ∷ bs) k e = cc e
  none_own (x ∷ ts) [] k e = cc e
  none_own (x ∷ ts) (b ∷ bs) zero e = not_own (slice_get w.types x) b (tree_of b.code) (cc e)
  none_own (x ∷ ts) (b ∷ bs) (suc k) e = none_own ts bs k e

  none_wide : (is : List Imported) (j : ℕ) (cs : List (Option Callee)) → wide_import w j is ≡ None → ((k : ℕ) → slice_get cs k ≡ Some (Some (an_import name t)) → ⊥)
      → (k : ℕ) → slice_get (imported_callees w is ++ cs) k ≡ Some (Some (an_import name t)) → ⊥
  none_wide [] j cs h none k e = none k e
  none_wide (x ∷ is) j cs h none k e =
      let parts = where_none (is_wide_kind w x x.kind) j (wide_import w (j + 1) is) h in
      go (none_wide is (j + 1) cs parts.1 none) x.kind parts.0 k e
    where
      go : ((k : ℕ) → slice_get (imported_callees w is ++ cs) k ≡ Some (Some (an_import name t)) → ⊥) → (kind : ImportKind) → is_wide_kind w x kind ≡ false → (k : ℕ)
          → slice_get (if_function kind (λ n. imported_callee w x n ∷ imported_callees w is) (imported_callees w is) ++ cs) k ≡ Some (Some (an_import name t)) → ⊥
      go before (imports.Func n) narrow zero e = not_wide x n (slice_get w.types n) refl narrow (cc e)
      go before (imports.Func n) narrow (suc k) e = before k e
      go before (imports.Table l) narrow k e = before k e
      go before (imports.Memory l) narrow k e = before k e
      go before (imports.Global g) narrow k e = before k e

  found_some : (o : Option (Option Callee)) (c : Callee) → found o ≡ Some c → o ≡ Some (Some c)
  found_some None c e = cc e
  found_some (Some x) c e = ap Some e

  pub high_is_narrow : wide_import w 0 w.imports ≡ None → (k : ℕ) → callee_at w k ≡ Some (an_import name t) → ⊥
  high_is_narrow h k e =
      none_wide w.imports 0 (own_callees w w.functions w.bodies) h (none_own w.functions w.bodies) k (found_some (slice_get (callees w) k) (an_import name t) e)
