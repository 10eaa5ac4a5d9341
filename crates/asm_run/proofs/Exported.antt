-- Exports, found by their keys.
use Rattle.std.proofs.Common.{◌≡◌, ℕ, zero, suc, ◌+◌, Bool, true, false, not, ◌||◌, List, [], ◌∷◌, ◌++◌, map, Option, Some, None, refl, sym, ap, ◌∙◌, subst}
use Rattle.std.proofs.lemmas.Slice.Eq.{bytes_eq-Decides}
use Rattle.std.specs.Prelude.{bytes_eq, slice_get, option_map, if◌then◌else◌}
use Rattle.asm_lang.specs.Modules.{Module, Export, Exports, one, many}
use Rattle.asm_lang_valid.specs.declared.rule.Met.{Met}
use Rattle.asm_lang_valid.specs.declared.rule.Rule.{Rule}
use Rattle.asm_lang_valid.specs.declared.rule.Rule.TheVariants.{NameTaken, ForbiddenName}
use Rattle.asm_lang_valid.specs.Rows.{need, first, functions_at, tables_at, exports_at}
use Rattle.asm_lang_valid.specs.Scope.{is_in}
use Rattle.asm_lang_valid.specs.NameRows.{name_rows, all_new, any_forbidden, own_name, global_texts, function_texts, globals_names, functions_names, tables_names, exports_names, keys_names, declares_key, function_uses}
use Rattle.asm_lang_valid.specs.TypeRows.{type_rows}
use Rattle.asm_lang_valid.specs.LimitRows.{limit_rows}
use Rattle.asm_lang_valid.specs.Refusal.{Exported, exported, exported_from, IsAccepted}
use Rattle.asm_lang_exec.specs.Session.{export_number}
use Rattle.asm2wasm_translation.specs.Numbers.{slot_of}
use Rattle.asm_run.specs.Exports.{keys_in, is_key_at, EachIsFirst}

-- ---- the number of a function, by the place of its key

abbrev number_at : List Exported → Option ℕ → Option ℕ
number_at es None = None
number_at es (Some i) = option_map (λ (e : Exported). e.function) (slice_get es i)

pub number_found : (es : List Exported) (key : List ℕ) → export_number es key ≡ number_at es (slot_of (keys_in es) key)
number_found [] key = refl
number_found (e ∷ es) key = by (bytes_eq e.key key) (slot_of (keys_in es) key) (number_found es key)
  where
    by : (b : Bool) (o : Option ℕ) → export_number es key ≡ number_at es o → (if b then Some e.function else export_number es key) ≡ number_at (e ∷ es) (if b then Some 0 else option_map (λ i. suc i) o)
    by true o h = refl
    by false None h = h
    by false (Some i) h = h

pub number_here : (es : List Exported) (key : List ℕ) (o : Option ℕ) → o ≡ slot_of (keys_in es) key → number_at es o ≡ export_number es key
number_here es key o h = ap (number_at es) h ∙ sym (number_found es key)

-- ---- each export of an accepted module is the first of its key

needed : (b : Bool) (r : Rule) (at : ℕ) → need b r at ≡ [] → b ≡ true
needed true r at h = refl
needed false r at h = cc h

both_none : (xs ys : List Met) → xs ++ ys ≡ [] → (xs ≡ []) × (ys ≡ [])
both_none [] ys h = (refl, h)
both_none (x ∷ xs) ys h = cc h

no_first : (xs : List Met) → first xs ≡ None → xs ≡ []
no_first [] h = refl
no_first (x ∷ xs) h = cc h

is_not : (b : Bool) → not b ≡ true → b ≡ false
is_not true h = cc h
is_not false h = refl

neither : (b c : Bool) → (b || c) ≡ false → (b ≡ false) × (c ≡ false)
neither true c h = cc h
neither false c h = (refl, h)

not_last : (n k : List ℕ) (ns : List (List ℕ)) → is_in n (ns ++ k ∷ []) ≡ false → (is_in n ns ≡ false) × (bytes_eq k n ≡ false)
not_last n k [] h = (refl, (neither (bytes_eq k n) false h).0)
not_last n k (x ∷ xs) h =
    let parts = neither (bytes_eq x n) (is_in n (xs ++ k ∷ [])) h in
    let rest = not_last n k xs parts.1 in
    (ap (λ b. b || is_in n xs) parts.0 ∙ rest.0, rest.1)

module _ (m : Module) where
  abbrev said : List Export → List Exported
  said es = map (λ (e : Export). exported m e.key e.function) es

  abbrev IsNew : List (List ℕ) → List Export → ℕ → List ℕ → Type 0
  IsNew before es i n = (is_in n before ≡ false) × (slot_of (keys_in (said es)) n ≡ Some i)

  key_first : (before : List (List ℕ)) (es : List Export) (at : ℕ) → keys_names m before es at ≡ [] → (i : ℕ) (n : List ℕ) → is_key_at (said es) i n ≡ true → IsNew before es i n
  key_first before [] at rows i n h = cc h
  key_first before (e ∷ es) at rows zero n h =
      let declared = both_none (declares_key before e.key at) (function_uses m (e.function ∷ []) at ++ keys_names m (before ++ e.key ∷ []) es (at + 1)) rows in
      let new = is_not (is_in e.key before) (needed (not (is_in e.key before)) NameTaken at (both_none (need (not (is_in e.key before)) NameTaken at) _ declared.0).0) in
      let same : e.key ≡ n = (bytes_eq-Decides e.key n).0 h in
      (ap (λ k. is_in k before) (sym same) ∙ new, ap (λ b. if b then Some 0 else option_map (λ i. suc i) (slot_of (keys_in (said es)) n)) h)
  key_first before (e ∷ es) at rows (suc i) n h =
      let declared = both_none (declares_key before e.key at) (function_uses m (e.function ∷ []) at ++ keys_names m (before ++ e.key ∷ []) es (at + 1)) rows in
      let later = key_first (before ++ e.key ∷ []) es (at + 1) (both_none (function_uses m (e.function ∷ []) at) (keys_names m (before ++ e.key ∷ []) es (at + 1)) declared.1).1 i n h in
      let other = not_last n e.key before later.0 in
      (other.0, ap (λ b. if b then Some 0 else option_map (λ i. suc i) (slot_of (keys_in (said es)) n)) other.1 ∙ ap (option_map (λ i. suc i)) later.1)

  rows_first : (x : Exports) (at : ℕ) → exports_names m x at ≡ [] → EachIsFirst (exported_from m x)
  rows_first (one f) at rows = alone
    where
      alone : (i : ℕ) (n : List ℕ) → is_key_at (exported m f f ∷ []) i n ≡ true → slot_of (keys_in (exported m f f ∷ [])) n ≡ Some i
      alone zero n h = ap (λ b. if b then Some 0 else option_map (λ i. suc i) (slot_of [] n)) h
      alone (suc i) n h = cc h
  rows_first (many es) at rows = λ i n h. (key_first [] es at rows i n h).1

  abbrev rows : List Met
  rows = exports_names m m.exports (exports_at m)

  export_rows : IsAccepted m → rows ≡ []
  export_rows h =
      let params = need (all_new [] m.params) NameTaken 0 in
      let own = need (not (any_forbidden (own_name m.name ++ m.params))) ForbiddenName 0 in
      let globals = globals_names m m.params (record { values = []; functions = [] }) m.globals 1 in
      let functions = functions_names m (m.params ++ global_texts m) m.functions (functions_at m) in
      let tables = tables_names m (m.params ++ (global_texts m ++ function_texts m)) m.tables (tables_at m) in
      let names = (both_none (name_rows m) (type_rows m ++ limit_rows m) (no_first (name_rows m ++ (type_rows m ++ limit_rows m)) h)).0 in
      let after_params = (both_none params (own ++ (globals ++ (functions ++ (tables ++ rows)))) names).1 in
      let after_own = (both_none own (globals ++ (functions ++ (tables ++ rows))) after_params).1 in
      let after_globals = (both_none globals (functions ++ (tables ++ rows)) after_own).1 in
      let after_functions = (both_none functions (tables ++ rows) after_globals).1 in
      (both_none tables rows after_functions).1

  pub accepted_first : (es : List Exported) → IsAccepted m → es ≡ exported_from m m.exports → EachIsFirst es
  accepted_first es h same = subst EachIsFirst (sym same) (rows_first m.exports (exports_at m) (export_rows h))
