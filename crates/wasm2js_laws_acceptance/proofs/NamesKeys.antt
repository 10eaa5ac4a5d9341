-- The exports of a module: each has a key of its own, and names a function.
use Rattle.std.proofs.Common.{◌≡◌, ℕ, zero, suc, ◌+◌, Bool, true, false, ◌&&◌, ◌||◌, not, List, [], ◌∷◌, ◌++◌, map, length, Option, Some, None, inl, inr, refl, sym, ap, ◌∙◌, subst, arith, append-nil}
use Rattle.std.specs.Prelude.{slice_get, take, codes, bytes_eq, nat_eq}
use Rattle.std.specs.Cmp.Lexicographic.{pointwise}
use Rattle.std.specs.List.{AllByRecursion, flat_map, list_all}
use Rattle.std.proofs.lemmas.Bool.{and_parts}
use Rattle.std.proofs.lemmas.Slice.Eq.{bytes_eq-Decides}
use Rattle.std.proofs.lemmas.Bool.Decides.{nat_tests}
use Rattle.std.proofs.lemmas.List.{append_assoc, map-append}
use Rattle.std.proofs.lemmas.Option.{slice_get_within}
use Rattle.hex.specs.Hex.{IsBytes}
use Rattle.session_lang.specs.Names.{is_plain_name, is_name_part, starts_as_name, export_name}
use Rattle.session_lang.proofs.NameLaws.{different_exports_have_different_names, names_are_plain, fixed_names_are_kept}
use Rattle.wasm_lang.specs.declared.types.ImportKind.{ImportKind}
use Rattle.wasm_lang.specs.declared.types.ImportKind.TheVariants as imports
use Rattle.wasm_lang.specs.declared.types.ExportKind.{ExportKind}
use Rattle.wasm_lang.specs.declared.types.ExportKind.TheVariants as exports
use Rattle.wasm_lang.specs.Modules.{FunctionType, Imported, Exported, WasmModule}
use Rattle.wasm_lang.specs.Shape.{IsShaped}
use Rattle.wasm_lang_valid.specs.declared.rule.Rule.{Rule}
use Rattle.wasm_lang_valid.specs.declared.rule.Rule.TheVariants.{NoType, NoFunction, NoTable, NoMemory, NoGlobal, RepeatedName}
use Rattle.wasm_lang_valid.specs.declared.section.Section.TheVariants as sections
use Rattle.wasm_lang_valid.specs.ModuleRules.{meets, at, is_type, is_function, is_table_number, is_memory_number, is_global, function_of, imported_functions, function_types, type_of_function, exported_rule, is_named, export_rule}
use Rattle.wasm_lang_valid.specs.Profile.{IsInProfile}
use Rattle.wasm_lang_valid.specs.Validity.{IsValidModule}
use Rattle.wasm_lang_exec.specs.Reductions.{callees}
use Rattle.asm_lang.specs.Modules.{Function, Export, Module}
use Rattle.asm_lang_valid.specs.declared.rule.Rule.TheVariants.{NameTaken, ForbiddenName}
use Rattle.asm_lang_valid.specs.Rows.{need, exports_at}
use Rattle.asm_lang_valid.specs.Scope.{is_in, module_meaning}
use Rattle.asm_lang_valid.specs.NameRows as rows
use Rattle.asm_lang_valid.specs.NameRows.{is_forbidden_key, declares_key, function_uses, keys_names}
use Rattle.wasm2js_translation.specs.Names.{numbered, function, fixed, init, last_high, spelled}
use Rattle.wasm2js_translation.specs.Modules.{functions_from, init_function, high_function, helpers, export_for, exports_of, translated}
use Rattle.wasm2js_translation.specs.Tables.{stubs}
use Rattle.wasm2js_laws_scripts.proofs.Names.{shaped_exports_are_bytes}
use Rattle.wasm2js_laws_acceptance.proofs.ProvidedEntries.{are_apart, in_right}
use Rattle.wasm2js_laws_acceptance.proofs.ProvidedFound.{function_found}
use Rattle.wasm2js_laws_acceptance.proofs.ProvidedForeign.{HasType, type_there, is_less, imports_typed}
use Rattle.wasm2js_laws_acceptance.proofs.ProvidedFunctions.{function_declared}
use Rattle.wasm2js_laws_acceptance.specs.NamesLaws.{ExportsHaveNoRows}
use Rattle.wasm2js_laws_acceptance.proofs.NamesFresh.{none_join, all_join, all_places, in_neither, NewTexts}
use Rattle.wasm2js_laws_acceptance.proofs.NamesMembers.{uses_fine}

-- ---- plain names

pub plain_allowed : (name : List ℕ) → is_plain_name name ≡ true → is_forbidden_key name ≡ false
plain_allowed name h =
    let last = (and_parts (starts_as_name name && list_all is_name_part name) (not (bytes_eq name (codes "__proto__"))) h).1 in
    by (bytes_eq (codes "__proto__") name) refl last
  where
    by : (b : Bool) → bytes_eq (codes "__proto__") name ≡ b → not (bytes_eq name (codes "__proto__")) ≡ true → is_forbidden_key name ≡ false
    by true e last =
        let same : codes "__proto__" ≡ name = (bytes_eq-Decides (codes "__proto__") name).0 e in
        let other : bytes_eq name (codes "__proto__") ≡ true = (bytes_eq-Decides name (codes "__proto__")).1 (sym same) in
        let wrong : not (bytes_eq name (codes "__proto__")) ≡ false = ap not other in
        cc (wrong, last)
    by false e last = e

-- ---- rows, where keys are new

abbrev pub key_texts : List Export → List (List ℕ)
key_texts es = map (λ (e : Export). e.key) es

pub record IsFineExport (m : Module) (e : Export) : Type 0 where
  pub allowed : is_forbidden_key e.key ≡ false
  pub is_function : rows.is_function (module_meaning m e.function) ≡ true

keys_fine : (m : Module) (before : List (List ℕ)) (es : List Export) (at : ℕ) → NewTexts before (key_texts es) → AllByRecursion (IsFineExport m) es → keys_names m before es at ≡ []
keys_fine m before [] at h k = refl
keys_fine m before (e ∷ es) at h k =
    none_join (declares_key before e.key at) (function_uses m (e.function ∷ []) at ++ keys_names m (before ++ e.key ∷ []) es (at + 1))
    (none_join (need (not (is_in e.key before)) NameTaken at) (need (not (is_forbidden_key e.key)) ForbiddenName at) (ap (λ b. need (not b) NameTaken at) h.0) (ap (λ b. need (not b) ForbiddenName at) k.0.allowed))
    (none_join (function_uses m (e.function ∷ []) at) (keys_names m (before ++ e.key ∷ []) es (at + 1)) (uses_fine m (e.function ∷ []) at (k.0.is_function, tt)) (keys_fine m (before ++ e.key ∷ []) es (at + 1) h.1 k.1))

-- ---- exports of a valid module

met : (b : Bool) (r : Rule) (o : Option Rule) → meets b r o ≡ None → (b ≡ true) × (o ≡ None)
met true r o h = (refl, h)
met false r o h = cc h

not_true : (b : Bool) → not b ≡ true → b ≡ false
not_true true h = cc h
not_true false h = refl

abbrev for_each : Exported → List Export
for_each e = export_for e.name e.kind

-- no export has a name of one before it
abbrev AreDistinct : (before es : List Exported) → Type 0
AreDistinct before [] = Unit {0}
AreDistinct before (e ∷ es) = (is_named e.name before ≡ false) × AreDistinct (before ++ e ∷ []) es

distinct_from : (before es : List Exported) → ((i : ℕ) (e : Exported) → slice_get es i ≡ Some e → is_named e.name (before ++ take i es) ≡ false) → AreDistinct before es
distinct_from before [] h = tt
distinct_from before (e ∷ es) h = (
  subst (λ b. is_named e.name b ≡ false) (append-nil before) (h 0 e refl),
  distinct_from (before ++ e ∷ []) es (λ i x k. subst (λ b. is_named x.name b ≡ false) (sym (append_assoc before (e ∷ []) (take i es))) (h (suc i) x k)),
)

module _ (w : WasmModule) where
  abbrev Exports : ExportKind → Type 0
  Exports (exports.Func f) = is_function w f ≡ true
  Exports kind = Unit {0}

  exported_rest : (kind : ExportKind) (more : Option Rule) → exported_rule w kind more ≡ None → Exports kind × (more ≡ None)
  exported_rest (exports.Func f) more h = met (is_function w f) NoFunction more h
  exported_rest (exports.Table t) more h = (tt, (met (is_table_number w t) NoTable more h).1)
  exported_rest (exports.Memory t) more h = (tt, (met (is_memory_number w t) NoMemory more h).1)
  exported_rest (exports.Global g) more h = (tt, (met (is_global w g) NoGlobal more h).1)

  module _ (valid : IsValidModule w) where
    export_kept : (i : ℕ) (e : Exported) → slice_get w.exports i ≡ Some e → Exports e.kind × (is_named e.name (take i w.exports) ≡ false)
    export_kept i e k =
        let rule : export_rule w (take i w.exports) e ≡ None = sym (ap (λ o. at o (export_rule w (take i w.exports))) k) ∙ valid sections.Exports i (slice_get_within w.exports i e k) in
        let a = exported_rest e.kind (meets (not (is_named e.name (take i w.exports))) RepeatedName None) rule in
        (a.0, not_true (is_named e.name (take i w.exports)) (met (not (is_named e.name (take i w.exports))) RepeatedName None a.1).0)

    distinct : AreDistinct [] w.exports
    distinct = distinct_from [] w.exports (λ i e k. (export_kept i e k).1)

    -- ---- functions have types

    numbers_imported : (is : List Imported) → ((n : ℕ) (i : Imported) → slice_get is n ≡ Some i → HasType w i.kind) → AllByRecursion (λ n. is_type w n ≡ true) (imported_functions is)
    numbers_imported [] h = tt
    numbers_imported (i ∷ is) h = all_join (λ n. is_type w n ≡ true) (function_of i.kind) (imported_functions is) (by i.kind (h 0 i refl)) (numbers_imported is (λ n x e. h (suc n) x e))
      where
        by : (kind : ImportKind) → HasType w kind → AllByRecursion (λ n. is_type w n ≡ true) (function_of kind)
        by (imports.Func t) k = (k, tt)
        by (imports.Table l) k = tt
        by (imports.Memory l) k = tt
        by (imports.Global g) k = tt

    numbers_typed : AllByRecursion (λ n. is_type w n ≡ true) (function_types w)
    numbers_typed =
        all_join (λ n. is_type w n ≡ true) (imported_functions w.imports) w.functions (numbers_imported w.imports (imports_typed w valid))
        (all_places (λ n. is_type w n ≡ true) w.functions
        (λ i n e. (met (is_type w n) NoType None (sym (ap (λ o. at o (λ t. meets (is_type w t) NoType None)) e) ∙ valid sections.Functions i (slice_get_within w.functions i n e))).0))

    one_of : {A : Type 0} → (P : A → Type 0) (xs : List A) (i : ℕ) (x : A) → AllByRecursion P xs → slice_get xs i ≡ Some x → P x
    one_of P [] i x h e = cc e
    one_of P (y ∷ xs) zero x h e = let same : y ≡ x = cc e in subst P same h.0
    one_of P (y ∷ xs) (suc i) x h e = one_of P xs i x h.1 e

    pub function_typed : (f : ℕ) → is_function w f ≡ true → (t : FunctionType) × (type_of_function w f ≡ Some t)
    function_typed f h =
        let n = type_there w (function_types w) f (is_less w f (length (function_types w)) h) in
        let t = type_there w w.types n.0 (is_less w n.0 (length w.types) (one_of (λ n. is_type w n ≡ true) (function_types w) f n.0 numbers_typed n.1)) in
        let number = n.1 in
        let there : type_of_function w f ≡ slice_get w.types n.0 = rw number refl in
        (t.0, there ∙ t.1)

-- ---- keys

pub same_bytes : (xs : List ℕ) → pointwise nat_eq xs xs ≡ true
same_bytes [] = refl
same_bytes (x ∷ xs) = let e : nat_eq x x ≡ true = grind (arith, nat_tests) in rw e (same_bytes xs)

abbrev fixed_keys : List (List ℕ)
fixed_keys = codes "$init" ∷ codes "$hi" ∷ []

not_fixed : (name : List ℕ) → is_in (export_name name) fixed_keys ≡ false
not_fixed name =
    let a = are_apart (codes "$init") (export_name name) (λ e. fixed_names_are_kept.init name (sym e)) in
    let b = are_apart (codes "$hi") (export_name name) (λ e. fixed_names_are_kept.hi name (sym e)) in
    rw (a, b) refl

abbrev AreBytes : List Exported → Type 0
AreBytes es = AllByRecursion (λ (e : Exported). IsBytes e.name) es

either_false : (a b : Bool) → (a || b) ≡ false → (a ≡ false) × (b ≡ false)
either_false true b h = cc h
either_false false b h = (refl, h)

not_among : (name : List ℕ) (bx : List Exported) → IsBytes name → AreBytes bx → is_named name bx ≡ false → is_in (export_name name) (key_texts (flat_map for_each bx)) ≡ false
not_among name [] b bs h = refl
not_among name (x ∷ bx) b bs h = by x.kind (not_among name bx b bs.1 (either_false (pointwise nat_eq name x.name) (is_named name bx) h).1)
  where
    apart : export_name x.name ≡ export_name name → ⊥
    apart e =
        let same = different_exports_have_different_names x.name name bs.0 b e in
        let yes : pointwise nat_eq name x.name ≡ true = subst (λ n. pointwise nat_eq name n ≡ true) (sym same) (same_bytes name) in
        let no = (either_false (pointwise nat_eq name x.name) (is_named name bx) h).0 in
        cc (yes, no)

    by : (kind : ExportKind) → is_in (export_name name) (key_texts (flat_map for_each bx)) ≡ false → is_in (export_name name) (key_texts (export_for x.name kind ++ flat_map for_each bx)) ≡ false
    by (exports.Func f) more = let e = are_apart (export_name x.name) (export_name name) apart in rw e more
    by (exports.Table t) more = more
    by (exports.Memory t) more = more
    by (exports.Global g) more = more

keys_join : (bx : List Exported) (e : Exported) → key_texts (flat_map for_each (bx ++ e ∷ [])) ≡ key_texts (flat_map for_each bx) ++ key_texts (for_each e)
keys_join [] e = ap key_texts (append-nil (for_each e))
keys_join (x ∷ bx) e =
    map-append (λ (e : Export). e.key) (for_each x) (flat_map for_each (bx ++ e ∷ []))
    ∙ ap (λ ks. key_texts (for_each x) ++ ks) (keys_join bx e)
    ∙ sym (append_assoc (key_texts (for_each x)) (key_texts (flat_map for_each bx)) (key_texts (for_each e)))
    ∙ ap (λ ks. ks ++ key_texts (for_each e)) (sym (map-append (λ (e : Export). e.key) (for_each x) (flat_map for_each bx)))

bytes_join : (bx : List Exported) (e : Exported) → AreBytes bx → IsBytes e.name → AreBytes (bx ++ e ∷ [])
bytes_join bx e h k = all_join (λ (e : Exported). IsBytes e.name) bx (e ∷ []) h (k, tt)

keys_new : (bx es : List Exported) (before : List (List ℕ)) → before ≡ fixed_keys ++ key_texts (flat_map for_each bx) → AreDistinct bx es → AreBytes bx → AreBytes es
    → NewTexts before (key_texts (flat_map for_each es))
keys_new bx [] before is h b bs = tt
keys_new bx (e ∷ es) before is h b bs =
    by e.kind refl (λ further k. keys_new (bx ++ e ∷ []) es further k h.1 (bytes_join bx e b bs.0) bs.1)
  where
    onward : (ks : List (List ℕ)) → key_texts (for_each e) ≡ ks → before ++ ks ≡ fixed_keys ++ key_texts (flat_map for_each (bx ++ e ∷ []))
    onward ks k =
        ap (λ b. b ++ ks) is
        ∙ append_assoc fixed_keys (key_texts (flat_map for_each bx)) ks
        ∙ ap (λ x. fixed_keys ++ x) (ap (λ ks. key_texts (flat_map for_each bx) ++ ks) (sym k) ∙ sym (keys_join bx e))

    by : (kind : ExportKind) → e.kind ≡ kind
        → ((further : List (List ℕ)) → further ≡ fixed_keys ++ key_texts (flat_map for_each (bx ++ e ∷ [])) → NewTexts further (key_texts (flat_map for_each es)))
        → NewTexts before (key_texts (export_for e.name kind ++ flat_map for_each es))
    by (exports.Func f) k more = (
      ap (is_in (export_name e.name)) is ∙ in_neither (export_name e.name) fixed_keys (key_texts (flat_map for_each bx)) (not_fixed e.name) (not_among e.name bx bs.0 b h.0),
      more (before ++ export_name e.name ∷ []) (onward (export_name e.name ∷ []) (ap (λ kind. key_texts (export_for e.name kind)) k)),
    )
    by (exports.Table t) k more = more before (sym (append-nil before) ∙ onward [] (ap (λ kind. key_texts (export_for e.name kind)) k))
    by (exports.Memory t) k more = more before (sym (append-nil before) ∙ onward [] (ap (λ kind. key_texts (export_for e.name kind)) k))
    by (exports.Global g) k more = more before (sym (append-nil before) ∙ onward [] (ap (λ kind. key_texts (export_for e.name kind)) k))

-- ---- each export names a function

module _ (w : WasmModule) (h : IsInProfile w) (shaped : IsShaped w) where
  abbrev before_last : List Function
  before_last = (helpers w ++ functions_from w 0 (callees w)) ++ stubs w

  init_found : rows.is_function (module_meaning (translated w) (spelled (fixed init))) ≡ true
  init_found = ap rows.is_function (function_found w (init_function w) (fixed init) (in_right (init_function w) before_last (init_function w ∷ high_function ∷ []) (inl refl)) refl)

  high_found : rows.is_function (module_meaning (translated w) (spelled (fixed last_high))) ≡ true
  high_found = ap rows.is_function (function_found w high_function (fixed last_high) (in_right high_function before_last (init_function w ∷ high_function ∷ []) (inr (inl refl))) refl)

  numbered_found : (f : ℕ) → is_function w f ≡ true → rows.is_function (module_meaning (translated w) (spelled (numbered function f))) ≡ true
  numbered_found f k = let t = function_typed w h.valid f k in ap rows.is_function (function_declared w h shaped f t.0 t.1).meaning

  all_flat_of : (es : List Exported) → AreBytes es → AllByRecursion (λ (e : Exported). Exports w e.kind) es → AllByRecursion (IsFineExport (translated w)) (flat_map for_each es)
  all_flat_of [] b k = tt
  all_flat_of (e ∷ es) b k = all_join (IsFineExport (translated w)) (for_each e) (flat_map for_each es) (by e.kind k.0) (all_flat_of es b.1 k.1)
    where
      by : (kind : ExportKind) → Exports w kind → AllByRecursion (IsFineExport (translated w)) (export_for e.name kind)
      by (exports.Func f) k = (record { allowed = plain_allowed (export_name e.name) (names_are_plain.exports e.name b.0); is_function = numbered_found f k }, tt)
      by (exports.Table t) k = tt
      by (exports.Memory t) k = tt
      by (exports.Global g) k = tt

  all_fine : AllByRecursion (IsFineExport (translated w)) (exports_of w)
  all_fine = (
    record { allowed = refl; is_function = init_found },
    (
      record { allowed = refl; is_function = high_found },
      all_flat_of w.exports (shaped_exports_are_bytes w shaped) (all_places (λ (e : Exported). Exports w e.kind) w.exports (λ i e k. (export_kept w h.valid i e k).0)),
    ),
  )

  all_keys_new : NewTexts [] (key_texts (exports_of w))
  all_keys_new = (refl, (refl, keys_new [] w.exports fixed_keys refl (distinct w h.valid) tt (shaped_exports_are_bytes w shaped)))

pub exports_have_no_rows : ExportsHaveNoRows
exports_have_no_rows w h shaped = keys_fine (translated w) [] (exports_of w) (exports_at (translated w)) (all_keys_new w h shaped) (all_fine w h shaped)
