-- Texts that are new among those before them.
use Rattle.std.proofs.Common.{◌≡◌, ℕ, suc, Bool, true, false, not, ◌||◌, List, [], ◌∷◌, ◌++◌, refl, sym, ap, ◌∙◌, subst, append-nil}
use Rattle.std.specs.Prelude.{bytes_eq, slice_get, Some}
use Rattle.std.specs.List.{AllByRecursion, flat_map}
use Rattle.std.proofs.lemmas.List.{append_assoc, map-append}
use Rattle.asm_lang_valid.specs.declared.rule.Rule.TheVariants.{NameTaken, ForbiddenName}
use Rattle.asm_lang_valid.specs.declared.rule.Met.{Met}
use Rattle.asm_lang_valid.specs.Rows.{need}
use Rattle.asm_lang_valid.specs.Scope.{is_in}
use Rattle.asm_lang_valid.specs.NameRows.{is_forbidden, declares, global_texts, function_texts}
use Rattle.wasm_lang.specs.Modules.{WasmModule}
use Rattle.wasm2js_translation.specs.Names.{Name, spelled, Rises}
use Rattle.wasm2js_translation.proofs.Spelling.{spellings_are_usable, rising_names_are_new}
use Rattle.wasm2js_translation.specs.Modules.{stdlib_name, foreign_name, heap_name, translated}
use Rattle.wasm2js_lang.specs.Tables.{masked}
use Rattle.wasm2js_laws_acceptance.proofs.ProvidedDeclared.{spellings, table_texts, global_names, function_names, table_names, declared_names, declared_names_rise, globals_are_named, functions_are_named, tables_are_named}
use Rattle.wasm2js_laws_acceptance.proofs.ProvidedFound.{no_parameter}

pub none_join : (a b : List Met) → a ≡ [] → b ≡ [] → a ++ b ≡ []
none_join a b h k = ap (λ x. x ++ b) h ∙ k

pub all_join : {A : Type 0} → (P : A → Type 0) (xs ys : List A) → AllByRecursion P xs → AllByRecursion P ys → AllByRecursion P (xs ++ ys)
all_join P [] ys h k = k
all_join P (x ∷ xs) ys h k = (h.0, all_join P xs ys h.1 k)

pub all_flat : {A B : Type 0} → (P : B → Type 0) (f : A → List B) (xs : List A) → ((x : A) → AllByRecursion P (f x)) → AllByRecursion P (flat_map f xs)
all_flat P f [] h = tt
all_flat P f (x ∷ xs) h = all_join P (f x) (flat_map f xs) (h x) (all_flat P f xs h)

pub all_places : {A : Type 0} → (P : A → Type 0) (xs : List A) → ((i : ℕ) (x : A) → slice_get xs i ≡ Some x → P x) → AllByRecursion P xs
all_places P [] h = tt
all_places P (x ∷ xs) h = (h 0 x refl, all_places P xs (λ i y e. h (suc i) y e))

pub in_neither : (s : List ℕ) (a b : List (List ℕ)) → is_in s a ≡ false → is_in s b ≡ false → is_in s (a ++ b) ≡ false
in_neither s [] b h k = k
in_neither s (x ∷ a) b h k = by (bytes_eq x s) h (in_neither s a b)
  where
    by : (t : Bool) → (t || is_in s a) ≡ false → (is_in s a ≡ false → is_in s b ≡ false → is_in s (a ++ b) ≡ false) → (t || is_in s (a ++ b)) ≡ false
    by true h more = cc h
    by false h more = more h k

abbrev pub NewTexts : (before : List (List ℕ)) → List (List ℕ) → Type 0
NewTexts before [] = Unit {0}
NewTexts before (t ∷ ts) = (is_in t before ≡ false) × NewTexts (before ++ t ∷ []) ts

abbrev pub MayBeDeclared : List (List ℕ) → Type 0
MayBeDeclared ts = AllByRecursion (λ t. is_forbidden t ≡ false) ts

pub declared_once : (before : List (List ℕ)) (t : List ℕ) (at : ℕ) → is_in t before ≡ false → is_forbidden t ≡ false → declares before t at ≡ []
declared_once before t at h k =
    none_join (need (not (is_in t before)) NameTaken at) (need (not (is_forbidden t)) ForbiddenName at) (ap (λ b. need (not b) NameTaken at) h) (ap (λ b. need (not b) ForbiddenName at) k)

pub new_first : (before xs ys : List (List ℕ)) → NewTexts before (xs ++ ys) → NewTexts before xs
new_first before [] ys h = tt
new_first before (x ∷ xs) ys h = (h.0, new_first (before ++ x ∷ []) xs ys h.1)

pub new_second : (before xs ys : List (List ℕ)) → NewTexts before (xs ++ ys) → NewTexts (before ++ xs) ys
new_second before [] ys h = subst (λ b. NewTexts b ys) (sym (append-nil before)) h
new_second before (x ∷ xs) ys h = subst (λ b. NewTexts b ys) (append_assoc before (x ∷ []) xs) (new_second (before ++ x ∷ []) xs ys h.1)

-- names whose ranks rise, after others
pub rising_are_new : (ps : List (List ℕ)) → ((n : Name) → is_in (spelled n) ps ≡ false) → (earlier ns : List Name) (before : List (List ℕ)) → before ≡ ps ++ spellings earlier → Rises (earlier ++ ns)
    → NewTexts before (spellings ns)
rising_are_new ps out earlier [] before e r = tt
rising_are_new ps out earlier (n ∷ ns) before e r = (
  ap (is_in (spelled n)) e ∙ in_neither (spelled n) ps (spellings earlier) (out n) (rising_names_are_new earlier n ns r),
  rising_are_new ps out (earlier ++ n ∷ []) ns (before ++ spelled n ∷ [])
      (ap (λ b. b ++ spelled n ∷ []) e ∙ append_assoc ps (spellings earlier) (spelled n ∷ []) ∙ ap (λ x. ps ++ x) (sym (map-append spelled earlier (n ∷ []))))
      (subst Rises (sym (append_assoc earlier (n ∷ []) ns)) r),
)

pub names_allowed : (ns : List Name) → MayBeDeclared (spellings ns)
names_allowed [] = tt
names_allowed (n ∷ ns) = ((spellings_are_usable n).may_be_declared, names_allowed ns)

-- ---- the names of a module

abbrev pub params_of : List (List ℕ)
params_of = stdlib_name ∷ foreign_name ∷ heap_name ∷ []

module _ (w : WasmModule) where
  all_new : NewTexts params_of (spellings (global_names w) ++ (spellings (function_names w) ++ spellings (table_names (masked w))))
  all_new =
      subst (NewTexts params_of)
      (map-append spelled (global_names w) (function_names w ++ table_names (masked w)) ∙ ap (λ ts. spellings (global_names w) ++ ts) (map-append spelled (function_names w) (table_names (masked w))))
      (rising_are_new params_of no_parameter [] (declared_names w) params_of (sym (append-nil params_of)) (declared_names_rise w))

  pub globals_new : NewTexts params_of (global_texts (translated w))
  globals_new =
      subst (NewTexts params_of) (sym (globals_are_named w)) (new_first params_of (spellings (global_names w)) (spellings (function_names w) ++ spellings (table_names (masked w))) all_new)

  later_new : NewTexts (params_of ++ spellings (global_names w)) (spellings (function_names w) ++ spellings (table_names (masked w)))
  later_new = new_second params_of (spellings (global_names w)) (spellings (function_names w) ++ spellings (table_names (masked w))) all_new

  pub functions_new : NewTexts (params_of ++ global_texts (translated w)) (function_texts (translated w))
  functions_new =
      subst (λ b. NewTexts (params_of ++ b) (function_texts (translated w))) (sym (globals_are_named w))
      (subst (NewTexts (params_of ++ spellings (global_names w))) (sym (functions_are_named w))
      (new_first (params_of ++ spellings (global_names w)) (spellings (function_names w)) (spellings (table_names (masked w))) later_new))

  pub tables_new : NewTexts (params_of ++ (global_texts (translated w) ++ function_texts (translated w))) (table_texts (translated w).tables)
  tables_new =
      subst (λ b. NewTexts (params_of ++ (b ++ function_texts (translated w))) (table_texts (translated w).tables)) (sym (globals_are_named w))
      (subst (λ b. NewTexts (params_of ++ (spellings (global_names w) ++ b)) (table_texts (translated w).tables)) (sym (functions_are_named w))
      (subst (NewTexts (params_of ++ (spellings (global_names w) ++ spellings (function_names w)))) (sym (tables_are_named w))
      (subst (λ b. NewTexts b (spellings (table_names (masked w)))) (append_assoc params_of (spellings (global_names w)) (spellings (function_names w)))
      (new_second (params_of ++ spellings (global_names w)) (spellings (function_names w)) (spellings (table_names (masked w))) later_new))))

  pub globals_allowed : MayBeDeclared (global_texts (translated w))
  globals_allowed = subst MayBeDeclared (sym (globals_are_named w)) (names_allowed (global_names w))

  pub functions_allowed : MayBeDeclared (function_texts (translated w))
  functions_allowed = subst MayBeDeclared (sym (functions_are_named w)) (names_allowed (function_names w))

  pub tables_allowed : MayBeDeclared (table_texts (translated w).tables)
  tables_allowed = subst MayBeDeclared (sym (tables_are_named w)) (names_allowed (table_names (masked w)))
