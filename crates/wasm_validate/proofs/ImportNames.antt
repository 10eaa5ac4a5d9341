-- The names that were imported, one more at a time.
use Rattle.std.proofs.Common.{◌≡◌, ℕ, ◌+◌, ◌<◌, Bool, true, false, cond, ◌&&◌, ◌||◌, nat_eq, List, [], ◌∷◌, ◌++◌, length, get_or, map, take, drop, Some, refl, sym, ap, ◌∙◌, arith}
use Rattle.std.specs.List.{list_any}
use Rattle.std.specs.Prelude.{if◌then◌else◌}
use Rattle.std.specs.Cmp.Lexicographic.{pointwise}
use Rattle.std.proofs.lemmas.List.{drop_more, map-append}
use Rattle.std.proofs.lemmas.List.Folds.{list_any-append}
use Rattle.std.proofs.lemmas.Option.{slice_get-get_or}
use Rattle.wasm_lang.specs.declared.types.ImportKind.{ImportKind}
use Rattle.wasm_lang.specs.Modules.{Imported}
use Rattle.wasm_tree.specs.declared.module.Import.{Import}
use Rattle.wasm_tree.specs.Views.{import_of}
use Rattle.wasm_lang_valid.specs.Measures.{same_import, is_imported_so, is_function_import, is_global_import, mixes, first_mixed}
use Rattle.wasm_validate.specs.declared.mixed.Names.{Names}
use Rattle.wasm_validate.specs.Mixed.{Name, is_named, holds, AreNames}
use Rattle.wasm_validate.proofs.Sections.{one_longer}

or_assoc : (a b c : Bool) → a || (b || c) ≡ (a || b) || c
or_assoc true b c = refl
or_assoc false b c = refl

or_false : (a : Bool) → a || false ≡ a
or_false true = refl
or_false false = refl

or_true : (a : Bool) → a || true ≡ true
or_true true = refl
or_true false = refl

both : (a b : Bool) → a && b ≡ true → (a ≡ true) × (b ≡ true)
both true b e = (refl, e)
both false b e = cc

same_bytes : (xs ys : List ℕ) → pointwise nat_eq xs ys ≡ true → xs ≡ ys
same_bytes [] [] e = refl
same_bytes [] (y ∷ ys) e = cc
same_bytes (x ∷ xs) [] e = cc
same_bytes (x ∷ xs) (y ∷ ys) e =
    let h = both (nat_eq x y) (pointwise nat_eq xs ys) e in
    let here : nat_eq x y ≡ true = h.0 in
    let first : x ≡ y = grind arith in
    ap (λ z. z ∷ xs) first ∙ ap (λ zs. y ∷ zs) (same_bytes xs ys h.1)

-- the test of a set: this is the name
abbrev is_same : Name → Name → Bool
is_same n k = pointwise nat_eq n.0.now k.0.now && pointwise nat_eq n.1.now k.1.now

named_same : (i : Imported) (n k : Name) → is_named i n ≡ true → is_same n k ≡ is_named i k
named_same i n k e =
    let h = both (pointwise nat_eq i.module_name n.0.now) (pointwise nat_eq i.name n.1.now) e in
    ap (λ l. pointwise nat_eq l k.0.now && pointwise nat_eq n.1.now k.1.now) (sym (same_bytes i.module_name n.0.now h.0)) ∙ ap (λ l. pointwise nat_eq i.module_name k.0.now && pointwise nat_eq l k.1.now) (sym (same_bytes i.name n.1.now h.1))

any_same : (i : Imported) (n : Name) (keys : List Name) → is_named i n ≡ true → list_any (is_same n) keys ≡ holds keys i
any_same i n [] e = refl
any_same i n (k ∷ ks) e = ap (λ b. b || list_any (is_same n) ks) (named_same i n k e) ∙ ap (λ b. is_named i k || b) (any_same i n ks e)

-- a set's names after one was put into it
pub holds_more : (n : Name) (keys new : List Name) → new ≡ (if list_any (is_same n) keys then keys else keys ++ n ∷ []) → (i : Imported) → holds new i ≡ holds keys i || is_named i n
holds_more n keys new e i = by (list_any (is_same n) keys) (is_named i n) refl refl
  where
    by : (there here : Bool) → list_any (is_same n) keys ≡ there → is_named i n ≡ here → holds new i ≡ holds keys i || is_named i n
    by true true t h = ap (λ k. holds k i) (e ∙ ap (λ b. if b then keys else keys ++ n ∷ []) t) ∙ sym (any_same i n keys h) ∙ t ∙ sym (ap (λ b. holds keys i || b) h ∙ or_true (holds keys i))
    by true false t h = ap (λ k. holds k i) (e ∙ ap (λ b. if b then keys else keys ++ n ∷ []) t) ∙ sym (ap (λ b. holds keys i || b) h ∙ or_false (holds keys i))
    by false here t h = ap (λ k. holds k i) (e ∙ ap (λ b. if b then keys else keys ++ n ∷ []) t) ∙ list_any-append (is_named i) keys (n ∷ []) ∙ ap (λ b. holds keys i || b) (or_false (is_named i n))

imported_more : (test : ImportKind → Bool) (i x : Imported) (before : List Imported) → is_imported_so test i (before ++ x ∷ []) ≡ is_imported_so test i before || (test x.kind && same_import i x)
imported_more test i x [] = or_false (test x.kind && same_import i x)
imported_more test i x (j ∷ js) = ap (λ b. (test j.kind && same_import i j) || b) (imported_more test i x js) ∙ or_assoc (test j.kind && same_import i j) (is_imported_so test i js) (test x.kind && same_import i x)

-- an import that isn't of this kind
not_so : (test : ImportKind → Bool) (i x : Imported) (before : List Imported) → test x.kind ≡ false → is_imported_so test i (before ++ x ∷ []) ≡ is_imported_so test i before
not_so test i x before e = imported_more test i x before ∙ ap (λ b. is_imported_so test i before || (b && same_import i x)) e ∙ or_false (is_imported_so test i before)

-- .. and one that is
is_so : (test : ImportKind → Bool) (i x : Imported) (before : List Imported) → test x.kind ≡ true → is_imported_so test i (before ++ x ∷ []) ≡ is_imported_so test i before || same_import i x
is_so test i x before e = imported_more test i x before ∙ ap (λ b. is_imported_so test i before || (b && same_import i x)) e

pub neither : (n : Names) (x : Imported) (before : List Imported) → is_function_import x.kind ≡ false → is_global_import x.kind ≡ false → AreNames n before → AreNames n (before ++ x ∷ [])
neither n x before f g are = record {
  functions = λ i. are.functions i ∙ sym (not_so is_function_import i x before f);
  globals = λ i. are.globals i ∙ sym (not_so is_global_import i x before g);
}

abbrev OneMore : List Name → List Name → Name → Type 0
OneMore keys new n = (i : Imported) → holds new i ≡ holds keys i || is_named i n

-- the name is the import's
abbrev IsNameOf : Imported → Name → Type 0
IsNameOf x n = (n.0.now ≡ x.module_name) × (n.1.now ≡ x.name)

name_is : (x i : Imported) (n : Name) → IsNameOf x n → is_named i n ≡ same_import i x
name_is x i n e = ap (λ l. pointwise nat_eq i.module_name l && pointwise nat_eq i.name n.1.now) e.0 ∙ ap (λ l. pointwise nat_eq i.module_name x.module_name && pointwise nat_eq i.name l) e.1

pub a_function : (old new : Names) (x : Imported) (n : Name) (before : List Imported) → IsNameOf x n → is_function_import x.kind ≡ true → is_global_import x.kind ≡ false → OneMore old.functions.keys new.functions.keys n → new.globals ≡ old.globals → AreNames old before → AreNames new (before ++ x ∷ [])
a_function old new x n before name f g more same are = record {
  functions = λ i. more i ∙ ap (λ b. b || is_named i n) (are.functions i) ∙ ap (λ b. is_imported_so is_function_import i before || b) (name_is x i n name) ∙ sym (is_so is_function_import i x before f);
  globals = λ i. ap (λ s. holds s.keys i) same ∙ are.globals i ∙ sym (not_so is_global_import i x before g);
}

pub a_global : (old new : Names) (x : Imported) (n : Name) (before : List Imported) → IsNameOf x n → is_function_import x.kind ≡ false → is_global_import x.kind ≡ true → OneMore old.globals.keys new.globals.keys n → new.functions ≡ old.functions → AreNames old before → AreNames new (before ++ x ∷ [])
a_global old new x n before name f g more same are = record {
  functions = λ i. ap (λ s. holds s.keys i) same ∙ are.functions i ∙ sym (not_so is_function_import i x before f);
  globals = λ i. more i ∙ ap (λ b. b || is_named i n) (are.globals i) ∙ ap (λ b. is_imported_so is_global_import i before || b) (name_is x i n name) ∙ sym (is_so is_global_import i x before g);
}

-- the imports from a place on, and those before it
pub imports_from : (imports : List Import) (i : ℕ) (at : Import) → at ≡ get_or imports i at → i < length imports → map import_of (drop i imports) ≡ import_of at ∷ map import_of (drop (i + 1) imports)
imports_from imports i at is h = ap (map import_of) (drop_more imports i at h) ∙ ap (λ x. import_of x ∷ map import_of (drop (i + 1) imports)) (sym is)

pub imports_to : (imports : List Import) (i : ℕ) (at : Import) → at ≡ get_or imports i at → i < length imports → map import_of (take (i + 1) imports) ≡ map import_of (take i imports) ++ import_of at ∷ []
imports_to imports i at is h = ap (map import_of) (one_longer imports i at (slice_get-get_or imports i at h ∙ ap Some (sym is))) ∙ map-append import_of (take i imports) (at ∷ [])

pub mixed_here : (before : List Imported) (n : ℕ) (i : Imported) (is : List Imported) → mixes before i ≡ true → first_mixed before n (i ∷ is) ≡ Some n
mixed_here before n i is e = ap (λ b. cond b (Some n) (first_mixed (before ++ i ∷ []) (n + 1) is)) e

pub mixed_on : (before : List Imported) (n : ℕ) (i : Imported) (is : List Imported) → mixes before i ≡ false → first_mixed before n (i ∷ is) ≡ first_mixed (before ++ i ∷ []) (n + 1) is
mixed_on before n i is e = ap (λ b. cond b (Some n) (first_mixed (before ++ i ∷ []) (n + 1) is)) e
