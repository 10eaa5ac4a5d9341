-- Imported globals, and their kinds by their names.
use Rattle.std.proofs.Common.{◌≡◌, ℕ, ◌+◌, ◌<◌, Bool, true, false, List, [], ◌∷◌, ◌++◌, length, map, drop, get_or, Option, Some, None, bytes_eq, ◌||◌, refl, sym, ap, ◌∙◌, append_assoc, arith}
use Rattle.std.proofs.lemmas.Bool.Decides.{nat_tests}
use Rattle.std.proofs.lemmas.List.{at_drop_more}
use Rattle.std.proofs.lemmas.Slice.Eq.{bytes_eq-Decides}
use Rattle.std.specs.Prelude.{if◌then◌else◌, is_some, ℤ, pos, negsuc, ◌&&◌}
use Rattle.sem_words.specs.Lists.{text_bytes}
use Rattle.wasm_lang.specs.declared.types.ValType.{ValType}
use Rattle.wasm_lang.specs.declared.types.ValType.TheVariants.{I32, I64}
use Rattle.wasm_lang.specs.declared.types.ImportKind.{ImportKind}
use Rattle.wasm_lang.specs.declared.types.ImportKind.TheVariants as imports
use Rattle.wasm_lang.specs.Modules.{Imported}
use Rattle.wasm_tree.specs.declared.module.Import.{Import}
use Rattle.wasm_tree.specs.Views.{import_of}
use Rattle.wasm_lang_exec.specs.Fits.{GlobalImport, with_import, global_imports, in_range, is_imported, has_range}
use Rattle.wasm_run.specs.declared.imported.ImportedGlobal.{ImportedGlobal}
use Rattle.wasm_run.specs.Globals.{narrowest, kind_named}
use Rattle.wasm_run.specs.GlobalViews.{imported_of}

-- ---- the globals of imports

one_more : (i : Imported) (k : ImportKind) (gs : List GlobalImport) → with_import i k gs ≡ with_import i k [] ++ gs
one_more i (imports.Func f) gs = refl
one_more i (imports.Table l) gs = refl
one_more i (imports.Memory l) gs = refl
one_more i (imports.Global g) gs = refl

-- after one import more
pub one_import : (is : List Import) (k : ℕ) (i : Import) (new old all : List GlobalImport) → k < length is → i ≡ get_or is k i → new ≡ old ++ global_imports (import_of i ∷ [])
    → old ++ global_imports (map import_of (drop k is)) ≡ all → new ++ global_imports (map import_of (drop (k + 1) is)) ≡ all
one_import is k i new old all inside at more before =
    let rest = global_imports (map import_of (drop (k + 1) is)) in
    ap (λ l. l ++ rest) more ∙ append_assoc old (global_imports (import_of i ∷ [])) rest
    ∙ ap (λ l. old ++ l) (sym (one_more (import_of i) (import_of i).kind rest))
    ∙ ap (λ (j : Import). old ++ global_imports (import_of j ∷ map import_of (drop (k + 1) is))) at
    ∙ sym (at_drop_more (λ l. old ++ global_imports (map import_of l)) is k i inside)
    ∙ before

-- ---- the map, one global more at a time

same_kind : (gs : List GlobalImport) (t : ValType) (m n : List ℕ) (b : Bool) (y z : Option ValType) → bytes_eq m n ≡ b → y ≡ kind_named gs n → z ≡ kind_named gs m
    → (if b then Some (narrowest t z) else y) ≡ (if b then Some (narrowest t (kind_named gs n)) else kind_named gs n)
same_kind gs t m n true y z named rest same = ap (λ o. Some (narrowest t o)) (same ∙ ap (kind_named gs) ((bytes_eq-Decides m n).0 named))
same_kind gs t m n false y z named rest same = rest

-- x is the kind of a name from the i-th global on, y that from the next on, and z that of the i-th global's name
pub kind_put : (gs : List ImportedGlobal) (i j : ℕ) (g : ImportedGlobal) (n : List ℕ) (x y z : Option ValType) → j ≡ i + 1 → i < length gs → g ≡ get_or gs i g
    → x ≡ (if bytes_eq (text_bytes g.name) n then Some (narrowest g.kind z) else y)
    → y ≡ kind_named (map imported_of (drop j gs)) n → z ≡ kind_named (map imported_of (drop j gs)) (text_bytes g.name) → x ≡ kind_named (map imported_of (drop i gs)) n
kind_put gs i j g n x y z next inside is put rest same =
    put ∙ same_kind (map imported_of (drop j gs)) g.kind (text_bytes g.name) n (bytes_eq (text_bytes g.name) n) y z refl rest same
    ∙ ap (λ j. kind_named (imported_of g ∷ map imported_of (drop j gs)) n) next
    ∙ ap (λ (h : ImportedGlobal). kind_named (imported_of h ∷ map imported_of (drop (i + 1) gs)) n) is
    ∙ sym (at_drop_more (λ l. kind_named (map imported_of l) n) gs i g inside)

-- ---- whether a line fits

either_imported : (b c : Bool) (t : ValType) (o : Option ValType) → c ≡ is_some o → (b || c) ≡ is_some (if b then Some (narrowest t o) else o)
either_imported true c t o e = refl
either_imported false c t o e = e

imported_is : (gs : List GlobalImport) (n : List ℕ) → is_imported gs n ≡ is_some (kind_named gs n)
imported_is [] n = refl
imported_is (g ∷ gs) n = either_imported (bytes_eq g.name n) (is_imported gs n) g.type (kind_named gs n) (imported_is gs n)

-- in the range of the kind, where there is one
abbrev in_each : Option ValType → ℤ → Bool
in_each None z = true
in_each (Some t) z = in_range t z

-- what is in the narrow range is in the wide one
narrow_is_wide : (z : ℤ) → (in_range I32 z && in_range I64 z) ≡ in_range I32 z
narrow_is_wide (pos n) = grind (arith, nat_tests)
narrow_is_wide (negsuc n) = grind (arith, nat_tests)

both_same : (b : Bool) → (b && b) ≡ b
both_same true = refl
both_same false = refl

both_true : (b : Bool) → (b && true) ≡ b
both_true true = refl
both_true false = refl

either_order : (a b : Bool) → (a && b) ≡ (b && a)
either_order true b = sym (both_true b)
either_order false true = refl
either_order false false = refl

narrowest_range : (t : ValType) (o : Option ValType) (z : ℤ) → (in_range t z && in_each o z) ≡ in_range (narrowest t o) z
narrowest_range t None z = both_true (in_range t z)
narrowest_range I32 (Some I32) z = both_same (in_range I32 z)
narrowest_range I32 (Some I64) z = narrow_is_wide z
narrowest_range I64 (Some I32) z = either_order (in_range I64 z) (in_range I32 z) ∙ narrow_is_wide z
narrowest_range I64 (Some I64) z = both_same (in_range I64 z)

range_more : (b c : Bool) (t : ValType) (o : Option ValType) (z : ℤ) → c ≡ in_each o z → ((if b then in_range t z else true) && c) ≡ in_each (if b then Some (narrowest t o) else o) z
range_more true c t o z e = ap (λ c. in_range t z && c) e ∙ narrowest_range t o z
range_more false c t o z e = e

range_is : (gs : List GlobalImport) (n : List ℕ) (z : ℤ) → has_range gs n z ≡ in_each (kind_named gs n) z
range_is [] n z = refl
range_is (g ∷ gs) n z = range_more (bytes_eq g.name n) (has_range gs n z) g.type (kind_named gs n) z (range_is gs n z)

pub kind_found : (gs : List GlobalImport) (n : List ℕ) (z : ℤ) (t : ValType) → kind_named gs n ≡ Some t → (is_imported gs n && has_range gs n z) ≡ in_range t z
kind_found gs n z t e =
    ap (λ b. b && has_range gs n z) (imported_is gs n ∙ ap is_some e) ∙ range_is gs n z ∙ ap (λ o. in_each o z) e

pub no_kind : (gs : List GlobalImport) (n : List ℕ) (z : ℤ) → kind_named gs n ≡ None → (is_imported gs n && has_range gs n z) ≡ false
no_kind gs n z e = ap (λ b. b && has_range gs n z) (imported_is gs n ∙ ap is_some e)
