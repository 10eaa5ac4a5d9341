-- The names that a set holds are those of the exports that were seen.
use Rattle.std.proofs.Common.{◌≡◌, ℕ, ◌+◌, Bool, true, false, not, ◌||◌, List, [], ◌∷◌, ◌++◌, map, take, Option, Some, None, nat_eq, refl, sym, ap, ◌∙◌, Bor}
use Rattle.std.proofs.lemmas.List.{map-append}
use Rattle.std.specs.Prelude.{slice_get, if◌then◌else◌}
use Rattle.std.specs.List.{list_any}
use Rattle.std.specs.Cmp.Lexicographic.{pointwise}
use Rattle.wasm_lang.specs.Modules.{Exported}
use Rattle.wasm_lang.specs.declared.types.ExportKind.{ExportKind}
use Rattle.wasm_lang.specs.declared.types.ExportKind.TheVariants as exports
use Rattle.wasm_lang.specs.Modules.{WasmModule}
use Rattle.wasm_lang_valid.specs.declared.rule.Rule.{Rule}
use Rattle.wasm_lang_valid.specs.declared.rule.Rule.TheVariants.{RepeatedName}
use Rattle.wasm_lang_valid.specs.declared.section.Section.TheVariants as sections
use Rattle.wasm_lang_valid.specs.ModuleRules.{meets, is_function, is_table_number, is_memory_number, is_global, is_named, exported_rule, export_rule, item_rule, at}
use Rattle.wasm_validate.proofs.Sections.{one_longer}

abbrev pub HoldNames : List (Bor (List ℕ)) → List Exported → Type 0
HoldNames keys es = map (λ k. k.now) keys ≡ map (λ e. e.name) es

pub names_held : (name : List ℕ) (keys : List (Bor (List ℕ))) (es : List Exported) → HoldNames keys es → list_any (λ k. pointwise nat_eq name k.now) keys ≡ is_named name es
names_held name [] [] h = refl
names_held name [] (e ∷ es) h = cc
names_held name (k ∷ ks) [] h = cc
names_held name (k ∷ ks) (e ∷ es) h =
    let first : k.now ≡ e.name = cc in
    let more : map (λ k. k.now) ks ≡ map (λ e. e.name) es = cc in
    ap (λ n. pointwise nat_eq name n || list_any (λ k. pointwise nat_eq name k.now) ks) first ∙ ap (λ b. pointwise nat_eq name e.name || b) (names_held name ks es more)

pub one_more_name : (keys : List (Bor (List ℕ))) (k : Bor (List ℕ)) (es : List Exported) (i : ℕ) (e : Exported) → slice_get es i ≡ Some e → k.now ≡ e.name → HoldNames keys (take i es) → HoldNames (keys ++ k ∷ []) (take (i + 1) es)
one_more_name keys k es i e stands is h =
    map-append (λ k. k.now) keys (k ∷ []) ∙ ap (λ ns. ns ++ k.now ∷ []) h ∙ ap (λ n. map (λ e. e.name) (take i es) ++ n ∷ []) is ∙ sym (map-append (λ e. e.name) (take i es) (e ∷ [])) ∙ ap (map (λ e. e.name)) (sym (one_longer es i e stands))

-- the rule of the export at a place
pub export_at : (m : WasmModule) (i : ℕ) (e : Exported) (is_new : Bool) (named r : Option Rule) → slice_get m.exports i ≡ Some e → is_new ≡ not (is_named e.name (take i m.exports)) → named ≡ meets is_new RepeatedName None → r ≡ exported_rule m e.kind named → item_rule m sections.Exports i ≡ r
export_at m i e is_new named r stands new is rule =
    ap (λ o. at o (export_rule m (take i m.exports))) stands ∙ ap (λ b. exported_rule m e.kind (meets b RepeatedName None)) (sym new) ∙ ap (exported_rule m e.kind) (sym is) ∙ sym rule

meets_none : (b : Bool) (rule : Rule) (others : Option Rule) → meets b rule others ≡ None → (b ≡ true) × (others ≡ None)
meets_none true rule others e = (refl, e)
meets_none false rule others e = cc

exported_none : (m : WasmModule) (kind : ExportKind) (others : Option Rule) → exported_rule m kind others ≡ None → others ≡ None
exported_none m (exports.Func f) others e = (meets_none (is_function m f) _ others e).1
exported_none m (exports.Table t) others e = (meets_none (is_table_number m t) _ others e).1
exported_none m (exports.Memory t) others e = (meets_none (is_memory_number m t) _ others e).1
exported_none m (exports.Global g) others e = (meets_none (is_global m g) _ others e).1

pub is_new_true : (m : WasmModule) (kind : ExportKind) (is_new : Bool) (named : Option Rule) → exported_rule m kind named ≡ None → named ≡ meets is_new RepeatedName None → is_new ≡ true
is_new_true m kind is_new named e is = (meets_none is_new RepeatedName None (sym is ∙ exported_none m kind named e)).0

pub keys_longer : {A : Type 0} (before : Bool) (is_new : Bool) (keys new : List A) (k : A) → is_new ≡ not before → is_new ≡ true → new ≡ (if before then keys else keys ++ k ∷ []) → new ≡ keys ++ k ∷ []
keys_longer true is_new keys new k is e h = cc
keys_longer false is_new keys new k is e h = h
