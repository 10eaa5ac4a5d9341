-- Exported functions in a map, one export more at a time.
use Rattle.std.proofs.Common.{◌≡◌, ℕ, ◌+◌, ◌<◌, Bool, true, false, List, ◌∷◌, length, map, drop, get_or, sym, ap, ◌∙◌, refl, Option, Some}
use Rattle.std.proofs.lemmas.List.{at_drop_more}
use Rattle.std.specs.Prelude.{if◌then◌else◌}
use Rattle.std.specs.Str.{bytes_eq}
use Rattle.wasm_lang_exec.specs.Session.{exported_function, function_named}
use Rattle.wasm_tree.specs.declared.module.WasmExport.{WasmExport}
use Rattle.wasm_tree.specs.Views.{bytes_of, export_of}
use Rattle.indexmap.specs.IndexMap.{IndexMap, get_by}
use Rattle.wasm_link_bind.specs.Exports.{joined, found}

-- x is what the map has under a name once the i-th export is put in, and y what it had
pub function_put : (es : List WasmExport) (i j : ℕ) (e : WasmExport) (n : List ℕ) (x y : Option ℕ) → j ≡ i + 1 → i < length es → e ≡ get_or es i e
    → x ≡ (if bytes_eq (export_of e).name n then exported_function (export_of e).kind else y) → y ≡ function_named (map export_of (drop j es)) n
    → x ≡ function_named (map export_of (drop i es)) n
function_put es i j e n x y p h is put before =
    put
    ∙ ap (λ y. if bytes_eq (export_of e).name n then exported_function (export_of e).kind else y) (before ∙ ap (λ j. function_named (map export_of (drop j es)) n) p)
    ∙ ap (λ (c : WasmExport). function_named (map export_of (c ∷ drop (i + 1) es)) n) is
    ∙ sym (at_drop_more (λ l. function_named (map export_of l) n) es i e h)

-- what is found once one more is put under a name
pub put_one : {S : Type 0} (before after : IndexMap (List ℕ) (Option ℕ) S) (e : WasmExport) (key : List ℕ) (value : Option ℕ) (n : List ℕ) → key ≡ bytes_of e.name → value ≡ exported_function e.kind
    → get_by (bytes_eq n) after ≡ (if bytes_eq key n then Some value else get_by (bytes_eq n) before)
    → found after n ≡ (if bytes_eq (export_of e).name n then exported_function (export_of e).kind else found before n)
put_one before after e key value n k v put =
    ap joined put ∙ split (bytes_eq key n) ∙ ap (λ l. if bytes_eq l n then value else found before n) k ∙ ap (λ o. if bytes_eq (bytes_of e.name) n then o else found before n) v
  where
    split : (t : Bool) → joined (if t then Some value else get_by (bytes_eq n) before) ≡ (if t then value else found before n)
    split true = refl
    split false = refl
