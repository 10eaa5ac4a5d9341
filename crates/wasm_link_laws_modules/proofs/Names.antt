-- Which function an export of the linked module is found by.
use Rattle.std.proofs.Common.{◌≡◌, ℕ, ◌+◌, Bool, true, false, List, [], ◌∷◌, ◌++◌, Option, Some, None, refl, sym, ap, ◌∙◌}
use Rattle.std.specs.Prelude.{if◌then◌else◌, option_map, bytes_eq}
use Rattle.std.proofs.lemmas.Slice.Eq.{bytes_eq-Decides}
use Rattle.wasm_lang.specs.Modules.{Exported}
use Rattle.wasm_lang_exec.specs.Session.{exported_function, function_named}
use Rattle.wasm_laws_sound.specs.Laws.{IsWhole}
use Rattle.wasm_link_lang.specs.Pairs.{Pair, past_first}
use Rattle.wasm_link_lang.specs.Session.{first_or_second}
use Rattle.wasm_link_code.specs.Numbers.{number}
use Rattle.wasm_link_code.specs.Linked.{with_export, moved_exports, linked}
use Rattle.wasm_link_laws_modules.proofs.Facts.{Every, every_less}
use Rattle.wasm_link_laws_modules.proofs.ExportsValid.{Distinct, moved_export, exports_distinct, linked_exports_are}

none_named : (es : List Exported) (name : List ℕ) → Every (λ (e : Exported). e.name ≡ name → ⊥) es → function_named es name ≡ None
none_named [] name e = refl
none_named (x ∷ es) name e = by (bytes_eq x.name name) refl (none_named es name (every_less (λ (e : Exported). e.name ≡ name → ⊥) x es e))
  where
    by : (b : Bool) → bytes_eq x.name name ≡ b → function_named es name ≡ None → (if b then exported_function x.kind else function_named es name) ≡ None
    by true h further = absurd (e 0 x refl ((bytes_eq-Decides x.name name).0 h))
    by false h further = further

-- the exports that aren't functions give no names
pub moved_named : (f : ℕ → ℕ) (es : List Exported) → Distinct es → (name : List ℕ) → function_named (moved_exports f es) name ≡ option_map f (function_named es name)
moved_named f [] d name = refl
moved_named f (e ∷ es) d name = by (bytes_eq e.name name) refl (exported_function e.kind) refl (moved_named f es d.1 name)
  where
    none_later : e.name ≡ name → function_named (moved_exports f es) name ≡ None
    none_later same =
        none_named (moved_exports f es) name
        (λ i x h is. let it = moved_export f es i x h in d.0 it.place it.from it.stands (same ∙ sym is ∙ ap (λ (e : Exported). e.name) it.is_it))

    by : (b : Bool) → bytes_eq e.name name ≡ b → (o : Option ℕ) → exported_function e.kind ≡ o → function_named (moved_exports f es) name ≡ option_map f (function_named es name)
        → function_named (with_export f e o (moved_exports f es)) name ≡ option_map f (if b then o else function_named es name)
    by true h None g further = none_later ((bytes_eq-Decides e.name name).0 h)
    by true h (Some n) g further = rw h refl
    by false h None g further = further
    by false h (Some n) g further = rw h further

both_named : (f : ℕ → ℕ) (es more : List Exported) (name : List ℕ) → function_named (moved_exports f es ++ more) name ≡ first_or_second (function_named (moved_exports f es) name) (function_named more name)
both_named f [] more name = refl
both_named f (e ∷ es) more name = by (exported_function e.kind) (both_named f es more name)
  where
    either : (b : Bool) (n : ℕ) → function_named (moved_exports f es ++ more) name ≡ first_or_second (function_named (moved_exports f es) name) (function_named more name)
        → (if b then Some n else function_named (moved_exports f es ++ more) name) ≡ first_or_second (if b then Some n else function_named (moved_exports f es) name) (function_named more name)
    either true n further = refl
    either false n further = further

    by : (o : Option ℕ) → function_named (moved_exports f es ++ more) name ≡ first_or_second (function_named (moved_exports f es) name) (function_named more name)
        → function_named (with_export f e o (moved_exports f es) ++ more) name ≡ first_or_second (function_named (with_export f e o (moved_exports f es)) name) (function_named more name)
    by None further = further
    by (Some n) further = either (bytes_eq e.name name) (f n) further

-- the first's function of a name, else the second's
pub linked_named : (w : Pair) → IsWhole w.first → IsWhole w.second → (name : List ℕ)
    → function_named (linked w).exports name
    ≡ first_or_second (option_map (number w) (function_named w.first.exports name)) (option_map (λ f. number w ((past_first w).functions + f)) (function_named w.second.exports name))
linked_named w first second name =
    let past : ℕ → ℕ = λ f. number w ((past_first w).functions + f) in
    ap (λ es. function_named es name) (linked_exports_are w)
    ∙ both_named (number w) w.first.exports (moved_exports past w.second.exports) name
    ∙ ap (λ o. first_or_second o (function_named (moved_exports past w.second.exports) name)) (moved_named (number w) w.first.exports (exports_distinct w.first first) name)
    ∙ ap (λ o. first_or_second (option_map (number w) (function_named w.first.exports name)) o) (moved_named past w.second.exports (exports_distinct w.second second) name)
