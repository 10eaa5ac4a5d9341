-- The exports of a translated module are of the functions that stand for those of the source.
use Rattle.std.proofs.Common.{◌≡◌, ℕ, ◌-◌, List, [], ◌∷◌, map, length, refl, ap, ◌∙◌}
use Rattle.std.specs.Prelude.{codes}
use Rattle.std.specs.List.{AllByRecursion, flat_map}
use Rattle.session_lang.specs.Names.{export_name}
use Rattle.wasm_lang.specs.declared.types.ExportKind.{ExportKind}
use Rattle.wasm_lang.specs.declared.types.ExportKind.TheVariants as exports
use Rattle.wasm_lang.specs.Modules.{Exported as Source, WasmModule}
use Rattle.wasm_lang.specs.Shape.{IsShaped}
use Rattle.wasm_lang_valid.specs.Profile.{IsInProfile}
use Rattle.wasm_laws_sound.proofs.Functions.{typed_functions}
use Rattle.asm_lang.specs.Modules.{Export}
use Rattle.asm_lang_valid.specs.Refusal.{Exported, exported, exported_from}
use Rattle.wasm2js_translation.specs.Names.{fixed, last_high, spelled}
use Rattle.wasm2js_translation.specs.Modules.{functions_of, export_for, translated}
use Rattle.wasm2js_laws_acceptance.proofs.CalledExporting.{IsGood, export_kept}
use Rattle.wasm2js_laws_acceptance.proofs.NamesFresh.{all_places}
use Rattle.wasm2js_laws_acceptance.proofs.NamesKeys.{function_typed}
use Rattle.wasm2js_lang.specs.Parts.Functions.{place_of, exported_kind, exports_asked}
use Rattle.wasm2js_laws_acceptance.proofs.Parts.Stand.{function_numbered, init_numbered, high_numbered}

module _ (w : WasmModule) where
  abbrev numbered_as : List ℕ → ℕ → Exported
  numbered_as k n = record { key = k; function = n }

  abbrev given : List Export → List Exported
  given es = map (λ (e : Export). exported (translated w) e.key e.function) es

  abbrev made : List Source → List Export
  made es = flat_map (λ (e : Source). export_for e.name e.kind) es

  abbrev asked : List Source → List Exported
  asked es = flat_map (λ (e : Source). exported_kind w (export_name e.name) e.kind) es

  module _ (h : IsInProfile w) (shaped : IsShaped w) where
    all_given : (es : List Source) → AllByRecursion (λ (e : Source). IsGood w e.kind) es → given (made es) ≡ asked es
    all_given [] k = refl
    all_given (e ∷ es) k = by e.kind k.0 (all_given es k.1)
      where
        by : (kind : ExportKind) → IsGood w kind → given (made es) ≡ asked es → given (made (record e { kind = kind } ∷ es)) ≡ asked (record e { kind = kind } ∷ es)
        by (exports.Func f) typed onward =
            let t = function_typed w h.valid f typed in
            let it = (typed_functions w h.valid shaped.bodies_match).are_there f t.0 t.1 in
            ap (λ n. numbered_as (export_name e.name) n ∷ given (made es)) (function_numbered w h shaped f it.0 it.1) ∙ ap (λ xs. numbered_as (export_name e.name) (place_of w f) ∷ xs) onward
        by (exports.Table t) typed onward = onward
        by (exports.Memory t) typed onward = onward
        by (exports.Global g) typed onward = onward

    pub exported_as_asked : exported_from (translated w) (translated w).exports ≡ exports_asked w (translated w)
    exported_as_asked =
        let own = all_given w.exports (all_places (λ (e : Source). IsGood w e.kind) w.exports (export_kept w h.valid)) in
        ap (λ n. numbered_as (codes "$init") n ∷ exported (translated w) (codes "$hi") (spelled (fixed last_high)) ∷ given (made w.exports)) (init_numbered w)
        ∙ ap (λ n. numbered_as (codes "$init") (length (functions_of w) - 2) ∷ numbered_as (codes "$hi") n ∷ given (made w.exports)) (high_numbered w)
        ∙ ap (λ xs. numbered_as (codes "$init") (length (functions_of w) - 2) ∷ numbered_as (codes "$hi") (length (functions_of w) - 1) ∷ xs) own
