-- A translated module is accepted and well formed.
use Rattle.std.proofs.Common.{◌≡◌, ℕ, ◌+◌, ◌≤◌, max, true, ◌&&◌, List, [], ◌∷◌, ◌++◌, None, refl, ap, ◌∙◌, arith}
use Rattle.std.specs.List.{flat_map}
use Rattle.std.proofs.lemmas.Bool.{and_from}
use Rattle.wasm_lang.specs.Modules.{WasmModule}
use Rattle.wasm_lang_valid.specs.Profile.{IsInProfile}
use Rattle.asm_lang.specs.Heights.{leaves_height, functions_height, module_height}
use Rattle.asm_laws_print.specs.Fitting.{FitsModule}
use Rattle.asm_laws_print.proofs.Printed.{fits_well_formed}
use Rattle.asm_lang_valid.specs.declared.rule.Met.{Met}
use Rattle.asm_lang_valid.specs.Rows.{first}
use Rattle.asm_lang_valid.specs.NameRows.{name_rows}
use Rattle.asm_lang_valid.specs.TypeRows.{type_rows}
use Rattle.asm_lang_valid.specs.LimitRows.{limit_rows}
use Rattle.asm_lang_valid.specs.Refusal.{IsAccepted}
use Rattle.asm_lang_valid.specs.Typed.{globals_typed, functions_typed, tables_typed, module_typed}
use Rattle.asm_lang_valid.proofs.Agree.{iff, module_agrees}
use Rattle.wasm2js_translation.specs.Names.{fixed, init}
use Rattle.wasm2js_translation.specs.Modules.{segment_stmts, start_stmts, functions_of, variables_of, exports_of, translated}
use Rattle.wasm2js_translation.specs.Tables.{tables_for}
use Rattle.wasm2js_laws_acceptance.proofs.ProvidedFunctions.{functions_are_provided}
use Rattle.wasm2js_laws_acceptance.proofs.ProvidedWhole.{modules_provide}
use Rattle.wasm2js_laws_acceptance.proofs.NamesWhole.{names_have_no_rows}
use Rattle.wasm2js_laws_acceptance.specs.FunctionsFunctions.{AreFineFunctions, IsSource, uses_of}
use Rattle.wasm2js_laws_acceptance.specs.FunctionsLaws.{AreProvided}
use Rattle.wasm2js_laws_acceptance.proofs.FunctionsTogether.{functions_are_fine}
use Rattle.wasm2js_laws_acceptance.proofs.LimitsMarking.{limits_hold}
use Rattle.wasm2js_laws_acceptance.specs.AcceptedLaws.{HaveFirstWords, TranslationsAreTyped, TranslationsAreAccepted, TranslationsAreWellFormed}
use Rattle.wasm2js_laws_acceptance.proofs.AcceptedHeads.{variables_typed, variables_printed, exports_printed}
use Rattle.wasm2js_laws_acceptance.proofs.AcceptedTableParts.{all_tables_typed, all_tables_printed}

leaves_low : {A : Type 0} → (xs : List A) → leaves_height xs ≤ 1
leaves_low [] = omega arith
leaves_low (x ∷ xs) = omega arith

low_enough : (g f t e : ℕ) → g ≤ 1 → f ≤ 999 → t ≤ 1 → e ≤ 1 → 1 + max g (max f (max t e)) ≤ 1000
low_enough g f t e p q r s = omega (arith, p, q, r, s)

no_row : (names types limits : List Met) → names ≡ [] → types ≡ [] → limits ≡ [] → first (names ++ (types ++ limits)) ≡ None
no_row names types limits a b c = ap (λ ms. first (ms ++ (types ++ limits))) a ∙ ap (λ ms. first (ms ++ limits)) b ∙ ap first c

module _ (w : WasmModule) (source : IsSource w) (words : HaveFirstWords w) where
  profile : IsInProfile w
  profile = record { valid = source.whole.is_valid; within = source.within }

  provided : AreProvided w
  provided = record {
    own = λ k t more code there. modules_provide w profile source.shaped k t more code;
    init = λ k t is. functions_are_provided w profile source.shaped (fixed init) [] [] (flat_map segment_stmts w.segments ++ start_stmts w.start) refl refl k t is;
  }

  fine : AreFineFunctions (translated w) (uses_of w)
  fine = functions_are_fine w source provided

  typed : module_typed (translated w) ≡ true
  typed =
      and_from (globals_typed (translated w) (variables_of w) && functions_typed (translated w) (functions_of w)) (tables_typed (translated w) (tables_for w))
      (and_from (globals_typed (translated w) (variables_of w)) (functions_typed (translated w) (functions_of w)) (variables_typed w source.shaped words) fine.are_typed)
      (all_tables_typed w profile source.shaped)

  accepted : IsAccepted (translated w)
  accepted =
      no_row (name_rows (translated w)) (type_rows (translated w)) (limit_rows (translated w)) (names_have_no_rows w profile source.shaped fine.are_typed)
      ((iff (type_rows (translated w)) (module_typed (translated w)) (module_agrees (translated w))).1 typed) (limits_hold w source fine)

  fits : FitsModule (translated w)
  fits = record {
    name = refl;
    params = (refl, (refl, (refl, tt)));
    few_params = omega arith;
    globals = variables_printed w source.shaped words;
    functions = fine.printed;
    tables = all_tables_printed w profile source.shaped;
    exports = exports_printed w source.shaped;
  }

  low : module_height (translated w) ≤ 1000
  low =
      low_enough (leaves_height (variables_of w)) (functions_height (functions_of w)) (leaves_height (tables_for w)) (leaves_height (exports_of w))
      (leaves_low (variables_of w)) fine.low (leaves_low (tables_for w)) (leaves_low (exports_of w))

pub translations_are_typed : TranslationsAreTyped
translations_are_typed w source words = typed w source words

pub translations_are_accepted : TranslationsAreAccepted
translations_are_accepted w source words = accepted w source words

pub translations_are_well_formed : TranslationsAreWellFormed
translations_are_well_formed w source words = fits_well_formed (translated w) (fits w source words) (low w source words)
