-- The calls of a script that fits name exported functions, whose arguments are words.
use Rattle.std.proofs.Common.{◌≡◌, ℕ, suc, ◌+◌, Bool, true, false, List, [], ◌∷◌, length, map, replicate, Option, Some, None, ℤ, refl, sym, ap, ◌∙◌}
use Rattle.std.specs.Prelude.{if◌then◌else◌, slice_get, option_map, option_and_then, bytes_eq, ◌==◌}
use Rattle.std.specs.List.{list_all}
use Rattle.std.proofs.lemmas.Bool.{and_parts, eqb-true}
use Rattle.std.proofs.lemmas.List.{length-map}
use Rattle.sem_words.specs.declared.js_value.JsValue.TheVariants.{Whole}
use Rattle.sem_words.specs.declared.word.Word.TheVariants.{W32}
use Rattle.sem_words.specs.Words.{word_of}
use Rattle.session_lang.specs.Script.{CallPlain, ScriptPlain}
use Rattle.session_lang.specs.FitLaws.{a_call, Fits}
use Rattle.wasm_lang.specs.declared.types.ValType.TheVariants.{I32}
use Rattle.wasm_lang.specs.declared.types.ExportKind.TheVariants as exports
use Rattle.wasm_lang.specs.Modules as machine
use Rattle.wasm_lang_exec.specs.Session.{words_for, arguments_for, function_named}
use Rattle.asm_lang.specs.Modules.{Function, Module}
use Rattle.asm_lang_valid.specs.LimitRows.{foreign_calls}
use Rattle.asm_lang_valid.specs.Refusal.{Exported, exported_from}
use Rattle.asm_lang_exec.specs.Session.{export_number}
use Rattle.asm_lang_exec.specs.Fits.{in_range, takes, fits_call, tests}
use Rattle.asm2wasm_translation.specs.Modules.{translation}
use Rattle.asm2wasm_laws_preservation.specs.Kept.{word}
use Rattle.asm2wasm_laws_acceptance.specs.Laws.{FunctionsAreCalled}
use Rattle.asm2wasm_laws_simulation.proofs.Sessions.Called.{NamesExport, AllNameExports}
use Rattle.asm2wasm_laws_simulation.proofs.Sessions.Begun.{holds_or}

arguments_are : (zs : List ℤ) → words_for (replicate (length zs) I32) zs ≡ map word (map Whole zs)
arguments_are [] = refl
arguments_are (z ∷ zs) = ap (λ ws. W32 (word_of 32 z) ∷ ws) (arguments_are zs)

module _ (m : Module) (size : ℕ) (called : FunctionsAreCalled) where
  abbrev given : Exported → machine.Exported
  given e = record { name = e.key; kind = exports.Func (length (foreign_calls m) + e.function) }

  abbrev number_after : ℕ → ℕ
  number_after k = length (foreign_calls m) + k

  number_is : (es : List Exported) (key : List ℕ) → function_named (map given es) key ≡ option_map number_after (export_number es key)
  number_is [] key = refl
  number_is (e ∷ es) key = by (bytes_eq e.key key) (number_is es key)
    where
      by : (b : Bool) → function_named (map given es) key ≡ option_map number_after (export_number es key)
          → (if b then Some (length (foreign_calls m) + e.function) else function_named (map given es) key) ≡ option_map number_after (if b then Some e.function else export_number es key)
      by true rest = refl
      by false rest = rest

  names_export : (c : CallPlain) → fits_call m c ≡ true → NamesExport (translation m size) m c
  names_export c h = by_number (export_number (exported_from m m.exports) c.name) refl h
    where
      by_function : (k : ℕ) → export_number (exported_from m m.exports) c.name ≡ Some k → (o : Option Function) → slice_get m.functions k ≡ o → takes o c.args ≡ true → NamesExport (translation m size) m c
      by_function k e None at h = absurd (cc h)
      by_function k e (Some f) at h =
          let parts = and_parts (length c.args == length f.params) (list_all in_range c.args) h in
          let many = eqb-true (length c.args) (length f.params) parts.0 in
          record {
            place = k;
            function = f;
            stands = at;
            exported = ap (option_and_then (λ i. slice_get m.functions i)) e ∙ at;
            named = number_is (exported_from m m.exports) c.name ∙ ap (option_map number_after) e;
            arguments =
                ap (λ o. arguments_for o c.args) (called m size k f at) ∙ ap (λ n. words_for (replicate n I32) c.args) (sym many) ∙ arguments_are c.args;
            many = length-map c.args Whole ∙ many;
          }

      by_number : (o : Option ℕ) → export_number (exported_from m m.exports) c.name ≡ o → takes (option_and_then (λ i. slice_get m.functions i) o) c.args ≡ true → NamesExport (translation m size) m c
      by_number None e h = absurd (cc h)
      by_number (Some k) e h = by_function k e (slice_get m.functions k) refl h

  all_name : (cs : List CallPlain) → ((i : ℕ) (c : CallPlain) → slice_get cs i ≡ Some c → fits_call m c ≡ true) → AllNameExports (translation m size) m cs
  all_name [] each = tt
  all_name (c ∷ cs) each = (names_export c (each 0 c refl), all_name cs (λ i c e. each (suc i) c e))

  pub all_name_exports : (s : ScriptPlain) → Fits (tests m size) s → AllNameExports (translation m size) m s.calls
  all_name_exports s fits = all_name s.calls (λ i c e. holds_or (fits_call m c) (λ unfit. fits.all_fit c.line (a_call i c e unfit)))
