-- Each helper, by what its call comes to.
use Rattle.std.proofs.Common.{◌≡◌, ℕ, ◌≤◌, Bool, true, false, List, map, refl, sym, ap, ◌∙◌, subst}
use Rattle.std.specs.Prelude.{◌&&◌}
use Rattle.std.proofs.lemmas.Bool.{and_parts}
use Rattle.sem_words.specs.declared.js_value.JsValue.{JsValue}
use Rattle.sem_words.specs.JsValues.{to_uint32_of}
use Rattle.wasm_lang.specs.Modules.{WasmModule}
use Rattle.wasm_lang_valid.specs.ModuleRules.{has_memory}
use Rattle.wasm_lang_valid.specs.Profile.{memory_bytes}
use Rattle.asm_lang.specs.Modules.{Function}
use Rattle.asm_lang_valid.specs.declared.meaning.Element.{Element}
use Rattle.asm_lang_valid.specs.declared.meaning.Element.TheVariants.{Int8, Uint8, Int32}
use Rattle.asm_lang_valid.specs.Scope.{a_view, a_function, module_meaning}
use Rattle.asm_lang_exec.specs.Runs.{Place}
use Rattle.asm_lang_exec.specs.Meaning.{call_at}
use Rattle.wasm2js_lang.specs.Parts.Functions.{is_asked}
use Rattle.wasm2js_translation.specs.Names as names
use Rattle.wasm2js_translation.specs.Names.{Fixed, fixed, word}
use Rattle.wasm2js_translation.specs.Words.{name_of}
use Rattle.wasm2js_translation.specs.Helpers.{shift_left_function, shift_right_signed_function, shift_right_function, rotate_left_function, leading_zeros_function, trailing_zeros_function, set_bits_function, copy_function, fill_function}
use Rattle.wasm2js_translation.specs.Modules.{translated}
use Rattle.wasm2js_laws_places.specs.Straight.{is_helper}
use Rattle.wasm2js_laws_places.specs.Places.{IsHeap}
use Rattle.wasm2js_laws_places.specs.Helped.{Helps}
use Rattle.wasm2js_laws_helpers.specs.Laws.{HasZeros, HasTrap, divide_signed_function, divide_function, remainder_signed_function, remainder_function}
use Rattle.wasm2js_laws_helpers.proofs.Turned.{shift_left_helps, shift_right_signed_helps, shift_right_helps}
use Rattle.wasm2js_laws_helpers.proofs.Rotated.{rotate_left_helps}
use Rattle.wasm2js_laws_helpers.proofs.Zeros.{leading_zeros_help, trailing_zeros_help}
use Rattle.wasm2js_laws_helpers.proofs.Bits.{set_bits_help}
use Rattle.wasm2js_laws_helpers.proofs.Divisions.{divide_signed_helps, divide_helps, remainder_signed_helps, remainder_helps}
use Rattle.wasm2js_laws_helpers.specs.Access.Laws.{HasBytes, load_32_function, load_64_function}
use Rattle.wasm2js_laws_helpers.proofs.Access.Loaded.{load_word_helps, load_words_help}
use Rattle.wasm2js_laws_preservation.specs.StoresLaws.{store_32_function, store_64_function}
use Rattle.wasm2js_laws_preservation.proofs.StoresStored.{store_word_helps, store_words_help}
use Rattle.wasm2js_laws_preservation.specs.RunsLaws.{HasViews}
use Rattle.wasm2js_laws_preservation.proofs.RunsFilling.{fill_helps}
use Rattle.wasm2js_laws_preservation.proofs.RunsCopying.{copy_helps}
use Rattle.wasm2js_laws_simulation.specs.HelpingHelping.{helper_answer, helper_cost, is_there, if_there, fixed_meaning}
use Rattle.wasm2js_laws_simulation.specs.HelpingLaws.{HelpersHelp}
use Rattle.wasm2js_laws_simulation.proofs.HelpingNamed.{fixed_names_mean}

surely_there : (b : Bool) (g h : Function) → if_there b (a_function g) ≡ a_function h → b ≡ true
surely_there true g h e = refl
surely_there false g h e = absurd (cc e)

same_there : (b : Bool) (g h : Function) → if_there b (a_function g) ≡ a_function h → g ≡ h
same_there true g h e = cc e
same_there false g h e = absurd (cc e)

no_view : (b : Bool) (o : Element) (g : Function) → if_there b (a_view o) ≡ a_function g → ⊥
no_view true o g e = cc e
no_view false o g e = cc e

module _ (w : WasmModule) (bound : ℕ) where
  abbrev Calls : Fixed → Function → Type 0
  Calls f g =
      (vs : List JsValue) (p : Place) → IsHeap (memory_bytes w) p.heap → p.units ≤ bound
      → Helps (memory_bytes w) (helper_answer (memory_bytes w) f (map to_uint32_of vs) p.heap) (helper_cost (memory_bytes w) f (map to_uint32_of vs)) p (call_at false (translated w) bound g vs p)

  zeros_are_seen : HasZeros (translated w)
  zeros_are_seen = fixed_names_mean w names.clz32

  traps_are_seen : HasTrap (translated w)
  traps_are_seen = fixed_names_mean w names.trap

  bytes_are_seen : has_memory w ≡ true → HasBytes (translated w)
  bytes_are_seen e = fixed_names_mean w names.view_of_bytes ∙ ap (λ b. if_there b (a_view Uint8)) e

  views_are_seen : has_memory w ≡ true → HasViews (translated w)
  views_are_seen e = record {
    bytes = bytes_are_seen e;
    words = fixed_names_mean w names.view_of_words ∙ ap (λ b. if_there b (a_view Int32)) e;
    products = fixed_names_mean w names.imul;
    traps = traps_are_seen;
  }

  where_there : (f : Fixed) (g h : Function) → if_there (is_there w f) (a_function g) ≡ a_function h → Calls f g → Calls f h
  where_there f g h e c = subst (Calls f) (same_there (is_there w f) g h e) c

  with_memory : (f : Fixed) (g h : Function) → is_there w f ≡ (has_memory w && is_asked w (word f)) → if_there (is_there w f) (a_function g) ≡ a_function h → (has_memory w ≡ true → Calls f g) → Calls f h
  with_memory f g h is e c =
      subst (Calls f) (same_there (is_there w f) g h e) (c (and_parts (has_memory w) (is_asked w (word f)) (sym is ∙ surely_there (is_there w f) g h e)).0)

  helper_helps : (f : Fixed) (g : Function) → is_helper f ≡ true → fixed_meaning w f ≡ a_function g → Calls f g
  helper_helps names.view_of_bytes g h e = absurd (no_view (has_memory w) Uint8 g e)
  helper_helps names.view_of_signed_bytes g h e = absurd (no_view (has_memory w) Int8 g e)
  helper_helps names.view_of_words g h e = absurd (no_view (has_memory w) Int32 g e)
  helper_helps names.imul g h e = absurd (cc e)
  helper_helps names.clz32 g h e = absurd (cc e)
  helper_helps names.trap g h e = absurd (cc e)
  helper_helps names.high g h e = absurd (cc e)
  helper_helps names.spare_high g h e = absurd (cc e)
  helper_helps names.result_high g h e = absurd (cc e)
  helper_helps names.shift_left g h e = where_there names.shift_left shift_left_function g e (shift_left_helps (translated w) bound (memory_bytes w))
  helper_helps names.shift_right_signed g h e = where_there names.shift_right_signed shift_right_signed_function g e (shift_right_signed_helps (translated w) bound (memory_bytes w))
  helper_helps names.shift_right g h e = where_there names.shift_right shift_right_function g e (shift_right_helps (translated w) bound (memory_bytes w))
  helper_helps names.rotate_left g h e = where_there names.rotate_left rotate_left_function g e (rotate_left_helps (translated w) bound (memory_bytes w))
  helper_helps names.leading_zeros g h e = where_there names.leading_zeros leading_zeros_function g e (leading_zeros_help (translated w) zeros_are_seen bound (memory_bytes w))
  helper_helps names.trailing_zeros g h e = where_there names.trailing_zeros trailing_zeros_function g e (trailing_zeros_help (translated w) zeros_are_seen bound (memory_bytes w))
  helper_helps names.set_bits g h e = where_there names.set_bits set_bits_function g e (set_bits_help (translated w) bound (memory_bytes w))
  helper_helps names.divide_signed g h e = where_there names.divide_signed divide_signed_function g e (divide_signed_helps (translated w) traps_are_seen bound (memory_bytes w))
  helper_helps names.divide g h e = where_there names.divide divide_function g e (divide_helps (translated w) traps_are_seen bound (memory_bytes w))
  helper_helps names.remainder_signed g h e = where_there names.remainder_signed remainder_signed_function g e (remainder_signed_helps (translated w) traps_are_seen bound (memory_bytes w))
  helper_helps names.remainder g h e = where_there names.remainder remainder_function g e (remainder_helps (translated w) traps_are_seen bound (memory_bytes w))
  helper_helps names.load_32 g h e = with_memory names.load_32 load_32_function g refl e (λ i. load_word_helps (translated w) (bytes_are_seen i) bound (memory_bytes w))
  helper_helps names.load_64 g h e = with_memory names.load_64 load_64_function g refl e (λ i. load_words_help (translated w) (bytes_are_seen i) bound (memory_bytes w))
  helper_helps names.store_32 g h e = with_memory names.store_32 store_32_function g refl e (λ i. store_word_helps (translated w) (bytes_are_seen i) bound (memory_bytes w))
  helper_helps names.store_64 g h e = with_memory names.store_64 store_64_function g refl e (λ i. store_words_help (translated w) (bytes_are_seen i) bound (memory_bytes w))
  helper_helps names.copy g h e = with_memory names.copy (copy_function (memory_bytes w)) g refl e (λ i. copy_helps (translated w) (views_are_seen i) (memory_bytes w) bound)
  helper_helps names.fill g h e = with_memory names.fill (fill_function (memory_bytes w)) g refl e (λ i. fill_helps (translated w) (views_are_seen i) (memory_bytes w) bound)
  helper_helps names.data_words g h e = absurd (cc h)
  helper_helps names.data_zeros g h e = absurd (cc h)
  helper_helps names.init g h e = absurd (cc h)
  helper_helps names.last_high g h e = absurd (cc h)

pub helpers_help : HelpersHelp
helpers_help w c bound home seen f g h e =
    helper_helps w bound f g h (sym (fixed_names_mean w f) ∙ ap (λ m. module_meaning m (name_of f)) (sym home) ∙ sym (seen (fixed f) refl) ∙ e)
