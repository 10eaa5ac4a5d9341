-- The summary of what is made of a text of so many functions.
use Rattle.std.proofs.Common.{◌≡◌, ◌≤◌, ℕ, true, List, length, refl, sym, subst}
use Rattle.std.specs.Prelude.{None}
use Rattle.wasm_lang.specs.Grammar.{IsModuleBytes}
use Rattle.wasm_lang.specs.Modules.{WasmModule}
use Rattle.wasm_lang.specs.Shape.{IsWritable}
use Rattle.wasm_lang_valid.specs.Bytes.{IsTranslatable}
use Rattle.wasm_lang_valid.specs.Profile.{outside_profile, IsInProfile}
use Rattle.wasm_binary_write.specs.Spelling.{spelling}
use Rattle.asm_lang.specs.Modules.{Module}
use Rattle.asm_lang.specs.Printing.{canonical_text}
use Rattle.asm_lang_valid.specs.Texts.{IsAcceptedText}
use Rattle.asm2wasm_lang.specs.Parts.{StandsFor}
use Rattle.asm2wasm_lang.specs.Heaps.{is_heap_length}
use Rattle.asm2wasm_lang.specs.Small.{IsSmall}
use Rattle.asm2wasm_lang.specs.Short.{IsOfShortText}
use Rattle.wasm2js_translation.specs.Modules.{translated as asm_js_for}
use Rattle.wasm2js_laws_simulation.specs.WholeLaws.{SpelledAreAllowed, TrapsOfSpelledAreCalls}
use Rattle.wasm2js_laws_simulation.specs.BoundedLaws.{SpelledAreBounded}
use Rattle.gen_lang.specs.Recipe.{recipe, recipe_heap, summary}
use Rattle.gen_laws.specs.Modules.{recipe_module}
use Rattle.bridge_lang.specs.Job.{IsSummarized, of_text}
use Rattle.cmd_check_asm.specs.declared.fault.CheckFault.{CheckFault as TextFault}
use Rattle.cmd_check_asm.specs.declared.fault.CheckFault.TheVariants as text_faults
use Rattle.cmd_check_asm.specs.Verdicts as texts
use Rattle.cmd_check_asm.proofs.Verdicts as laws
use Rattle.bridge_cmd.proofs.Back.{SaysAgain}
use Rattle.bridge_cmd.proofs.Back as back
use Rattle.bridge_cmd.proofs.Small.{recipe_is_small}

-- what stands for the text's module
abbrev pub Spells : Type 0
Spells = (w : WasmModule) → IsWritable w → IsModuleBytes (spelling w) w

abbrev pub IsShorter : Type 0
IsShorter = (w : WasmModule) (bytes : List ℕ) → IsModuleBytes bytes w → length (spelling w) ≤ length bytes

module _ (allowed : SpelledAreAllowed) (traps : TrapsOfSpelledAreCalls) (bounded : SpelledAreBounded) (again : SaysAgain) (spells : Spells) (shortest : IsShorter) where
  translatable : (m : Module) (w : WasmModule) → StandsFor m recipe_heap w → IsWritable w → outside_profile w ≡ None → IsTranslatable (spelling w) w
  translatable m w s writable e = record { read = record { spelled = spells w writable; within = s.within }; within = record { valid = s.allowed.valid; within = e } }

  pub summed : (n : ℕ) (m : Module) (w : WasmModule) (output : List ℕ) → IsAcceptedText (recipe n) m → IsOfShortText m → StandsFor m recipe_heap w → outside_profile w ≡ None
      → output ≡ summary n (length (recipe n)) (length (spelling w)) (length (canonical_text (asm_js_for w))) → IsSummarized n output
  summed n m w output accepted short s e is = record {
    bytes = spelling w;
    back = canonical_text (asm_js_for w);
    there = of_text m refl accepted (record {
      «module» = w;
      allowed = s.allowed;
      bounded = s.bounded;
      shortest = record { spells = spells w (s.writable short); no_shorter = shortest w };
    });
    again = back.made allowed traps bounded again (spelling w) (canonical_text (asm_js_for w)) w (translatable m w s (s.writable short) e) refl;
    summed = is;
  }

-- an accepted text is refused only for want of memory
pub only_memory : (text : List ℕ) (m : Module) (fault : TextFault) → IsAcceptedText text m → texts.IsRefusal text fault → fault ≡ text_faults.Memory
only_memory text m (text_faults.Refused row at) accepted refused = absurd (laws.not_faulty text m (text_faults.Refused row at) accepted (refused, λ e. cc))
only_memory text m text_faults.Memory accepted refused = refl

-- the heap of the text has a length that there is
pub heap_is : is_heap_length recipe_heap ≡ true
unfolding is_heap_length
heap_is = refl

-- what is made of the text's module can be translated back
pub in_profile : (n : ℕ) (m : Module) (w : WasmModule) → n ≤ 10000 → m ≡ recipe_module n → (IsSmall m → IsInProfile w) → outside_profile w ≡ None
in_profile n m w few is profile = (profile (subst IsSmall (sym is) (recipe_is_small n few))).within
