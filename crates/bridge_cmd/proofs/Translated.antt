-- What is written of an accepted text is the shortest spelling of a module that may be written for it.
use Rattle.std.proofs.Common.{◌≡◌, ◌≤◌, ℕ, true, List, length, refl, sym, subst}
use Rattle.wasm_lang.specs.Grammar.{IsModuleBytes}
use Rattle.wasm_lang.specs.Modules.{WasmModule}
use Rattle.wasm_lang.specs.Shape.{IsWritable}
use Rattle.wasm_binary_write.specs.Spelling.{spelling}
use Rattle.asm_lang.specs.Heights.{IsWellFormed}
use Rattle.asm_lang.specs.Modules.{Module}
use Rattle.asm_lang_valid.specs.Texts.{IsAcceptedText}
use Rattle.asm2wasm_lang.specs.Heaps.{is_heap_length}
use Rattle.asm2wasm_translation.specs.Modules.{translation}
use Rattle.asm2wasm_laws_simulation.specs.Sessions.Laws.{TranslationIsAllowed, TranslationIsBounded}
use Rattle.asm2wasm_laws_writable.specs.Laws.{TranslationIsWritable}
use Rattle.bridge_lang.specs.Number.{is_heap}
use Rattle.bridge_lang.specs.Command.{translate}
use Rattle.bridge_lang.specs.Job.{file_limit, IsMade, of_text}

-- the lengths that the words may give are those that a module is translated for
pub same_lengths : (n : ℕ) → is_heap n ≡ true → is_heap_length n ≡ true
unfolding is_heap is_heap_length
same_lengths n h = h

pub made : TranslationIsAllowed → TranslationIsBounded → TranslationIsWritable
    → ((w : WasmModule) → IsWritable w → IsModuleBytes (spelling w) w)
    → ((w : WasmModule) (bytes : List ℕ) → IsModuleBytes bytes w → length (spelling w) ≤ length bytes)
    → (text output : List ℕ) (heap : ℕ) (m : Module) → IsAcceptedText text m → IsWellFormed m → length text ≤ file_limit → is_heap heap ≡ true
    → output ≡ spelling (translation m heap) → IsMade (translate heap) text output
made allowed bounded writable spells shortest text output heap m accepted formed short length_is is =
    let w = translation m heap in
    let fits = same_lengths heap length_is in
    subst (IsMade (translate heap) text) (sym is)
    (of_text m refl accepted (record {
      «module» = w;
      allowed = allowed m heap accepted.accepted formed fits;
      bounded = bounded m heap accepted.accepted formed fits;
      shortest = record { spells = spells w (writable text m heap accepted short fits); no_shorter = shortest w };
    }))
