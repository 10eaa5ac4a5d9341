-- The arguments of a script's call: what is passed in asm.js has the words that are passed in WebAssembly.
use Rattle.std.proofs.Common.{◌≡◌, ℕ, ◌+◌, ◌*◌, ◌%◌, ◌^◌, ◌<◌, true, List, [], ◌∷◌, map, pos, negsuc, refl, ap, ◌∙◌, arith}
use Rattle.std.specs.Prelude.{ℤ}
use Rattle.std.proofs.lemmas.Bool.{and_parts}
use Rattle.sem_words.specs.declared.word.Word.TheVariants.{W32, W64}
use Rattle.sem_words.specs.declared.js_value.JsValue.TheVariants.{Whole}
use Rattle.sem_words.specs.Words.{word_of}
use Rattle.session_lang.specs.Imports.{low_word, high_word}
use Rattle.session_lang.specs.CallingForms.{to_word64, split_args}
use Rattle.wasm_lang.specs.declared.types.ValType.{ValType}
use Rattle.wasm_lang.specs.declared.types.ValType.TheVariants.{I32, I64}
use Rattle.wasm_lang_exec.specs.Session.{words_for}
use Rattle.wasm_lang_exec.specs.Fits.{takes_arguments}
use Rattle.wasm2js_lang.specs.Calling.{is_wide}
use Rattle.wasm2js_laws_simulation.specs.CallsCalled.{Passes}

joined : (n : ℕ) → n < 2 ^ 64 → n ≡ low_word n % 2 ^ 32 + 2 ^ 32 * (high_word n % 2 ^ 32)
joined n h = omega (arith, h)

same_word : (z : ℤ) → word_of 64 z ≡ to_word64 z
same_word (pos n) = refl
same_word (negsuc n) = refl

small_word : (z : ℤ) → to_word64 z < 2 ^ 64
small_word (pos n) = omega arith
small_word (negsuc n) = omega arith

wide_passed : (z : ℤ) → W64 (word_of 64 z) ≡ W64 (low_word (to_word64 z) % 2 ^ 32 + 2 ^ 32 * (high_word (to_word64 z) % 2 ^ 32))
wide_passed z = ap W64 (same_word z ∙ joined (to_word64 z) (small_word z))

pub arguments_pass : (ts : List ValType) (zs : List ℤ) → takes_arguments ts zs ≡ true → Passes ts (map Whole (split_args (map is_wide ts) zs)) (words_for ts zs)
arguments_pass [] [] h = tt
arguments_pass [] (z ∷ zs) h = absurd (cc h)
arguments_pass (t ∷ ts) [] h = absurd (cc h)
arguments_pass (I32 ∷ ts) (z ∷ zs) h = let p = and_parts _ _ h in (narrow z, arguments_pass ts zs p.1)
  where
    narrow : (z : ℤ) → W32 (word_of 32 z) ≡ W32 (word_of 32 z)
    narrow z = refl
arguments_pass (I64 ∷ ts) (z ∷ zs) h = let p = and_parts _ _ h in (wide_passed z, arguments_pass ts zs p.1)
