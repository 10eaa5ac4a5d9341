-- Calls of the helpers that read the memory, in any module where the name of the byte view means it, and what is read.
use Rattle.std.specs.Prelude.{◌≡◌, ℕ, ◌+◌, ◌^◌, ◌≤◌, List, [], ◌∷◌, length, Some}
use Rattle.heap_lang.specs.Numbers.{IsBytes}
use Rattle.heap_lang.specs.Heap.{load_bytes}
use Rattle.asm_lang.specs.Modules.{Function, Module}
use Rattle.asm_lang_valid.specs.declared.meaning.Element.TheVariants.{Uint8}
use Rattle.asm_lang_valid.specs.Scope.{a_view, module_meaning}
use Rattle.wasm2js_translation.specs.Names as names
use Rattle.wasm2js_translation.specs.Names.{view_of_bytes, fixed}
use Rattle.wasm2js_translation.specs.Words.{name_of}
use Rattle.wasm2js_translation.specs.Helpers.{function_of, one_argument, gives, sets, spare, word_at}
use Rattle.wasm2js_laws_numbers.specs.Laws.{joined}
use Rattle.wasm2js_laws_helpers.specs.Laws.{HelpsAtOnce}
use Rattle.wasm2js_laws_helpers.specs.Access.Answers.{low_word_in, high_word_in, loaded_word, loaded_words}

abbrev pub HasBytes : Module → Type 0
HasBytes m = module_meaning m (name_of view_of_bytes) ≡ a_view Uint8

abbrev pub load_32_function : Function
load_32_function = function_of (fixed names.load_32) one_argument [] (gives (word_at 0) ∷ [])

abbrev pub load_64_function : Function
load_64_function = function_of (fixed names.load_64) one_argument [] (sets spare (word_at 4) ∷ gives (word_at 0) ∷ [])

abbrev pub LoadWordHelps : Type 0
LoadWordHelps = (m : Module) → HasBytes m → HelpsAtOnce m load_32_function loaded_word

abbrev pub LoadWordsHelp : Type 0
LoadWordsHelp = (m : Module) → HasBytes m → HelpsAtOnce m load_64_function loaded_words

-- ---- in a heap that holds all the bytes, the words are those of its bytes, the lowest first

abbrev pub ReadsWord : Type 0
ReadsWord = (at : ℕ) (heap : List ℕ) → IsBytes heap → length heap ≤ 2 ^ 28 → at + 4 ≤ length heap → load_bytes at 4 heap ≡ Some (low_word_in heap at)

abbrev pub ReadsWords : Type 0
ReadsWords =
    (at : ℕ) (heap : List ℕ) → IsBytes heap → length heap ≤ 2 ^ 28 → at + 8 ≤ length heap
    → load_bytes at 8 heap ≡ Some (joined (low_word_in heap at) (high_word_in heap at))
