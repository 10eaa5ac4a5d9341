-- Calls of the helpers that write the memory, in any module where the name of the byte view means it, and instructions that store.
use Rattle.std.specs.Prelude.{◌≡◌, ℕ, ◌+◌, ◌^◌, ◌<◌, ◌≤◌, List, [], ◌++◌, length}
use Rattle.heap_lang.specs.Heap.{store_bytes}
use Rattle.asm_lang.specs.Modules.{Function, Module}
use Rattle.wasm_lang.specs.declared.types.MemOp.{MemOp}
use Rattle.wasm_lang.specs.Instructions.{store}
use Rattle.wasm2js_translation.specs.Names as names
use Rattle.wasm2js_translation.specs.Names.{fixed}
use Rattle.wasm2js_translation.specs.Helpers.{function_of, two_arguments, three_arguments, second, third, write_word}
use Rattle.wasm2js_laws_numbers.specs.Laws.{joined}
use Rattle.wasm2js_laws_places.specs.Straight.{Helping}
use Rattle.wasm2js_laws_helpers.specs.Laws.{HelpsAtOnce}
use Rattle.wasm2js_laws_helpers.specs.Access.Laws.{HasBytes}
use Rattle.wasm2js_laws_typed.specs.Laws.{IsFormed}
use Rattle.wasm2js_laws_preservation.specs.ControlControl as control
use Rattle.wasm2js_laws_preservation.specs.InstructionsPlain.{PlainIs, AnswersAtOnce, Supports}
use Rattle.wasm2js_laws_preservation.specs.StoresAnswers.{with_low_word, with_high_word, stored_word, stored_words}

abbrev pub store_32_function : Function
store_32_function = function_of (fixed names.store_32) two_arguments [] (write_word 0 second)

abbrev pub store_64_function : Function
store_64_function = function_of (fixed names.store_64) three_arguments [] (write_word 0 second ++ write_word 4 third)

abbrev pub StoreWordHelps : Type 0
StoreWordHelps = (m : Module) → HasBytes m → HelpsAtOnce m store_32_function stored_word

abbrev pub StoreWordsHelp : Type 0
StoreWordsHelp = (m : Module) → HasBytes m → HelpsAtOnce m store_64_function stored_words

-- ---- in a heap that holds all the bytes, the lowest byte is written first

abbrev pub WritesWord : Type 0
WritesWord = (at word : ℕ) (heap : List ℕ) → length heap ≤ 2 ^ 28 → at + 4 ≤ length heap → with_low_word at word heap ≡ store_bytes at 4 word heap

abbrev pub WritesWords : Type 0
WritesWords =
    (at low high : ℕ) (heap : List ℕ) → low < 2 ^ 32 → length heap ≤ 2 ^ 28 → at + 8 ≤ length heap
    → with_high_word at high (with_low_word at low heap) ≡ store_bytes at 8 (joined low high) heap

-- ---- instructions

-- the helpers that write words write their bytes
pub record AreWriters (helping : Helping) : Type 0 where
  pub store_32 : AnswersAtOnce helping names.store_32 stored_word
  pub store_64 : AnswersAtOnce helping names.store_64 stored_words

-- each store is what its code does
abbrev pub StoresAreWritten : Type 0
StoresAreWritten =
    (op : MemOp) (align offset : ℕ) → IsFormed (store op align offset) → (f : control.Function) (helping : Helping) → Supports f helping → AreWriters helping
    → PlainIs f helping (store op align offset)
