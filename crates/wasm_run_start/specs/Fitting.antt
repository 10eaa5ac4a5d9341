-- Whether one segment is in the table or in the memory, by the values of globals.
use Rattle.std.specs.Prelude.{ℕ, ◌+◌, Bool, List, length, nat_le}
use Rattle.sem_words.specs.declared.word.Word.{Word}
use Rattle.heap_lang.specs.Heap.{is_inside}
use Rattle.wasm_lang.specs.Modules.{ElementSegment, DataSegment}
use Rattle.wasm_lang_exec.specs.Session.{value_of, place_of}

abbrev pub entry_fits : List Word → (table : ℕ) → ElementSegment → Bool
entry_fits globals table e = nat_le (place_of (value_of globals e.offset) + length e.functions) table

abbrev pub run_fits : List Word → (memory : List ℕ) → DataSegment → Bool
run_fits globals memory d = is_inside (place_of (value_of globals d.offset)) (length d.bytes) memory
