-- What a session changes (section 4.2): the store, with what imports still answer and what the host has seen.
use Rattle.std.specs.Prelude.{ℕ, ◌%◌, ◌^◌, List, [], ◌∷◌, Option}
use Rattle.sem_words.specs.declared.word.Word.{Word}
use Rattle.sem_words.specs.declared.word.Word.TheVariants.{W32, W64}
use Rattle.wasm_lang.specs.declared.types.ValType.{ValType}
use Rattle.wasm_lang.specs.declared.types.ValType.TheVariants.{I32, I64}
use Rattle.heap_lang.specs.Heap.{with_run}
use Rattle.session_lang.specs.Script.{WritePlain}
use Rattle.session_lang.specs.Observation.{EventPlain}
use Rattle.session_lang.specs.Imports.{Replies}

-- a module without a memory has no bytes, and one without a table no entries; an entry may be empty
pub record Store : Type 0 where
  pub memory : List ℕ
  pub globals : List Word
  pub table : List (Option ℕ)
  pub events : List EventPlain
  pub replies : Replies

-- the word of a type that a number leaves
abbrev pub word_of_type : ValType → ℕ → Word
word_of_type I32 n = W32 (n % 2 ^ 32)
word_of_type I64 n = W64 (n % 2 ^ 64)

abbrev pub zeros_of : List ValType → List Word
zeros_of [] = []
zeros_of (t ∷ ts) = word_of_type t 0 ∷ zeros_of ts

-- byte writes of a reply, in order
abbrev pub written : List WritePlain → List ℕ → List ℕ
written [] memory = memory
written (w ∷ ws) memory = written ws (with_run w.at w.bytes memory)

abbrev pub page : ℕ
page = 65536
