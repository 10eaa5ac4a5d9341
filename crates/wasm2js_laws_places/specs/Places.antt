-- The operands, locals and store of WebAssembly, as the variables and the heap of a place of asm.js hold them.
use Rattle.std.specs.Prelude.{◌≡◌, ℕ, suc, ◌+◌, ◌*◌, ◌^◌, ◌<◌, ◌≤◌, Bool, true, false, if◌then◌else◌, List, [], ◌∷◌, map, length, take, drop, Option, Some, None}
use Rattle.std.specs.List.{AllByRecursion}
use Rattle.sem_words.specs.declared.word.Word.{Word}
use Rattle.sem_words.specs.declared.word.Word.TheVariants.{W32, W64}
use Rattle.sem_words.specs.declared.js_value.JsValue.{JsValue}
use Rattle.sem_words.specs.JsValues.{to_uint32_of}
use Rattle.heap_lang.specs.Numbers.{IsBytes}
use Rattle.session_lang.specs.Script.{WritePlain, ReplyPlain, give, throw}
use Rattle.session_lang.specs.Imports.{Replies}
use Rattle.session_lang.specs.Observation.{EventPlain}
use Rattle.wasm_lang.specs.declared.types.ValType.{ValType}
use Rattle.wasm_lang.specs.declared.types.ValType.TheVariants.{I32, I64}
use Rattle.wasm_lang_exec.specs.Store.{Store}
use Rattle.asm_lang_valid.specs.Scope.{is_in}
use Rattle.asm_lang_exec.specs.Runs.{Binding, Place, value_in}
use Rattle.wasm2js_translation.specs.Names.{Name, numbered, local_low, local_high, operand_low, operand_high, spelled}
use Rattle.wasm2js_translation.specs.Pairs.{Pair, local_pair, operand_pair, global_pair}
use Rattle.wasm2js_laws_places.specs.Straight.{Words}

-- ---- words of a place

-- a variable of a function; the others are the module's
abbrev pub is_own : Name → Bool
is_own (numbered local_low n) = true
is_own (numbered local_high n) = true
is_own (numbered operand_low n) = true
is_own (numbered operand_high n) = true
is_own n = false

abbrev pub variables : Bool → Place → List Binding
variables true p = p.locals
variables false p = p.globals

abbrev pub word_bound : Option JsValue → ℕ
word_bound None = 0
word_bound (Some v) = to_uint32_of v

-- the word of what a variable is bound to; 0 where it isn't bound
abbrev pub word_at : Place → Words
word_at p n = word_bound (value_in (variables (is_own n) p) (spelled n))

abbrev pub names_in : List Binding → List (List ℕ)
names_in bs = map (λ (b : Binding). b.name) bs

-- no variable of a function is among the module's, nor one of the module among the function's
abbrev pub AreApart : Place → Type 0
AreApart p = (n : Name) → is_in (spelled n) (names_in (if is_own n then p.globals else p.locals)) ≡ false

-- ---- values of WebAssembly

abbrev pub value_at : ValType → Pair → Words → Word
value_at I32 x words = W32 (words x.low)
value_at I64 x words = W64 (words x.low + 2 ^ 32 * words x.high)

-- the operands of these types, the topmost first, with so many below them
abbrev pub operands : ℕ → List ValType → Words → List Word
operands b [] words = []
operands b (t ∷ ts) words = value_at t (operand_pair (b + length ts)) words ∷ operands b ts words

-- from number x on
abbrev pub locals_from : ℕ → List ValType → Words → List Word
locals_from x [] words = []
locals_from x (t ∷ ts) words = value_at t (local_pair x) words ∷ locals_from (suc x) ts words

abbrev pub locals_of : List ValType → Words → List Word
locals_of ts words = locals_from 0 ts words

abbrev pub globals_from : ℕ → List ValType → Words → List Word
globals_from g [] words = []
globals_from g (t ∷ ts) words = value_at t (global_pair g) words ∷ globals_from (suc g) ts words

abbrev pub globals_of : List ValType → Words → List Word
globals_of ts words = globals_from 0 ts words

-- ---- the store

-- what stays the same while code runs
pub record Setting : Type 0 where
  -- the memory has so many bytes, and past it the heap has these
  pub bytes : ℕ
  pub past : List ℕ
  -- the types of the globals, the table, and the names of the variables of the module
  pub kinds : List ValType
  pub table : List (Option ℕ)
  pub names : List (List ℕ)

-- of these words, heap, replies and events, which are those of WebAssembly
abbrev pub store_with : Setting → Words → (heap : List ℕ) → Replies → List EventPlain → Store
store_with s words heap replies events =
    record { memory = take s.bytes heap; globals = globals_of s.kinds words; table = s.table; events = events; replies = replies }

abbrev pub store_of : Setting → Place → List EventPlain → Store
store_of s p events = store_with s (word_at p) p.heap p.replies events

-- a memory of so many bytes lies in the heap
pub record IsHeap (bytes : ℕ) (heap : List ℕ) : Type 0 where
  pub are_bytes : IsBytes heap
  pub holds : bytes ≤ length heap
  pub small : length heap ≤ 2 ^ 28

-- what imports write lies in the memory
abbrev pub IsWritable : ℕ → WritePlain → Type 0
IsWritable bytes w = (w.at + length w.bytes ≤ bytes) × IsBytes w.bytes

abbrev pub IsReply : ℕ → ReplyPlain → Type 0
IsReply bytes (give word writes) = AllByRecursion (IsWritable bytes) writes
IsReply bytes throw = Unit {0}

-- the place stands for a store with these events, by how events match
pub record World (s : Setting) (Match : List EventPlain → List EventPlain → Type 0) (events : List EventPlain) (p : Place) : Type 0 where
  pub match : Match events p.events
  pub names : names_in p.globals ≡ s.names
  pub is_heap : IsHeap s.bytes p.heap
  pub past : drop s.bytes p.heap ≡ s.past
  pub replies : AllByRecursion (IsReply s.bytes) p.replies.left

-- the operands below so many are the same
pub record Stays (b : ℕ) (before after : Words) : Type 0 where
  pub low : (d : ℕ) → d < b → after (numbered operand_low d) ≡ before (numbered operand_low d)
  pub high : (d : ℕ) → d < b → after (numbered operand_high d) ≡ before (numbered operand_high d)
