-- The machine that runs flat code, one operation a step. An address is how many operations stand from there to the function's end.
use Rattle.std.specs.Prelude.{◌≡◌, ℕ, zero, suc, ◌+◌, ◌-◌, nat_le, nat_lt, ◌==◌, List, [], ◌∷◌, ◌++◌, length, Option, Some, None, ℤ, pos, slice_get, option_and_then, if◌then◌else◌}
use Rattle.sem_words.specs.declared.word.Word.{Word}
use Rattle.sem_words.specs.declared.word.Word.TheVariants.{W32}
use Rattle.sem_words.specs.Words.{word_of, sub_of, leading_zeros_of}
use Rattle.heap_lang.specs.Heap.{load, store}
use Rattle.session_lang.specs.Imports.{Replies, ImportAnswer, goes_on, ends, answer_import, low_word}
use Rattle.session_lang.specs.Observation.{EventPlain, EndPlain}
use Rattle.asm_lang_exec.specs.Values.{with_writes}
use Rattle.asm_run_code.specs.declared.op.Op.{Op}
use Rattle.asm_run_code.specs.declared.op.Op.TheVariants.{Number, Copy, ReadGlobal, WriteGlobal, Apply, ApplyNumber, Negate, Complement, Zeros, ReadElement, WriteElement, Go, Unless, Case, Choose, Turn, Again, Call, CallEntry, CallImport, Give}
use Rattle.asm_run_code.specs.Operators.{word_op}
use Rattle.asm_run_code.specs.Slots.{get, put, put_all}

-- ---- code and state

-- a function: how many parameters, the first words of the locals behind them, and the code as it is stored, the last operation first
pub record Flat : Type 0 where
  pub params : ℕ
  pub firsts : List ℕ
  pub code : List Op

-- with the numbers of the functions in each table, and the names of the foreign members by their declarations
pub record Codes : Type 0 where
  pub functions : List Flat
  pub tables : List (List ℕ)
  pub members : List (List ℕ)

-- where a function goes on once the one that it called has ended
pub record Caller : Type 0 where
  pub function : ℕ
  pub at : ℕ
  pub base : ℕ

-- the function that runs, the address of its next operation, and the word at which its slots begin
pub record State : Type 0 where
  pub function : ℕ
  pub at : ℕ
  pub base : ℕ
  pub words : List ℕ
  pub callers : List Caller
  pub globals : List ℕ
  pub heap : List ℕ
  pub replies : Replies
  pub events : List EventPlain
  pub units : ℕ

-- what a state comes to: another one, the end of the host's call with a word, the end of the session, a unit that isn't there, or
-- nothing, where there is no operation or a jump doesn't go forward
pub data Came : Type 0 where
  going : State → Came
  back : ℕ → State → Came
  halts : EndPlain → State → Came
  unpaid : State → Came
  lost : Came

-- ---- slots, addresses and units

abbrev pub slot : State → ℕ → ℕ
slot s a = get s.words (s.base + a)

abbrev pub with_slot : State → (to word : ℕ) → State
with_slot s to word = record s { words = put s.words (s.base + to) word }

abbrev pub writes : State → (to word : ℕ) → Came
writes s to word = going (with_slot s to word)

abbrev pub jumps : State → (to : ℕ) → Came
jumps s to = if nat_le to s.at then going (record s { at = to }) else lost

abbrev pub paid : ℕ → State → (State → Came) → Came
paid zero s next = unpaid s
paid (suc n) s next = next (record s { units = n })

abbrev pub pays : State → (State → Came) → Came
pays s next = paid s.units s next

-- ---- elements

abbrev pub element_word : Option ℤ → ℕ
element_word None = 0
element_word (Some z) = word_of 32 z

-- ---- calls and returns

-- at the beginning of a function whose parameters stand from the base on
abbrev pub enters : Option Flat → (function base : ℕ) → List Caller → State → Came
enters None function base callers s = lost
enters (Some f) function base callers s =
    going (record s { function = function; at = length f.code; base = base; words = put_all s.words (base + f.params) f.firsts; callers = callers })

abbrev pub calls : Codes → (function first : ℕ) → State → Came
calls c function first s =
    pays s (λ t. enters (slice_get c.functions function) function (t.base + first) (record { function = t.function; at = t.at; base = t.base } ∷ t.callers) t)

abbrev pub calls_entry : Codes → Option ℕ → (first : ℕ) → State → Came
calls_entry c None first s = lost
calls_entry c (Some function) first s = calls c function first s

-- so many words from a slot on
abbrev pub words_from : List ℕ → (at count : ℕ) → List Word
words_from ws at zero = []
words_from ws at (suc n) = W32 (get ws at) ∷ words_from ws (suc at) n

abbrev pub answers : ImportAnswer → (to : ℕ) → State → Came
answers (ends e) to s = halts e s
answers (goes_on g) to s =
    going (record s { words = put s.words (s.base + to) (low_word g.word); heap = with_writes g.writes s.heap; replies = g.replies; events = s.events ++ g.events })

abbrev pub calls_import : Option (List ℕ) → (count first : ℕ) → State → Came
calls_import None count first s = lost
calls_import (Some name) count first s = answers (answer_import name (words_from s.words (s.base + first) count) s.replies) first s

-- what a function gives stands in its slot 0, which is the slot from which its arguments were passed
abbrev pub gives_back : List Caller → (word : ℕ) → State → Came
gives_back [] word s = back word s
gives_back (k ∷ ks) word s = going (record s { function = k.function; at = k.at; base = k.base; words = put s.words s.base word; callers = ks })

-- ---- steps

abbrev pub lesser : ℕ → ℕ → ℕ
lesser a b = if nat_lt a b then a else b

-- an operation, where the state stands behind it
abbrev pub does : Codes → Op → State → Came
does c (Number to word) s = writes s to word
does c (Copy to a) s = writes s to (slot s a)
does c (ReadGlobal to g) s = writes s to (get s.globals g)
does c (WriteGlobal g a) s = going (record s { globals = put s.globals g (slot s a) })
does c (Apply op to a b) s = writes s to (word_op op (slot s a) (slot s b))
does c (ApplyNumber op to a n) s = writes s to (word_op op (slot s a) n)
does c (Negate to a) s = writes s to (sub_of 32 0 (slot s a))
does c (Complement to a) s = writes s to (sub_of 32 4294967295 (slot s a))
does c (Zeros to a) s = writes s to (leading_zeros_of 32 (slot s a))
does c (ReadElement kind to a) s = writes s to (element_word (load kind (pos (slot s a)) s.heap))
does c (WriteElement kind a b) s = going (record s { heap = store kind (pos (slot s a)) (slot s b) s.heap })
does c (Go to) s = jumps s to
does c (Unless a to) s = if slot s a == 0 then jumps s to else going s
does c (Case a n to) s = if slot s a == n then jumps s to else going s
does c (Choose a low count) s = going (record s { at = s.at - lesser (sub_of 32 (slot s a) low) count })
does c (Turn to) s = pays s (λ t. writes t to t.at)
does c (Again a) s = pays s (λ t. going (record t { at = slot t a }))
does c (Call function d) s = calls c function d s
does c (CallEntry t a d) s = calls_entry c (option_and_then (λ ns. slice_get ns (slot s a)) (slice_get c.tables t)) d s
does c (CallImport member count d) s = calls_import (slice_get c.members member) count d s
does c (Give a) s = gives_back s.callers (slot s a) s

abbrev pub does_one : Codes → Option Op → State → Came
does_one c None s = lost
does_one c (Some op) s = does c op s

abbrev pub step_in : Codes → Option Flat → (at : ℕ) → State → Came
step_in c None at s = lost
step_in c (Some f) zero s = lost
step_in c (Some f) (suc k) s = does_one c (slice_get f.code k) (record s { at = k })

unfoldable pub step : Codes → State → Came
step c s = step_in c (slice_get c.functions s.function) s.at s

abbrev pub and_on : (State → Came) → Came → Came
and_on next (going s) = next s
and_on next (back w s) = back w s
and_on next (halts e s) = halts e s
and_on next (unpaid s) = unpaid s
and_on next lost = lost

-- at most so many steps
unfoldable pub followed : ℕ → Codes → State → Came
followed zero c s = going s
followed (suc k) c s = and_on (followed k c) (step c s)

abbrev pub Leads : Codes → State → Came → Type 0
Leads c s r = (k : ℕ) × (followed k c s ≡ r)
