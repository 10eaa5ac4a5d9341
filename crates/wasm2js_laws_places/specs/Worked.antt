-- Straight code that is worked out: sums of two words, loads from a memory of eight bytes, and words that wait.
use Rattle.std.specs.Prelude.{ℕ, false, List, [], ◌∷◌, ◌++◌, None}
use Rattle.wasm_lang.specs.declared.types.MemOp.{MemOp}
use Rattle.wasm2js_translation.specs.Names.{Name, numbered, local_low, operand_low, operand_high}
use Rattle.wasm2js_translation.specs.Words.{Term, read, byte, Simple, put, Action, simply, either}
use Rattle.wasm2js_translation.specs.Pairs.{literal, plus, operand_pair, simples}
use Rattle.wasm2js_translation.specs.Wide.{wide_sum}
use Rattle.wasm2js_translation.specs.Actions.{load_code}
use Rattle.wasm2js_translation.specs.Delays.{written, Late, late}
use Rattle.wasm2js_laws_places.specs.Straight.{Words, with_word, gives, Helping, Outcome, goes, stops, run_actions}

-- each helper gives 77, for three units
abbrev pub any_help : Helping
any_help = record { answer = λ f words heap. gives 77 None heap; cost = λ f words. 3 }

-- those of two operands, each the low word first
abbrev pub words_of : (a_low a_high b_low b_high : ℕ) → Words
words_of a_low a_high b_low b_high =
    with_word (numbered operand_low 0) a_low
    (with_word (numbered operand_high 0) a_high (with_word (numbered operand_low 1) b_low (with_word (numbered operand_high 1) b_high (λ n. 0))))

-- likewise, of what code leaves
abbrev pub seen_words : Outcome → List ℕ
seen_words (goes words heap) = words (numbered operand_low 0) ∷ words (numbered operand_high 0) ∷ words (numbered operand_low 1) ∷ words (numbered operand_high 1) ∷ []
seen_words (stops kind heap) = []

abbrev pub added_up : (a_low a_high b_low b_high : ℕ) → Outcome
added_up a_low a_high b_low b_high = run_actions any_help (simples (wide_sum (operand_pair 0) (operand_pair 1) (operand_pair 0))) (words_of a_low a_high b_low b_high) []

abbrev pub a_heap : List ℕ
a_heap = 1 ∷ 2 ∷ 3 ∷ 4 ∷ 5 ∷ 6 ∷ 7 ∷ 8 ∷ []

abbrev pub four_bytes : MemOp
four_bytes = record { wide = false; size = 4; signed = false }

abbrev pub loaded_at : ℕ → Outcome
loaded_at a = run_actions any_help (load_code 8 four_bytes 0 (operand_pair 0)) (words_of a 0 0 0) a_heap

-- ---- words that wait

-- a local's variable, and those of the low words of two operands
abbrev pub a_local : Name
a_local = numbered local_low 0

abbrev pub first_operand : Name
first_operand = numbered operand_low 0

abbrev pub second_operand : Name
second_operand = numbered operand_low 1

-- an operand that is read after the local that it took its word from has changed
abbrev pub changed_and_read : List Simple
changed_and_read = put a_local (literal 5) ∷ put second_operand (read first_operand) ∷ []

abbrev pub local_to_operand : Simple
local_to_operand = put first_operand (read a_local)

-- what is written at once, and then all that waits
abbrev pub all_written : Late → List Action
all_written l = l.now ++ simples (written l.later)

abbrev pub changed_later : List Action
changed_later = all_written (late [] (simples (local_to_operand ∷ changed_and_read)))

-- likewise where the local changes in an arm
abbrev pub changed_in_an_arm : List Action
changed_in_an_arm = all_written (late [] (simply local_to_operand ∷ either (read second_operand) changed_and_read [] ∷ []))

-- of what is read at an address, nothing is written before it
abbrev pub byte_at_a_constant : List Action
byte_at_a_constant = all_written (late [] (simples (put first_operand (literal 4) ∷ put first_operand (byte false (read first_operand)) ∷ [])))

-- the local's word and one more
abbrev pub one_more : Term
one_more = plus (read a_local) (literal 1)

-- an operand that has it, and these statements
abbrev pub one_more_and : List Simple → List Action
one_more_and ss = all_written (late [] (simples (put second_operand one_more ∷ ss)))
