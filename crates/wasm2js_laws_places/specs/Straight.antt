-- What straight code does to words and to the heap, without asm.js: a number for each term, and for each action what it leaves or its trap.
use Rattle.std.specs.Prelude.{◌≡◌, ℕ, ◌+◌, ◌-◌, ◌^◌, Bool, true, false, nat_lt, if◌then◌else◌, ◌==◌, ℤ, bit_and, bit_or, bit_xor, List, [], ◌∷◌, map, Option, Some, None}
use Rattle.std.specs.Int.{int_shr}
use Rattle.sem_words.specs.declared.word.Rel.{Rel}
use Rattle.sem_words.specs.declared.word.Rel.TheVariants.{Eq, Ne, LtS, LtU, LeS, LeU, GtS, GtU, GeS, GeU}
use Rattle.sem_words.specs.Words.{word_of, signed_of, add_of, sub_of, mul_of, shl_of, shr_s_of, shr_u_of, leading_zeros_of, rel_of}
use Rattle.heap_lang.specs.declared.kind.ViewKind.{ViewKind}
use Rattle.heap_lang.specs.declared.kind.ViewKind.TheVariants.{I8, U8, I32}
use Rattle.heap_lang.specs.Heap.{load, store}
use Rattle.wasm2js_translation.specs.Names.{Fixed, Name, fixed, same_name, spare_high, data_words, data_zeros, init, last_high}
use Rattle.wasm2js_translation.specs.Words.{BitOp, conjunction, disjunction, exclusion, shift_left, shift_right_signed, shift_right, Relation, equal, unequal, less, at_most, greater, at_least, Term, read, number, both, flip, sum, product, zeros, compare, choose, byte, whole, Summands, no_more, further, Simple, put, ask, tell, guard, stop, write_byte, write_whole, Action, simply, either}

-- ---- words of variables

-- the word of each variable
abbrev pub Words : Type 0
Words = Name → ℕ

abbrev pub with_word : Name → ℕ → Words → Words
with_word n x words m = if same_name n m then x else words m

-- ---- terms, modulo 2 ^ 32

abbrev pub bits_of : BitOp → ℕ → ℕ → ℕ
bits_of conjunction a b = bit_and a b
bits_of disjunction a b = bit_or a b
bits_of exclusion a b = bit_xor a b
bits_of shift_left a b = shl_of 32 a b
bits_of shift_right_signed a b = shr_s_of 32 a b
bits_of shift_right a b = shr_u_of 32 a b

abbrev pub relation_of : (signed : Bool) → Relation → Rel
relation_of signed equal = Eq
relation_of signed unequal = Ne
relation_of true less = LtS
relation_of false less = LtU
relation_of true at_most = LeS
relation_of false at_most = LeU
relation_of true greater = GtS
relation_of false greater = GtU
relation_of true at_least = GeS
relation_of false at_least = GeU

abbrev pub truth : Bool → ℕ
truth true = 1
truth false = 0

abbrev pub byte_kind : (signed : Bool) → ViewKind
byte_kind true = I8
byte_kind false = U8

-- the index of the element at a place, where elements have 2 ^ k bytes
abbrev pub index_at : (k at : ℕ) → ℤ
index_at k at = int_shr (signed_of 32 at) k

-- an element that isn't in the heap counts as 0
abbrev pub element_word : Option ℤ → ℕ
element_word None = 0
element_word (Some z) = word_of 32 z

abbrev pub added : (minus : Bool) → ℕ → ℕ → ℕ
added true a b = sub_of 32 a b
added false a b = add_of 32 a b

abbrev mutual
  pub value : Term → Words → (heap : List ℕ) → ℕ
  value (read n) words heap = words n
  value (number z) words heap = word_of 32 z
  value (both op a b) words heap = bits_of op (value a words heap) (value b words heap)
  value (flip a) words heap = 2 ^ 32 - 1 - value a words heap
  value (sum a ts) words heap = summed ts (value a words heap) words heap
  value (product a b) words heap = mul_of 32 (value a words heap) (value b words heap)
  value (zeros a) words heap = leading_zeros_of 32 (value a words heap)
  value (compare signed r a b) words heap = truth (rel_of 32 (relation_of signed r) (value a words heap) (value b words heap))
  value (choose t a b) words heap = if value t words heap == 0 then value b words heap else value a words heap
  value (byte signed at) words heap = element_word (load (byte_kind signed) (index_at 0 (value at words heap)) heap)
  value (whole at) words heap = element_word (load I32 (index_at 2 (value at words heap)) heap)

  -- with what was summed before
  pub summed : Summands → ℕ → Words → (heap : List ℕ) → ℕ
  summed no_more x words heap = x
  summed (further minus t ts) x words heap = summed ts (added minus x (value t words heap)) words heap

abbrev pub values : List Term → Words → (heap : List ℕ) → List ℕ
values ts words heap = map (λ t. value t words heap) ts

-- ---- helpers

-- what straight code may call: not what writes data segments, nor the two functions that are there for the host
abbrev pub is_helper : Fixed → Bool
is_helper data_words = false
is_helper data_zeros = false
is_helper init = false
is_helper last_high = false
is_helper f = true

abbrev pub AsksHelpers : Simple → Type 0
AsksHelpers (ask n f ts) = is_helper f ≡ true
AsksHelpers (tell f ts) = is_helper f ≡ true
AsksHelpers s = Unit {0}

abbrev pub AskHelpers : List Simple → Type 0
AskHelpers [] = Unit {0}
AskHelpers (s ∷ ss) = AsksHelpers s × AskHelpers ss

abbrev pub ActionAsks : Action → Type 0
ActionAsks (simply s) = AsksHelpers s
ActionAsks (either t first second) = AskHelpers first × AskHelpers second

abbrev pub ActionsAsk : List Action → Type 0
ActionsAsk [] = Unit {0}
ActionsAsk (a ∷ others) = ActionAsks a × ActionsAsk others

-- what a helper gives: a word, the high word that it leaves in `$q` if it leaves one, and the heap; or a trap of this number
pub data Answer : Type 0 where
  gives : (word : ℕ) → (high : Option ℕ) → (heap : List ℕ) → Answer
  traps : (kind : ℕ) → Answer

-- what each helper does with its arguments and the heap, and how many units it takes; one without a result gives the word 0
pub record Helping : Type 0 where
  pub answer : Fixed → List ℕ → (heap : List ℕ) → Answer
  pub cost : Fixed → List ℕ → ℕ

abbrev pub with_high : Option ℕ → Words → Words
with_high None words = words
with_high (Some x) words = with_word (fixed spare_high) x words

-- ---- actions

-- words and heap after straight code; or its trap, by number, with the heap at it
pub data Outcome : Type 0 where
  goes : Words → (heap : List ℕ) → Outcome
  stops : (kind : ℕ) → (heap : List ℕ) → Outcome

abbrev pub asked : Name → Answer → Words → (heap : List ℕ) → Outcome
asked n (gives word high heap') words heap = goes (with_word n word (with_high high words)) heap'
asked n (traps kind) words heap = stops kind heap

abbrev pub told : Answer → Words → (heap : List ℕ) → Outcome
told (gives word high heap') words heap = goes (with_high high words) heap'
told (traps kind) words heap = stops kind heap

abbrev pub then_do : Outcome → (Words → List ℕ → Outcome) → Outcome
then_do (goes words heap) next = next words heap
then_do (stops kind heap) next = stops kind heap

-- the units of what comes after it
abbrev pub units_after : Outcome → (Words → List ℕ → ℕ) → ℕ
units_after (goes words heap) next = next words heap
units_after (stops kind heap) next = 0

module _ (helping : Helping) where
  abbrev pub run_simple : Simple → Words → (heap : List ℕ) → Outcome
  run_simple (put n t) words heap = goes (with_word n (value t words heap) words) heap
  run_simple (ask n f ts) words heap = asked n (helping.answer f (values ts words heap) heap) words heap
  run_simple (tell f ts) words heap = told (helping.answer f (values ts words heap) heap) words heap
  run_simple (guard t most kind) words heap = if nat_lt most (value t words heap) then stops kind heap else goes words heap
  run_simple (stop kind) words heap = stops kind heap
  run_simple (write_byte at t) words heap = goes words (store U8 (index_at 0 (value at words heap)) (value t words heap) heap)
  run_simple (write_whole at t) words heap = goes words (store I32 (index_at 2 (value at words heap)) (value t words heap) heap)

  abbrev pub run_simples : List Simple → Words → (heap : List ℕ) → Outcome
  run_simples [] words heap = goes words heap
  run_simples (s ∷ ss) words heap = then_do (run_simple s words heap) (run_simples ss)

  abbrev pub run_action : Action → Words → (heap : List ℕ) → Outcome
  run_action (simply s) words heap = run_simple s words heap
  run_action (either t first second) words heap = if value t words heap == 0 then run_simples second words heap else run_simples first words heap

  abbrev pub run_actions : List Action → Words → (heap : List ℕ) → Outcome
  run_actions [] words heap = goes words heap
  run_actions (a ∷ others) words heap = then_do (run_action a words heap) (run_actions others)

  -- ---- units: only helpers take any

  abbrev pub simple_units : Simple → Words → (heap : List ℕ) → ℕ
  simple_units (ask n f ts) words heap = helping.cost f (values ts words heap)
  simple_units (tell f ts) words heap = helping.cost f (values ts words heap)
  simple_units s words heap = 0

  abbrev pub simples_units : List Simple → Words → (heap : List ℕ) → ℕ
  simples_units [] words heap = 0
  simples_units (s ∷ ss) words heap = simple_units s words heap + units_after (run_simple s words heap) (simples_units ss)

  abbrev pub action_units : Action → Words → (heap : List ℕ) → ℕ
  action_units (simply s) words heap = simple_units s words heap
  action_units (either t first second) words heap = if value t words heap == 0 then simples_units second words heap else simples_units first words heap

  abbrev pub actions_units : List Action → Words → (heap : List ℕ) → ℕ
  actions_units [] words heap = 0
  actions_units (a ∷ others) words heap = action_units a words heap + units_after (run_action a words heap) (actions_units others)
