-- The code of the instructions that compute, and read and write locals, globals and the memory. The operand above d others stands in the
-- variables of number d; what an instruction gives stands where the deepest operand that it takes stood.
use Rattle.std.specs.Prelude.{ℕ, ◌+◌, ◌-◌, ◌/◌, ◌%◌, Bool, true, false, ◌&&◌, nat_le, nat_lt, List, [], ◌∷◌, ◌++◌, length, drop, Option, Some, None, slice_get, ◌==◌, if◌then◌else◌}
use Rattle.sem_words.specs.declared.word.Bin.{Bin}
use Rattle.sem_words.specs.declared.word.Bin.TheVariants as bins
use Rattle.sem_words.specs.declared.word.Un.{Un}
use Rattle.sem_words.specs.declared.word.Un.TheVariants as uns
use Rattle.sem_words.specs.declared.word.Rel.{Rel}
use Rattle.sem_words.specs.declared.word.Rel.TheVariants as rels
use Rattle.sem_words.specs.Words.{signed_of}
use Rattle.session_lang.specs.Imports.{low_word, high_word}
use Rattle.wasm_lang.specs.declared.types.ValType.{ValType}
use Rattle.wasm_lang.specs.declared.types.ValType.TheVariants.{I32, I64}
use Rattle.wasm_lang.specs.declared.types.GlobalType.{GlobalType}
use Rattle.wasm_lang.specs.declared.types.MemOp.{MemOp}
use Rattle.wasm_lang.specs.Instructions.{Plain, nop, drop_operand, select, local_get, local_set, local_tee, global_get, global_set, load, store, memory_size, memory_copy, memory_fill, const32, const64, eqz32, eqz64, rel32, rel64, un32, un64, bin32, bin64, wrap, extend_s, extend_u, sign_extend}
use Rattle.wasm_lang_valid.specs.Typing.{Context}
use Rattle.wasm_lang_exec.specs.Store.{page}
use Rattle.wasm2js_translation.specs.Names as names
use Rattle.wasm2js_translation.specs.Names.{Name, fixed, spare_high}
use Rattle.wasm2js_translation.specs.Words.{conjunction, disjunction, exclusion, shift_left, shift_right_signed, shift_right, equal, unequal, less, at_most, greater, at_least, Term, read, number, both, flip, product, zeros, compare, choose, byte, whole, Simple, put, ask, tell, guard, stop, write_byte, write_whole, Action, simply, either}
use Rattle.wasm2js_translation.specs.Pairs.{Pair, local_pair, operand_pair, global_pair, literal, plus, minus, sign_of, funnel_left, funnel_right, extended, simples, moved}
use Rattle.wasm2js_translation.specs.Wide.{wide_binary, wide_binary_at, wide_unary, wide_extend, wide_compare, is_wide_zero}
use Rattle.wasm2js_translation.specs.Delays.{Delayed, number_at}

-- how many operands of the function lie below the k topmost ones of a block's, where so many lie below the block's
abbrev pub under : (k b : ℕ) → List ValType → ℕ
under k b ts = b + length (drop k ts)

-- ---- words of 32 bits, where the operands stand in a and b, and the result in a

abbrev pub narrow_binary : Bin → (a b : Name) → List Simple
narrow_binary bins.Add a b = put a (plus (read a) (read b)) ∷ []
narrow_binary bins.Sub a b = put a (minus (read a) (read b)) ∷ []
narrow_binary bins.Mul a b = put a (product (read a) (read b)) ∷ []
narrow_binary bins.DivS a b = ask a names.divide_signed (read a ∷ read b ∷ []) ∷ []
narrow_binary bins.DivU a b = ask a names.divide (read a ∷ read b ∷ []) ∷ []
narrow_binary bins.RemS a b = ask a names.remainder_signed (read a ∷ read b ∷ []) ∷ []
narrow_binary bins.RemU a b = ask a names.remainder (read a ∷ read b ∷ []) ∷ []
narrow_binary bins.And a b = put a (both conjunction (read a) (read b)) ∷ []
narrow_binary bins.Or a b = put a (both disjunction (read a) (read b)) ∷ []
narrow_binary bins.Xor a b = put a (both exclusion (read a) (read b)) ∷ []
narrow_binary bins.Shl a b = put a (both shift_left (read a) (read b)) ∷ []
narrow_binary bins.ShrS a b = put a (both shift_right_signed (read a) (read b)) ∷ []
narrow_binary bins.ShrU a b = put a (both shift_right (read a) (read b)) ∷ []
narrow_binary bins.Rotl a b = put a (funnel_left (read a) (read a) (read b)) ∷ []
narrow_binary bins.Rotr a b = put a (funnel_right (read a) (read a) (read b)) ∷ []

-- the bits below the lowest one that is set, and no others
abbrev pub low_ones : Term → Term
low_ones a = both conjunction (flip a) (minus a (literal 1))

abbrev pub narrow_unary : Un → Name → List Simple
narrow_unary uns.Clz a = put a (zeros (read a)) ∷ []
narrow_unary uns.Ctz a = put a (minus (literal 32) (zeros (low_ones (read a)))) ∷ []
narrow_unary uns.Popcnt a = ask a names.set_bits (read a ∷ []) ∷ []

abbrev pub narrow_relation : Rel → (a b : Term) → Term
narrow_relation rels.Eq a b = compare true equal a b
narrow_relation rels.Ne a b = compare true unequal a b
narrow_relation rels.LtS a b = compare true less a b
narrow_relation rels.LtU a b = compare false less a b
narrow_relation rels.GtS a b = compare true greater a b
narrow_relation rels.GtU a b = compare false greater a b
narrow_relation rels.LeS a b = compare true at_most a b
narrow_relation rels.LeU a b = compare false at_most a b
narrow_relation rels.GeS a b = compare true at_least a b
narrow_relation rels.GeU a b = compare false at_least a b

-- ---- select, where the choice stands in c

abbrev pub selected : Option ValType → (a b : Pair) → (c : Name) → List Simple
selected None a b c = []
selected (Some I32) a b c = put a.low (choose (read c) (read a.low) (read b.low)) ∷ []
selected (Some I64) a b c = put a.low (choose (read c) (read a.low) (read b.low)) ∷ put a.high (choose (read c) (read a.high) (read b.high)) ∷ []

-- ---- variables

abbrev pub moved_if : Option ValType → (from to : Pair) → List Simple
moved_if None from to = []
moved_if (Some t) from to = moved t from to

abbrev pub kind_in : Option GlobalType → Option ValType
kind_in None = None
kind_in (Some g) = Some g.kind

-- ---- memory

-- the place so many bytes past the address
abbrev pub place : Name → (offset : ℕ) → Term
place a offset = if offset == 0 then read a else plus (read a) (literal offset)

-- a test that an access to so many bytes stays in the memory, which takes all its bytes together; then the access
abbrev pub guarded : (bytes size offset : ℕ) → Name → List Action → List Action
guarded bytes size offset a access =
    if nat_le (size + offset) bytes then simply (guard (read a) (bytes - (size + offset)) 2) ∷ access else simply (stop 2) ∷ []

-- words are read and written whole where their place is a multiple of four, and else by a helper; what the offset has of fours doesn't count
abbrev pub by_place : Name → (offset : ℕ) → (apart together : List Simple) → List Action
by_place a offset apart together = either (both conjunction (place a (offset % 4)) (literal 3)) apart together ∷ []

-- the number of two bytes, of which the upper one has the sign
abbrev pub half : Bool → Name → (offset : ℕ) → Term
half signed a offset = plus (byte false (place a offset)) (both shift_left (byte signed (place a (offset + 1))) (literal 8))

-- of the address in p.low
abbrev pub load_word : MemOp → (offset : ℕ) → Pair → List Action
load_word op offset p =
    if op.size == 1 then simples (put p.low (byte op.signed (place p.low offset)) ∷ [])
    else (if op.size == 2 then simples (put p.low (half op.signed p.low offset) ∷ [])
    else (if op.size == 4 then
    by_place p.low offset
    (ask p.low names.load_32 (place p.low offset ∷ []) ∷ [])
    (put p.low (whole (place p.low offset)) ∷ [])
    else
    by_place p.low offset
    (ask p.low names.load_64 (place p.low offset ∷ []) ∷ put p.high (read (fixed spare_high)) ∷ [])
    (put p.high (whole (place p.low (offset + 4))) ∷ put p.low (whole (place p.low offset)) ∷ [])))

-- the high word, where fewer bytes than eight were loaded as a word of 64 bits
abbrev pub load_high : MemOp → Pair → List Action
load_high op p =
    if op.wide && nat_lt op.size 8 then simples (put p.high (if op.signed then sign_of (read p.low) else literal 0) ∷ []) else []

abbrev pub load_code : (bytes : ℕ) → MemOp → (offset : ℕ) → Pair → List Action
load_code bytes op offset p = guarded bytes op.size offset p.low (load_word op offset p ++ load_high op p)

-- to the address in a, of the value in v
abbrev pub store_word : MemOp → (offset : ℕ) → (a : Name) → (v : Pair) → List Action
store_word op offset a v =
    if op.size == 1 then simples (write_byte (place a offset) (read v.low) ∷ [])
    else (if op.size == 2 then
    simples (write_byte (place a offset) (read v.low) ∷ write_byte (place a (offset + 1)) (both shift_right (read v.low) (literal 8)) ∷ [])
    else (if op.size == 4 then
    by_place a offset
    (tell names.store_32 (place a offset ∷ read v.low ∷ []) ∷ [])
    (write_whole (place a offset) (read v.low) ∷ [])
    else
    by_place a offset
    (tell names.store_64 (place a offset ∷ read v.low ∷ read v.high ∷ []) ∷ [])
    (write_whole (place a offset) (read v.low) ∷ write_whole (place a (offset + 4)) (read v.high) ∷ [])))

abbrev pub store_code : (bytes : ℕ) → MemOp → (offset : ℕ) → (a : Name) → (v : Pair) → List Action
store_code bytes op offset a v = guarded bytes op.size offset a (store_word op offset a v)

-- ---- each instruction: the memory has so many bytes; so many operands lie below those of the block, whose types are these, the top first

abbrev pub low : ℕ → Name
low d = (operand_pair d).low

abbrev pub three : ℕ → List Term
three d = read (low d) ∷ read (low (d + 1)) ∷ read (low (d + 2)) ∷ []

abbrev pub sign_extended : Bool → (bits : ℕ) → Pair → List Simple
sign_extended false bits a = put a.low (extended bits (read a.low)) ∷ []
sign_extended true bits a = if bits == 32 then put a.high (sign_of (read a.low)) ∷ [] else wide_extend bits a a

module _ (bytes : ℕ) (c : Context) where
  abbrev pub actions : Plain → (b : ℕ) → List ValType → List Action
  actions nop b ts = []
  actions drop_operand b ts = []
  actions select b ts =
      let d = under 3 b ts in simples (selected (slice_get ts 1) (operand_pair d) (operand_pair (d + 1)) (low (d + 2)))
  actions (local_get x) b ts = simples (moved_if (slice_get c.locals x) (local_pair x) (operand_pair (under 0 b ts)))
  actions (local_set x) b ts = simples (moved_if (slice_get c.locals x) (operand_pair (under 1 b ts)) (local_pair x))
  actions (local_tee x) b ts = simples (moved_if (slice_get c.locals x) (operand_pair (under 1 b ts)) (local_pair x))
  actions (global_get x) b ts = simples (moved_if (kind_in (slice_get c.globals x)) (global_pair x) (operand_pair (under 0 b ts)))
  actions (global_set x) b ts = simples (moved_if (kind_in (slice_get c.globals x)) (operand_pair (under 1 b ts)) (global_pair x))
  actions (load op align offset) b ts = load_code bytes op offset (operand_pair (under 1 b ts))
  actions (store op align offset) b ts = let d = under 2 b ts in store_code bytes op offset (low d) (operand_pair (d + 1))
  actions memory_size b ts = simples (put (low (under 0 b ts)) (literal (bytes / page)) ∷ [])
  actions memory_copy b ts = simples (tell names.copy (three (under 3 b ts)) ∷ [])
  actions memory_fill b ts = simples (tell names.fill (three (under 3 b ts)) ∷ [])
  actions (const32 n) b ts = simples (put (low (under 0 b ts)) (number (signed_of 32 n)) ∷ [])
  actions (const64 n) b ts =
      let a = operand_pair (under 0 b ts) in
      simples (put a.low (number (signed_of 32 (low_word n))) ∷ put a.high (number (signed_of 32 (high_word n))) ∷ [])
  actions eqz32 b ts = let a = low (under 1 b ts) in simples (put a (compare true equal (read a) (literal 0)) ∷ [])
  actions eqz64 b ts = let a = operand_pair (under 1 b ts) in simples (put a.low (is_wide_zero a) ∷ [])
  actions (rel32 op) b ts = let d = under 2 b ts in simples (put (low d) (narrow_relation op (read (low d)) (read (low (d + 1)))) ∷ [])
  actions (rel64 op) b ts = let d = under 2 b ts in simples (wide_compare op (operand_pair d) (operand_pair (d + 1)) (low d))
  actions (un32 op) b ts = simples (narrow_unary op (low (under 1 b ts)))
  actions (un64 op) b ts = let a = operand_pair (under 1 b ts) in simples (wide_unary op a a)
  actions (bin32 op) b ts = let d = under 2 b ts in simples (narrow_binary op (low d) (low (d + 1)))
  actions (bin64 op) b ts = let d = under 2 b ts in simples (wide_binary op (operand_pair d) (operand_pair (d + 1)) (operand_pair d))
  actions wrap b ts = []
  actions extend_s b ts = let a = operand_pair (under 1 b ts) in simples (put a.high (sign_of (read a.low)) ∷ [])
  actions extend_u b ts = simples (put (operand_pair (under 1 b ts)).high (literal 0) ∷ [])
  actions (sign_extend wide bits) b ts = simples (sign_extended wide bits (operand_pair (under 1 b ts)))

  -- where these words wait: a shift or a rotation by a number that waits calls no helper
  abbrev pub actions_amid : List Delayed → Plain → (b : ℕ) → List ValType → List Action
  actions_amid ds (bin64 op) b ts =
      let d = under 2 b ts in simples (wide_binary_at (number_at ds (low (d + 1))) op (operand_pair d) (operand_pair (d + 1)) (operand_pair d))
  actions_amid ds p b ts = actions p b ts
