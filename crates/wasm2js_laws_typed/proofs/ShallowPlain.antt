-- The actions of plain instructions aren't deep.
use Rattle.std.proofs.Common.{◌≡◌, ℕ, ◌+◌, ◌%◌, ◌≤◌, max, Bool, true, false, ◌&&◌, List, [], ◌∷◌, ◌++◌, Option, Some, None, refl, arith}
use Rattle.std.specs.Prelude.{◌-◌, ◌%◌, ℤ, slice_get, nat_le, nat_lt, ◌==◌, if◌then◌else◌}
use Rattle.sem_words.specs.declared.word.Bin.{Bin}
use Rattle.sem_words.specs.declared.word.Bin.TheVariants as bins
use Rattle.sem_words.specs.declared.word.Un.{Un}
use Rattle.sem_words.specs.declared.word.Un.TheVariants as uns
use Rattle.sem_words.specs.declared.word.Rel.{Rel}
use Rattle.sem_words.specs.declared.word.Rel.TheVariants as rels
use Rattle.sem_words.specs.Words.{word_of}
use Rattle.wasm_lang.specs.declared.types.ValType.{ValType}
use Rattle.wasm_lang.specs.declared.types.ValType.TheVariants.{I32, I64}
use Rattle.wasm_lang.specs.declared.types.MemOp.{MemOp}
use Rattle.wasm_lang.specs.Instructions.{nop, drop_operand, select, local_get, local_set, local_tee, global_get, global_set, load, store, memory_size, memory_copy, memory_fill, const32, const64, eqz32, eqz64, rel32, rel64, un32, un64, bin32, bin64, wrap, extend_s, extend_u, sign_extend}
use Rattle.wasm2js_translation.specs.Names.{Name}
use Rattle.wasm2js_translation.specs.Words.{BitOp, shift_left, read, both, Simple, put, Action}
use Rattle.wasm2js_laws_terms.specs.Sound.{term_depth, actions_depth}
use Rattle.wasm2js_translation.specs.Pairs.{Pair, operand_pair, local_pair, global_pair, simples, literal, sign_of}
use Rattle.wasm2js_translation.specs.Actions.{under, low, narrow_binary, narrow_unary, narrow_relation, selected, moved_if, kind_in, place, guarded, load_word, load_high, load_code, store_word, store_code, sign_extended}
use Rattle.wasm2js_translation.specs.Wide.{shifted, left_by, emptied, to_right, right_by, turned_from, round_by, wide_binary, wide_binary_by, wide_binary_at, wide_unary, wide_relation}
use Rattle.wasm2js_translation.specs.Delays.{number_at}
use Rattle.wasm2js_laws_typed.specs.Laws.{PlainIsShallow}

-- ---- lists

joined : (a b : List Action) (n : ℕ) → actions_depth a ≤ n → actions_depth b ≤ n → actions_depth (a ++ b) ≤ n
joined [] b n h k = k
joined (x ∷ a) b n h k = let r = joined a b n (omega (arith, h)) k in omega (arith, h, r)

-- ---- values from one place to another

moved_shallow : (o : Option ValType) (from to : Pair) → actions_depth (simples (moved_if o from to)) ≤ 8
moved_shallow None from to = omega arith
moved_shallow (Some I32) from to = omega arith
moved_shallow (Some I64) from to = omega arith

selected_shallow : (o : Option ValType) (a b : Pair) (c : Name) → actions_depth (simples (selected o a b c)) ≤ 8
selected_shallow None a b c = omega arith
selected_shallow (Some I32) a b c = omega arith
selected_shallow (Some I64) a b c = omega arith

-- ---- operators

narrow_binary_shallow : (op : Bin) (a b : Name) → actions_depth (simples (narrow_binary op a b)) ≤ 8
narrow_binary_shallow bins.Add a b = omega arith
narrow_binary_shallow bins.Sub a b = omega arith
narrow_binary_shallow bins.Mul a b = omega arith
narrow_binary_shallow bins.DivS a b = omega arith
narrow_binary_shallow bins.DivU a b = omega arith
narrow_binary_shallow bins.RemS a b = omega arith
narrow_binary_shallow bins.RemU a b = omega arith
narrow_binary_shallow bins.And a b = omega arith
narrow_binary_shallow bins.Or a b = omega arith
narrow_binary_shallow bins.Xor a b = omega arith
narrow_binary_shallow bins.Shl a b = omega arith
narrow_binary_shallow bins.ShrS a b = omega arith
narrow_binary_shallow bins.ShrU a b = omega arith
narrow_binary_shallow bins.Rotl a b = omega arith
narrow_binary_shallow bins.Rotr a b = omega arith

narrow_unary_shallow : (op : Un) (a : Name) → actions_depth (simples (narrow_unary op a)) ≤ 8
narrow_unary_shallow uns.Clz a = omega arith
narrow_unary_shallow uns.Ctz a = omega arith
narrow_unary_shallow uns.Popcnt a = omega arith

narrow_relation_shallow : (op : Rel) (a b : Name) → term_depth (narrow_relation op (read a) (read b)) ≤ 8
narrow_relation_shallow rels.Eq a b = omega arith
narrow_relation_shallow rels.Ne a b = omega arith
narrow_relation_shallow rels.LtS a b = omega arith
narrow_relation_shallow rels.LtU a b = omega arith
narrow_relation_shallow rels.GtS a b = omega arith
narrow_relation_shallow rels.GtU a b = omega arith
narrow_relation_shallow rels.LeS a b = omega arith
narrow_relation_shallow rels.LeU a b = omega arith
narrow_relation_shallow rels.GeS a b = omega arith
narrow_relation_shallow rels.GeU a b = omega arith

wide_binary_shallow : (op : Bin) (a b to : Pair) → actions_depth (simples (wide_binary op a b to)) ≤ 8
wide_binary_shallow bins.Add a b to = omega arith
wide_binary_shallow bins.Sub a b to = omega arith
wide_binary_shallow bins.Mul a b to = omega arith
wide_binary_shallow bins.DivS a b to = omega arith
wide_binary_shallow bins.DivU a b to = omega arith
wide_binary_shallow bins.RemS a b to = omega arith
wide_binary_shallow bins.RemU a b to = omega arith
wide_binary_shallow bins.And a b to = omega arith
wide_binary_shallow bins.Or a b to = omega arith
wide_binary_shallow bins.Xor a b to = omega arith
wide_binary_shallow bins.Shl a b to = omega arith
wide_binary_shallow bins.ShrS a b to = omega arith
wide_binary_shallow bins.ShrU a b to = omega arith
wide_binary_shallow bins.Rotl a b to = omega arith
wide_binary_shallow bins.Rotr a b to = omega arith

if_low : (t : Bool) (x y : List Simple) → actions_depth (simples x) ≤ 8 → actions_depth (simples y) ≤ 8 → actions_depth (simples (if t then x else y)) ≤ 8
if_low true x y h k = h
if_low false x y h k = k

shifted_shallow : (op : BitOp) (k : ℕ) (a : Name) → term_depth (shifted op k a) ≤ 2
shifted_shallow op k a = by (k == 0)
  where
    by : (t : Bool) → term_depth (if t then read a else both op (read a) (literal k)) ≤ 2
    by true = omega arith
    by false = omega arith

emptied_shallow : (signed : Bool) (a : Name) → term_depth (emptied signed a) ≤ 2
emptied_shallow true a = omega arith
emptied_shallow false a = omega arith

left_by_shallow : (k : ℕ) (a to : Pair) → actions_depth (simples (left_by k a to)) ≤ 8
left_by_shallow k a to =
    let near = shifted_shallow shift_left k a.low in
    let far = shifted_shallow shift_left (k - 32) a.low in
    if_low (k == 0) _ _ (omega arith) (if_low (nat_lt k 32) _ _ (omega (arith, near)) (omega (arith, far)))

right_by_shallow : (signed : Bool) (k : ℕ) (a to : Pair) → actions_depth (simples (right_by signed k a to)) ≤ 8
right_by_shallow signed k a to =
    let near = shifted_shallow (to_right signed) k a.high in
    let far = shifted_shallow (to_right signed) (k - 32) a.high in
    let rest = emptied_shallow signed a.high in
    if_low (k == 0) _ _ (omega arith) (if_low (nat_lt k 32) _ _ (omega (arith, near)) (omega (arith, far, rest)))

turned_from_shallow : (k : ℕ) (spare high : Name) (to : Pair) → actions_depth (simples (turned_from k spare high to)) ≤ 8
turned_from_shallow k spare high to = if_low (k == 32) _ _ (omega arith) (if_low (nat_lt k 32) _ _ (omega arith) (omega arith))

round_by_shallow : (k : ℕ) (a : Pair) (spare : Name) (to : Pair) → actions_depth (simples (round_by k a spare to)) ≤ 8
round_by_shallow k a spare to = let rest = turned_from_shallow k spare a.high to in if_low (k == 0) _ _ (omega arith) (omega (arith, rest))

wide_binary_by_shallow : (op : Bin) (k : ℕ) (a b to : Pair) → actions_depth (simples (wide_binary_by op k a b to)) ≤ 8
wide_binary_by_shallow bins.Shl k a b to = left_by_shallow k a to
wide_binary_by_shallow bins.ShrS k a b to = right_by_shallow true k a to
wide_binary_by_shallow bins.ShrU k a b to = right_by_shallow false k a to
wide_binary_by_shallow bins.Rotl k a b to = round_by_shallow k a b.low to
wide_binary_by_shallow bins.Rotr k a b to = round_by_shallow ((64 - k) % 64) a b.low to
wide_binary_by_shallow op k a b to = wide_binary_shallow op a b to

wide_binary_at_shallow : (count : Option ℤ) (op : Bin) (a b to : Pair) → actions_depth (simples (wide_binary_at count op a b to)) ≤ 8
wide_binary_at_shallow None op a b to = wide_binary_shallow op a b to
wide_binary_at_shallow (Some z) op a b to = wide_binary_by_shallow op (word_of 32 z % 64) a b to

wide_unary_shallow : (op : Un) (a to : Pair) → actions_depth (simples (wide_unary op a to)) ≤ 8
wide_unary_shallow uns.Clz a to = omega arith
wide_unary_shallow uns.Ctz a to = omega arith
wide_unary_shallow uns.Popcnt a to = omega arith

wide_relation_shallow : (op : Rel) (a b : Pair) → term_depth (wide_relation op a b) ≤ 8
wide_relation_shallow rels.Eq a b = omega arith
wide_relation_shallow rels.Ne a b = omega arith
wide_relation_shallow rels.LtS a b = omega arith
wide_relation_shallow rels.LtU a b = omega arith
wide_relation_shallow rels.GtS a b = omega arith
wide_relation_shallow rels.GtU a b = omega arith
wide_relation_shallow rels.LeS a b = omega arith
wide_relation_shallow rels.LeU a b = omega arith
wide_relation_shallow rels.GeS a b = omega arith
wide_relation_shallow rels.GeU a b = omega arith

one_shallow : (n : ℕ) → n ≤ 8 → max n 0 ≤ 8
one_shallow n h = omega (arith, h)

-- ---- sign extensions

sign_extended_shallow : (wide : Bool) (bits : ℕ) (a : Pair) → actions_depth (simples (sign_extended wide bits a)) ≤ 8
sign_extended_shallow false bits a = omega arith
sign_extended_shallow true bits a = by (bits == 32) refl
  where
    by : (t : Bool) → (bits == 32) ≡ t → actions_depth (simples (sign_extended true bits a)) ≤ 8
    by true e = rw e (omega arith)
    by false e = rw e (omega arith)

-- ---- memory

place_shallow : (a : Name) (offset : ℕ) → term_depth (place a offset) ≤ 2
place_shallow a offset = by (offset == 0) refl
  where
    by : (t : Bool) → (offset == 0) ≡ t → term_depth (place a offset) ≤ 2
    by true e = rw e (omega arith)
    by false e = rw e (omega arith)

guarded_shallow : (bytes size offset : ℕ) (a : Name) (access : List Action) → actions_depth access ≤ 8 → actions_depth (guarded bytes size offset a access) ≤ 8
guarded_shallow bytes size offset a access h = by (nat_le (size + offset) bytes) refl
  where
    by : (t : Bool) → nat_le (size + offset) bytes ≡ t → actions_depth (guarded bytes size offset a access) ≤ 8
    by true e = rw e (omega (arith, h))
    by false e = rw e (omega arith)

chosen : (x y z : Bool) (a b c d : List Action) → actions_depth a ≤ 8 → actions_depth b ≤ 8 → actions_depth c ≤ 8 → actions_depth d ≤ 8
    → actions_depth (if x then a else (if y then b else (if z then c else d))) ≤ 8
chosen true y z a b c d f g h k = f
chosen false true z a b c d f g h k = g
chosen false false true a b c d f g h k = h
chosen false false false a b c d f g h k = k

if_shallow : (x : Bool) (a : List Action) → actions_depth a ≤ 8 → actions_depth (if x then a else []) ≤ 8
if_shallow true a h = h
if_shallow false a h = omega arith

load_word_shallow : (op : MemOp) (offset : ℕ) (p : Pair) → actions_depth (load_word op offset p) ≤ 8
load_word_shallow op offset p =
    let h = place_shallow p.low offset in
    let ht = place_shallow p.low (offset % 4) in
    let h1 = place_shallow p.low (offset + 1) in
    let h4 = place_shallow p.low (offset + 4) in
    chosen (op.size == 1) (op.size == 2) (op.size == 4) _ _ _ _ (omega (arith, h)) (omega (arith, h, h1)) (omega (arith, h, ht)) (omega (arith, h, h4, ht))

high_shallow : (signed : Bool) (p : Pair) → actions_depth (simples (put p.high (if signed then sign_of (read p.low) else literal 0) ∷ [])) ≤ 8
high_shallow true p = omega arith
high_shallow false p = omega arith

load_shallow : (bytes : ℕ) (op : MemOp) (offset : ℕ) (p : Pair) → actions_depth (load_code bytes op offset p) ≤ 8
load_shallow bytes op offset p =
    guarded_shallow bytes op.size offset p.low _ (joined (load_word op offset p) (load_high op p) 8 (load_word_shallow op offset p) (if_shallow (op.wide && nat_lt op.size 8) _ (high_shallow op.signed p)))

store_word_shallow : (op : MemOp) (offset : ℕ) (a : Name) (v : Pair) → actions_depth (store_word op offset a v) ≤ 8
store_word_shallow op offset a v =
    let h = place_shallow a offset in
    let ht = place_shallow a (offset % 4) in
    let h1 = place_shallow a (offset + 1) in
    let h4 = place_shallow a (offset + 4) in
    chosen (op.size == 1) (op.size == 2) (op.size == 4) _ _ _ _ (omega (arith, h)) (omega (arith, h, h1)) (omega (arith, h, ht)) (omega (arith, h, h4, ht))

store_shallow : (bytes : ℕ) (op : MemOp) (offset : ℕ) (a : Name) (v : Pair) → actions_depth (store_code bytes op offset a v) ≤ 8
store_shallow bytes op offset a v = guarded_shallow bytes op.size offset a _ (store_word_shallow op offset a v)

-- ---- each instruction

pub plain_is_shallow : PlainIsShallow
plain_is_shallow c bytes ds nop b ts = omega arith
plain_is_shallow c bytes ds drop_operand b ts = omega arith
plain_is_shallow c bytes ds select b ts = selected_shallow (slice_get ts 1) (operand_pair (under 3 b ts)) (operand_pair (under 3 b ts + 1)) (low (under 3 b ts + 2))
plain_is_shallow c bytes ds (local_get x) b ts = moved_shallow (slice_get c.locals x) (local_pair x) (operand_pair (under 0 b ts))
plain_is_shallow c bytes ds (local_set x) b ts = moved_shallow (slice_get c.locals x) (operand_pair (under 1 b ts)) (local_pair x)
plain_is_shallow c bytes ds (local_tee x) b ts = moved_shallow (slice_get c.locals x) (operand_pair (under 1 b ts)) (local_pair x)
plain_is_shallow c bytes ds (global_get x) b ts = moved_shallow (kind_in (slice_get c.globals x)) (global_pair x) (operand_pair (under 0 b ts))
plain_is_shallow c bytes ds (global_set x) b ts = moved_shallow (kind_in (slice_get c.globals x)) (operand_pair (under 1 b ts)) (global_pair x)
plain_is_shallow c bytes ds (load op align offset) b ts = load_shallow bytes op offset (operand_pair (under 1 b ts))
plain_is_shallow c bytes ds (store op align offset) b ts = store_shallow bytes op offset (low (under 2 b ts)) (operand_pair (under 2 b ts + 1))
plain_is_shallow c bytes ds memory_size b ts = omega arith
plain_is_shallow c bytes ds memory_copy b ts = omega arith
plain_is_shallow c bytes ds memory_fill b ts = omega arith
plain_is_shallow c bytes ds (const32 n) b ts = omega arith
plain_is_shallow c bytes ds (const64 n) b ts = omega arith
plain_is_shallow c bytes ds eqz32 b ts = omega arith
plain_is_shallow c bytes ds eqz64 b ts = omega arith
plain_is_shallow c bytes ds (rel32 op) b ts = one_shallow _ (narrow_relation_shallow op (low (under 2 b ts)) (low (under 2 b ts + 1)))
plain_is_shallow c bytes ds (rel64 op) b ts = one_shallow _ (wide_relation_shallow op (operand_pair (under 2 b ts)) (operand_pair (under 2 b ts + 1)))
plain_is_shallow c bytes ds (un32 op) b ts = narrow_unary_shallow op (low (under 1 b ts))
plain_is_shallow c bytes ds (un64 op) b ts = wide_unary_shallow op (operand_pair (under 1 b ts)) (operand_pair (under 1 b ts))
plain_is_shallow c bytes ds (bin32 op) b ts = narrow_binary_shallow op (low (under 2 b ts)) (low (under 2 b ts + 1))
plain_is_shallow c bytes ds (bin64 op) b ts = wide_binary_at_shallow (number_at ds (low (under 2 b ts + 1))) op (operand_pair (under 2 b ts)) (operand_pair (under 2 b ts + 1)) (operand_pair (under 2 b ts))
plain_is_shallow c bytes ds wrap b ts = omega arith
plain_is_shallow c bytes ds extend_s b ts = omega arith
plain_is_shallow c bytes ds extend_u b ts = omega arith
plain_is_shallow c bytes ds (sign_extend wide bits) b ts = sign_extended_shallow wide bits (operand_pair (under 1 b ts))
