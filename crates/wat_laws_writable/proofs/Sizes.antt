-- How many bytes what fields say takes in the binary format, by the weight of their marks.
use Rattle.std.proofs.Common.{◌≡◌, inl, inr, ℕ, ◌+◌, ◌-◌, ◌*◌, ◌/◌, ◌^◌, ◌<◌, ◌≤◌, Bool, true, false, not, cond, List, [], ◌∷◌, ◌++◌, map, length, min, Option, Some, None, refl, sym, ap, subst, arith, length-append}
use Rattle.std.specs.Prelude.{filter, flat_map, if◌then◌else◌}
use Rattle.std.specs.List.{AllByRecursion, prefix_len}
use Rattle.std.proofs.lemmas.Bool.{cases_lt, lt-ltb, le-ltb}
use Rattle.std.proofs.lemmas.List.{length-map, length-take}
use Rattle.std.proofs.lemmas.List.Elements.{recursion_from_All}
use Rattle.wasm_lang.specs.declared.types.ValType.{ValType}
use Rattle.wasm_lang.specs.declared.types.ValType.TheVariants.{I32, I64}
use Rattle.wasm_lang.specs.Instructions.{Plain, local_get, local_set, local_tee, global_get, global_set, load, store, const32, const64, Instruction, block, loop, if_block, end_mark, br, br_if, br_table, call, call_indirect, plain}
use Rattle.wasm_binary_write.specs.Opcodes.{opcode_of}
use Rattle.wasm_binary_write.specs.Spelling.{groups, unsigned, integer, items, vector, value_type, block_type, plain_immediates, immediates, behind, instruction, same_type, runs_from, runs, run}
use Rattle.wasm_binary_write.proofs.Groups.{groups_last, groups_more}
use Rattle.wasm_laws_write.specs.Fits.{FitsU32, PlainFits, InstructionFits}
use Rattle.wasm_laws_write.specs.Lengths.{instruction_size, code_size, total}
use Rattle.wasm_laws_write.proofs.Short.{numbers_are_short}
use Rattle.wat_lang.specs.declared.parts.Space.{Space}
use Rattle.wat_lang.specs.declared.parts.Space.TheVariants as spaces
use Rattle.wat_lang.specs.declared.parts.Part.{Part}
use Rattle.wat_lang.specs.Tokens.{Token}
use Rattle.wat_lang.specs.Grammar.{Mark, an_instruction, Marked, marked}
use Rattle.wat_lang.specs.Names.{text_of, type_of, types_part, uses_in, all_with, first_with, Names, Field, types_in, labels_after}
use Rattle.wat_lang.specs.Modules.{is_bytes, is_instruction, used, with_immediates, immediates_in, instructions_in, string_in, parts_of}
use Rattle.wat_laws_writable.proofs.Weights.{weight, field_weight}

-- ---- instructions

number_short : (n : ℕ) → FitsU32 n → length (unsigned n) ≤ 5
number_short n fit = numbers_are_short n fit

group_last : (turned : Bool) (n : ℕ) → n < 64 → length (groups 64 turned n) ≤ 1
group_last turned n h = omega (arith, ap length (groups_last 64 turned n h))

group_more : (turned : Bool) (k bound n : ℕ) → ((q : ℕ) → q < bound → length (groups 64 turned q) ≤ k) → n < 128 * bound → length (groups 64 turned n) ≤ 1 + k
group_more turned k bound n below h =
    elim (cases_lt n 64) [
      | inl small ↦ omega (arith, group_last turned n small)
      | inr large ↦ (let q : n / 128 < bound = omega arith in omega (arith, ap length (groups_more 64 turned n (omega arith) large), below (n / 128) q))
    ]

-- below 2 ^ 27
four_groups : (turned : Bool) (n : ℕ) → n < 134217728 → length (groups 64 turned n) ≤ 4
four_groups turned n h = group_more turned 3 1048576 n (λ q l. group_more turned 2 8192 q (λ q l. group_more turned 1 64 q (group_last turned) (omega arith)) (omega arith)) (omega arith)

-- below 2 ^ 62
nine_groups : (turned : Bool) (n : ℕ) → n < 4611686018427387904 → length (groups 64 turned n) ≤ 9
nine_groups turned n h =
    group_more turned 8 36028797018963968 n
    (λ q l. group_more turned 7 281474976710656 q (λ q l. group_more turned 6 2199023255552 q (λ q l. group_more turned 5 17179869184 q (λ q l. group_more turned 4 134217728 q (four_groups turned) (omega arith)) (omega arith)) (omega arith)) (omega arith)) (omega arith)

half_word : (turned : Bool) (n : ℕ) → n < 2 ^ 63 → length (groups 64 turned n) ≤ 10
half_word turned n h = group_more turned 9 4611686018427387904 n (nine_groups turned) (omega arith)

narrow_short : (n : ℕ) → n < 2 ^ 32 → length (integer 32 n) ≤ 10
narrow_short n h =
    elim (cases_lt n (2 ^ 31)) [
      | inl low ↦
          let e : integer 32 n ≡ groups 64 false n = (let t = lt-ltb n (2 ^ 31) low in rw t refl) in
          subst (λ l. length l ≤ 10) (sym e) (half_word false n (omega (arith, low)))
      | inr high ↦
          let e : integer 32 n ≡ groups 64 true (2 ^ 32 - 1 - n) = (let t = le-ltb n (2 ^ 31) high in rw t refl) in
          subst (λ l. length l ≤ 10) (sym e) (half_word true (2 ^ 32 - 1 - n) (omega arith))
    ]

wide_short : (n : ℕ) → n < 2 ^ 64 → length (integer 64 n) ≤ 10
wide_short n h =
    elim (cases_lt n (2 ^ 63)) [
      | inl low ↦
          let e : integer 64 n ≡ groups 64 false n = (let t = lt-ltb n (2 ^ 63) low in rw t refl) in
          subst (λ l. length l ≤ 10) (sym e) (half_word false n low)
      | inr high ↦
          let e : integer 64 n ≡ groups 64 true (2 ^ 64 - 1 - n) = (let t = le-ltb n (2 ^ 63) high in rw t refl) in
          subst (λ l. length l ≤ 10) (sym e) (half_word true (2 ^ 64 - 1 - n) (omega (arith, high)))
    ]

access_short : (align offset : ℕ) → FitsU32 align → FitsU32 offset → length (unsigned align ++ unsigned offset) ≤ 10
access_short align offset a o = omega (arith, length-append (unsigned align) (unsigned offset), number_short align a, number_short offset o)

plain_short : (p : Plain) → PlainFits p → length (plain_immediates p) ≤ 10
plain_short (local_get x) h = omega (arith, number_short x h)
plain_short (local_set x) h = omega (arith, number_short x h)
plain_short (local_tee x) h = omega (arith, number_short x h)
plain_short (global_get x) h = omega (arith, number_short x h)
plain_short (global_set x) h = omega (arith, number_short x h)
plain_short (load op align offset) h = access_short align offset h.0 h.1
plain_short (store op align offset) h = access_short align offset h.0 h.1
plain_short (const32 word) h = narrow_short word h
plain_short (const64 word) h = wide_short word h
plain_short p h = omega arith

value_long : (t : ValType) → length (value_type t) ≡ 1
value_long I32 = refl
value_long I64 = refl

block_short : (r : Option ValType) → length (block_type r) ≤ 6
block_short None = omega arith
block_short (Some t) = omega (arith, value_long t)

pub numbers_length : (ns : List ℕ) → AllByRecursion FitsU32 ns → length (items unsigned ns) ≤ 5 * length ns
numbers_length [] a = omega arith
numbers_length (n ∷ ns) a = omega (arith, length-append (unsigned n) (items unsigned ns), number_short n a.0, numbers_length ns a.1)

-- a long table has more labels than bytes of its count
branches_short : (ls : List ℕ) (l : ℕ) → AllByRecursion FitsU32 ls → FitsU32 l → FitsU32 (length ls) → length (vector unsigned ls ++ unsigned l) ≤ 10 + 5 * length ls
branches_short ls l fits fit few =
    omega (arith, length-append (vector unsigned ls) (unsigned l), length-append (unsigned (length ls)) (items unsigned ls), numbers_length ls fits, number_short l fit, number_short (length ls) few)

immediates_short : (i : Instruction) → InstructionFits i → FitsU32 (instruction_size i) → 1 + length (immediates i) ≤ 11 * instruction_size i
immediates_short (block r) h k = omega (arith, block_short r)
immediates_short (loop r) h k = omega (arith, block_short r)
immediates_short (if_block r) h k = omega (arith, block_short r)
immediates_short (br l) h k = omega (arith, number_short l h)
immediates_short (br_if l) h k = omega (arith, number_short l h)
immediates_short (br_table ls l) h k = let few : FitsU32 (length ls) = omega (arith, k) in omega (arith, branches_short ls l (recursion_from_All FitsU32 ls h.0) h.1 few)
immediates_short (call f) h k = omega (arith, number_short f h)
immediates_short (call_indirect t) h k = omega (arith, length-append (unsigned t) (0x00 ∷ []), number_short t h)
immediates_short (plain p) h k = omega (arith, plain_short p h)
immediates_short i h k = omega arith

behind_short : (opcode : Option ℕ) (bytes : List ℕ) → length (behind opcode bytes) ≤ 1 + length bytes
behind_short None bytes = omega arith
behind_short (Some o) bytes = omega arith

instruction_short : (i : Instruction) → InstructionFits i → FitsU32 (instruction_size i) → length (instruction i) ≤ 11 * instruction_size i
unfolding instruction
instruction_short i h k = omega (arith, behind_short (opcode_of i) (immediates i), immediates_short i h k)

code_within : (code : List Instruction) → AllByRecursion InstructionFits code → FitsU32 (code_size code) → length (items instruction code) ≤ 11 * code_size code
code_within [] a k = omega arith
code_within (i ∷ is) a k =
    let here = instruction_short i a.0 (omega (arith, k)) in
    let rest = code_within is a.1 (omega (arith, k)) in
    omega (arith, length-append (instruction i) (items instruction is), here, rest)

-- ---- code of a field

filtered_few : {X : Type 0} (test : X → Bool) (xs : List X) → length (filter test xs) ≤ length xs
filtered_few test [] = omega arith
filtered_few test (x ∷ xs) = by (test x) (filtered_few test xs)
  where
    by : (b : Bool) → length (filter test xs) ≤ length xs → length (cond b (x ∷ filter test xs) (filter test xs)) ≤ length (x ∷ xs)
    by true h = omega (arith, h)
    by false h = omega (arith, h)

pub used_few : (names : Space → Names) (s : Space) (ms : List Marked) → length (used names s ms) ≤ length ms
used_few names s ms =
    let same : length (used names s ms) ≡ length (all_with (uses_in s) ms) = length-map (all_with (uses_in s) ms) _ in
    let few = filtered_few (λ (m : Marked). uses_in s m.mark) ms in
    omega (arith, same, few)

pub types_in_few : (p : Part) (ms : List Marked) → length (types_in p ms) ≤ length ms
types_in_few p ms =
    let same : length (types_in p ms) ≡ length (all_with (types_part p) ms) = length-map (all_with (types_part p) ms) type_of in
    let few = filtered_few (λ (m : Marked). types_part p m.mark) ms in
    omega (arith, same, few)

form_size : (names : Space → Names) (ns : List Marked) (i : Instruction) → instruction_size (with_immediates names ns i) ≤ 1 + length ns
form_size names ns (br_table ls l) =
    let labels = used names spaces.Label ns in
    let short = length-take (length labels - 1) labels in
    let few = used_few names spaces.Label ns in
    omega (arith, short, few)
form_size names ns (plain p) = omega arith
form_size names ns _ = omega arith

abbrev run_of : List Marked → ℕ
run_of ms = prefix_len (λ (m : Marked). not (is_instruction m.mark)) ms

abbrev SizedCode : (Names → Space → Names) → Names → List Marked → Type 0
SizedCode names labels ms = code_size (instructions_in names labels ms ++ end_mark ∷ []) + run_of ms ≤ 1 + length ms

code_step : (names : Names → Space → Names) (labels : Names) (k : Mark) (t : Token) (ms : List Marked) → SizedCode names (labels_after labels (marked k t)) ms → SizedCode names labels (marked k t ∷ ms)
code_step names labels (an_instruction form) t ms h =
    let size = form_size (names labels) (immediates_in ms) form in
    let few : length (immediates_in ms) ≡ min (run_of ms) (length ms) = length-take (run_of ms) ms in
    omega (arith, h, size, few)
code_step names labels _ t ms h = omega (arith, h)

code_small : (names : Names → Space → Names) (labels : Names) (ms : List Marked) → SizedCode names labels ms
code_small names labels [] = omega arith
code_small names labels (m ∷ ms) = code_step names labels m.mark m.token ms (code_small names (labels_after labels m) ms)

length_light : (ms : List Marked) → length ms ≤ weight ms
length_light [] = omega arith
length_light (m ∷ ms) = let h = length_light ms in omega (arith, h)

pub code_length : (names : Names → Space → Names) (ms : List Marked) → weight ms ≤ 33554432 → AllByRecursion InstructionFits (instructions_in names [] ms ++ end_mark ∷ [])
    → length (items instruction (instructions_in names [] ms ++ end_mark ∷ [])) ≤ 11 + 11 * weight ms
code_length names ms light fits =
    let small = code_small names [] ms in
    let few = length_light ms in
    let long = code_within (instructions_in names [] ms ++ end_mark ∷ []) fits (omega (arith, small, few, light)) in
    omega (arith, small, few, long)

-- ---- locals

run_short : (n : ℕ) (t : ValType) → FitsU32 n → length (run (n, t)) ≤ 6
run_short n t h = omega (arith, length-append (unsigned n) (value_type t), number_short n h, value_long t)

runs_short : (n : ℕ) (t : ValType) (us : List ValType) → FitsU32 (n + length us) → FitsU32 (1 + length us) → length (items run (runs_from n t us)) ≤ 6 + 6 * length us
runs_short n t [] h k = omega (arith, length-append (run (n, t)) [], run_short n t (omega (arith, h)))
runs_short n t (u ∷ us) h k = by (same_type t u) (runs_short (n + 1) t us (omega (arith, h)) (omega (arith, k))) (runs_short 1 u us (omega (arith, k)) (omega (arith, k)))
  where
    by : (b : Bool) → length (items run (runs_from (n + 1) t us)) ≤ 6 + 6 * length us → length (items run (runs_from 1 u us)) ≤ 6 + 6 * length us
        → length (items run (if b then runs_from (n + 1) t us else (n, t) ∷ runs_from 1 u us)) ≤ 6 + 6 * length (u ∷ us)
    by true p q = omega (arith, p)
    by false p q = omega (arith, q, length-append (run (n, t)) (items run (runs_from 1 u us)), run_short n t (omega (arith, h)))

runs_few : (n : ℕ) (t : ValType) (us : List ValType) → length (runs_from n t us) ≤ 1 + length us
runs_few n t [] = omega arith
runs_few n t (u ∷ us) = by (same_type t u) (runs_few (n + 1) t us) (runs_few 1 u us)
  where
    by : (b : Bool) → length (runs_from (n + 1) t us) ≤ 1 + length us → length (runs_from 1 u us) ≤ 1 + length us → length (if b then runs_from (n + 1) t us else (n, t) ∷ runs_from 1 u us) ≤ 1 + length (u ∷ us)
    by true p q = omega (arith, p)
    by false p q = omega (arith, q)

pub locals_length : (ts : List ValType) → length ts ≤ 33554432 → length (vector run (runs ts)) ≤ 5 + 6 * length ts
locals_length [] h = omega (arith, length-append (unsigned 0) [], number_short 0 (omega arith))
locals_length (t ∷ ts) h =
    let short = runs_short 1 t ts (omega (arith, h)) (omega (arith, h)) in
    let few = runs_few 1 t ts in
    omega (arith, short, number_short (length (runs_from 1 t ts)) (omega (arith, few, h)), length-append (unsigned (length (runs_from 1 t ts))) (items run (runs_from 1 t ts)))

-- ---- strings

pub string_light : (test : Mark → Bool) (ms : List Marked) → length (string_in test ms) ≤ weight ms
string_light test [] = omega arith
string_light test (m ∷ ms) = by (test m.mark) (string_light test ms)
  where
    by : (b : Bool) → length (string_in test ms) ≤ weight ms → length {A = ℕ} (elim (cond b (Some m) (first_with test ms)) [ Some m ↦ text_of m | None ↦ [] ]) ≤ weight (m ∷ ms)
    by true h = omega arith
    by false h = omega (arith, h)

pub strings_light : (ms : List Marked) → length (flat_map text_of (all_with is_bytes ms)) ≤ weight ms
strings_light [] = omega arith
strings_light (m ∷ ms) = by (is_bytes m.mark) (strings_light ms)
  where
    by : (b : Bool) → length (flat_map text_of (all_with is_bytes ms)) ≤ weight ms → length (flat_map text_of (cond b (m ∷ all_with is_bytes ms) (all_with is_bytes ms))) ≤ weight (m ∷ ms)
    by true h = omega (arith, h, length-append (text_of m) (flat_map text_of (all_with is_bytes ms)))
    by false h = omega (arith, h)

-- ---- sections

filtered_light : {X : Type 0} (w : X → ℕ) (test : X → Bool) (xs : List X) → total w (filter test xs) ≤ total w xs
filtered_light w test [] = omega arith
filtered_light w test (x ∷ xs) = by (test x) (filtered_light w test xs)
  where
    by : (b : Bool) → total w (filter test xs) ≤ total w xs → total w (cond b (x ∷ filter test xs) (filter test xs)) ≤ total w (x ∷ xs)
    by true h = omega (arith, h)
    by false h = omega (arith, h)

abbrev pub parts_weight : List Marked → ℕ
parts_weight ms = 1 + weight ms

mapped_weight : (fs : List Field) → total parts_weight (map (λ (f : Field). f.parts) fs) ≡ total field_weight fs
mapped_weight [] = refl
mapped_weight (f ∷ fs) = ap (λ n. 1 + weight f.parts + n) (mapped_weight fs)

pub parts_light : (test : Field → Bool) (fs : List Field) → total parts_weight (parts_of test fs) ≤ total field_weight fs
parts_light test fs = let same = mapped_weight (filter test fs) in let less = filtered_light field_weight test fs in omega (arith, same, less)

pub fields_filtered_light : (test : Field → Bool) (fs : List Field) → total field_weight (filter test fs) ≤ total field_weight fs
fields_filtered_light test fs = filtered_light field_weight test fs

module _ {X Y : Type 0} (f : Y → List ℕ) (g : X → Y) (w : X → ℕ) where
  items_light : (xs : List X) → AllByRecursion (λ x. (1 ≤ w x) × (length (f (g x)) ≤ 64 * w x)) xs → length (items f (map g xs)) ≤ 64 * total w xs
  items_light [] all = omega arith
  items_light (x ∷ xs) all = let here = all.0.1 in let rest = items_light xs all.1 in omega (arith, here, rest, length-append (f (g x)) (items f (map g xs)))

  count_light : (xs : List X) → AllByRecursion (λ x. (1 ≤ w x) × (length (f (g x)) ≤ 64 * w x)) xs → length xs ≤ total w xs
  count_light [] all = omega arith
  count_light (x ∷ xs) all = let here = all.0.0 in let rest = count_light xs all.1 in omega (arith, here, rest)

  pub section_fits : (xs : List X) → AllByRecursion (λ x. (1 ≤ w x) × (length (f (g x)) ≤ 64 * w x)) xs → total w xs ≤ 33554432 → FitsU32 (length (vector f (map g xs)))
  section_fits xs all light =
      let long = items_light xs all in
      let many = count_light xs all in
      let same : length (map g xs) ≡ length xs = length-map xs g in
      let first = number_short (length (map g xs)) (omega (arith, same, many, light)) in
      omega (arith, long, light, first, length-append (unsigned (length (map g xs))) (items f (map g xs)))
