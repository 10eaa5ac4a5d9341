-- Numbers that no row refuses have the bits that their places have.
use Rattle.std.proofs.Common.{◌≡◌, ℕ, zero, suc, ◌+◌, ◌-◌, ◌^◌, ◌<◌, ◌≤◌, Bool, true, false, ◌&&◌, not, cond, List, [], ◌∷◌, ◌++◌, length, take, get_or, Option, Some, None, option_map, option_and_then, ℤ, pos, negsuc, ◌==◌, refl, subst, arith, length-append, length-drop}
use Rattle.std.specs.Prelude.{unwrap_or, int_le, int_lt}
use Rattle.std.specs.List.{AllByRecursion, prefix_len}
use Rattle.std.proofs.lemmas.Bool.{ltb-true}
use Rattle.std.proofs.lemmas.List.{length-replicate}
use Rattle.std.proofs.lemmas.List.Elements.{All-from_recursion}
use Rattle.sem_words.specs.Words.{word_of}
use Rattle.wasm_lang.specs.declared.types.MemOp.{MemOp}
use Rattle.wasm_lang.specs.Instructions.{Plain, local_get, local_set, local_tee, global_get, global_set, load, store, const32, const64, Instruction, block, loop, if_block, end_mark, br, br_if, br_table, call, call_indirect, plain}
use Rattle.wasm_laws_write.specs.Fits.{FitsU32, PlainFits, InstructionFits, OptionFits, LimitsFit, ExportFits}
use Rattle.wat_lang.specs.declared.parts.Space.{Space}
use Rattle.wat_lang.specs.declared.parts.Space.TheVariants as spaces
use Rattle.wat_lang.specs.declared.parts.Part.{Part}
use Rattle.wat_lang.specs.declared.parts.Part.TheVariants.{Param, Local}
use Rattle.wat_lang.specs.declared.fault.Row.TheVariants as rows
use Rattle.wat_lang.specs.Tokens.{Token}
use Rattle.wat_lang.specs.Numbers.{number_of}
use Rattle.wat_lang.specs.Grammar.{Mark, an_exported, binds, uses, a_type_use, a_minimum, a_maximum, an_offset, an_instruction, Marked, marked}
use Rattle.wat_lang.specs.Names.{text_of, uses_in, is_type_use, types_part, all_with, first_with, Names, is_named, place_of_id, natural, index_of, id_after, written_ids, param_ids, local_names, open_after, labels_after, names_at}
use Rattle.wat_lang.specs.Modules.{is_minimum, is_maximum, is_offset, is_alignment, is_word, is_instruction, natural_or_0, number_in, exponent_from, offset_of, alignment_of, used, first_used, align_in, offset_in, plain_with, with_immediates, immediates_in, instruction_at, instructions_in, limits_in, function_type_in, exported_by, export_kind_in}
use Rattle.wat_lang.specs.Rows.{where_holds, is_out_32, is_bad_number, number_rows}
use Rattle.wat_laws_read.proofs.Lists.{empty_parts, not_held, weaker, mapped, passing}

-- a number that isn't refused
abbrev pub IsFine : Marked → Type 0
IsFine m = is_bad_number m ≡ false

pub numbers_held : (ms : List Marked) → number_rows ms ≡ [] → AllByRecursion IsFine ms
numbers_held [] e = tt
numbers_held (m ∷ ms) e =
    let parts = empty_parts (where_holds (is_bad_number m) rows.Number m.token.at) (number_rows ms) e in
    (not_held (is_bad_number m) rows.Number m.token.at parts.0, numbers_held ms parts.1)

-- more than there are ids of a space in a short text
abbrev pub most_names : ℕ
most_names = 134217728

-- ---- lists

pub found_with : (P : Marked → Type 0) (test : Mark → Bool) (ms : List Marked) (m : Marked) → AllByRecursion P ms → first_with test ms ≡ Some m → (test m.mark ≡ true) × P m
found_with P test [] m all e = absurd cc
found_with P test (n ∷ ms) m all e = by (λ f. found_with P test ms m all.1 f) (test n.mark) refl e
  where
    by : (first_with test ms ≡ Some m → (test m.mark ≡ true) × P m) → (b : Bool) → test n.mark ≡ b → cond b (Some n) (first_with test ms) ≡ Some m → (test m.mark ≡ true) × P m
    by below true t e = let same : n ≡ m = cc in subst (λ (x : Marked). (test x.mark ≡ true) × P x) same (t, all.0)
    by below false t e = below e

taken : {X : Type 0} (P : X → Type 0) (n : ℕ) (xs : List X) → AllByRecursion P xs → AllByRecursion P (take n xs)
taken P zero xs all = tt
taken P (suc n) [] all = tt
taken P (suc n) (x ∷ xs) all = (all.0, taken P n xs all.1)

got_small : (ns : List ℕ) (k : ℕ) → AllByRecursion FitsU32 ns → FitsU32 (get_or ns k 0)
got_small [] k all = omega arith
got_small (n ∷ ns) zero all = all.0
got_small (n ∷ ns) (suc k) all = got_small ns k all.1

-- ---- natural numbers and indices

second_true : (a b : Bool) → not (a && b) ≡ false → b ≡ true
second_true true true e = refl
second_true true false e = absurd cc
second_true false true e = refl
second_true false false e = absurd cc

natural_small : (z : ℤ) → is_out_32 (Some z) ≡ false → FitsU32 (natural_or_0 (Some z))
natural_small (pos n) e = ltb-true n (2 ^ 32) (second_true (int_le (pos 0) (pos n)) (int_lt (pos n) (pos (2 ^ 32))) e)
natural_small (negsuc n) e = omega arith

pub option_small : (o : Option ℤ) → is_out_32 o ≡ false → FitsU32 (natural_or_0 o)
option_small None e = omega arith
option_small (Some z) e = natural_small z e

place_within : (id : List ℕ) (names : Names) → unwrap_or (place_of_id id names) 0 ≤ length names
place_within id [] = omega arith
place_within id (n ∷ ns) = by (is_named id n) (place_of_id id ns) (place_within id ns)
  where
    by : (b : Bool) (o : Option ℕ) → unwrap_or o 0 ≤ length ns → unwrap_or (elim b [ true ↦ Some 0 | false ↦ option_map suc o ]) 0 ≤ length (n ∷ ns)
    by true o h = omega arith
    by false None h = omega arith
    by false (Some k) h = omega (arith, h)

index_small : (names : Names) (text : List ℕ) → length names ≤ most_names → is_out_32 (number_of text) ≡ false → FitsU32 (unwrap_or (index_of names text) 0)
index_small names text few e = by (number_of text) e
  where
    by : (o : Option ℤ) → is_out_32 o ≡ false → FitsU32 (unwrap_or (elim o [ Some z ↦ natural z | None ↦ place_of_id text names ]) 0)
    by None e = let h = place_within text names in omega (arith, few, h)
    by (Some z) e = natural_small z e

use_fine : (s : Space) (k : Mark) (t : Token) → uses_in s k ≡ true → IsFine (marked k t) → is_out_32 (number_of (text_of (marked k t))) ≡ false
use_fine s (uses u) t e f = f
use_fine s _ t e f = absurd cc

type_use_fine : (k : Mark) (t : Token) → is_type_use k ≡ true → IsFine (marked k t) → is_out_32 (number_of (text_of (marked k t))) ≡ false
type_use_fine a_type_use t e f = f
type_use_fine _ t e f = absurd cc

minimum_fine : (k : Mark) (t : Token) → is_minimum k ≡ true → IsFine (marked k t) → is_out_32 (number_of (text_of (marked k t))) ≡ false
minimum_fine (a_minimum s) t e f = f
minimum_fine _ t e f = absurd cc

maximum_fine : (k : Mark) (t : Token) → is_maximum k ≡ true → IsFine (marked k t) → is_out_32 (number_of (text_of (marked k t))) ≡ false
maximum_fine a_maximum t e f = f
maximum_fine _ t e f = absurd cc

offset_fine : (k : Mark) (t : Token) → is_offset k ≡ true → IsFine (marked k t) → is_out_32 (offset_of (marked k t)) ≡ false
offset_fine an_offset t e f = f
offset_fine _ t e f = absurd cc

pub used_small : (names : Space → Names) (s : Space) (ms : List Marked) → length (names s) ≤ most_names → AllByRecursion IsFine ms → AllByRecursion FitsU32 (used names s ms)
used_small names s ms few fine =
    mapped FitsU32 (λ (m : Marked). unwrap_or (index_of (names s) (text_of m)) 0) (all_with (uses_in s) ms)
    (weaker (λ (m : Marked). (uses_in s m.mark ≡ true) × IsFine m) (λ (m : Marked). FitsU32 (unwrap_or (index_of (names s) (text_of m)) 0))
    (λ m h. index_small (names s) (text_of m) few (use_fine s m.mark m.token h.0 h.1)) (all_with (uses_in s) ms)
    (passing IsFine (λ (m : Marked). uses_in s m.mark) ms fine))

pub first_small : (names : Space → Names) (s : Space) (ms : List Marked) → length (names s) ≤ most_names → AllByRecursion IsFine ms → FitsU32 (first_used names s ms)
first_small names s ms few fine = got_small (used names s ms) 0 (used_small names s ms few fine)

-- ---- limits and types

number_fine : (test : Mark → Bool) → ((k : Mark) (t : Token) → test k ≡ true → IsFine (marked k t) → is_out_32 (number_of (text_of (marked k t))) ≡ false)
    → (ms : List Marked) → AllByRecursion IsFine ms → is_out_32 (number_in test ms) ≡ false
number_fine test tells ms fine = by (first_with test ms) refl
  where
    by : (o : Option Marked) → first_with test ms ≡ o → is_out_32 (option_and_then (λ (m : Marked). number_of (text_of m)) o) ≡ false
    by None e = refl
    by (Some m) e = let h = found_with IsFine test ms m fine e in tells m.mark m.token h.0 h.1

pub limits_fit : (ms : List Marked) → AllByRecursion IsFine ms → LimitsFit (limits_in ms)
limits_fit ms fine = (option_small (number_in is_minimum ms) (number_fine is_minimum minimum_fine ms fine), by (number_in is_maximum ms) (number_fine is_maximum maximum_fine ms fine))
  where
    by : (o : Option ℤ) → is_out_32 o ≡ false → OptionFits (option_map (λ z. natural_or_0 (Some z)) o)
    by None e = tt
    by (Some z) e = natural_small z e

pub function_type_fits : (names : Space → Names) (ms : List Marked) → length (names spaces.Type) ≤ most_names → AllByRecursion IsFine ms → FitsU32 (function_type_in names ms)
function_type_fits names ms few fine = by (first_with is_type_use ms) refl
  where
    by : (o : Option Marked) → first_with is_type_use ms ≡ o → FitsU32 (unwrap_or (option_and_then (λ (m : Marked). index_of (names spaces.Type) (text_of m)) o) 0)
    by None e = omega arith
    by (Some m) e = let h = found_with IsFine is_type_use ms m fine e in index_small (names spaces.Type) (text_of m) few (type_use_fine m.mark m.token h.0 h.1)

pub export_fits : (names : Space → Names) → ((s : Space) → length (names s) ≤ most_names) → (ms : List Marked) → AllByRecursion IsFine ms → ExportFits (export_kind_in names ms)
export_fits names few [] fine = omega arith
export_fits names few (m ∷ ms) fine = by m.mark (export_fits names few ms fine.1)
  where
    by : (k : Mark) → ExportFits (export_kind_in names ms) → ExportFits (exported_by names ms (export_kind_in names ms) k)
    by (an_exported spaces.Func) h = first_small names spaces.Func ms (few spaces.Func) fine.1
    by (an_exported spaces.Table) h = first_small names spaces.Table ms (few spaces.Table) fine.1
    by (an_exported spaces.Memory) h = first_small names spaces.Memory ms (few spaces.Memory) fine.1
    by (an_exported spaces.Global) h = first_small names spaces.Global ms (few spaces.Global) fine.1
    by _ h = h

-- ---- instructions

exponent_small : (count k n : ℕ) → unwrap_or (exponent_from count k n) 0 ≤ k + count
exponent_small zero k n = omega arith
exponent_small (suc count) k n = by (2 ^ k == n) (exponent_small count (k + 1) n)
  where
    by : (b : Bool) → unwrap_or (exponent_from count (k + 1) n) 0 ≤ k + 1 + count → unwrap_or (elim b [ true ↦ Some k | false ↦ exponent_from count (k + 1) n ]) 0 ≤ k + suc count
    by true h = omega arith
    by false h = omega (arith, h)

offset_small : (ms : List Marked) → AllByRecursion IsFine ms → FitsU32 (offset_in ms)
offset_small ms fine = by (first_with is_offset ms) refl
  where
    by : (o : Option Marked) → first_with is_offset ms ≡ o → FitsU32 (elim o [ Some m ↦ natural_or_0 (offset_of m) | None ↦ 0 ])
    by None e = omega arith
    by (Some m) e = let h = found_with IsFine is_offset ms m fine e in option_small (offset_of m) (offset_fine m.mark m.token h.0 h.1)

word_32_small : (z : ℤ) → word_of 32 z < 2 ^ 32
word_32_small (pos n) = omega arith
word_32_small (negsuc n) = omega arith

word_64_small : (z : ℤ) → word_of 64 z < 2 ^ 64
word_64_small (pos n) = omega arith
word_64_small (negsuc n) = omega arith

module _ (names : Space → Names) (few : (s : Space) → length (names s) ≤ most_names) (ms : List Marked) (fine : AllByRecursion IsFine ms) where
  access_fits : (op : MemOp) → FitsU32 (align_in op ms) × FitsU32 (offset_in ms)
  access_fits op = (let e = exponent_small 32 0 (elim (first_with is_alignment ms) [ Some m ↦ natural_or_0 (alignment_of m) | None ↦ op.size ]) in omega (arith, e), offset_small ms fine)

  plain_fits : (p : Plain) → PlainFits (plain_with names ms p)
  plain_fits (local_get x) = first_small names spaces.Local ms (few spaces.Local) fine
  plain_fits (local_set x) = first_small names spaces.Local ms (few spaces.Local) fine
  plain_fits (local_tee x) = first_small names spaces.Local ms (few spaces.Local) fine
  plain_fits (global_get x) = first_small names spaces.Global ms (few spaces.Global) fine
  plain_fits (global_set x) = first_small names spaces.Global ms (few spaces.Global) fine
  plain_fits (load op align offset) = access_fits op
  plain_fits (store op align offset) = access_fits op
  plain_fits (const32 word) = word_32_small (unwrap_or (number_in is_word ms) (pos 0))
  plain_fits (const64 word) = word_64_small (unwrap_or (number_in is_word ms) (pos 0))
  plain_fits _ = tt

  instruction_fits : (i : Instruction) → InstructionFits (with_immediates names ms i)
  instruction_fits (br l) = first_small names spaces.Label ms (few spaces.Label) fine
  instruction_fits (br_if l) = first_small names spaces.Label ms (few spaces.Label) fine
  instruction_fits (br_table ls l) =
      let labels = used names spaces.Label ms in
      let small = used_small names spaces.Label ms (few spaces.Label) fine in
      (All-from_recursion FitsU32 (take (length labels - 1) labels) (taken FitsU32 (length labels - 1) labels small), got_small labels (length labels - 1) small)
  instruction_fits (call f) = first_small names spaces.Func ms (few spaces.Func) fine
  instruction_fits (call_indirect t) = first_small names spaces.Type ms (few spaces.Type) fine
  instruction_fits (plain p) = plain_fits p
  instruction_fits _ = tt

-- ---- code

opened_grow : (labels : Names) (i : Instruction) → length (open_after labels i) ≤ length labels + 1
opened_grow labels (block r) = omega arith
opened_grow labels (loop r) = omega arith
opened_grow labels (if_block r) = omega arith
opened_grow labels end_mark = let less = length-drop 1 labels in omega (arith, less)
opened_grow labels _ = omega arith

labels_grow : (labels : Names) (k : Mark) (t : Token) → length (labels_after labels (marked k t)) ≤ length labels + 1
labels_grow labels (an_instruction form) t = opened_grow labels form
labels_grow labels (binds spaces.Label) t = let less = length-drop 1 labels in omega (arith, less)
labels_grow labels _ t = omega arith

at_mark : (names : Space → Names) → ((s : Space) → length (names s) ≤ most_names) → (ms : List Marked) → AllByRecursion IsFine ms → (k : Mark) → AllByRecursion InstructionFits (instruction_at names ms k)
at_mark names few ms fine (an_instruction form) = (instruction_fits names few (immediates_in ms) (taken IsFine (prefix_len (λ (m : Marked). not (is_instruction m.mark)) ms) ms fine) form, tt)
at_mark names few ms fine _ = tt

pub code_fits : (names : Names → Space → Names) (labels : Names) (ms : List Marked) → ((ls : Names) → length ls ≤ length labels + length ms → (s : Space) → length (names ls s) ≤ most_names)
    → AllByRecursion IsFine ms → AllByRecursion InstructionFits (instructions_in names labels ms ++ end_mark ∷ [])
code_fits names labels [] few fine = (tt, tt)
code_fits names labels (m ∷ ms) few fine =
    let grow = labels_grow labels m.mark m.token in
    behind (instruction_at (names labels) ms m.mark) (at_mark (names labels) (few labels (omega arith)) ms fine.1 m.mark)
    (code_fits names (labels_after labels m) ms (λ ls h. few ls (omega (arith, h, grow))) fine.1)
  where
    behind : (is : List Instruction) → AllByRecursion InstructionFits is → AllByRecursion InstructionFits (instructions_in names (labels_after labels m) ms ++ end_mark ∷ [])
        → AllByRecursion InstructionFits ((is ++ instructions_in names (labels_after labels m) ms) ++ end_mark ∷ [])
    behind [] a b = b
    behind (i ∷ is) a b = (a.0, behind is a.1 b)

pub names_at_few : (module_names : Space → Names) (locals labels : Names) → ((s : Space) → length (module_names s) ≤ most_names) → length locals ≤ most_names → length labels ≤ most_names → (s : Space) → length (names_at module_names locals labels s) ≤ most_names
names_at_few module_names locals labels few l k spaces.Local = l
names_at_few module_names locals labels few l k spaces.Label = k
names_at_few module_names locals labels few l k s = few s

-- ---- ids of parameters and locals

written_few : (p : Part) (id : Option (List ℕ)) (ms : List Marked) → length (written_ids p id ms) ≤ length ms
written_few p id [] = omega arith
written_few p id (m ∷ ms) = by (types_part p m.mark) (written_few p (id_after id m) ms)
  where
    by : (b : Bool) → length (written_ids p (id_after id m) ms) ≤ length ms → length {A = Option (List ℕ)} (elim b [ true ↦ id ∷ written_ids p (id_after id m) ms | false ↦ written_ids p (id_after id m) ms ]) ≤ length (m ∷ ms)
    by true h = omega (arith, h)
    by false h = omega (arith, h)

params_few : (count : ℕ) (ids : Names) → length (param_ids count ids) ≤ count + length ids
params_few count [] = let e : length (param_ids count []) ≡ count = length-replicate count None in omega (arith, e)
params_few count (i ∷ ids) = omega arith

pub locals_few : (count : ℕ) (ms : List Marked) → length (local_names count ms) ≤ count + (length ms + length ms)
locals_few count ms =
    let params = param_ids count (written_ids Param None ms) in
    let locals = written_ids Local None ms in
    let both = length-append params locals in
    let a = params_few count (written_ids Param None ms) in
    let b = written_few Param None ms in
    let c = written_few Local None ms in
    omega (arith, both, a, b, c)
