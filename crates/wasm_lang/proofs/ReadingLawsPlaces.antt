-- A refused field's place is one of the input's, or its end.
use Rattle.std.proofs.Common.{◌≡◌, ℕ, zero, suc, ◌+◌, ◌<◌, ◌≤◌, Bool, true, false, cond, eqb, List, [], ◌∷◌, length, take, drop, Option, Some, None, refl, ap, subst, arith, length-drop, le_refl}
use Rattle.std.specs.Prelude.{Result, Ok, Err, nat_le, ◌&&◌, ◌||◌}
use Rattle.std.proofs.lemmas.Bool.{leb-true}
use Rattle.std.proofs.lemmas.List.{length-take-le}
use Rattle.wasm_lang.specs.declared.fault.Fault.{Fault}
use Rattle.wasm_lang.specs.declared.fault.Row.{Row}
use Rattle.wasm_lang.specs.declared.fault.Row.TheVariants.{Magic, Version, Truncated, SectionSize, UnknownByte, Utf8, Counts, Limit}
use Rattle.wasm_lang.specs.declared.fault.NumberFault.{NumberFault}
use Rattle.wasm_lang.specs.declared.fault.NumberFault.TheVariants.{Illegal, Ends}
use Rattle.wasm_lang.specs.declared.types.ImportKind.TheVariants as imports
use Rattle.wasm_lang.specs.declared.types.ExportKind.TheVariants as exports
use Rattle.wasm_lang.specs.Instructions.{Plain, local_get, local_set, local_tee, global_get, global_set, load, store, memory_size, memory_copy, memory_fill, const32, const64, Instruction, block, loop, if_block, br, br_if, br_table, call, call_indirect, plain}
use Rattle.wasm_lang.specs.Modules.{FunctionType}
use Rattle.wasm_lang.specs.Opcodes.{form_at}
use Rattle.wasm_lang.specs.Limits.{most_functions, most_globals, most_types, most_entries, most_params, most_locals, function_imports, global_imports, params_of}
use Rattle.wasm_lang.specs.Reading.{Input, Field, ◌>>=◌, expects, past, unsigned_at, integer_at, byte_field, number_field, u32_field, u32, integer, exactly, onto, items_field, vec_field, count_field, bytes_field, name_field, sized, val_type_of, val_type_field, result_of, block_type_field}
use Rattle.wasm_lang.specs.ReadingCode.{access_field, copy_or_fill_on, copy_or_fill, plain_immediates, immediates, by_form, after_opcode, instruction_field, Opening, may_stand, opened, code_on, code_from, code_field}
use Rattle.wasm_lang.specs.ReadingModule.{function_type_field, flag_field, limits_by, memory_field, table_field, global_type_field, import_kind_field, import_field, imports_field, global_field, export_kind_field, export_field, element_field, segment_field, runs_field, body_content, body_field, bodies_field, types_content, imports_content, functions_content, globals_content, bodies_content, counts, segments_content, custom_content, section_field, begins_with, after_id, customs_within, part_field, header_field, end_field, read_module}
use Rattle.wasm_lang.proofs.Numbers.{unsigned_is, integer_is}
use Rattle.wasm_lang.proofs.Fields.{unsigned_shrinks, integer_shrinks}
use Rattle.wasm_lang.proofs.ReadingLaws.{from, inner}
use Rattle.wasm_lang.proofs.ReadingLawsTypes.{max_if}
use Rattle.wasm_lang.proofs.ReadingLawsSections.{begins_is}

-- the bytes stand up to this place at most
abbrev Fits : ℕ → Input → Type 0
Fits end i = i.at + length i.bytes ≤ end

-- an answer is of this kind, and a fault has a place up to this one
record Stays {X : Type 0} (end : ℕ) (r : Result X Fault) (P : X → Type 0) : Type 0 where
  pub answer : (x : X) → r ≡ Ok x → P x
  pub refusal : (f : Fault) → r ≡ Err f → f.at ≤ end

abbrev Field_fits : {X : Type 0} → ℕ → Field X → Type 0
Field_fits end r = Stays end r (λ x. Fits end x.1)

same_fault : {X : Type 0} {f g : Fault} → ◌≡◌ {A = Result X Fault} (Err f) (Err g) → f ≡ g
same_fault e = cc

ok_stays : {X : Type 0} {end : ℕ} {x : X} {P : X → Type 0} → P x → Stays end (Ok x) P
ok_stays {P = P} p = record { answer = λ y q. subst P (inner q) p; refusal = λ f q. cc }

err_stays : {X : Type 0} {end : ℕ} {f : Fault} {P : X → Type 0} → f.at ≤ end → Stays end (Err f) P
err_stays {end = end} le = record { answer = λ y q. cc; refusal = λ g q. subst (λ f. f.at ≤ end) (same_fault q) le }

bind_stays : {A B : Type 0} {end : ℕ} {r : Result A Fault} {P : A → Type 0} {Q : B → Type 0} (g : A → Result B Fault) → Stays end r P → ((x : A) → P x → Stays end (g x) Q) → Stays end (r >>= g) Q
bind_stays {r = Ok x} g h k = k x (h.answer x refl)
bind_stays {r = Err f} g h k = err_stays (h.refusal f refl)

test_stays : {end : ℕ} (c : Bool) (row : Row) (at : ℕ) → at ≤ end → Stays end (expects c row at) (λ u. c ≡ true)
test_stays true row at le = ok_stays refl
test_stays false row at le = err_stays le

if_stays : {X : Type 0} {end : ℕ} {r s : Result X Fault} {P : X → Type 0} (c : Bool) → (c ≡ true → Stays end r P) → (c ≡ false → Stays end s P) → Stays end (cond c r s) P
if_stays true h k = h refl
if_stays false h k = k refl

onto_stays : {A B : Type 0} {end : ℕ} {r : Field A} (f : A → B) → Field_fits end r → Field_fits end (onto f r)
onto_stays f h = bind_stays _ h (λ x p. ok_stays p)

at_most : (end : ℕ) (i : Input) → Fits end i → i.at ≤ end
at_most end i le = omega (arith, le)

past_most : (end : ℕ) (row : Row) (i : Input) → Fits end i → past row i ≤ end
past_most end Truncated i le = le
past_most end row i le = at_most end i le

-- ---- fields

byte_stays : (end : ℕ) (row : Row) (i : Input) → Fits end i → Field_fits end (byte_field row i)
byte_stays end row i le = by i.bytes le
  where
    by : (bs : List ℕ) → i.at + length bs ≤ end → Field_fits end (byte_field row (from i.at bs))
    by [] le = err_stays (past_most end row (from i.at []) le)
    by (b ∷ bs) le = ok_stays (let l : i.at + length (b ∷ bs) ≤ end = le in omega (arith, l))

number_stays : (end : ℕ) (row : Row) (i : Input) → Fits end i → (r : Result (ℕ × List ℕ) NumberFault) → ((x : ℕ × List ℕ) → r ≡ Ok x → length x.1 < length i.bytes) → Field_fits end (number_field row i r)
number_stays end row i le (Ok x) h = ok_stays (let l = h x refl in omega (arith, l, le))
number_stays end row i le (Err Illegal) h = err_stays (at_most end i le)
number_stays end row i le (Err Ends) h = err_stays (past_most end row i le)

u32_stays : (end : ℕ) (row : Row) (i : Input) → Fits end i → Field_fits end (u32_field row i)
u32_stays end row i le = number_stays end row i le (unsigned_at 32 i.bytes) (λ x e. unsigned_shrinks 32 x.0 i.bytes x.1 (unsigned_is 32 x.0 i.bytes x.1 e))

number : (end : ℕ) (i : Input) → Fits end i → Field_fits end (u32 i)
number end i le = u32_stays end SectionSize i le

integer_stays : (end bits : ℕ) (i : Input) → Fits end i → Field_fits end (integer bits i)
integer_stays end bits i le = number_stays end SectionSize i le (integer_at bits i.bytes) (λ x e. integer_shrinks bits x.0 i.bytes x.1 (integer_is bits x.0 i.bytes x.1 e))

exactly_stays : (end b : ℕ) (i : Input) → Fits end i → Field_fits end (exactly b i)
exactly_stays end b i le = bind_stays _ (byte_stays end SectionSize i le) (λ x p. bind_stays _ (test_stays _ UnknownByte i.at (at_most end i le)) (λ u t. ok_stays p))

items_stay : {X : Type 0} (end : ℕ) (f : Input → Field X) → ((i : Input) → Fits end i → Field_fits end (f i)) → (n : ℕ) (i : Input) → Fits end i → Field_fits end (items_field f n i)
items_stay end f h zero i le = ok_stays le
items_stay end f h (suc n) i le = bind_stays _ (h i le) (λ v p. bind_stays _ (items_stay end f h n v.1 p) (λ vs q. ok_stays q))

vec_stays : {X : Type 0} (end : ℕ) (f : Input → Field X) → ((i : Input) → Fits end i → Field_fits end (f i)) → (i : Input) → Fits end i → Field_fits end (vec_field f i)
vec_stays end f h i le = bind_stays _ (number end i le) (λ n p. items_stay end f h n.0 n.1 p)

count_stays : (end used limit : ℕ) (i : Input) → Fits end i → Field_fits end (count_field used limit i)
count_stays end used limit i le = bind_stays _ (number end i le) (λ n p. bind_stays _ (test_stays _ Limit i.at (at_most end i le)) (λ u t. ok_stays p))

counted_stay : {X : Type 0} (end used limit : ℕ) (f : Input → Field X) → ((i : Input) → Fits end i → Field_fits end (f i)) → (i : Input) → Fits end i → Field_fits end (count_field used limit i >>= λ n. items_field f n.0 n.1)
counted_stay end used limit f h i le = bind_stays _ (count_stays end used limit i le) (λ n p. items_stay end f h n.0 n.1 p)

after_part : (end n : ℕ) (i : Input) → Fits end i → n ≤ length i.bytes → i.at + n + length (drop n i.bytes) ≤ end
after_part end n i le l = omega (arith, le, l, length-drop n i.bytes)

bytes_stay : (end : ℕ) (i : Input) → Fits end i → Field_fits end (bytes_field i)
bytes_stay end i le =
    bind_stays _ (number end i le) (λ n p.
    bind_stays _ (test_stays _ SectionSize n.1.at (at_most end n.1 p)) (λ u t.
    ok_stays (after_part end n.0 n.1 p (leb-true n.0 (length n.1.bytes) t))))

name_stays : (end : ℕ) (i : Input) → Fits end i → Field_fits end (name_field i)
name_stays end i le =
    bind_stays _ (number end i le) (λ n p.
    bind_stays _ (test_stays _ SectionSize n.1.at (at_most end n.1 p)) (λ u t.
    bind_stays _ (test_stays _ Utf8 n.1.at (at_most end n.1 p)) (λ v s.
    ok_stays (after_part end n.0 n.1 p (leb-true n.0 (length n.1.bytes) t)))))

sized_stays : {X : Type 0} (end : ℕ) (c : Input → Field X) → ((i : Input) → Fits end i → Field_fits end (c i)) → (size : ℕ) (i : Input) → Fits end i → size ≤ length i.bytes → Field_fits end (sized size c i)
sized_stays end c h size i le l =
    bind_stays _ (h (from i.at (take size i.bytes)) (omega (arith, le, l, length-take-le size i.bytes l))) (λ x p.
    bind_stays _ (test_stays _ SectionSize x.1.at (at_most end x.1 p)) (λ u t.
    ok_stays (after_part end size i le l)))

section_stays : {X : Type 0} (end : ℕ) (c : Input → Field X) → ((i : Input) → Fits end i → Field_fits end (c i)) → (i : Input) → Fits end i → Field_fits end (section_field c i)
section_stays end c h i le =
    bind_stays _ (u32_stays end Truncated i le) (λ n p.
    bind_stays _ (test_stays _ Truncated (n.1.at + length n.1.bytes) p) (λ u t.
    sized_stays end c h n.0 n.1 p (leb-true n.0 (length n.1.bytes) t)))

-- ---- types

type_of_stays : (end at b : ℕ) → at ≤ end → Stays end (val_type_of at b) (λ t. Unit {0})
type_of_stays end at b le = if_stays (eqb b 0x7f) (λ t. ok_stays tt) (λ t. if_stays (eqb b 0x7e) (λ t. ok_stays tt) (λ t. if_stays (eqb b 0x7d || eqb b 0x7c) (λ t. err_stays le) (λ t. err_stays le)))

val_type_stays : (end : ℕ) (i : Input) → Fits end i → Field_fits end (val_type_field i)
val_type_stays end i le = bind_stays _ (byte_stays end SectionSize i le) (λ b p. bind_stays _ (type_of_stays end i.at b.0 (at_most end i le)) (λ t u. ok_stays p))

result_of_stays : (end at b : ℕ) → at ≤ end → Stays end (result_of at b) (λ t. Unit {0})
result_of_stays end at b le = if_stays (eqb b 0x40) (λ t. ok_stays tt) (λ t. bind_stays _ (type_of_stays end at b le) (λ t u. ok_stays tt))

block_type_stays : (end : ℕ) (i : Input) → Fits end i → Field_fits end (block_type_field i)
block_type_stays end i le = bind_stays _ (byte_stays end SectionSize i le) (λ b p. bind_stays _ (result_of_stays end i.at b.0 (at_most end i le)) (λ t u. ok_stays p))

flag_stays : (end : ℕ) (i : Input) → Fits end i → Field_fits end (flag_field i)
flag_stays end i le =
    bind_stays _ (byte_stays end SectionSize i le) (λ b p.
    bind_stays {P = λ f. Unit {0}} _ (if_stays (eqb b.0 0x00) (λ t. ok_stays tt) (λ t. if_stays (eqb b.0 0x01) (λ t. ok_stays tt) (λ t. err_stays (at_most end i le)))) (λ f u. ok_stays p))

max_stays : (end : ℕ) (m : Bool) (n : ℕ) (i : Input) → Fits end i → Field_fits end (max_if m n i)
max_stays end false n i le = ok_stays le
max_stays end true n i le = bind_stays _ (number end i le) (λ m p. ok_stays p)

limits_stay : (end : ℕ) (min : Input → Field ℕ) → ((i : Input) → Fits end i → Field_fits end (min i)) → (i : Input) → Fits end i → Field_fits end (limits_by min i)
limits_stay end min h i le = bind_stays _ (flag_stays end i le) (λ m p. bind_stays _ (h m.1 p) (λ n q. max_stays end m.0 n.0 n.1 q))

memory_stays : (end : ℕ) (i : Input) → Fits end i → Field_fits end (memory_field i)
memory_stays end i le = limits_stay end u32 (number end) i le

table_stays : (end : ℕ) (i : Input) → Fits end i → Field_fits end (table_field i)
table_stays end i le = bind_stays _ (exactly_stays end 0x70 i le) (λ b p. limits_stay end (count_field 0 most_entries) (count_stays end 0 most_entries) b.1 p)

global_type_stays : (end : ℕ) (i : Input) → Fits end i → Field_fits end (global_type_field i)
global_type_stays end i le = bind_stays _ (val_type_stays end i le) (λ t p. bind_stays _ (flag_stays end t.1 p) (λ m q. ok_stays q))

function_type_stays : (end : ℕ) (i : Input) → Fits end i → Field_fits end (function_type_field i)
function_type_stays end i le =
    bind_stays _ (exactly_stays end 0x60 i le) (λ b p.
    bind_stays _ (count_stays end 0 most_params b.1 p) (λ n q.
    bind_stays _ (items_stay end val_type_field (val_type_stays end) n.0 n.1 q) (λ ps r.
    bind_stays _ (vec_stays end val_type_field (val_type_stays end) ps.1 r) (λ rs s. ok_stays s))))

-- ---- instructions

access_stays : (end : ℕ) (i : Input) → Fits end i → Field_fits end (access_field i)
access_stays end i le = bind_stays _ (number end i le) (λ a p. bind_stays _ (number end a.1 p) (λ o q. ok_stays q))

fill_stays : (end at n : ℕ) (i : Input) → at ≤ end → Fits end i → Field_fits end (copy_or_fill_on at n i)
fill_stays end at n i l le =
    if_stays (eqb n 10) (λ t. bind_stays _ (exactly_stays end 0 i le) (λ a p. onto_stays (λ b. memory_copy) (exactly_stays end 0 a.1 p)))
    (λ t. if_stays (eqb n 11) (λ t. onto_stays (λ b. memory_fill) (exactly_stays end 0 i le)) (λ t. err_stays l))

copy_stays : (end : ℕ) (i : Input) → Fits end i → Field_fits end (copy_or_fill i)
copy_stays end i le = bind_stays _ (number end i le) (λ n p. fill_stays end i.at n.0 n.1 (at_most end i le) p)

plain_stays : (end : ℕ) (form : Plain) (i : Input) → Fits end i → Field_fits end (plain_immediates form i)
plain_stays end (local_get x) i le = onto_stays local_get (number end i le)
plain_stays end (local_set x) i le = onto_stays local_set (number end i le)
plain_stays end (local_tee x) i le = onto_stays local_tee (number end i le)
plain_stays end (global_get x) i le = onto_stays global_get (number end i le)
plain_stays end (global_set x) i le = onto_stays global_set (number end i le)
plain_stays end (load op align offset) i le = onto_stays (λ access. load op access.0 access.1) (access_stays end i le)
plain_stays end (store op align offset) i le = onto_stays (λ access. store op access.0 access.1) (access_stays end i le)
plain_stays end memory_size i le = onto_stays (λ b. memory_size) (exactly_stays end 0 i le)
plain_stays end memory_copy i le = copy_stays end i le
plain_stays end (const32 word) i le = onto_stays const32 (integer_stays end 32 i le)
plain_stays end (const64 word) i le = onto_stays const64 (integer_stays end 64 i le)
plain_stays end p i le = ok_stays le

immediates_stay : (end : ℕ) (form : Instruction) (i : Input) → Fits end i → Field_fits end (immediates form i)
immediates_stay end (block r) i le = onto_stays block (block_type_stays end i le)
immediates_stay end (loop r) i le = onto_stays loop (block_type_stays end i le)
immediates_stay end (if_block r) i le = onto_stays if_block (block_type_stays end i le)
immediates_stay end (br l) i le = onto_stays br (number end i le)
immediates_stay end (br_if l) i le = onto_stays br_if (number end i le)
immediates_stay end (br_table ls l) i le = bind_stays _ (vec_stays end u32 (number end) i le) (λ ls p. bind_stays _ (number end ls.1 p) (λ l q. ok_stays q))
immediates_stay end (call f) i le = onto_stays call (number end i le)
immediates_stay end (call_indirect t) i le = bind_stays _ (number end i le) (λ t p. bind_stays _ (exactly_stays end 0 t.1 p) (λ b q. ok_stays q))
immediates_stay end (plain p) i le = onto_stays plain (plain_stays end p i le)
immediates_stay end form i le = ok_stays le

form_stays : (end at b : ℕ) (o : Option Instruction) (i : Input) → at ≤ end → Fits end i → Field_fits end (by_form at b o i)
form_stays end at b None i l le = err_stays l
form_stays end at b (Some form) i l le = immediates_stay end form i le

instruction_stays : (end : ℕ) (i : Input) → Fits end i → Field_fits end (instruction_field i)
unfolding after_opcode
instruction_stays end i le = bind_stays _ (byte_stays end SectionSize i le) (λ b p. form_stays end i.at b.0 (form_at b.0) b.1 (at_most end i le) p)

weaker_stays : {X : Type 0} {end : ℕ} {r : Result X Fault} {P : X → Type 0} → Stays end r P → Stays end r (λ x. Unit {0})
weaker_stays h = record { answer = λ x q. tt; refusal = h.refusal }

stand_stays : (end : ℕ) (os : List Opening) (i : Input) → Fits end i → Stays end (may_stand os i) (λ u. Unit {0})
stand_stays end os i le = by i.bytes
  where
    by : (bs : List ℕ) → Stays end (may_stand os (from i.at bs)) (λ u. Unit {0})
    by [] = ok_stays tt
    by (b ∷ bs) = if_stays (eqb b 0x05) (λ t. weaker_stays (test_stays _ UnknownByte i.at (at_most end i le))) (λ t. if_stays (nat_le 0x02 b && nat_le b 0x04) (λ t. weaker_stays (test_stays _ Limit i.at (at_most end i le))) (λ t. ok_stays tt))

code_on_stays : (end : ℕ) (x : Instruction × Input) (rest : List Opening → Field (List Instruction)) (os : Option (List Opening)) → Fits end x.1 → ((os : List Opening) → Field_fits end (rest os)) → Field_fits end (code_on x rest os)
code_on_stays end x rest None le h = ok_stays le
code_on_stays end x rest (Some os) le h = bind_stays _ (h os) (λ is p. ok_stays p)

code_from_stays : (end n : ℕ) (os : List Opening) (i : Input) → Fits end i → Field_fits end (code_from n os i)
code_from_stays end zero os i le = err_stays (at_most end i le)
code_from_stays end (suc n) os i le =
    bind_stays _ (stand_stays end os i le) (λ u t.
    bind_stays _ (instruction_stays end i le) (λ x p.
    code_on_stays end x (λ os. code_from n os x.1) (opened os x.0) p (λ os. code_from_stays end n os x.1 p)))

code_stays : (end : ℕ) (i : Input) → Fits end i → Field_fits end (code_field i)
code_stays end i le = code_from_stays end (length i.bytes) [] i le

-- ---- entries

import_kind_stays : (end functions globals : ℕ) (i : Input) → Fits end i → Field_fits end (import_kind_field functions globals i)
import_kind_stays end functions globals i le =
    bind_stays _ (byte_stays end SectionSize i le) (λ b p.
    if_stays (eqb b.0 0x00) (λ t. bind_stays _ (test_stays _ Limit i.at (at_most end i le)) (λ u t. onto_stays imports.Func (number end b.1 p)))
    (λ t. if_stays (eqb b.0 0x01) (λ t. onto_stays imports.Table (table_stays end b.1 p))
    (λ t. if_stays (eqb b.0 0x02) (λ t. onto_stays imports.Memory (memory_stays end b.1 p))
    (λ t. if_stays (eqb b.0 0x03) (λ t. bind_stays _ (test_stays _ Limit i.at (at_most end i le)) (λ u t. onto_stays imports.Global (global_type_stays end b.1 p)))
    (λ t. err_stays (at_most end i le))))))

import_stays : (end functions globals : ℕ) (i : Input) → Fits end i → Field_fits end (import_field functions globals i)
import_stays end functions globals i le =
    bind_stays _ (name_stays end i le) (λ m p. bind_stays _ (name_stays end m.1 p) (λ n q. bind_stays _ (import_kind_stays end functions globals n.1 q) (λ k r. ok_stays r)))

imports_stay : (end functions globals n : ℕ) (i : Input) → Fits end i → Field_fits end (imports_field functions globals n i)
imports_stay end functions globals zero i le = ok_stays le
imports_stay end functions globals (suc n) i le =
    bind_stays _ (import_stays end functions globals i le) (λ x p.
    bind_stays _ (imports_stay end (functions + function_imports (x.0 ∷ [])) (globals + global_imports (x.0 ∷ [])) n x.1 p) (λ xs q. ok_stays q))

global_stays : (end : ℕ) (i : Input) → Fits end i → Field_fits end (global_field i)
global_stays end i le = bind_stays _ (global_type_stays end i le) (λ t p. bind_stays _ (code_stays end t.1 p) (λ code q. ok_stays q))

export_kind_stays : (end : ℕ) (i : Input) → Fits end i → Field_fits end (export_kind_field i)
export_kind_stays end i le =
    bind_stays _ (byte_stays end SectionSize i le) (λ b p.
    if_stays (eqb b.0 0x00) (λ t. onto_stays exports.Func (number end b.1 p))
    (λ t. if_stays (eqb b.0 0x01) (λ t. onto_stays exports.Table (number end b.1 p))
    (λ t. if_stays (eqb b.0 0x02) (λ t. onto_stays exports.Memory (number end b.1 p))
    (λ t. if_stays (eqb b.0 0x03) (λ t. onto_stays exports.Global (number end b.1 p)) (λ t. err_stays (at_most end i le))))))

export_stays : (end : ℕ) (i : Input) → Fits end i → Field_fits end (export_field i)
export_stays end i le = bind_stays _ (name_stays end i le) (λ n p. bind_stays _ (export_kind_stays end n.1 p) (λ k q. ok_stays q))

element_stays : (end : ℕ) (i : Input) → Fits end i → Field_fits end (element_field i)
element_stays end i le =
    bind_stays _ (number end i le) (λ t p. bind_stays _ (code_stays end t.1 p) (λ code q. bind_stays _ (vec_stays end u32 (number end) code.1 q) (λ fs r. ok_stays r)))

segment_stays : (end : ℕ) (i : Input) → Fits end i → Field_fits end (segment_field i)
segment_stays end i le =
    bind_stays _ (number end i le) (λ m p. bind_stays _ (code_stays end m.1 p) (λ code q. bind_stays _ (bytes_stay end code.1 q) (λ bytes r. ok_stays r)))

runs_stay : (end used n : ℕ) (i : Input) → Fits end i → Field_fits end (runs_field used n i)
runs_stay end used zero i le = ok_stays le
runs_stay end used (suc n) i le =
    bind_stays _ (count_stays end used most_locals i le) (λ k p.
    bind_stays _ (val_type_stays end k.1 p) (λ t q.
    bind_stays _ (runs_stay end (used + k.0) n t.1 q) (λ ts r. ok_stays r)))

content_stays : (end params : ℕ) (i : Input) → Fits end i → Field_fits end (body_content params i)
content_stays end params i le =
    bind_stays _ (number end i le) (λ n p. bind_stays _ (runs_stay end params n.0 n.1 p) (λ ls q. bind_stays _ (code_stays end ls.1 q) (λ code r. ok_stays r)))

body_stays : (end params : ℕ) (i : Input) → Fits end i → Field_fits end (body_field params i)
body_stays end params i le =
    bind_stays _ (number end i le) (λ n p.
    bind_stays _ (test_stays _ SectionSize i.at (at_most end i le)) (λ u t.
    sized_stays end (body_content params) (content_stays end params) n.0 n.1 p (leb-true n.0 (length n.1.bytes) t)))

bodies_stay : (end : ℕ) (types : List FunctionType) (fs : List ℕ) (i : Input) → Fits end i → Field_fits end (bodies_field types fs i)
bodies_stay end types [] i le = ok_stays le
bodies_stay end types (t ∷ ts) i le = bind_stays _ (body_stays end (params_of types t) i le) (λ b p. bind_stays _ (bodies_stay end types ts b.1 p) (λ bs q. ok_stays q))

-- ---- sections

imports_content_stays : (end : ℕ) (i : Input) → Fits end i → Field_fits end (imports_content i)
imports_content_stays end i le = bind_stays _ (number end i le) (λ n p. imports_stay end 0 0 n.0 n.1 p)

bodies_content_stays : (end : ℕ) (types : List FunctionType) (fs : List ℕ) (i : Input) → Fits end i → Field_fits end (bodies_content types fs i)
bodies_content_stays end types fs i le =
    bind_stays _ (number end i le) (λ n p. bind_stays _ (test_stays _ Counts i.at (at_most end i le)) (λ u t. bodies_stay end types fs n.1 p))

segments_content_stays : (end : ℕ) (count : Option ℕ) (i : Input) → Fits end i → Field_fits end (segments_content count i)
segments_content_stays end count i le =
    bind_stays _ (number end i le) (λ n p.
    bind_stays (λ u. items_field segment_field n.0 n.1) (test_stays (counts count n.0) Counts i.at (at_most end i le)) (λ u t. items_stay end segment_field (segment_stays end) n.0 n.1 p))

custom_stays : (end : ℕ) (i : Input) → Fits end i → Field_fits end (custom_content i)
custom_stays end i le = bind_stays _ (name_stays end i le) (λ n p. ok_stays (let l : n.1.at + length n.1.bytes ≤ end = p in omega (arith, l)))

after_fits : (end id : ℕ) (i : Input) → begins_with id i.bytes ≡ true → Fits end i → Fits end (after_id i)
after_fits end id i t le = omega (arith, le, ap length (begins_is id i.bytes t))

customs_stay : (end n : ℕ) (i : Input) → Fits end i → Stays end (customs_within n i) (Fits end)
customs_stay end zero i le = ok_stays le
customs_stay end (suc n) i le =
    if_stays (begins_with 0 i.bytes) (λ t. bind_stays _ (section_stays end custom_content (custom_stays end) (after_id i) (after_fits end 0 i t le)) (λ x p. customs_stay end n x.1 p)) (λ t. ok_stays le)

part_stays : {X : Type 0} (end id : ℕ) (absent : X) (c : Input → Field X) → ((i : Input) → Fits end i → Field_fits end (c i)) → (i : Input) → Fits end i → Field_fits end (part_field id absent c i)
part_stays end id absent c h i le =
    bind_stays _ (customs_stay end (length i.bytes) i le) (λ j p.
    if_stays (begins_with id j.bytes) (λ t. section_stays end c h (after_id j) (after_fits end id j t p)) (λ t. ok_stays p))

header_stays : (end : ℕ) (row : Row) (es : List ℕ) (i : Input) → Fits end i → Stays end (header_field row es i) (Fits end)
header_stays end row [] i le = ok_stays le
header_stays end row (e ∷ es) i le =
    bind_stays _ (byte_stays end Truncated i le) (λ b p. bind_stays _ (test_stays _ row i.at (at_most end i le)) (λ u t. header_stays end row es b.1 p))

end_stays : (end : ℕ) (i : Input) → Fits end i → Stays end (end_field i) (λ at. at ≤ end)
end_stays end i le = by i.bytes
  where
    by : (bs : List ℕ) → Stays end (end_field (from i.at bs)) (λ at. at ≤ end)
    by [] = ok_stays (at_most end i le)
    by (b ∷ bs) = err_stays (at_most end i le)

some_stays : (end : ℕ) (i : Input) → Fits end i → Field_fits end (onto Some (u32 i))
some_stays end i le = onto_stays Some (number end i le)

module_stays : (end : ℕ) (bytes : List ℕ) → length bytes ≤ end → Stays end (read_module bytes) (λ m. Unit {0})
unfolding read_module
module_stays end bytes le =
    bind_stays _ (header_stays end Magic (0x00 ∷ 0x61 ∷ 0x73 ∷ 0x6d ∷ []) (from 0 bytes) (omega (arith, le))) (λ h p.
    bind_stays _ (header_stays end Version (0x01 ∷ 0x00 ∷ 0x00 ∷ 0x00 ∷ []) h p) (λ i p.
    bind_stays _ (part_stays end 1 [] types_content (counted_stay end 0 most_types function_type_field (function_type_stays end)) i p) (λ types p.
    bind_stays _ (part_stays end 2 [] imports_content (imports_content_stays end) types.1 p) (λ is p.
    bind_stays _ (part_stays end 3 [] (functions_content is.0) (counted_stay end (function_imports is.0) most_functions u32 (number end)) is.1 p) (λ functions p.
    bind_stays _ (part_stays end 4 [] (vec_field table_field) (vec_stays end table_field (table_stays end)) functions.1 p) (λ tables p.
    bind_stays _ (part_stays end 5 [] (vec_field memory_field) (vec_stays end memory_field (memory_stays end)) tables.1 p) (λ memories p.
    bind_stays _ (part_stays end 6 [] (globals_content is.0) (counted_stay end (global_imports is.0) most_globals global_field (global_stays end)) memories.1 p) (λ globals p.
    bind_stays _ (part_stays end 7 [] (vec_field export_field) (vec_stays end export_field (export_stays end)) globals.1 p) (λ es p.
    bind_stays _ (part_stays end 8 None (λ i. onto Some (u32 i)) (some_stays end) es.1 p) (λ start p.
    bind_stays _ (part_stays end 9 [] (vec_field element_field) (vec_stays end element_field (element_stays end)) start.1 p) (λ elements p.
    bind_stays _ (part_stays end 12 None (λ i. onto Some (u32 i)) (some_stays end) elements.1 p) (λ count p.
    bind_stays _ (part_stays end 10 [] (bodies_content types.0 functions.0) (bodies_content_stays end types.0 functions.0) count.1 p) (λ bodies p.
    bind_stays _ (part_stays end 11 [] (segments_content count.0) (segments_content_stays end count.0) bodies.1 p) (λ segments p.
    bind_stays _ (customs_stay end (length segments.1.bytes) segments.1 p) (λ last p.
    bind_stays _ (end_stays end last p) (λ at l.
    bind_stays _ (test_stays (eqb (length bodies.0) (length functions.0)) Counts at l) (λ u t.
    bind_stays _ (test_stays (counts count.0 (length segments.0)) Counts at l) (λ v s.
    ok_stays tt))))))))))))))))))

pub place_within : (bytes : List ℕ) (f : Fault) → read_module bytes ≡ Err f → f.at ≤ length bytes
place_within bytes f e = (module_stays (length bytes) bytes (le_refl (length bytes))).refusal f e
