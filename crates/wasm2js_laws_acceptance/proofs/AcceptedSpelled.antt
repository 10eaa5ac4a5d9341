-- A module that bytes spell has words for constants and bytes in its segments.
use Rattle.std.proofs.Common.{◌≡◌, ℕ, ◌+◌, ◌-◌, ◌*◌, ◌^◌, ◌<◌, ◌≤◌, Bool, List, [], ◌∷◌, ◌++◌, length, Option, ap, ◌∙◌, subst, arith}
use Rattle.std.specs.Prelude.{All}
use Rattle.std.specs.List.{AllByRecursion}
use Rattle.std.proofs.lemmas.List.Elements.{All-from_recursion, recursion_from_All}
use Rattle.std.proofs.lemmas.Nat.{pow-add, pow_pos}
use Rattle.std.proofs.Math.Pow.{pow_mono}
use Rattle.wasm_lang.specs.declared.types.ValType.{ValType}
use Rattle.wasm_lang.specs.declared.types.GlobalType.{GlobalType}
use Rattle.wasm_lang.specs.Instructions.{Plain, local_get, local_set, local_tee, global_get, global_set, load, store, memory_size, memory_copy, memory_fill, const32, const64, Instruction, unreachable, block, loop, if_block, else_mark, end_mark, br, br_if, br_table, return, call, call_indirect, plain}
use Rattle.wasm_lang.specs.Modules.{GlobalEntry, DataSegment, FunctionBody}
use Rattle.wasm_lang.specs.Numbers.{IsUnsigned, last_unsigned, more_unsigned, IsInteger, last_positive, last_negative, more_integer, IsU32}
use Rattle.wasm_lang.specs.Grammar.{Spelling, Items, no_item, item, IsVec, IsBytes, IsSized, IsValType, i32_type, i64_type, IsBlockType, no_result, one_result, IsMutable, is_constant, is_variable, IsGlobalType, global_type, IsMemoryImmediate, ArePlainImmediates, AreImmediates, IsInstruction, instruction, IsCode, IsGlobal, a_global, IsRun, a_run, IsFunctionBody, a_body, IsSegment, a_segment, IsCustoms, no_custom, custom, IsSection, no_section, section, IsNumberSection, no_number, number}
use Rattle.wasm_lang.proofs.Shaped.{spelled_shaped}
use Rattle.wasm_laws_sound.proofs.Functions.{spelled_are_whole}
use Rattle.wasm2js_laws_acceptance.specs.FunctionsFunctions.{HasWord}
use Rattle.wasm2js_laws_acceptance.specs.AcceptedLaws.{SpelledAreSources}

abbrev Low : List ℕ → Type 0
Low xs = AllByRecursion (λ b. b < 256) xs

low_first : (xs ys : List ℕ) → Low (xs ++ ys) → Low xs
low_first [] ys h = tt
low_first (x ∷ xs) ys h = (h.0, low_first xs ys h.1)

low_second : (xs ys : List ℕ) → Low (xs ++ ys) → Low ys
low_second [] ys h = h
low_second (x ∷ xs) ys h = low_second xs ys h.1

-- ---- numbers

unsigned_low : (bits n : ℕ) (xs ys : List ℕ) → IsUnsigned bits n xs ys → Low xs → Low ys
unsigned_low bits n xs ys (last_unsigned p q) h = h.1
unsigned_low bits n xs ys (more_unsigned {xs = zs} p q r) h = unsigned_low _ _ zs ys r h.1

integer_low : (bits n : ℕ) (xs ys : List ℕ) → IsInteger bits n xs ys → Low xs → Low ys
integer_low bits n xs ys (last_positive p q) h = h.1
integer_low bits n xs ys (last_negative p q r) h = h.1
integer_low bits n xs ys (more_integer {xs = zs} p q r) h = integer_low _ _ zs ys r h.1

shifted : (bits : ℕ) → 7 < bits → 2 ^ bits ≡ 128 * 2 ^ (bits - 7)
shifted bits h = let e : bits ≡ 7 + (bits - 7) = omega (arith, h) in ap (λ k. 2 ^ k) e ∙ pow-add 2 7 (bits - 7)

in_turn : {a b c : ℕ} → a < b → b ≤ c → a < c
in_turn p q = omega (arith, p, q)

negative_fits : (b p : ℕ) → b < 128 → 0 < p → b + p - 128 < p
negative_fits b p h k = omega (arith, h, k)

further_fits : (high b p q : ℕ) → high < q → b < 256 → p ≡ 128 * q → 128 * high + (b - 128) < p
further_fits high b p q h k e = omega (arith, h, k, e)

integer_fits : (bits n : ℕ) (xs ys : List ℕ) → IsInteger bits n xs ys → Low xs → n < 2 ^ bits
integer_fits bits n xs ys (last_positive p q) h = in_turn q (pow_mono {i = bits - 1} {j = bits} (omega arith))
integer_fits bits n xs ys (last_negative {b = b} p q r) h = negative_fits b (2 ^ bits) q (pow_pos bits)
integer_fits bits n xs ys (more_integer {b = b} {high = high} {xs = zs} p q r) h = further_fits high b (2 ^ bits) (2 ^ (bits - 7)) (integer_fits (bits - 7) high zs ys r h.1) h.0 (shifted bits q)

-- ---- vectors, and parts of a given size

module _ {X : Type 0} (P : Spelling X) (Q : X → Type 0) (each : (v : X) (xs ys : List ℕ) → P v xs ys → Low xs → Q v × Low ys) where
  items_all : (vs : List X) (xs ys : List ℕ) → Items P vs xs ys → Low xs → AllByRecursion Q vs × Low ys
  items_all [] xs ys no_item h = (tt, h)
  items_all (v ∷ vs) xs ys (item {ys = zs} p ps) h =
      let a = each v xs zs p h in
      let b = items_all vs zs ys ps a.1 in
      ((a.0, b.0), b.1)

  vec_all : (vs : List X) (xs ys : List ℕ) → IsVec P vs xs ys → Low xs → AllByRecursion Q vs × Low ys
  vec_all vs xs ys v h = items_all vs v.after_count ys v.items (unsigned_low 32 (length vs) xs v.after_count v.count h)

abbrev Nothing : {X : Type 0} → X → Type 0
Nothing x = Unit {0}

numbers_low : (ns : List ℕ) (xs ys : List ℕ) → IsVec IsU32 ns xs ys → Low xs → Low ys
numbers_low ns xs ys v h = (vec_all IsU32 Nothing (λ n xs ys p h. (tt, unsigned_low 32 n xs ys p h)) ns xs ys v h).1

bytes_low : (bs xs ys : List ℕ) → IsBytes bs xs ys → Low xs → Low bs × Low ys
bytes_low bs xs ys b h =
    let k = subst Low b.stand (unsigned_low 32 (length bs) xs b.after_count b.count h) in
    (low_first bs ys k, low_second bs ys k)

module _ {X : Type 0} (P : Spelling X) where
  sized_low : (v : X) (xs ys : List ℕ) → (s : IsSized P v xs ys) → Low xs → Low s.content × Low ys
  sized_low v xs ys s h =
      let k = subst Low s.stands (unsigned_low 32 (length s.content) xs s.after_size s.size h) in
      (low_first s.content ys k, low_second s.content ys k)

-- ---- types

val_type_low : (t : ValType) (xs ys : List ℕ) → IsValType t xs ys → Low xs → Low ys
val_type_low t xs ys i32_type h = h.1
val_type_low t xs ys i64_type h = h.1

block_type_low : (r : Option ValType) (xs ys : List ℕ) → IsBlockType r xs ys → Low xs → Low ys
block_type_low r xs ys no_result h = h.1
block_type_low r xs ys (one_result {t = t} p) h = val_type_low t xs ys p h

mutable_low : (m : Bool) (xs ys : List ℕ) → IsMutable m xs ys → Low xs → Low ys
mutable_low m xs ys is_constant h = h.1
mutable_low m xs ys is_variable h = h.1

global_type_low : (g : GlobalType) (xs ys : List ℕ) → IsGlobalType g xs ys → Low xs → Low ys
global_type_low g xs ys (global_type {t = t} {m = m} {ys = zs} p q) h = mutable_low m zs ys q (val_type_low t xs zs p h)

-- ---- instructions

memory_low : (a o : ℕ) (xs ys : List ℕ) → IsMemoryImmediate a o xs ys → Low xs → Low ys
memory_low a o xs ys p h = unsigned_low 32 o p.0 ys p.2 (unsigned_low 32 a xs p.0 p.1 h)

same_low : (xs ys : List ℕ) → xs ≡ ys → Low xs → Low ys
same_low xs ys e h = subst Low e h

plain_word : (p : Plain) (xs ys : List ℕ) → ArePlainImmediates p xs ys → Low xs → HasWord (plain p) × Low ys
plain_word (local_get x) xs ys p h = (tt, unsigned_low 32 x xs ys p h)
plain_word (local_set x) xs ys p h = (tt, unsigned_low 32 x xs ys p h)
plain_word (local_tee x) xs ys p h = (tt, unsigned_low 32 x xs ys p h)
plain_word (global_get x) xs ys p h = (tt, unsigned_low 32 x xs ys p h)
plain_word (global_set x) xs ys p h = (tt, unsigned_low 32 x xs ys p h)
plain_word (load op align offset) xs ys p h = (tt, memory_low align offset xs ys p h)
plain_word (store op align offset) xs ys p h = (tt, memory_low align offset xs ys p h)
plain_word memory_size xs ys p h = (tt, (subst Low p h).1)
plain_word memory_copy xs ys p h = (tt, (unsigned_low 32 10 xs (0x00 ∷ 0x00 ∷ ys) p h).1.1)
plain_word memory_fill xs ys p h = (tt, (unsigned_low 32 11 xs (0x00 ∷ ys) p h).1)
plain_word (const32 word) xs ys p h = (integer_fits 32 word xs ys p h, integer_low 32 word xs ys p h)
plain_word (const64 word) xs ys p h = (integer_fits 64 word xs ys p h, integer_low 64 word xs ys p h)
plain_word p xs ys e h = (tt, same_low xs ys e h)

immediate_word : (i : Instruction) (xs ys : List ℕ) → AreImmediates i xs ys → Low xs → HasWord i × Low ys
immediate_word (block r) xs ys p h = (tt, block_type_low r xs ys p h)
immediate_word (loop r) xs ys p h = (tt, block_type_low r xs ys p h)
immediate_word (if_block r) xs ys p h = (tt, block_type_low r xs ys p h)
immediate_word (br l) xs ys p h = (tt, unsigned_low 32 l xs ys p h)
immediate_word (br_if l) xs ys p h = (tt, unsigned_low 32 l xs ys p h)
immediate_word (br_table ls l) xs ys p h = (tt, unsigned_low 32 l p.0 ys p.2 (numbers_low ls xs p.0 p.1 h))
immediate_word (call f) xs ys p h = (tt, unsigned_low 32 f xs ys p h)
immediate_word (call_indirect t) xs ys p h = (tt, (unsigned_low 32 t xs (0x00 ∷ ys) p h).1)
immediate_word (plain p) xs ys q h = plain_word p xs ys q h
immediate_word unreachable xs ys e h = (tt, same_low xs ys e h)
immediate_word else_mark xs ys e h = (tt, same_low xs ys e h)
immediate_word end_mark xs ys e h = (tt, same_low xs ys e h)
immediate_word return xs ys e h = (tt, same_low xs ys e h)

instruction_word : (i : Instruction) (xs ys : List ℕ) → IsInstruction i xs ys → Low xs → HasWord i × Low ys
instruction_word i xs ys (instruction {xs = zs} opcode immediates) h = immediate_word i zs ys immediates h.1

code_words : (code : List Instruction) (xs ys : List ℕ) → IsCode code xs ys → Low xs → AllByRecursion HasWord code × Low ys
code_words code xs ys c h = items_all IsInstruction HasWord instruction_word code xs ys c.instructions h

-- ---- entries of sections

run_low : (r : ℕ × ValType) (xs ys : List ℕ) → IsRun r xs ys → Low xs → Unit {0} × Low ys
run_low r xs ys (a_run {n = n} {t = t} {ys = zs} p q) h = (tt, val_type_low t zs ys q (unsigned_low 32 n xs zs p h))

body_words : (b : FunctionBody) (xs ys : List ℕ) → IsFunctionBody b xs ys → Low xs → All HasWord b.code
body_words b xs ys (a_body {runs = runs} {code = code} {ys = zs} v c few) h =
    All-from_recursion HasWord code (code_words code zs ys c (vec_all IsRun Nothing run_low runs xs zs v h).1).0

sized_words : (b : FunctionBody) (xs ys : List ℕ) → IsSized IsFunctionBody b xs ys → Low xs → All HasWord b.code × Low ys
sized_words b xs ys s h = let k = sized_low IsFunctionBody b xs ys s h in (body_words b s.content [] s.is k.0, k.1)

global_words : (g : GlobalEntry) (xs ys : List ℕ) → IsGlobal g xs ys → Low xs → All HasWord g.init × Low ys
global_words g xs ys (a_global {t = t} {code = code} {ys = zs} p c) h =
    let k = code_words code zs ys c (global_type_low t xs zs p h) in
    (All-from_recursion HasWord code k.0, k.1)

segment_bytes : (s : DataSegment) (xs ys : List ℕ) → IsSegment s xs ys → Low xs → All (λ b. b < 256) s.bytes × Low ys
segment_bytes s xs ys (a_segment {m = m} {code = code} {bytes = bytes} {ys = zs} {zs = ws} p c b) h =
    let k = code_words code zs ws c (unsigned_low 32 m xs zs p h) in
    let l = bytes_low bytes ws ys b k.1 in
    (All-from_recursion (λ b. b < 256) bytes l.0, l.1)

-- ---- sections

customs_low : (xs ys : List ℕ) → IsCustoms xs ys → Low xs → Low ys
customs_low xs ys no_custom h = h
customs_low xs ys (custom {rest = rest} {xs = zs} {ys = ws} s c) h = customs_low ws ys c (sized_low _ rest zs ws s h.1).1

module _ {X : Type 0} (id : ℕ) (P : Spelling X) where
  section_low : (vs : List X) (xs ys : List ℕ) → IsSection id P vs xs ys → Low xs → Low ys
  section_low vs xs ys (no_section c) h = customs_low xs ys c h
  section_low vs xs ys (section {ys = zs} c s) h = (sized_low (IsVec P) vs zs ys s (customs_low xs (id ∷ zs) c h).1).1

  section_all : (Q : X → Type 0) → ((v : X) (xs ys : List ℕ) → P v xs ys → Low xs → Q v × Low ys) → (vs : List X) (xs ys : List ℕ) → IsSection id P vs xs ys → Low xs → All Q vs
  section_all Q each vs xs ys (no_section c) h = All-from_recursion Q [] tt
  section_all Q each vs xs ys (section {ys = zs} c s) h =
      let k = sized_low (IsVec P) vs zs ys s (customs_low xs (id ∷ zs) c h).1 in
      All-from_recursion Q vs (vec_all P Q each vs s.content [] s.is k.0).0

number_section_low : (id : ℕ) (o : Option ℕ) (xs ys : List ℕ) → IsNumberSection id o xs ys → Low xs → Low ys
number_section_low id o xs ys (no_number c) h = customs_low xs ys c h
number_section_low id o xs ys (number {n = n} {ys = zs} c s) h = (sized_low IsU32 n zs ys s (customs_low xs (id ∷ zs) c h).1).1

-- ---- modules

pub spelled_are_sources : SpelledAreSources
spelled_are_sources w spelled profile =
    let bytes = spelled.0 in
    let b = spelled.1 in
    let all = subst Low b.begins (recursion_from_All (λ b. b < 256) bytes b.are_bytes) in
    let h = all.1.1.1.1.1.1.1.1 in
    let types = section_low 1 _ w.types b.after_header b.after_types b.types h in
    let imports = section_low 2 _ w.imports b.after_types b.after_imports b.imports types in
    let functions = section_low 3 _ w.functions b.after_imports b.after_functions b.functions imports in
    let tables = section_low 4 _ w.tables b.after_functions b.after_tables b.tables functions in
    let memories = section_low 5 _ w.memories b.after_tables b.after_memories b.memories tables in
    let globals = section_low 6 IsGlobal w.globals b.after_memories b.after_globals b.globals memories in
    let exports = section_low 7 _ w.exports b.after_globals b.after_exports b.exports globals in
    let start = number_section_low 8 w.start b.after_exports b.after_start b.start exports in
    let elements = section_low 9 _ w.elements b.after_start b.after_elements b.elements start in
    let count = number_section_low 12 b.data_count b.after_elements b.after_data_count b.data_count_section elements in
    let bodies = section_low 10 (IsSized IsFunctionBody) w.bodies b.after_data_count b.after_bodies b.bodies count in (
      record {
        whole = spelled_are_whole w spelled profile.valid;
        shaped = spelled_shaped bytes w b;
        within = profile.within;
        words = section_all 10 (IsSized IsFunctionBody) (λ (b : FunctionBody). All HasWord b.code) sized_words w.bodies b.after_data_count b.after_bodies b.bodies count;
        bytes = section_all 11 IsSegment (λ (s : DataSegment). All (λ b. b < 256) s.bytes) segment_bytes w.segments b.after_bodies b.after_segments b.segments bodies;
      },
      section_all 6 IsGlobal (λ (g : GlobalEntry). All HasWord g.init) global_words w.globals b.after_memories b.after_globals b.globals memories,
    )
