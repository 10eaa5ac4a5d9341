-- The pieces of a module whose numbers are words can be written.
use Rattle.std.proofs.Common.{◌≡◌, ℕ, zero, suc, ◌-◌, ◌^◌, ◌≤◌, min, Bool, true, false, List, [], ◌∷◌, ◌++◌, length, take, Option, Some, None, codes, refl, arith}
use Rattle.std.specs.List.{flat_map, AllByRecursion}
use Rattle.std.proofs.Math.Pow.{pow_mono}
use Rattle.wasm_lang.specs.declared.types.ValType.{ValType}
use Rattle.wasm_lang.specs.declared.types.ValType.TheVariants.{I32, I64}
use Rattle.wasm_lang.specs.declared.types.Limits.{Limits}
use Rattle.wasm_lang.specs.declared.types.ImportKind.{ImportKind}
use Rattle.wasm_lang.specs.declared.types.ImportKind.TheVariants as imports
use Rattle.wasm_lang.specs.declared.types.ExportKind.{ExportKind}
use Rattle.wasm_lang.specs.declared.types.ExportKind.TheVariants as exports
use Rattle.wasm_lang.specs.Instructions.{Plain, nop, drop_operand, select, local_get, local_set, local_tee, global_get, global_set, load, store, memory_size, memory_copy, memory_fill, const32, const64, eqz32, eqz64, rel32, rel64, un32, un64, bin32, bin64, wrap, extend_s, extend_u, sign_extend, Instruction, unreachable, block, loop, if_block, else_mark, end_mark, br, br_if, br_table, return, call, call_indirect, plain}
use Rattle.wasm_lang.specs.Modules.{FunctionType, Imported, GlobalEntry, Exported, ElementSegment, DataSegment, FunctionBody, WasmModule}
use Rattle.wat_lang.specs.Tokens.{closes, string}
use Rattle.wat_lang.specs.Printing.{Piece, token, line_end, word, number, numbers, group, type_piece, type_pieces, types_group, function_type_group, use_group, maximum_pieces, limits_pieces, table_group, memory_group, mutable_pieces, global_type_pieces, result_pieces, access_pieces, plain_immediates, immediates, instruction_pieces, instruction_line, folded_instruction, without_end, code_pieces, constant_pieces, type_field, described, import_field, function_field, function_fields, table_field, memory_field, global_field, exported, export_field, start_field, element_field, segment_field, fields_pieces, module_pieces}
use Rattle.wat_laws_print.specs.Pieces.{is_atom, AreFit}
use Rattle.wat_laws_print.specs.Words.{IsNumber, AreBytes, HasPlainWords, HasWords, IsMaximum, AreLimits, IsImported, IsExported, IsOfWords}
use Rattle.wat_laws_print.proofs.Numerals.{decimal_atom, digits_all, word_32_atom, word_64_atom}
use Rattle.wat_laws_print.proofs.Names.{name_atom}

-- ---- pieces one after the other

joined_fit : (ps qs : List Piece) → AreFit ps → AreFit qs → AreFit (ps ++ qs)
joined_fit [] qs f g = g
joined_fit (token c ∷ ps) qs f g = (f.0, joined_fit ps qs f.1 g)
joined_fit (line_end ∷ ps) qs f g = joined_fit ps qs f g

each_fit : {X : Type 0} (P : X → Type 0) (f : X → List Piece) → ((x : X) → P x → AreFit (f x)) → (xs : List X) → AllByRecursion P xs → AreFit (flat_map f xs)
each_fit P f fit [] all = tt
each_fit P f fit (x ∷ xs) all = joined_fit (f x) (flat_map f xs) (fit x all.0) (each_fit P f fit xs all.1)

always_fit : {X : Type 0} (f : X → List Piece) → ((x : X) → AreFit (f x)) → (xs : List X) → AreFit (flat_map f xs)
always_fit f fit [] = tt
always_fit f fit (x ∷ xs) = joined_fit (f x) (flat_map f xs) (fit x) (always_fit f fit xs)

group_fit : (keyword : List ℕ) (ps : List Piece) → is_atom keyword ≡ true → AreFit ps → AreFit (group keyword ps)
group_fit keyword ps is f = (tt, (is, joined_fit ps (token closes ∷ []) f (tt, tt)))

line_fit : (ps : List Piece) → AreFit ps → AreFit (ps ++ line_end ∷ [])
line_fit ps f = joined_fit ps (line_end ∷ []) f tt

taken : {X : Type 0} (P : X → Type 0) (n : ℕ) (xs : List X) → AllByRecursion P xs → AllByRecursion P (take n xs)
taken P zero xs all = tt
taken P (suc n) [] all = tt
taken P (suc n) (x ∷ xs) all = (all.0, taken P n xs all.1)

-- ---- parts

number_fit : (n : ℕ) → IsNumber n → AreFit (number n ∷ [])
number_fit n lt = (decimal_atom n (omega (arith, lt)), tt)

numbers_fit : (ns : List ℕ) → AllByRecursion IsNumber ns → AreFit (numbers ns)
numbers_fit ns all = each_fit IsNumber (λ n. number n ∷ []) number_fit ns all

type_fit : (t : ValType) → AreFit (type_piece t ∷ [])
type_fit I32 = (refl, tt)
type_fit I64 = (refl, tt)

types_group_fit : (keyword : List ℕ) (ts : List ValType) → is_atom keyword ≡ true → AreFit (types_group keyword ts)
types_group_fit keyword [] is = tt
types_group_fit keyword (t ∷ ts) is = group_fit keyword (type_pieces (t ∷ ts)) is (always_fit (λ t. type_piece t ∷ []) type_fit (t ∷ ts))

use_fit : (t : ℕ) → IsNumber t → AreFit (use_group t)
use_fit t lt = group_fit (codes "type") (number t ∷ []) refl (number_fit t lt)

maximum_fit : (max : Option ℕ) → IsMaximum max → AreFit (maximum_pieces max)
maximum_fit None h = tt
maximum_fit (Some n) h = number_fit n h

limits_fit : (l : Limits) → AreLimits l → AreFit (limits_pieces l)
limits_fit l h = joined_fit (number l.min ∷ []) (maximum_pieces l.max) (number_fit l.min h.0) (maximum_fit l.max h.1)

table_fit : (l : Limits) → AreLimits l → AreFit (table_group l)
table_fit l h = group_fit (codes "table") (limits_pieces l ++ word (codes "funcref") ∷ []) refl (joined_fit (limits_pieces l) (word (codes "funcref") ∷ []) (limits_fit l h) (refl, tt))

memory_fit : (l : Limits) → AreLimits l → AreFit (memory_group l)
memory_fit l h = group_fit (codes "memory") (limits_pieces l) refl (limits_fit l h)

mutable_fit : (mutable : Bool) (kind : ValType) → AreFit (mutable_pieces mutable kind)
mutable_fit false kind = type_fit kind
mutable_fit true kind = group_fit (codes "mut") (type_piece kind ∷ []) refl (type_fit kind)

-- ---- instructions

result_fit : (r : Option ValType) → AreFit (result_pieces r)
result_fit None = tt
result_fit (Some t) = group_fit (codes "result") (type_piece t ∷ []) refl (type_fit t)

access_fit : (align offset : ℕ) → IsNumber offset → AreFit (access_pieces align offset)
access_fit align offset lt =
    let few : min align 63 ≤ 63 = omega arith in
    let small : 2 ^ min align 63 ≤ 2 ^ 63 = pow_mono few in
    (digits_all offset (omega (arith, lt)), (digits_all (2 ^ min align 63) (omega (arith, small)), tt))

plain_fit : (p : Plain) → HasPlainWords p → AreFit (plain_immediates p)
plain_fit nop h = tt
plain_fit drop_operand h = tt
plain_fit select h = tt
plain_fit (local_get x) h = number_fit x h
plain_fit (local_set x) h = number_fit x h
plain_fit (local_tee x) h = number_fit x h
plain_fit (global_get x) h = number_fit x h
plain_fit (global_set x) h = number_fit x h
plain_fit (load op align offset) h = access_fit align offset h
plain_fit (store op align offset) h = access_fit align offset h
plain_fit memory_size h = tt
plain_fit memory_copy h = tt
plain_fit memory_fill h = tt
plain_fit (const32 w) h = (word_32_atom w h, tt)
plain_fit (const64 w) h = (word_64_atom w h, tt)
plain_fit eqz32 h = tt
plain_fit eqz64 h = tt
plain_fit (rel32 op) h = tt
plain_fit (rel64 op) h = tt
plain_fit (un32 op) h = tt
plain_fit (un64 op) h = tt
plain_fit (bin32 op) h = tt
plain_fit (bin64 op) h = tt
plain_fit wrap h = tt
plain_fit extend_s h = tt
plain_fit extend_u h = tt
plain_fit (sign_extend wide bits) h = tt

immediates_fit : (i : Instruction) → HasWords i → AreFit (immediates i)
immediates_fit unreachable h = tt
immediates_fit (block r) h = result_fit r
immediates_fit (loop r) h = result_fit r
immediates_fit (if_block r) h = result_fit r
immediates_fit else_mark h = tt
immediates_fit end_mark h = tt
immediates_fit (br l) h = number_fit l h
immediates_fit (br_if l) h = number_fit l h
immediates_fit (br_table ls l) h = joined_fit (numbers ls) (number l ∷ []) (numbers_fit ls h.0) (number_fit l h.1)
immediates_fit return h = tt
immediates_fit (call f) h = number_fit f h
immediates_fit (call_indirect t) h = use_fit t h
immediates_fit (plain p) h = plain_fit p h

instruction_fit : (i : Instruction) → HasWords i → AreFit (instruction_pieces i)
instruction_fit i h = (name_atom i, immediates_fit i h)

code_fit : (code : List Instruction) → AllByRecursion HasWords code → AreFit (code_pieces code)
code_fit code all = each_fit HasWords instruction_line (λ i h. line_fit (instruction_pieces i) (instruction_fit i h)) (without_end code) (taken HasWords (length code - 1) code all)

constant_fit : (code : List Instruction) → AllByRecursion HasWords code → AreFit (constant_pieces code)
constant_fit code all =
    each_fit HasWords folded_instruction (λ i h. (tt, joined_fit (instruction_pieces i) (token closes ∷ []) (instruction_fit i h) (tt, tt))) (without_end code) (taken HasWords (length code - 1) code all)

-- ---- fields

type_field_fit : (t : FunctionType) → AreFit (type_field t)
type_field_fit t =
    line_fit (group (codes "type") (function_type_group t)) (group_fit (codes "type") (function_type_group t) refl
    (group_fit (codes "func") (types_group (codes "param") t.params ++ types_group (codes "result") t.results) refl
    (joined_fit (types_group (codes "param") t.params) (types_group (codes "result") t.results) (types_group_fit (codes "param") t.params refl) (types_group_fit (codes "result") t.results refl))))

described_fit : (k : ImportKind) → IsImported k → AreFit (described k)
described_fit (imports.Func t) h = group_fit (codes "func") (use_group t) refl (use_fit t h)
described_fit (imports.Table l) h = table_fit l h
described_fit (imports.Memory l) h = memory_fit l h
described_fit (imports.Global kind) h = group_fit (codes "global") (global_type_pieces kind) refl (mutable_fit kind.mutable kind.kind)

exported_fit : (k : ExportKind) → IsExported k → AreFit (exported k)
exported_fit (exports.Func n) h = group_fit (codes "func") (number n ∷ []) refl (number_fit n h)
exported_fit (exports.Table n) h = group_fit (codes "table") (number n ∷ []) refl (number_fit n h)
exported_fit (exports.Memory n) h = group_fit (codes "memory") (number n ∷ []) refl (number_fit n h)
exported_fit (exports.Global n) h = group_fit (codes "global") (number n ∷ []) refl (number_fit n h)

function_fit : (t : ℕ) (body : FunctionBody) → IsNumber t → AllByRecursion HasWords body.code → AreFit (function_field t body)
function_fit t body lt all =
    let code : List Piece = code_pieces body.code ++ token closes ∷ line_end ∷ [] in
    let locals : List Piece = types_group (codes "local") body.locals in (
      tt,
      (
        refl,
        joined_fit (use_group t) (locals ++ line_end ∷ code) (use_fit t lt)
            (joined_fit locals (line_end ∷ code) (types_group_fit (codes "local") body.locals refl)
            (joined_fit (code_pieces body.code) (token closes ∷ line_end ∷ []) (code_fit body.code all) (tt, tt))),
      ),
    )

functions_fit : (ts : List ℕ) (bodies : List FunctionBody) → AllByRecursion IsNumber ts → AllByRecursion (λ b. AllByRecursion HasWords b.code) bodies → AreFit (function_fields ts bodies)
functions_fit [] bodies all code = tt
functions_fit (t ∷ ts) [] all code = tt
functions_fit (t ∷ ts) (body ∷ bodies) all code = joined_fit (function_field t body) (function_fields ts bodies) (function_fit t body all.0 code.0) (functions_fit ts bodies all.1 code.1)

start_fit : (start : Option ℕ) → IsMaximum start → AreFit (start_field start)
start_fit None h = tt
start_fit (Some f) h = line_fit (group (codes "start") (number f ∷ [])) (group_fit (codes "start") (number f ∷ []) refl (number_fit f h))

import_fit : (i : Imported) → AreBytes i.module_name × AreBytes i.name × IsImported i.kind → AreFit (import_field i)
import_fit i h =
    let parts : List Piece = token (string i.module_name) ∷ token (string i.name) ∷ described i.kind in
    line_fit (group (codes "import") parts) (group_fit (codes "import") parts refl (h.0, (h.1, described_fit i.kind h.2)))

global_fit : (g : GlobalEntry) → AllByRecursion HasWords g.init → AreFit (global_field g)
global_fit g all =
    let parts : List Piece = global_type_pieces g.kind ++ constant_pieces g.init in
    line_fit (group (codes "global") parts) (group_fit (codes "global") parts refl (joined_fit (global_type_pieces g.kind) (constant_pieces g.init) (mutable_fit g.kind.mutable g.kind.kind) (constant_fit g.init all)))

export_fit : (e : Exported) → AreBytes e.name × IsExported e.kind → AreFit (export_field e)
export_fit e h =
    let parts : List Piece = token (string e.name) ∷ exported e.kind in
    line_fit (group (codes "export") parts) (group_fit (codes "export") parts refl (h.0, exported_fit e.kind h.1))

element_fit : (e : ElementSegment) → AllByRecursion HasWords e.offset × AllByRecursion IsNumber e.functions → AreFit (element_field e)
element_fit e h =
    let functions : List Piece = word (codes "func") ∷ numbers e.functions in
    let parts : List Piece = constant_pieces e.offset ++ functions in
    line_fit (group (codes "elem") parts) (group_fit (codes "elem") parts refl (joined_fit (constant_pieces e.offset) functions (constant_fit e.offset h.0) (refl, numbers_fit e.functions h.1)))

segment_fit : (s : DataSegment) → AllByRecursion HasWords s.offset × AreBytes s.bytes → AreFit (segment_field s)
segment_fit s h =
    let bytes : List Piece = token (string s.bytes) ∷ [] in
    let parts : List Piece = constant_pieces s.offset ++ bytes in
    line_fit (group (codes "data") parts) (group_fit (codes "data") parts refl (joined_fit (constant_pieces s.offset) bytes (constant_fit s.offset h.0) (h.1, tt)))

-- ---- modules

fields_fit : (m : WasmModule) → IsOfWords m → AreFit (fields_pieces m)
fields_fit m h =
    let segments : List Piece = flat_map segment_field m.segments in
    let elements : List Piece = flat_map element_field m.elements ++ segments in
    let start : List Piece = start_field m.start ++ elements in
    let exports : List Piece = flat_map export_field m.exports ++ start in
    let globals : List Piece = flat_map global_field m.globals ++ exports in
    let memories : List Piece = flat_map memory_field m.memories ++ globals in
    let tables : List Piece = flat_map table_field m.tables ++ memories in
    let functions : List Piece = function_fields m.functions m.bodies ++ tables in
    let imports : List Piece = flat_map import_field m.imports ++ functions in
    joined_fit (flat_map type_field m.types) imports (always_fit type_field type_field_fit m.types)
    (joined_fit (flat_map import_field m.imports) functions (each_fit (λ i. AreBytes i.module_name × AreBytes i.name × IsImported i.kind) import_field import_fit m.imports h.imports)
    (joined_fit (function_fields m.functions m.bodies) tables (functions_fit m.functions m.bodies h.functions h.bodies)
    (joined_fit (flat_map table_field m.tables) memories (each_fit AreLimits table_field (λ l g. line_fit (table_group l) (table_fit l g)) m.tables h.tables)
    (joined_fit (flat_map memory_field m.memories) globals (each_fit AreLimits memory_field (λ l g. line_fit (memory_group l) (memory_fit l g)) m.memories h.memories)
    (joined_fit (flat_map global_field m.globals) exports (each_fit (λ g. AllByRecursion HasWords g.init) global_field global_fit m.globals h.globals)
    (joined_fit (flat_map export_field m.exports) start (each_fit (λ e. AreBytes e.name × IsExported e.kind) export_field export_fit m.exports h.exports)
    (joined_fit (start_field m.start) elements (start_fit m.start h.start)
    (joined_fit (flat_map element_field m.elements) segments
    (each_fit (λ e. AllByRecursion HasWords e.offset × AllByRecursion IsNumber e.functions) element_field element_fit m.elements h.elements)
    (each_fit (λ s. AllByRecursion HasWords s.offset × AreBytes s.bytes) segment_field segment_fit m.segments h.segments)))))))))

pub module_fit : (m : WasmModule) → IsOfWords m → AreFit (module_pieces m)
module_fit m h = (tt, (refl, joined_fit (fields_pieces m) (token closes ∷ line_end ∷ []) (fields_fit m h) (tt, tt)))
