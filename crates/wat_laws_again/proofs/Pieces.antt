-- The tokens of a module with their marks are those of its pieces.
use Rattle.std.proofs.Common.{◌≡◌, ℕ, Bool, true, false, List, [], ◌∷◌, ◌++◌, map, Option, Some, None, codes, decimal, refl, sym, ap, ◌∙◌, append_assoc, append-nil}
use Rattle.std.specs.List.{flat_map}
use Rattle.wasm_lang.specs.declared.types.ValType.{ValType}
use Rattle.wasm_lang.specs.declared.types.ValType.TheVariants.{I32, I64}
use Rattle.wasm_lang.specs.declared.types.Limits.{Limits}
use Rattle.wasm_lang.specs.declared.types.ImportKind.{ImportKind}
use Rattle.wasm_lang.specs.declared.types.ImportKind.TheVariants as imports
use Rattle.wasm_lang.specs.declared.types.ExportKind.{ExportKind}
use Rattle.wasm_lang.specs.declared.types.ExportKind.TheVariants as exports
use Rattle.wasm_lang.specs.Instructions.{Plain, nop, Instruction, block, loop, if_block, br_table, plain}
use Rattle.wasm_lang.specs.Modules.{FunctionType, Imported, GlobalEntry, Exported, ElementSegment, DataSegment, FunctionBody, WasmModule}
use Rattle.wat_lang.specs.declared.parts.Space.{Space}
use Rattle.wat_lang.specs.declared.parts.Space.TheVariants as spaces
use Rattle.wat_lang.specs.declared.parts.Part.{Part}
use Rattle.wat_lang.specs.declared.parts.Part.TheVariants.{Param, Result, Local}
use Rattle.wat_lang.specs.Tokens.{Class, opens, closes, string, atom}
use Rattle.wat_lang.specs.Words.{name_of}
use Rattle.wat_lang.specs.Grammar.{Mark, uses, a_type_use, a_module_name, a_field_name, an_export_name, some_bytes}
use Rattle.wat_lang.specs.Printing as text
use Rattle.wat_lang.specs.Printing.{Piece, token, line_end, word, number, numbers, group, type_piece, type_pieces, types_group, use_group, maximum_pieces, limits_pieces, mutable_pieces, result_pieces, instruction_pieces, without_end, code_pieces, constant_pieces, type_field, import_field, function_field, function_fields, table_field, memory_field, global_field, exported, export_field, start_field, element_field, segment_field, fields_pieces, module_pieces}
use Rattle.wat_laws_print.specs.Pieces.{classes}
use Rattle.wat_laws_again.specs.Signs.{Sign, open_sign, close_sign, word_sign, number_sign, type_name, put_types, put_group, put_use, put_maximum, put_limits, put_mutable, put_result, put_numbers, put_plain, put_immediates, put_instruction, put_code, put_folded, put_all, put_type, put_described, put_import, put_function, put_functions, put_table, put_memory, put_global, put_exported, put_export, put_start, put_element, put_segment, put_fields, signs_of}

abbrev tokens : List Sign → List Class
tokens ss = map (λ (s : Sign). s.1) ss

-- ---- pieces one after the other

classes_joined : (ps qs : List Piece) → classes (ps ++ qs) ≡ classes ps ++ classes qs
classes_joined [] qs = refl
classes_joined (token c ∷ ps) qs = ap (λ (cs : List Class). c ∷ cs) (classes_joined ps qs)
classes_joined (line_end ∷ ps) qs = classes_joined ps qs

-- what stands in front of pieces, in front of signs
abbrev Puts : (List Sign → List Sign) → List Piece → Type 0
Puts put ps = (k : List Sign) → tokens (put k) ≡ classes ps ++ tokens k

-- one part, and another behind it
behind : (f g : List Sign → List Sign) (ps qs : List Piece) → Puts f ps → Puts g qs → Puts (λ k. f (g k)) (ps ++ qs)
behind f g ps qs p q k =
    p (g k) ∙ ap (λ (cs : List Class). classes ps ++ cs) (q k)
    ∙ sym (append_assoc (classes ps) (classes qs) (tokens k)) ∙ ap (λ (cs : List Class). cs ++ tokens k) (sym (classes_joined ps qs))

line : (f : List Sign → List Sign) (ps : List Piece) → Puts f ps → Puts f (ps ++ line_end ∷ [])
line f ps p = behind f (λ k. k) ps (line_end ∷ []) p (λ k. refl)

grouped : (keyword : List ℕ) (f : List Sign → List Sign) (ps : List Piece) → Puts f ps → (k : List Sign) → opens ∷ atom keyword ∷ tokens (f (close_sign ∷ k)) ≡ classes (group keyword ps) ++ tokens k
grouped keyword f ps p k = ap (λ (cs : List Class). opens ∷ atom keyword ∷ cs) (behind f (λ k. close_sign ∷ k) ps (token closes ∷ []) p (λ k. refl) k)

each : {X : Type 0} (f : X → List Sign → List Sign) (g : X → List Piece) → ((x : X) → Puts (f x) (g x)) → (xs : List X) → Puts (put_all f xs) (flat_map g xs)
each f g h [] = λ k. refl
each f g h (x ∷ xs) = behind (f x) (put_all f xs) (g x) (flat_map g xs) (h x) (each f g h xs)

-- ---- parts

first_type : (t : ValType) (ps : List Piece) → classes (type_piece t ∷ ps) ≡ atom (type_name t) ∷ classes ps
first_type I32 ps = refl
first_type I64 ps = refl

types : (p : Part) (ts : List ValType) → Puts (put_types p ts) (type_pieces ts)
types p [] k = refl
types p (t ∷ ts) k = ap (λ (cs : List Class). atom (type_name t) ∷ cs) (types p ts k) ∙ ap (λ (cs : List Class). cs ++ tokens k) (sym (first_type t (type_pieces ts)))

types_grouped : (p : Part) (keyword : List ℕ) (ts : List ValType) → Puts (put_group p keyword ts) (types_group keyword ts)
types_grouped p keyword [] k = refl
types_grouped p keyword (t ∷ ts) k = grouped keyword (put_types p (t ∷ ts)) (type_pieces (t ∷ ts)) (types p (t ∷ ts)) k

used : (mark : Mark) (t : ℕ) → Puts (put_use mark t) (use_group t)
used mark t k = refl

maximum : (max : Option ℕ) → Puts (put_maximum max) (maximum_pieces max)
maximum None k = refl
maximum (Some n) k = refl

limits : (s : Space) (l : Limits) → Puts (put_limits s l) (limits_pieces l)
limits s l k = ap (λ (cs : List Class). atom (decimal l.min) ∷ cs) (maximum l.max k)

global_type : (m : Bool) (t : ValType) → Puts (put_mutable m t) (mutable_pieces m t)
global_type false I32 k = refl
global_type false I64 k = refl
global_type true I32 k = refl
global_type true I64 k = refl

result : (r : Option ValType) → Puts (put_result r) (result_pieces r)
result None k = refl
result (Some I32) k = refl
result (Some I64) k = refl

number_list : (s : Space) (ns : List ℕ) → Puts (put_numbers s ns) (numbers ns)
number_list s [] k = refl
number_list s (n ∷ ns) k = ap (λ (cs : List Class). atom (decimal n) ∷ cs) (number_list s ns k)

-- ---- instructions

plain_parts : (p : Plain) → Puts (put_plain p) (text.plain_immediates p)
plain_parts nop k = refl
plain_parts _ k = refl

parts : (i : Instruction) → Puts (put_immediates i) (text.immediates i)
parts (block r) k = result r k
parts (loop r) k = result r k
parts (if_block r) k = result r k
parts (br_table ls l) k = behind (put_numbers spaces.Label ls) (λ k. number_sign (uses spaces.Label) l ∷ k) (numbers ls) (number l ∷ []) (number_list spaces.Label ls) (λ k. refl) k
parts (plain p) k = plain_parts p k
parts _ k = refl

instruction : (i : Instruction) → Puts (put_instruction i) (instruction_pieces i)
instruction i k = ap (λ (cs : List Class). atom (name_of i) ∷ cs) (parts i k)

lines : (is : List Instruction) → Puts (put_code is) (flat_map text.instruction_line is)
lines [] k = refl
lines (i ∷ is) k = behind (put_instruction i) (put_code is) (text.instruction_line i) (flat_map text.instruction_line is) (line (put_instruction i) (instruction_pieces i) (instruction i)) (lines is) k

one_folded : (i : Instruction) → Puts (λ k. open_sign ∷ put_instruction i (close_sign ∷ k)) (text.folded_instruction i)
one_folded i k = ap (λ (cs : List Class). opens ∷ cs) (behind (put_instruction i) (λ k. close_sign ∷ k) (instruction_pieces i) (token closes ∷ []) (instruction i) (λ k. refl) k)

folded : (is : List Instruction) → Puts (put_folded is) (flat_map text.folded_instruction is)
folded [] k = refl
folded (i ∷ is) k = behind (λ k. open_sign ∷ put_instruction i (close_sign ∷ k)) (put_folded is) (text.folded_instruction i) (flat_map text.folded_instruction is) (one_folded i) (folded is) k

-- ---- fields

type_parts : (t : FunctionType) → Puts (put_type t) (type_field t)
type_parts t =
    let heads : Puts (λ k. put_group Param (codes "param") t.params (put_group Result (codes "result") t.results k)) (types_group (codes "param") t.params ++ types_group (codes "result") t.results) =
    behind (put_group Param (codes "param") t.params) (put_group Result (codes "result") t.results) (types_group (codes "param") t.params) (types_group (codes "result") t.results)
    (types_grouped Param (codes "param") t.params) (types_grouped Result (codes "result") t.results) in
    let function : Puts (λ k. open_sign ∷ word_sign (codes "func") ∷ put_group Param (codes "param") t.params (put_group Result (codes "result") t.results (close_sign ∷ k))) (text.function_type_group t) =
    grouped (codes "func") (λ k. put_group Param (codes "param") t.params (put_group Result (codes "result") t.results k)) (types_group (codes "param") t.params ++ types_group (codes "result") t.results) heads in
    line (put_type t) (group (codes "type") (text.function_type_group t))
    (grouped (codes "type") (λ k. open_sign ∷ word_sign (codes "func") ∷ put_group Param (codes "param") t.params (put_group Result (codes "result") t.results (close_sign ∷ k))) (text.function_type_group t) function)

table_parts : (s : Space) (l : Limits) → Puts (λ k. put_limits s l (word_sign (codes "funcref") ∷ k)) (limits_pieces l ++ word (codes "funcref") ∷ [])
table_parts s l = behind (put_limits s l) (λ k. word_sign (codes "funcref") ∷ k) (limits_pieces l) (word (codes "funcref") ∷ []) (limits s l) (λ k. refl)

described : (d : ImportKind) → Puts (put_described d) (text.described d)
described (imports.Func t) k = grouped (codes "func") (put_use a_type_use t) (use_group t) (used a_type_use t) k
described (imports.Table l) k = grouped (codes "table") (λ k. put_limits spaces.Table l (word_sign (codes "funcref") ∷ k)) (limits_pieces l ++ word (codes "funcref") ∷ []) (table_parts spaces.Table l) k
described (imports.Memory l) k = grouped (codes "memory") (put_limits spaces.Memory l) (limits_pieces l) (limits spaces.Memory l) k
described (imports.Global g) k = grouped (codes "global") (put_mutable g.mutable g.kind) (mutable_pieces g.mutable g.kind) (global_type g.mutable g.kind) k

import_parts : (i : Imported) → Puts (put_import i) (import_field i)
import_parts i =
    line (put_import i) (group (codes "import") (token (string i.module_name) ∷ token (string i.name) ∷ text.described i.kind))
    (grouped (codes "import") (λ k. (a_module_name, string i.module_name) ∷ (a_field_name, string i.name) ∷ put_described i.kind k) (token (string i.module_name) ∷ token (string i.name) ∷ text.described i.kind)
    (λ k. ap (λ (cs : List Class). string i.module_name ∷ string i.name ∷ cs) (described i.kind k)))

function_parts : (t : ℕ) (body : FunctionBody) → Puts (put_function t body) (function_field t body)
function_parts t body k =
    let code : Puts (λ k. put_code (without_end body.code) (close_sign ∷ k)) (line_end ∷ (code_pieces body.code ++ token closes ∷ line_end ∷ [])) =
    behind (put_code (without_end body.code)) (λ k. close_sign ∷ k) (code_pieces body.code) (token closes ∷ line_end ∷ []) (lines (without_end body.code)) (λ k. refl) in
    ap (λ (cs : List Class). opens ∷ atom (codes "func") ∷ cs)
    (behind (put_use a_type_use t) (λ k. put_group Local (codes "local") body.locals (put_code (without_end body.code) (close_sign ∷ k))) (use_group t)
    (types_group (codes "local") body.locals ++ line_end ∷ (code_pieces body.code ++ token closes ∷ line_end ∷ [])) (used a_type_use t)
    (behind (put_group Local (codes "local") body.locals) (λ k. put_code (without_end body.code) (close_sign ∷ k)) (types_group (codes "local") body.locals)
    (line_end ∷ (code_pieces body.code ++ token closes ∷ line_end ∷ [])) (types_grouped Local (codes "local") body.locals) code) k)

functions_parts : (ts : List ℕ) (bodies : List FunctionBody) → Puts (put_functions ts bodies) (function_fields ts bodies)
functions_parts [] bodies k = refl
functions_parts (t ∷ ts) [] k = refl
functions_parts (t ∷ ts) (body ∷ bodies) k = behind (put_function t body) (put_functions ts bodies) (function_field t body) (function_fields ts bodies) (function_parts t body) (functions_parts ts bodies) k

table_field_parts : (l : Limits) → Puts (put_table l) (table_field l)
table_field_parts l =
    line (put_table l) (text.table_group l) (grouped (codes "table") (λ k. put_limits spaces.Table l (word_sign (codes "funcref") ∷ k)) (limits_pieces l ++ word (codes "funcref") ∷ []) (table_parts spaces.Table l))

memory_field_parts : (l : Limits) → Puts (put_memory l) (memory_field l)
memory_field_parts l = line (put_memory l) (text.memory_group l) (grouped (codes "memory") (put_limits spaces.Memory l) (limits_pieces l) (limits spaces.Memory l))

global_parts : (g : GlobalEntry) → Puts (put_global g) (global_field g)
global_parts g =
    let inner = text.global_type_pieces g.kind ++ constant_pieces g.init in
    line (put_global g) (group (codes "global") inner)
    (grouped (codes "global") (λ k. put_mutable g.kind.mutable g.kind.kind (put_folded (without_end g.init) k)) inner
    (behind (put_mutable g.kind.mutable g.kind.kind) (put_folded (without_end g.init)) (text.global_type_pieces g.kind) (constant_pieces g.init) (global_type g.kind.mutable g.kind.kind) (folded (without_end g.init))))

exported_parts : (e : ExportKind) → Puts (put_exported e) (text.exported e)
exported_parts (exports.Func n) k = refl
exported_parts (exports.Table n) k = refl
exported_parts (exports.Memory n) k = refl
exported_parts (exports.Global n) k = refl

export_parts : (e : Exported) → Puts (put_export e) (export_field e)
export_parts e =
    line (put_export e) (group (codes "export") (token (string e.name) ∷ text.exported e.kind))
    (grouped (codes "export") (λ k. (an_export_name, string e.name) ∷ put_exported e.kind k) (token (string e.name) ∷ text.exported e.kind) (λ k. ap (λ (cs : List Class). string e.name ∷ cs) (exported_parts e.kind k)))

start_parts : (start : Option ℕ) → Puts (put_start start) (start_field start)
start_parts None k = refl
start_parts (Some f) k = refl

element_parts : (e : ElementSegment) → Puts (put_element e) (element_field e)
element_parts e =
    let listed : Puts (λ k. word_sign (codes "func") ∷ put_numbers spaces.Func e.functions k) (word (codes "func") ∷ numbers e.functions) = λ k. ap (λ (cs : List Class). atom (codes "func") ∷ cs) (number_list spaces.Func e.functions k) in
    line (put_element e) (group (codes "elem") (constant_pieces e.offset ++ word (codes "func") ∷ numbers e.functions))
    (grouped (codes "elem") (λ k. put_folded (without_end e.offset) (word_sign (codes "func") ∷ put_numbers spaces.Func e.functions k)) (constant_pieces e.offset ++ word (codes "func") ∷ numbers e.functions)
    (behind (put_folded (without_end e.offset)) (λ k. word_sign (codes "func") ∷ put_numbers spaces.Func e.functions k) (constant_pieces e.offset) (word (codes "func") ∷ numbers e.functions) (folded (without_end e.offset)) listed))

segment_parts : (s : DataSegment) → Puts (put_segment s) (segment_field s)
segment_parts s =
    line (put_segment s) (group (codes "data") (constant_pieces s.offset ++ token (string s.bytes) ∷ []))
    (grouped (codes "data") (λ k. put_folded (without_end s.offset) ((some_bytes, string s.bytes) ∷ k)) (constant_pieces s.offset ++ token (string s.bytes) ∷ [])
    (behind (put_folded (without_end s.offset)) (λ k. (some_bytes, string s.bytes) ∷ k) (constant_pieces s.offset) (token (string s.bytes) ∷ []) (folded (without_end s.offset)) (λ k. refl)))

-- ---- modules

fields_parts : (m : WasmModule) → Puts (put_fields m) (fields_pieces m)
fields_parts m =
    let f10 : List Sign → List Sign = put_all put_segment m.segments in
    let q10 : List Piece = flat_map segment_field m.segments in
    let p10 : Puts f10 q10 = each put_segment segment_field segment_parts m.segments in
    let f9 : List Sign → List Sign = λ k. put_all put_element m.elements (f10 k) in
    let q9 : List Piece = flat_map element_field m.elements ++ q10 in
    let p9 : Puts f9 q9 = behind (put_all put_element m.elements) f10 (flat_map element_field m.elements) q10 (each put_element element_field element_parts m.elements) p10 in
    let f8 : List Sign → List Sign = λ k. put_start m.start (f9 k) in
    let q8 : List Piece = start_field m.start ++ q9 in
    let p8 : Puts f8 q8 = behind (put_start m.start) f9 (start_field m.start) q9 (start_parts m.start) p9 in
    let f7 : List Sign → List Sign = λ k. put_all put_export m.exports (f8 k) in
    let q7 : List Piece = flat_map export_field m.exports ++ q8 in
    let p7 : Puts f7 q7 = behind (put_all put_export m.exports) f8 (flat_map export_field m.exports) q8 (each put_export export_field export_parts m.exports) p8 in
    let f6 : List Sign → List Sign = λ k. put_all put_global m.globals (f7 k) in
    let q6 : List Piece = flat_map global_field m.globals ++ q7 in
    let p6 : Puts f6 q6 = behind (put_all put_global m.globals) f7 (flat_map global_field m.globals) q7 (each put_global global_field global_parts m.globals) p7 in
    let f5 : List Sign → List Sign = λ k. put_all put_memory m.memories (f6 k) in
    let q5 : List Piece = flat_map memory_field m.memories ++ q6 in
    let p5 : Puts f5 q5 = behind (put_all put_memory m.memories) f6 (flat_map memory_field m.memories) q6 (each put_memory memory_field memory_field_parts m.memories) p6 in
    let f4 : List Sign → List Sign = λ k. put_all put_table m.tables (f5 k) in
    let q4 : List Piece = flat_map table_field m.tables ++ q5 in
    let p4 : Puts f4 q4 = behind (put_all put_table m.tables) f5 (flat_map table_field m.tables) q5 (each put_table table_field table_field_parts m.tables) p5 in
    let f3 : List Sign → List Sign = λ k. put_functions m.functions m.bodies (f4 k) in
    let q3 : List Piece = function_fields m.functions m.bodies ++ q4 in
    let p3 : Puts f3 q3 = behind (put_functions m.functions m.bodies) f4 (function_fields m.functions m.bodies) q4 (functions_parts m.functions m.bodies) p4 in
    let f2 : List Sign → List Sign = λ k. put_all put_import m.imports (f3 k) in
    let q2 : List Piece = flat_map import_field m.imports ++ q3 in
    let p2 : Puts f2 q2 = behind (put_all put_import m.imports) f3 (flat_map import_field m.imports) q3 (each put_import import_field import_parts m.imports) p3 in
    let f1 : List Sign → List Sign = λ k. put_all put_type m.types (f2 k) in
    let q1 : List Piece = flat_map type_field m.types ++ q2 in
    let p1 : Puts f1 q1 = behind (put_all put_type m.types) f2 (flat_map type_field m.types) q2 (each put_type type_field type_parts m.types) p2 in
    p1

pub signs_are_pieces : (m : WasmModule) → tokens (signs_of m) ≡ classes (module_pieces m)
signs_are_pieces m =
    ap (λ (cs : List Class). opens ∷ atom (codes "module") ∷ cs) (behind (put_fields m) (λ k. close_sign ∷ k) (fields_pieces m) (token closes ∷ line_end ∷ []) (fields_parts m) (λ k. refl) [])
    ∙ ap (λ (cs : List Class). opens ∷ atom (codes "module") ∷ cs) (append-nil (classes (fields_pieces m ++ token closes ∷ line_end ∷ [])))
