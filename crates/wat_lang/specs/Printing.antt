-- The canonical text of a module: its fields in the order of this page, each but a function on one line. There are no ids.
-- Tokens of a line stand one space apart, but for the inner side of a parenthesis, and a line feed ends each line.
use Rattle.std.specs.Prelude.{ℕ, ◌+◌, ◌-◌, ◌/◌, ◌%◌, ◌^◌, Bool, true, false, ◌&&◌, not, List, [], ◌∷◌, ◌++◌, length, take, Option, Some, None, min, codes, decimal, nat_le, ◌==◌, if◌then◌else◌}
use Rattle.std.specs.List.{flat_map}
use Rattle.std.specs.Fmt.{signed_decimal}
use Rattle.sem_words.specs.Words.{signed_of}
use Rattle.wasm_lang.specs.declared.types.ValType.{ValType}
use Rattle.wasm_lang.specs.declared.types.ValType.TheVariants.{I32, I64}
use Rattle.wasm_lang.specs.declared.types.Limits.{Limits}
use Rattle.wasm_lang.specs.declared.types.GlobalType.{GlobalType}
use Rattle.wasm_lang.specs.declared.types.ImportKind.{ImportKind}
use Rattle.wasm_lang.specs.declared.types.ImportKind.TheVariants as imports
use Rattle.wasm_lang.specs.declared.types.ExportKind.{ExportKind}
use Rattle.wasm_lang.specs.declared.types.ExportKind.TheVariants as exports
use Rattle.wasm_lang.specs.Instructions.{Plain, local_get, local_set, local_tee, global_get, global_set, load, store, const32, const64, Instruction, block, loop, if_block, br, br_if, br_table, call, call_indirect, plain}
use Rattle.wasm_lang.specs.Modules.{FunctionType, Imported, GlobalEntry, Exported, ElementSegment, DataSegment, FunctionBody, WasmModule}
use Rattle.wat_lang.specs.Tokens.{Class, opens, closes, string, atom}
use Rattle.wat_lang.specs.Words.{name_of}

-- a token, or the end of a line
pub data Piece : Type 0 where
  token : Class → Piece
  line_end : Piece

-- ---- how pieces are laid out

-- a digit of 4 bits
abbrev pub hexadecimal_digit : ℕ → ℕ
hexadecimal_digit n = if nat_le n 9 then 48 + n else 87 + n

-- Bytes from space to `~` stand as they are, but for `"` and `\`.
abbrev pub stands_as_it_is : ℕ → Bool
stands_as_it_is b = (nat_le 32 b && nat_le b 126) && (not (b == 34) && not (b == 92))

-- each other byte by `\` and two hexadecimal digits
abbrev pub byte_text : ℕ → List ℕ
byte_text b =
    if stands_as_it_is b then b ∷ []
    else 92 ∷ hexadecimal_digit (b / 16) ∷ hexadecimal_digit (b % 16) ∷ []

abbrev pub string_text : List ℕ → List ℕ
string_text value = 34 ∷ (flat_map byte_text value ++ 34 ∷ [])

abbrev pub space_if : (apart : Bool) → List ℕ
space_if false = []
space_if true = 32 ∷ []

-- A space stands before a token that isn't `)`, unless it is the first of a line or stands behind `(`.
abbrev pub joined : (apart : Bool) → List Piece → List ℕ
joined apart [] = []
joined apart (token opens ∷ ps) = space_if apart ++ 40 ∷ joined false ps
joined apart (token closes ∷ ps) = 41 ∷ joined true ps
joined apart (token (string value) ∷ ps) = space_if apart ++ (string_text value ++ joined true ps)
joined apart (token (atom bytes) ∷ ps) = space_if apart ++ (bytes ++ joined true ps)
joined apart (line_end ∷ ps) = 10 ∷ joined false ps

-- ---- parts

abbrev pub word : List ℕ → Piece
word bytes = token (atom bytes)

abbrev pub number : ℕ → Piece
number n = word (decimal n)

abbrev pub numbers : List ℕ → List Piece
numbers ns = flat_map (λ n. number n ∷ []) ns

-- what stands behind a keyword, in parentheses
abbrev pub group : (keyword : List ℕ) → List Piece → List Piece
group keyword ps = token opens ∷ word keyword ∷ (ps ++ token closes ∷ [])

abbrev pub type_piece : ValType → Piece
type_piece I32 = word (codes "i32")
type_piece I64 = word (codes "i64")

abbrev pub type_pieces : List ValType → List Piece
type_pieces types = flat_map (λ t. type_piece t ∷ []) types

-- an empty list isn't written
abbrev pub types_group : (keyword : List ℕ) → List ValType → List Piece
types_group keyword [] = []
types_group keyword (t ∷ ts) = group keyword (type_pieces (t ∷ ts))

abbrev pub function_type_group : FunctionType → List Piece
function_type_group t = group (codes "func") (types_group (codes "param") t.params ++ types_group (codes "result") t.results)

abbrev pub use_group : (type : ℕ) → List Piece
use_group type = group (codes "type") (number type ∷ [])

abbrev pub maximum_pieces : Option ℕ → List Piece
maximum_pieces None = []
maximum_pieces (Some n) = number n ∷ []

abbrev pub limits_pieces : Limits → List Piece
limits_pieces limits = number limits.min ∷ maximum_pieces limits.max

abbrev pub table_group : Limits → List Piece
table_group limits = group (codes "table") (limits_pieces limits ++ word (codes "funcref") ∷ [])

abbrev pub memory_group : Limits → List Piece
memory_group limits = group (codes "memory") (limits_pieces limits)

abbrev pub mutable_pieces : (mutable : Bool) → ValType → List Piece
mutable_pieces false kind = type_piece kind ∷ []
mutable_pieces true kind = group (codes "mut") (type_piece kind ∷ [])

abbrev pub global_type_pieces : GlobalType → List Piece
global_type_pieces kind = mutable_pieces kind.mutable kind.kind

-- ---- instructions

abbrev pub result_pieces : Option ValType → List Piece
result_pieces None = []
result_pieces (Some t) = group (codes "result") (type_piece t ∷ [])

-- The alignment is written in bytes. An exponent past 63, which no valid module has, counts as 63.
abbrev pub access_pieces : (align offset : ℕ) → List Piece
access_pieces align offset = word (codes "offset=" ++ decimal offset) ∷ word (codes "align=" ++ decimal (2 ^ min align 63)) ∷ []

-- a word of so many bits, by its signed reading
abbrev pub constant_piece : (width : ℕ) → ℕ → Piece
constant_piece width w = word (signed_decimal (signed_of width w))

abbrev pub plain_immediates : Plain → List Piece
plain_immediates (local_get x) = number x ∷ []
plain_immediates (local_set x) = number x ∷ []
plain_immediates (local_tee x) = number x ∷ []
plain_immediates (global_get x) = number x ∷ []
plain_immediates (global_set x) = number x ∷ []
plain_immediates (load op align offset) = access_pieces align offset
plain_immediates (store op align offset) = access_pieces align offset
plain_immediates (const32 w) = constant_piece 32 w ∷ []
plain_immediates (const64 w) = constant_piece 64 w ∷ []
plain_immediates _ = []

abbrev pub immediates : Instruction → List Piece
immediates (block r) = result_pieces r
immediates (loop r) = result_pieces r
immediates (if_block r) = result_pieces r
immediates (br l) = number l ∷ []
immediates (br_if l) = number l ∷ []
immediates (br_table ls l) = numbers ls ++ number l ∷ []
immediates (call f) = number f ∷ []
immediates (call_indirect t) = use_group t
immediates (plain p) = plain_immediates p
immediates _ = []

abbrev pub instruction_pieces : Instruction → List Piece
instruction_pieces i = word (name_of i) ∷ immediates i

-- the instructions of an expression without the end that closes it
abbrev pub without_end : List Instruction → List Instruction
without_end code = take (length code - 1) code

abbrev pub instruction_line : Instruction → List Piece
instruction_line i = instruction_pieces i ++ line_end ∷ []

abbrev pub code_pieces : List Instruction → List Piece
code_pieces code = flat_map instruction_line (without_end code)

-- in a first value or an offset each instruction stands in parentheses
abbrev pub folded_instruction : Instruction → List Piece
folded_instruction i = token opens ∷ (instruction_pieces i ++ token closes ∷ [])

abbrev pub constant_pieces : List Instruction → List Piece
constant_pieces code = flat_map folded_instruction (without_end code)

-- ---- fields

abbrev pub type_field : FunctionType → List Piece
type_field t = group (codes "type") (function_type_group t) ++ line_end ∷ []

abbrev pub described : ImportKind → List Piece
described (imports.Func t) = group (codes "func") (use_group t)
described (imports.Table limits) = table_group limits
described (imports.Memory limits) = memory_group limits
described (imports.Global kind) = group (codes "global") (global_type_pieces kind)

abbrev pub import_field : Imported → List Piece
import_field i = group (codes "import") (token (string i.module_name) ∷ token (string i.name) ∷ described i.kind) ++ line_end ∷ []

abbrev pub function_field : (type : ℕ) → FunctionBody → List Piece
function_field type body =
    token opens ∷ word (codes "func") ∷ (use_group type ++ (types_group (codes "local") body.locals
    ++ line_end ∷ (code_pieces body.code ++ token closes ∷ line_end ∷ [])))

abbrev pub function_fields : List ℕ → List FunctionBody → List Piece
function_fields [] bodies = []
function_fields (t ∷ ts) [] = []
function_fields (t ∷ ts) (body ∷ bodies) = function_field t body ++ function_fields ts bodies

abbrev pub table_field : Limits → List Piece
table_field limits = table_group limits ++ line_end ∷ []

abbrev pub memory_field : Limits → List Piece
memory_field limits = memory_group limits ++ line_end ∷ []

abbrev pub global_field : GlobalEntry → List Piece
global_field g = group (codes "global") (global_type_pieces g.kind ++ constant_pieces g.init) ++ line_end ∷ []

abbrev pub exported : ExportKind → List Piece
exported (exports.Func f) = group (codes "func") (number f ∷ [])
exported (exports.Table t) = group (codes "table") (number t ∷ [])
exported (exports.Memory m) = group (codes "memory") (number m ∷ [])
exported (exports.Global g) = group (codes "global") (number g ∷ [])

abbrev pub export_field : Exported → List Piece
export_field e = group (codes "export") (token (string e.name) ∷ exported e.kind) ++ line_end ∷ []

abbrev pub start_field : Option ℕ → List Piece
start_field None = []
start_field (Some f) = group (codes "start") (number f ∷ []) ++ line_end ∷ []

-- The one table of a module isn't named.
abbrev pub element_field : ElementSegment → List Piece
element_field e = group (codes "elem") (constant_pieces e.offset ++ word (codes "func") ∷ numbers e.functions) ++ line_end ∷ []

-- nor is its one memory
abbrev pub segment_field : DataSegment → List Piece
segment_field s = group (codes "data") (constant_pieces s.offset ++ token (string s.bytes) ∷ []) ++ line_end ∷ []

-- ---- modules

abbrev pub fields_pieces : WasmModule → List Piece
fields_pieces m =
    flat_map type_field m.types ++ (flat_map import_field m.imports ++ (function_fields m.functions m.bodies
    ++ (flat_map table_field m.tables ++ (flat_map memory_field m.memories ++ (flat_map global_field m.globals
    ++ (flat_map export_field m.exports ++ (start_field m.start ++ (flat_map element_field m.elements ++ flat_map segment_field m.segments))))))))

abbrev pub module_pieces : WasmModule → List Piece
module_pieces m = token opens ∷ word (codes "module") ∷ line_end ∷ (fields_pieces m ++ token closes ∷ line_end ∷ [])

abbrev pub canonical : WasmModule → List ℕ
canonical m = joined false (module_pieces m)
