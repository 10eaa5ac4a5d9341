-- The shortest spelling of a module in the binary format (sections 5.2 to 5.5), as a function to bytes.
use Rattle.std.specs.Prelude.{ℕ, zero, suc, ◌+◌, ◌-◌, ◌/◌, ◌%◌, ◌^◌, List, [], ◌∷◌, ◌++◌, length, map, Bool, true, false, nat_lt, if◌then◌else◌, Option, Some, None}
use Rattle.std.specs.List.{concat}
use Rattle.wasm_lang.specs.declared.types.ValType.{ValType}
use Rattle.wasm_lang.specs.declared.types.ValType.TheVariants.{I32, I64}
use Rattle.wasm_lang.specs.declared.types.Limits.{Limits}
use Rattle.wasm_lang.specs.declared.types.GlobalType.{GlobalType}
use Rattle.wasm_lang.specs.declared.types.ImportKind.{ImportKind}
use Rattle.wasm_lang.specs.declared.types.ImportKind.TheVariants as imports
use Rattle.wasm_lang.specs.declared.types.ExportKind.{ExportKind}
use Rattle.wasm_lang.specs.declared.types.ExportKind.TheVariants as exports
use Rattle.wasm_lang.specs.Instructions.{Plain, local_get, local_set, local_tee, global_get, global_set, load, store, memory_size, memory_copy, memory_fill, const32, const64, Instruction, block, loop, if_block, br, br_if, br_table, call, call_indirect, plain}
use Rattle.wasm_lang.specs.Modules.{FunctionType, Imported, GlobalEntry, Exported, ElementSegment, DataSegment, FunctionBody, WasmModule}
use Rattle.wasm_lang.specs.Grammar.{header}
use Rattle.wasm_binary_write.specs.Opcodes.{opcode_of}

-- ---- numbers

-- seven bits, as they are or turned round
abbrev pub seven_bits : (turned : Bool) → ℕ → ℕ
seven_bits false n = n
seven_bits true n = 127 - n

-- The first argument bounds the count of bytes after the first.
abbrev pub groups_within : (turns limit : ℕ) (turned : Bool) → ℕ → List ℕ
groups_within zero limit turned n = seven_bits turned n ∷ []
groups_within (suc turns) limit turned n =
    let others = groups_within turns limit turned (n / 128) in
    if nat_lt n limit then seven_bits turned n ∷ [] else (seven_bits turned (n % 128) + 128) ∷ others

-- Seven bits of a number in a byte, the lowest first, and the byte's high bit where more bytes follow. What stands in the
-- last byte is below the limit.
unfoldable pub groups : (limit : ℕ) (turned : Bool) → ℕ → List ℕ
groups limit turned n = groups_within n limit turned n

abbrev pub unsigned : ℕ → List ℕ
unsigned n = groups 128 false n

-- A word of so many bits as the signed number that it stands for, whose sign is bit 6 of the last byte.
-- The bits of -(n + 1) are those of n turned round.
abbrev pub integer : (bits word : ℕ) → List ℕ
integer bits word = if nat_lt word (2 ^ (bits - 1)) then groups 64 false word else groups 64 true (2 ^ bits - 1 - word)

-- ---- vectors

-- items one after another
abbrev pub items : {X : Type 0} → (X → List ℕ) → List X → List ℕ
items f xs = concat (map f xs)

abbrev pub vector : {X : Type 0} → (X → List ℕ) → List X → List ℕ
vector f xs = unsigned (length xs) ++ items f xs

-- bytes behind their count: names, segments, and parts whose size stands before them
abbrev pub sized : List ℕ → List ℕ
sized bytes = unsigned (length bytes) ++ bytes

-- ---- types

abbrev pub value_type : ValType → List ℕ
value_type I32 = 0x7f ∷ []
value_type I64 = 0x7e ∷ []

abbrev pub block_type : Option ValType → List ℕ
block_type None = 0x40 ∷ []
block_type (Some t) = value_type t

abbrev pub function_type : FunctionType → List ℕ
function_type t = 0x60 ∷ (vector value_type t.params ++ vector value_type t.results)

abbrev pub limits_to : (min : ℕ) (max : Option ℕ) → List ℕ
limits_to n None = 0x00 ∷ unsigned n
limits_to n (Some m) = 0x01 ∷ (unsigned n ++ unsigned m)

abbrev pub limits : Limits → List ℕ
limits l = limits_to l.min l.max

-- a table of functions
abbrev pub table : Limits → List ℕ
table l = 0x70 ∷ limits l

abbrev pub mutability : Bool → List ℕ
mutability false = 0x00 ∷ []
mutability true = 0x01 ∷ []

abbrev pub global_type : GlobalType → List ℕ
global_type g = value_type g.kind ++ mutability g.mutable

-- ---- instructions

abbrev pub plain_immediates : Plain → List ℕ
plain_immediates (local_get x) = unsigned x
plain_immediates (local_set x) = unsigned x
plain_immediates (local_tee x) = unsigned x
plain_immediates (global_get x) = unsigned x
plain_immediates (global_set x) = unsigned x
plain_immediates (load op align offset) = unsigned align ++ unsigned offset
plain_immediates (store op align offset) = unsigned align ++ unsigned offset
plain_immediates memory_size = 0x00 ∷ []
plain_immediates memory_copy = 10 ∷ 0x00 ∷ 0x00 ∷ []
plain_immediates memory_fill = 11 ∷ 0x00 ∷ []
plain_immediates (const32 word) = integer 32 word
plain_immediates (const64 word) = integer 64 word
plain_immediates p = []

-- what follows the opcode
abbrev pub immediates : Instruction → List ℕ
immediates (block r) = block_type r
immediates (loop r) = block_type r
immediates (if_block r) = block_type r
immediates (br l) = unsigned l
immediates (br_if l) = unsigned l
immediates (br_table ls l) = vector unsigned ls ++ unsigned l
immediates (call f) = unsigned f
immediates (call_indirect t) = unsigned t ++ (0x00 ∷ [])
immediates (plain p) = plain_immediates p
immediates i = []

-- an instruction without an opcode has no spelling
abbrev pub behind : Option ℕ → List ℕ → List ℕ
behind None bytes = []
behind (Some opcode) bytes = opcode ∷ bytes

unfoldable pub instruction : Instruction → List ℕ
instruction i = behind (opcode_of i) (immediates i)

-- ---- entries of sections

abbrev pub import_kind : ImportKind → List ℕ
import_kind (imports.Func t) = 0x00 ∷ unsigned t
import_kind (imports.Table l) = 0x01 ∷ table l
import_kind (imports.Memory l) = 0x02 ∷ limits l
import_kind (imports.Global t) = 0x03 ∷ global_type t

abbrev pub imported : Imported → List ℕ
imported i = sized i.module_name ++ (sized i.name ++ import_kind i.kind)

abbrev pub global : GlobalEntry → List ℕ
global g = global_type g.kind ++ items instruction g.init

abbrev pub export_kind : ExportKind → List ℕ
export_kind (exports.Func n) = 0x00 ∷ unsigned n
export_kind (exports.Table n) = 0x01 ∷ unsigned n
export_kind (exports.Memory n) = 0x02 ∷ unsigned n
export_kind (exports.Global n) = 0x03 ∷ unsigned n

abbrev pub exported : Exported → List ℕ
exported e = sized e.name ++ export_kind e.kind

abbrev pub element : ElementSegment → List ℕ
element e = unsigned e.table ++ (items instruction e.offset ++ vector unsigned e.functions)

abbrev pub same_type : ValType → ValType → Bool
same_type I32 I32 = true
same_type I64 I64 = true
same_type _ _ = false

-- the runs of one type, where so many of a type stand before
abbrev pub runs_from : ℕ → ValType → List ValType → List (ℕ × ValType)
runs_from n t [] = (n, t) ∷ []
runs_from n t (u ∷ us) = if same_type t u then runs_from (n + 1) t us else (n, t) ∷ runs_from 1 u us

-- locals in the longest runs of one type
abbrev pub runs : List ValType → List (ℕ × ValType)
runs [] = []
runs (t ∷ ts) = runs_from 1 t ts

abbrev pub run : ℕ × ValType → List ℕ
run r = unsigned r.0 ++ value_type r.1

abbrev pub body : FunctionBody → List ℕ
body b = vector run (runs b.locals) ++ items instruction b.code

abbrev pub segment : DataSegment → List ℕ
segment s = unsigned s.memory ++ (items instruction s.offset ++ sized s.bytes)

-- ---- sections and modules

-- a section of no items isn't written
abbrev pub section : {X : Type 0} → (id : ℕ) → (X → List ℕ) → List X → List ℕ
section id f [] = []
section id f (x ∷ xs) = id ∷ sized (vector f (x ∷ xs))

abbrev pub start_section : Option ℕ → List ℕ
start_section None = []
start_section (Some n) = 8 ∷ sized (unsigned n)

-- the sections in the order of their ids; the data count, and custom sections, aren't written
unfoldable pub spelling : WasmModule → List ℕ
spelling m =
    header
    ++ (section 1 function_type m.types
    ++ (section 2 imported m.imports
    ++ (section 3 unsigned m.functions
    ++ (section 4 table m.tables
    ++ (section 5 limits m.memories
    ++ (section 6 global m.globals
    ++ (section 7 exported m.exports
    ++ (start_section m.start
    ++ (section 9 element m.elements
    ++ (section 10 (λ b. sized (body b)) m.bodies
    ++ section 11 segment m.segments))))))))))
