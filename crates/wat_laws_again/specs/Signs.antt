-- The canonical text of a module as its tokens, each with the mark that it has. No contract of a public function names this.
-- Each part is spelled in front of what follows it.
use Rattle.std.specs.Prelude.{ℕ, ◌^◌, Bool, true, false, List, [], ◌∷◌, ◌++◌, get_or, drop, min, Option, Some, None, codes, decimal}
use Rattle.std.specs.Fmt.{signed_decimal}
use Rattle.sem_words.specs.Words.{signed_of}
use Rattle.wasm_lang.specs.declared.types.ValType.{ValType}
use Rattle.wasm_lang.specs.declared.types.ValType.TheVariants.{I32, I64}
use Rattle.wasm_lang.specs.declared.types.Limits.{Limits}
use Rattle.wasm_lang.specs.declared.types.GlobalType.{GlobalType}
use Rattle.wasm_lang.specs.declared.types.ImportKind.{ImportKind}
use Rattle.wasm_lang.specs.declared.types.ImportKind.TheVariants as imports
use Rattle.wasm_lang.specs.declared.types.ExportKind.{ExportKind}
use Rattle.wasm_lang.specs.declared.types.ExportKind.TheVariants as exports
use Rattle.wasm_lang.specs.Instructions.{Plain, local_get, local_set, local_tee, global_get, global_set, load, store, memory_fill, const32, const64, Instruction, block, loop, if_block, br, br_if, br_table, call, call_indirect, plain}
use Rattle.wasm_lang.specs.Modules.{FunctionType, Imported, GlobalEntry, Exported, ElementSegment, DataSegment, FunctionBody, WasmModule}
use Rattle.wasm_lang.specs.Opcodes.{plain_form_of, form_of}
use Rattle.wat_lang.specs.declared.parts.Space.{Space}
use Rattle.wat_lang.specs.declared.parts.Space.TheVariants as spaces
use Rattle.wat_lang.specs.declared.parts.Part.{Part}
use Rattle.wat_lang.specs.declared.parts.Part.TheVariants.{Param, Result, Local}
use Rattle.wat_lang.specs.declared.parts.FieldKind.TheVariants as fields
use Rattle.wat_lang.specs.Tokens.{Class, opens, closes, string, atom}
use Rattle.wat_lang.specs.Words.{name_of}
use Rattle.wat_lang.specs.Grammar.{Mark, nothing, a_field, a_described, an_exported, uses, a_type_use, a_type, a_block_result, a_global_type, mutable, a_minimum, a_maximum, a_module_name, a_field_name, an_export_name, some_bytes, a_word_32, a_word_64, an_offset, an_alignment, an_instruction, Marked}
use Rattle.wat_lang.specs.Printing.{without_end}

-- a token without its place, and its mark
abbrev pub Sign : Type 0
Sign = Mark × Class

-- the tokens at these places, and at 0 where there are none left
abbrev pub placed : List ℕ → List Sign → List Marked
placed ns [] = []
placed ns (s ∷ ss) = record { mark = s.0; token = record { class = s.1; at = get_or ns 0 0 } } ∷ placed (drop 1 ns) ss

-- ---- parts

abbrev pub open_sign : Sign
open_sign = (nothing, opens)

abbrev pub close_sign : Sign
close_sign = (nothing, closes)

abbrev pub word_sign : List ℕ → Sign
word_sign word = (nothing, atom word)

abbrev pub number_sign : Mark → ℕ → Sign
number_sign mark n = (mark, atom (decimal n))

abbrev pub type_name : ValType → List ℕ
type_name I32 = codes "i32"
type_name I64 = codes "i64"

abbrev pub type_sign : Mark → ValType → Sign
type_sign mark t = (mark, atom (type_name t))

abbrev pub put_types : Part → List ValType → List Sign → List Sign
put_types p [] k = k
put_types p (t ∷ ts) k = type_sign (a_type p) t ∷ put_types p ts k

abbrev pub put_group : Part → (keyword : List ℕ) → List ValType → List Sign → List Sign
put_group p keyword [] k = k
put_group p keyword (t ∷ ts) k = open_sign ∷ word_sign keyword ∷ put_types p (t ∷ ts) (close_sign ∷ k)

abbrev pub put_use : Mark → (type : ℕ) → List Sign → List Sign
put_use mark t k = open_sign ∷ word_sign (codes "type") ∷ number_sign mark t ∷ close_sign ∷ k

abbrev pub put_maximum : Option ℕ → List Sign → List Sign
put_maximum None k = k
put_maximum (Some n) k = number_sign a_maximum n ∷ k

abbrev pub put_limits : Space → Limits → List Sign → List Sign
put_limits s l k = number_sign (a_minimum s) l.min ∷ put_maximum l.max k

abbrev pub put_mutable : Bool → ValType → List Sign → List Sign
put_mutable false t k = type_sign a_global_type t ∷ k
put_mutable true t k = open_sign ∷ (mutable, atom (codes "mut")) ∷ type_sign a_global_type t ∷ close_sign ∷ k

abbrev pub put_global_type : GlobalType → List Sign → List Sign
put_global_type g k = put_mutable g.mutable g.kind k

-- ---- instructions

abbrev pub plain_form : Plain → Plain
plain_form memory_fill = memory_fill
plain_form p = plain_form_of p

-- the form that the name of an instruction stands for
abbrev pub named_form : Instruction → Instruction
named_form (plain p) = plain (plain_form p)
named_form i = form_of i

abbrev pub put_result : Option ValType → List Sign → List Sign
put_result None k = k
put_result (Some t) k = open_sign ∷ word_sign (codes "result") ∷ type_sign a_block_result t ∷ close_sign ∷ k

abbrev pub put_numbers : Space → List ℕ → List Sign → List Sign
put_numbers s [] k = k
put_numbers s (n ∷ ns) k = number_sign (uses s) n ∷ put_numbers s ns k

abbrev pub put_access : (align offset : ℕ) → List Sign → List Sign
put_access align offset k = (an_offset, atom (codes "offset=" ++ decimal offset)) ∷ (an_alignment, atom (codes "align=" ++ decimal (2 ^ min align 63))) ∷ k

abbrev pub put_plain : Plain → List Sign → List Sign
put_plain (local_get x) k = number_sign (uses spaces.Local) x ∷ k
put_plain (local_set x) k = number_sign (uses spaces.Local) x ∷ k
put_plain (local_tee x) k = number_sign (uses spaces.Local) x ∷ k
put_plain (global_get x) k = number_sign (uses spaces.Global) x ∷ k
put_plain (global_set x) k = number_sign (uses spaces.Global) x ∷ k
put_plain (load op align offset) k = put_access align offset k
put_plain (store op align offset) k = put_access align offset k
put_plain (const32 w) k = (a_word_32, atom (signed_decimal (signed_of 32 w))) ∷ k
put_plain (const64 w) k = (a_word_64, atom (signed_decimal (signed_of 64 w))) ∷ k
put_plain p k = k

abbrev pub put_immediates : Instruction → List Sign → List Sign
put_immediates (block r) k = put_result r k
put_immediates (loop r) k = put_result r k
put_immediates (if_block r) k = put_result r k
put_immediates (br l) k = number_sign (uses spaces.Label) l ∷ k
put_immediates (br_if l) k = number_sign (uses spaces.Label) l ∷ k
put_immediates (br_table ls l) k = put_numbers spaces.Label ls (number_sign (uses spaces.Label) l ∷ k)
put_immediates (call f) k = number_sign (uses spaces.Func) f ∷ k
put_immediates (call_indirect t) k = put_use (uses spaces.Type) t k
put_immediates (plain p) k = put_plain p k
put_immediates i k = k

abbrev pub put_instruction : Instruction → List Sign → List Sign
put_instruction i k = (an_instruction (named_form i), atom (name_of i)) ∷ put_immediates i k

abbrev pub put_code : List Instruction → List Sign → List Sign
put_code [] k = k
put_code (i ∷ is) k = put_instruction i (put_code is k)

-- in parentheses
abbrev pub put_folded : List Instruction → List Sign → List Sign
put_folded [] k = k
put_folded (i ∷ is) k = open_sign ∷ put_instruction i (close_sign ∷ put_folded is k)

-- ---- fields

abbrev pub put_all : {X : Type 0} → (X → List Sign → List Sign) → List X → List Sign → List Sign
put_all f [] k = k
put_all f (x ∷ xs) k = f x (put_all f xs k)

abbrev pub put_type : FunctionType → List Sign → List Sign
put_type t k =
    open_sign ∷ (a_field fields.Type, atom (codes "type")) ∷ open_sign ∷ word_sign (codes "func")
    ∷ put_group Param (codes "param") t.params (put_group Result (codes "result") t.results (close_sign ∷ close_sign ∷ k))

abbrev pub put_described : ImportKind → List Sign → List Sign
put_described (imports.Func t) k = open_sign ∷ (a_described spaces.Func, atom (codes "func")) ∷ put_use a_type_use t (close_sign ∷ k)
put_described (imports.Table l) k = open_sign ∷ (a_described spaces.Table, atom (codes "table")) ∷ put_limits spaces.Table l (word_sign (codes "funcref") ∷ close_sign ∷ k)
put_described (imports.Memory l) k = open_sign ∷ (a_described spaces.Memory, atom (codes "memory")) ∷ put_limits spaces.Memory l (close_sign ∷ k)
put_described (imports.Global g) k = open_sign ∷ (a_described spaces.Global, atom (codes "global")) ∷ put_global_type g (close_sign ∷ k)

abbrev pub put_import : Imported → List Sign → List Sign
put_import i k =
    open_sign ∷ (a_field fields.Import, atom (codes "import")) ∷ (a_module_name, string i.module_name) ∷ (a_field_name, string i.name) ∷ put_described i.kind (close_sign ∷ k)

abbrev pub put_function : (type : ℕ) → FunctionBody → List Sign → List Sign
put_function t body k =
    open_sign ∷ (a_field fields.Func, atom (codes "func")) ∷ put_use a_type_use t (put_group Local (codes "local") body.locals (put_code (without_end body.code) (close_sign ∷ k)))

abbrev pub put_functions : List ℕ → List FunctionBody → List Sign → List Sign
put_functions [] bodies k = k
put_functions (t ∷ ts) [] k = k
put_functions (t ∷ ts) (body ∷ bodies) k = put_function t body (put_functions ts bodies k)

abbrev pub put_table : Limits → List Sign → List Sign
put_table l k = open_sign ∷ (a_field fields.Table, atom (codes "table")) ∷ put_limits spaces.Table l (word_sign (codes "funcref") ∷ close_sign ∷ k)

abbrev pub put_memory : Limits → List Sign → List Sign
put_memory l k = open_sign ∷ (a_field fields.Memory, atom (codes "memory")) ∷ put_limits spaces.Memory l (close_sign ∷ k)

abbrev pub put_global : GlobalEntry → List Sign → List Sign
put_global g k = open_sign ∷ (a_field fields.Global, atom (codes "global")) ∷ put_global_type g.kind (put_folded (without_end g.init) (close_sign ∷ k))

abbrev pub put_exported : ExportKind → List Sign → List Sign
put_exported (exports.Func n) k = open_sign ∷ (an_exported spaces.Func, atom (codes "func")) ∷ number_sign (uses spaces.Func) n ∷ close_sign ∷ k
put_exported (exports.Table n) k = open_sign ∷ (an_exported spaces.Table, atom (codes "table")) ∷ number_sign (uses spaces.Table) n ∷ close_sign ∷ k
put_exported (exports.Memory n) k = open_sign ∷ (an_exported spaces.Memory, atom (codes "memory")) ∷ number_sign (uses spaces.Memory) n ∷ close_sign ∷ k
put_exported (exports.Global n) k = open_sign ∷ (an_exported spaces.Global, atom (codes "global")) ∷ number_sign (uses spaces.Global) n ∷ close_sign ∷ k

abbrev pub put_export : Exported → List Sign → List Sign
put_export e k = open_sign ∷ (a_field fields.Export, atom (codes "export")) ∷ (an_export_name, string e.name) ∷ put_exported e.kind (close_sign ∷ k)

abbrev pub put_start : Option ℕ → List Sign → List Sign
put_start None k = k
put_start (Some f) k = open_sign ∷ (a_field fields.Start, atom (codes "start")) ∷ number_sign (uses spaces.Func) f ∷ close_sign ∷ k

abbrev pub put_element : ElementSegment → List Sign → List Sign
put_element e k = open_sign ∷ (a_field fields.Elem, atom (codes "elem")) ∷ put_folded (without_end e.offset) (word_sign (codes "func") ∷ put_numbers spaces.Func e.functions (close_sign ∷ k))

abbrev pub put_segment : DataSegment → List Sign → List Sign
put_segment s k = open_sign ∷ (a_field fields.Data, atom (codes "data")) ∷ put_folded (without_end s.offset) ((some_bytes, string s.bytes) ∷ close_sign ∷ k)

-- ---- modules

abbrev pub put_fields : WasmModule → List Sign → List Sign
put_fields m k =
    put_all put_type m.types (put_all put_import m.imports (put_functions m.functions m.bodies
    (put_all put_table m.tables (put_all put_memory m.memories (put_all put_global m.globals
    (put_all put_export m.exports (put_start m.start (put_all put_element m.elements (put_all put_segment m.segments k)))))))))

abbrev pub signs_of : WasmModule → List Sign
signs_of m = open_sign ∷ word_sign (codes "module") ∷ put_fields m (close_sign ∷ [])
