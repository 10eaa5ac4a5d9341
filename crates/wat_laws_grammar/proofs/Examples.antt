-- Worked verdicts on texts, computed from the definitions.
use Rattle.std.proofs.Common.{◌≡◌, false, ◌-◌, ◌^◌, List, [], ◌∷◌, Some, None, Ok, codes, refl, Err, Option, map}
use Rattle.wasm_lang.specs.declared.types.ValType.TheVariants.{I32}
use Rattle.wasm_lang.specs.Instructions.{Instruction, block, if_block, else_mark, end_mark, br, call, plain, const32, const64, local_get, load}
use Rattle.wasm_lang.specs.Modules.{FunctionBody, WasmModule}
use Rattle.wat_lang.specs.declared.fault.Row.TheVariants as rows
use Rattle.wat_lang.specs.Grammar.{rows as table, may_end}
use Rattle.wat_laws_grammar.specs.Judging.{Judgement, refused, judge}

abbrev empty_module : WasmModule
empty_module = record {
  types = [];
  imports = [];
  functions = [];
  tables = [];
  memories = [];
  globals = [];
  exports = [];
  start = None;
  elements = [];
  bodies = [];
  segments = [];
}

line_comment : judge (codes "(module ;; a\r(memory 1)\n)") ≡ Ok empty_module
unfolding table may_end
line_comment = refl

open_comment : judge (codes "(;(;;)") ≡ refused rows.Token 0
unfolding table may_end
open_comment = refl

bad_byte : judge (codes "(module ; x)") ≡ refused rows.Token 8
unfolding table may_end
bad_byte = refl

outside_behind : judge (codes "(module x f32)") ≡ refused rows.OutsideInteger 10
unfolding table may_end
outside_behind = refl

no_grow : judge (codes "(module (func (type 0) memory.grow))") ≡ refused rows.OutsideInteger 23
unfolding table may_end
no_grow = refl

order_of_heads : judge (codes "(module (func (type 0) (local i32) (param i32)))") ≡ refused rows.Grammar 36
unfolding table may_end
order_of_heads = refl

else_of_nothing : judge (codes "(module (func (type 0) block else end))") ≡ refused rows.Grammar 29
unfolding table may_end
else_of_nothing = refl

no_type : judge (codes "(module (func))") ≡ refused rows.Grammar 13
unfolding table may_end
no_type = refl

behind : judge (codes "(module)x") ≡ refused rows.Grammar 8
unfolding table may_end
behind = refl

not_closed : judge (codes "(module") ≡ refused rows.Grammar 7
unfolding table may_end
not_closed = refl

negative : judge (codes "(module (memory 0 -1))") ≡ refused rows.Number 18
unfolding table may_end
negative = refl

start_number : judge (codes "(module (start 4294967296))") ≡ refused rows.Number 15
unfolding table may_end
start_number = refl

local_taken : judge (codes "(module (type (func (param i32))) (func (type 0) (param $a i32) (local $a i32)))") ≡ refused rows.IdTaken 71
unfolding table may_end
local_taken = refl

unknown_type : judge (codes "(module (func (type $t)))") ≡ refused rows.IdUnknown 20
unfolding table may_end
unknown_type = refl

label_closed : judge (codes "(module (type (func)) (func (type 0) block $a end br $a))") ≡ refused rows.IdUnknown 53
unfolding table may_end
label_closed = refl

type_use : judge (codes "(module (type (func)) (func $f (type 0)) (func $f (type 1)))") ≡ refused rows.TypeUse 42
unfolding table may_end
type_use = refl

table_limit : judge (codes "(module (table 1048577 funcref))") ≡ refused rows.Limit 15
unfolding table may_end
table_limit = refl

-- ---- accepted: a part of the module

abbrev part : {X : Type 0} → (WasmModule → X) → Judgement → Option X
part f (Ok m) = Some (f m)
part f (Err r) = None

abbrev codes_of : WasmModule → List (List Instruction)
codes_of m = map (λ (b : FunctionBody). b.code) m.bodies

nested_comments : part (λ m. m) (judge (codes "(;;)(;(;;)x;)(module)")) ≡ Some (empty_module)
unfolding table may_end
nested_comments = refl

empty_else : part codes_of (judge (codes "(module (type (func)) (func (type 0) i32.const 0 if else end))")) ≡ Some ((plain (const32 0) ∷ if_block None ∷ else_mark ∷ end_mark ∷ end_mark ∷ []) ∷ [])
unfolding table may_end
empty_else = refl

label_twice : part codes_of (judge (codes "(module (type (func)) (func (type 0) block $a block $a br $a end br $a end))")) ≡ Some ((block None ∷ block None ∷ br 0 ∷ end_mark ∷ br 0 ∷ end_mark ∷ end_mark ∷ []) ∷ [])
unfolding table may_end
label_twice = refl

memory_numbers : part (λ m. m.memories) (judge (codes "(module (memory +0x0_1 007))")) ≡ Some (record { min = 1; max = Some 7 } ∷ [])
unfolding table may_end
memory_numbers = refl

data_strings : part (λ m. m.segments) (judge (codes "(module (memory 1)(data(i32.const 0)\"a\"\"b\"))")) ≡ Some (record { memory = 0; offset = plain (const32 0) ∷ end_mark ∷ []; bytes = codes "ab" } ∷ [])
unfolding table may_end
data_strings = refl

used_ahead : part codes_of (judge (codes "(module (type $t (func)) (func $f (type $t) call $g) (func $g (type 0)) (start $g))")) ≡ Some ((call 1 ∷ end_mark ∷ []) ∷ (end_mark ∷ []) ∷ [])
unfolding table may_end
used_ahead = refl

ids_of_locals : part codes_of (judge (codes "(module (type (func (param i32 i64))) (func (type 0) (local i32) (local $x i64) local.get $x i32.load offset=7 align=1 i64.const -1))")) ≡ Some ((plain (local_get 3) ∷ plain (load (record { wide = false; size = 4; signed = false }) 0 7) ∷ plain (const64 (2 ^ 64 - 1)) ∷ end_mark ∷ []) ∷ [])
unfolding table may_end
ids_of_locals = refl

parameter_ids_of_a_type : part (λ m. m.types) (judge (codes "(module (type (func (param $a i32) (param $a i32))))")) ≡ Some (record { params = I32 ∷ I32 ∷ []; results = [] } ∷ [])
unfolding table may_end
parameter_ids_of_a_type = refl
