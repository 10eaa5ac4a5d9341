-- Worked examples, which the checker computes.
use Rattle.std.specs.Prelude.{◌≡◌, true, false, List, [], ◌∷◌, Some, None, Result, Ok, Err, refl}
use Rattle.sem_words.specs.declared.word.Bin.TheVariants.{Add}
use Rattle.wasm_lang.specs.declared.types.ValType.TheVariants.{I32, I64}
use Rattle.wasm_lang.specs.Instructions.{Instruction, unreachable, block, loop, if_block, else_mark, end_mark, br, br_table, call, call_indirect, plain, local_get, global_set, const32, const64, bin32, load}
use Rattle.wasm_lang.specs.Modules.{FunctionType, WasmModule}
use Rattle.wasm_lang_valid.specs.declared.rule.Rule.{Rule}
use Rattle.wasm_lang_valid.specs.declared.rule.Rule.TheVariants.{NoType, NoFunction, NoTable, NoLocal, NoLabel, OtherType, MissingOperand, OperandsLeft, Alignment, ConstantGlobal, LabelsDiffer, IfWithoutElse, Initializer, TwoResults, Size, StartType}
use Rattle.wasm_lang_valid.specs.declared.section.Section.TheVariants as sections
use Rattle.wasm_lang_valid.specs.Typing.{Context, natural}
use Rattle.wasm_lang_valid.specs.State.{Level, steps, at_start}
use Rattle.wasm_lang_valid.specs.ModuleRules.{item_rule, init_rule}
use Rattle.wasm_lang_valid.specs.Measures.{peak}
use Rattle.wasm_lang_valid.specs.Profile.{padded}

-- a function of an i32 to an i32, with a constant global and a memory, and without a table
abbrev to_i32 : FunctionType
to_i32 = record { params = I32 ∷ []; results = I32 ∷ [] }

abbrev example : Context
example = record { types = to_i32 ∷ []; functions = 0 ∷ []; table = false; memory = true; globals = record { kind = I32; mutable = false } ∷ []; locals = I32 ∷ []; labels = []; returns = Some I32 }

abbrev pass : List Instruction → Result (List Level) Rule
pass = steps example (at_start (Some I32))

adds : pass (plain (local_get 0) ∷ plain (const32 1) ∷ plain (bin32 Add) ∷ end_mark ∷ []) ≡ Ok []
adds = refl

calls : pass (plain (local_get 0) ∷ call 0 ∷ end_mark ∷ []) ≡ Ok []
calls = refl

-- after a branch the stack is open below
open_below : pass (plain (const32 1) ∷ br 0 ∷ plain (bin32 Add) ∷ end_mark ∷ []) ≡ Ok []
open_below = refl

both_arms : pass (plain (local_get 0) ∷ if_block (Some I32) ∷ plain (const32 1) ∷ else_mark ∷ unreachable ∷ end_mark ∷ end_mark ∷ []) ≡ Ok []
both_arms = refl

-- a branch to a loop carries nothing
to_a_loop : pass (loop (Some I32) ∷ br 0 ∷ end_mark ∷ end_mark ∷ []) ≡ Ok []
to_a_loop = refl

no_local : pass (plain (local_get 1) ∷ []) ≡ Err NoLocal
no_local = refl

no_label : pass (br 1 ∷ []) ≡ Err NoLabel
no_label = refl

no_function : pass (call 1 ∷ []) ≡ Err NoFunction
no_function = refl

-- the type is looked up before the table
no_type : pass (call_indirect 1 ∷ []) ≡ Err NoType
no_type = refl

no_table : pass (call_indirect 0 ∷ []) ≡ Err NoTable
no_table = refl

other_type : pass (plain (const64 1) ∷ plain (const32 1) ∷ plain (bin32 Add) ∷ []) ≡ Err OtherType
other_type = refl

missing : pass (plain (const32 1) ∷ plain (bin32 Add) ∷ []) ≡ Err MissingOperand
missing = refl

left : pass (plain (const32 1) ∷ plain (const32 1) ∷ end_mark ∷ []) ≡ Err OperandsLeft
left = refl

constant : pass (plain (const32 1) ∷ plain (global_set 0) ∷ []) ≡ Err ConstantGlobal
constant = refl

-- .. but an operand of another type comes first
constant_of_other_type : pass (plain (const64 1) ∷ plain (global_set 0) ∷ []) ≡ Err OtherType
constant_of_other_type = refl

misaligned : pass (plain (const32 0) ∷ plain (load (record { wide = false; size = 4; signed = false }) 3 0) ∷ []) ≡ Err Alignment
misaligned = refl

aligned : pass (plain (const32 0) ∷ plain (load (record { wide = false; size = 4; signed = false }) 2 0) ∷ end_mark ∷ []) ≡ Ok []
aligned = refl

differ : pass (block None ∷ plain (const32 1) ∷ plain (const32 0) ∷ br_table (0 ∷ []) 1 ∷ []) ≡ Err LabelsDiffer
differ = refl

without_else : pass (plain (local_get 0) ∷ if_block (Some I32) ∷ plain (const32 1) ∷ end_mark ∷ []) ≡ Err IfWithoutElse
without_else = refl

natural_exponents : natural 1 ∷ natural 2 ∷ natural 4 ∷ natural 8 ∷ [] ≡ 0 ∷ 1 ∷ 2 ∷ 3 ∷ []
natural_exponents = refl

-- two operands stand before the sum
two_stand : peak example (at_start (Some I32)) (plain (local_get 0) ∷ plain (const32 1) ∷ plain (bin32 Add) ∷ end_mark ∷ []) ≡ 2
two_stand = refl

padded_lengths : padded 0 ∷ padded 1 ∷ padded 3 ∷ padded 4 ∷ padded 5 ∷ [] ≡ 1 ∷ 1 ∷ 4 ∷ 4 ∷ 8 ∷ []
padded_lengths = refl

-- a module with a type of two results, whose memory has too many pages
abbrev faulty : WasmModule
faulty = record {
  types = to_i32 ∷ record { params = []; results = I32 ∷ I64 ∷ [] } ∷ [];
  imports = [];
  functions = 0 ∷ [];
  tables = [];
  memories = record { min = 65537; max = None } ∷ [];
  globals = [];
  exports = [];
  start = Some 0;
  elements = [];
  bodies = [];
  segments = [];
}

fine_type : item_rule faulty sections.Types 0 ≡ None
fine_type = refl

two_results : item_rule faulty sections.Types 1 ≡ Some TwoResults
two_results = refl

large_memory : item_rule faulty sections.Memories 0 ≡ Some Size
large_memory = refl

start_with_a_parameter : item_rule faulty sections.Start 0 ≡ Some StartType
start_with_a_parameter = refl

-- a first value is one constant of its type
one_constant : init_rule faulty I32 (plain (const32 7) ∷ end_mark ∷ []) ≡ None
one_constant = refl

wide_constant : init_rule faulty I32 (plain (const64 7) ∷ end_mark ∷ []) ≡ Some Initializer
wide_constant = refl
