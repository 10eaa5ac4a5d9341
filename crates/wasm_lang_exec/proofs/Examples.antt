-- What small modules show after some reductions, as the checker computes it: a second opinion on the rules of counting.
use Rattle.std.proofs.Common.{◌≡◌, ℕ, List, [], ◌∷◌, Some, None, refl}
use Rattle.std.specs.Prelude.{ℤ, pos, codes}
use Rattle.sem_words.specs.declared.word.Bin.TheVariants.{Add, RemS}
use Rattle.sem_words.specs.declared.word.Word.TheVariants.{W32}
use Rattle.sem_words.specs.declared.word.TrapKind.TheVariants as kinds
use Rattle.wasm_lang.specs.declared.types.ValType.{ValType}
use Rattle.wasm_lang.specs.declared.types.ValType.TheVariants.{I32}
use Rattle.wasm_lang.specs.declared.types.ExportKind.TheVariants as exports
use Rattle.wasm_lang.specs.declared.types.ImportKind.TheVariants as imports
use Rattle.wasm_lang.specs.Instructions.{Instruction, plain, local_get, local_set, bin32, const32, block, loop, if_block, end_mark, br, br_if, call, select, unreachable, return}
use Rattle.wasm_lang.specs.Modules.{WasmModule}
use Rattle.session_lang.specs.Script.{ScriptPlain, give}
use Rattle.session_lang.specs.Observation.{import_called, call_gave, call_returned, done, no_reply, trapped, running, ended}
use Rattle.wasm_lang_exec.specs.Session.{wasm}

abbrev f : List ℕ
f = codes "f"

-- one function of this type, with these locals and instructions, exported as f
abbrev of : List ValType → List ValType → List ValType → List Instruction → WasmModule
of params results locals code = record {
  types = record { params = params; results = results } ∷ [];
  imports = [];
  functions = 0 ∷ [];
  tables = [];
  memories = [];
  globals = [];
  exports = record { name = f; kind = exports.Func 0 } ∷ [];
  start = None;
  elements = [];
  bodies = record { locals = locals; code = code } ∷ [];
  segments = [];
}

abbrev calls : List ℤ → ScriptPlain
calls args = record { globals = []; writes = []; calls = record { name = f; args = args; line = 1 } ∷ []; replies = [] }

-- ---- instantiation, entering the function, two gets, a sum and an end are six

abbrev sum : WasmModule
sum = of (I32 ∷ I32 ∷ []) (I32 ∷ []) [] (plain (local_get 0) ∷ plain (local_get 1) ∷ plain (bin32 Add) ∷ end_mark ∷ [])

sum_of_two : wasm sum (calls (pos 2147483647 ∷ pos 1 ∷ [])) 6 ≡ ended (call_gave (W32 2147483648) ∷ []) done []
sum_of_two = refl

sum_goes_on : wasm sum (calls (pos 2147483647 ∷ pos 1 ∷ [])) 5 ≡ running []
sum_goes_on = refl

-- ---- constants are none; a remainder of the least number by -1 is 0

least_by_minus_one : wasm (of [] (I32 ∷ []) [] (plain (const32 2147483648) ∷ plain (const32 4294967295) ∷ plain (bin32 RemS) ∷ end_mark ∷ [])) (calls []) 4 ≡ ended (call_gave (W32 0) ∷ []) done []
least_by_minus_one = refl

by_zero : wasm (of [] (I32 ∷ []) [] (plain (const32 1) ∷ plain (const32 0) ∷ plain (bin32 RemS) ∷ end_mark ∷ [])) (calls []) 3 ≡ ended [] (trapped kinds.ZeroDivisor) []
by_zero = refl

-- ---- a branch leaves its block with one value, and its jump is included

leaves_block : wasm (of [] (I32 ∷ []) [] (block (Some I32) ∷ plain (const32 9) ∷ plain (const32 7) ∷ br 0 ∷ end_mark ∷ end_mark ∷ [])) (calls []) 5 ≡ ended (call_gave (W32 7) ∷ []) done []
leaves_block = refl

-- ---- a branch to a loop goes to its start, where the loop is executed again: entered 2, loop 2, get 2, br_if 2, and 1 for the sum

abbrev turns : WasmModule
turns = of (I32 ∷ []) [] [] (loop None ∷ plain (local_get 0) ∷ plain (const32 4294967295) ∷ plain (bin32 Add) ∷ plain (local_set 0) ∷ plain (local_get 0) ∷ br_if 0 ∷ end_mark ∷ end_mark ∷ [])

two_turns : wasm turns (calls (pos 2 ∷ [])) 16 ≡ ended (call_returned ∷ []) done []
two_turns = refl

two_turns_go_on : wasm turns (calls (pos 2 ∷ [])) 15 ≡ running []
two_turns_go_on = refl

-- ---- an if without else whose condition is 0 reaches its end at once

no_else : wasm (of [] [] [] (plain (const32 0) ∷ if_block None ∷ unreachable ∷ end_mark ∷ end_mark ∷ [])) (calls []) 5 ≡ ended (call_returned ∷ []) done []
no_else = refl

-- ---- a return, and a branch to the outermost label, leave the function without a further one

returns : wasm (of [] (I32 ∷ []) [] (plain (const32 3) ∷ return ∷ end_mark ∷ [])) (calls []) 3 ≡ ended (call_gave (W32 3) ∷ []) done []
returns = refl

branches_out : wasm (of [] (I32 ∷ []) [] (block None ∷ plain (const32 3) ∷ br 1 ∷ end_mark ∷ unreachable ∷ end_mark ∷ [])) (calls []) 4 ≡ ended (call_gave (W32 3) ∷ []) done []
branches_out = refl

-- ---- select takes the first operand where the condition isn't 0

selected : wasm (of [] (I32 ∷ []) [] (plain (const32 1) ∷ plain (const32 2) ∷ plain (const32 5) ∷ plain select ∷ end_mark ∷ [])) (calls []) 4 ≡ ended (call_gave (W32 1) ∷ []) done []
selected = refl

-- ---- an import takes the next reply, and its call is one

abbrev asks : WasmModule
asks = record (of [] (I32 ∷ []) [] (call 0 ∷ end_mark ∷ [])) {
  imports = record { module_name = codes "env"; name = codes "ask"; kind = imports.Func 0 } ∷ [];
  exports = record { name = f; kind = exports.Func 1 } ∷ [];
}

abbrev answered : ScriptPlain
answered = record (calls []) { replies = record { reply = give 5000000000 []; line = 2 } ∷ [] }

low_bits : wasm asks answered 4 ≡ ended (import_called (codes "ask") [] ∷ call_gave (W32 705032704) ∷ []) done []
low_bits = refl

nothing_left : wasm asks (calls []) 3 ≡ ended [] (no_reply (codes "ask") []) []
nothing_left = refl
