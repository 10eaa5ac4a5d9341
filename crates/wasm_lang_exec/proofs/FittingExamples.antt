-- Scripts for one module, with one part that doesn't fit in each, as the checker computes their first refused line.
use Rattle.std.proofs.Common.{◌≡◌, ℕ, List, [], ◌∷◌, ◌++◌, Some, None, false, refl}
use Rattle.std.specs.Prelude.{◌-◌, ◌^◌, ℤ, pos, negsuc, codes}
use Rattle.wasm_lang.specs.declared.types.ValType.TheVariants.{I32, I64}
use Rattle.wasm_lang.specs.declared.types.ExportKind.TheVariants as exports
use Rattle.wasm_lang.specs.declared.types.ImportKind.TheVariants as imports
use Rattle.wasm_lang.specs.Instructions.{end_mark}
use Rattle.wasm_lang.specs.Modules.{WasmModule}
use Rattle.session_lang.specs.Script.{GlobalPlain, WritePlain, CallPlain, give, throw, ReplyLinePlain, ScriptPlain}
use Rattle.wasm_lang_exec.specs.Fits.{misfit}

-- it imports from env the globals low, of 32 bits, and wide, of 64, and a memory of one page; f takes a word of each width
abbrev imports_all : WasmModule
imports_all = record {
  types = record { params = I32 ∷ I64 ∷ []; results = [] } ∷ [];
  imports =
      record { module_name = codes "env"; name = codes "low"; kind = imports.Global (record { kind = I32; mutable = false }) }
      ∷ record { module_name = codes "env"; name = codes "memory"; kind = imports.Memory (record { min = 1; max = None }) }
      ∷ record { module_name = codes "env"; name = codes "wide"; kind = imports.Global (record { kind = I64; mutable = false }) }
      ∷ [];
  functions = 0 ∷ [];
  tables = [];
  memories = [];
  globals = [];
  exports = record { name = codes "memory"; kind = exports.Memory 0 } ∷ record { name = codes "f"; kind = exports.Func 0 } ∷ [];
  start = None;
  elements = [];
  bodies = record { locals = []; code = end_mark ∷ [] } ∷ [];
  segments = [];
}

-- a module with a memory of its own, and nothing else
abbrev own_memory : WasmModule
own_memory = record imports_all {
  imports = [];
  memories = record { min = 1; max = None } ∷ [];
}

abbrev global : ℕ → List ℕ → ℤ → GlobalPlain
global line name value = record { name = name; value = value; line = line }

-- the names low and wide, as imports
abbrev low : List ℕ
low = codes "low"

abbrev wide : List ℕ
wide = codes "wide"

abbrev write : ℕ → ℕ → List ℕ → WritePlain
write line at bytes = record { at = at; bytes = bytes; line = line }

abbrev call : ℕ → List ℕ → List ℤ → CallPlain
call line name args = record { name = name; args = args; line = line }

abbrev reply : ℕ → List WritePlain → ReplyLinePlain
reply line writes = record { reply = give 0 writes; line = line }

-- the greatest and the least values, the last place of the memory, and a reply that throws
abbrev fitting : ScriptPlain
fitting = record {
  globals = global 1 low (negsuc (2 ^ 31 - 1)) ∷ global 2 wide (pos (2 ^ 64 - 1)) ∷ [];
  writes = write 3 65534 (1 ∷ 2 ∷ []) ∷ [];
  calls = call 4 (codes "f") (pos (2 ^ 32 - 1) ∷ negsuc (2 ^ 63 - 1) ∷ []) ∷ [];
  replies = reply 5 (write 5 65535 (7 ∷ []) ∷ []) ∷ record { reply = throw; line = 6 } ∷ [];
}

fits : misfit imports_all fitting ≡ None
fits = refl

-- ---- globals

-- the name of no imported global
unknown_name : misfit imports_all (record fitting { globals = fitting.globals ++ global 9 (codes "memory") (pos 0) ∷ [] }) ≡ Some 9
unknown_name = refl

-- of two lines for a name, the second
given_twice : misfit imports_all (record fitting { globals = fitting.globals ++ global 9 low (pos 0) ∷ [] }) ≡ Some 9
given_twice = refl

narrow_above : misfit imports_all (record fitting { globals = global 1 low (pos (2 ^ 32)) ∷ global 2 wide (pos 0) ∷ [] }) ≡ Some 1
narrow_above = refl

narrow_below : misfit imports_all (record fitting { globals = global 1 low (negsuc (2 ^ 31)) ∷ global 2 wide (pos 0) ∷ [] }) ≡ Some 1
narrow_below = refl

wide_above : misfit imports_all (record fitting { globals = global 1 low (pos 0) ∷ global 2 wide (pos (2 ^ 64)) ∷ [] }) ≡ Some 2
wide_above = refl

-- the line of an imported global is missing
missing : misfit imports_all (record fitting { globals = global 1 low (pos 0) ∷ [] }) ≡ Some 0
missing = refl

-- ---- bytes

past_the_memory : misfit imports_all (record fitting { writes = write 3 65535 (1 ∷ 2 ∷ []) ∷ [] }) ≡ Some 3
past_the_memory = refl

reply_past_the_memory : misfit imports_all (record fitting { replies = reply 5 (write 5 65536 (1 ∷ []) ∷ []) ∷ [] }) ≡ Some 5
reply_past_the_memory = refl

-- what is written are bytes
no_byte : misfit imports_all (record fitting { writes = write 3 65534 (1 ∷ 256 ∷ []) ∷ [] }) ≡ Some 3
no_byte = refl

no_byte_in_a_reply : misfit imports_all (record fitting { replies = reply 5 (write 5 0 (256 ∷ []) ∷ []) ∷ [] }) ≡ Some 5
no_byte_in_a_reply = refl

-- a memory of the module's own takes a reply's bytes, but no bytes of the host before the session
own_memory_and_heap : misfit own_memory (record fitting { globals = []; calls = [] }) ≡ Some 3
own_memory_and_heap = refl

own_memory_and_reply : misfit own_memory (record fitting { globals = []; writes = []; calls = [] }) ≡ None
own_memory_and_reply = refl

-- ---- calls

no_export : misfit imports_all (record fitting { calls = call 4 (codes "g") [] ∷ [] }) ≡ Some 4
no_export = refl

no_function : misfit imports_all (record fitting { calls = call 4 (codes "memory") [] ∷ [] }) ≡ Some 4
no_function = refl

too_few : misfit imports_all (record fitting { calls = call 4 (codes "f") (pos 0 ∷ []) ∷ [] }) ≡ Some 4
too_few = refl

too_many : misfit imports_all (record fitting { calls = call 4 (codes "f") (pos 0 ∷ pos 0 ∷ pos 0 ∷ []) ∷ [] }) ≡ Some 4
too_many = refl

narrow_argument : misfit imports_all (record fitting { calls = call 4 (codes "f") (pos (2 ^ 32) ∷ pos 0 ∷ []) ∷ [] }) ≡ Some 4
narrow_argument = refl

wide_argument : misfit imports_all (record fitting { calls = call 4 (codes "f") (pos 0 ∷ negsuc (2 ^ 63) ∷ []) ∷ [] }) ≡ Some 4
wide_argument = refl

-- ---- order: the first line counts, whatever its kind; a missing global comes last

first_line : misfit imports_all (record fitting { globals = global 8 (codes "x") (pos 0) ∷ []; calls = call 7 (codes "g") [] ∷ call 3 (codes "g") [] ∷ []; replies = [] }) ≡ Some 3
first_line = refl

line_before_missing : misfit imports_all (record fitting { globals = []; calls = call 7 (codes "g") [] ∷ [] }) ≡ Some 7
line_before_missing = refl
