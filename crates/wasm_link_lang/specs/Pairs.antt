-- Two modules whose imports from `env` are bound to each other's exports. Functions, types and globals of both stand one after the other, the
-- first module's first, and a number among all of them is an address, as in a store of the standard (section 4.2.4).
use Rattle.std.specs.Prelude.{ℕ, zero, suc, ◌+◌, not, ◌&&◌, if◌then◌else◌, List, [], ◌∷◌, ◌++◌, length, map, replicate, Option, Some, None, option_map, slice_get}
use Rattle.std.specs.Cmp.Lexicographic.{pointwise}
use Rattle.std.specs.Prelude.{nat_eq}
use Rattle.wasm_lang.specs.Instructions.{Instruction, call, call_indirect, plain, global_get, global_set}
use Rattle.wasm_lang.specs.Modules.{FunctionType, Imported, FunctionBody, WasmModule}
use Rattle.wasm_lang_valid.specs.Measures.{env_name, is_given, is_function_import}
use Rattle.wasm_lang_valid.specs.ModuleRules.{function_types, global_types}
use Rattle.wasm_lang_exec.specs.Reductions.{Callee, callees, found}
use Rattle.wasm_lang_exec.specs.Session.{function_named}

pub record Pair : Type 0 where
  pub first : WasmModule
  pub second : WasmModule

-- ---- addresses

-- where the addresses of a module's functions, types and globals begin
pub record Bases : Type 0 where
  pub functions : ℕ
  pub types : ℕ
  pub globals : ℕ

abbrev pub past_first : Pair → Bases
past_first w = record { functions = length (function_types w.first); types = length w.first.types; globals = length (global_types w.first) }

-- an instruction with addresses in place of numbers
abbrev pub addressed : Bases → Instruction → Instruction
addressed b (call f) = call (b.functions + f)
addressed b (call_indirect t) = call_indirect (b.types + t)
addressed b (plain (global_get x)) = plain (global_get (b.globals + x))
addressed b (plain (global_set x)) = plain (global_set (b.globals + x))
addressed b i = i

-- the module with the code of each body addressed
abbrev pub at_addresses : Bases → WasmModule → WasmModule
at_addresses b m = record m { bodies = map (λ (f : FunctionBody). record f { code = map (addressed b) f.code }) m.bodies }

-- all functions, by their addresses
abbrev pub all_callees : Pair → List (Option Callee)
all_callees w = callees w.first ++ callees (at_addresses (past_first w) w.second)

-- the types of both, by their addresses
abbrev pub all_types : Pair → List FunctionType
all_types w = w.first.types ++ w.second.types

-- ---- bound imports

-- the number of the function that the other module exports under the name of a function import of `env`; `$trap` and `$high` are the host's
abbrev pub bound_to : (other : WasmModule) → Imported → Option ℕ
bound_to other i =
    if is_function_import i.kind && pointwise nat_eq i.module_name env_name && not (is_given i) then function_named other.exports i.name else None

-- the function imports of a list of imports, in order
abbrev pub function_imports : List Imported → List Imported
function_imports [] = []
function_imports (i ∷ is) = if is_function_import i.kind then i ∷ function_imports is else function_imports is

-- for each function import of a module: the address of the function that it is bound to, where it is bound
abbrev pub first_bindings : Pair → List (Option ℕ)
first_bindings w = map (λ i. option_map (λ f. (past_first w).functions + f) (bound_to w.second i)) (function_imports w.first.imports)

abbrev pub second_bindings : Pair → List (Option ℕ)
second_bindings w = map (bound_to w.first) (function_imports w.second.imports)

-- .. for each function of both, by its address
abbrev pub bindings : Pair → List (Option ℕ)
bindings w = (first_bindings w ++ replicate (length w.first.functions) None) ++ (second_bindings w ++ replicate (length w.second.functions) None)

abbrev pub bound : Option (Option ℕ) → Option ℕ
bound None = None
bound (Some b) = b

-- what a bound import is bound to; none for any other function
abbrev pub next : Pair → (address : ℕ) → Option ℕ
next w a = bound (slice_get (bindings w) a)

-- the function itself where it isn't a bound import
abbrev pub bound_or_itself : Option ℕ → ℕ → (ℕ → Option ℕ) → Option ℕ
bound_or_itself None a follow = Some a
bound_or_itself (Some b) a follow = follow b

-- What a function stands for: itself where it isn't a bound import, else what the function stands for that it is bound to. None where that isn't
-- found in so many turns.
abbrev pub stands_for : (turns : ℕ) → Pair → ℕ → Option ℕ
stands_for zero w a = None
stands_for (suc turns) w a = bound_or_itself (next w a) a (stands_for turns w)

-- how many function imports there are
abbrev pub import_count : Pair → ℕ
import_count w = length (function_imports w.first.imports) + length (function_imports w.second.imports)

-- Each turn but the last leads to another import, so these are enough where no import leads back to itself.
abbrev pub end_of : Pair → ℕ → Option ℕ
end_of w a = stands_for (suc (import_count w)) w a

abbrev pub callee_of : Pair → Option ℕ → Option Callee
callee_of w None = None
callee_of w (Some a) = found (slice_get (all_callees w) a)

-- what a call of the function at an address calls
abbrev pub called : Pair → ℕ → Option Callee
called w a = callee_of w (end_of w a)
