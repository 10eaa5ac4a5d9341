-- Why small pairs aren't linked, as the checker computes it: one for each row, and for the order.
use Rattle.std.proofs.Common.{◌≡◌, ℕ, List, [], ◌∷◌, Some, None, Option, refl}
use Rattle.std.specs.Prelude.{Bool, true, false, codes, replicate}
use Rattle.wasm_lang.specs.declared.types.ValType.TheVariants.{I32}
use Rattle.wasm_lang.specs.declared.types.ImportKind.TheVariants as imports
use Rattle.wasm_lang.specs.Instructions.{plain, const32, end_mark, call_indirect}
use Rattle.wasm_lang.specs.Modules.{WasmModule}
use Rattle.wasm_link_lang.specs.declared.rows.LinkRow.TheVariants as rows
use Rattle.wasm_link_lang.specs.declared.rows.LinkRow.{LinkRow}
use Rattle.wasm_link_lang.specs.declared.rows.Refused.{Refused}
use Rattle.wasm_link_lang.specs.Pairs.{Pair, next, end_of}
use Rattle.wasm_link_lang.specs.Refusal.{refusal}
use Rattle.wasm_link_lang.proofs.Examples.{empty, library, program, from_env, exported, to_nothing, with_table}

abbrev pair_of : WasmModule → WasmModule → Pair
pair_of p q = record { first = p; second = q }

abbrev refused : LinkRow → Bool → ℕ → Option Refused
refused row second value = Some (record { row = row; second = second; value = value })

with_itself : refusal (pair_of library library) ≡ refused rows.ExportTaken true 0
with_itself = refl

abbrev with_table_import : WasmModule
with_table_import = record empty { imports = record { module_name = codes "env"; name = codes "t"; kind = imports.Table (record { min = 1; max = None }) } ∷ [] }

table_imported : refusal (pair_of library with_table_import) ≡ refused rows.Profile true 14
table_imported = refl

first_before_second : refusal (pair_of with_table_import with_table_import) ≡ refused rows.Profile false 14
first_before_second = refl

abbrev with_memory : List ℕ → ℕ → Option ℕ → WasmModule
with_memory name least most = record empty { imports = record { module_name = codes "env"; name = name; kind = imports.Memory (record { min = least; max = most }) } ∷ [] }

other_memory : refusal (pair_of empty (with_memory (codes "mem") 3 None)) ≡ refused rows.MemoryName true 3
other_memory = refl

own_memory : refusal (pair_of (record empty { memories = record { min = 2; max = None } ∷ [] }) empty) ≡ refused rows.MemoryName false 2
own_memory = refl

below_the_minimum : refusal (pair_of (with_memory (codes "memory") 1 (Some 4)) (with_memory (codes "memory") 5 None)) ≡ refused rows.MemoryLimits false 5
below_the_minimum = refl

no_maximum_below : refusal (pair_of (with_memory (codes "memory") 1 (Some 5)) (with_memory (codes "memory") 5 None)) ≡ None
no_maximum_below = refl

-- the second's function of the name is of another type
other_type : refusal (pair_of (record library { types = to_nothing ∷ [] }) program) ≡ refused rows.OtherType true 0
other_type = refl

-- each exports what it imports from the other: `a` and `b` are a ring, `c` leads into it
abbrev ring : Pair
ring = pair_of
    (record empty { types = to_nothing ∷ []; imports = from_env (codes "c") ∷ from_env (codes "a") ∷ []; exports = exported (codes "b") 1 ∷ [] })
    (record empty { types = to_nothing ∷ []; imports = from_env (codes "b") ∷ []; exports = exported (codes "a") 0 ∷ exported (codes "c") 0 ∷ [] })

leads_back : refusal ring ≡ refused rows.Cycle false 1
leads_back = refl

stands_for_nothing : end_of ring 0 ≡ None
stands_for_nothing = refl

-- `$trap` and `$high` of `env` are the host's, and so is every function of another module
abbrev with_high : WasmModule
with_high = record library { exports = exported (codes "$high") 0 ∷ exported (codes "$trap") 0 ∷ [] }

high_is_the_hosts : next (pair_of with_high (record program { imports = from_env (codes "$high") ∷ from_env (codes "$trap") ∷ [] })) 1 ≡ None
high_is_the_hosts = refl

other_modules_are_the_hosts :
    next (pair_of library (record program { imports = record { module_name = codes "lib"; name = codes "inc"; kind = imports.Func 0 } ∷ [] })) 1 ≡ None
other_modules_are_the_hosts = refl

-- a function with a call by an entry, and so many locals
abbrev with_locals : ℕ → WasmModule
with_locals n = record (with_table (codes "x") (codes "y") 1) {
  functions = 0 ∷ [];
  exports = [];
  bodies = record { locals = replicate n I32; code = plain (const32 0) ∷ plain (const32 0) ∷ call_indirect 0 ∷ end_mark ∷ [] } ∷ [];
}

many_entries : refusal (pair_of (record (with_locals 0) { tables = record { min = 1000000; max = None } ∷ [] }) (record (with_locals 0) { tables = record { min = 48577; max = None } ∷ [] }))
    ≡ refused rows.Limit false 1048577
many_entries = refl

crowded : refusal (pair_of library (with_locals 59999)) ≡ refused rows.Limit true 0
crowded = refl

not_crowded : refusal (pair_of library (with_locals 59998)) ≡ None
not_crowded = refl
