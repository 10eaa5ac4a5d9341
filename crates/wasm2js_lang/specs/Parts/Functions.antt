-- The functions of a module of asm.js that stands for one of WebAssembly, and those that it exports.
use Rattle.std.specs.Prelude.{◌≡◌, ◌⊎◌, ℕ, ◌+◌, ◌-◌, Bool, true, false, List, [], ◌∷◌, ◌++◌, length, map, nat_le, Some, slice_get, option_map, codes, bytes_eq, pos, ◌==◌, if◌then◌else◌}
use Rattle.std.specs.List.{AllByRecursion, flat_map, list_any}
use Rattle.sem_words.specs.declared.word.TrapKind.TheVariants.{TableEntry, OtherType}
use Rattle.sem_words.specs.declared.word.Bin.TheVariants.{DivS, DivU, RemS, RemU}
use Rattle.sem_words.specs.declared.word.Un.TheVariants.{Popcnt}
use Rattle.sem_words.specs.Words.{trap_code}
use Rattle.session_lang.specs.Names.{export_name}
use Rattle.session_lang.specs.Observation.{trap_name}
use Rattle.wasm_lang.specs.declared.types.ExportKind.{ExportKind}
use Rattle.wasm_lang.specs.declared.types.ExportKind.TheVariants as exports
use Rattle.wasm_lang.specs.Instructions.{Instruction, plain, un32, bin32, load, store, memory_copy, memory_fill}
use Rattle.wasm_lang.specs.Modules.{FunctionType, Exported as Export, DataSegment, FunctionBody, WasmModule}
use Rattle.wasm_lang_valid.specs.ModuleRules.{function_types, has_memory}
use Rattle.asm_lang.specs.Modules.{lit, call, no_exprs, exprs, Stmt, plain, Stmts, stmts, Function, Table, Module}
use Rattle.asm_lang_valid.specs.Refusal.{Exported, exported_from}
use Rattle.asm_lang_valid.specs.Scope.{Signature, signature_of, a_foreign, meaning, is_in}
use Rattle.wasm2js_lang.specs.Calling.{Entry, entry, words, has_result}
use Rattle.wasm2js_lang.specs.Helpers.{is_wide_operator, has_wide_operators}

-- ---- instructions whose code calls a helper: operators on words of 64 bits and their set bits, and ..

-- set bits are counted in each word of 32 bits
abbrev pub counts_set_bits : Instruction → Bool
counts_set_bits (plain (un32 Popcnt)) = true
counts_set_bits i = is_wide_operator i

abbrev pub is_signed_quotient : Instruction → Bool
is_signed_quotient (plain (bin32 DivS)) = true
is_signed_quotient i = false

abbrev pub is_quotient : Instruction → Bool
is_quotient (plain (bin32 DivU)) = true
is_quotient i = false

abbrev pub is_signed_remainder : Instruction → Bool
is_signed_remainder (plain (bin32 RemS)) = true
is_signed_remainder i = false

abbrev pub is_remainder : Instruction → Bool
is_remainder (plain (bin32 RemU)) = true
is_remainder i = false

-- of so many bytes
abbrev pub is_load : ℕ → Instruction → Bool
is_load n (plain (load op align offset)) = op.size == n
is_load n i = false

abbrev pub is_store : ℕ → Instruction → Bool
is_store n (plain (store op align offset)) = op.size == n
is_store n i = false

abbrev pub is_copy : Instruction → Bool
is_copy (plain memory_copy) = true
is_copy i = false

abbrev pub is_fill : Instruction → Bool
is_fill (plain memory_fill) = true
is_fill i = false

-- some instruction of the module is one of these
abbrev pub has_instruction : (Instruction → Bool) → WasmModule → Bool
has_instruction is_one w = list_any (λ (b : FunctionBody). list_any is_one b.code) w.bodies

-- .. and data segments with so many bytes that words of them are written by calls
abbrev pub is_long : DataSegment → Bool
is_long d = nat_le 512 (length d.bytes)

abbrev pub has_long_segments : WasmModule → Bool
has_long_segments w = list_any is_long w.segments

-- ---- helpers, by their names: how many ints each takes, and whether it gives one; and which modules ask for it

pub record Offered : Type 0 where
  pub entry : Entry
  pub asked_by : WasmModule → Bool

abbrev pub offered : (name : List ℕ) (params : ℕ) (result : Bool) → (WasmModule → Bool) → Offered
offered name params result asked_by = record { entry = entry name params result; asked_by = asked_by }

-- shifts, a rotation and counts of bits of 64-bit words; quotients and remainders of 32-bit words
abbrev pub word_helpers : List Offered
word_helpers =
    offered (codes "$shl") 3 true has_wide_operators
    ∷ offered (codes "$shrs") 3 true has_wide_operators
    ∷ offered (codes "$shru") 3 true has_wide_operators
    ∷ offered (codes "$rotl") 3 true has_wide_operators
    ∷ offered (codes "$clz") 2 true has_wide_operators
    ∷ offered (codes "$ctz") 2 true has_wide_operators
    ∷ offered (codes "$pop") 1 true (has_instruction counts_set_bits)
    ∷ offered (codes "$divs") 2 true (has_instruction is_signed_quotient)
    ∷ offered (codes "$divu") 2 true (has_instruction is_quotient)
    ∷ offered (codes "$rems") 2 true (has_instruction is_signed_remainder)
    ∷ offered (codes "$remu") 2 true (has_instruction is_remainder)
    ∷ []

-- words at any place of the memory, read and written; runs of bytes; sixteen words from a place on, and zeros from one place to another
abbrev pub memory_helpers : List Offered
memory_helpers =
    offered (codes "$load32") 1 true (has_instruction (is_load 4))
    ∷ offered (codes "$load64") 1 true (has_instruction (is_load 8))
    ∷ offered (codes "$store32") 2 false (has_instruction (is_store 4))
    ∷ offered (codes "$store64") 3 false (has_instruction (is_store 8))
    ∷ offered (codes "$copy") 3 false (has_instruction is_copy)
    ∷ offered (codes "$fill") 3 false (has_instruction is_fill)
    ∷ offered (codes "$put") 17 false has_long_segments
    ∷ offered (codes "$zero") 2 false has_long_segments
    ∷ []

-- those that the module asks for, and no other, in this order
abbrev pub asked_among : WasmModule → List Offered → List Entry
asked_among w [] = []
asked_among w (h ∷ hs) = (if h.asked_by w then h.entry ∷ [] else []) ++ asked_among w hs

abbrev pub helpers_asked : WasmModule → List Entry
helpers_asked w = asked_among w (word_helpers ++ (if has_memory w then memory_helpers else []))

-- the helper of this name is asked for
abbrev pub is_asked_among : WasmModule → List Offered → (name : List ℕ) → Bool
is_asked_among w [] name = false
is_asked_among w (h ∷ hs) name = if bytes_eq h.entry.key name then h.asked_by w else is_asked_among w hs name

abbrev pub is_asked : WasmModule → (name : List ℕ) → Bool
is_asked w name = is_asked_among w (word_helpers ++ memory_helpers) name

-- ---- functions of the source: the imported ones first, as WebAssembly numbers them, and all after the helpers

-- each word of 64 bits is two ints
abbrev pub signature_asked : FunctionType → Signature
signature_asked t = record { params = words t.params; result = has_result t.results }

-- where function k of the source stands
abbrev pub place_of : WasmModule → (k : ℕ) → ℕ
place_of w k = length (helpers_asked w) + k

-- ---- functions that trap: they stand in tables where a call finds no function of its type

-- `$trap(kind);`
abbrev pub trap_call : (kind : ℕ) → Stmt
trap_call kind = plain (call trap_name (exprs (lit (pos kind)) no_exprs))

-- what the function does first is a call of the trap import with this number
pub record Traps (a : Module) (kind : ℕ) (f : Function) : Type 0 where
  pub more : Stmts
  pub first : f.body ≡ stmts (trap_call kind) more
  pub of_host : meaning a f trap_name ≡ a_foreign trap_name

-- a function that is a member of a table, and traps as a call of an empty entry does, or of an entry of another type
pub record IsStub (a : Module) (f : Function) : Type 0 where
  pub table : Table
  pub place : ℕ
  pub is_table : slice_get a.tables place ≡ Some table
  pub is_member : is_in f.name table.members ≡ true
  pub traps : Traps a (trap_code TableEntry) f ⊎ Traps a (trap_code OtherType) f

-- ---- exports: the first begins a session, and the second gives the high word of the last 64-bit result

abbrev pub exported_kind : WasmModule → (key : List ℕ) → ExportKind → List Exported
exported_kind w key (exports.Func f) = record { key = key; function = place_of w f } ∷ []
exported_kind w key _ = []

-- with the number of each one's function
abbrev pub exports_asked : WasmModule → Module → List Exported
exports_asked w a =
    record { key = codes "$init"; function = length a.functions - 2 }
    ∷ record { key = codes "$hi"; function = length a.functions - 1 }
    ∷ flat_map (λ (e : Export). exported_kind w (export_name e.name) e.kind) w.exports

-- ---- the functions, in order, and no other

abbrev pub as_entry : Function → Entry
as_entry f = record { key = f.name; signature = signature_of f }

pub record HasFunctions (w : WasmModule) (a : Module) : Type 0 where
  pub helpers : List Function
  pub source : List Function
  pub stubs : List Function
  pub last : List Function
  pub all : a.functions ≡ helpers ++ source ++ stubs ++ last
  pub are_helpers : map as_entry helpers ≡ helpers_asked w
  pub are_source : map (λ f. Some (signature_of f)) source ≡ map (λ t. option_map signature_asked (slice_get w.types t)) (function_types w)
  pub are_stubs : AllByRecursion (IsStub a) stubs
  pub are_last : map as_entry last ≡ entry (codes "$init") 0 false ∷ entry (codes "$hi") 0 true ∷ []
  pub exported : exported_from a a.exports ≡ exports_asked w a
