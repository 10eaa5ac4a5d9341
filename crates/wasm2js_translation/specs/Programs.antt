-- Modules of WebAssembly that are run in both languages, with their scripts and how they are called.
use Rattle.std.specs.Prelude.{ℕ, ◌+◌, ◌-◌, ◌*◌, ◌^◌, false, true, List, [], ◌∷◌, ◌++◌, replicate, Some, ℤ, pos, negsuc, codes, Bool}
use Rattle.std.specs.List.{flat_map}
use Rattle.sem_words.specs.declared.word.Bin.{Bin}
use Rattle.sem_words.specs.declared.word.Bin.TheVariants as bins
use Rattle.sem_words.specs.declared.word.Un.{Un}
use Rattle.sem_words.specs.declared.word.Un.TheVariants as uns
use Rattle.sem_words.specs.declared.word.Rel.{Rel}
use Rattle.sem_words.specs.declared.word.Rel.TheVariants as rels
use Rattle.session_lang.specs.Script.{CallPlain, give, WritePlain, ReplyLinePlain, ScriptPlain}
use Rattle.session_lang.specs.CallingForms.{ShapePlain}
use Rattle.wasm_lang.specs.declared.types.ValType.TheVariants.{I32, I64}
use Rattle.wasm_lang.specs.Instructions.{Instruction, Plain, call, unreachable, plain, eqz32, eqz64, rel32, rel64, un32, un64, bin32, bin64, wrap, extend_s, extend_u, sign_extend, load, memory_copy}
use Rattle.wasm_lang.specs.Modules.{FunctionType, WasmModule}
use Rattle.wasm2js_translation.specs.Pieces.{type, body, get, int, long, from_env, exported, limits, bytes, nothing_at_all, alone, with_page}

-- ---- scripts

abbrev pub called : List ℤ → ℕ → CallPlain
called zs line = record { name = codes "f"; args = zs; line = line }

abbrev pub calls : List CallPlain → ScriptPlain
calls cs = record { globals = []; writes = []; calls = cs; replies = [] }

abbrev pub replied : ℕ → List WritePlain → ReplyLinePlain
replied word writes = record { reply = give word writes; line = 9 }

abbrev pub no_shape : List ShapePlain
no_shape = []

-- of `f`
abbrev pub shape : List Bool → Bool → List ShapePlain
shape wide result = record { key = codes "f"; wide = wide; wide_result = result } ∷ []

-- ---- 4294967295 + 4294967295

abbrev pub adding_shape : List ShapePlain
adding_shape = shape (true ∷ true ∷ []) true

abbrev pub adding_script : ScriptPlain
adding_script = calls (called (pos 4294967295 ∷ pos 4294967295 ∷ []) 1 ∷ [])

-- ---- a start function that calls an import, and then traps

abbrev pub starting : WasmModule
starting = record nothing_at_all {
  types = type (I32 ∷ []) [] ∷ type [] [] ∷ [];
  imports = from_env (codes "p") 0 ∷ [];
  functions = 1 ∷ [];
  start = Some 1;
  bodies = body [] (int 9 ∷ call 0 ∷ unreachable ∷ []) ∷ [];
}

abbrev pub starting_script : ScriptPlain
starting_script = record (calls []) { replies = replied 0 [] ∷ [] }

-- ---- a reply of 64 bits that writes bytes, which are read afterwards

abbrev pub asking : WasmModule
asking = record nothing_at_all {
  types = type [] (I64 ∷ []) ∷ [];
  imports = from_env (codes "p") 0 ∷ [];
  functions = 0 ∷ [];
  memories = limits 1 ∷ [];
  exports = exported (codes "f") 1 ∷ [];
  bodies = body [] (call 0 ∷ int 0 ∷ plain (load (record { wide = true; size = 2; signed = true }) 0 1) ∷ plain (bin64 bins.Add) ∷ []) ∷ [];
}

abbrev pub asking_shape : List ShapePlain
asking_shape = shape [] true

abbrev pub asking_script : ScriptPlain
asking_script = record (calls (called [] 1 ∷ [])) { replies = replied (5 * 2 ^ 32 + 7) (record { at = 1; bytes = 200 ∷ 255 ∷ []; line = 9 } ∷ []) ∷ [] }

-- ---- a copy to one byte further, and one that passes the end of the memory

abbrev pub copying : WasmModule
copying = record (with_page (type (I32 ∷ I32 ∷ I32 ∷ []) []) (get 0 ∷ get 1 ∷ get 2 ∷ plain memory_copy ∷ [])) { segments = bytes 0 (1 ∷ 2 ∷ 3 ∷ 4 ∷ 5 ∷ []) ∷ [] }

abbrev pub copying_script : ScriptPlain
copying_script = calls (called (pos 1 ∷ pos 0 ∷ pos 5 ∷ []) 1 ∷ called (pos 65532 ∷ pos 0 ∷ pos 5 ∷ []) 2 ∷ [])

-- ---- operators on words of 32 bits; each result goes out

abbrev pub all_bins : List Bin
all_bins =
    bins.Add ∷ bins.Sub ∷ bins.Mul ∷ bins.DivS ∷ bins.DivU ∷ bins.RemS ∷ bins.RemU ∷ bins.And ∷ bins.Or ∷ bins.Xor
    ∷ bins.Shl ∷ bins.ShrS ∷ bins.ShrU ∷ bins.Rotl ∷ bins.Rotr ∷ []

-- those on words of 64 bits that are translated
abbrev pub wide_bins : List Bin
wide_bins = bins.Add ∷ bins.Sub ∷ bins.And ∷ bins.Or ∷ bins.Xor ∷ bins.Shl ∷ bins.ShrS ∷ bins.ShrU ∷ bins.Rotl ∷ bins.Rotr ∷ []

abbrev pub all_rels : List Rel
all_rels = rels.Eq ∷ rels.Ne ∷ rels.LtS ∷ rels.LtU ∷ rels.GtS ∷ rels.GtU ∷ rels.LeS ∷ rels.LeU ∷ rels.GeS ∷ rels.GeU ∷ []

abbrev pub all_uns : List Un
all_uns = uns.Clz ∷ uns.Ctz ∷ uns.Popcnt ∷ []

-- the operator on both arguments, or on one of them, and then a call of this function
abbrev pub of_both : ℕ → Plain → List Instruction
of_both f p = get 0 ∷ get 1 ∷ plain p ∷ call f ∷ []

abbrev pub of_one : (x f : ℕ) → Plain → List Instruction
of_one x f p = get x ∷ plain p ∷ call f ∷ []

abbrev pub narrow_code : List Instruction
narrow_code =
    flat_map (λ op. of_both 0 (bin32 op)) all_bins
    ++ flat_map (λ op. of_both 0 (rel32 op)) all_rels
    ++ flat_map (λ op. of_one 0 0 (un32 op)) all_uns
    ++ of_one 0 0 eqz32 ++ of_one 1 0 (sign_extend false 8) ++ of_one 1 0 (sign_extend false 16)

-- p takes a word of 32 bits, and q one of 64
abbrev pub sending : FunctionType → List Instruction → WasmModule
sending t code = record nothing_at_all {
  types = type (I32 ∷ []) [] ∷ type (I64 ∷ []) [] ∷ t ∷ [];
  imports = from_env (codes "p") 0 ∷ from_env (codes "q") 1 ∷ [];
  functions = 2 ∷ [];
  exports = exported (codes "f") 2 ∷ [];
  bodies = body [] code ∷ [];
}

abbrev pub narrow : WasmModule
narrow = sending (type (I32 ∷ I32 ∷ []) []) narrow_code

-- with so many replies
abbrev pub answered : ℕ → List CallPlain → ScriptPlain
answered n cs = record (calls cs) { replies = replicate n (replied 0 []) }

abbrev pub narrow_script : ScriptPlain
narrow_script = answered 93 (called (negsuc 6 ∷ pos 35 ∷ []) 1 ∷ called (pos 0 ∷ pos 2147516544 ∷ []) 2 ∷ called (pos 40 ∷ pos 40 ∷ []) 3 ∷ [])

-- a quotient that traps

abbrev pub dividing : WasmModule
dividing = alone (type (I32 ∷ I32 ∷ []) (I32 ∷ [])) [] (get 0 ∷ get 1 ∷ plain (bin32 bins.DivS) ∷ [])

abbrev pub by_zero_script : ScriptPlain
by_zero_script = calls (called (pos 7 ∷ negsuc 1 ∷ []) 1 ∷ called (pos 7 ∷ pos 0 ∷ []) 2 ∷ [])

abbrev pub overflow_script : ScriptPlain
overflow_script = calls (called (pos 2147483648 ∷ negsuc 0 ∷ []) 1 ∷ [])

-- ---- operators on words of 64 bits

abbrev pub wide_code : List Instruction
wide_code =
    flat_map (λ op. of_both 1 (bin64 op)) wide_bins
    ++ flat_map (λ op. of_both 0 (rel64 op)) all_rels
    ++ flat_map (λ op. of_one 0 1 (un64 op)) all_uns
    ++ of_one 1 0 eqz64 ++ of_one 0 0 wrap
    ++ flat_map (λ bits. of_one 0 1 (sign_extend true bits)) (8 ∷ 16 ∷ 32 ∷ [])
    ++ get 0 ∷ plain wrap ∷ plain extend_s ∷ call 1 ∷ get 0 ∷ plain wrap ∷ plain extend_u ∷ call 1 ∷ long (2 ^ 64 - 2) ∷ call 1 ∷ []

abbrev pub wide : WasmModule
wide = sending (type (I64 ∷ I64 ∷ []) []) wide_code

abbrev pub wide_shape : List ShapePlain
wide_shape = shape (true ∷ true ∷ []) false

abbrev pub wide_script : ScriptPlain
wide_script = answered 93 (called (pos 81985529216486895 ∷ pos 36 ∷ []) 1 ∷ called (negsuc 4294967296 ∷ pos 0 ∷ []) 2 ∷ called (pos 0 ∷ pos 68 ∷ []) 3 ∷ [])
