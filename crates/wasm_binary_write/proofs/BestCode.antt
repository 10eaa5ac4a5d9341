-- The shortest spellings of types and instructions.
use Rattle.std.proofs.Common.{◌≡◌, ℕ, ◌<◌, false, List, [], ◌∷◌, ◌++◌, length, refl, sym, ap, subst, arith, length-append}
use Rattle.wasm_lang.specs.Instructions.{local_get, local_set, local_tee, global_get, global_set, load, store, memory_size, memory_copy, memory_fill, const32, const64, block, loop, if_block, br, br_if, br_table, call, call_indirect, plain}
use Rattle.wasm_lang.specs.Numbers.{IsU32}
use Rattle.wasm_lang.specs.Grammar.{IsVec, IsValType, i32_type, i64_type, IsBlockType, no_result, one_result, IsFunctionType, function_type, IsLimits, only_min, min_and_max, IsTable, a_table, IsMutable, is_constant, is_variable, IsGlobalType, global_type, IsMemoryImmediate, ArePlainImmediates, AreImmediates, IsInstruction, instruction, IsCode}
use Rattle.wasm_binary_write.specs.Spelling.{unsigned, items, vector, value_type, block_type, limits, table, mutability, plain_immediates, immediates}
use Rattle.wasm_binary_write.specs.Spelling as own
use Rattle.wasm_binary_write.proofs.Groups.{groups_last}
use Rattle.wasm_binary_write.proofs.Opcodes.{instruction_found}
use Rattle.wasm_binary_write.proofs.Best.{AreBytes, bytes_append, Best, AreBest, before, two_shorter, best_u32, best_integer, best_items, best_vec}

pub best_val_type : AreBest IsValType value_type
best_val_type t xs ys bytes i32_type = record { spells = λ us. i32_type; shorter = omega arith; bytes = (omega arith, tt); rest = bytes.1 }
best_val_type t xs ys bytes i64_type = record { spells = λ us. i64_type; shorter = omega arith; bytes = (omega arith, tt); rest = bytes.1 }

pub best_block_type : AreBest IsBlockType block_type
best_block_type t xs ys bytes no_result = record { spells = λ us. no_result; shorter = omega arith; bytes = (omega arith, tt); rest = bytes.1 }
best_block_type t xs ys bytes (one_result {t = r} h) =
    let b = best_val_type r xs ys bytes h in
    record { spells = λ us. one_result (b.spells us); shorter = b.shorter; bytes = b.bytes; rest = b.rest }

pub best_function_type : AreBest IsFunctionType own.function_type
best_function_type t xs zs bytes (function_type {ps = ps} {rs = rs} {xs = ws} {ys = ys} p r) =
    let a = best_vec IsValType value_type best_val_type ps ws ys bytes.1 p in
    let b = best_vec IsValType value_type best_val_type rs ys zs a.rest r in
    let l = two_shorter (vector value_type ps) (vector value_type rs) (length ws) (length ys) (length zs) a.shorter b.shorter in
    record {
      spells = λ us. function_type (before (IsVec IsValType ps) (vector value_type ps) (vector value_type rs) us ws ys a) (b.spells us);
      shorter = omega arith;
      bytes = (omega arith, bytes_append (vector value_type ps) (vector value_type rs) a.bytes b.bytes);
      rest = b.rest;
    }

pub best_limits : AreBest IsLimits limits
best_limits l xs ys bytes (only_min {n = n} {xs = ws} h) =
    let a = best_u32 n ws ys bytes.1 h in
    let s = a.shorter in
    record { spells = λ us. only_min (a.spells us); shorter = omega arith; bytes = (omega arith, a.bytes); rest = a.rest }
best_limits l xs zs bytes (min_and_max {n = n} {m = m} {xs = ws} {ys = ys} h k) =
    let a = best_u32 n ws ys bytes.1 h in
    let b = best_u32 m ys zs a.rest k in
    let s = two_shorter (unsigned n) (unsigned m) (length ws) (length ys) (length zs) a.shorter b.shorter in
    record {
      spells = λ us. min_and_max (before (IsU32 n) (unsigned n) (unsigned m) us ws ys a) (b.spells us);
      shorter = omega arith;
      bytes = (omega arith, bytes_append (unsigned n) (unsigned m) a.bytes b.bytes);
      rest = b.rest;
    }

pub best_table : AreBest IsTable table
best_table l xs ys bytes (a_table {xs = ws} h) =
    let a = best_limits l ws ys bytes.1 h in
    let s = a.shorter in
    record { spells = λ us. a_table (a.spells us); shorter = omega arith; bytes = (omega arith, a.bytes); rest = a.rest }

best_mutable : AreBest IsMutable mutability
best_mutable m xs ys bytes is_constant = record { spells = λ us. is_constant; shorter = omega arith; bytes = (omega arith, tt); rest = bytes.1 }
best_mutable m xs ys bytes is_variable = record { spells = λ us. is_variable; shorter = omega arith; bytes = (omega arith, tt); rest = bytes.1 }

pub best_global_type : AreBest IsGlobalType own.global_type
best_global_type g xs zs bytes (global_type {t = t} {m = m} {ys = ys} h k) =
    let a = best_val_type t xs ys bytes h in
    let b = best_mutable m ys zs a.rest k in
    record {
      spells = λ us. global_type (before (IsValType t) (value_type t) (mutability m) us xs ys a) (b.spells us);
      shorter = two_shorter (value_type t) (mutability m) (length xs) (length ys) (length zs) a.shorter b.shorter;
      bytes = bytes_append (value_type t) (mutability m) a.bytes b.bytes;
      rest = b.rest;
    }

-- ---- instructions

best_access : (align offset : ℕ) (xs zs : List ℕ) → AreBytes xs → IsMemoryImmediate align offset xs zs → Best (IsMemoryImmediate align offset) (unsigned align ++ unsigned offset) xs zs
best_access align offset xs zs bytes h =
    let a = best_u32 align xs h.0 bytes h.1 in
    let b = best_u32 offset h.0 zs a.rest h.2 in
    record {
      spells = λ us. (unsigned offset ++ us, before (IsU32 align) (unsigned align) (unsigned offset) us xs h.0 a, b.spells us);
      shorter = two_shorter (unsigned align) (unsigned offset) (length xs) (length h.0) (length zs) a.shorter b.shorter;
      bytes = bytes_append (unsigned align) (unsigned offset) a.bytes b.bytes;
      rest = b.rest;
    }

best_none : (xs ys : List ℕ) → AreBytes xs → xs ≡ ys → Best (λ xs ys. xs ≡ ys) [] xs ys
best_none xs ys bytes e = record { spells = λ us. refl; shorter = omega (arith, ap length e); bytes = tt; rest = subst AreBytes e bytes }

best_zero : (xs ys : List ℕ) → AreBytes xs → xs ≡ 0x00 ∷ ys → Best (λ xs ys. xs ≡ 0x00 ∷ ys) (0x00 ∷ []) xs ys
best_zero xs ys bytes e = let r : AreBytes (0x00 ∷ ys) = subst AreBytes e bytes in record { spells = λ us. refl; shorter = omega (arith, ap length e); bytes = (omega arith, tt); rest = r.1 }

low_number : (n : ℕ) → n < 128 → unsigned n ≡ n ∷ []
low_number n h = groups_last 128 false n h

best_copy : (xs ys : List ℕ) → AreBytes xs → IsU32 10 xs (0x00 ∷ 0x00 ∷ ys) → Best (λ xs ys. IsU32 10 xs (0x00 ∷ 0x00 ∷ ys)) (10 ∷ 0x00 ∷ 0x00 ∷ []) xs ys
best_copy xs ys bytes h =
    let a = best_u32 10 xs (0x00 ∷ 0x00 ∷ ys) bytes h in
    let e = low_number 10 (omega arith) in
    record {
      spells = λ us. subst (λ l. IsU32 10 (l ++ 0x00 ∷ 0x00 ∷ us) (0x00 ∷ 0x00 ∷ us)) e (a.spells (0x00 ∷ 0x00 ∷ us));
      shorter = omega (arith, ap length e, a.shorter);
      bytes = (omega arith, (omega arith, (omega arith, tt)));
      rest = a.rest.1.1;
    }

best_fill : (xs ys : List ℕ) → AreBytes xs → IsU32 11 xs (0x00 ∷ ys) → Best (λ xs ys. IsU32 11 xs (0x00 ∷ ys)) (11 ∷ 0x00 ∷ []) xs ys
best_fill xs ys bytes h =
    let a = best_u32 11 xs (0x00 ∷ ys) bytes h in
    let e = low_number 11 (omega arith) in
    record {
      spells = λ us. subst (λ l. IsU32 11 (l ++ 0x00 ∷ us) (0x00 ∷ us)) e (a.spells (0x00 ∷ us));
      shorter = omega (arith, ap length e, a.shorter);
      bytes = (omega arith, (omega arith, tt));
      rest = a.rest.1;
    }

best_plain : AreBest ArePlainImmediates plain_immediates
best_plain (local_get x) xs ys bytes h = best_u32 x xs ys bytes h
best_plain (local_set x) xs ys bytes h = best_u32 x xs ys bytes h
best_plain (local_tee x) xs ys bytes h = best_u32 x xs ys bytes h
best_plain (global_get x) xs ys bytes h = best_u32 x xs ys bytes h
best_plain (global_set x) xs ys bytes h = best_u32 x xs ys bytes h
best_plain (load op align offset) xs ys bytes h = best_access align offset xs ys bytes h
best_plain (store op align offset) xs ys bytes h = best_access align offset xs ys bytes h
best_plain memory_size xs ys bytes h = best_zero xs ys bytes h
best_plain memory_copy xs ys bytes h = best_copy xs ys bytes h
best_plain memory_fill xs ys bytes h = best_fill xs ys bytes h
best_plain (const32 word) xs ys bytes h = best_integer 32 word xs ys (omega arith) bytes h
best_plain (const64 word) xs ys bytes h = best_integer 64 word xs ys (omega arith) bytes h
best_plain p xs ys bytes h = best_none xs ys bytes h

best_branches : (ls : List ℕ) (l : ℕ) (xs zs : List ℕ) → AreBytes xs → AreImmediates (br_table ls l) xs zs → Best (AreImmediates (br_table ls l)) (vector unsigned ls ++ unsigned l) xs zs
best_branches ls l xs zs bytes h =
    let a = best_vec IsU32 unsigned best_u32 ls xs h.0 bytes h.1 in
    let b = best_u32 l h.0 zs a.rest h.2 in
    record {
      spells = λ us. (unsigned l ++ us, before (IsVec IsU32 ls) (vector unsigned ls) (unsigned l) us xs h.0 a, b.spells us);
      shorter = two_shorter (vector unsigned ls) (unsigned l) (length xs) (length h.0) (length zs) a.shorter b.shorter;
      bytes = bytes_append (vector unsigned ls) (unsigned l) a.bytes b.bytes;
      rest = b.rest;
    }

best_indirect : (t : ℕ) (xs ys : List ℕ) → AreBytes xs → IsU32 t xs (0x00 ∷ ys) → Best (λ xs ys. IsU32 t xs (0x00 ∷ ys)) (unsigned t ++ (0x00 ∷ [])) xs ys
best_indirect t xs ys bytes h =
    let a = best_u32 t xs (0x00 ∷ ys) bytes h in
    record {
      spells = λ us. before (IsU32 t) (unsigned t) (0x00 ∷ []) us xs (0x00 ∷ ys) a;
      shorter = omega (arith, length-append (unsigned t) (0x00 ∷ []), a.shorter);
      bytes = bytes_append (unsigned t) (0x00 ∷ []) a.bytes (omega arith, tt);
      rest = a.rest.1;
    }

best_immediates : AreBest AreImmediates immediates
best_immediates (block r) xs ys bytes h = best_block_type r xs ys bytes h
best_immediates (loop r) xs ys bytes h = best_block_type r xs ys bytes h
best_immediates (if_block r) xs ys bytes h = best_block_type r xs ys bytes h
best_immediates (br l) xs ys bytes h = best_u32 l xs ys bytes h
best_immediates (br_if l) xs ys bytes h = best_u32 l xs ys bytes h
best_immediates (br_table ls l) xs ys bytes h = best_branches ls l xs ys bytes h
best_immediates (call f) xs ys bytes h = best_u32 f xs ys bytes h
best_immediates (call_indirect t) xs ys bytes h = best_indirect t xs ys bytes h
best_immediates (plain p) xs ys bytes h = best_plain p xs ys bytes h
best_immediates i xs ys bytes h = best_none xs ys bytes h

pub best_instruction : AreBest IsInstruction own.instruction
best_instruction i xs ys bytes (instruction {byte = byte} {xs = ws} is h) =
    let a = best_immediates i ws ys bytes.1 h in
    let s = a.shorter in
    subst (λ own. Best (IsInstruction i) own xs ys) (sym (instruction_found byte i is))
    (record { spells = λ us. instruction is (a.spells us); shorter = omega arith; bytes = (bytes.0, a.bytes); rest = a.rest })

pub best_code : AreBest IsCode (items own.instruction)
best_code code xs ys bytes h =
    let a = best_items IsInstruction own.instruction best_instruction code xs ys bytes h.instructions in
    record { spells = λ us. record { instructions = a.spells us; expression = h.expression }; shorter = a.shorter; bytes = a.bytes; rest = a.rest }
