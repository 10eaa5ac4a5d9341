-- Moved code fits, and takes at most 63 times as many bytes.
use Rattle.std.proofs.Common.{◌≡◌, ℕ, zero, suc, ◌+◌, ◌*◌, ◌^◌, ◌<◌, ◌≤◌, Bool, true, false, List, [], ◌∷◌, ◌++◌, length, map, None, refl, sym, ap, ◌∙◌, subst, arith, length-append}
use Rattle.std.specs.Prelude.{nat_lt, if◌then◌else◌, ◌||◌}
use Rattle.std.specs.List.{flat_map, AllByRecursion}
use Rattle.std.proofs.lemmas.List.Elements.{All-from_recursion}
use Rattle.wasm_lang.specs.Instructions.{Plain, Instruction, call, call_indirect, plain, global_get, global_set}
use Rattle.wasm_lang.specs.Shape.{HasOpcode}
use Rattle.wasm_binary_write.specs.Spelling.{items, instruction}
use Rattle.wasm_laws_write.specs.Fits.{FitsU32, InstructionFits}
use Rattle.wasm_laws_write.specs.Lengths.{code_size, IsNarrow}
use Rattle.wasm_laws_write.proofs.Short.{narrow_fit, code_is_short}
use Rattle.wasm_link_lang.specs.Pairs.{Pair, Bases, addressed}
use Rattle.wasm_link_lang.specs.Reductions.{entries}
use Rattle.wasm_link_lang.specs.Refusal.{is_indirect, has_indirect, sums_past}
use Rattle.wasm_link_code.specs.Code.{by_entry, moved}
use Rattle.wasm_link_code.specs.Numbers.{number, global_number}
use Rattle.wasm_link_laws_writable.proofs.Sums.{few_sums}
use Rattle.wasm_link_laws_writable.proofs.Lengths.{some_instruction, joined_items, spread}
use Rattle.wasm_link_laws_writable.proofs.Numbers.{number_fits, global_number_fits}
use Rattle.wasm_link_laws_writable.proofs.Typed.{InTypes}

-- what stands for an instruction fits, and isn't much longer
pub record Stands (i : Instruction) (code : List Instruction) : Type 0 where
  pub fits : AllByRecursion InstructionFits code
  pub short : length (items instruction code) ≤ 63 * length (instruction i)

narrow_all : (code : List Instruction) → AllByRecursion IsNarrow code → AllByRecursion InstructionFits code
narrow_all [] a = tt
narrow_all (i ∷ is) a = (narrow_fit i a.0, narrow_all is a.1)

-- nine narrow instructions at most
narrow_stands : (i : Instruction) (code : List Instruction) → HasOpcode i → AllByRecursion IsNarrow code → code_size code ≤ 9 → Stands i code
narrow_stands i code h a few =
    let short = code_is_short code (All-from_recursion IsNarrow code a) in
    let some = some_instruction i h in
    record { fits = narrow_all code a; short = omega (arith, short, some, few) }

-- the instruction itself
same_stands : (i : Instruction) → InstructionFits i → Stands i (i ∷ [])
same_stands i h = record { fits = (h, tt); short = omega (arith, length-append (instruction i) []) }

-- ---- calls by an entry

entry_narrow : (other k base n t : ℕ) → FitsU32 k → FitsU32 base → FitsU32 n → FitsU32 t → AllByRecursion IsNarrow (by_entry other k base n t)
entry_narrow zero k base n t a b c d = (d, tt)
entry_narrow (suc other) k zero n t a b c d = (a, (omega arith, (a, (c, (tt, (tt, (d, tt)))))))
entry_narrow (suc other) k (suc base) n t a b c d = (a, (b, (tt, (omega arith, (a, (c, (tt, (tt, (d, tt)))))))))

entry_few : (other k base n t : ℕ) → code_size (by_entry other k base n t) ≤ 9
entry_few zero k base n t = omega arith
entry_few (suc other) k zero n t = omega arith
entry_few (suc other) k (suc base) n t = omega arith

indirect_stands : (w : Pair) (k n t address : ℕ) → sums_past w ≡ None → HasOpcode (call_indirect t) → FitsU32 k → FitsU32 address → Stands (call_indirect t) (moved w k (call_indirect address))
indirect_stands w k n t address sums h room fits = by (nat_lt address (length w.first.types))
  where
    first : FitsU32 (entries w.first)
    first = let few = (few_sums w sums).entries in omega (arith, few)

    second : FitsU32 (entries w.second)
    second = let few = (few_sums w sums).entries in omega (arith, few)

    by : (b : Bool) → Stands (call_indirect t) (if b then by_entry (entries w.second) k 0 (entries w.first) address else by_entry (entries w.first) k (entries w.first) (entries w.second) address)
    by true = narrow_stands (call_indirect t) (by_entry (entries w.second) k 0 (entries w.first) address) h (entry_narrow (entries w.second) k 0 (entries w.first) address room (omega arith) first fits) (entry_few (entries w.second) k 0 (entries w.first) address)
    by false = narrow_stands (call_indirect t) (by_entry (entries w.first) k (entries w.first) (entries w.second) address) h (entry_narrow (entries w.first) k (entries w.first) (entries w.second) address room first second fits) (entry_few (entries w.first) k (entries w.first) (entries w.second) address)

-- ---- each instruction

pub record IsReady (n : ℕ) (i : Instruction) : Type 0 where
  pub fits : InstructionFits i
  pub opcode : HasOpcode i
  pub types : InTypes n i

abbrev pub moved_all : Pair → Bases → (k : ℕ) → List Instruction → List Instruction
moved_all w b k = flat_map (λ i. moved w k (addressed b i))

both_fit : (xs ys : List Instruction) → AllByRecursion InstructionFits xs → AllByRecursion InstructionFits ys → AllByRecursion InstructionFits (xs ++ ys)
both_fit [] ys p q = q
both_fit (x ∷ xs) ys p q = (p.0, both_fit xs ys p.1 q)

or_right : (a b : Bool) → b ≡ true → a || b ≡ true
or_right true b e = refl
or_right false b e = e

module _ (w : Pair) (b : Bases) (k n : ℕ) (sums : sums_past w ≡ None) (few : b.types + n < 2 ^ 32) where
  plain_stands : (p : Plain) → IsReady n (plain p) → Stands (plain p) (moved w k (addressed b (plain p)))
  plain_stands (global_get x) r = narrow_stands (plain (global_get x)) (plain (global_get (global_number w (b.globals + x))) ∷ []) r.opcode (global_number_fits w (b.globals + x) sums, tt) (omega arith)
  plain_stands (global_set x) r = narrow_stands (plain (global_set x)) (plain (global_set (global_number w (b.globals + x))) ∷ []) r.opcode (global_number_fits w (b.globals + x) sums, tt) (omega arith)
  plain_stands p r = same_stands (plain p) r.fits

  one_stands : (i : Instruction) → (is_indirect i ≡ true → FitsU32 k) → IsReady n i → Stands i (moved w k (addressed b i))
  unfolding InTypes
  one_stands (call f) room r = narrow_stands (call f) (call (number w (b.functions + f)) ∷ []) r.opcode (number_fits w (b.functions + f) sums, tt) (omega arith)
  one_stands (call_indirect t) room r = let there : t < n = r.types in indirect_stands w k n t (b.types + t) sums r.opcode (room refl) (omega (arith, few, there))
  one_stands (plain p) room r = plain_stands p r
  one_stands i room r = same_stands i r.fits

  pub code_fits : (code : List Instruction) → (has_indirect code ≡ true → FitsU32 k) → AllByRecursion (IsReady n) code → AllByRecursion InstructionFits (moved_all w b k code)
  code_fits [] room e = tt
  code_fits (i ∷ is) room e =
      both_fit (moved w k (addressed b i)) (moved_all w b k is) ((one_stands i (λ t. room (ap (λ b. b || has_indirect is) t)) e.0).fits) (code_fits is (λ t. room (or_right (is_indirect i) (has_indirect is) t)) e.1)

  pub code_short : (code : List Instruction) → (has_indirect code ≡ true → FitsU32 k) → AllByRecursion (IsReady n) code → length (items instruction (moved_all w b k code)) ≤ 63 * length (items instruction code)
  code_short [] room e = omega arith
  code_short (i ∷ is) room e =
      spread 63 (length (instruction i)) (length (items instruction is)) (length (items instruction (i ∷ is)))
      (length (items instruction (moved w k (addressed b i)))) (length (items instruction (moved_all w b k is))) (length (items instruction (moved_all w b k (i ∷ is))))
      (length-append (instruction i) (items instruction is)) (joined_items instruction (moved w k (addressed b i)) (moved_all w b k is))
      ((one_stands i (λ t. room (ap (λ b. b || has_indirect is) t)) e.0).short) (code_short is (λ t. room (or_right (is_indirect i) (has_indirect is) t)) e.1)
