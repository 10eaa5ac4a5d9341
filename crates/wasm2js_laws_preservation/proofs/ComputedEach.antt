-- Instruction by instruction.
use Rattle.std.proofs.Common.{◌≡◌, ℕ, Bool, true, false, ◌||◌, refl, sym, subst, arith}
use Rattle.std.specs.Prelude.{◌==◌}
use Rattle.std.proofs.lemmas.Bool.Decides.{nat_tests}
use Rattle.sem_words.specs.declared.word.Bin.{Bin}
use Rattle.sem_words.specs.declared.word.Bin.TheVariants.{Add, Sub, Mul, DivS, DivU, RemS, RemU, And, Or, Xor, Shl, ShrS, ShrU, Rotl, Rotr}
use Rattle.sem_words.specs.declared.word.Un.{Un}
use Rattle.sem_words.specs.declared.word.Un.TheVariants.{Clz, Ctz, Popcnt}
use Rattle.wasm_lang.specs.Instructions.{Plain, nop, drop_operand, select, local_get, local_set, local_tee, global_get, global_set, load, store, memory_size, memory_copy, memory_fill, const32, const64, eqz32, eqz64, rel32, rel64, un32, un64, bin32, bin64, wrap, extend_s, extend_u, sign_extend}
use Rattle.wasm_lang_valid.specs.Measures.{is_mul_div}
use Rattle.wasm_lang_exec.specs.Code.{Tree, unreachable, block, loop, if_block, br, br_if, br_table, return, call, call_indirect, plain}
use Rattle.wasm2js_laws_typed.specs.Laws.{is_extended}
use Rattle.wasm2js_laws_preservation.specs.ControlControl.{Function}
use Rattle.wasm2js_laws_preservation.specs.ControlLaws.{OpensNone, IsKeptFirst}
use Rattle.wasm2js_laws_preservation.proofs.ControlKept.{code_is_kept}
use Rattle.wasm2js_laws_preservation.specs.InstructionsPlain.{Always}
use Rattle.wasm2js_laws_preservation.proofs.InstructionsComputing.{plains_are_kept}
use Rattle.wasm2js_laws_preservation.proofs.BranchesLeaving.{branches_are_kept}
use Rattle.wasm2js_laws_preservation.proofs.SwitchesTabled.{indexed_branches_are_kept}
use Rattle.wasm2js_laws_preservation.proofs.PlainSummed as narrow_sums
use Rattle.wasm2js_laws_preservation.proofs.PlainComparing as narrow_bits
use Rattle.wasm2js_laws_preservation.proofs.PlainTurned as narrow_turns
use Rattle.wasm2js_laws_preservation.proofs.PlainAsked as narrow_asked
use Rattle.wasm2js_laws_preservation.proofs.PlainConstant as narrow_constant
use Rattle.wasm2js_laws_preservation.proofs.PlainExtending as narrow_extending
use Rattle.wasm2js_laws_preservation.proofs.PlainCodeless.{nothing_is, dropped_is, wrapped_is}
use Rattle.wasm2js_laws_preservation.proofs.WideSummed as wide_sums
use Rattle.wasm2js_laws_preservation.proofs.WideBitwise as wide_bits
use Rattle.wasm2js_laws_preservation.proofs.WideCompared as wide_compared
use Rattle.wasm2js_laws_preservation.proofs.WideTurned as wide_turns
use Rattle.wasm2js_laws_preservation.proofs.WideCounted as wide_counts
use Rattle.wasm2js_laws_preservation.proofs.WideExtending as wide_extending
use Rattle.wasm2js_laws_preservation.proofs.VariablesLocal.{local_read, local_written, local_written_too}
use Rattle.wasm2js_laws_preservation.proofs.VariablesGlobal.{global_read, global_written}
use Rattle.wasm2js_laws_preservation.proofs.VariablesChosen.{selected_is, size_is}
use Rattle.wasm2js_laws_preservation.specs.ComputedLaws.{accesses_memory, EachIs, IsHelped, EachIsKept, AllIsKept}

-- ---- operators

narrow_binary_is : (op : Bin) → Always (bin32 op)
narrow_binary_is Add = narrow_sums.sum_is
narrow_binary_is Sub = narrow_sums.difference_is
narrow_binary_is Mul = narrow_sums.product_is
narrow_binary_is DivS = narrow_asked.quotient_signed_is
narrow_binary_is DivU = narrow_asked.quotient_is
narrow_binary_is RemS = narrow_asked.rest_signed_is
narrow_binary_is RemU = narrow_asked.rest_is
narrow_binary_is And = narrow_bits.conjunction_is
narrow_binary_is Or = narrow_bits.disjunction_is
narrow_binary_is Xor = narrow_bits.exclusion_is
narrow_binary_is Shl = narrow_bits.shift_left_is
narrow_binary_is ShrS = narrow_bits.shift_right_signed_is
narrow_binary_is ShrU = narrow_bits.shift_right_is
narrow_binary_is Rotl = narrow_turns.rotation_left_is
narrow_binary_is Rotr = narrow_turns.rotation_right_is

narrow_unary_is : (op : Un) → Always (un32 op)
narrow_unary_is Clz = narrow_turns.leading_zeros_is
narrow_unary_is Ctz = narrow_turns.trailing_zeros_is
narrow_unary_is Popcnt = narrow_asked.set_bits_is

wide_binary_is : (op : Bin) → is_mul_div op ≡ false → Always (bin64 op)
wide_binary_is Add h = wide_sums.sum_is
wide_binary_is Sub h = wide_bits.difference_is
wide_binary_is Mul h = absurd (cc h)
wide_binary_is DivS h = absurd (cc h)
wide_binary_is DivU h = absurd (cc h)
wide_binary_is RemS h = absurd (cc h)
wide_binary_is RemU h = absurd (cc h)
wide_binary_is And h = wide_bits.conjunction_is
wide_binary_is Or h = wide_bits.disjunction_is
wide_binary_is Xor h = wide_bits.exclusion_is
wide_binary_is Shl h = wide_turns.shift_left_is
wide_binary_is ShrS h = wide_turns.shift_right_signed_is
wide_binary_is ShrU h = wide_turns.shift_right_is
wide_binary_is Rotl h = wide_turns.rotation_left_is
wide_binary_is Rotr h = wide_turns.rotation_right_is

wide_unary_is : (op : Un) → Always (un64 op)
wide_unary_is Clz = wide_counts.leading_zeros_is
wide_unary_is Ctz = wide_counts.trailing_zeros_is
wide_unary_is Popcnt = wide_counts.set_bits_is

-- ---- extensions

same_number : (n k : ℕ) → (n == k) ≡ true → n ≡ k
same_number n k h = grind (arith, nat_tests, h)

module _ (bits : ℕ) where
  narrow_extension : (t u : Bool) → (bits == 8) ≡ t → (bits == 16) ≡ u → (t || u) ≡ true → Always (sign_extend false bits)
  narrow_extension true u e g h = subst (λ n. Always (sign_extend false n)) (sym (same_number bits 8 e)) narrow_extending.byte_is
  narrow_extension false true e g h = subst (λ n. Always (sign_extend false n)) (sym (same_number bits 16 g)) narrow_extending.half_is
  narrow_extension false false e g h = absurd (cc h)

  wide_extension : (t u v : Bool) → (bits == 8) ≡ t → (bits == 16) ≡ u → (bits == 32) ≡ v → (t || (u || v)) ≡ true → Always (sign_extend true bits)
  wide_extension true u v e g k h = subst (λ n. Always (sign_extend true n)) (sym (same_number bits 8 e)) wide_extending.byte_is
  wide_extension false true v e g k h = subst (λ n. Always (sign_extend true n)) (sym (same_number bits 16 g)) wide_extending.half_is
  wide_extension false false true e g k h = subst (λ n. Always (sign_extend true n)) (sym (same_number bits 32 k)) wide_extending.word_is
  wide_extension false false false e g k h = absurd (cc h)

  extension_is : (wide : Bool) → is_extended wide bits ≡ true → Always (sign_extend wide bits)
  extension_is false h = narrow_extension (bits == 8) (bits == 16) refl refl h
  extension_is true h = wide_extension (bits == 8) (bits == 16) (bits == 32) refl refl refl h

-- ---- all of them

pub each_is : EachIs
each_is nop n h = nothing_is
each_is drop_operand n h = dropped_is
each_is select n h = selected_is
each_is (local_get x) n h = local_read x
each_is (local_set x) n h = local_written x
each_is (local_tee x) n h = local_written_too x
each_is (global_get x) n h = global_read x
each_is (global_set x) n h = global_written x
each_is (load op align offset) n h = absurd (cc n)
each_is (store op align offset) n h = absurd (cc n)
each_is memory_size n h = size_is
each_is memory_copy n h = absurd (cc n)
each_is memory_fill n h = absurd (cc n)
each_is (const32 k) n h = narrow_constant.constant_is k h
each_is (const64 k) n h = wide_extending.constant_is k h
each_is eqz32 n h = narrow_bits.zero_test_is
each_is eqz64 n h = wide_compared.zero_is
each_is (rel32 op) n h = narrow_bits.relation_is op
each_is (rel64 op) n h = wide_compared.comparison_is op
each_is (un32 op) n h = narrow_unary_is op
each_is (un64 op) n h = wide_unary_is op
each_is (bin32 op) n h = narrow_binary_is op
each_is (bin64 op) n h = wide_binary_is op h
each_is wrap n h = wrapped_is
each_is extend_s n h = wide_extending.signed_is
each_is extend_u n h = wide_extending.unsigned_is
each_is (sign_extend wide bits) n h = extension_is bits wide h

pub each_is_kept : EachIsKept
each_is_kept f helped p n = plains_are_kept f helped.fair helped.calls helped.follow helped.helping helped.helpers p (λ h. each_is p n h f helped.helping helped.supports)

-- ---- all code

module _ (f : Function) (helped : IsHelped f) (accesses : (p : Plain) → accesses_memory p ≡ true → IsKeptFirst f (plain p)) (calls : (g : ℕ) → IsKeptFirst f (call g))
    (entries : (t : ℕ) → IsKeptFirst f (call_indirect t)) where
  plain_kept : (p : Plain) (access : Bool) → accesses_memory p ≡ access → IsKeptFirst f (plain p)
  plain_kept p true e = accesses p e
  plain_kept p false e = each_is_kept f helped p e

  first_kept : (t : Tree) → OpensNone t → IsKeptFirst f t
  first_kept unreachable h = branches_are_kept f helped.fair helped.fair.provides.fixed.traps unreachable tt
  first_kept (block r body) h = absurd h
  first_kept (loop r body) h = absurd h
  first_kept (if_block r first second) h = absurd h
  first_kept (br k) h = branches_are_kept f helped.fair helped.fair.provides.fixed.traps (br k) tt
  first_kept (br_if k) h = branches_are_kept f helped.fair helped.fair.provides.fixed.traps (br_if k) tt
  first_kept (br_table ks d) h = indexed_branches_are_kept f helped.fair ks d
  first_kept return h = branches_are_kept f helped.fair helped.fair.provides.fixed.traps return tt
  first_kept (call g) h = calls g
  first_kept (call_indirect t) h = entries t
  first_kept (plain p) h = plain_kept p (accesses_memory p) refl

pub all_is_kept : AllIsKept
all_is_kept f helped accesses calls entries = code_is_kept f helped.fair (first_kept f helped accesses calls entries)
