-- A body of a module without copies and fills has none in its tree.
use Rattle.std.proofs.Common.{◌≡◌, ℕ, zero, suc, ◌||◌, Bool, true, false, List, [], ◌∷◌, Some, refl, subst}
use Rattle.std.specs.Prelude.{slice_get}
use Rattle.std.specs.List.{AllByRecursion, list_any}
use Rattle.wasm_lang.specs.declared.types.ValType.{ValType}
use Rattle.wasm_lang.specs.Instructions as flat
use Rattle.wasm_lang.specs.Instructions.{Plain, memory_copy, memory_fill, Instruction}
use Rattle.wasm_lang.specs.Modules.{FunctionType, FunctionBody, WasmModule}
use Rattle.wasm_lang_exec.specs.Code.{Trees}
use Rattle.wasm_lang_exec.specs.Reductions.{a_function, callees, callee_at}
use Rattle.wasm2js_lang.specs.Allowed.{is_block_operation, has_block_operations}
use Rattle.wasm2js_laws_acceptance.proofs.FunctionsFound.{found_own}
use Rattle.wasm2js_laws_preservation.specs.OccurringLaws.{AllPlain, IsNone}
use Rattle.wasm2js_laws_preservation.proofs.OccurringNested.{none_in_trees}
use Rattle.wasm2js_laws_preservation.specs.MemoryLaws.{moves_run}
use Rattle.wasm2js_laws_simulation.proofs.FramesHelped.{found_some}

plain_moves_none : (p : Plain) → is_block_operation (flat.plain p) ≡ false → moves_run p ≡ false
plain_moves_none memory_copy h = absurd (cc h)
plain_moves_none memory_fill h = absurd (cc h)
plain_moves_none p h = refl

moves_none : (i : Instruction) → is_block_operation i ≡ false → IsNone moves_run i
moves_none (flat.plain p) h = plain_moves_none p h
moves_none i h = tt

none_of_all : {A : Type 0} → (test : A → Bool) (xs : List A) → list_any test xs ≡ false → AllByRecursion (λ x. test x ≡ false) xs
none_of_all test [] h = tt
none_of_all test (x ∷ xs) h = by (test x) refl (none_of_all test xs) h
  where
    by : (t : Bool) → test x ≡ t → (list_any test xs ≡ false → AllByRecursion (λ x. test x ≡ false) xs) → (t || list_any test xs) ≡ false → AllByRecursion (λ x. test x ≡ false) (x ∷ xs)
    by true e f h = absurd (cc h)
    by false e f h = (e, f h)

all_move_none : (is : List Instruction) → AllByRecursion (λ i. is_block_operation i ≡ false) is → AllByRecursion (IsNone moves_run) is
all_move_none [] h = tt
all_move_none (i ∷ is) h = (moves_none i h.0, all_move_none is h.1)

at_place : {A : Type 0} → (P : A → Type 0) (xs : List A) (i : ℕ) (x : A) → AllByRecursion P xs → slice_get xs i ≡ Some x → P x
at_place P [] i x h e = absurd (cc e)
at_place P (y ∷ xs) zero x h e = let same : y ≡ x = cc e in subst P same h.0
at_place P (y ∷ xs) (suc i) x h e = at_place P xs i x h.1 e

pub body_moves_none : (w : WasmModule) → has_block_operations w ≡ false → (k : ℕ) (t : FunctionType) (more : List ValType) (code : Trees) → callee_at w k ≡ Some (a_function t more code)
    → AllPlain (λ p. moves_run p ≡ false) code
body_moves_none w none k t more code is =
    let it = found_own w t more code k (found_some (slice_get (callees w) k) (a_function t more code) is) in
    let bodies = none_of_all (λ (b : FunctionBody). list_any is_block_operation b.code) w.bodies none in
    let here = at_place (λ (b : FunctionBody). list_any is_block_operation b.code ≡ false) w.bodies it.0 it.1.body bodies it.1.is_body in
    none_in_trees moves_run it.1.body.code code (all_move_none it.1.body.code (none_of_all is_block_operation it.1.body.code here)) it.1.has_tree
