-- The bodies of two valid modules that can be linked, as the code makes them, are those of the linked module.
use Rattle.std.proofs.Common.{◌≡◌, ℕ, zero, suc, ◌+◌, ◌^◌, ◌<◌, ◌≤◌, Bool, true, false, List, [], ◌∷◌, ◌++◌, length, map, Option, Some, None, refl, sym, ap, ◌∙◌, subst, arith}
use Rattle.std.specs.Prelude.{if◌then◌else◌, ◌||◌}
use Rattle.std.specs.List.{flat_map, AllByRecursion}
use Rattle.wasm_lang.specs.declared.types.ValType.TheVariants.{I32}
use Rattle.wasm_lang.specs.Instructions.{Instruction, call_indirect}
use Rattle.wasm_lang.specs.Modules.{FunctionBody, WasmModule}
use Rattle.wasm_link_lang.specs.Pairs.{Pair, Bases, past_first, addressed, at_addresses}
use Rattle.wasm_link_lang.specs.Refusal.{is_indirect, has_indirect, locals_of, crowded}
use Rattle.wasm_link_code.specs.Code.{moved, moved_code, scratch}
use Rattle.wasm_link_code.specs.Laws.{no_bases}
use Rattle.wasm_link_code.specs.Linked.{moved_bodies}
use Rattle.wasm_link_code.proofs.CodeAddresses.{first_is_addressed, indirect_stays}
use Rattle.wasm_link_move.specs.Moved.{bases, moved_in, Fits, AllFit, pushed}
use Rattle.wasm_link_move.proofs.Pushed.{all_moved}
use Rattle.wasm_link_sections.specs.Made.{body_made, bodies_made}
use Rattle.wasm_link_laws_writable.proofs.Typed.{InTypes, bodies_types, few_locals, uncrowded}
use Rattle.wasm_link_laws_writable.proofs.Shaped.{fused}

-- ---- code that fits

or_right : (a b : Bool) → b ≡ true → a || b ≡ true
or_right true b e = refl
or_right false b e = e

fits_one : (w : Pair) (second : Bool) (k n : ℕ) (i : Instruction) → (bases w second).types + n < 2 ^ 32 → (is_indirect i ≡ true → k < 2 ^ 32) → InTypes n i → Fits w second k i
unfolding InTypes
fits_one w second k n (call_indirect t) few room h = (omega (arith, few, h), room refl)
fits_one w second k n i few room h = tt

all_fit : (w : Pair) (second : Bool) (k n : ℕ) (code : List Instruction) → (bases w second).types + n < 2 ^ 32 → (has_indirect code ≡ true → k < 2 ^ 32) → AllByRecursion (InTypes n) code → AllFit w second k code
all_fit w second k n [] few room h = tt
all_fit w second k n (i ∷ is) few room h = (
  fits_one w second k n i few (λ e. room (ap (λ b. b || has_indirect is) e)) h.0,
  all_fit w second k n is few (λ e. room (or_right (is_indirect i) (has_indirect is) e)) h.1,
)

-- ---- bodies

pub first_bodies : (w : Pair) (m : WasmModule) (other i : ℕ) (bs : List FunctionBody) → 0 + length m.types < 2 ^ 32 → AllByRecursion (λ (b : FunctionBody). AllByRecursion (InTypes (length m.types)) b.code) bs → crowded m i bs ≡ None
    → bodies_made w false m other i bs ≡ moved_bodies w m other i bs
first_bodies w m other i [] few h c = refl
first_bodies w m other i (b ∷ bs) few h c =
    let k = locals_of m i b in
    let u = uncrowded m i b bs c in
    let code : flat_map (pushed w false k) b.code ≡ flat_map (moved w k) b.code =
    all_moved w false k b.code (all_fit w false k (length m.types) b.code few (λ e. (let low = few_locals m i b u.0 e in omega (arith, low))) h.0) ∙ fused (moved w k) (addressed no_bases) b.code ∙ ap (flat_map (moved w k)) (first_is_addressed b.code) in
    ap (λ is. record { locals = b.locals ++ scratch other b.code; code = is } ∷ bodies_made w false m other (suc i) bs) code
    ∙ ap (λ l. record { locals = b.locals ++ scratch other b.code; code = moved_code w k b.code } ∷ l) (first_bodies w m other (suc i) bs few h.1 u.1)

scratch_stays : (other : ℕ) (b : Bases) (code : List Instruction) → scratch other (map (addressed b) code) ≡ scratch other code
scratch_stays zero b code = refl
scratch_stays (suc other) b code = ap (λ t. if t then I32 ∷ [] else []) (indirect_stays b code)

pub second_bodies : (w : Pair) (m : WasmModule) (other i : ℕ) (bs : List FunctionBody) → (past_first w).types + length m.types < 2 ^ 32 → AllByRecursion (λ (b : FunctionBody). AllByRecursion (InTypes (length m.types)) b.code) bs → crowded m i bs ≡ None
    → bodies_made w true m other i bs ≡ moved_bodies w m other i (map (λ (f : FunctionBody). record f { code = map (addressed (past_first w)) f.code }) bs)
second_bodies w m other i [] few h c = refl
second_bodies w m other i (b ∷ bs) few h c =
    let k = locals_of m i b in
    let u = uncrowded m i b bs c in
    let code : flat_map (pushed w true k) b.code ≡ flat_map (moved w k) (map (addressed (past_first w)) b.code) =
    all_moved w true k b.code (all_fit w true k (length m.types) b.code few (λ e. (let low = few_locals m i b u.0 e in omega (arith, low))) h.0) ∙ fused (moved w k) (addressed (past_first w)) b.code in
    ap (λ is. record { locals = b.locals ++ scratch other b.code; code = is } ∷ bodies_made w true m other (suc i) bs) code
    ∙ ap (λ s. record { locals = b.locals ++ s; code = moved_code w k (map (addressed (past_first w)) b.code) } ∷ bodies_made w true m other (suc i) bs) (sym (scratch_stays other (past_first w) b.code))
    ∙ ap (λ l. record { locals = b.locals ++ scratch other (map (addressed (past_first w)) b.code); code = moved_code w k (map (addressed (past_first w)) b.code) } ∷ l) (second_bodies w m other (suc i) bs few h.1 u.1)
