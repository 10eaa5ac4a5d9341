-- Moved bodies fit, and take at most 63 times as many bytes.
use Rattle.std.proofs.Common.{◌≡◌, ℕ, zero, suc, ◌+◌, ◌*◌, ◌^◌, ◌<◌, ◌≤◌, ◌⊎◌, Bool, true, false, List, [], ◌∷◌, ◌++◌, length, map, Option, Some, None, refl, sym, ap, ◌∙◌, subst, arith, inl, inr, length-append, append-nil}
use Rattle.std.specs.Prelude.{nat_le, if◌then◌else◌, ◌&&◌}
use Rattle.std.specs.List.{flat_map, AllByRecursion}
use Rattle.std.proofs.lemmas.List.Elements.{All-from_recursion}
use Rattle.wasm_lang.specs.declared.types.ValType.{ValType}
use Rattle.wasm_lang.specs.declared.types.ValType.TheVariants.{I32, I64}
use Rattle.wasm_lang.specs.Instructions.{Instruction}
use Rattle.wasm_lang.specs.Modules.{FunctionBody, WasmModule}
use Rattle.wasm_binary_write.specs.Spelling.{unsigned, items, vector, sized, value_type, same_type, runs_from, runs, run, instruction, body}
use Rattle.wasm_laws_write.specs.Fits.{FitsU32, InstructionFits, BodyFits}
use Rattle.wasm_laws_write.proofs.Short.{numbers_are_short}
use Rattle.wasm_link_lang.specs.Pairs.{Pair, Bases, addressed}
use Rattle.wasm_link_lang.specs.Refusal.{has_indirect, locals_of, crowded, sums_past}
use Rattle.wasm_link_code.specs.Code.{moved, moved_code, scratch}
use Rattle.wasm_link_code.specs.Linked.{moved_bodies}
use Rattle.wasm_link_code.proofs.CodeAddresses.{indirect_stays}
use Rattle.wasm_link_laws_writable.proofs.Lengths.{some_vector, some_sized, spread}
use Rattle.wasm_link_laws_writable.proofs.MovedCode.{IsReady, moved_all, code_fits, code_short}
use Rattle.wasm_link_laws_writable.proofs.Shaped.{fused}
use Rattle.wasm_link_laws_writable.proofs.Typed.{few_locals, uncrowded}

-- ---- one local more

value_long : (t : ValType) → length (value_type t) ≡ 1
value_long I32 = refl
value_long I64 = refl

run_short : (n : ℕ) (t : ValType) → n < 2 ^ 32 → length (run (n, t)) ≤ 6
run_short n t h = omega (arith, length-append (unsigned n) (value_type t), value_long t, numbers_are_short n h)

run_items : (n : ℕ) (t : ValType) (rs : List (ℕ × ValType)) → length (items run ((n, t) ∷ rs)) ≡ length (run (n, t)) + length (items run rs)
run_items n t rs = length-append (run (n, t)) (items run rs)

last_run : (n : ℕ) (t : ValType) → n + 1 < 2 ^ 32 → length (items run (runs_from n t (I32 ∷ []))) ≤ 6 + length (items run (runs_from n t []))
last_run n I32 h = omega (arith, run_items (n + 1) I32 [], run_short (n + 1) I32 h)
last_run n I64 h = omega (arith, run_items n I64 ((1, I32) ∷ []), run_items n I64 [], run_items 1 I32 [], run_short 1 I32 (omega arith))

runs_longer : (n : ℕ) (t : ValType) (us : List ValType) → n + length us + 1 < 2 ^ 32 → length (items run (runs_from n t (us ++ I32 ∷ []))) ≤ 6 + length (items run (runs_from n t us))
runs_longer n t [] h = last_run n t (omega (arith, h))
runs_longer n t (u ∷ us) h = by (runs_longer (n + 1) t us (omega (arith, h))) (runs_longer 1 u us (omega (arith, h))) (same_type t u)
  where
    by : length (items run (runs_from (n + 1) t (us ++ I32 ∷ []))) ≤ 6 + length (items run (runs_from (n + 1) t us)) → length (items run (runs_from 1 u (us ++ I32 ∷ []))) ≤ 6 + length (items run (runs_from 1 u us))
        → (b : Bool) → length (items run (if b then runs_from (n + 1) t (us ++ I32 ∷ []) else (n, t) ∷ runs_from 1 u (us ++ I32 ∷ []))) ≤ 6 + length (items run (if b then runs_from (n + 1) t us else (n, t) ∷ runs_from 1 u us))
    by same other true = same
    by same other false = omega (arith, run_items n t (runs_from 1 u (us ++ I32 ∷ [])), run_items n t (runs_from 1 u us), other)

runs_few : (n : ℕ) (t : ValType) (us : List ValType) → length (runs_from n t us) ≤ 1 + length us
runs_few n t [] = omega arith
runs_few n t (u ∷ us) = by (runs_few (n + 1) t us) (runs_few 1 u us) (same_type t u)
  where
    by : length (runs_from (n + 1) t us) ≤ 1 + length us → length (runs_from 1 u us) ≤ 1 + length us → (b : Bool) → length (if b then runs_from (n + 1) t us else (n, t) ∷ runs_from 1 u us) ≤ 1 + suc (length us)
    by same other true = omega (arith, same)
    by same other false = omega (arith, other)

all_longer : (ls : List ValType) → length ls + 1 < 2 ^ 32 → length (items run (runs (ls ++ I32 ∷ []))) ≤ 6 + length (items run (runs ls))
all_longer [] h = omega (arith, run_items 1 I32 [], run_short 1 I32 (omega arith))
all_longer (t ∷ ts) h = runs_longer 1 t ts (omega (arith, h))

all_few : (ls : List ValType) → length (runs (ls ++ I32 ∷ [])) ≤ 1 + length ls
all_few [] = omega arith
all_few (t ∷ ts) = omega (arith, runs_few 1 t (ts ++ I32 ∷ []), length-append ts (I32 ∷ []))

one_more : (ls : List ValType) → length ls < 60000 → length (vector run (runs (ls ++ I32 ∷ []))) ≤ 11 + length (vector run (runs ls))
one_more ls h =
    let few = all_few ls in
    let count = numbers_are_short (length (runs (ls ++ I32 ∷ []))) (omega (arith, few, h)) in
    let a = length-append (unsigned (length (runs (ls ++ I32 ∷ [])))) (items run (runs (ls ++ I32 ∷ []))) in
    let b = length-append (unsigned (length (runs ls))) (items run (runs ls)) in
    let longer = all_longer ls (omega (arith, h)) in
    omega (arith, count, a, b, longer)

-- the scratch local, where it is there, is one that there is room for
record IsRoom (ls more : List ValType) : Type 0 where
  fits : FitsU32 (length (ls ++ more))
  short : length (vector run (runs (ls ++ more))) ≤ 11 + length (vector run (runs ls))

scratch_room : (other : ℕ) (b : FunctionBody) → FitsU32 (length b.locals) → (has_indirect b.code ≡ true → length b.locals < 60000) → IsRoom b.locals (scratch other b.code)
scratch_room zero b h room = record {
  fits = omega (arith, h, length-append b.locals []);
  short = subst (λ (ls : List ValType). length (vector run (runs ls)) ≤ 11 + length (vector run (runs b.locals))) (sym (append-nil b.locals)) (omega arith);
}
scratch_room (suc other) b h room = by (has_indirect b.code) refl
  where
    by : (t : Bool) → has_indirect b.code ≡ t → IsRoom b.locals (if t then I32 ∷ [] else [])
    by true t = let few = room t in record { fits = omega (arith, few, length-append b.locals (I32 ∷ [])); short = one_more b.locals few }
    by false t = record {
      fits = omega (arith, h, length-append b.locals []);
      short = subst (λ (ls : List ValType). length (vector run (runs ls)) ≤ 11 + length (vector run (runs b.locals))) (sym (append-nil b.locals)) (omega arith);
    }

-- ---- bodies

abbrev pub sized_body : FunctionBody → List ℕ
sized_body b = sized (body b)

-- the body with moved code fits, and isn't much longer
record StandsFor (b c : FunctionBody) : Type 0 where
  fits : BodyFits c
  short : length (sized_body b) ≤ 2 ^ 24 → length (sized_body c) ≤ 63 * length (sized_body b)

stands_for : (b : FunctionBody) (more : List ValType) (code : List Instruction) → IsRoom b.locals more → AllByRecursion InstructionFits code
    → length (items instruction code) ≤ 63 * length (items instruction b.code) → StandsFor b (record { locals = b.locals ++ more; code = code })
stands_for b more code room fits short = record {
  fits = record { locals = room.fits; code = All-from_recursion InstructionFits code fits };
  short = λ h. (
      let c : FunctionBody = record { locals = b.locals ++ more; code = code } in
      let old = length-append (vector run (runs b.locals)) (items instruction b.code) in
      let new = length-append (vector run (runs (b.locals ++ more))) (items instruction code) in
      let size = some_sized (body b) in
      let some = some_vector run (runs b.locals) in
      let locals = room.short in
      let whole : length (body c) ≤ 1200000000 = omega (arith, h, old, new, size, locals, short) in
      let front = numbers_are_short (length (body c)) (omega (arith, whole)) in
      let all = length-append (unsigned (length (body c))) (body c) in
      omega (arith, old, new, size, some, locals, short, front, all));
}

-- ---- all bodies of a module

-- what validity, the rows and the bytes say of a body
pub record IsReadyBody (n : ℕ) (b : FunctionBody) : Type 0 where
  pub fits : BodyFits b
  pub code : AllByRecursion (IsReady n) b.code

abbrev pub at_bases : Bases → List FunctionBody → List FunctionBody
at_bases a bs = map (λ (f : FunctionBody). record f { code = map (addressed a) f.code }) bs

scratch_stays : (other : ℕ) (a : Bases) (code : List Instruction) → scratch other (map (addressed a) code) ≡ scratch other code
scratch_stays zero a code = refl
scratch_stays (suc other) a code = ap (λ t. if t then I32 ∷ [] else []) (indirect_stays a code)

module _ (w : Pair) (m : WasmModule) (a : Bases) (other n : ℕ) (sums : sums_past w ≡ None) (few : a.types + n < 2 ^ 32) where
  one_body : (i : ℕ) (b : FunctionBody) → has_indirect b.code && nat_le 60000 (locals_of m i b) ≡ false → IsReadyBody n b
      → StandsFor b (record { locals = b.locals ++ scratch other (map (addressed a) b.code); code = moved_code w (locals_of m i b) (map (addressed a) b.code) })
  one_body i b u r =
      let k = locals_of m i b in
      let room : has_indirect b.code ≡ true → FitsU32 k = λ h. (let l = few_locals m i b u h in omega (arith, l)) in
      let locals : has_indirect b.code ≡ true → length b.locals < 60000 = λ h. (let l = few_locals m i b u h in omega (arith, l)) in
      let s = stands_for b (scratch other b.code) (moved_all w a k b.code) (scratch_room other b r.fits.locals locals) (code_fits w a k n sums few b.code room r.code) (code_short w a k n sums few b.code room r.code) in
      let t = subst (λ ls. StandsFor b (record { locals = b.locals ++ ls; code = moved_all w a k b.code })) (sym (scratch_stays other a b.code)) s in
      subst (λ is. StandsFor b (record { locals = b.locals ++ scratch other (map (addressed a) b.code); code = is })) (fused (moved w k) (addressed a) b.code) t

  pub bodies_fit : (i : ℕ) (bs : List FunctionBody) → crowded m i bs ≡ None → AllByRecursion (IsReadyBody n) bs → AllByRecursion BodyFits (moved_bodies w m other i (at_bases a bs))
  bodies_fit i [] c e = tt
  bodies_fit i (b ∷ bs) c e = let u = uncrowded m i b bs c in ((one_body i b u.0 e.0).fits, bodies_fit (suc i) bs u.1 e.1)

  pub bodies_short : (i : ℕ) (bs : List FunctionBody) → crowded m i bs ≡ None → AllByRecursion (IsReadyBody n) bs → length (items sized_body bs) ≤ 2 ^ 24
      → length (items sized_body (moved_bodies w m other i (at_bases a bs))) ≤ 63 * length (items sized_body bs)
  bodies_short i [] c e low = omega arith
  bodies_short i (b ∷ bs) c e low =
      let u = uncrowded m i b bs c in
      let new : FunctionBody = record { locals = b.locals ++ scratch other (map (addressed a) b.code); code = moved_code w (locals_of m i b) (map (addressed a) b.code) } in
      let others = moved_bodies w m other (suc i) (at_bases a bs) in
      let parts = length-append (sized_body b) (items sized_body bs) in
      spread 63 (length (sized_body b)) (length (items sized_body bs)) (length (items sized_body (b ∷ bs)))
      (length (sized_body new)) (length (items sized_body others)) (length (items sized_body (new ∷ others)))
      parts (length-append (sized_body new) (items sized_body others)) ((one_body i b u.0 e.0).short (omega (arith, parts, low))) (bodies_short (suc i) bs u.1 e.1 (omega (arith, parts, low)))
