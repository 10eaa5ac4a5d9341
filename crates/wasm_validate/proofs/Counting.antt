-- The counts of the bodies, one more at a time.
use Rattle.std.proofs.Common.{◌≡◌, ℕ, zero, suc, ◌+◌, max, Bool, true, false, cond, List, [], ◌∷◌, ◌++◌, length, take, drop, Option, Some, None, add-one, refl, sym, ap, ◌∙◌, subst, arith, append_assoc, append-nil}
use Rattle.std.specs.Prelude.{slice_get}
use Rattle.wasm_lang.specs.Limits.{levels}
use Rattle.wasm_lang.specs.Modules.{FunctionType, FunctionBody, WasmModule}
use Rattle.wasm_lang_valid.specs.ModuleRules.{imported_functions}
use Rattle.wasm_lang_valid.specs.Runnable.{or_else}
use Rattle.wasm_lang_valid.specs.Measures.{MeasuresOf, measures_of, body_slots, has_mul_div, called_in, called_types, distinct, deepest, slots_from, first_mixed, first_mul_div}
use Rattle.wasm_validate_bodies.specs.Calls.{IsCalled}
use Rattle.wasm_validate.specs.declared.counts.Counts.{Counts}
use Rattle.wasm_validate.specs.declared.measures.Measures.{Measures}
use Rattle.wasm_validate.specs.Counted.{IsCounted, CountsOf, said}
use Rattle.wasm_validate.proofs.Sections.{one_longer}

drop_at : {A : Type 0} (xs : List A) (i : ℕ) (x : A) → slice_get xs i ≡ Some x → drop i xs ≡ x ∷ drop (i + 1) xs
drop_at {A = A} xs i x e = rw add-one (by xs i e)
  where
    by : (xs : List A) (i : ℕ) → slice_get xs i ≡ Some x → drop i xs ≡ x ∷ drop (suc i) xs
    by [] i e = cc
    by (y ∷ ys) zero e = let h : y ≡ x = cc in ap (λ z. z ∷ ys) h
    by (y ∷ ys) (suc n) e = by ys n e

or_on : (o more : Option ℕ) (h : Bool) (n : ℕ) → or_else o (cond h (Some n) more) ≡ or_else (or_else o (cond h (Some n) None)) more
or_on None more true n = refl
or_on None more false n = refl
or_on (Some k) more h n = refl

types_append : (types : List FunctionType) (bs cs : List FunctionBody) → called_types types (bs ++ cs) ≡ called_types types bs ++ called_types types cs
types_append types [] cs = refl
types_append types (b ∷ bs) cs = ap (λ l. called_in types b.code ++ l) (types_append types bs cs) ∙ sym (append_assoc (called_in types b.code) (called_types types bs) (called_types types cs))

pub none_counted : (m : WasmModule) (c : Counts) → c.levels ≡ 0 → c.slots ≡ 0 → c.mul_div ≡ None → ((types : List FunctionType) → IsCalled c.called types []) → CountsOf c m 0
none_counted m c l s d called = record {
  levels = omega (arith, l);
  slots = omega (arith, s);
  mul_div = ap (λ n. first_mul_div n m.bodies) (omega arith) ∙ sym (ap (λ o. or_else o (first_mul_div (length (imported_functions m.imports) + 0) m.bodies)) d);
  called = called m.types;
}

pub one_counted : (m : WasmModule) (i : ℕ) (b : FunctionBody) (old new : Counts) → slice_get m.bodies i ≡ Some b → CountsOf old m i → IsCounted old new m i b → CountsOf new m (i + 1)
one_counted m i b old new e of on =
    let k = length (imported_functions m.imports) in
    let rest = drop (i + 1) m.bodies in
    let at = drop_at m.bodies i b e in
    let l : deepest m.bodies ≡ max old.levels (max (levels b.code) (deepest rest)) = of.levels ∙ ap (λ bs. max old.levels (deepest bs)) at in
    let s : slots_from m 0 m.bodies ≡ max old.slots (max (body_slots m i b) (slots_from m (i + 1) rest)) = of.slots ∙ ap (λ bs. max old.slots (slots_from m i bs)) at in
    let next : k + i + 1 ≡ k + (i + 1) = omega arith in
    let d : first_mul_div k m.bodies ≡ or_else old.mul_div (cond (has_mul_div b.code) (Some (k + i)) (first_mul_div (k + i + 1) rest)) = of.mul_div ∙ ap (λ bs. or_else old.mul_div (first_mul_div (k + i) bs)) at in
    let c : called_types m.types (take (i + 1) m.bodies) ≡ called_types m.types (take i m.bodies) ++ called_in m.types b.code =
    ap (called_types m.types) (one_longer m.bodies i b e) ∙ types_append m.types (take i m.bodies) (b ∷ []) ∙ ap (λ l. called_types m.types (take i m.bodies) ++ l) (append-nil (called_in m.types b.code)) in
    record {
      levels = omega (arith, l, on.levels);
      slots = omega (arith, s, on.slots);
      mul_div = d ∙ or_on old.mul_div (first_mul_div (k + i + 1) rest) (has_mul_div b.code) (k + i) ∙ ap (λ o. or_else o (first_mul_div (k + i + 1) rest)) (sym on.mul_div) ∙ ap (λ n. or_else new.mul_div (first_mul_div n rest)) next;
      called = subst (IsCalled new.called m.types) (sym c) (on.called (called_types m.types (take i m.bodies)) of.called);
    }

drop_length : {A : Type 0} (xs : List A) → drop (length xs) xs ≡ []
drop_length [] = refl
drop_length (x ∷ xs) = drop_length xs

take_length : {A : Type 0} (xs : List A) → take (length xs) xs ≡ xs
take_length [] = refl
take_length (x ∷ xs) = ap (λ l. x ∷ l) (take_length xs)

or_none : (o : Option ℕ) → or_else o None ≡ o
or_none None = refl
or_none (Some n) = refl

-- all bodies were counted
pub all_counted : (m : WasmModule) (c : Counts) (s : Measures) → CountsOf c m (length m.bodies) → s.levels ≡ c.levels → s.slots ≡ c.slots → s.call_types ≡ distinct (called_types m.types m.bodies) → s.mixed ≡ first_mixed [] 0 m.imports → s.mul_div ≡ c.mul_div → said s ≡ measures_of m
all_counted m c s of l sl ct mi md =
    let k = length (imported_functions m.imports) in
    let l1 : deepest m.bodies ≡ max c.levels 0 = of.levels ∙ ap (λ bs. max c.levels (deepest bs)) (drop_length m.bodies) in
    let l2 : s.levels ≡ deepest m.bodies = omega (arith, l, l1) in
    let s1 : slots_from m 0 m.bodies ≡ max c.slots 0 = of.slots ∙ ap (λ bs. max c.slots (slots_from m (length m.bodies) bs)) (drop_length m.bodies) in
    let s2 : s.slots ≡ slots_from m 0 m.bodies = omega (arith, sl, s1) in
    let d : s.mul_div ≡ first_mul_div k m.bodies = md ∙ sym (of.mul_div ∙ ap (λ bs. or_else c.mul_div (first_mul_div (k + length m.bodies) bs)) (drop_length m.bodies) ∙ or_none c.mul_div) in
    let q : ◌≡◌ {A = MeasuresOf} (record { levels = s.levels; slots = s.slots; call_types = s.call_types; mixed = s.mixed; mul_div = s.mul_div }) (measures_of m) = cc in q

pub all_called : (m : WasmModule) (c : Counts) → CountsOf c m (length m.bodies) → IsCalled c.called m.types (called_types m.types m.bodies)
all_called m c of = subst (λ bs. IsCalled c.called m.types (called_types m.types bs)) (take_length m.bodies) of.called
