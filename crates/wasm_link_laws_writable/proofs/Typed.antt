-- What validity and the rows say of the code of each of two modules that can be linked.
use Rattle.std.proofs.Common.{◌≡◌, ℕ, suc, ◌+◌, ◌^◌, ◌<◌, ◌≤◌, Bool, true, false, List, [], ◌∷◌, ◌++◌, length, Option, Some, None, refl, sym, ap, ◌∙◌, subst, arith}
use Rattle.std.specs.List.{AllByRecursion}
use Rattle.std.specs.Prelude.{Ok, Err, slice_get, nat_le, ◌&&◌, if◌then◌else◌}
use Rattle.std.proofs.lemmas.Bool.Decides.{nat_tests}
use Rattle.std.proofs.lemmas.Option.{slice_get_within}
use Rattle.wasm_lang.specs.declared.types.ValType.{ValType}
use Rattle.wasm_lang.specs.declared.types.ValType.TheVariants.{I32}
use Rattle.wasm_lang.specs.Instructions.{Instruction, call_indirect, else_mark, end_mark}
use Rattle.wasm_lang.specs.Modules.{FunctionType, FunctionBody, WasmModule}
use Rattle.wasm_lang_valid.specs.declared.section.Section.TheVariants as sections
use Rattle.wasm_lang_valid.specs.declared.rule.Rule.TheVariants.{NoType, NoTable}
use Rattle.wasm_lang_valid.specs.ModuleRules.{imported_functions}
use Rattle.wasm_lang_valid.specs.Typing.{Context, Shape, shape, onward, found, unless, call_shape, Typed, typed_empty, typed_plain, typed_block, typed_loop, typed_arms, typed_if}
use Rattle.wasm_lang_valid.specs.Validity.{IsValidModule, IsValidBody}
use Rattle.wasm_link_lang.specs.Refusal.{has_indirect, locals_of, crowded}
use Rattle.wasm_link_laws_writable.proofs.Each.{each}

-- ---- calls by an entry name types that there are

unfoldable pub InTypes : ℕ → Instruction → Type 0
InTypes n (call_indirect t) = t < n
InTypes n i = Unit {0}

joined : (n : ℕ) (xs ys : List Instruction) → AllByRecursion (InTypes n) xs → AllByRecursion (InTypes n) ys → AllByRecursion (InTypes n) (xs ++ ys)
joined n [] ys p q = q
joined n (x ∷ xs) ys p q = (p.0, joined n xs ys p.1 q)

no_type : (c : Context) (t : ℕ) (s : Shape) → slice_get c.types t ≡ None → shape c (call_indirect t) ≡ Err NoType
no_type c t s none = ap (λ o. onward (found NoType o (call_shape (I32 ∷ []))) (unless c.table NoTable)) none

in_shape : (c : Context) (i : Instruction) (s : Shape) → shape c i ≡ Ok s → InTypes (length c.types) i
unfolding InTypes
in_shape c (call_indirect t) s e = by (slice_get c.types t) refl
  where
    by : (o : Option FunctionType) → slice_get c.types t ≡ o → t < length c.types
    by None none = let both : Err NoType ≡ Ok s = sym (no_type c t s none) ∙ e in absurd (cc)
    by (Some type) some = slice_get_within c.types t type some
in_shape c i s e = tt

typed_types : {c : Context} {code : List Instruction} {ts us : List ValType} → Typed c code ts us → AllByRecursion (InTypes (length c.types)) code
unfolding InTypes
typed_types typed_empty = tt
typed_types (typed_plain {c = c} {i = i} {s = s} below e acts late rest) = (in_shape c i s e, typed_types rest)
typed_types (typed_block {c = c} {body = body} {rest = rest} b r) = (tt, joined (length c.types) body (end_mark ∷ rest) (typed_types b) (tt, typed_types r))
typed_types (typed_loop {c = c} {body = body} {rest = rest} b r) = (tt, joined (length c.types) body (end_mark ∷ rest) (typed_types b) (tt, typed_types r))
typed_types (typed_arms {c = c} {first = first} {second = second} {rest = rest} a b r) =
    (tt, joined (length c.types) first (else_mark ∷ (second ++ end_mark ∷ rest)) (typed_types a) (tt, joined (length c.types) second (end_mark ∷ rest) (typed_types b) (tt, typed_types r)))
typed_types (typed_if {c = c} {body = body} {rest = rest} b r) = (tt, joined (length c.types) body (end_mark ∷ rest) (typed_types b) (tt, typed_types r))

body_types : (m : WasmModule) (k : ℕ) (b : FunctionBody) → IsValidBody m k (Some b) → AllByRecursion (InTypes (length m.types)) b.code
unfolding InTypes
body_types m k b v = subst (AllByRecursion (InTypes (length m.types))) (sym v.1) (joined (length m.types) v.0 (end_mark ∷ []) (typed_types v.2) (tt, tt))

pub bodies_types : (m : WasmModule) → IsValidModule m → AllByRecursion (λ (b : FunctionBody). AllByRecursion (InTypes (length m.types)) b.code) m.bodies
bodies_types m valid = each (λ (b : FunctionBody). AllByRecursion (InTypes (length m.types)) b.code) m.bodies (λ k b e. body_types m k b (subst (IsValidBody m k) e (valid sections.Code k (slice_get_within m.bodies k b e))))

-- ---- bodies with such calls have room for one more local

pub few_locals : (m : WasmModule) (i : ℕ) (b : FunctionBody) → has_indirect b.code && nat_le 60000 (locals_of m i b) ≡ false → has_indirect b.code ≡ true → locals_of m i b < 60000
few_locals m i b e has =
    let more : nat_le 60000 (locals_of m i b) ≡ false = sym (ap (λ t. t && nat_le 60000 (locals_of m i b)) has) ∙ e in
    grind (arith, nat_tests)

pub uncrowded : (m : WasmModule) (i : ℕ) (b : FunctionBody) (bs : List FunctionBody) → crowded m i (b ∷ bs) ≡ None → (has_indirect b.code && nat_le 60000 (locals_of m i b) ≡ false) × (crowded m (suc i) bs ≡ None)
uncrowded m i b bs e = by (has_indirect b.code && nat_le 60000 (locals_of m i b)) refl
  where
    by : (t : Bool) → has_indirect b.code && nat_le 60000 (locals_of m i b) ≡ t → (has_indirect b.code && nat_le 60000 (locals_of m i b) ≡ false) × (crowded m (suc i) bs ≡ None)
    by true t = let both : Some (length (imported_functions m.imports) + i) ≡ None = sym (ap (λ t. if t then Some (length (imported_functions m.imports) + i) else crowded m (suc i) bs) t) ∙ e in absurd (cc)
    by false t = (t, sym (ap (λ t. if t then Some (length (imported_functions m.imports) + i) else crowded m (suc i) bs) t) ∙ e)
