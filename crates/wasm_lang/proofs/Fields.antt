-- Fields that are spelled so are read so.
use Rattle.std.proofs.Common.{◌≡◌, ℕ, ◌+◌, ◌-◌, ◌<◌, ◌≤◌, List, ◌∷◌, length, refl, ap, ◌∙◌, arith}
use Rattle.std.specs.Prelude.{Ok, Option}
use Rattle.wasm_lang.specs.declared.types.ValType.{ValType}
use Rattle.wasm_lang.specs.Numbers.{IsUnsigned, last_unsigned, more_unsigned, IsInteger, last_positive, last_negative, more_integer, IsU32}
use Rattle.wasm_lang.specs.Grammar.{Spelling, Items, no_item, item, IsVec, IsValType, i32_type, i64_type, IsBlockType, no_result, one_result}
use Rattle.wasm_lang.specs.Reading.{Input, Field, ◌>>=◌, number_field, u32, integer, onto, items_field, vec_field, val_type_field, block_type_field}
use Rattle.wasm_lang.specs.declared.fault.Row.TheVariants.{SectionSize}
use Rattle.wasm_lang.proofs.Numbers.{unsigned_reads, integer_reads}

-- at each place the field is this value, and these bytes are left
abbrev pub ReadsAs : {X : Type 0} → (Input → Field X) → X → List ℕ → List ℕ → Type 0
ReadsAs field v xs ys = (at : ℕ) → (next : ℕ) × (field (record { at = at; bytes = xs }) ≡ Ok (v, record { at = next; bytes = ys }))

pub u32_reads : (n : ℕ) (xs ys : List ℕ) → IsU32 n xs ys → ReadsAs u32 n xs ys
u32_reads n xs ys h at = (at + (length xs - length ys), ap (number_field SectionSize (record { at = at; bytes = xs })) (unsigned_reads 32 n xs ys h))

pub word_reads : (bits n : ℕ) (xs ys : List ℕ) → IsInteger bits n xs ys → ReadsAs (integer bits) n xs ys
word_reads bits n xs ys h at = (at + (length xs - length ys), ap (number_field SectionSize (record { at = at; bytes = xs })) (integer_reads bits n xs ys h))

pub onto_reads : {A B : Type 0} (f : A → B) (field : Input → Field A) (v : A) (xs ys : List ℕ) → ReadsAs field v xs ys → ReadsAs (λ i. onto f (field i)) (f v) xs ys
onto_reads f field v xs ys r at = let e = r at in (e.0, ap (onto f) e.1)

pub items_read : {X : Type 0} (P : Spelling X) (field : Input → Field X) → ((v : X) (xs ys : List ℕ) → P v xs ys → ReadsAs field v xs ys)
    → (vs : List X) (xs ys : List ℕ) → Items P vs xs ys → ReadsAs (items_field field (length vs)) vs xs ys
items_read P field one vs xs ys no_item at = (at, refl)
items_read P field one vs xs zs (item {v = v} {vs = ws} {ys = ys} h hs) at =
    let e = one v xs ys h at in
    let es = items_read P field one ws ys zs hs e.0 in
    (es.0, ap (λ r. r >>= λ v. items_field field (length ws) v.1 >>= λ vs. Ok (v.0 ∷ vs.0, vs.1)) e.1 ∙ ap (λ r. r >>= λ vs. Ok (v ∷ vs.0, vs.1)) es.1)

pub vec_reads : {X : Type 0} (P : Spelling X) (field : Input → Field X) → ((v : X) (xs ys : List ℕ) → P v xs ys → ReadsAs field v xs ys)
    → (vs : List X) (xs ys : List ℕ) → IsVec P vs xs ys → ReadsAs (vec_field field) vs xs ys
vec_reads P field one vs xs ys h at =
    let n = u32_reads (length vs) xs h.after_count h.count at in
    let es = items_read P field one vs h.after_count ys h.items n.0 in
    (es.0, ap (λ r. r >>= λ n. items_field field n.0 n.1) n.1 ∙ es.1)

pub val_type_reads : (t : ValType) (xs ys : List ℕ) → IsValType t xs ys → ReadsAs val_type_field t xs ys
val_type_reads t xs ys i32_type at = (at + 1, refl)
val_type_reads t xs ys i64_type at = (at + 1, refl)

pub block_type_reads : (r : Option ValType) (xs ys : List ℕ) → IsBlockType r xs ys → ReadsAs block_type_field r xs ys
block_type_reads r xs ys no_result at = (at + 1, refl)
block_type_reads r xs ys (one_result i32_type) at = (at + 1, refl)
block_type_reads r xs ys (one_result i64_type) at = (at + 1, refl)

-- ---- a field takes bytes, and adds none

pub unsigned_shrinks : (bits n : ℕ) (xs ys : List ℕ) → IsUnsigned bits n xs ys → length ys < length xs
unsigned_shrinks bits n xs ys (last_unsigned {b = b} h l) = omega arith
unsigned_shrinks bits n xs ys (more_unsigned {b = b} {high = high} {xs = bs} h l r) = let k = unsigned_shrinks (bits - 7) high bs ys r in omega arith

pub integer_shrinks : (bits n : ℕ) (xs ys : List ℕ) → IsInteger bits n xs ys → length ys < length xs
integer_shrinks bits n xs ys (last_positive {b = b} h l) = omega arith
integer_shrinks bits n xs ys (last_negative {b = b} h k l) = omega arith
integer_shrinks bits n xs ys (more_integer {b = b} {high = high} {xs = bs} h l r) = let k = integer_shrinks (bits - 7) high bs ys r in omega arith

pub items_shrink : {X : Type 0} (P : Spelling X) → ((v : X) (xs ys : List ℕ) → P v xs ys → length ys < length xs) → (vs : List X) (xs ys : List ℕ) → Items P vs xs ys → length vs + length ys ≤ length xs
items_shrink P one vs xs ys no_item = omega arith
items_shrink P one vs xs zs (item {v = v} {vs = ws} {ys = ys} h hs) = let k = one v xs ys h in let l = items_shrink P one ws ys zs hs in omega arith

pub vec_shrinks : {X : Type 0} (P : Spelling X) → ((v : X) (xs ys : List ℕ) → P v xs ys → length ys < length xs) → (vs : List X) (xs ys : List ℕ) → IsVec P vs xs ys → length ys < length xs
vec_shrinks P one vs xs ys h = let k = unsigned_shrinks 32 (length vs) xs h.after_count h.count in let l = items_shrink P one vs h.after_count ys h.items in omega arith

pub val_type_shrinks : (t : ValType) (xs ys : List ℕ) → IsValType t xs ys → length ys < length xs
val_type_shrinks t xs ys i32_type = omega arith
val_type_shrinks t xs ys i64_type = omega arith

pub block_type_shrinks : (r : Option ValType) (xs ys : List ℕ) → IsBlockType r xs ys → length ys < length xs
block_type_shrinks r xs ys no_result = omega arith
block_type_shrinks r xs ys (one_result h) = val_type_shrinks _ xs ys h
