-- What a field that was read says of its parts.
use Rattle.std.proofs.Common.{◌≡◌, ℕ, zero, suc, Bool, true, false, cond, eqb, List, [], ◌∷◌, length, refl, sym, ap, subst, ◌∙◌}
use Rattle.std.specs.Prelude.{Result, Ok, Err, Option, Some, None, ◌==◌, ◌||◌}
use Rattle.std.proofs.lemmas.Bool.{eqb-true}
use Rattle.wasm_lang.specs.declared.fault.Fault.{Fault}
use Rattle.wasm_lang.specs.declared.fault.Row.{Row}
use Rattle.wasm_lang.specs.declared.fault.Row.TheVariants.{SectionSize, UnknownByte, Float}
use Rattle.wasm_lang.specs.declared.fault.NumberFault.{NumberFault}
use Rattle.wasm_lang.specs.declared.fault.NumberFault.TheVariants.{Illegal, Ends}
use Rattle.wasm_lang.specs.declared.types.ValType.{ValType}
use Rattle.wasm_lang.specs.declared.types.ValType.TheVariants.{I32, I64}
use Rattle.wasm_lang.specs.Numbers.{IsU32, IsInteger}
use Rattle.wasm_lang.specs.Grammar.{Spelling, Items, no_item, item, IsVec, IsValType, i32_type, i64_type, IsBlockType, no_result, one_result}
use Rattle.wasm_lang.specs.Reading.{Input, Field, ◌>>=◌, fault, expects, byte_field, byte, number_field, unsigned_at, integer_at, u32, u32_field, integer, exactly, onto, items_field, vec_field, val_type_of, val_type_field, result_of, block_type_field}
use Rattle.wasm_lang.proofs.Numbers.{ok_is, unsigned_is, integer_is}

pub bind_ok : {A B : Type 0} (r : Result A Fault) (f : A → Result B Fault) (y : B) → r >>= f ≡ Ok y → (x : A) × (r ≡ Ok x) × (f x ≡ Ok y)
bind_ok (Ok x) f y q = (x, refl, q)
bind_ok (Err e) f y q = cc

pub expects_ok : (b : Bool) (row : Row) (at : ℕ) (u : Unit {0}) → expects b row at ≡ Ok u → b ≡ true
expects_ok true row at u q = refl
expects_ok false row at u q = cc

byte_at : (row : Row) (at : ℕ) (xs : List ℕ) (b : ℕ) (j : Input) → byte_field row (record { at = at; bytes = xs }) ≡ Ok (b, j) → xs ≡ b ∷ j.bytes
byte_at row at [] b j q = cc
byte_at row at (x ∷ xs) b j q = ap (λ p. p.0 ∷ p.1.bytes) (ok_is _ _ q)

pub byte_is : (row : Row) (i : Input) (b : ℕ) (j : Input) → byte_field row i ≡ Ok (b, j) → i.bytes ≡ b ∷ j.bytes
byte_is row i b j q = byte_at row i.at i.bytes b j q

number_is : (row : Row) (i : Input) (n : ℕ) (j : Input) (r : Result (ℕ × List ℕ) NumberFault) → number_field row i r ≡ Ok (n, j) → r ≡ Ok (n, j.bytes)
number_is row i n j (Ok x) q = ap (λ p. Ok (p.0, p.1.bytes)) (ok_is _ _ q)
number_is row i n j (Err Illegal) q = cc
number_is row i n j (Err Ends) q = cc

pub u32_field_is : (row : Row) (i : Input) (n : ℕ) (j : Input) → u32_field row i ≡ Ok (n, j) → IsU32 n i.bytes j.bytes
u32_field_is row i n j q = unsigned_is 32 n i.bytes j.bytes (number_is row i n j (unsigned_at 32 i.bytes) q)

pub u32_is : (i : Input) (n : ℕ) (j : Input) → u32 i ≡ Ok (n, j) → IsU32 n i.bytes j.bytes
u32_is = u32_field_is SectionSize

pub word_is : (bits : ℕ) (i : Input) (n : ℕ) (j : Input) → integer bits i ≡ Ok (n, j) → IsInteger bits n i.bytes j.bytes
word_is bits i n j q = integer_is bits n i.bytes j.bytes (number_is SectionSize i n j (integer_at bits i.bytes) q)

pub exactly_is : (b : ℕ) (i : Input) (c : ℕ) (j : Input) → exactly b i ≡ Ok (c, j) → i.bytes ≡ b ∷ j.bytes
exactly_is b i c j q =
    let x = bind_ok (byte i) _ (c, j) q in
    let t = bind_ok (expects (eqb x.0.0 b) UnknownByte i.at) _ (c, j) x.2 in
    let same : x.0.0 ≡ b = eqb-true x.0.0 b (expects_ok (eqb x.0.0 b) UnknownByte i.at t.0 t.1) in
    byte_is SectionSize i x.0.0 x.0.1 x.1 ∙ ap (λ b. b ∷ x.0.1.bytes) same ∙ ap (λ p. b ∷ p.1.bytes) (ok_is x.0 (c, j) t.2)

-- a value that a function makes of a field
pub onto_is : {A B : Type 0} (f : A → B) (r : Field A) (v : B) (j : Input) → onto f r ≡ Ok (v, j) → (x : A) × (r ≡ Ok (x, j)) × (f x ≡ v)
onto_is f (Ok x) v j q =
    let p = ok_is (f x.0, x.1) (v, j) q in
    (x.0, ap (λ (j : Input). Ok (x.0, j)) (ap (λ p. p.1) p), ap (λ p. p.0) p)
onto_is f (Err e) v j q = cc

pub items_are : {X : Type 0} (P : Spelling X) (field : Input → Field X) → ((i : Input) (v : X) (j : Input) → field i ≡ Ok (v, j) → P v i.bytes j.bytes)
    → (n : ℕ) (i : Input) (vs : List X) (j : Input) → items_field field n i ≡ Ok (vs, j) → (length vs ≡ n) × Items P vs i.bytes j.bytes
items_are P field one zero i vs j q = subst (λ p. (length p.0 ≡ zero) × Items P p.0 i.bytes p.1.bytes) (ok_is ([], i) (vs, j) q) (refl, no_item)
items_are P field one (suc n) i vs j q =
    let a = bind_ok (field i) _ (vs, j) q in
    let b = bind_ok (items_field field n a.0.1) _ (vs, j) a.2 in
    let h = one i a.0.0 a.0.1 a.1 in
    let hs = items_are P field one n a.0.1 b.0.0 b.0.1 b.1 in
    subst (λ p. (length p.0 ≡ suc n) × Items P p.0 i.bytes p.1.bytes) (ok_is (a.0.0 ∷ b.0.0, b.0.1) (vs, j) b.2) (ap suc hs.0, item h hs.1)

pub vec_is : {X : Type 0} (P : Spelling X) (field : Input → Field X) → ((i : Input) (v : X) (j : Input) → field i ≡ Ok (v, j) → P v i.bytes j.bytes)
    → (i : Input) (vs : List X) (j : Input) → vec_field field i ≡ Ok (vs, j) → IsVec P vs i.bytes j.bytes
vec_is P field one i vs j q =
    let n = bind_ok (u32 i) _ (vs, j) q in
    let es = items_are P field one n.0.0 n.0.1 vs j n.2 in
    record { after_count = n.0.1.bytes; count = subst (λ k. IsU32 k i.bytes n.0.1.bytes) (sym es.0) (u32_is i n.0.0 n.0.1 n.1); items = es.1 }

-- ---- types

val_type_by : (at b : ℕ) (t : ValType) (ys : List ℕ) → val_type_of at b ≡ Ok t → IsValType t (b ∷ ys) ys
val_type_by at b t ys q = by (eqb b 0x7f) (eqb b 0x7e) refl refl
  where
    by : (u v : Bool) → eqb b 0x7f ≡ u → eqb b 0x7e ≡ v → IsValType t (b ∷ ys) ys
    by true v e f =
        let is : I32 ≡ t = ok_is _ _ (rw e at q) in
        subst (λ t. IsValType t (b ∷ ys) ys) is (subst (λ b. IsValType I32 (b ∷ ys) ys) (sym (eqb-true b 0x7f e)) i32_type)
    by false true e f =
        let is : I64 ≡ t = ok_is _ _ (rw f at (rw e at q)) in
        subst (λ t. IsValType t (b ∷ ys) ys) is (subst (λ b. IsValType I64 (b ∷ ys) ys) (sym (eqb-true b 0x7e f)) i64_type)
    by false false e f = absurd (never ((b == 0x7d) || (b == 0x7c)) (rw f at (rw e at q)))
      where
        never : (w : Bool) → ◌≡◌ {A = Result ValType Fault} (cond w (fault Float at) (fault UnknownByte at)) (Ok t) → ⊥
        never true q = cc
        never false q = cc

pub val_type_is : (i : Input) (t : ValType) (j : Input) → val_type_field i ≡ Ok (t, j) → IsValType t i.bytes j.bytes
val_type_is i t j q =
    let b = bind_ok (byte i) _ (t, j) q in
    let u = bind_ok (val_type_of i.at b.0.0) _ (t, j) b.2 in
    let p = ok_is (u.0, b.0.1) (t, j) u.2 in
    let h = val_type_by i.at b.0.0 u.0 b.0.1.bytes u.1 in
    subst (λ p. IsValType p.0 i.bytes p.1.bytes) p (subst (λ (l : List ℕ). IsValType u.0 l b.0.1.bytes) (sym (byte_is SectionSize i b.0.0 b.0.1 b.1)) h)

pub block_type_is : (i : Input) (r : Option ValType) (j : Input) → block_type_field i ≡ Ok (r, j) → IsBlockType r i.bytes j.bytes
block_type_is i r j q =
    let b = bind_ok (byte i) _ (r, j) q in
    let u = bind_ok (result_of i.at b.0.0) _ (r, j) b.2 in
    let p = ok_is (u.0, b.0.1) (r, j) u.2 in
    let h = result_is i.at b.0.0 u.0 b.0.1.bytes u.1 in
    subst (λ p. IsBlockType p.0 i.bytes p.1.bytes) p (subst (λ (l : List ℕ). IsBlockType u.0 l b.0.1.bytes) (sym (byte_is SectionSize i b.0.0 b.0.1 b.1)) h)
  where
    result_is : (at b : ℕ) (r : Option ValType) (ys : List ℕ) → result_of at b ≡ Ok r → IsBlockType r (b ∷ ys) ys
    result_is at b r ys q = by (eqb b 0x40) refl
      where
        by : (u : Bool) → eqb b 0x40 ≡ u → IsBlockType r (b ∷ ys) ys
        by true e =
            let is : None ≡ r = ok_is _ _ (rw e at q) in
            subst (λ r. IsBlockType r (b ∷ ys) ys) is (subst (λ b. IsBlockType None (b ∷ ys) ys) (sym (eqb-true b 0x40 e)) no_result)
        by false e =
            let t = bind_ok (val_type_of at b) _ r (rw e at q) in
            subst (λ r. IsBlockType r (b ∷ ys) ys) (ok_is (Some t.0) r t.2) (one_result (val_type_by at b t.0 ys t.1))
