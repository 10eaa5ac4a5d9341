-- Steps of the two laws of each field: what is spelled is read (`Gives`), and only what is spelled is read (`Only`).
use Rattle.std.proofs.Common.{◌≡◌, ℕ, zero, suc, ◌+◌, ◌-◌, Bool, true, false, cond, List, [], ◌∷◌, length, refl, sym, ap, ◌∙◌, subst}
use Rattle.std.specs.Prelude.{Result, Ok, Err}
use Rattle.std.specs.List.{AllByRecursion}
use Rattle.std.proofs.lemmas.Bool.{eqb-true, eq-eqb}
use Rattle.wasm_lang.specs.declared.fault.Fault.{Fault}
use Rattle.wasm_lang.specs.declared.fault.Row.{Row}
use Rattle.wasm_lang.specs.declared.fault.Row.TheVariants.{SectionSize, UnknownByte}
use Rattle.wasm_lang.specs.declared.fault.NumberFault.{NumberFault}
use Rattle.wasm_lang.specs.declared.fault.NumberFault.TheVariants.{Illegal, Ends}
use Rattle.wasm_lang.specs.Numbers.{IsU32, IsInteger}
use Rattle.wasm_lang.specs.Grammar.{Spelling, Items, no_item, item, IsVec}
use Rattle.wasm_lang.specs.Reading.{Input, Field, ◌>>=◌, expects, unsigned_at, integer_at, byte_field, number_field, u32_field, integer, exactly, onto, items_field, vec_field}
use Rattle.wasm_lang.proofs.Numbers.{unsigned_reads, unsigned_is, integer_reads, integer_is}

-- bytes at a place
abbrev pub from : ℕ → List ℕ → Input
from at bytes = record { at = at; bytes = bytes }

-- a value, and the bytes that are left at a place
abbrev pub leaves : {X : Type 0} → X → List ℕ → ℕ → X × Input
leaves v ys at = (v, record { at = at; bytes = ys })

-- the answer is this, at some place
pub record Gives {X : Type 0} (r : Result X Fault) (x : ℕ → X) : Type 0 where
  pub place : ℕ
  pub is : r ≡ Ok (x place)

-- the answer, where there is one, is of this kind
pub record Only {X : Type 0} (r : Result X Fault) (P : X → Type 0) : Type 0 where
  pub holds : (x : X) → r ≡ Ok x → P x

pub inner : {A : Type 0} {x y : A} → ◌≡◌ {A = Result A Fault} (Ok x) (Ok y) → x ≡ y
inner e = cc

bind_ok : {A B : Type 0} (r : Result A Fault) (g : A → Result B Fault) (y : B) → (r >>= g) ≡ Ok y → (x : A) × (r ≡ Ok x) × (g x ≡ Ok y)
bind_ok (Ok x) g y q = (x, refl, q)
bind_ok (Err e) g y q = cc

-- ---- one step and then another

pub ok_gives : {X : Type 0} {x : ℕ → X} (at : ℕ) → Gives (Ok (x at)) x
ok_gives at = record { place = at; is = refl }

pub equal_gives : {X : Type 0} {r s : Result X Fault} {x : ℕ → X} → r ≡ s → Gives s x → Gives r x
equal_gives e g = record { place = g.place; is = e ∙ g.is }

pub bind_gives : {A B : Type 0} {r : Result A Fault} {x : ℕ → A} {y : ℕ → B} (g : A → Result B Fault) → Gives r x → ((at : ℕ) → Gives (g (x at)) y) → Gives (r >>= g) y
bind_gives g h f = let k = f h.place in record { place = k.place; is = ap (λ r. r >>= g) h.is ∙ k.is }

pub expects_gives : {B : Type 0} {c : Bool} {y : ℕ → B} (row : Row) (at : ℕ) (g : Unit {0} → Result B Fault) → c ≡ true → Gives (g tt) y → Gives (expects c row at >>= g) y
expects_gives row at g e h = equal_gives (ap (λ c. expects c row at >>= g) e) h

pub onto_gives : {A B : Type 0} {r : Field A} {a : A} {ys : List ℕ} (f : A → B) → Gives r (leaves a ys) → Gives (onto f r) (leaves (f a) ys)
onto_gives f h = bind_gives _ h (λ at. ok_gives at)

pub ok_only : {X : Type 0} {x : X} {P : X → Type 0} → P x → Only (Ok x) P
ok_only {P = P} p = record { holds = λ y q. subst P (inner q) p }

pub err_only : {X : Type 0} {e : Fault} {P : X → Type 0} → Only (Err e) P
err_only = record { holds = λ y q. cc }

pub bind_only : {A B : Type 0} {r : Result A Fault} {R : A → Type 0} {P : B → Type 0} (g : A → Result B Fault) → Only r R → ((x : A) → R x → Only (g x) P) → Only (r >>= g) P
bind_only {r = r} g h f = record { holds = λ y q. let b = bind_ok r g y q in (f b.0 (h.holds b.0 b.1)).holds y b.2 }

pub expects_only : {B : Type 0} {c : Bool} {P : B → Type 0} (row : Row) (at : ℕ) (g : Unit {0} → Result B Fault) → (c ≡ true → Only (g tt) P) → Only (expects c row at >>= g) P
expects_only {c = true} row at g h = h refl
expects_only {c = false} row at g h = record { holds = λ y q. cc }

pub if_only : {X : Type 0} {c : Bool} {r s : Result X Fault} {P : X → Type 0} → (c ≡ true → Only r P) → (c ≡ false → Only s P) → Only (cond c r s) P
if_only {c = true} h k = h refl
if_only {c = false} h k = k refl

pub onto_only : {A B : Type 0} {r : Field A} {P : A × Input → Type 0} {Q : B × Input → Type 0} (f : A → B) → Only r P → ((x : A × Input) → P x → Q (f x.0, x.1)) → Only (onto f r) Q
onto_only f h k = bind_only _ h (λ x p. ok_only (k x p))

pub weaker_only : {X : Type 0} {r : Result X Fault} {P Q : X → Type 0} → Only r P → ((x : X) → P x → Q x) → Only r Q
weaker_only h k = record { holds = λ x q. k x (h.holds x q) }

-- ---- bytes and numbers

pub byte_only : (row : Row) (i : Input) → Only (byte_field row i) (λ x. i.bytes ≡ x.0 ∷ x.1.bytes)
byte_only row i = record { holds = by i.bytes }
  where
    by : (bytes : List ℕ) (x : ℕ × Input) → byte_field row (from i.at bytes) ≡ Ok x → bytes ≡ x.0 ∷ x.1.bytes
    by [] x q = cc
    by (b ∷ bs) x q = let e : (b, from (i.at + 1) bs) ≡ x = inner q in ap (λ p. p.0 ∷ p.1.bytes) e

number_gives : {n : ℕ} {ys : List ℕ} {r : Result (ℕ × List ℕ) NumberFault} (row : Row) (i : Input) → r ≡ Ok (n, ys) → Gives (number_field row i r) (leaves n ys)
number_gives {ys = ys} row i e = record { place = i.at + (length i.bytes - length ys); is = ap (number_field row i) e }

number_only : (row : Row) (i : Input) (r : Result (ℕ × List ℕ) NumberFault) → Only (number_field row i r) (λ x. r ≡ Ok (x.0, x.1.bytes))
number_only row i (Ok x) = ok_only refl
number_only row i (Err Illegal) = err_only
number_only row i (Err Ends) = err_only

pub u32_gives : {n : ℕ} {xs ys : List ℕ} (row : Row) (at : ℕ) → IsU32 n xs ys → Gives (u32_field row (from at xs)) (leaves n ys)
u32_gives {n = n} {xs = xs} {ys = ys} row at h = number_gives row (from at xs) (unsigned_reads 32 n xs ys h)

pub u32_only : (row : Row) (i : Input) → Only (u32_field row i) (λ x. IsU32 x.0 i.bytes x.1.bytes)
u32_only row i = weaker_only (number_only row i (unsigned_at 32 i.bytes)) (λ x e. unsigned_is 32 x.0 i.bytes x.1.bytes e)

pub integer_gives : {n : ℕ} {xs ys : List ℕ} (bits at : ℕ) → IsInteger bits n xs ys → Gives (integer bits (from at xs)) (leaves n ys)
integer_gives {n = n} {xs = xs} {ys = ys} bits at h = number_gives SectionSize (from at xs) (integer_reads bits n xs ys h)

pub integer_only : (bits : ℕ) (i : Input) → Only (integer bits i) (λ x. IsInteger bits x.0 i.bytes x.1.bytes)
integer_only bits i = weaker_only (number_only SectionSize i (integer_at bits i.bytes)) (λ x e. integer_is bits x.0 i.bytes x.1.bytes e)

pub exactly_gives : (b : ℕ) (xs : List ℕ) (at : ℕ) → Gives (exactly b (from at (b ∷ xs))) (leaves b xs)
exactly_gives b xs at = expects_gives UnknownByte at _ (eq-eqb b b refl) (ok_gives (at + 1))

pub exactly_only : (b : ℕ) (i : Input) → Only (exactly b i) (λ x. i.bytes ≡ b ∷ x.1.bytes)
exactly_only b i = bind_only _ (byte_only SectionSize i) (λ x e. expects_only UnknownByte i.at _ (λ t. ok_only (e ∙ ap (λ b. b ∷ x.1.bytes) (eqb-true x.0 b t))))

-- ---- items

pub items_gives : {X : Type 0} {P : Spelling X} {Q : X → Type 0} (f : Input → Field X) → ((v : X) (xs ys : List ℕ) (at : ℕ) → Q v → P v xs ys → Gives (f (from at xs)) (leaves v ys))
    → (vs : List X) (xs ys : List ℕ) → AllByRecursion Q vs → Items P vs xs ys → (at : ℕ) → Gives (items_field f (length vs) (from at xs)) (leaves vs ys)
items_gives f h vs xs ys q no_item at = ok_gives at
items_gives f h vs xs ys q (item {v = v} {vs = ws} {ys = ms} p ps) at =
    bind_gives _ (h v xs ms at q.0 p) (λ at. bind_gives _ (items_gives f h ws ms ys q.1 ps at) (λ at. ok_gives at))

pub items_only : {X : Type 0} {P : Spelling X} {Q : X → Type 0} (f : Input → Field X) → ((i : Input) → Only (f i) (λ x. P x.0 i.bytes x.1.bytes × Q x.0))
    → (n : ℕ) (i : Input) → Only (items_field f n i) (λ x. (length x.0 ≡ n) × Items P x.0 i.bytes x.1.bytes × AllByRecursion Q x.0)
items_only f h zero i = ok_only (refl, no_item, tt)
items_only f h (suc n) i = bind_only _ (h i) (λ v p. bind_only _ (items_only f h n v.1) (λ vs ps. ok_only (ap suc ps.0, item p.0 ps.1, (p.1, ps.2))))

pub vec_gives : {X : Type 0} {P : Spelling X} {Q : X → Type 0} (f : Input → Field X) → ((v : X) (xs ys : List ℕ) (at : ℕ) → Q v → P v xs ys → Gives (f (from at xs)) (leaves v ys))
    → {vs : List X} {xs ys : List ℕ} → AllByRecursion Q vs → IsVec P vs xs ys → (at : ℕ) → Gives (vec_field f (from at xs)) (leaves vs ys)
vec_gives f h {vs = vs} {ys = ys} q v at = bind_gives _ (u32_gives SectionSize at v.count) (λ at. items_gives f h vs v.after_count ys q v.items at)

pub vec_of : {X : Type 0} {P : Spelling X} {n : ℕ} {vs : List X} {xs ys zs : List ℕ} → IsU32 n xs ys → length vs ≡ n → Items P vs ys zs → IsVec P vs xs zs
vec_of {xs = xs} {ys = ys} c e p = record { after_count = ys; count = subst (λ n. IsU32 n xs ys) (sym e) c; items = p }

pub vec_only : {X : Type 0} {P : Spelling X} {Q : X → Type 0} (f : Input → Field X) → ((i : Input) → Only (f i) (λ x. P x.0 i.bytes x.1.bytes × Q x.0))
    → (i : Input) → Only (vec_field f i) (λ x. IsVec P x.0 i.bytes x.1.bytes × AllByRecursion Q x.0)
vec_only f h i = bind_only _ (u32_only SectionSize i) (λ n c. weaker_only (items_only f h n.0 n.1) (λ x p. (vec_of c p.0 p.1, p.2)))
