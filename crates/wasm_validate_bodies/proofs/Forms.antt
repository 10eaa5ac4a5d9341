-- Types, their forms, and how many differ.
use Rattle.std.proofs.Common.{◌≡◌, ◌⊎◌, inl, inr, ℕ, ◌+◌, Bool, true, false, cond, ◌&&◌, ◌||◌, nat_eq, List, [], ◌∷◌, ◌++◌, map, refl, sym, ap, ◌∙◌, subst}
use Rattle.std.specs.Cmp.Lexicographic.{pointwise}
use Rattle.wasm_lang.specs.declared.types.ValType.{ValType}
use Rattle.wasm_lang.specs.declared.types.ValType.TheVariants.{I32, I64}
use Rattle.wasm_lang.specs.Modules.{FunctionType}
use Rattle.wasm_lang_valid.specs.Typing.{same}
use Rattle.wasm_lang_valid.specs.Measures.{same_type, is_among, distinct}
use Rattle.wasm_validate_bodies.specs.Calls.{byte_of, form}

byte_same : (t u : ValType) → nat_eq (byte_of t) (byte_of u) ≡ same t u
byte_same I32 I32 = refl
byte_same I32 I64 = refl
byte_same I64 I32 = refl
byte_same I64 I64 = refl

bytes_same : (ts us : List ValType) → pointwise nat_eq (map byte_of ts) (map byte_of us) ≡ pointwise same ts us
bytes_same [] [] = refl
bytes_same [] (u ∷ us) = refl
bytes_same (t ∷ ts) [] = refl
bytes_same (t ∷ ts) (u ∷ us) = ap (λ b. b && pointwise nat_eq (map byte_of ts) (map byte_of us)) (byte_same t u) ∙ ap (λ b. same t u && b) (bytes_same ts us)

no_mark : (t : ValType) → (nat_eq 0x40 (byte_of t) ≡ false) × (nat_eq (byte_of t) 0x40 ≡ false)
no_mark I32 = (refl, refl)
no_mark I64 = (refl, refl)

and_assoc : (a b c : Bool) → a && (b && c) ≡ (a && b) && c
and_assoc true b c = refl
and_assoc false b c = refl

marked_same : (ps qs rs ss : List ValType) → pointwise nat_eq (map byte_of ps ++ 0x40 ∷ map byte_of rs) (map byte_of qs ++ 0x40 ∷ map byte_of ss) ≡ pointwise same ps qs && pointwise same rs ss
marked_same [] [] rs ss = bytes_same rs ss
marked_same [] (q ∷ qs) rs ss = ap (λ b. b && pointwise nat_eq (map byte_of rs) (map byte_of qs ++ 0x40 ∷ map byte_of ss)) (no_mark q).0
marked_same (p ∷ ps) [] rs ss = ap (λ b. b && pointwise nat_eq (map byte_of ps ++ 0x40 ∷ map byte_of rs) (map byte_of ss)) (no_mark p).1
marked_same (p ∷ ps) (q ∷ qs) rs ss =
    ap (λ b. b && pointwise nat_eq (map byte_of ps ++ 0x40 ∷ map byte_of rs) (map byte_of qs ++ 0x40 ∷ map byte_of ss)) (byte_same p q) ∙ ap (λ b. same p q && b) (marked_same ps qs rs ss) ∙ and_assoc (same p q) (pointwise same ps qs) (pointwise same rs ss)

-- two types have one form exactly where they are the same
pub form_same : (t u : FunctionType) → pointwise nat_eq (form t) (form u) ≡ same_type t u
form_same t u = marked_same t.params u.params t.results u.results

same_self : (t : ValType) → same t t ≡ true
same_self I32 = refl
same_self I64 = refl

all_self : (ts : List ValType) → pointwise same ts ts ≡ true
all_self [] = refl
all_self (t ∷ ts) = ap (λ b. b && pointwise same ts ts) (same_self t) ∙ all_self ts

pub type_self : (t : FunctionType) → same_type t t ≡ true
type_self t = ap (λ b. b && pointwise same t.results t.results) (all_self t.params) ∙ all_self t.results

both : (a b : Bool) → a && b ≡ true → (a ≡ true) × (b ≡ true)
both true b e = (refl, e)
both false b e = cc

same_is : (t u : ValType) → same t u ≡ true → t ≡ u
same_is I32 I32 e = refl
same_is I32 I64 e = cc
same_is I64 I32 e = cc
same_is I64 I64 e = refl

all_are : (ts us : List ValType) → pointwise same ts us ≡ true → ts ≡ us
all_are [] [] e = refl
all_are [] (u ∷ us) e = cc
all_are (t ∷ ts) [] e = cc
all_are (t ∷ ts) (u ∷ us) e = let h = both (same t u) (pointwise same ts us) e in ap (λ x. x ∷ ts) (same_is t u h.0) ∙ ap (λ xs. u ∷ xs) (all_are ts us h.1)

pub type_is : (t u : FunctionType) → same_type t u ≡ true → t ≡ u
type_is t u e =
    let h = both (pointwise same t.params u.params) (pointwise same t.results u.results) e in
    let p = all_are t.params u.params h.0 in
    let r = all_are t.results u.results h.1 in
    let q : ◌≡◌ {A = FunctionType} (record { params = t.params; results = t.results }) (record { params = u.params; results = u.results }) = cc in q

pub bool : (b : Bool) → (b ≡ true) ⊎ (b ≡ false)
bool true = inl refl
bool false = inr refl

or_assoc : (a b c : Bool) → a || (b || c) ≡ (a || b) || c
or_assoc true b c = refl
or_assoc false b c = refl

pub or_false : (a : Bool) → a || false ≡ a
or_false true = refl
or_false false = refl

or_true : (a : Bool) → a || true ≡ true
or_true true = refl
or_true false = refl

pub among_more : (t x : FunctionType) (ts : List FunctionType) → is_among t (ts ++ x ∷ []) ≡ is_among t ts || same_type t x
among_more t x [] = or_false (same_type t x)
among_more t x (u ∷ us) = ap (λ b. same_type t u || b) (among_more t x us) ∙ or_assoc (same_type t u) (is_among t us) (same_type t x)

-- one that is among them comes again
pub among_same : (t x : FunctionType) (ts : List FunctionType) → is_among x ts ≡ true → is_among t (ts ++ x ∷ []) ≡ is_among t ts
among_same t x ts h = elim (bool (same_type t x)) [ inl e ↦ among_more t x ts ∙ ap (λ b. is_among t ts || b) e ∙ or_true (is_among t ts) ∙ sym (subst (λ u. is_among u ts ≡ true) (sym (type_is t x e)) h) | inr e ↦ among_more t x ts ∙ ap (λ b. is_among t ts || b) e ∙ or_false (is_among t ts) ]

other_too : (t u : FunctionType) → same_type t u ≡ false → same_type u t ≡ false
other_too t u e = elim (bool (same_type u t)) [ inl h ↦ absurd (clash (sym (subst (λ x. same_type t x ≡ false) (type_is u t h) e) ∙ type_self t)) | inr h ↦ h ]
  where
    clash : false ≡ true → ⊥
    clash q = cc

counted : (a b : Bool) (n : ℕ) → cond b (cond a n (n + 1)) (cond a n (n + 1) + 1) ≡ cond a (cond b n (n + 1)) (cond b n (n + 1) + 1)
counted true true n = refl
counted true false n = refl
counted false true n = refl
counted false false n = refl

-- one more counts unless it is among them, where that is so for those after the first
twice : (y x : FunctionType) (ys : List FunctionType) (d : ℕ) → same_type y x ≡ true → d ≡ cond (is_among x ys) (distinct ys) (distinct ys + 1) → cond (is_among y (ys ++ x ∷ [])) d (d + 1) ≡ cond (is_among x (y ∷ ys)) (distinct (y ∷ ys)) (distinct (y ∷ ys) + 1)
twice y x ys d e more =
    let same : y ≡ x = type_is y x e in
    let there : is_among y (ys ++ x ∷ []) ≡ true = among_more y x ys ∙ ap (λ b. is_among y ys || b) e ∙ or_true (is_among y ys) in
    let here : same_type x y ≡ true = subst (λ u. same_type x u ≡ true) (sym same) (type_self x) in
    let left : cond (is_among y (ys ++ x ∷ [])) d (d + 1) ≡ cond (is_among x ys) (distinct ys) (distinct ys + 1) = ap (λ b. cond b d (d + 1)) there ∙ more in
    let right : cond (is_among x (y ∷ ys)) (distinct (y ∷ ys)) (distinct (y ∷ ys) + 1) ≡ cond (is_among y ys) (distinct ys) (distinct ys + 1) = ap (λ b. cond (b || is_among x ys) (distinct (y ∷ ys)) (distinct (y ∷ ys) + 1)) here in
    left ∙ ap (λ u. cond (is_among u ys) (distinct ys) (distinct ys + 1)) (sym same) ∙ sym right

apart : (y x : FunctionType) (ys : List FunctionType) (d : ℕ) → same_type y x ≡ false → d ≡ cond (is_among x ys) (distinct ys) (distinct ys + 1) → cond (is_among y (ys ++ x ∷ [])) d (d + 1) ≡ cond (is_among x (y ∷ ys)) (distinct (y ∷ ys)) (distinct (y ∷ ys) + 1)
apart y x ys d e more =
    let there : is_among y (ys ++ x ∷ []) ≡ is_among y ys = among_more y x ys ∙ ap (λ b. is_among y ys || b) e ∙ or_false (is_among y ys) in
    let here : same_type x y ≡ false = other_too y x e in
    ap (λ b. cond b d (d + 1)) there ∙ ap (λ n. cond (is_among y ys) n (n + 1)) more ∙ counted (is_among x ys) (is_among y ys) (distinct ys)
    ∙ sym (ap (λ b. cond (b || is_among x ys) (distinct (y ∷ ys)) (distinct (y ∷ ys) + 1)) here)

-- one more counts unless it is among them
pub distinct_more : (ts : List FunctionType) (x : FunctionType) → distinct (ts ++ x ∷ []) ≡ cond (is_among x ts) (distinct ts) (distinct ts + 1)
distinct_more [] x = refl
distinct_more (y ∷ ys) x = elim (bool (same_type y x)) [ inl e ↦ twice y x ys (distinct (ys ++ x ∷ [])) e (distinct_more ys x) | inr e ↦ apart y x ys (distinct (ys ++ x ∷ [])) e (distinct_more ys x) ]

pub among_self : (t : FunctionType) (ts : List FunctionType) → is_among t (ts ++ t ∷ []) ≡ true
among_self t ts = among_more t t ts ∙ ap (λ b. is_among t ts || b) (type_self t) ∙ or_true (is_among t ts)

-- what is among them stays among them
pub among_still : (t x : FunctionType) (ts : List FunctionType) → is_among t ts ≡ true → is_among t (ts ++ x ∷ []) ≡ true
among_still t x ts h = among_more t x ts ∙ ap (λ b. b || same_type t x) h
