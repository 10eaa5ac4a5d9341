-- The lists of types that a stack of known and unknown operands stands for, and what an instruction does to them.
use Rattle.std.proofs.Common.{◌≡◌, Bool, true, false, List, [], ◌∷◌, ◌++◌, Option, Some, None, refl, sym, ap, ◌∙◌, subst, append_assoc}
use Rattle.std.proofs.lemmas.List.{append-nil}
use Rattle.std.specs.Prelude.{Result, Ok, Err}
use Rattle.wasm_lang.specs.declared.types.ValType.{ValType}
use Rattle.wasm_lang.specs.declared.types.ValType.TheVariants.{I32, I64}
use Rattle.wasm_lang_valid.specs.declared.rule.Rule.{Rule}
use Rattle.wasm_lang_valid.specs.declared.rule.Rule.TheVariants.{OtherType}
use Rattle.wasm_lang_valid.specs.Typing.{onward, same, unless, listed, Shape, Fixed, Leaves, AnyOne, TwoAlike, Acts, fixed, leaves, any_one, two_alike}
use Rattle.wasm_lang_valid.specs.State.{Operand, take_one, take_all, take_any, joined, known, acted, nothing_left, closes}

-- an operand may have this type
abbrev pub Fits : Operand → ValType → Type 0
Fits None t = Unit {0}
Fits (Some u) t = u ≡ t

-- the stack stands for this list
abbrev pub Stands : Bool → List Operand → List ValType → Type 0
Stands endless [] [] = Unit {0}
Stands endless [] (t ∷ ts) = endless ≡ true
Stands endless (k ∷ s) [] = ⊥
Stands endless (k ∷ s) (t ∷ ts) = Fits k t × Stands endless s ts

pub same_refl : (t : ValType) → same t t ≡ true
same_refl I32 = refl
same_refl I64 = refl

pub same_is : (t u : ValType) → same t u ≡ true → u ≡ t
same_is I32 I32 e = refl
same_is I32 I64 e = cc
same_is I64 I32 e = cc
same_is I64 I64 e = refl

pub ok_is : {A : Type 0} {x y : A} → ◌≡◌ {A = Result A Rule} (Ok x) (Ok y) → x ≡ y
ok_is e = cc

-- any list goes with a stack that is open below
pub open_stands : (ts : List ValType) → Stands true [] ts
open_stands [] = tt
open_stands (t ∷ ts) = refl

-- a type that an operand may have, and a list that a stack stands for
pub some_type : (k : Operand) → (t : ValType) × Fits k t
some_type None = (I32, tt)
some_type (Some t) = (t, refl)

pub some_stack : (e : Bool) (s : List Operand) → (ts : List ValType) × Stands e s ts
some_stack e [] = ([], tt)
some_stack e (k ∷ s) =
    let t = some_type k in
    let ts = some_stack e s in
    (t.0 ∷ ts.0, (t.1, ts.1))

-- one of a type
pub one_taken : (t : ValType) (e : Bool) (s : List Operand) (ts : List ValType) → Stands e s (t ∷ ts) → (s' : List Operand) × (take_one t e s ≡ Ok s') × Stands e s' ts
one_taken t true [] ts h = ([], refl, open_stands ts)
one_taken t false [] ts h = cc
one_taken t e (None ∷ s) ts h = (s, refl, h.1)
one_taken t e (Some u ∷ s) ts h =
    let is : same t u ≡ true = subst (λ v. same t v ≡ true) (sym h.0) (same_refl t) in
    (s, ap (λ b. unless b OtherType s) is, h.1)

pub one_untaken : (t : ValType) (e : Bool) (s s' : List Operand) (ts : List ValType) → take_one t e s ≡ Ok s' → Stands e s' ts → Stands e s (t ∷ ts)
one_untaken t true [] s' ts q h = refl
one_untaken t false [] s' ts q h = cc
one_untaken t e (None ∷ s) s' ts q h = (tt, subst (λ l. Stands e l ts) (sym (ok_is q)) h)
one_untaken t e (Some u ∷ s) s' ts q h = some_untaken t u e (same t u) s s' ts refl q h
  where
    some_untaken : (t u : ValType) (e b : Bool) (s s' : List Operand) (ts : List ValType) → same t u ≡ b → unless b OtherType s ≡ Ok s' → Stands e s' ts → (u ≡ t) × Stands e s ts
    some_untaken t u e true s s' ts is q h = (same_is t u is, subst (λ l. Stands e l ts) (sym (ok_is q)) h)
    some_untaken t u e false s s' ts is q h = cc

-- several
pub all_taken : (takes : List ValType) (e : Bool) (s : List Operand) (below : List ValType) → Stands e s (takes ++ below) → (s' : List Operand) × (take_all takes e s ≡ Ok s') × Stands e s' below
all_taken [] e s below h = (s, refl, h)
all_taken (t ∷ ts) e s below h =
    let a = one_taken t e s (ts ++ below) h in
    let b = all_taken ts e a.0 below a.2 in
    (b.0, ap (λ r. onward r (take_all ts e)) a.1 ∙ b.1, b.2)

-- what was done first, and then
pub onward_ok : {A B : Type 0} (r : Result A Rule) (f : A → Result B Rule) (y : B) → onward r f ≡ Ok y → (x : A) × (r ≡ Ok x) × (f x ≡ Ok y)
onward_ok (Ok x) f y q = (x, refl, q)
onward_ok (Err e) f y q = cc

pub all_untaken : (takes : List ValType) (e : Bool) (s s' : List Operand) (below : List ValType) → take_all takes e s ≡ Ok s' → Stands e s' below → Stands e s (takes ++ below)
all_untaken [] e s s' below q h = subst (λ l. Stands e l below) (sym (ok_is q)) h
all_untaken (t ∷ ts) e s s' below q h =
    let a = onward_ok (take_one t e s) (take_all ts e) s' q in
    one_untaken t e s a.0 (ts ++ below) a.1 (all_untaken ts e a.0 s' below a.2 h)

-- one of any type
pub any_taken : (e : Bool) (s : List Operand) (t : ValType) (ts : List ValType) → Stands e s (t ∷ ts) → (p : Operand × List Operand) × (take_any e s ≡ Ok p) × Fits p.0 t × Stands e p.1 ts
any_taken true [] t ts h = ((None, []), refl, tt, open_stands ts)
any_taken false [] t ts h = cc
any_taken e (k ∷ s) t ts h = ((k, s), refl, h.0, h.1)

pub any_untaken : (e : Bool) (s : List Operand) (p : Operand × List Operand) (t : ValType) (ts : List ValType) → take_any e s ≡ Ok p → Fits p.0 t → Stands e p.1 ts → Stands e s (t ∷ ts)
any_untaken true [] p t ts q f h = refl
any_untaken false [] p t ts q f h = cc
any_untaken e (k ∷ s) p t ts q f h =
    let is = sym (ok_is q) in
    (subst (λ m. Fits m t) (ap (λ p. p.0) is) f, subst (λ m. Stands e m ts) (ap (λ p. p.1) is) h)

pub joins : (k m : Operand) (t : ValType) → Fits k t → Fits m t → (j : Operand) × (joined k m ≡ Ok j) × Fits j t
joins None m t f g = (m, refl, g)
joins (Some u) None t f g = (Some u, refl, f)
joins (Some u) (Some v) t f g =
    let is : same u v ≡ true = subst (λ w. same u w ≡ true) (f ∙ sym g) (same_refl u) in
    (Some u, ap (λ b. unless b OtherType (Some u)) is, f)

pub unjoins : (k m j : Operand) (t : ValType) → joined k m ≡ Ok j → Fits j t → Fits k t × Fits m t
unjoins None m j t q f = (tt, subst (λ o. Fits o t) (sym (ok_is q)) f)
unjoins (Some u) None j t q f = (subst (λ o. Fits o t) (sym (ok_is q)) f, tt)
unjoins (Some u) (Some v) j t q f = by (same u v) refl q
  where
    by : (b : Bool) → same u v ≡ b → unless b OtherType (Some u) ≡ Ok j → Fits (Some u) t × Fits (Some v) t
    by true is q = let g = subst (λ o. Fits o t) (sym (ok_is q)) f in (g, same_is u v is ∙ g)
    by false is q = cc

-- what is given
pub known_stands : (gives : List ValType) (e : Bool) (s : List Operand) (below : List ValType) → Stands e s below → Stands e (known gives ++ s) (gives ++ below)
known_stands [] e s below h = h
known_stands (t ∷ ts) e s below h = (refl, known_stands ts e s below h)

pub known_unstands : (gives : List ValType) (e : Bool) (s : List Operand) (us : List ValType) → Stands e (known gives ++ s) us → (below : List ValType) × (us ≡ gives ++ below) × Stands e s below
known_unstands [] e s us h = (us, refl, h)
known_unstands (t ∷ ts) e s [] h = absurd h
known_unstands (t ∷ ts) e s (u ∷ us) h =
    let a = known_unstands ts e s us h.1 in
    (a.0, let head : u ≡ t = sym h.0 in let tail = a.1 in cc, a.2)

-- an instruction of each shape goes from each list that the stack stands for to one that the next stands for
pub shape_goes : (s : Shape) (takes gives : List ValType) → Acts s takes gives → (e : Bool) (ks : List Operand) (below : List ValType) → Stands e ks (takes ++ below) → (p : Bool × List Operand) × (acted s e ks ≡ Ok p) × Stands p.0 p.1 (gives ++ below)
shape_goes s takes gives (fixed {takes = ts} {gives = gs}) e ks below h =
    let a = all_taken ts e ks below h in
    ((e, known gs ++ a.0), ap (λ r. onward r (λ left. Ok (e, known gs ++ left))) a.1, known_stands gs e a.0 below a.2)
shape_goes s takes gives (leaves {takes = ts} under after) e ks below h =
    let a = all_taken ts e ks (under ++ below) (rw (← append_assoc ts under below) h) in
    ((true, []), ap (λ r. onward r (λ left. Ok (true, []))) a.1, open_stands (after ++ below))
shape_goes s takes gives (any_one {t = t}) e ks below h =
    let a = any_taken e ks t below h in
    ((e, a.0.1), ap (λ r. onward r (λ p. Ok (e, p.1))) a.1, a.3)
shape_goes s takes gives (two_alike {t = t}) e ks below h =
    let a = one_taken I32 e ks (t ∷ t ∷ below) h in
    let b = any_taken e a.0 t (t ∷ below) a.2 in
    let d = any_taken e b.0.1 t below b.3 in
    let j = joins b.0.0 d.0.0 t b.2 d.2 in
    ((e, j.0 ∷ d.0.1), rw (a.1, b.1, d.1, j.1), (j.2, d.3))

-- .. and back
pub fixed_comes : (ts gs : List ValType) (e : Bool) (ks : List Operand) (p : Bool × List Operand) (us : List ValType) → acted (Fixed ts gs) e ks ≡ Ok p → Stands p.0 p.1 us → (below : List ValType) × (us ≡ gs ++ below) × Stands e ks (ts ++ below)
fixed_comes ts gs e ks p us q h =
    let a = onward_ok (take_all ts e ks) (λ left. Ok (e, known gs ++ left)) p q in
    let h1 : Stands e (known gs ++ a.0) us = subst (λ p. Stands p.0 p.1 us) (sym (ok_is a.2)) h in
    let b = known_unstands gs e a.0 us h1 in
    (b.0, b.1, all_untaken ts e ks a.0 b.0 a.1 b.2)

pub shape_comes : (s : Shape) (e : Bool) (ks : List Operand) (p : Bool × List Operand) (us : List ValType) → acted s e ks ≡ Ok p → Stands p.0 p.1 us → (takes : List ValType) × (gives : List ValType) × (below : List ValType) × Acts s takes gives × (us ≡ gives ++ below) × Stands e ks (takes ++ below)
shape_comes (Fixed ts gs) e ks p us q h =
    let a = fixed_comes ts gs e ks p us q h in
    (ts, gs, a.0, fixed, a.1, a.2)
shape_comes (Leaves ts) e ks p us q h =
    let a = onward_ok (take_all ts e ks) (λ left. Ok (true, [])) p q in
    let b = some_stack e a.0 in
    (ts ++ b.0, us, [], leaves b.0 us, sym (append-nil us), rw append-nil (all_untaken ts e ks a.0 b.0 a.1 b.1))
shape_comes AnyOne e ks p us q h =
    let a = onward_ok (take_any e ks) (λ p. Ok (e, p.1)) p q in
    let t = some_type a.0.0 in
    let h1 : Stands e a.0.1 us = subst (λ p. Stands p.0 p.1 us) (sym (ok_is a.2)) h in
    (t.0 ∷ [], [], us, any_one, refl, any_untaken e ks a.0 t.0 us a.1 t.1 h1)
shape_comes TwoAlike e ks p us q h =
    let a = onward_ok (take_one I32 e ks) _ p q in
    let b = onward_ok (take_any e a.0) _ p a.2 in
    let d = onward_ok (take_any e b.0.1) _ p b.2 in
    let j = onward_ok (joined b.0.0 d.0.0) (λ k. Ok (e, k ∷ d.0.1)) p d.2 in
    two_come e ks a.0 b.0 d.0 j.0 us a.1 b.1 d.1 j.1 (subst (λ p. Stands p.0 p.1 us) (sym (ok_is j.2)) h)
  where
    two_come : (e : Bool) (ks s1 : List Operand) (p q : Operand × List Operand) (k : Operand) (us : List ValType) → take_one I32 e ks ≡ Ok s1 → take_any e s1 ≡ Ok p → take_any e p.1 ≡ Ok q → joined p.0 q.0 ≡ Ok k → Stands e (k ∷ q.1) us → (takes : List ValType) × (gives : List ValType) × (below : List ValType) × Acts TwoAlike takes gives × (us ≡ gives ++ below) × Stands e ks (takes ++ below)
    two_come e ks s1 p q k [] e1 e2 e3 e4 h = absurd h
    two_come e ks s1 p q k (t ∷ us) e1 e2 e3 e4 h =
        let f = unjoins p.0 q.0 k t e4 h.0 in
        let h2 = any_untaken e p.1 q t us e3 f.1 h.1 in
        let h1 = any_untaken e s1 p t (t ∷ us) e2 f.0 h2 in
        (I32 ∷ t ∷ t ∷ [], t ∷ [], us, two_alike, refl, one_untaken I32 e ks s1 (t ∷ t ∷ us) e1 h1)

-- a block may be closed exactly where its stack stands for its result
nothing_is : (s : List Operand) (e : Bool) → Stands e s [] → nothing_left s ≡ Ok tt
nothing_is [] e h = refl
nothing_is (k ∷ s) e h = absurd h

nothing_was : (s : List Operand) (e : Bool) (u : Unit {0}) → nothing_left s ≡ Ok u → Stands e s []
nothing_was [] e u q = tt
nothing_was (k ∷ s) e u q = cc

pub closes_where : (r : Option ValType) (e : Bool) (s : List Operand) → Stands e s (listed r) → closes r e s ≡ Ok tt
closes_where r e s h =
    let a = all_taken (listed r) e s [] (rw append-nil h) in
    ap (λ q. onward q nothing_left) a.1 ∙ nothing_is a.0 e a.2

pub closes_only : (r : Option ValType) (e : Bool) (s : List Operand) (u : Unit {0}) → closes r e s ≡ Ok u → Stands e s (listed r)
closes_only r e s u q =
    let a = onward_ok (take_all (listed r) e s) nothing_left u q in
    rw append-nil at (all_untaken (listed r) e s a.0 [] a.1 (nothing_was a.0 e u a.2))
