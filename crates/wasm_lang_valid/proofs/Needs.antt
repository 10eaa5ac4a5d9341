-- What a refusal of operands says of each list that a stack stands for.
use Rattle.std.proofs.Common.{◌≡◌, ◌⊎◌, inl, inr, suc, ◌<◌, ◌≤◌, Bool, true, false, List, [], ◌∷◌, ◌++◌, length, Some, None, refl, sym, ap, ◌∙◌, subst, arith, append_assoc}
use Rattle.std.proofs.lemmas.List.{append-nil}
use Rattle.std.specs.Prelude.{Result, Ok, Err}
use Rattle.wasm_lang.specs.declared.types.ValType.{ValType}
use Rattle.wasm_lang.specs.declared.types.ValType.TheVariants.{I32, I64}
use Rattle.wasm_lang_valid.specs.declared.rule.Rule.{Rule}
use Rattle.wasm_lang_valid.specs.declared.rule.Rule.TheVariants.{OtherType, MissingOperand}
use Rattle.wasm_lang_valid.specs.Typing.{onward, same, unless, Shape, Fixed, Leaves, AnyOne, TwoAlike, Acts, fixed, leaves, any_one, two_alike}
use Rattle.wasm_lang_valid.specs.State.{Operand, take_all, acted}
use Rattle.wasm_lang_valid.specs.Rules.{Needs, needs_fixed, needs_leaves, needs_any, needs_alike, Agrees}
use Rattle.wasm_lang_valid.proofs.Stands.{Stands, same_refl, same_is, some_type, some_stack, all_untaken, shape_goes, shape_comes}

-- where the first step failed, or the second
pub onward_err : {A B : Type 0} (r : Result A Rule) (f : A → Result B Rule) (e : Rule) → onward r f ≡ Err e → (r ≡ Err e) ⊎ ((x : A) × (r ≡ Ok x) × (f x ≡ Err e))
onward_err (Ok x) f e q = inr (x, refl, q)
onward_err (Err r) f e q = inl (let h : r ≡ e = cc in ap (λ r. Err r) h)

open_takes : (ts : List ValType) → take_all ts true [] ≡ Ok []
open_takes [] = refl
open_takes (t ∷ ts) = open_takes ts

closed_none : (us : List ValType) → Stands false [] us → us ≡ []
closed_none [] h = refl
closed_none (u ∷ us) h = cc

-- a stack whose operands are of other types
pub all_other : (ts : List ValType) (e : Bool) (s : List Operand) (us : List ValType) → take_all ts e s ≡ Err OtherType → Stands e s us → Agrees ts us → ⊥
all_other [] e s us q h a = cc
all_other (t ∷ ts) true [] us q h a = let o = open_takes ts in cc
all_other (t ∷ ts) false [] us q h a = cc
all_other (t ∷ ts) e (k ∷ s) [] q h a = h
all_other (t ∷ ts) e (None ∷ s) (u ∷ us) q h a = all_other ts e s us q h.1 a.1
all_other (t ∷ ts) e (Some v ∷ s) (u ∷ us) q h a =
    let is : same t v ≡ true = subst (λ w. same t w ≡ true) (a.0 ∙ sym h.0) (same_refl t) in
    all_other ts e s us (subst (λ b. onward (unless b OtherType s) (take_all ts e) ≡ Err OtherType) is q) h.1 a.1

-- a stack that is too short
pub all_missing : (ts : List ValType) (e : Bool) (s : List Operand) (us : List ValType) → take_all ts e s ≡ Err MissingOperand → Stands e s us → length us < length ts
all_missing [] e s us q h = cc
all_missing (t ∷ ts) true [] us q h = let o = open_takes ts in cc
all_missing (t ∷ ts) false [] us q h = let e = closed_none us h in rw e (omega arith)
all_missing (t ∷ ts) e (k ∷ s) [] q h = omega arith
all_missing (t ∷ ts) e (None ∷ s) (u ∷ us) q h = let r = all_missing ts e s us q h.1 in omega arith
all_missing (t ∷ ts) e (Some v ∷ s) (u ∷ us) q h = by (same t v) (λ q. all_missing ts e s us q h.1) q
  where
    by : (b : Bool) → (take_all ts e s ≡ Err MissingOperand → length us < length ts) → onward (unless b OtherType s) (take_all ts e) ≡ Err MissingOperand → length (u ∷ us) < length (t ∷ ts)
    by true again q = let r = again q in omega arith
    by false again q = cc

-- .. stands for a list whose operands agree
pub all_missing_agree : (ts : List ValType) (e : Bool) (s : List Operand) → take_all ts e s ≡ Err MissingOperand → (us : List ValType) × Stands e s us × Agrees ts us
all_missing_agree [] e s q = cc
all_missing_agree (t ∷ ts) true [] q = let o = open_takes ts in cc
all_missing_agree (t ∷ ts) false [] q = ([], tt, tt)
all_missing_agree (t ∷ ts) e (None ∷ s) q = let r = all_missing_agree ts e s q in (t ∷ r.0, (tt, r.1), (refl, r.2))
all_missing_agree (t ∷ ts) e (Some v ∷ s) q = by (same t v) refl (λ q. all_missing_agree ts e s q) q
  where
    by : (b : Bool) → same t v ≡ b → (take_all ts e s ≡ Err MissingOperand → (us : List ValType) × Stands e s us × Agrees ts us) → onward (unless b OtherType s) (take_all ts e) ≡ Err MissingOperand → (us : List ValType) × Stands e (Some v ∷ s) us × Agrees (t ∷ ts) us
    by true is again q = let r = again q in (v ∷ r.0, (refl, r.1), (sym (same_is t v is), r.2))
    by false is again q = cc

pub agrees_front : (ts below : List ValType) → Agrees ts (ts ++ below)
agrees_front [] below = tt
agrees_front (t ∷ ts) below = (refl, agrees_front ts below)

longer : (ts below : List ValType) → length ts ≤ length (ts ++ below)
longer [] below = omega arith
longer (t ∷ ts) below = let h = longer ts below in omega arith

-- a list that has what is needed
pub record Serves (takes us : List ValType) : Type 0 where
  pub agrees : Agrees takes us
  pub enough : length takes ≤ length us

pub all_serve : (ts : List ValType) (e : Bool) (s s' : List Operand) → take_all ts e s ≡ Ok s' → (us : List ValType) × Stands e s us × Serves ts us
all_serve ts e s s' q =
    let b = some_stack e s' in
    (ts ++ b.0, all_untaken ts e s s' b.0 q b.1, record { agrees = agrees_front ts b.0; enough = longer ts b.0 })

-- a stack with operands left
pub all_left : (ts : List ValType) (e : Bool) (s : List Operand) (k : Operand) (s' : List Operand) (us : List ValType) → take_all ts e s ≡ Ok (k ∷ s') → Stands e s us → length ts < length us
all_left [] e [] k s' us q h = cc
all_left [] e (j ∷ s) k s' [] q h = absurd h
all_left [] e (j ∷ s) k s' (u ∷ us) q h = omega arith
all_left (t ∷ ts) true [] k s' us q h = let o = open_takes ts in cc
all_left (t ∷ ts) false [] k s' us q h = cc
all_left (t ∷ ts) e (j ∷ s) k s' [] q h = absurd h
all_left (t ∷ ts) e (None ∷ s) k s' (u ∷ us) q h = let r = all_left ts e s k s' us q h.1 in omega arith
all_left (t ∷ ts) e (Some v ∷ s) k s' (u ∷ us) q h = by (same t v) (λ q. all_left ts e s k s' us q h.1) q
  where
    by : (b : Bool) → (take_all ts e s ≡ Ok (k ∷ s') → length ts < length us) → onward (unless b OtherType s) (take_all ts e) ≡ Ok (k ∷ s') → length (t ∷ ts) < length (u ∷ us)
    by true again q = let r = again q in omega arith
    by false again q = cc

-- a stack that is open below stands for each longer list too
stands_longer : (s : List Operand) (us more : List ValType) → Stands true s us → Stands true s (us ++ more)
stands_longer [] [] [] h = tt
stands_longer [] [] (m ∷ more) h = refl
stands_longer [] (u ∷ us) more h = refl
stands_longer (k ∷ s) [] more h = absurd h
stands_longer (k ∷ s) (u ∷ us) more h = (h.0, stands_longer s us more h.1)

-- a choice and two of one type
alike_ok : (e : Bool) (s : List Operand) (t : ValType) (rest : List ValType) (r : Rule) → Stands e s (I32 ∷ t ∷ t ∷ rest) → acted TwoAlike e s ≡ Err r → ⊥
alike_ok e s t rest r h q =
    let a = shape_goes TwoAlike _ _ (two_alike {t = t}) e s rest h in
    let x = a.1 in
    cc

alike_closed : (s : List Operand) (us : List ValType) (t : ValType) → Stands false s us → Agrees (I32 ∷ t ∷ t ∷ []) us → acted TwoAlike false s ≡ Err OtherType → ⊥
alike_closed [] us t h a q = cc
alike_closed (k ∷ s) [] t h a q = h
alike_closed (None ∷ []) (u ∷ us) t h a q = cc
alike_closed (Some I32 ∷ []) (u ∷ us) t h a q = cc
alike_closed (Some I64 ∷ s) (u ∷ us) t h a q = let e : I32 ≡ I64 = a.0 ∙ sym h.0 in cc
alike_closed (k ∷ m ∷ s) (u ∷ []) t h a q = h.1
alike_closed (None ∷ m ∷ []) (u ∷ v ∷ us) t h a q = cc
alike_closed (Some I32 ∷ m ∷ []) (u ∷ v ∷ us) t h a q = cc
alike_closed (k ∷ m ∷ n ∷ s) (u ∷ v ∷ []) t h a q = h.1.1
alike_closed (k ∷ m ∷ n ∷ s) (u ∷ v ∷ w ∷ us) t h a q =
    let e1 = a.0 in
    let e2 = a.1.0 in
    let e3 = a.1.1.0 in
    let e : u ∷ v ∷ w ∷ us ≡ I32 ∷ t ∷ t ∷ us = cc in
    alike_ok false (k ∷ m ∷ n ∷ s) t us OtherType (subst (λ l. Stands false (k ∷ m ∷ n ∷ s) l) e h) q

alike_other : (e : Bool) (s : List Operand) (us : List ValType) (t : ValType) → acted TwoAlike e s ≡ Err OtherType → Stands e s us → Agrees (I32 ∷ t ∷ t ∷ []) us → ⊥
alike_other false s us t q h a = alike_closed s us t h a q
alike_other true s [] t q h a = alike_ok true s t [] OtherType (stands_longer s [] (I32 ∷ t ∷ t ∷ []) h) q
alike_other true s (u ∷ []) t q h a =
    let e : u ∷ t ∷ t ∷ [] ≡ I32 ∷ t ∷ t ∷ [] = ap (λ x. x ∷ t ∷ t ∷ []) (sym a.0) in
    alike_ok true s t [] OtherType (subst (λ l. Stands true s l) e (stands_longer s (u ∷ []) (t ∷ t ∷ []) h)) q
alike_other true s (u ∷ v ∷ []) t q h a =
    let e1 = a.0 in
    let e2 = a.1.0 in
    let e : u ∷ v ∷ t ∷ [] ≡ I32 ∷ t ∷ t ∷ [] = cc in
    alike_ok true s t [] OtherType (subst (λ l. Stands true s l) e (stands_longer s (u ∷ v ∷ []) (t ∷ []) h)) q
alike_other true s (u ∷ v ∷ w ∷ us) t q h a =
    let e1 = a.0 in
    let e2 = a.1.0 in
    let e3 = a.1.1.0 in
    let e : u ∷ v ∷ w ∷ us ≡ I32 ∷ t ∷ t ∷ us = cc in
    alike_ok true s t us OtherType (subst (λ l. Stands true s l) e h) q

-- where an operand is missing, the stack is closed and has at most two
data Short : Bool → List Operand → Type 0 where
  short_0 : Short false []
  short_1 : {k : Operand} → (Stands false (k ∷ []) (I32 ∷ [])) → Short false (k ∷ [])
  short_2 : {k m : Operand} → (Stands false (k ∷ []) (I32 ∷ [])) → Short false (k ∷ m ∷ [])

alike_short : (e : Bool) (s : List Operand) → acted TwoAlike e s ≡ Err MissingOperand → Short e s
alike_short true [] q = cc
alike_short true (None ∷ []) q = cc
alike_short true (Some I32 ∷ []) q = cc
alike_short true (None ∷ None ∷ []) q = cc
alike_short true (None ∷ Some t ∷ []) q = cc
alike_short true (Some I32 ∷ None ∷ []) q = cc
alike_short true (Some I32 ∷ Some t ∷ []) q = cc
alike_short false [] q = short_0
alike_short false (None ∷ []) q = short_1 (tt, tt)
alike_short false (Some I32 ∷ []) q = short_1 (refl, tt)
alike_short false (None ∷ m ∷ []) q = short_2 (tt, tt)
alike_short false (Some I32 ∷ m ∷ []) q = short_2 (refl, tt)
alike_short e (Some I64 ∷ s) q = cc
alike_short e (None ∷ None ∷ n ∷ s) q = cc
alike_short e (None ∷ Some t ∷ None ∷ s) q = cc
alike_short e (None ∷ Some t ∷ Some u ∷ s) q = by (same t u) q
  where
    by : (b : Bool) → onward {B = Bool × List Operand} (unless b OtherType (Some t)) (λ k. Ok (e, k ∷ s)) ≡ Err MissingOperand → Short e (None ∷ Some t ∷ Some u ∷ s)
    by true q = cc
    by false q = cc
alike_short e (Some I32 ∷ None ∷ n ∷ s) q = cc
alike_short e (Some I32 ∷ Some t ∷ None ∷ s) q = cc
alike_short e (Some I32 ∷ Some t ∷ Some u ∷ s) q = by (same t u) q
  where
    by : (b : Bool) → onward {B = Bool × List Operand} (unless b OtherType (Some t)) (λ k. Ok (e, k ∷ s)) ≡ Err MissingOperand → Short e (Some I32 ∷ Some t ∷ Some u ∷ s)
    by true q = cc
    by false q = cc

closed_length : (s : List Operand) (us : List ValType) → Stands false s us → length us ≡ length s
closed_length [] us h = ap length (closed_none us h)
closed_length (k ∷ s) [] h = absurd h
closed_length (k ∷ s) (u ∷ us) h = ap suc (closed_length s us h.1)

short_length : (e : Bool) (s : List Operand) (us : List ValType) → Short e s → Stands e s us → length us < 3
short_length e s us short_0 h = omega (arith, closed_length [] us h)
short_length e s us (short_1 {k = k} g) h = omega (arith, closed_length (k ∷ []) us h)
short_length e s us (short_2 {k = k} {m = m} g) h = omega (arith, closed_length (k ∷ m ∷ []) us h)

short_agrees : (e : Bool) (s : List Operand) → Short e s → (t : ValType) × (us : List ValType) × Stands e s us × Agrees (I32 ∷ t ∷ t ∷ []) us
short_agrees e s short_0 = (I32, [], tt, tt)
short_agrees e s (short_1 g) = (I32, I32 ∷ [], g, (refl, tt))
short_agrees e s (short_2 {m = m} g) = let t = some_type m in (t.0, I32 ∷ t.0 ∷ [], (g.0, (t.1, tt)), (refl, (refl, tt)))

-- the shapes
pub shape_other : (s : Shape) (e : Bool) (ks : List Operand) (us takes : List ValType) → acted s e ks ≡ Err OtherType → Stands e ks us → Needs s takes → Agrees takes us → ⊥
shape_other s e ks us takes q h (needs_fixed {takes = ts}) a = elim (onward_err (take_all ts e ks) _ OtherType q) [ inl x ↦ all_other ts e ks us x h a | inr x ↦ let y = x.2 in cc ]
shape_other s e ks us takes q h (needs_leaves {takes = ts}) a = elim (onward_err (take_all ts e ks) _ OtherType q) [ inl x ↦ all_other ts e ks us x h a | inr x ↦ let y = x.2 in cc ]
shape_other s e ks us takes q h needs_any a = no_other e ks q
  where
    no_other : (e : Bool) (ks : List Operand) → acted AnyOne e ks ≡ Err OtherType → ⊥
    no_other true [] q = cc
    no_other false [] q = cc
    no_other e (k ∷ ks) q = cc
shape_other s e ks us takes q h (needs_alike {t = t}) a = alike_other e ks us t q h a

any_short : (e : Bool) (ks : List Operand) (us : List ValType) → acted AnyOne e ks ≡ Err MissingOperand → Stands e ks us → us ≡ []
any_short true [] us q h = cc
any_short false [] us q h = closed_none us h
any_short e (k ∷ ks) us q h = cc

pub shape_missing : (s : Shape) (e : Bool) (ks : List Operand) (us takes : List ValType) → acted s e ks ≡ Err MissingOperand → Stands e ks us → Needs s takes → length us < length takes
shape_missing s e ks us takes q h (needs_fixed {takes = ts}) = elim (onward_err (take_all ts e ks) _ MissingOperand q) [ inl x ↦ all_missing ts e ks us x h | inr x ↦ let y = x.2 in cc ]
shape_missing s e ks us takes q h (needs_leaves {takes = ts}) = elim (onward_err (take_all ts e ks) _ MissingOperand q) [ inl x ↦ all_missing ts e ks us x h | inr x ↦ let y = x.2 in cc ]
shape_missing s e ks us takes q h needs_any = let n = any_short e ks us q h in rw n (omega arith)
shape_missing s e ks us takes q h needs_alike = let n = short_length e ks us (alike_short e ks q) h in omega arith

-- a list that a stack stands for, and operands that a shape needs, so that those that are there agree
pub record Agree (s : Shape) (e : Bool) (ks : List Operand) : Type 0 where
  pub types : List ValType
  pub takes : List ValType
  pub stands : Stands e ks types
  pub needs : Needs s takes
  pub agrees : Agrees takes types

pub shape_agree : (s : Shape) (e : Bool) (ks : List Operand) → acted s e ks ≡ Err MissingOperand → Agree s e ks
shape_agree (Fixed ts gs) e ks q = elim (onward_err (take_all ts e ks) _ MissingOperand q) [ inl x ↦ let a = all_missing_agree ts e ks x in record { types = a.0; takes = ts; stands = a.1; needs = needs_fixed; agrees = a.2 } | inr x ↦ let y = x.2 in cc ]
shape_agree (Leaves ts) e ks q = elim (onward_err (take_all ts e ks) _ MissingOperand q) [ inl x ↦ let a = all_missing_agree ts e ks x in record { types = a.0; takes = ts; stands = a.1; needs = needs_leaves; agrees = a.2 } | inr x ↦ let y = x.2 in cc ]
shape_agree AnyOne e ks q =
    let s = some_stack e ks in
    record { types = s.0; takes = I32 ∷ []; stands = s.1; needs = needs_any; agrees = let n = any_short e ks s.0 q s.1 in rw n tt }
shape_agree TwoAlike e ks q =
    let a = short_agrees e ks (alike_short e ks q) in
    record { types = a.1; takes = I32 ∷ a.0 ∷ a.0 ∷ []; stands = a.2; needs = needs_alike; agrees = a.3 }

-- a list that a stack stands for, which has what a shape needs
pub record Fine (s : Shape) (e : Bool) (ks : List Operand) : Type 0 where
  pub types : List ValType
  pub takes : List ValType
  pub stands : Stands e ks types
  pub needs : Needs s takes
  pub serves : Serves takes types

acts_need : (s : Shape) (takes gives : List ValType) → Acts s takes gives → (needed : List ValType) × (more : List ValType) × Needs s needed × (takes ≡ needed ++ more)
acts_need s takes gives fixed = (takes, [], needs_fixed, sym (append-nil takes))
acts_need s takes gives (leaves {takes = ts} below after) = (ts, below, needs_leaves, refl)
acts_need s takes gives any_one = (takes, [], needs_any, sym (append-nil takes))
acts_need s takes gives two_alike = (takes, [], needs_alike, sym (append-nil takes))

pub shape_fine : (s : Shape) (e : Bool) (ks : List Operand) (p : Bool × List Operand) → acted s e ks ≡ Ok p → Fine s e ks
shape_fine s e ks p q =
    let u = some_stack p.0 p.1 in
    let a = shape_comes s e ks p u.0 q u.1 in
    let n = acts_need s a.0 a.1 a.3 in
    let is : a.0 ++ a.2 ≡ n.0 ++ (n.1 ++ a.2) = ap (λ l. l ++ a.2) n.3 ∙ append_assoc n.0 n.1 a.2 in
    record { types = n.0 ++ (n.1 ++ a.2); takes = n.0; stands = subst (λ l. Stands e ks l) is a.5; needs = n.2; serves = record { agrees = agrees_front n.0 (n.1 ++ a.2); enough = longer n.0 (n.1 ++ a.2) } }
