-- Places that lie on one another, and the operands below them.
use Rattle.std.proofs.Common.{◌≡◌, ℕ, zero, suc, ◌≤◌, List, [], ◌∷◌, ◌++◌, take, map, refl, sym, ap, ◌∙◌, arith}
use Rattle.wasm_lang.specs.declared.types.ValType.{ValType}
use Rattle.wasm_lang_valid.specs.Typing.{listed}
use Rattle.wasm2js_operands.specs.Operands.{over}
use Rattle.wasm2js_rooms.specs.declared.walk.Place.{Place}
use Rattle.wasm2js_rooms.specs.Places.{Spot, spot_at, ats, AreStacked}

-- a stack in two parts
pub record IsSplit (floor top : ℕ) (ps qs : List Place) : Type 0 where
  pub middle : ℕ
  pub below : AreStacked floor middle ps
  pub above : AreStacked middle top qs

pub split : (floor top : ℕ) (ps qs : List Place) → AreStacked floor top (ps ++ qs) → IsSplit floor top ps qs
split floor top [] qs h = record { middle = floor; below = omega arith; above = h }
split floor top (p ∷ ps) qs h =
    let s = split p.height top ps qs h.2 in
    record { middle = s.middle; below = (h.0, h.1, s.below); above = s.above }

pub together : (floor middle top : ℕ) (ps qs : List Place) → AreStacked floor middle ps → AreStacked middle top qs → AreStacked floor top (ps ++ qs)
together floor middle top [] [] a b = omega arith
together floor middle top [] (q ∷ qs) a b = let e : floor ≤ q.base = omega (arith, a, b.0) in (e, b.1, b.2)
together floor middle top (p ∷ ps) qs a b = (a.0, a.1, together p.height middle top ps qs a.2 b)

pub higher : (floor middle top : ℕ) (ps : List Place) → AreStacked floor middle ps → middle ≤ top → AreStacked floor top ps
higher floor middle top [] a b = omega arith
higher floor middle top (p ∷ ps) a b = (a.0, a.1, higher p.height middle top ps a.2 b)

pub low_of : (floor top : ℕ) (ps : List Place) → AreStacked floor top ps → floor ≤ top
low_of floor top [] a = a
low_of floor top (p ∷ ps) a = let h : p.height ≤ top = low_of p.height top ps a.2 in omega (arith, a.0, a.1, h)

-- ---- operands that stay are seen alike

take_less : {A : Type 0} (m n : ℕ) (xs : List A) → m ≤ n → take m (take n xs) ≡ take m xs
take_less zero n xs h = refl
take_less (suc m) zero xs h = absurd (let e : ⊥ = omega arith in e)
take_less (suc m) (suc n) [] h = refl
take_less (suc m) (suc n) (x ∷ xs) h = let e : m ≤ n = omega arith in ap (λ l. x ∷ l) (take_less m n xs e)

pub same_below : {A : Type 0} (m n : ℕ) (xs ys : List A) → m ≤ n → take n xs ≡ take n ys → take m xs ≡ take m ys
same_below m n xs ys h e = sym (take_less m n xs h) ∙ ap (take m) e ∙ take_less m n ys h

pub same_spots : (floor top : ℕ) (ps : List Place) (new old : List ValType) → AreStacked floor top ps → take top new ≡ take top old
    → map (spot_at new) ps ≡ map (spot_at old) ps
same_spots floor top [] new old s e = refl
same_spots floor top (p ∷ ps) new old s e =
    let h : p.height ≤ top = low_of p.height top ps s.2 in
    ap (λ ts. record { at = p.at; base = p.base; types = listed p.result ++ over p.base ts } ∷ map (spot_at new) ps) (same_below p.height top new old h e)
    ∙ ap (λ ss. spot_at old p ∷ ss) (same_spots p.height top ps new old s.2 e)

pub spot_ats : (all : List ValType) (ps : List Place) → map (λ (s : Spot). s.at) (map (spot_at all) ps) ≡ ats ps
spot_ats all [] = refl
spot_ats all (p ∷ ps) = ap (λ ns. p.at ∷ ns) (spot_ats all ps)
