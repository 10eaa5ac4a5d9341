-- Operands, those that stand, and aims as lists.
use Rattle.std.proofs.Common.{◌≡◌, ◌≤◌, ◌<◌, ℕ, suc, ◌+◌, ◌-◌, Bool, true, false, ◌&&◌, ◌||◌, List, [], ◌∷◌, ◌++◌, length, take, drop, Option, Some, None, refl, sym, ap, ◌∙◌, arith, length-drop}
use Rattle.std.specs.Prelude.{map, reverse, slice_get, get_or, nat_lt}
use Rattle.std.proofs.lemmas.List.{length-reverse, reverse-append, get_or-reverse, get_or-drop}
use Rattle.std.proofs.lemmas.Option.{slice_get-get_or, slice_get_past}
use Rattle.std.proofs.lemmas.Bool.Decides.{nat_tests}
use Rattle.std.proofs.Math.ListN.{drop_of_length-le}
use Rattle.std.proofs.Math.Seq.{take-length}
use Rattle.wasm_lang.specs.declared.types.ValType.{ValType}
use Rattle.wasm_lang.specs.declared.types.ValType.TheVariants.{I32}
use Rattle.wasm2js_translation.specs.Names.{numbered, operand_high}
use Rattle.wasm2js_translation.specs.Delays.{stands, is_wide}
use Rattle.wasm2js_translation.specs.Actions.{under}
use Rattle.wasm2js_operands.specs.Operands.{over, IsKept}

-- ---- operands

pub kept_same : (base : ℕ) (xs ys : List ValType) → ys ≡ xs → base ≤ length xs → IsKept base xs ys
kept_same base xs ys e h = record { below = ap (take base) e; there = rw e h }

pub kept_further : (base : ℕ) (xs ys zs : List ValType) → IsKept base xs ys → IsKept base ys zs → IsKept base xs zs
kept_further base xs ys zs h k = record { below = k.below ∙ h.below; there = k.there }

-- all operands are those below the block's and the block's own
pub all_under : (base : ℕ) (xs : List ValType) → base ≤ length xs → length xs ≡ under 0 base (over base xs)
all_under base xs h =
    let e = length-drop base xs in
    let f = length-reverse (drop base xs) in
    omega arith

pub left_under : (base : ℕ) (xs ys : List ValType) → base ≤ length ys → over base ys ≡ drop 1 (over base xs) → length ys ≡ under 1 base (over base xs)
left_under base xs ys h e = all_under base ys h ∙ ap (λ (ts : List ValType). base + length ts) e

pub all_above : (base : ℕ) (xs : List ValType) → take (length xs - base) (drop base xs) ≡ drop base xs
all_above base xs = ap (λ (n : ℕ). take n (drop base xs)) (sym (length-drop base xs)) ∙ take-length (drop base xs)

pub none_over : (xs : List ValType) → over (length xs) xs ≡ []
none_over xs = ap reverse (drop_of_length-le xs {i = length xs} (omega arith))

pub same_again : (xs ys : List ValType) → IsKept (length xs) xs ys → take (length xs) ys ≡ xs
same_again xs ys h = h.below ∙ take_all xs
  where
    take_all : (zs : List ValType) → take (length zs) zs ≡ zs
    take_all [] = refl
    take_all (z ∷ zs) = ap (λ (r : List ValType). z ∷ r) (take_all zs)

-- ---- aims

pub reverse_map_more : {A B : Type 0} (f : A → B) (xs : List A) (x : A) → reverse (map f (xs ++ x ∷ [])) ≡ f x ∷ reverse (map f xs)
reverse_map_more f xs x = ap reverse (map_more f xs x) ∙ reverse-append (map f xs) (f x ∷ [])
  where
    map_more : {A B : Type 0} (f : A → B) (xs : List A) (x : A) → map f (xs ++ x ∷ []) ≡ map f xs ++ f x ∷ []
    map_more f [] x = refl
    map_more f (y ∷ ys) x = ap (λ r. f y ∷ r) (map_more f ys x)

-- ---- operands that stand

from_top : (b d : ℕ) (xs : List ValType) → b ≤ d → d < length xs → slice_get (over b xs) ((b + length (over b xs)) - suc d) ≡ slice_get xs d
from_top b d xs h k =
    let e = length-drop b xs in
    let f = length-reverse (drop b xs) in
    let i = (b + length (over b xs)) - suc d in
    let within : i < length (drop b xs) = omega arith in
    let in_all : i < length (over b xs) = omega arith in
    let back : length (drop b xs) - 1 - i ≡ d - b = omega arith in
    let up : b + (d - b) ≡ d = omega arith in
    slice_get-get_or (over b xs) i I32 in_all
    ∙ ap Some (get_or-reverse (drop b xs) i I32 within ∙ ap (λ (j : ℕ). get_or (drop b xs) j I32) back ∙ get_or-drop b xs (d - b) I32 ∙ ap (λ (j : ℕ). get_or xs j I32) up)
    ∙ sym (slice_get-get_or xs d I32 k)

high_stands : (p q : Bool) (o u : Option ValType) → (p ≡ false → q ≡ true → o ≡ u) → (p ≡ false → q ≡ false → u ≡ None) → (p || (q && is_wide o)) ≡ (p || is_wide u)
high_stands true q o u f g = refl
high_stands false true o u f g = ap is_wide (f refl refl)
high_stands false false o u f g = ap is_wide (sym (g refl refl))

-- by the number of an operand
pub stands_by_number : (b d : ℕ) (xs : List ValType) → b ≤ length xs → stands b (over b xs) (numbered operand_high d) ≡ (nat_lt d b || is_wide (slice_get xs d))
stands_by_number b d xs h =
    let e = length-drop b xs in
    let f = length-reverse (drop b xs) in
    let all : b + length (over b xs) ≡ length xs = omega arith in
    high_stands (nat_lt d b) (nat_lt d (b + length (over b xs))) (slice_get (over b xs) ((b + length (over b xs)) - suc d)) (slice_get xs d)
    (λ low there. let above : b ≤ d = grind (arith, nat_tests, low) in let below : d < length xs = grind (arith, nat_tests, there, all) in from_top b d xs above below)
    (λ low there. let past : length xs ≤ d = grind (arith, nat_tests, there, all) in slice_get_past xs d past)
