-- The places of names, one name more at a time.
use Rattle.std.proofs.Common.{◌≡◌, ℕ, zero, suc, ◌+◌, ◌<◌, ◌^◌, Bool, true, false, List, [], ◌∷◌, length, map, drop, get_or, Option, Some, None, refl, sym, ap, ◌∙◌, arith, zero-add, subst}
use Rattle.std.proofs.lemmas.List.{at_drop_more}
use Rattle.std.specs.Prelude.{if◌then◌else◌, option_map, IfSome}
use Rattle.std.specs.Borrow.{Bor}
use Rattle.std.specs.Str.{bytes_eq}
use Rattle.asm_lang.specs.Modules.{Function}
use Rattle.asm_lang_valid.specs.Refusal.{function_number}
use Rattle.asm2wasm_translation.specs.Numbers.{slot_of}
use Rattle.name_slots.specs.Names.{names_in, or_else, slot_or_length}

-- ---- the map

pub same_within : {A : Type 0} (xs : List A) (i : ℕ) (d e : A) → i < length xs → get_or xs i d ≡ get_or xs i e
same_within [] i d e h = absurd (omega (arith, h))
same_within (x ∷ xs) zero d e h = refl
same_within (x ∷ xs) (suc i) d e h = same_within xs i d e (omega (arith, h))

shifted : (c : Bool) (i : ℕ) (o : Option ℕ) → (if c then Some i else option_map (λ k. (i + 1) + k) o) ≡ option_map (λ k. i + k) (if c then Some 0 else option_map (λ k. suc k) o)
shifted true i o = ap (λ (k : ℕ). Some k) (omega arith)
shifted false i None = refl
shifted false i (Some k) = ap (λ (k : ℕ). Some k) (omega arith)

-- x has the slot of the i-th name, before y, which the later ones have
pub slot_put : (ns : List (Bor (List ℕ))) (i j : ℕ) (b : Bor (List ℕ)) (n : List ℕ) (x y : Option ℕ) → j ≡ i + 1 → i < length ns → b ≡ get_or ns i b → x ≡ (if bytes_eq b.now n then Some i else y) → y ≡ option_map (λ k. j + k) (slot_of (names_in (drop j ns)) n) → x ≡ option_map (λ k. i + k) (slot_of (names_in (drop i ns)) n)
slot_put ns i j b n x y p h is e k =
    e ∙ ap (λ y. if bytes_eq b.now n then Some i else y) (k ∙ ap (λ j. option_map (λ k. j + k) (slot_of (names_in (drop j ns)) n)) p)
    ∙ shifted (bytes_eq b.now n) i (slot_of (names_in (drop (i + 1) ns)) n)
    ∙ ap (λ (c : Bor (List ℕ)). option_map (λ k. i + k) (slot_of (names_in (c ∷ drop (i + 1) ns)) n)) is
    ∙ sym (at_drop_more (λ cs. option_map (λ k. i + k) (slot_of (names_in cs) n)) ns i b h)

unshifted : (o : Option ℕ) → option_map (λ k. 0 + k) o ≡ o
unshifted None = refl
unshifted (Some k) = ap (λ (k : ℕ). Some k) (zero-add k)

pub all_put : (ns : List (Bor (List ℕ))) (i : ℕ) (n : List ℕ) (x : Option ℕ) → i ≡ 0 → x ≡ option_map (λ k. i + k) (slot_of (names_in (drop i ns)) n) → x ≡ slot_of (names_in ns) n
all_put ns i n x h e = e ∙ ap (λ i. option_map (λ k. i + k) (slot_of (names_in (drop i ns)) n)) h ∙ unshifted (slot_of (names_in ns) n)

-- ---- bounds

more : (b : Bool) (o : Option ℕ) (l : ℕ) → IfSome o (λ i. i < l) → IfSome (if b then Some 0 else option_map (λ i. suc i) o) (λ i. i < suc l)
more true o l h = omega arith
more false None l h = tt
more false (Some i) l h = omega arith

pub within : (ns : List (List ℕ)) (n : List ℕ) → IfSome (slot_of ns n) (λ i. i < length ns)
within [] n = tt
within (x ∷ xs) n = more (bytes_eq x n) (slot_of xs n) (length xs) (within xs n)

names_count : (bs : List (Bor (List ℕ))) → length (names_in bs) ≡ length bs
names_count [] = refl
names_count (b ∷ bs) = ap suc (names_count bs)

some_raised : (o : Option ℕ) (l i : ℕ) → l < 2 ^ 63 → IfSome o (λ i. i < l) → o ≡ Some i → i < 2 ^ 63
some_raised o l i h s e =
    let below : i < l = subst (λ o. IfSome o (λ i. i < l)) e s in
    omega arith

pub small_place : (bs : List (Bor (List ℕ))) (n : List ℕ) (i : ℕ) → length bs < 2 ^ 63 → slot_of (names_in bs) n ≡ Some i → i < 2 ^ 63
small_place bs n i h e =
    let count = names_count bs in
    some_raised (slot_of (names_in bs) n) (length (names_in bs)) i (omega arith) (within (names_in bs) n) e

-- ---- a place, or past the last

pub found_place : (bs : List (Bor (List ℕ))) (n : List ℕ) (i : ℕ) → slot_of (names_in bs) n ≡ Some i → i ≡ slot_or_length (names_in bs) n
found_place bs n i e = sym (ap (λ o. or_else o (length (names_in bs))) e)

pub no_place : (bs : List (Bor (List ℕ))) (n : List ℕ) → slot_of (names_in bs) n ≡ None → length bs ≡ slot_or_length (names_in bs) n
no_place bs n e = sym (names_count bs) ∙ sym (ap (λ o. or_else o (length (names_in bs))) e)

-- ---- functions

one_more : (b : Bool) (o : Option ℕ) (l : ℕ) → or_else (if b then Some 0 else option_map (λ i. suc i) o) (suc l) ≡ (if b then 0 else suc (or_else o l))
one_more true o l = refl
one_more false None l = refl
one_more false (Some i) l = refl

pub number_is : (fs : List Function) (n : List ℕ) → slot_or_length (map (λ (f : Function). f.name) fs) n ≡ function_number fs n
number_is [] n = refl
number_is (f ∷ fs) n = one_more (bytes_eq f.name n) (slot_of (map (λ (f : Function). f.name) fs) n) (length (map (λ (f : Function). f.name) fs)) ∙ ap (λ i. if bytes_eq f.name n then 0 else suc i) (number_is fs n)
