-- The tokens that bind ids in spaces of the module.
use Rattle.std.proofs.Common.{◌≡◌, ℕ, Bool, true, false, ◌&&◌, not, cond, List, [], ◌∷◌, ◌++◌, filter, ◌==◌, refl, sym, ap, ◌∙◌}
use Rattle.std.specs.List.{flat_map}
use Rattle.std.proofs.lemmas.Bool.{eqb-true}
use Rattle.wat_lang.specs.declared.parts.Space.{Space}
use Rattle.wat_lang.specs.declared.parts.Space.TheVariants as spaces
use Rattle.wat_lang.specs.Grammar.{Mark, binds, Marked}
use Rattle.wat_lang.specs.Names.{same_space, binds_in, all_with}
use Rattle.wat_lang.specs.Rows.{Refusal, taken_again, taken_in}
use Rattle.wat_read_tokens.specs.Marks.{only}
use Rattle.wat_read_tokens.specs.Wanted.{space_number}
use Rattle.wat_read_tokens.proofs.Tests.{space_numbers}
use Rattle.wat_read_refusals.specs.Single.{binds_in_module, module_spaces}

pub kept_front : {X : Type 0} (p : X → Bool) (x : X) (xs : List X) → filter p (x ∷ xs) ≡ only (p x) x ++ filter p xs
kept_front p x xs = by (p x)
  where
    by : (b : Bool) → cond b (x ∷ filter p xs) (filter p xs) ≡ only b x ++ filter p xs
    by true = refl
    by false = refl

kept_again : {X : Type 0} (p q : X → Bool) (xs : List X) → ((x : X) → p x ≡ true → q x ≡ true) → filter p (filter q xs) ≡ filter p xs
kept_again p q [] h = refl
kept_again p q (x ∷ xs) h = by (kept_again p q xs h) (p x) (q x) refl refl
  where
    at : (u : Bool) → filter p (cond u (x ∷ filter q xs) (filter q xs)) ≡ cond u (cond (p x) (x ∷ filter p (filter q xs)) (filter p (filter q xs))) (filter p (filter q xs))
    at true = refl
    at false = refl

    by : filter p (filter q xs) ≡ filter p xs → (t u : Bool) → p x ≡ t → q x ≡ u → filter p (cond (q x) (x ∷ filter q xs) (filter q xs)) ≡ cond (p x) (x ∷ filter p xs) (filter p xs)
    by below t true et eu =
        ap (λ v. filter p (cond v (x ∷ filter q xs) (filter q xs))) eu ∙ ap (λ (ys : List _). cond (p x) (x ∷ ys) ys) below
    by below false false et eu =
        ap (λ v. filter p (cond v (x ∷ filter q xs) (filter q xs))) eu ∙ below ∙ sym (ap (λ v. cond v (x ∷ filter p xs) (filter p xs)) et)
    by below true false et eu = absurd (let f : false ≡ true = sym eu ∙ h x et in cc)

-- neither the space of locals nor that of labels
abbrev pub is_of_module : Space → Bool
is_of_module s = not (same_space spaces.Local s) && not (same_space spaces.Label s)

same_as : (r s t : Space) → same_space s t ≡ true → same_space r s ≡ same_space r t
same_as r s t e =
    let same : space_number s ≡ space_number t = eqb-true (space_number s) (space_number t) (space_numbers s t ∙ e) in
    sym (space_numbers r s) ∙ ap (λ (n : ℕ). space_number r == n) same ∙ space_numbers r t

bound_there : (s : Space) (k : Mark) → is_of_module s ≡ true → binds_in s k ≡ true → binds_in_module k ≡ true
bound_there s (binds t) h e =
    sym (ap (λ b. not b && not (same_space spaces.Label s)) (same_as spaces.Local s t e) ∙ ap (λ b. not (same_space spaces.Local t) && not b) (same_as spaces.Label s t e)) ∙ h
bound_there s k h e = absurd cc

pub taken_there : (s : Space) (ms : List Marked) → is_of_module s ≡ true → taken_in s (all_with binds_in_module ms) ≡ taken_in s ms
taken_there s ms h = ap (taken_again []) (kept_again (λ (m : Marked). binds_in s m.mark) (λ (m : Marked). binds_in_module m.mark) ms (λ m e. bound_there s m.mark h e))

abbrev are_of_module : List Space → Bool
are_of_module [] = true
are_of_module (s ∷ ss) = is_of_module s && are_of_module ss

first_is : (a b : Bool) → (a && b) ≡ true → a ≡ true
first_is true b e = refl
first_is false b e = absurd cc

second_is : (a b : Bool) → (a && b) ≡ true → b ≡ true
second_is true b e = e
second_is false b e = absurd cc

taken_in_all : (ss : List Space) (ms : List Marked) → are_of_module ss ≡ true → flat_map (λ s. taken_in s (all_with binds_in_module ms)) ss ≡ flat_map (λ s. taken_in s ms) ss
taken_in_all [] ms h = refl
taken_in_all (s ∷ ss) ms h =
    ap (λ (rs : List Refusal). rs ++ flat_map (λ s. taken_in s (all_with binds_in_module ms)) ss) (taken_there s ms (first_is (is_of_module s) (are_of_module ss) h))
    ∙ ap (λ (rs : List Refusal). taken_in s ms ++ rs) (taken_in_all ss ms (second_is (is_of_module s) (are_of_module ss) h))

pub same_taken : (ms : List Marked) → flat_map (λ s. taken_in s (all_with binds_in_module ms)) module_spaces ≡ flat_map (λ s. taken_in s ms) module_spaces
same_taken ms = taken_in_all module_spaces ms refl
