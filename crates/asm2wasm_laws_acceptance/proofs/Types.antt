-- Each function of a module has the type of its signature.
use Rattle.std.proofs.Common.{◌≡◌, ℕ, suc, Bool, true, false, List, [], ◌∷◌, ◌++◌, map, Some, refl, sym, ap, ◌∙◌}
use Rattle.std.specs.Prelude.{slice_get, option_map, if◌then◌else◌, ◌==◌}
use Rattle.std.specs.List.{AllByRecursion}
use Rattle.std.proofs.lemmas.Bool.{and_parts, and_from, eqb-true}
use Rattle.std.proofs.lemmas.Bool.Decides.{nat_tests}
use Rattle.std.proofs.lemmas.Option.{slice_get-map}
use Rattle.std.proofs.Common.{arith}
use Rattle.asm_lang.specs.Modules.{Function, Module}
use Rattle.asm_lang_valid.specs.Scope.{Signature, signature_of}
use Rattle.asm_lang_valid.specs.Typing.{same}
use Rattle.asm_lang_valid.specs.LimitRows.{foreign_calls}
use Rattle.asm2wasm_translation.specs.Numbers.{asked_signature, is_signature, is_known, each_once, signatures, place_of_type, type_number}
use Rattle.asm2wasm_translation.specs.Modules.{type_for}
use Rattle.asm2wasm_laws_acceptance.proofs.Lists.{all_at, all_first, all_second, all_mapped}

-- ---- signatures

same_is : (a b : Bool) → same a b ≡ true → a ≡ b
same_is true true h = refl
same_is false false h = refl
same_is true false h = absurd (cc h)
same_is false true h = absurd (cc h)

same_itself : (b : Bool) → same b b ≡ true
same_itself true = refl
same_itself false = refl

equals_itself : (n : ℕ) → (n == n) ≡ true
equals_itself n = grind (arith, nat_tests)

pub signatures_equal : (s t : Signature) → is_signature s t ≡ true → s ≡ t
signatures_equal s t h =
    let parts = and_parts (s.params == t.params) (same s.result t.result) h in
    let signature : ℕ → Bool → Signature = λ p r. record { params = p; result = r } in
    ap (λ p. signature p s.result) (eqb-true s.params t.params parts.0) ∙ ap (signature t.params) (same_is s.result t.result parts.1)

pub is_itself : (s : Signature) → is_signature s s ≡ true
is_itself s = and_from (s.params == s.params) (same s.result s.result) (equals_itself s.params) (same_itself s.result)

-- ---- what is known has a place

place_in : (s : Signature) (ts : List Signature) → is_known s ts ≡ true → slice_get ts (place_of_type s ts) ≡ Some s
place_in s [] h = absurd (cc h)
place_in s (t ∷ ts) h = by (is_signature s t) refl (place_in s ts) h
  where
    by : (b : Bool) → is_signature s t ≡ b → (is_known s ts ≡ true → slice_get ts (place_of_type s ts) ≡ Some s) → (if b then true else is_known s ts) ≡ true
        → slice_get (t ∷ ts) (if b then 0 else suc (place_of_type s ts)) ≡ Some s
    by true e rest h = ap Some (sym (signatures_equal s t e))
    by false e rest h = rest h

known_more : (s t : Signature) (seen : List Signature) → is_known s seen ≡ true → is_known s (seen ++ t ∷ []) ≡ true
known_more s t [] h = absurd (cc h)
known_more s t (x ∷ xs) h = by (is_signature s x) (known_more s t xs) h
  where
    by : (b : Bool) → (is_known s xs ≡ true → is_known s (xs ++ t ∷ []) ≡ true) → (if b then true else is_known s xs) ≡ true → (if b then true else is_known s (xs ++ t ∷ [])) ≡ true
    by true rest h = refl
    by false rest h = rest h

known_last : (s : Signature) (seen : List Signature) → is_known s (seen ++ s ∷ []) ≡ true
known_last s [] = ap (λ b. if b then true else false) (is_itself s)
known_last s (x ∷ xs) = by (is_signature s x) (known_last s xs)
  where
    by : (b : Bool) → is_known s (xs ++ s ∷ []) ≡ true → (if b then true else is_known s (xs ++ s ∷ [])) ≡ true
    by true rest = refl
    by false rest = rest

stays_known : (s : Signature) (seen ss : List Signature) → is_known s seen ≡ true → is_known s (each_once seen ss) ≡ true
stays_known s seen [] h = h
stays_known s seen (t ∷ ts) h = by (is_known t seen) (stays_known s seen ts h) (stays_known s (seen ++ t ∷ []) ts (known_more s t seen h))
  where
    by : (b : Bool) → is_known s (each_once seen ts) ≡ true → is_known s (each_once (seen ++ t ∷ []) ts) ≡ true → is_known s (if b then each_once seen ts else each_once (seen ++ t ∷ []) ts) ≡ true
    by true old new = old
    by false old new = new

all_known : (seen ss : List Signature) → AllByRecursion (λ s. is_known s (each_once seen ss) ≡ true) ss
all_known seen [] = tt
all_known seen (s ∷ ss) = by (is_known s seen) refl (all_known seen ss) (all_known (seen ++ s ∷ []) ss)
  where
    by : (b : Bool) → is_known s seen ≡ b → AllByRecursion (λ t. is_known t (each_once seen ss) ≡ true) ss → AllByRecursion (λ t. is_known t (each_once (seen ++ s ∷ []) ss) ≡ true) ss
        → AllByRecursion (λ t. is_known t (if b then each_once seen ss else each_once (seen ++ s ∷ []) ss) ≡ true) (s ∷ ss)
    by true e old new = (stays_known s seen ss e, old)
    by false e old new = (stays_known s (seen ++ s ∷ []) ss (known_last s seen), new)

-- ---- those of a module

module _ (m : Module) where
  abbrev pub Known : Signature → Type 0
  Known s = is_known s (signatures m) ≡ true

  abbrev asked : List Signature
  asked = map asked_signature (foreign_calls m)

  abbrev own : List Signature
  own = map signature_of m.functions

  pub calls_known : AllByRecursion (λ f. Known (asked_signature f)) (foreign_calls m)
  calls_known = all_mapped Known asked_signature (foreign_calls m) (all_first Known asked own (all_known [] (asked ++ own)))

  pub functions_known : AllByRecursion (λ f. Known (signature_of f)) m.functions
  functions_known = all_mapped Known signature_of m.functions (all_second Known asked own (all_known [] (asked ++ own)))

  pub function_known : (i : ℕ) (f : Function) → slice_get m.functions i ≡ Some f → Known (signature_of f)
  function_known i f h = all_at (λ f. Known (signature_of f)) m.functions i f functions_known h

  pub type_at : (s : Signature) → Known s → slice_get (map type_for (signatures m)) (type_number m s) ≡ Some (type_for s)
  type_at s h = slice_get-map type_for (signatures m) (type_number m s) ∙ ap (option_map type_for) (place_in s (signatures m) h)
