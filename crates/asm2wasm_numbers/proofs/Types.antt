-- Signatures, one more at a time.
use Rattle.std.proofs.Common.{◌≡◌, ℕ, suc, ◌+◌, ◌<◌, ◌≤◌, Bool, true, false, cond, not, ◌&&◌, ◌||◌, List, [], ◌∷◌, ◌++◌, length, map, drop, get_or, Some, None, refl, sym, ap, ◌∙◌, append-nil, arith}
use Rattle.std.proofs.lemmas.List.{at_drop_more, map-append}
use mathlib.Core.Bool.{beq}
use Rattle.std.specs.Prelude.{if◌then◌else◌, ◌==◌, nat_lt, position}
use Rattle.std.specs.List.{list_any, position_or_len}
use Rattle.asm_lang_valid.specs.Scope as scopes
use Rattle.asm_lang_valid.specs.Typing.{same}
use Rattle.asm_tree.specs.declared.tree.Function.{Function}
use Rattle.asm_tree.specs.Views.{function_view}
use Rattle.asm_validate_limits.specs.declared.calls.ForeignCall.{ForeignCall as CodeCall}
use Rattle.asm_lang.specs.Modules.{Module}
use Rattle.asm_validate_limits.specs.Called.{foreign_view}
use Rattle.asm2wasm_translation.specs.Numbers.{is_signature, is_known, each_once, asked_signature, place_of_type}
use Rattle.name_slots.specs.Names.{or_else}
use Rattle.asm2wasm_numbers.specs.declared.signatures.Signature.{Signature}
use Rattle.asm2wasm_numbers.specs.contracts.signatures.SignaturePartialEq.TheImpl.{eq-value}
use Rattle.asm2wasm_numbers.specs.Signatures.{asked, signature_said}

same_is : (a b : Bool) → beq a b ≡ same a b
same_is true true = refl
same_is true false = refl
same_is false true = refl
same_is false false = refl

eq_is : (s t : Signature) → (eq-value).it s t ≡ is_signature (signature_said s) (signature_said t)
eq_is s t = ap (λ b. (s.params == t.params) && b) (same_is s.result t.result)

-- ---- one more

known_step : (b c d : Bool) → c ≡ d → (b || c) ≡ (if b then true else d)
known_step true c d e = refl
known_step false c d e = e

known_is : (s : Signature) (ks : List Signature) → list_any ((eq-value).it s) ks ≡ is_known (signature_said s) (map signature_said ks)
known_is s [] = refl
known_is s (k ∷ ks) =
    ap (λ b. b || list_any ((eq-value).it s) ks) (eq_is s k)
    ∙ known_step (is_signature (signature_said s) (signature_said k)) (list_any ((eq-value).it s) ks) (is_known (signature_said s) (map signature_said ks)) (known_is s ks)

put : (b : Bool) (s : Signature) (ks : List Signature) (rest : List scopes.Signature) → (if b then each_once (map signature_said ks) rest else each_once (map signature_said ks ++ signature_said s ∷ []) rest) ≡ each_once (map signature_said (if b then ks else ks ++ s ∷ [])) rest
put true s ks rest = refl
put false s ks rest = ap (λ l. each_once l rest) (sym (map-append signature_said ks (s ∷ [])))

pub added_is : (s : Signature) (ks new : List Signature) (rest : List scopes.Signature) → new ≡ (if list_any ((eq-value).it s) ks then ks else ks ++ s ∷ []) → each_once (map signature_said ks) (signature_said s ∷ rest) ≡ each_once (map signature_said new) rest
added_is s ks new rest h =
    ap (λ b. if b then each_once (map signature_said ks) rest else each_once (map signature_said ks ++ signature_said s ∷ []) rest) (sym (known_is s ks))
    ∙ put (list_any ((eq-value).it s) ks) s ks rest
    ∙ ap (λ l. each_once (map signature_said l) rest) (sym h)

pub call_more : (first old new rest : List scopes.Signature) (cs : List CodeCall) (i : ℕ) (c : CodeCall) (s : scopes.Signature) → i < length cs → c ≡ get_or cs i c → s ≡ asked c → ((r : List scopes.Signature) → each_once old (s ∷ r) ≡ each_once new r) →
    first ≡ each_once old (map asked (drop i cs) ++ rest) → first ≡ each_once new (map asked (drop (i + 1) cs) ++ rest)
call_more first old new rest cs i c s h is same step e =
    let later = map asked (drop (i + 1) cs) ++ rest in
    e ∙ at_drop_more (λ l. each_once old (map asked l ++ rest)) cs i c h
    ∙ ap (λ (w : CodeCall). each_once old (asked w ∷ later)) (sym is)
    ∙ ap (λ (x : scopes.Signature). each_once old (x ∷ later)) (sym same)
    ∙ step later

-- what calls ask for, by their names
pub asked_are : (m : Module) (cs : List CodeCall) → map asked cs ≡ map asked_signature (map (foreign_view m) cs)
asked_are m [] = refl
asked_are m (c ∷ cs) = ap (λ l. asked c ∷ l) (asked_are m cs)

pub function_more : (first old new rest : List scopes.Signature) (fs : List Function) (i : ℕ) (f : Function) (s : scopes.Signature) → i < length fs → f ≡ get_or fs i f → s ≡ scopes.signature_of (function_view f) → ((r : List scopes.Signature) → each_once old (s ∷ r) ≡ each_once new r) →
    first ≡ each_once old (map scopes.signature_of (map function_view (drop i fs)) ++ rest) → first ≡ each_once new (map scopes.signature_of (map function_view (drop (i + 1) fs)) ++ rest)
function_more first old new rest fs i f s h is same step e =
    let later = map scopes.signature_of (map function_view (drop (i + 1) fs)) ++ rest in
    e ∙ at_drop_more (λ l. each_once old (map scopes.signature_of (map function_view l) ++ rest)) fs i f h
    ∙ ap (λ (w : Function). each_once old (scopes.signature_of (function_view w) ∷ later)) (sym is)
    ∙ ap (λ (x : scopes.Signature). each_once old (x ∷ later)) (sym same)
    ∙ step later

pub all_added : (old middle new : List Signature) (cs fs : List scopes.Signature) → old ≡ [] → ((rest : List scopes.Signature) → each_once (map signature_said old) (cs ++ rest) ≡ each_once (map signature_said middle) rest) → ((rest : List scopes.Signature) → each_once (map signature_said middle) (fs ++ rest) ≡ each_once (map signature_said new) rest) → map signature_said new ≡ each_once [] (cs ++ fs)
all_added old middle new cs fs e f g = sym (sym (ap (λ ks. each_once (map signature_said ks) (cs ++ fs)) e) ∙ f fs ∙ ap (each_once (map signature_said middle)) (sym (append-nil fs)) ∙ g [])

-- ---- places

place_step : (b c : Bool) (p q : ℕ) → b ≡ c → p ≡ q → cond (not b) (1 + p) 0 ≡ (if c then 0 else suc q)
place_step true true p q e h = refl
place_step true false p q e h = cc
place_step false true p q e h = cc
place_step false false p q e h = omega arith

place_is : (s : Signature) (ks : List Signature) → position_or_len ((eq-value).it s) ks ≡ place_of_type (signature_said s) (map signature_said ks)
place_is s [] = refl
place_is s (k ∷ ks) = place_step ((eq-value).it s k) (is_signature (signature_said s) (signature_said k)) (position_or_len ((eq-value).it s) ks) (place_of_type (signature_said s) (map signature_said ks)) (eq_is s k) (place_is s ks)

most_step : (b : Bool) (p l : ℕ) → p ≤ l → cond b (1 + p) 0 ≤ suc l
most_step true p l h = omega arith
most_step false p l h = omega arith

most : (t : Signature → Bool) (ks : List Signature) → position_or_len t ks ≤ length ks
most t [] = omega arith
most t (k ∷ ks) = most_step (not (t k)) (position_or_len t ks) (length ks) (most t ks)

or_last : (p l : ℕ) (b : Bool) → nat_lt p l ≡ b → p ≤ l → or_else (cond b (Some p) None) l ≡ p
or_last p l true e h = refl
or_last p l false e h = grind arith

pub placed : (s : Signature) (ks : List Signature) → or_else (position ((eq-value).it s) ks) (length ks) ≡ place_of_type (signature_said s) (map signature_said ks)
placed s ks =
    let t = (eq-value).it s in
    or_last (position_or_len t ks) (length ks) (nat_lt (position_or_len t ks) (length ks)) refl (most t ks) ∙ place_is s ks

pub found_place : (s : Signature) (ks : List Signature) (i : ℕ) → Some i ≡ position ((eq-value).it s) ks → i ≡ place_of_type (signature_said s) (map signature_said ks)
found_place s ks i e = ap (λ o. or_else o (length ks)) e ∙ placed s ks

pub no_place : (s : Signature) (ks : List Signature) → None ≡ position ((eq-value).it s) ks → length ks ≡ place_of_type (signature_said s) (map signature_said ks)
no_place s ks e = ap (λ o. or_else o (length ks)) e ∙ placed s ks
