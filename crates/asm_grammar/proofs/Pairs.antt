-- Lists of tokens with one token picked out, and where a number of value 0 stands right after a `-`.
use Rattle.std.proofs.Common.{◌≡◌, ℕ, suc, ◌+◌, ◌<◌, arith, Bool, true, false, List, [], ◌∷◌, ◌++◌, length, drop, Option, Some, None, refl, sym, ap, subst, ◌∙◌}
use Rattle.std.proofs.lemmas.List.{length-append}
use Rattle.sem_words.specs.declared.js_value.JsOp.TheVariants.{Sub}
use Rattle.asm_lang_tokens.specs.Text.{PlacedToken}
use Rattle.asm_lang.specs.Lexemes.{Lexeme, operator, a_zero, lexeme_of, lexemes_of}
use Rattle.asm_lang.specs.Faults.{IsPair}
use Rattle.asm_lang.specs.Machine.{same_class}
use Rattle.asm_lang.proofs.Tokens.{same_self, same_is, and_both, and_left, and_right, meets_true, meets_is}
use Rattle.js_tokens.specs.declared.token.Token.{Token}
use Rattle.js_tokens.specs.Views.{placed_token}
use Rattle.asm_grammar.specs.Parsed.{IsLast, place_in}
use Rattle.asm_grammar.specs.Gives.{is_negative_zero}

-- ---- a token picked out of a list

pub place_there : (end : ℕ) (ts us : List PlacedToken) (t : PlacedToken) → place_in end (ts ++ t ∷ us) (length ts) ≡ t.at
place_there end [] us t = refl
place_there end (x ∷ ts) us t = place_there end ts us t

pub place_behind : (end : ℕ) (ts : List PlacedToken) → place_in end ts (length ts) ≡ end
place_behind end [] = refl
place_behind end (x ∷ ts) = place_behind end ts

pub dropped : (ts us : List PlacedToken) → drop (length ts) (lexemes_of (ts ++ us)) ≡ lexemes_of us
dropped [] us = refl
dropped (x ∷ ts) us = dropped ts us

dropped_next : (ts us : List PlacedToken) (t : PlacedToken) → drop (suc (length ts)) (lexemes_of (ts ++ t ∷ us)) ≡ lexemes_of us
dropped_next [] us t = refl
dropped_next (x ∷ ts) us t = dropped_next ts us t

pub dropped_more : (ts us : List PlacedToken) (t : PlacedToken) → drop (length ts + 1) (lexemes_of (ts ++ t ∷ us)) ≡ lexemes_of us
dropped_more ts us t = let e : suc (length ts) ≡ length ts + 1 = omega arith in subst (λ (k : ℕ). drop k (lexemes_of (ts ++ t ∷ us)) ≡ lexemes_of us) e (dropped_next ts us t)

pub lexemes-length : (ts : List PlacedToken) → length (lexemes_of ts) ≡ length ts
lexemes-length [] = refl
lexemes-length (t ∷ ts) = ap suc (lexemes-length ts)

pub within : (ts us : List PlacedToken) (t : PlacedToken) → length ts < length (lexemes_of (ts ++ t ∷ us))
within [] us t = omega arith
within (x ∷ ts) us t = let e = within ts us t in omega (arith, e)

-- ---- pairs

abbrev begins_pair : List Lexeme → Bool
begins_pair (m ∷ z ∷ rest) = is_negative_zero m z
begins_pair _ = false

pub pair_at : (ts us : List PlacedToken) (m z : PlacedToken) → is_negative_zero (lexeme_of m) (lexeme_of z) ≡ true → IsPair (lexemes_of (ts ++ m ∷ z ∷ us)) (length ts)
pair_at ts us m z h = record {
  minus = lexeme_of m;
  zero = lexeme_of z;
  rest = lexemes_of us;
  there = dropped ts (m ∷ z ∷ us);
  is_minus = same_is (operator Sub) (lexeme_of m).class (and_left _ _ h);
  is_zero = meets_is a_zero (lexeme_of z) (and_right (same_class (operator Sub) (lexeme_of m).class) _ h);
}

is_begun : (xs : List Lexeme) (j : ℕ) → IsPair xs j → begins_pair (drop j xs) ≡ true
is_begun xs j p =
    let minus : same_class (operator Sub) p.minus.class ≡ true = subst (λ c. same_class (operator Sub) c ≡ true) (sym p.is_minus) (same_self (operator Sub)) in
    subst (λ (l : List Lexeme). begins_pair l ≡ true) (sym p.there) (and_both _ _ minus (meets_true a_zero p.zero p.is_zero))

no_pair_at : (ts us : List PlacedToken) (m z : PlacedToken) (j : ℕ) → is_negative_zero (lexeme_of m) (lexeme_of z) ≡ false → j ≡ length ts → ¬ IsPair (lexemes_of (ts ++ m ∷ z ∷ us)) j
no_pair_at ts us m z j h e p =
    let begun : begins_pair (drop (length ts) (lexemes_of (ts ++ m ∷ z ∷ us))) ≡ true = subst (λ (k : ℕ). begins_pair (drop k (lexemes_of (ts ++ m ∷ z ∷ us))) ≡ true) e (is_begun _ j p) in
    let same : is_negative_zero (lexeme_of m) (lexeme_of z) ≡ true = subst (λ (l : List Lexeme). begins_pair l ≡ true) (dropped ts (m ∷ z ∷ us)) begun in
    absurd cc

pub shifted : (ts vs us : List PlacedToken) (m t : PlacedToken) → ts ≡ vs ++ m ∷ [] → ts ++ t ∷ us ≡ vs ++ m ∷ t ∷ us
shifted ts vs us m t is = ap (λ (l : List PlacedToken). l ++ t ∷ us) is ∙ one_by_one vs
  where
    one_by_one : (vs : List PlacedToken) → (vs ++ m ∷ []) ++ t ∷ us ≡ vs ++ m ∷ t ∷ us
    one_by_one [] = refl
    one_by_one (x ∷ vs) = ap (λ (l : List PlacedToken). x ∷ l) (one_by_one vs)

-- the token after the last one makes no pair with it
pub no_pair : (last : Option Token) (ts us : List PlacedToken) (t : Token) → IsLast last ts → ((m : Token) → last ≡ Some m → is_negative_zero (lexeme_of (placed_token m)) (lexeme_of (placed_token t)) ≡ false)
    → (j : ℕ) → j + 1 ≡ length ts → ¬ IsPair (lexemes_of (ts ++ placed_token t ∷ us)) j
no_pair None ts us t none other j e p = absurd (omega (arith, ap length none))
no_pair (Some m) ts us t is other j e p =
    let len : length ts ≡ length is.0 + 1 = ap length is.1 ∙ length-append is.0 (placed_token m ∷ []) in
    no_pair_at is.0 us (placed_token m) (placed_token t) j (other m refl) (omega (arith, len)) (subst (λ (l : List PlacedToken). IsPair (lexemes_of l) j) (shifted ts is.0 us (placed_token m) (placed_token t) is.1) p)
