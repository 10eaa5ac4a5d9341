-- A heading ends at a `{`, and so no `-` stands right after it.
use Rattle.std.proofs.Common.{ℕ, ◌≡◌, ◌+◌, List, [], ◌∷◌, ◌++◌, Option, length, drop, refl, sym, ap, ◌∙◌, arith, append_assoc, length-append, length-drop}
use Rattle.std.proofs.lemmas.List.{drop_at}
use Rattle.sem_words.specs.declared.js_value.JsOp.TheVariants.{Sub}
use Rattle.asm_lang.specs.Lexemes.{Class, open_brace, operator, Lexeme, Want, Is, here, At}
use Rattle.asm_lang.specs.Trees.{Heading}
use Rattle.asm_lang.specs.Grammar.{IsName, unnamed, a_name, IsModuleParams, params_0, params_1, params_2, params_3, IsHeading, a_heading}
use Rattle.asm_lang.specs.Faults.{IsPair, IsMissingUse}

-- xs goes on to ys
record Leads (xs ys : List Lexeme) : Type 0 where
  front : List Lexeme
  parts : xs ≡ front ++ ys

one : {w : Want} {t : Lexeme} {xs ys : List Lexeme} → Is w t xs ys → Leads xs ys
one (here {t = t} m) = record { front = t ∷ []; parts = refl }

both : {xs ys zs : List Lexeme} → Leads xs ys → Leads ys zs → Leads xs zs
both {zs = zs} a b = record { front = a.front ++ b.front; parts = a.parts ∙ ap (λ (r : List Lexeme). a.front ++ r) b.parts ∙ sym (append_assoc a.front b.front zs) }

name_leads : {n : Option (List ℕ)} {xs ys : List Lexeme} → IsName n xs ys → Leads xs ys
name_leads unnamed = record { front = []; parts = refl }
name_leads (a_name i) = one i

params_lead : {ps : List (List ℕ)} {xs ys : List Lexeme} → IsModuleParams ps xs ys → Leads xs ys
params_lead (params_0 a) = one a
params_lead (params_1 a b) = both (one a) (one b)
params_lead (params_2 a b c d) = both (one a) (both (one b) (both (one c) (one d)))
params_lead (params_3 a b c d e f) = both (one a) (both (one b) (both (one c) (both (one d) (both (one e) (one f)))))

-- the `{` before the tokens after a heading
record Opened (xs ys : List Lexeme) : Type 0 where
  front : List Lexeme
  brace : Lexeme
  parts : xs ≡ front ++ brace ∷ ys
  is_brace : brace.class ≡ open_brace

opened_at : {xs vs ys : List Lexeme} {u : Lexeme} → Leads xs vs → At open_brace u vs ys → Opened xs ys
opened_at l (here {t = t} m) = record { front = l.front; brace = t; parts = l.parts; is_brace = m }

opened : {h : Heading} {xs ys : List Lexeme} → IsHeading h xs ys → Opened xs ys
opened (a_heading f n p q b) = opened_at (both (one f) (both (name_leads n) (both (one p) (params_lead q)))) b

first_of : (a b : Lexeme) (xs ys : List Lexeme) → a ∷ xs ≡ b ∷ ys → a ≡ b
first_of a b xs ys e = cc

no_minus : (c : Class) → c ≡ operator Sub → c ≡ open_brace → ⊥
no_minus c h k = let no : operator Sub ≡ open_brace = sym h ∙ k in absurd cc

pub not_after_minus : (xs : List Lexeme) (j k : ℕ) → j + 1 ≡ k → IsPair xs j → IsMissingUse xs k → ⊥
not_after_minus xs j k is p m =
    let o = opened m.stands in
    let len : length o.front ≡ j = omega (arith, is, ap length o.parts, length-append o.front (o.brace ∷ m.token ∷ m.rest), ap length m.there, length-drop k xs) in
    let there : drop j xs ≡ o.brace ∷ m.token ∷ m.rest = ap (drop j) o.parts ∙ drop_at o.front (o.brace ∷ m.token ∷ m.rest) j len in
    let same : p.minus ≡ o.brace = first_of p.minus o.brace (p.zero ∷ p.rest) (m.token ∷ m.rest) (sym p.there ∙ there) in
    no_minus p.minus.class p.is_minus (ap (λ (t : Lexeme). t.class) same ∙ o.is_brace)
