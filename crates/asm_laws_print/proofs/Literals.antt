-- The pieces of the literals of declarations and clauses are spellings of them.
use Rattle.std.proofs.Common.{◌≡◌, ℕ, suc, ◌+◌, Bool, true, false, cond as choice, eqb, List, [], ◌∷◌, codes, refl, ap, ◌∙◌, arith}
use Rattle.std.specs.Prelude.{ℤ, pos, negsuc, neg_ℤ, ◌==◌}
use Rattle.std.proofs.lemmas.Bool.{le-ltb, ne_eqb, eqb-true}
use Rattle.std.specs.Fmt.{decimal as decimal_text}
use Rattle.sem_words.specs.declared.js_value.JsOp.TheVariants.{Sub}
use Rattle.asm_lang.specs.Lexemes.{a_number, a_decimal, operator, Lexeme, class_of, value_of, a_nonzero}
use Rattle.asm_lang.specs.Trees as trees
use Rattle.asm_lang.specs.Trees.{Init}
use Rattle.asm_lang.specs.Grammar.{IsLiteral, positive, negative, positive_decimal, negative_decimal}
use Rattle.asm_lang.specs.Modules.{nearest, init_of}
use Rattle.asm_lang.specs.Printing.{word, literal_text, decimal_pieces, init_text}
use Rattle.asm_laws_print.specs.Spelled.{Spells, HasClass}
use Rattle.asm_laws_print.specs.Fitting.{FitsNumber, FitsLiteral, unsigned}
use Rattle.asm_laws_print.proofs.Numbers.{decimal_kind}
use Rattle.asm_laws_print.proofs.Tokens.{first, last}

-- a number of 64 bits is the nearest to itself
pub nearest_same : (v : ℤ) → FitsNumber v → nearest v ≡ v
nearest_same (pos n) fits = rw (le-ltb 9223372036854775807 n (omega (arith, fits))) refl
nearest_same (negsuc n) fits = rw (le-ltb 9223372036854775807 n (omega (arith, fits))) refl

pub record IsNumberRead (v : ℤ) (xs ys : List Lexeme) : Type 0 where
  pub value : ℤ
  pub is_literal : (d : Bool) → IsLiteral d (trees.number value) xs ys
  pub is_this : nearest value ≡ v

pub number_read : (v : ℤ) → FitsNumber v → {b c : Bool} {xs ys : List Lexeme} → Spells b (literal_text v) c xs ys → IsNumberRead v xs ys
number_read (pos n) fits s =
    let t = last s in
    let kind = decimal_kind n (omega (arith, fits)) in
    record {
      value = pos t.token.value;
      is_literal = λ d. positive (t.is_at a_number (ap (λ k. class_of k (decimal_text n)) kind));
      is_this = ap (λ (v : ℕ). nearest (pos v)) (t.says.value ∙ ap value_of kind) ∙ nearest_same (pos n) fits;
    }
number_read (negsuc n) fits s =
    let minus = first s in
    let t = last minus.back in
    let kind = decimal_kind (n + 1) (omega (arith, fits)) in
    let value : t.token.value ≡ suc n = t.says.value ∙ (ap value_of kind ∙ omega arith) in
    let some : (t.token.value == 0) ≡ false = ne_eqb t.token.value 0 (λ e. omega (arith, e, value)) in
    record {
      value = neg_ℤ (pos t.token.value);
      is_literal = λ d. negative (minus.is_at (operator Sub) refl) (t.is_a a_nonzero (t.says.class ∙ ap (λ k. class_of k (decimal_text (n + 1))) kind, some));
      is_this = ap (λ (v : ℕ). nearest (neg_ℤ (pos v))) value ∙ nearest_same (negsuc n) fits;
    }

pub record IsLiteralRead (i : Init) (xs ys : List Lexeme) : Type 0 where
  pub init : Init
  pub is_literal : IsLiteral true init xs ys
  pub is_this : init_of init ≡ i

decimal_read : (bs : List ℕ) → HasClass a_decimal (unsigned bs) → {b c : Bool} {xs ys : List Lexeme} → Spells b (decimal_pieces bs) c xs ys → IsLiteralRead (trees.decimal bs) xs ys
decimal_read [] fits s = absurd cc
decimal_read (d ∷ bs) fits {b = b} {c = c} {xs = xs} {ys = ys} s =
    let P : Bool → Type 0 = λ t. eqb d 45 ≡ t → HasClass a_decimal (choice t bs (d ∷ bs)) → Spells b (choice t (word (codes "-") ∷ word bs ∷ []) (word (d ∷ bs) ∷ [])) c xs ys → IsLiteralRead (trees.decimal (d ∷ bs)) xs ys in
    let both : P (eqb d 45) = elim (eqb d 45) as P [
      | true ↦ λ is f s. with_sign d bs (eqb-true d 45 is) f s
      | false ↦ λ is f s. without_sign (d ∷ bs) f s
    ] in
    both refl fits s
  where
    with_sign : (d : ℕ) (bs : List ℕ) → d ≡ 45 → HasClass a_decimal bs → {b c : Bool} {xs ys : List Lexeme} → Spells b (word (codes "-") ∷ word bs ∷ []) c xs ys → IsLiteralRead (trees.decimal (d ∷ bs)) xs ys
    with_sign d bs is f s =
        let minus = first s in
        let t = last minus.back in
        record { init = trees.decimal (45 ∷ t.token.text); is_literal = negative_decimal (minus.is_at (operator Sub) refl) (t.is_at a_decimal f); is_this = rw (t.says.text, is) refl }

    without_sign : (bs : List ℕ) → HasClass a_decimal bs → {b c : Bool} {xs ys : List Lexeme} → Spells b (word bs ∷ []) c xs ys → IsLiteralRead (trees.decimal bs) xs ys
    without_sign bs f s = let t = last s in record { init = trees.decimal t.token.text; is_literal = positive_decimal (t.is_at a_decimal f); is_this = ap trees.decimal t.says.text }

pub literal_read : (i : Init) → FitsLiteral i → {b c : Bool} {xs ys : List Lexeme} → Spells b (init_text i) c xs ys → IsLiteralRead i xs ys
literal_read (trees.number v) fits s = let r = number_read v fits s in record { init = trees.number r.value; is_literal = r.is_literal true; is_this = ap trees.number r.is_this }
literal_read (trees.decimal bs) fits s = decimal_read bs fits s
literal_read (trees.foreign_int f p) fits s = absurd fits
literal_read (trees.foreign_double f p) fits s = absurd fits
literal_read (trees.member f p) fits s = absurd fits
literal_read (trees.math f p) fits s = absurd fits
literal_read (trees.view f p h) fits s = absurd fits
