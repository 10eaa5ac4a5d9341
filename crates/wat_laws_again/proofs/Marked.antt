-- The canonical text of a module is made of its signs.
use Rattle.std.proofs.Common.{◌≡◌, ℕ, Bool, true, false, List, [], ◌∷◌, map, Option, Some, None, refl, sym, ap, ◌∙◌, subst}
use Rattle.std.specs.List.{AllByRecursion}
use Rattle.wasm_lang.specs.Modules.{WasmModule}
use Rattle.wasm_lang.specs.Shape.{IsShaped}
use Rattle.wat_lang.specs.Tokens.{Class, Token}
use Rattle.wat_lang.specs.Grammar.{IsGrammatical}
use Rattle.wat_lang.specs.Printing.{module_pieces, canonical}
use Rattle.wat_lang.specs.Texts.{stands_outside, outside_at, IsMarked}
use Rattle.wat_laws_print.specs.Words.{IsOfWords}
use Rattle.wat_laws_print.proofs.Joined.{reads}
use Rattle.wat_laws_print.proofs.Fits.{module_fit}
use Rattle.wat_laws_again.specs.Signs.{Sign, placed, signs_of}
use Rattle.wat_laws_again.specs.Fitting.{HasConstants}
use Rattle.wat_laws_again.proofs.Pieces.{signs_are_pieces}
use Rattle.wat_laws_again.proofs.Deriving.{tokens_of}
use Rattle.wat_laws_again.proofs.FieldsFit.{module_fits}
use Rattle.wat_laws_again.proofs.Inside.{module_inside}

abbrev places : List Token → List ℕ
places ts = map (λ (t : Token). t.at) ts

tokens_placed : (ts : List Token) (ss : List Sign) → map (λ (t : Token). t.class) ts ≡ map (λ (s : Sign). s.1) ss → tokens_of (placed (places ts) ss) ≡ ts
tokens_placed [] [] e = refl
tokens_placed [] (s ∷ ss) e = absurd cc
tokens_placed (t ∷ ts) [] e = absurd cc
tokens_placed (t ∷ ts) (s ∷ ss) e =
    let first : s.1 ≡ t.class = cc in
    let rest : map (λ (t : Token). t.class) ts ≡ map (λ (s : Sign). s.1) ss = cc in
    let same : (let x : Token = record { class = s.1; at = t.at } in x) ≡ t = ap (λ (c : Class). let x : Token = record { class = c; at = t.at } in x) first in
    ap (λ (x : Token). x ∷ tokens_of (placed (places ts) ss)) same ∙ ap (λ (xs : List Token). t ∷ xs) (tokens_placed ts ss rest)

inside : (ts : List Token) (ss : List Sign) → map (λ (t : Token). t.class) ts ≡ map (λ (s : Sign). s.1) ss → AllByRecursion (λ (s : Sign). stands_outside s.1 ≡ false) ss → outside_at ts ≡ None
inside [] ss e all = refl
inside (t ∷ ts) [] e all = absurd cc
inside (t ∷ ts) (s ∷ ss) e all =
    let first : t.class ≡ s.1 = cc in
    let rest : map (λ (t : Token). t.class) ts ≡ map (λ (s : Sign). s.1) ss = cc in
    by (inside ts ss rest all.1) (stands_outside t.class) (ap stands_outside first ∙ all.0)
  where
    by : outside_at ts ≡ None → (b : Bool) → b ≡ false → (let x : Option ℕ = elim b [ true ↦ Some t.at | false ↦ outside_at ts ] in x) ≡ None
    by below true f = absurd cc
    by below false f = below

pub canonical_is_marked : (m : WasmModule) → IsShaped m → IsOfWords m → HasConstants m → (ns : List ℕ) × IsMarked (canonical m) (placed ns (signs_of m))
canonical_is_marked m shaped words constants =
    let read = reads 0 false (module_pieces m) (module_fit m words) in
    let ts = read.0 in
    let same : map (λ (t : Token). t.class) ts ≡ map (λ (s : Sign). s.1) (signs_of m) = read.2 ∙ sym (signs_are_pieces m) in
    let marks = placed (places ts) (signs_of m) in (
      places ts,
      record {
        tokens = ts;
        is_reading = read.1;
        is_inside = inside ts (signs_of m) same (module_inside m words);
        is_grammatical = subst (λ (us : List Token). IsGrammatical marks us) (tokens_placed ts (signs_of m) same) ((module_fits m shaped words constants).derived (places ts));
      },
    )
