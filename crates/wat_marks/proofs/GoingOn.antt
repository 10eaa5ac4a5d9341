-- Tokens that are cut off one by one are those of the text.
use Rattle.std.proofs.Common.{◌≡◌, ℕ, List, [], ◌∷◌, ◌++◌, Ok, Err, refl, sym, ap, subst}
use Rattle.wat_lang.specs.Tokens as spec
use Rattle.wat_lang.specs.Tokens.{Reading, with_first, Reads, IsReading}
use Rattle.wat_tokens.specs.declared.token.Token.{Token}
use Rattle.wat_tokens.specs.declared.scanner.Scanner.{Scanner}
use Rattle.wat_tokens.specs.declared.scanner.Next.TheVariants as nexts
use Rattle.wat_tokens.specs.Left.{IsNext}
use Rattle.wat_tokens.specs.Views.{token_of}
use Rattle.wat_marks.specs.Readings.{with_front, GoesOn}

front_more : (ts : List spec.Token) (t : spec.Token) (r : Reading) → with_front (ts ++ t ∷ []) r ≡ with_front ts (with_first t r)
front_more [] t r = refl
front_more (u ∷ ts) t r = ap (with_first u) (front_more ts t r)

pub front_ok : (ts us : List spec.Token) → with_front ts (Ok us) ≡ Ok (ts ++ us)
front_ok [] us = refl
front_ok (t ∷ ts) us = ap (with_first t) (front_ok ts us)

pub front_fault : (ts : List spec.Token) (at : ℕ) → with_front ts (Err at) ≡ Err at
front_fault [] at = refl
front_fault (t ∷ ts) at = ap (with_first t) (front_fault ts at)

pub begins_whole : (source : List ℕ) (s : Scanner) → s.at ≡ 0 → s.rest.now ≡ source → GoesOn source [] s
begins_whole source s at is = λ r left. subst (λ (bs : List ℕ). Reads 0 bs r) is (subst (λ (n : ℕ). Reads n s.rest.now r) at left)

pub goes_more : (source : List ℕ) (ts : List spec.Token) (t : Token) (s n : Scanner) → GoesOn source ts s → IsNext (nexts.Token t) s n → GoesOn source (ts ++ token_of t ∷ []) n
goes_more source ts t s n g next = λ r left. subst (IsReading source) (sym (front_more ts (token_of t) r)) (g (with_first (token_of t) r) (next.1 r left))
