-- A text that is read up to a place.
use Rattle.std.proofs.Common.{◌≡◌, ℕ, List, [], ◌∷◌, ◌++◌, length, Ok, Err, append_assoc, sym, subst, inl, inr}
use Rattle.asm_lang_tokens.specs.Text.{PlacedToken, IsReading}
use Rattle.js_tokens.specs.declared.token.Token.{Token}
use Rattle.js_tokens.specs.declared.fault.TokenFault.{TokenFault}
use Rattle.js_tokens.specs.declared.scanner.Scanner.{Scanner}
use Rattle.js_tokens.specs.declared.scanner.Next.TheVariants as nexts
use Rattle.js_tokens.specs.Left.{IsLeft, IsFirstFault, IsNext}
use Rattle.js_tokens.specs.Views.{placed_token}
use Rattle.js_tokens.proofs.GoingOn.{GoesOn, begins_whole, one_more, all_found, fault_in}
use Rattle.asm_grammar.specs.declared.fault.ParseFault.{ParseFault}
use Rattle.asm_grammar.specs.declared.parsing.Parser.{Parser}
use Rattle.asm_grammar.specs.Parsed.{HasRead, IsVerdict}
use Rattle.asm_text.specs.declared.fault.TextFault.{TextFault}
use Rattle.asm_text.specs.Places.{of_reading, IsStopped}
use Rattle.asm_text.specs.Said.{IsAnswered}
use Rattle.asm_text.proofs.Answered.{refusal_answered, fault_answered}

-- the scanner has cut these tokens off, and the parser has read them
pub record IsUpTo (source : List ℕ) (s : Scanner) (p : Parser) : Type 0 where
  pub so_far : List PlacedToken
  pub goes_on : GoesOn (IsReading source) so_far s
  pub has_read : HasRead p so_far

pub at_first : (source : List ℕ) (s : Scanner) (p : Parser) → s.at ≡ 0 → s.rest.now ≡ source → HasRead p [] → IsUpTo source s p
at_first source s p at is read = record { so_far = []; goes_on = begins_whole source s at is; has_read = read }

pub one_on : (source : List ℕ) (s n : Scanner) (p q : Parser) (t : Token) → IsUpTo source s p → IsNext (nexts.Token t) s n
    → ((ts : List PlacedToken) → HasRead p ts → HasRead q (ts ++ placed_token t ∷ [])) → IsUpTo source n q
one_on source s n p q t up next reads = record {
  so_far = up.so_far ++ placed_token t ∷ [];
  goes_on = one_more (IsReading source) up.so_far t s n up.goes_on next;
  has_read = reads up.so_far up.has_read;
}

-- ---- the ends

pub at_last : (source : List ℕ) (s : Scanner) (p : Parser) (up : IsUpTo source s p) → IsLeft s (Ok []) → IsReading source (Ok up.so_far)
at_last source s p up left = all_found (IsReading source) up.so_far s up.goes_on left

pub at_fault : (source : List ℕ) (s : Scanner) (p : Parser) (e : TokenFault) → IsUpTo source s p → IsFirstFault s e → IsAnswered source (Err (of_reading e))
at_fault source s p e up is = fault_answered source e (fault_in source up.so_far s e up.goes_on is)

pub at_refusal : (source : List ℕ) (s n : Scanner) (p : Parser) (t : Token) (e : ParseFault) (f : TextFault) → IsUpTo source s p → IsNext (nexts.Token t) s n
    → ((ts us : List PlacedToken) (end : ℕ) → HasRead p ts → IsVerdict end (ts ++ placed_token t ∷ us) (Err e)) → IsStopped n e f → IsAnswered source (Err f)
at_refusal source s n p t e f up next says stop =
    let on : GoesOn (IsReading source) (up.so_far ++ placed_token t ∷ []) n = one_more (IsReading source) up.so_far t s n up.goes_on next in
    elim stop [
      | inl tokens ↦
          (let reads : IsReading source (Ok (up.so_far ++ placed_token t ∷ tokens.0)) = subst (λ (ts : List PlacedToken). IsReading source (Ok ts)) (append_assoc up.so_far (placed_token t ∷ []) tokens.0) (on (Ok tokens.0) tokens.1) in
          subst (λ (x : TextFault). IsAnswered source (Err x)) (sym tokens.2) (refusal_answered source (up.so_far ++ placed_token t ∷ tokens.0) e reads (says up.so_far tokens.0 (length source) up.has_read)))
      | inr fault ↦
          subst (λ (x : TextFault). IsAnswered source (Err x)) (sym fault.2) (fault_answered source fault.0 (fault_in source (up.so_far ++ placed_token t ∷ []) n fault.0 on fault.1))
    ]
