-- Heads and code among marks, one after another.
use Rattle.std.proofs.Common.{◌≡◌, Bool, true, false, cond, ◌&&◌, not, List, [], ◌∷◌, ◌++◌, refl, sym, ap, ◌∙◌}
use Rattle.std.proofs.lemmas.Bool.{and_parts}
use Rattle.wat_lang.specs.Grammar.{Mark, nothing, Marked, marked}
use Rattle.wat_laws_kept.specs.Heads.{is_head, code_after, in_code, heads_lead}
use Rattle.wat_laws_kept.specs.Kept.{kept, says_something}
use Rattle.wat_marks.proofs.Rows.{both}

pub code_more : (b : Bool) (ms : List Marked) (m : Marked) → in_code b (ms ++ m ∷ []) ≡ code_after (in_code b ms) m.mark
code_more b [] m = refl
code_more b (n ∷ ms) m = code_more (code_after b n.mark) ms m

no_head : (b h : Bool) → (b ≡ true → h ≡ false) → not (b && h) ≡ true
no_head false h is = refl
no_head true h is = ap not (is refl)

pub leads_more : (b : Bool) (ms : List Marked) (m : Marked) → heads_lead b ms ≡ true → (in_code b ms ≡ true → is_head m.mark ≡ false) → heads_lead b (ms ++ m ∷ []) ≡ true
leads_more b [] m h is = both (not (b && is_head m.mark)) true (no_head b (is_head m.mark) is) refl
leads_more b (n ∷ ms) m h is =
    let here = not (b && is_head n.mark) in
    let parts = and_parts here (heads_lead (code_after b n.mark) ms) h in
    both here (heads_lead (code_after b n.mark) (ms ++ m ∷ [])) parts.0 (leads_more (code_after b n.mark) ms m parts.1 is)

nothing_leads : (b x : Bool) → (not (b && false) && x) ≡ x
nothing_leads true x = refl
nothing_leads false x = refl

-- Marks that say nothing are no heads, and begin no code.
pub leads_kept : (b : Bool) (ms : List Marked) → heads_lead b (kept ms) ≡ heads_lead b ms
leads_kept b [] = refl
leads_kept b (m ∷ ms) = by (λ x. leads_kept x ms) m.mark
  where
    by : ((x : Bool) → heads_lead x (kept ms) ≡ heads_lead x ms) → (k : Mark)
        → heads_lead b (cond (says_something k) (marked k m.token ∷ kept ms) (kept ms)) ≡ heads_lead b (marked k m.token ∷ ms)
    by below nothing = below b ∙ sym (nothing_leads b (heads_lead b ms))
    by below k = ap (λ x. not (b && is_head k) && x) (below (code_after b k))
