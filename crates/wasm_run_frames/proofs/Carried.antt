-- Operands that come out of blocks.
use Rattle.std.proofs.Common.{◌≡◌, ℕ, ◌<◌, Bool, true, false, List, ◌++◌, Some, None, length, sym, ap, ◌∙◌, arith, length-append}
use Rattle.std.specs.Prelude.{MatchBool}
use Rattle.sem_words.specs.declared.word.Word.{Word}
use Rattle.wasm_lang_exec.specs.Reductions.{top_of}
use Rattle.wasm_laws_machine.specs.Meaning.{IsBelow}
use Rattle.wasm_laws_machine.specs.Carrying.{Carries, ComesDown}
use Rattle.wasm_laws_machine.proofs.Tops.{top_stays}

some_is : {A : Type 0} {x y : A} → Some x ≡ Some y → x ≡ y
some_is h = cc h

kept_is : (arity : ℕ) (kept : Bool) (v2 v3 top : List Word) → top_of arity v2 ≡ Some top
    → MatchBool kept (top_of arity v2 ≡ Some v3) ((top_of arity v2 ≡ None) × (v3 ≡ v2)) → v3 ≡ top
kept_is arity true v2 v3 top h k = some_is (sym k ∙ h)
kept_is arity false v2 v3 top h k = let e : None ≡ Some top = sym k.0 ∙ h in cc e

pub carried : (arity floor outer : ℕ) (old below v1 b1 v2 b2 v3 b3 v4 b4 : List Word) (kept : Bool)
    → top_of arity old ≡ Some v1 → b1 ≡ below
    → ComesDown floor v1 b1 v2 b2
    → MatchBool kept (top_of arity v2 ≡ Some v3) ((top_of arity v2 ≡ None) × (v3 ≡ v2)) → b3 ≡ b2
    → ComesDown outer v3 b3 v4 b4
    → Carries arity floor outer old below v4 b4
carried arity floor outer old below v1 b1 v2 b2 v3 b3 v4 b4 kept top same first second under last =
    λ over rest outside end h k.
    let came = first over rest (record { parts = same ∙ h.parts; count = h.count }) in
    let still : top_of arity v2 ≡ Some v1 = ap (top_of arity) came.0 ∙ top_stays arity old v1 over top in
    let is : v3 ≡ v1 = kept_is arity kept v2 v3 v1 still second in
    let gone = last outside end (record { parts = under ∙ came.1 ∙ k.parts; count = k.count }) in
    record { top = v1; is_top = top; values = gone.0 ∙ ap (λ v. v ++ outside) is; others = gone.1 }

pub too_high : (floor : ℕ) (below outside rest : List Word) → length below < floor → IsBelow floor below outside rest → ⊥
too_high floor below outside rest lt h = omega (arith, ap length h.parts, length-append outside rest, h.count)
