-- The instructions that bytes spell, one after another.
use Rattle.std.proofs.Common.{◌≡◌, ℕ, suc, ◌+◌, ◌-◌, ◌<◌, List, [], ◌∷◌, ◌++◌, length, sym, ap, ◌∙◌, arith, append_assoc}
use Rattle.std.specs.Prelude.{Ok, Err}
use Rattle.std.proofs.lemmas.List.{append-nil}
use Rattle.wasm_lang.specs.declared.fault.Fault.{Fault}
use Rattle.wasm_lang.specs.Instructions.{Instruction}
use Rattle.wasm_lang.specs.Reading.{Input}
use Rattle.wasm_lang.specs.ReadingCode.{instruction_field, spelled, spelled_within, spelled_on}

-- one more
pub spelled_step : (count k : ℕ) (front : List Instruction) (i next : Input) (x : Instruction) → k < count → instruction_field i ≡ Ok (x, next)
    → front ++ spelled_within (count - k) i ≡ (front ++ x ∷ []) ++ spelled_within (count - (k + 1)) next
spelled_step count k front i next x lt e =
    let n : count - k ≡ suc (count - (k + 1)) = omega arith in
    ap (λ n. front ++ spelled_within n i) n
    ∙ ap (λ r. front ++ spelled_on r (λ j. spelled_within (count - (k + 1)) j)) e
    ∙ sym (append_assoc front (x ∷ []) (spelled_within (count - (k + 1)) next))

-- bytes that are no instruction
pub spelled_stop : (count k : ℕ) (front : List Instruction) (i : Input) (f : Fault) → k < count → instruction_field i ≡ Err f → front ++ spelled_within (count - k) i ≡ front
spelled_stop count k front i f lt e =
    let n : count - k ≡ suc (count - (k + 1)) = omega arith in
    ap (λ n. front ++ spelled_within n i) n
    ∙ ap (λ r. front ++ spelled_on r (λ j. spelled_within (count - (k + 1)) j)) e
    ∙ append-nil front

pub spelled_start : (bytes : List ℕ) (front : List Instruction) (i : Input) → front ≡ [] → i ≡ record { at = 0; bytes = bytes } → spelled bytes ≡ front ++ spelled_within (length bytes - 0) i
unfolding spelled
spelled_start bytes front i e is =
    let n : length bytes ≡ length bytes - 0 = omega arith in
    ap (λ n. spelled_within n (record { at = 0; bytes = bytes })) n
    ∙ ap (λ i. spelled_within (length bytes - 0) i) (sym is)
    ∙ ap (λ (front : List Instruction). front ++ spelled_within (length bytes - 0) i) (sym e)
