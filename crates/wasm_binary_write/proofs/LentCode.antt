-- Code of lent bytes, instruction by instruction.
use Rattle.std.proofs.Common.{◌≡◌, ℕ, ◌+◌, ◌-◌, ◌<◌, ◌≤◌, List, [], ◌++◌, length, refl, sym, ap, ◌∙◌, arith, append_assoc, append-nil}
use Rattle.std.specs.Prelude.{Ok, Err}
use Rattle.wasm_lang.specs.declared.fault.Fault.{Fault}
use Rattle.wasm_lang.specs.Instructions.{Instruction}
use Rattle.wasm_lang.specs.Reading.{Input}
use Rattle.wasm_lang.specs.ReadingCode.{instruction_field, spelled, spelled_within}
use Rattle.wasm_tree.proofs.Spelled.{spelled_step, spelled_stop, spelled_start}
use Rattle.wasm_binary_write.specs.Spelling.{instruction, items}

-- what is written, and what is to come
abbrev pub with_rest : List ℕ → (bytes : List ℕ) (turn : ℕ) → Input → List ℕ
with_rest out bytes turn rest = out ++ items instruction (spelled_within (length bytes - turn) rest)

pub lent_start : (out bytes : List ℕ) (rest : Input) → rest ≡ record { at = 0; bytes = bytes } → with_rest out bytes 0 rest ≡ out ++ items instruction (spelled bytes)
lent_start out bytes rest is = ap (λ code. out ++ items instruction code) (sym (spelled_start bytes [] rest refl is))

pub lent_step : (out now whole bytes : List ℕ) (turn : ℕ) (rest next : Input) (i : Instruction) → turn < length bytes → instruction_field rest ≡ Ok (i, next) → now ≡ out ++ instruction i
    → with_rest out bytes turn rest ≡ whole → with_rest now bytes (turn + 1) next ≡ whole
lent_step out now whole bytes turn rest next i lt field is all =
    let more = spelled_within (length bytes - (turn + 1)) next in
    ap (λ l. l ++ items instruction more) is
    ∙ append_assoc out (instruction i) (items instruction more)
    ∙ ap (λ code. out ++ items instruction code) (sym (spelled_step (length bytes) turn [] rest next i lt field))
    ∙ all

pub lent_stop : (out whole bytes : List ℕ) (turn : ℕ) (rest : Input) (f : Fault) → turn < length bytes → instruction_field rest ≡ Err f → with_rest out bytes turn rest ≡ whole → out ≡ whole
lent_stop out whole bytes turn rest f lt field all =
    sym (append-nil out) ∙ ap (λ code. out ++ items instruction code) (sym (spelled_stop (length bytes) turn [] rest f lt field)) ∙ all

pub lent_end : (out whole bytes : List ℕ) (turn : ℕ) (rest : Input) → length bytes ≤ turn → with_rest out bytes turn rest ≡ whole → out ≡ whole
lent_end out whole bytes turn rest past all =
    let none : length bytes - turn ≡ 0 = omega arith in
    sym (append-nil out) ∙ ap (λ n. out ++ items instruction (spelled_within n rest)) (sym none) ∙ all
