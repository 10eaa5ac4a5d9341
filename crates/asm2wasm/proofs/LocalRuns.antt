-- So many locals, in runs.
use Rattle.std.proofs.Common.{◌≡◌, ℕ, zero, suc, ◌+◌, ◌-◌, ◌≤◌, List, [], ◌∷◌, ◌++◌, replicate, ap, ◌∙◌, arith, append_assoc}
use Rattle.wasm_lang.specs.declared.types.ValType.{ValType}
use Rattle.wasm_lang.specs.declared.types.ValType.TheVariants.{I32}
use Rattle.wasm_tree.specs.declared.module.Run.{Run}
use Rattle.wasm_tree.specs.Views.{locals_in}
use Rattle.wasm_tree.proofs.Runs.{locals_end}

both_rows : (m n : ℕ) (t : ValType) → replicate m t ++ replicate n t ≡ replicate (m + n) t
both_rows zero n t = ap (λ n. replicate n t) (let e : n ≡ 0 + n = omega arith in e)
both_rows (suc m) n t = ap (λ l. t ∷ l) (both_rows m n t) ∙ ap (λ n. replicate n t) (let e : suc (m + n) ≡ suc m + n = omega arith in e)

-- the next run has a part of the locals that are left
pub ints_step : (front now : List Run) (part left count : ℕ) → part ≤ left → now ≡ front ++ record { count = part; kind = I32 } ∷ []
    → locals_in front ++ replicate left I32 ≡ replicate count I32 → locals_in now ++ replicate (left - part) I32 ≡ replicate count I32
ints_step front now part left count le is e =
    ap (λ l. locals_in l ++ replicate (left - part) I32) is
    ∙ ap (λ l. l ++ replicate (left - part) I32) (locals_end front (record { count = part; kind = I32 }))
    ∙ append_assoc (locals_in front) (replicate part I32) (replicate (left - part) I32)
    ∙ ap (λ l. locals_in front ++ l) (both_rows part (left - part) I32)
    ∙ ap (λ n. locals_in front ++ replicate n I32) (let n : part + (left - part) ≡ left = omega arith in n)
    ∙ e
