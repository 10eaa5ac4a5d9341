-- Bytes that have to stand one after another.
use Rattle.std.proofs.Common.{◌≡◌, ℕ, Bool, true, false, suc, ◌+◌, ◌<◌, List, get_or, length, drop, ap, ◌∙◌, arith}
use Rattle.std.proofs.Math.Seq.{drop-cons}
use Rattle.std.specs.Prelude.{Ok, Err, ◌==◌}
use Rattle.wasm_lang.specs.declared.fault.Fault.{Fault}
use Rattle.wasm_lang.specs.declared.fault.Row.{Row}
use Rattle.wasm_lang.specs.declared.fault.Row.TheVariants.{Truncated}
use Rattle.wasm_lang.specs.Reading.{Input, ◌>>=◌, fault, expects, byte_field}
use Rattle.wasm_lang.specs.ReadingModule.{header_field}

-- the byte at a place, and those after it
header_turn : (row : Row) (es : List ℕ) (k : ℕ) (i : Input) → k < length es
    → header_field row (drop k es) i ≡ (byte_field Truncated i >>= λ b. expects (b.0 == get_or es k 0) row i.at >>= λ _. header_field row (drop (suc k) es) b.1)
header_turn row es k i lt = ap (λ (l : List ℕ). header_field row l i) (drop-cons es k 0 lt)

pub header_stop : (row : Row) (es : List ℕ) (k : ℕ) (i : Input) (f : Fault) → k < length es → byte_field Truncated i ≡ Err f → header_field row (drop k es) i ≡ Err f
header_stop row es k i f lt e =
    header_turn row es k i lt ∙ ap (λ r. r >>= λ b. expects (b.0 == get_or es k 0) row i.at >>= λ _. header_field row (drop (suc k) es) b.1) e

header_byte : (row : Row) (es : List ℕ) (k : ℕ) (i j : Input) (b : ℕ) (same : Bool) → k < length es → byte_field Truncated i ≡ Ok (b, j) → (b == get_or es k 0) ≡ same
    → header_field row (drop k es) i ≡ (expects same row i.at >>= λ _. header_field row (drop (suc k) es) j)
header_byte row es k i j b same lt e is =
    header_turn row es k i lt
    ∙ ap (λ r. r >>= λ b. expects (b.0 == get_or es k 0) row i.at >>= λ _. header_field row (drop (suc k) es) b.1) e
    ∙ ap (λ t. expects t row i.at >>= λ _. header_field row (drop (suc k) es) j) is

pub header_differs : (row : Row) (es : List ℕ) (k : ℕ) (i j : Input) (b : ℕ) → k < length es → byte_field Truncated i ≡ Ok (b, j) → (b == get_or es k 0) ≡ false
    → header_field row (drop k es) i ≡ fault row i.at
header_differs row es k i j b lt e is = header_byte row es k i j b false lt e is

pub header_step : (row : Row) (es : List ℕ) (k : ℕ) (i j : Input) (b : ℕ) → k < length es → byte_field Truncated i ≡ Ok (b, j) → (b == get_or es k 0) ≡ true
    → header_field row (drop k es) i ≡ header_field row (drop (k + 1) es) j
header_step row es k i j b lt e is = header_byte row es k i j b true lt e is ∙ (let n : suc k ≡ k + 1 = omega arith in ap (λ n. header_field row (drop n es) j) n)
