-- The values of the cases of a switch, and the table of their clauses.
use Rattle.std.specs.Prelude.{ℕ, zero, suc, ◌+◌, ◌<◌, List, [], ◌∷◌, length, Option, Some, None, ℤ, pos, ◌+ℤ◌, ◌-ℤ◌, unsigned_abs, slice_set, if◌then◌else◌}
use Rattle.asm_lang.specs.Modules.{Clauses}
use Rattle.asm_lang_exec.specs.Meaning.{before_case, has_case}
use Rattle.asm2wasm_translation.specs.Bodies as code
use Rattle.switch_cases.specs.declared.range.CaseRange.{CaseRange}

abbrev pub value_before : Option ℤ → List ℤ → List ℤ
value_before None vs = vs
value_before (Some v) vs = v ∷ vs

abbrev pub high : List ℤ → ℤ
high [] = pos 0
high (v ∷ vs) = code.greatest v vs

abbrev pub range_of : List ℤ → CaseRange
range_of vs = record { count = length vs; low = code.low vs; high = high vs }

-- the clause of each of so many values from z on, where those of cs are counted from i and the others have the label d
abbrev pub targets_from : (d i n : ℕ) → ℤ → Clauses → List ℕ
targets_from d i zero z cs = []
targets_from d i (suc n) z cs = (if has_case z cs then i + before_case z cs else d) ∷ targets_from d i n (z +ℤ pos 1) cs

-- with the clause of one more value, which isn't below low
abbrev pub with_target : Option ℤ → (low : ℤ) → (clause : ℕ) → List ℕ → List ℕ
with_target None low i ls = ls
with_target (Some v) low i ls = slice_set ls (unsigned_abs (v -ℤ low)) i

-- does the value lie in the table
abbrev pub IsWithin : Option ℤ → (low : ℤ) → (size : ℕ) → Type 0
IsWithin None low n = Unit {0}
IsWithin (Some v) low n = unsigned_abs (v -ℤ low) < n
