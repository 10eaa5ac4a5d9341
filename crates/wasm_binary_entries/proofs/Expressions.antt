-- Instructions one after another, with the blocks that stand open.
use Rattle.std.proofs.Common.{◌≡◌, ℕ, Bool, true, false, suc, ◌+◌, ◌-◌, ◌<◌, ◌≤◌, List, [], ◌∷◌, ◌++◌, length, refl, ap, ◌∙◌, arith}
use Rattle.std.specs.Prelude.{Result, Ok, Err, Option}
use Rattle.wasm_lang.specs.declared.fault.Fault.{Fault}
use Rattle.wasm_lang.specs.declared.fault.Row.TheVariants.{SectionSize}
use Rattle.wasm_lang.specs.Instructions.{Instruction}
use Rattle.wasm_lang.specs.Reading.{Input, Field, ◌>>=◌, fault, items_field}
use Rattle.wasm_lang.specs.ReadingCode.{Opening, may_stand, instruction_field, opened, code_on, code_from, code_field}
use Rattle.wasm_tree.specs.declared.error.ReadError.{ReadError}
use Rattle.wasm_tree.specs.declared.error.ReadError.TheVariants.{Refused, Memory}
use Rattle.wasm_binary_entries.specs.declared.code.Opening.{Opening as Kept}
use Rattle.wasm_binary_entries.specs.Openings.{openings_of, left_open, next_field, IsNext}
use Rattle.wasm_binary_entries.proofs.ItemsInRow.{with_front, items_start, items_on, items_stop}

-- an error of the code is the fault, unless memory ran out
abbrev pub ErrIs : {X : Type 0} → ReadError → Field X → Type 0
ErrIs (Refused fault) field = field ≡ Err fault
ErrIs Memory field = Unit {0}

-- what follows an instruction
abbrev after_next : ℕ → (Instruction × Input) × Option (List Opening) → Field (List Instruction)
after_next n y = code_on y.0 (λ os. code_from n os y.0.1) y.1

by_next : (n : ℕ) (os : List Opening) (stand : Result (Unit {0}) Fault) (field : Field Instruction)
    → (stand >>= λ _. field >>= λ x. code_on x (λ os. code_from n os x.1) (opened os x.0)) ≡ ((stand >>= λ _. field >>= λ x. Ok (x, opened os x.0)) >>= λ y. after_next n y)
by_next n os (Err e) field = refl
by_next n os (Ok u) (Err e) = refl
by_next n os (Ok u) (Ok x) = refl

code_turn : (count k : ℕ) (os : List Opening) (i : Input) → k < count → code_from (count - k) os i ≡ (next_field os i >>= λ y. after_next (count - (k + 1)) y)
code_turn count k os i lt =
    let n : count - k ≡ suc (count - (k + 1)) = omega arith in
    ap (λ n. code_from n os i) n ∙ by_next (count - (k + 1)) os (may_stand os i) (instruction_field i)

pub code_stop : (count k : ℕ) (front : List Instruction) (os : List Opening) (i : Input) (f : Fault) → k < count → next_field os i ≡ Err f
    → with_front front (code_from (count - k) os i) ≡ Err f
code_stop count k front os i f lt e =
    ap (λ r. with_front front r) (code_turn count k os i lt ∙ ap (λ r. r >>= λ y. after_next (count - (k + 1)) y) e)

pub code_closed : (count k : ℕ) (front : List Instruction) (os : List Opening) (i j : Input) (v : Instruction) (closed : Bool) (after : List Kept) → k < count → closed ≡ true
    → next_field os i ≡ Ok ((v, j), left_open closed after)
    → with_front front (code_from (count - k) os i) ≡ Ok (front ++ v ∷ [], j)
code_closed count k front os i j v closed after lt is e =
    ap (λ r. with_front front r) (code_turn count k os i lt ∙ ap (λ r. r >>= λ y. after_next (count - (k + 1)) y) (e ∙ ap (λ c. Ok ((v, j), left_open c after)) is))

-- what an error of the code says
pub code_err : (count k : ℕ) (front : List Instruction) (before after : List Kept) (i : Input) (whole : Field (List Instruction)) (error : ReadError) → k < count
    → IsNext before i (Err error) after → whole ≡ with_front front (code_from (count - k) (openings_of before) i)
    → ErrIs error whole
code_err count k front before after i whole (Refused f) lt e is = is ∙ code_stop count k front (openings_of before) i f lt e
code_err count k front before after i whole Memory lt e is = tt

pub code_step : (count k : ℕ) (front : List Instruction) (os : List Opening) (i j : Input) (v : Instruction) (closed : Bool) (after : List Kept) → k < count → closed ≡ false
    → next_field os i ≡ Ok ((v, j), left_open closed after)
    → with_front front (code_from (count - k) os i) ≡ with_front (front ++ v ∷ []) (code_from (count - (k + 1)) (openings_of after) j)
code_step count k front os i j v closed after lt is e =
    ap (λ r. with_front front r) (code_turn count k os i lt ∙ ap (λ r. r >>= λ y. after_next (count - (k + 1)) y) (e ∙ ap (λ c. Ok ((v, j), left_open c after)) is))
    ∙ items_on front v (code_from (count - (k + 1)) (openings_of after) j)

pub code_end : (count k : ℕ) (front : List Instruction) (os : List Opening) (i : Input) → count ≤ k → with_front front (code_from (count - k) os i) ≡ fault SectionSize i.at
code_end count k front os i le =
    let n : count - k ≡ 0 = omega arith in
    ap (λ n. with_front front (code_from n os i)) n

pub code_start : (i : Input) → code_field i ≡ with_front [] (code_from (length i.bytes - 0) [] i)
code_start i =
    let n : length i.bytes ≡ length i.bytes - 0 = omega arith in
    items_start (code_field i) ∙ ap (λ n. with_front [] (code_from n [] i)) n

-- what an error of an item says of them all
pub items_err : {X : Type 0} (item : Input → Field X) (count k : ℕ) (front : List X) (i : Input) (whole : Field (List X)) (error : ReadError) → k < count
    → ErrIs error (item i) → whole ≡ with_front front (items_field item (count - k) i)
    → ErrIs error whole
items_err item count k front i whole (Refused f) lt e is = is ∙ items_stop item count k front i f lt e
items_err item count k front i whole Memory lt e is = tt
