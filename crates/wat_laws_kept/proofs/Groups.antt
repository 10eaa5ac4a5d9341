-- Code, one instruction at a time: its labels, its rows and its instructions are those of its beginning and of what stands behind that.
use Rattle.std.proofs.Common.{◌≡◌, Bool, true, false, not, cond, List, [], ◌∷◌, ◌++◌, refl, sym, ap, ◌∙◌, append_assoc, append-nil}
use Rattle.std.specs.Prelude.{◌&&◌, nat_le, length}
use Rattle.std.proofs.lemmas.List.Sums.{take_while-cons}
use Rattle.std.proofs.lemmas.Grind.{flat_map-append}
use Rattle.wasm_lang.specs.Instructions.{Instruction}
use Rattle.wasm_lang.specs.Limits.{most_levels}
use Rattle.wat_lang.specs.declared.parts.Space.{Space}
use Rattle.wat_lang.specs.declared.fault.Row.TheVariants as rows
use Rattle.wat_lang.specs.Grammar.{Mark, an_instruction, Marked}
use Rattle.wat_lang.specs.Names.{Names, labels_after}
use Rattle.wat_lang.specs.Modules.{is_instruction, immediates_in, instruction_at, instructions_in}
use Rattle.wat_lang.specs.Rows as r
use Rattle.wat_lang.specs.Rows.{Refusal, number_rows, use_rows}
use Rattle.wat_laws_kept.specs.Groups.{labels_behind, begins_instruction, no_instruction}

pub labels_joined : (labels : Names) (a b : List Marked) → labels_behind labels (a ++ b) ≡ labels_behind (labels_behind labels a) b
labels_joined labels [] b = refl
labels_joined labels (m ∷ ms) b = labels_joined (labels_after labels m) ms b

-- ---- rows

pub uses_joined : (names : Names → Space → Names) (labels : Names) (a b : List Marked) → use_rows names labels (a ++ b) ≡ use_rows names labels a ++ use_rows names (labels_behind labels a) b
uses_joined names labels [] b = refl
uses_joined names labels (m ∷ ms) b =
    let unknown : List Refusal = r.where_holds (r.is_unknown_use (names labels) m) rows.IdUnknown m.token.at in
    let deep : List Refusal = r.where_holds (r.opens_block m.mark && nat_le most_levels (length labels)) rows.Limit m.token.at in
    let inside : List Refusal = use_rows names (labels_after labels m) ms in
    let behind : List Refusal = use_rows names (labels_behind labels (m ∷ ms)) b in
    ap (λ xs. unknown ++ (deep ++ xs)) (uses_joined names (labels_after labels m) ms b)
    ∙ ap (λ xs. unknown ++ xs) (sym (append_assoc deep inside behind))
    ∙ sym (append_assoc unknown (deep ++ inside) behind)

pub numbers_joined : (a b : List Marked) → number_rows (a ++ b) ≡ number_rows a ++ number_rows b
numbers_joined a b = flat_map-append (λ m. r.where_holds (r.is_bad_number m) rows.Number m.token.at) a b

none_in_both : (xs ys : List Refusal) → xs ++ ys ≡ [] → (xs ≡ []) × (ys ≡ [])
none_in_both [] ys e = (refl, e)
none_in_both (x ∷ xs) ys e = absurd cc

-- where all numbers are right those of both are
pub numbers_right : (a b : List Marked) → number_rows (a ++ b) ≡ [] → (number_rows a ≡ []) × (number_rows b ≡ [])
numbers_right a b e = none_in_both (number_rows a) (number_rows b) (sym (numbers_joined a b) ∙ e)

-- ---- instructions

abbrev is_inside : Marked → Bool
is_inside m = not (is_instruction m.mark)

-- An instruction ends the immediates before it.
none_before : (b : List Marked) → begins_instruction b ≡ true → immediates_in b ≡ []
none_before [] e = refl
none_before (m ∷ ms) e = take_while-cons is_inside m ms ∙ ap (λ (t : Bool). cond (not t) (m ∷ immediates_in ms) []) e

immediates_end : (a b : List Marked) → begins_instruction b ≡ true → immediates_in (a ++ b) ≡ immediates_in a
immediates_end [] b e = none_before b e
immediates_end (m ∷ ms) b e =
    take_while-cons is_inside m (ms ++ b)
    ∙ ap (λ (xs : List Marked). cond (is_inside m) (m ∷ xs) []) (immediates_end ms b e)
    ∙ sym (take_while-cons is_inside m ms)

-- An instruction has all its immediates before the next.
at_joined : (names : Space → Names) (a b : List Marked) (k : Mark) → begins_instruction b ≡ true → instruction_at names (a ++ b) k ≡ instruction_at names a k
at_joined names a b (an_instruction form) e = rw (immediates_end a b e) refl
at_joined names a b k e = refl

pub instructions_joined : (names : Names → Space → Names) (labels : Names) (a b : List Marked) → begins_instruction b ≡ true
    → instructions_in names labels (a ++ b) ≡ instructions_in names labels a ++ instructions_in names (labels_behind labels a) b
instructions_joined names labels [] b e = refl
instructions_joined names labels (m ∷ ms) b e =
    let inside : List Instruction = instructions_in names (labels_after labels m) ms in
    let behind : List Instruction = instructions_in names (labels_behind labels (m ∷ ms)) b in
    ap (λ (xs : List Instruction). xs ++ instructions_in names (labels_after labels m) (ms ++ b)) (at_joined (names labels) ms b m.mark e)
    ∙ ap (λ xs. instruction_at (names labels) ms m.mark ++ xs) (instructions_joined names (labels_after labels m) ms b e)
    ∙ sym (append_assoc (instruction_at (names labels) ms m.mark) inside behind)

-- ---- tokens without an instruction

record Without (m : Marked) (ms : List Marked) : Type 0 where
  here : is_instruction m.mark ≡ false
  behind : no_instruction ms ≡ true

without : (m : Marked) (ms : List Marked) → no_instruction (m ∷ ms) ≡ true → Without m ms
without m ms e = by (is_instruction m.mark) refl
  where
    by : (b : Bool) → is_instruction m.mark ≡ b → Without m ms
    by true q = let stops : no_instruction (m ∷ ms) ≡ false = rw (no_instruction, q) refl in absurd cc
    by false q = let goes_on : no_instruction (m ∷ ms) ≡ no_instruction ms = rw (no_instruction, q) refl in record { here = q; behind = sym goes_on ∙ e }

no_instruction_at : (names : Space → Names) (ms : List Marked) (k : Mark) → is_instruction k ≡ false → instruction_at names ms k ≡ []
no_instruction_at names ms (an_instruction form) e = absurd cc
no_instruction_at names ms k e = refl

pub no_instructions_in : (names : Names → Space → Names) (labels : Names) (ms : List Marked) → no_instruction ms ≡ true → instructions_in names labels ms ≡ []
no_instructions_in names labels [] e = refl
no_instructions_in names labels (m ∷ ms) e =
    let w = without m ms e in
    ap (λ (xs : List Instruction). xs ++ instructions_in names (labels_after labels m) ms) (no_instruction_at (names labels) ms m.mark w.here)
    ∙ no_instructions_in names (labels_after labels m) ms w.behind

pub all_are_immediates : (ms : List Marked) → no_instruction ms ≡ true → immediates_in ms ≡ ms
all_are_immediates [] e = refl
all_are_immediates (m ∷ ms) e =
    let w = without m ms e in
    take_while-cons is_inside m ms
    ∙ ap (λ (b : Bool). cond (not b) (m ∷ immediates_in ms) []) w.here
    ∙ ap (λ xs. m ∷ xs) (all_are_immediates ms w.behind)

-- one instruction, and its immediates behind it
pub instruction_of_group : (names : Names → Space → Names) (labels : Names) (m : Marked) (ms : List Marked) → no_instruction ms ≡ true
    → instructions_in names labels (m ∷ ms) ≡ instruction_at (names labels) ms m.mark
instruction_of_group names labels m ms e =
    ap (λ xs. instruction_at (names labels) ms m.mark ++ xs) (no_instructions_in names (labels_after labels m) ms e)
    ∙ append-nil (instruction_at (names labels) ms m.mark)
