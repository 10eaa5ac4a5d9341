-- The types of branches, and of the code that finds the clause of a value.
use Rattle.std.proofs.Common.{◌≡◌, ℕ, zero, suc, ◌+◌, ◌≤◌, Bool, true, false, List, [], ◌∷◌, Some, None, ℤ, pos, refl, ap, ◌∙◌, arith}
use Rattle.std.specs.Prelude.{if◌then◌else◌, slice_get, Ok, ◌+ℤ◌, ◌&&◌}
use Rattle.wasm_lang.specs.declared.types.ValType.{ValType}
use Rattle.wasm_lang.specs.declared.types.ValType.TheVariants.{I32}
use Rattle.wasm_lang.specs.Instructions as instructions
use Rattle.wasm_lang.specs.Instructions.{local_set}
use Rattle.wasm_lang_valid.specs.declared.rule.Rule.TheVariants.{NoLabel, LabelsDiffer}
use Rattle.wasm_lang_valid.specs.Typing.{Context, Fixed, Leaves, fixed, leaves, found, onward, unless, all_labels, alike, carries, inside, listed}
use Rattle.wasm_lang_exec.specs.Code.{ε, ◌▹◌, ◌⊕◌, br}
use Rattle.wasm_laws_sound.specs.Trees.{IsTyped, Steps}
use Rattle.wasm_laws_trees.proofs.Joined.{types_join}
use Rattle.asm_lang.specs.Modules.{Clauses, no_clauses, clauses}
use Rattle.asm_lang_valid.specs.Typing.{values}
use Rattle.asm_lang_exec.specs.Meaning.{is_case, has_case, before_case, before_default, passed_over}
use Rattle.asm2wasm_translation.specs.Values.{plains, number}
use Rattle.asm2wasm_translation.specs.Bodies.{clauses_count, is_dense, low, span, targets, case_branches, table_branch, dispatch, case_numbers, first_clause}
use Rattle.asm2wasm_laws_typed.proofs.Steps.{const_step, bin_step, rel_step, get_step, set_step}

-- ---- branches to labels that carry nothing

module _ {w : Context} where
  pub br_step : {l : ℕ} {further : List ValType → Type 0} → slice_get w.labels l ≡ Some None → further [] → Steps w (instructions.br l) [] further
  br_step is h = record { form = Leaves []; takes = []; gives = []; below = []; has_form = ap (λ o. found NoLabel o (λ label. Leaves (listed label))) is; acts = leaves [] []; keeps_rules = refl; operands = refl; goes_on = h }

  pub br_if_step : {l : ℕ} {further : List ValType → Type 0} → slice_get w.labels l ≡ Some None → further [] → Steps w (instructions.br_if l) (I32 ∷ []) further
  br_if_step is h = record { form = Fixed (I32 ∷ []) []; takes = I32 ∷ []; gives = []; below = []; has_form = ap (λ o. found NoLabel o (λ label. Fixed (I32 ∷ listed label) (listed label))) is; acts = fixed; keeps_rules = refl; operands = refl; goes_on = h }

  pub return_int : {further : List ValType → Type 0} → w.returns ≡ Some I32 → further [] → Steps w instructions.return (I32 ∷ []) further
  return_int is h = record { form = Leaves (I32 ∷ []); takes = I32 ∷ []; gives = []; below = []; has_form = ap (λ o. Ok (Leaves (listed o))) is; acts = leaves [] []; keeps_rules = refl; operands = refl; goes_on = h }

  pub return_nothing : {further : List ValType → Type 0} → w.returns ≡ None → further [] → Steps w instructions.return [] further
  return_nothing is h = record { form = Leaves []; takes = []; gives = []; below = []; has_form = ap (λ o. Ok (Leaves (listed o))) is; acts = leaves [] []; keeps_rules = refl; operands = refl; goes_on = h }

-- each label is there, and carries nothing
abbrev AllOpen : Context → List ℕ → Type 0
AllOpen w [] = Unit {0}
AllOpen w (l ∷ ls) = (slice_get w.labels l ≡ Some None) × AllOpen w ls

all_there : (w : Context) (ls : List ℕ) → AllOpen w ls → all_labels w.labels ls ≡ Ok tt
all_there w [] h = refl
all_there w (l ∷ ls) h = ap (λ o. onward (found NoLabel o (λ t. t)) (λ t. all_labels w.labels ls)) h.0 ∙ all_there w ls h.1

all_alike : (w : Context) (d : ℕ) (ls : List ℕ) → slice_get w.labels d ≡ Some None → AllOpen w ls → alike w.labels ls d ≡ true
all_alike w d [] e h = refl
all_alike w d (l ∷ ls) e h = ap (λ o. carries o (slice_get w.labels d) && alike w.labels ls d) h.0 ∙ (ap (λ o. carries (Some None) o && alike w.labels ls d) e ∙ all_alike w d ls e h.1)

table_step : (w : Context) (ls : List ℕ) (d : ℕ) {further : List ValType → Type 0} → slice_get w.labels d ≡ Some None → AllOpen w ls → further [] → Steps w (instructions.br_table ls d) (I32 ∷ []) further
table_step w ls d e stand h = record {
  form = Leaves (I32 ∷ []);
  takes = I32 ∷ [];
  gives = [];
  below = [];
  has_form = ap (λ r. onward r (λ _. found NoLabel (slice_get w.labels d) (λ label. Leaves (I32 ∷ listed label)))) (all_there w ls stand) ∙ ap (λ o. found NoLabel o (λ label. Leaves (I32 ∷ listed label))) e;
  acts = leaves [] [];
  keeps_rules = ap (λ b. unless b LabelsDiffer tt) (all_alike w d ls e stand);
  operands = refl;
  goes_on = h;
}

-- ---- places of clauses

default_within : (cs : Clauses) → before_default cs ≤ clauses_count cs
default_within no_clauses = omega arith
default_within (clauses None ss cs) = omega arith
default_within (clauses (Some v) ss cs) = let h = default_within cs in omega (arith, h)

case_within : (z : ℤ) (cs : Clauses) → before_case z cs ≤ clauses_count cs
case_within z no_clauses = omega arith
case_within z (clauses v ss cs) = by (is_case z v) (case_within z cs)
  where
    by : (b : Bool) → before_case z cs ≤ clauses_count cs → (if b then 0 else suc (before_case z cs)) ≤ suc (clauses_count cs)
    by true h = omega arith
    by false h = omega (arith, h)

over_within : (z : ℤ) (cs : Clauses) → passed_over z cs ≤ clauses_count cs
over_within z cs = by (has_case z cs)
  where
    by : (b : Bool) → (if b then before_case z cs else before_default cs) ≤ clauses_count cs
    by true = case_within z cs
    by false = default_within cs

-- labels up to the number of clauses are open
abbrev pub UpTo : Context → ℕ → Type 0
UpTo w n = (i : ℕ) → i ≤ n → slice_get w.labels i ≡ Some None

targets_open : (w : Context) (n : ℕ) (z : ℤ) (cs : Clauses) → UpTo w (clauses_count cs) → AllOpen w (targets n z cs)
targets_open w zero z cs h = tt
targets_open w (suc n) z cs h = (h (passed_over z cs) (over_within z cs), targets_open w n (z +ℤ pos 1) cs h)

-- ---- the clause of a value, in local t

branches_typed : (w : Context) (t i n : ℕ) (cs : Clauses) → i + clauses_count cs ≤ n → slice_get w.locals t ≡ Some I32 → UpTo w n → IsTyped w (case_branches t i cs) [] []
branches_typed w t i n no_clauses r is_t stand = refl
branches_typed w t i n (clauses None ss cs) r is_t stand = branches_typed w t (suc i) n cs (omega (arith, r)) is_t stand
branches_typed w t i n (clauses (Some v) ss cs) r is_t stand =
    get_step is_t (const_step (rel_step (br_if_step (stand i (omega (arith, r))) (branches_typed w t (suc i) n cs (omega (arith, r)) is_t stand))))

pub dispatch_typed : (w : Context) (t : ℕ) (cs : Clauses) → slice_get w.locals t ≡ Some I32 → UpTo w (clauses_count cs) → IsTyped w (dispatch t cs) [] []
dispatch_typed w t cs is_t stand = by (is_dense (values cs))
  where
    default_open : slice_get w.labels (before_default cs) ≡ Some None
    default_open = stand (before_default cs) (default_within cs)

    by : (b : Bool) → IsTyped w (if b then table_branch t cs else case_branches t 0 cs ⊕ (br (before_default cs) ▹ ε)) [] []
    by true = get_step is_t (const_step (bin_step (table_step w (targets (suc (span (values cs))) (low (values cs)) cs) (before_default cs) default_open (targets_open w (suc (span (values cs))) (low (values cs)) cs stand) refl)))
    by false = types_join w (case_branches t 0 cs) (br (before_default cs) ▹ ε) [] [] [] (branches_typed w t 0 (clauses_count cs) cs (omega arith) is_t stand) (br_step default_open refl)

numbers_typed : (w : Context) (t k i : ℕ) (cs : Clauses) → slice_get w.locals t ≡ Some I32 → slice_get w.locals k ≡ Some I32 → slice_get w.labels 0 ≡ Some None → IsTyped w (case_numbers t k i cs) [] []
numbers_typed w t k i no_clauses is_t is_k stand = refl
numbers_typed w t k i (clauses None ss cs) is_t is_k stand = numbers_typed w t k (suc i) cs is_t is_k stand
numbers_typed w t k i (clauses (Some v) ss cs) is_t is_k stand =
    const_step (set_step is_k (get_step is_t (const_step (rel_step (br_if_step stand (numbers_typed w t k (suc i) cs is_t is_k stand))))))

pub first_typed : (w : Context) (t k : ℕ) (cs : Clauses) → slice_get w.locals t ≡ Some I32 → slice_get w.locals k ≡ Some I32 → IsTyped w (first_clause t k cs) [] []
first_typed w t k cs is_t is_k =
    (types_join (inside None w) (case_numbers t k 0 cs) (plains (number (before_default cs) ∷ local_set k ∷ [])) [] [] [] (numbers_typed (inside None w) t k 0 cs is_t is_k refl) (const_step (set_step is_k refl)), refl)
