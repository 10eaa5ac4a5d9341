-- The code before the clauses of a switch, from the last case to the first.
use Rattle.std.proofs.Common.{◌≡◌, ℕ, zero, suc, ◌+◌, ◌-◌, ◌<◌, ◌≤◌, List, [], ◌∷◌, length, drop, get_or, reverse, Option, Some, None, Result, OnOk, refl, sym, ap, ◌∙◌, arith}
use Rattle.std.proofs.lemmas.List.{at_drop_more, at_drop_all, get_or-reverse, length-reverse}
use Rattle.std.specs.Prelude.{ℤ, pos, ◌+ℤ◌}
use Rattle.sem_words.specs.Lists.{list_items}
use Rattle.sem_words.specs.Words.{word_of}
use Rattle.asm_lang.specs.Modules.{Stmts, Clauses, clauses}
use Rattle.asm_tree.specs.declared.tree.Clause.{Clause}
use Rattle.asm_tree.specs.Views.{stmts_view, clauses_view}
use Rattle.asm_lang_exec.specs.Meaning.{passed_over}
use Rattle.asm2wasm_translation.specs.Bodies.{targets}
use Rattle.switch_cases.proofs.CaseValues.{clauses_put}
use Rattle.asm_run_code.specs.declared.op.Op.{Op}
use Rattle.asm_run_code.specs.declared.op.Op.TheVariants.{Go, Choose}
use Rattle.asm_run_code.specs.Bodies.{start_of, case_ops, target_ops}
use Rattle.asm_run_emit_values.proofs.Codes.{told}
use Rattle.asm_run_emit_bodies.specs.Switches.{case_before, jumps}

-- ---- addresses

pub start_at : (xs : List ℕ) (k d : ℕ) → k < length xs → start_of xs k ≡ get_or xs k d
start_at [] k d h = absurd (omega arith)
start_at (x ∷ xs) zero d h = refl
start_at (x ∷ xs) (suc k) d h = start_at xs k d (omega arith)

pub no_start : (xs : List ℕ) (k : ℕ) → length xs ≤ k → start_of xs k ≡ 0
no_start [] k h = refl
no_start (x ∷ xs) zero h = absurd (omega arith)
no_start (x ∷ xs) (suc k) h = no_start xs k (omega arith)

pub starts_put : (xs : List ℕ) (i : ℕ) → i < length xs → drop i xs ≡ start_of xs i ∷ drop (i + 1) xs
starts_put xs i h = at_drop_more (λ l. l) xs i 0 h ∙ ap (λ x. x ∷ drop (i + 1) xs) (sym (start_at xs i 0 h))

-- ---- comparisons

one_case : (a : ℕ) (o : Option ℤ) (ss : Stmts) (cs : Clauses) (k : ℕ) (starts : List ℕ) (rest : List Op) → case_ops a (clauses o ss cs) (k ∷ starts) rest ≡ case_before a o k (case_ops a cs starts rest)
one_case a None ss cs k starts rest = refl
one_case a (Some v) ss cs k starts rest = refl

pub case_put : (a : ℕ) (ks : List Clause) (starts : List ℕ) (i j : ℕ) (k : Clause) (rest : List Op) → j ≡ i + 1 → i < length ks → length ks ≤ length starts → k ≡ get_or ks i k →
    case_ops a (clauses_view (drop i ks)) (drop i starts) rest ≡ case_before a k.value (start_of starts i) (case_ops a (clauses_view (drop j ks)) (drop j starts) rest)
case_put a ks starts i j k rest p h long is =
    let within : i < length starts = omega arith in
    ap (λ cs. case_ops a cs (drop i starts) rest) (clauses_put ks i j k p h is)
    ∙ ap (λ l. case_ops a (clauses k.value (stmts_view (list_items k.body)) (clauses_view (drop j ks))) l rest) (starts_put starts i within)
    ∙ one_case a k.value (stmts_view (list_items k.body)) (clauses_view (drop j ks)) (start_of starts i) (drop (i + 1) starts) rest
    ∙ ap (λ m. case_before a k.value (start_of starts i) (case_ops a (clauses_view (drop j ks)) (drop m starts) rest)) (sym p)

pub case_turn : (a : ℕ) (ks : List Clause) (starts : List ℕ) (i j : ℕ) (k : Clause) (at : ℕ) (rest x y : List Op) → j ≡ i + 1 → i < length ks → length ks ≤ length starts → k ≡ get_or ks i k → at ≡ start_of starts i →
    x ≡ case_ops a (clauses_view (drop j ks)) (drop j starts) rest → y ≡ case_before a (get_or ks i k).value at x → y ≡ case_ops a (clauses_view (drop i ks)) (drop i starts) rest
case_turn a ks starts i j k at rest x y hj h long is hat hx hy =
    hy ∙ ap (λ (g : Clause). case_before a g.value at x) (sym is) ∙ ap (λ n. case_before a k.value n x) hat ∙ ap (case_before a k.value (start_of starts i)) hx
    ∙ sym (case_put a ks starts i j k rest hj h long is)

pub case_none : (a : ℕ) (ks : List Clause) (starts : List ℕ) (rest : List Op) → case_ops a (clauses_view (drop (length ks) ks)) starts rest ≡ rest
case_none a ks starts rest = at_drop_all (λ l. case_ops a (clauses_view l) starts rest) ks (length ks) (omega arith)

-- ---- a table

pub jump_put : (starts ks : List ℕ) (i j d : ℕ) (rest : List Op) → j ≡ i + 1 → i < length ks → jumps starts (drop i ks) rest ≡ Go (start_of starts (get_or ks i d)) ∷ jumps starts (drop j ks) rest
jump_put starts ks i j d rest p h = at_drop_more (λ l. jumps starts l rest) ks i d h ∙ ap (λ m. Go (start_of starts (get_or ks i d)) ∷ jumps starts (drop m ks) rest) (sym p)

pub jump_none : (starts ks : List ℕ) (rest : List Op) → jumps starts (drop (length ks) ks) rest ≡ rest
jump_none starts ks rest = at_drop_all (λ l. jumps starts l rest) ks (length ks) (omega arith)

pub targets_are : (n : ℕ) (z : ℤ) (cs : Clauses) (starts : List ℕ) (rest : List Op) → jumps starts (targets n z cs) rest ≡ target_ops n z cs starts rest
targets_are zero z cs starts rest = refl
targets_are (suc n) z cs starts rest = ap (λ l. Go (start_of starts (passed_over z cs)) ∷ l) (targets_are n (z +ℤ pos 1) cs starts rest)

pub targets_count : (n : ℕ) (z : ℤ) (cs : Clauses) → length (targets n z cs) ≡ n
targets_count zero z cs = refl
targets_count (suc n) z cs = ap suc (targets_count n (z +ℤ pos 1) cs)

pub table_made : {E : Type 0} (r : Result (Unit {0}) E) (b o o₁ : List Op) (slot low count n : ℕ) (z : ℤ) (cs : Clauses) (starts labels : List ℕ) → o₁ ≡ jumps starts labels o → labels ≡ targets n z cs → low ≡ word_of 32 z → count ≡ length labels →
    OnOk r (b ≡ Choose slot low count ∷ o₁) → OnOk r (b ≡ Choose slot (word_of 32 z) n ∷ target_ops n z cs starts o)
table_made r b o o₁ slot low count n z cs starts labels h₁ hl hw hc h =
    told r b (Choose slot low count ∷ o₁) (Choose slot (word_of 32 z) n ∷ target_ops n z cs starts o)
    (ap (λ l. Choose slot low count ∷ l) (h₁ ∙ ap (λ l. jumps starts l o) hl ∙ targets_are n z cs starts o)
    ∙ ap (λ w. Choose slot w count ∷ target_ops n z cs starts o) hw
    ∙ ap (λ k. Choose slot (word_of 32 z) k ∷ target_ops n z cs starts o) (hc ∙ ap length hl ∙ targets_count n z cs))
    h

-- ---- addresses that are held from the last one

pub start_reversed : (xs : List ℕ) (k d : ℕ) → k < length xs → get_or xs (length xs - 1 - k) d ≡ start_of (reverse xs) k
start_reversed xs k d h =
    let within : k < length (reverse xs) = omega (arith, length-reverse xs) in
    sym (start_at (reverse xs) k d within ∙ get_or-reverse xs k d h)

pub start_found : (xs : List ℕ) (k n d x : ℕ) → n ≡ length xs → k < n → x ≡ get_or xs (n - 1 - k) d → x ≡ start_of (reverse xs) k
start_found xs k n d x hn h hx =
    let within : k < length xs = omega arith in
    hx ∙ ap (λ n. get_or xs (n - 1 - k) d) hn ∙ start_reversed xs k d within

pub start_past : (xs : List ℕ) (k : ℕ) → length xs ≤ k → 0 ≡ start_of (reverse xs) k
start_past xs k h =
    let past : length (reverse xs) ≤ k = omega (arith, length-reverse xs) in
    sym (no_start (reverse xs) k past)
