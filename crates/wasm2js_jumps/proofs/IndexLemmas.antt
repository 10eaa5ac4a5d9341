-- The switches of a branch by an index, one after another.
use Rattle.std.proofs.Common.{◌≡◌, ◌≤◌, ◌<◌, ◌+◌, ◌-◌, ◌*◌, ◌/◌, ℕ, zero, suc, min, List, [], ◌∷◌, ◌++◌, Some, None, Result, Ok, Err, IfOk, length, take, drop, refl, sym, ap, subst, ◌∙◌, arith, append_assoc, length-drop}
use Rattle.std.proofs.lemmas.List.{length-take}
use Rattle.std.proofs.Math.ListN.{drop_of_length-le}
use Rattle.std.proofs.Math.Nat.{min-le_right, min-le_left, div-mul-le_self}
use Rattle.sem_words.specs.Words.{signed_of}
use Rattle.asm_lang.specs.Modules.{Expr, Stmt, switches, no_clauses, clauses}
use Rattle.asm_tree.specs.Views.{clauses_in}
use Rattle.wasm2js_translation.specs.Words.{stmts_in}
use Rattle.wasm2js_translation.specs.Bodies.{cases, switches_from, by_index}
use Rattle.wasm2js_jumps.specs.Clauses.{clause_for, case_list}

pub cases_alone : (to : ℕ → List Stmt) (i : ℕ) (ks : List ℕ) → clauses_in (case_list to i ks) ≡ cases to i ks no_clauses
cases_alone to i [] = refl
cases_alone to i (k ∷ ks) = ap (clauses (Some (signed_of 32 i)) (stmts_in (to k))) (cases_alone to (suc i) ks)

pub cases_before : (to : ℕ → List Stmt) (i : ℕ) (ks : List ℕ) (ss : List Stmt) → clauses_in (case_list to i ks ++ clause_for None ss ∷ []) ≡ cases to i ks (clauses None (stmts_in ss) no_clauses)
cases_before to i [] ss = refl
cases_before to i (k ∷ ks) ss = ap (clauses (Some (signed_of 32 i)) (stmts_in (to k))) (cases_before to (suc i) ks ss)

pub take_all : {A : Type 0} (n : ℕ) (xs : List A) → length xs ≤ n → take n xs ≡ xs
take_all zero [] h = refl
take_all (suc n) [] h = refl
take_all zero (x ∷ xs) h = absurd (omega arith)
take_all (suc n) (x ∷ xs) h = ap (λ r. x ∷ r) (take_all n xs (omega arith))

pub drop_twice : {A : Type 0} (m n : ℕ) (xs : List A) → drop m (drop n xs) ≡ drop (n + m) xs
drop_twice m zero xs = let e : m ≡ 0 + m = omega arith in ap (λ n. drop n xs) e
drop_twice m (suc n) [] = drop_of_length-le [] {i = m} (omega arith) ∙ sym (drop_of_length-le [] {i = suc n + m} (omega arith))
drop_twice m (suc n) (x ∷ xs) =
    let e : suc (n + m) ≡ suc n + m = omega arith in
    drop_twice m n xs ∙ ap (λ n. drop n (x ∷ xs)) e

-- a part of a list that isn't longer than n ends before n
pub part_ends : (n m i : ℕ) (ks : List ℕ) → i ≤ length ks → length ks ≤ n → i + length (take m (drop i ks)) ≤ n
part_ends n m i ks h k =
    let e = length-take m (drop i ks) in
    let f = length-drop i ks in
    let g = min-le_right m (length (drop i ks)) in
    omega arith

pub turn_starts : (n turn : ℕ) → turn < n / 512 → turn * 512 + 512 ≤ n
turn_starts n turn h = let d = div-mul-le_self n 512 in omega arith

-- one switch, and those after it
pub switch_turn : (to : ℕ → List Stmt) (s : Expr) (full turn : ℕ) (ks : List ℕ) (d : ℕ) → turn < full
    → switches_from to s (full - turn) (turn * 512) (drop (turn * 512) ks) d
    ≡ switches s (cases to (turn * 512) (take 512 (drop (turn * 512) ks)) no_clauses) ∷ switches_from to s (full - (turn + 1)) ((turn + 1) * 512) (drop ((turn + 1) * 512) ks) d
switch_turn to s full turn ks d h =
    let left : full - turn ≡ suc (full - (turn + 1)) = omega arith in
    let next : turn * 512 + 512 ≡ (turn + 1) * 512 = omega arith in
    ap (λ n. switches_from to s n (turn * 512) (drop (turn * 512) ks) d) left
    ∙ ap (λ xs. switches s (cases to (turn * 512) (take 512 (drop (turn * 512) ks)) no_clauses) ∷ switches_from to s (full - (turn + 1)) (turn * 512 + 512) xs d) (drop_twice 512 (turn * 512) ks)
    ∙ ap (λ n. switches s (cases to (turn * 512) (take 512 (drop (turn * 512) ks)) no_clauses) ∷ switches_from to s (full - (turn + 1)) n (drop n ks) d) next

-- .. after statements that stand already
pub switch_after : (all a b : List Stmt) (to : ℕ → List Stmt) (s : Expr) (full turn m : ℕ) (ks : List ℕ) (d : ℕ) → turn < full → m ≡ 512
    → a ++ switches_from to s (full - turn) (turn * 512) (drop (turn * 512) ks) d ≡ all
    → b ≡ a ++ switches s (cases to (turn * 512) (take m (drop (turn * 512) ks)) no_clauses) ∷ []
    → b ++ switches_from to s (full - (turn + 1)) ((turn + 1) * 512) (drop ((turn + 1) * 512) ks) d ≡ all
switch_after all a b to s full turn m ks d h e whole made =
    let rest = switches_from to s (full - (turn + 1)) ((turn + 1) * 512) (drop ((turn + 1) * 512) ks) d in
    let one = switches s (cases to (turn * 512) (take 512 (drop (turn * 512) ks)) no_clauses) in
    ap (λ l. l ++ rest) (made ∙ ap (λ n. a ++ switches s (cases to (turn * 512) (take n (drop (turn * 512) ks)) no_clauses) ∷ []) e)
    ∙ append_assoc a (one ∷ []) rest
    ∙ ap (λ l. a ++ l) (sym (switch_turn to s full turn ks d h))
    ∙ whole

pub near_length : (n : ℕ) (ks near : List ℕ) → near ≡ take n ks → length near ≤ n
near_length n ks near e =
    let f = length-take n ks in
    let g = min-le_left n (length ks) in
    subst (λ (l : List ℕ). length l ≤ n) (sym e) (omega arith)

pub all_taken : (n i : ℕ) (ks : List ℕ) → n ≡ length ks → take (n - i) (drop i ks) ≡ drop i ks
all_taken n i ks e = take_all (n - i) (drop i ks) (let f = length-drop i ks in omega arith)

pub if_ok_weaker : {T E : Type 0} {P Q : T → Type 0} (r : Result T E) → ((x : T) → P x → Q x) → IfOk r P → IfOk r Q
if_ok_weaker (Ok x) f p = f x p
if_ok_weaker (Err e) f p = p

-- after all turns the last switch is left
pub switches_done : (o a b : List Stmt) (to : ℕ → List Stmt) (s : Expr) (turn full : ℕ) (labels ks : List ℕ) (d : ℕ) → turn ≡ full → full ≡ length ks / 512 → ks ≡ take 4294967296 labels
    → a ++ switches_from to s (full - turn) (turn * 512) (drop (turn * 512) ks) d ≡ o ++ switches_from to s full 0 ks d
    → b ≡ a ++ switches_from to s 0 (full * 512) (take (length ks - full * 512) (drop (full * 512) ks)) d
    → b ≡ o ++ by_index to s labels d
switches_done o a b to s turn full labels ks d e k near given made =
    let none : full - turn ≡ 0 = omega arith in
    made
    ∙ ap (λ xs. a ++ switches_from to s 0 (full * 512) xs d) (all_taken (length ks) (full * 512) ks refl)
    ∙ ap (λ n. a ++ switches_from to s 0 (n * 512) (drop (n * 512) ks) d) (sym e)
    ∙ ap (λ n. a ++ switches_from to s n (turn * 512) (drop (turn * 512) ks) d) (sym none)
    ∙ given
    ∙ ap (λ n. o ++ switches_from to s n 0 ks d) k
    ∙ ap (λ (l : List ℕ). o ++ switches_from to s (length l / 512) 0 l d) near
