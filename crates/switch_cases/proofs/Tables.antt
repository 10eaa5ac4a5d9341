-- The table of a switch, clause by clause from the last one on.
use Rattle.std.proofs.Common.{◌≡◌, ℕ, zero, suc, ◌+◌, ◌<◌, Bool, true, false, not, List, ◌∷◌, length, drop, get_or, set, length-set, Option, Some, None, refl, sym, ap, subst, ◌∙◌, arith, zero-add, add-zero}
use Rattle.std.proofs.Math.Seq.{drop-length}
use Rattle.std.proofs.lemmas.Int.{ints}
use Rattle.std.specs.Prelude.{ℤ, pos, ◌<ℤ◌, ◌≤ℤ◌, ◌+ℤ◌, ◌-ℤ◌, unsigned_abs, replicate, is_some, if◌then◌else◌}
use Rattle.sem_words.specs.Lists.{list_items}
use Rattle.asm_lang.specs.Modules.{Stmts, Clauses, no_clauses, clauses}
use Rattle.asm_tree.specs.declared.tree.Clause.{Clause}
use Rattle.asm_tree.specs.Views.{stmts_view, clauses_view}
use Rattle.asm_lang_valid.specs.Typing.{values}
use Rattle.asm_lang_exec.specs.Meaning.{is_case, before_case, before_default, has_case, passed_over}
use Rattle.asm2wasm_translation.specs.Bodies.{targets, low}
use Rattle.switch_cases.specs.Cases.{targets_from, with_target, IsWithin}
use Rattle.switch_cases.proofs.CaseValues.{IsFrom, clauses_put, value_from}

pub targets_none : (d i n : ℕ) (z : ℤ) → targets_from d i n z no_clauses ≡ replicate n d
targets_none d i zero z = refl
targets_none d i (suc n) z = ap (λ ls. d ∷ ls) (targets_none d i n (z +ℤ pos 1))

pub targets_all : (n : ℕ) (z : ℤ) (cs : Clauses) → targets_from (before_default cs) 0 n z cs ≡ targets n z cs
targets_all zero z cs = refl
targets_all (suc n) z cs =
    ap (λ b. (if has_case z cs then b else before_default cs) ∷ targets_from (before_default cs) 0 n (z +ℤ pos 1) cs) (zero-add (before_case z cs))
    ∙ ap (λ ls. passed_over z cs ∷ ls) (targets_all n (z +ℤ pos 1) cs)

other_head : (d i : ℕ) (h b : Bool) (n : ℕ) → b ≡ false → (if (if b then true else h) then i + (if b then 0 else suc n) else d) ≡ (if h then suc i + n else d)
other_head d i true b n e =
    let t : i + suc n ≡ suc i + n = omega arith in
    ap (λ b. if (if b then true else true) then i + (if b then 0 else suc n) else d) e ∙ t
other_head d i false b n e = ap (λ b. if (if b then true else false) then i + (if b then 0 else suc n) else d) e

same_head : (d i : ℕ) (h b : Bool) (n : ℕ) → b ≡ true → (if (if b then true else h) then i + (if b then 0 else suc n) else d) ≡ i
same_head d i h b n e = ap (λ b. if (if b then true else h) then i + (if b then 0 else suc n) else d) e ∙ add-zero i

-- the default has no value
default_target : (d i n : ℕ) (z : ℤ) (ss : Stmts) (cs : Clauses) → targets_from d i n z (clauses None ss cs) ≡ targets_from d (suc i) n z cs
default_target d i zero z ss cs = refl
default_target d i (suc n) z ss cs =
    ap (λ t. t ∷ targets_from d i n (z +ℤ pos 1) (clauses None ss cs)) (other_head d i (has_case z cs) false (before_case z cs) refl)
    ∙ ap (λ ls. (if has_case z cs then suc i + before_case z cs else d) ∷ ls) (default_target d i n (z +ℤ pos 1) ss cs)

not_case : (z v : ℤ) → v <ℤ z → is_case z (Some v) ≡ false
not_case z v h = grind (arith, ints)

later_case : (z v : ℤ) → z <ℤ v → is_case z (Some v) ≡ false
later_case z v h = grind (arith, ints)

own_case : (z v : ℤ) → v ≡ z → is_case z (Some v) ≡ true
own_case z v h = grind (arith, ints)

-- one that lies before the table
passed_target : (d i n : ℕ) (z v : ℤ) (ss : Stmts) (cs : Clauses) → v <ℤ z → targets_from d i n z (clauses (Some v) ss cs) ≡ targets_from d (suc i) n z cs
passed_target d i zero z v ss cs h = refl
passed_target d i (suc n) z v ss cs h =
    let on : v <ℤ (z +ℤ pos 1) = omega (arith, ints) in
    ap (λ t. t ∷ targets_from d i n (z +ℤ pos 1) (clauses (Some v) ss cs)) (other_head d i (has_case z cs) (is_case z (Some v)) (before_case z cs) (not_case z v h))
    ∙ ap (λ ls. (if has_case z cs then suc i + before_case z cs else d) ∷ ls) (passed_target d i n (z +ℤ pos 1) v ss cs on)

case_target : (d i n : ℕ) (z v : ℤ) (k : ℕ) (ss : Stmts) (cs : Clauses) → v ≡ z +ℤ pos k → targets_from d i n z (clauses (Some v) ss cs) ≡ set (targets_from d (suc i) n z cs) k i
case_target d i zero z v k ss cs e = refl
case_target d i (suc n) z v zero ss cs e =
    let own : v ≡ z = omega (arith, ints) in
    let on : v <ℤ (z +ℤ pos 1) = omega (arith, ints) in
    ap (λ t. t ∷ targets_from d i n (z +ℤ pos 1) (clauses (Some v) ss cs)) (same_head d i (has_case z cs) (is_case z (Some v)) (before_case z cs) (own_case z v own))
    ∙ ap (λ ls. i ∷ ls) (passed_target d i n (z +ℤ pos 1) v ss cs on)
case_target d i (suc n) z v (suc k) ss cs e =
    let far : z <ℤ v = omega (arith, ints) in
    let on : v ≡ (z +ℤ pos 1) +ℤ pos k = omega (arith, ints) in
    ap (λ t. t ∷ targets_from d i n (z +ℤ pos 1) (clauses (Some v) ss cs)) (other_head d i (has_case z cs) (is_case z (Some v)) (before_case z cs) (later_case z v far))
    ∙ ap (λ ls. (if has_case z cs then suc i + before_case z cs else d) ∷ ls) (case_target d i n (z +ℤ pos 1) v k ss cs on)

difference : (z v : ℤ) → z ≤ℤ v → v ≡ z +ℤ pos (unsigned_abs (v -ℤ z))
difference z v h = grind (arith, ints)

pub targets_put : (d i n : ℕ) (z : ℤ) (o : Option ℤ) (ss : Stmts) (cs : Clauses) → IsFrom z o → targets_from d i n z (clauses o ss cs) ≡ with_target o z i (targets_from d (suc i) n z cs)
targets_put d i n z None ss cs h = default_target d i n z ss cs
targets_put d i n z (Some v) ss cs h = case_target d i n z v (unsigned_abs (v -ℤ z)) ss cs (difference z v h)

-- ---- the default

none_here : (o : Option ℤ) (ss : Stmts) (cs : Clauses) → is_some o ≡ false → before_default (clauses o ss cs) ≡ 0
none_here None ss cs e = refl
none_here (Some v) ss cs e = cc

some_here : (o : Option ℤ) (ss : Stmts) (cs : Clauses) → is_some o ≡ true → before_default (clauses o ss cs) ≡ suc (before_default cs)
some_here None ss cs e = cc
some_here (Some v) ss cs e = refl

pub default_here : (ks : List Clause) (i : ℕ) (k : Clause) (b : Bool) → i < length ks → k ≡ get_or ks i k → is_some k.value ≡ not b → b ≡ true → before_default (clauses_view (drop i ks)) ≡ 0
default_here ks i k b h is e f = ap before_default (clauses_put ks i (i + 1) k refl h is) ∙ none_here k.value (stmts_view (list_items k.body)) (clauses_view (drop (i + 1) ks)) (e ∙ ap not f)

pub default_past : (ks : List Clause) (i : ℕ) (k : Clause) (b : Bool) → i < length ks → k ≡ get_or ks i k → is_some k.value ≡ not b → b ≡ false → before_default (clauses_view (drop i ks)) ≡ suc (before_default (clauses_view (drop (i + 1) ks)))
default_past ks i k b h is e f = ap before_default (clauses_put ks i (i + 1) k refl h is) ∙ some_here k.value (stmts_view (list_items k.body)) (clauses_view (drop (i + 1) ks)) (e ∙ ap not f)

-- ---- one turn

pub within_along : (o p : Option ℤ) (l m : ℤ) (n : ℕ) → o ≡ p → l ≡ m → IsWithin p m n → IsWithin o l n
within_along o p l m n e f h = subst (λ (x : Option ℤ). IsWithin x l n) (sym e) (subst (λ z. IsWithin p z n) (sym f) h)

pub targets_begin : (ks : List Clause) (d n : ℕ) (z : ℤ) → targets_from d (length ks) n z (clauses_view (drop (length ks) ks)) ≡ replicate n d
targets_begin ks d n z = ap (λ l. targets_from d (length ks) n z (clauses_view l)) (drop-length ks) ∙ targets_none d (length ks) n z

pub targets_turn : (ks : List Clause) (i j : ℕ) (k : Clause) (d n : ℕ) (l : ℤ) → j ≡ i + 1 → i < length ks → k ≡ get_or ks i k → l ≡ low (values (clauses_view ks)) → with_target k.value l i (targets_from d j n (low (values (clauses_view ks))) (clauses_view (drop j ks))) ≡ targets_from d i n (low (values (clauses_view ks))) (clauses_view (drop i ks))
targets_turn ks i j k d n l p h is e =
    let z = low (values (clauses_view ks)) in
    let next : j ≡ suc i = omega arith in
    ap (λ m. with_target k.value m i (targets_from d j n z (clauses_view (drop j ks)))) e
    ∙ ap (λ m. with_target k.value z i (targets_from d m n z (clauses_view (drop j ks)))) next
    ∙ sym (targets_put d i n z k.value (stmts_view (list_items k.body)) (clauses_view (drop j ks)) (value_from ks i j k p h is))
    ∙ ap (targets_from d i n z) (sym (clauses_put ks i j k p h is))

pub size_kept : (o : Option ℤ) (l : ℤ) (i : ℕ) (ls : List ℕ) → length (with_target o l i ls) ≡ length ls
size_kept None l i ls = refl
size_kept (Some v) l i ls = length-set ls (unsigned_abs (v -ℤ l)) i
