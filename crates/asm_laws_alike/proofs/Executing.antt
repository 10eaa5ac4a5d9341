-- Statements of the same form run alike, and end alike: a label leads to the same place.
use Rattle.std.proofs.Common.{◌≡◌, ℕ, zero, suc, ℤ, Bool, true, false, List, length, Option, Some, None, refl, sym, ap, subst}
use Rattle.std.specs.Prelude.{if◌then◌else◌}
use Rattle.sem_words.specs.declared.js_value.JsValue.{JsValue}
use Rattle.sem_words.specs.declared.js_value.JsValue.TheVariants.{Undef}
use Rattle.sem_words.specs.JsValues.{truthy_of}
use Rattle.asm_lang.specs.Modules.{Expr, Stmt, Stmts, Clauses}
use Rattle.asm_lang_valid.specs.Scope.{is_in}
use Rattle.asm_lang_valid.specs.Typing.{Scope}
use Rattle.asm_lang_exec.specs.Runs.{Part}
use Rattle.asm_lang_exec.specs.Values.{Calls}
use Rattle.asm_lang_exec.specs.Meaning.{Completion, normal, broken, continued, returned, loop_end, label_end, switch_end, unless_ended, unless_left, turns, do_turns, as_whole, is_case, before_case, before_default, has_case, passed_over, exec_part, exec_test, exec, exec_all, exec_clauses}
use Rattle.asm_laws_alike.specs.Places.{place_of, valued_names, Open, in_part, in_loop, under}
use Rattle.asm_laws_alike.specs.Code.{Pair, SamePart, no_part, a_part, no_label, a_label, SameStmt, same_block, same_plain, same_empty, same_if_only, same_if_else, same_returns, same_while, same_do, same_for, same_breaks, same_continues, same_labelled, same_switches, SameStmts, same_no_stmts, same_stmts, SameClauses, same_no_clauses, same_clauses}
use Rattle.asm_laws_alike.proofs.Values.{same_parts}
use Rattle.asm_laws_alike.proofs.Runs.{Sides, Same, Equal, same_then, same_value_then, same_gives, same_defined, same_if, same_out_of_units, same_pay, same_ends}
use Rattle.asm_laws_alike.proofs.Evaluating.{sides_of, SameCalls, eval_same}

-- ---- how statements end

pub data SameEnd (a a' : Open) : Completion → Completion → Type 0 where
  both_normal : SameEnd a a' normal normal
  both_break : SameEnd a a' (broken None) (broken None)
  both_break_to : {n n' : List ℕ} → place_of a'.to_break n' ≡ place_of a.to_break n → SameEnd a a' (broken (Some n)) (broken (Some n'))
  both_continue : SameEnd a a' (continued None) (continued None)
  both_continue_to : {n n' : List ℕ} → place_of a'.to_continue n' ≡ place_of a.to_continue n → SameEnd a a' (continued (Some n)) (continued (Some n'))
  both_return : (v : JsValue) → SameEnd a a' (returned v) (returned v)

-- where the labels differ in the statement's own alone
part_end : (a a' : Open) (d d' : Completion) → SameEnd (in_part a) (in_part a') d d' → SameEnd a a' d d'
part_end a a' d d' both_normal = both_normal
part_end a a' d d' both_break = both_break
part_end a a' d d' (both_break_to h) = both_break_to h
part_end a a' d d' both_continue = both_continue
part_end a a' d d' (both_continue_to h) = both_continue_to h
part_end a a' d d' (both_return v) = both_return v

pub data SameEnds (a a' : Open) : Option Completion → Option Completion → Type 0 where
  go_on : SameEnds a a' None None
  both_end : {d d' : Completion} → SameEnd a a' d d' → SameEnds a a' (Some d) (Some d')

same_loop_end : (a a' : Open) (d d' : Completion) → length a'.own ≡ length a.own → SameEnd (in_loop a) (in_loop a') d d' → SameEnds a a' (loop_end a.own d) (loop_end a'.own d')
same_loop_end a a' d d' l both_normal = go_on
same_loop_end a a' d d' l both_break = both_end both_normal
same_loop_end a a' d d' l (both_break_to h) = both_end (both_break_to h)
same_loop_end a a' d d' l both_continue = go_on
same_loop_end a a' d d' l (both_continue_to {n = n} {n' = n'} h) =
    let k = same_parts a.own a'.own a.to_continue a'.to_continue n n' l h in
    subst (λ t. SameEnds a a' (if is_in n a.own then None else Some (continued (Some n))) (if t then None else Some (continued (Some n')))) (sym k.0) (by (is_in n a.own) k.1)
  where
    by : (t : Bool) → (t ≡ false → place_of a'.to_continue n' ≡ place_of a.to_continue n) → SameEnds a a' (if t then None else Some (continued (Some n))) (if t then None else Some (continued (Some n')))
    by true behind = go_on
    by false behind = both_end (both_continue_to (behind refl))
same_loop_end a a' d d' l (both_return v) = both_end (both_return v)

same_label_end : (a a' : Open) (ns ns' : List (List ℕ)) (d d' : Completion) → length ns' ≡ length ns → SameEnd (under ns a) (under ns' a') d d' → SameEnd a a' (label_end ns d) (label_end ns' d')
same_label_end a a' ns ns' d d' l both_normal = both_normal
same_label_end a a' ns ns' d d' l both_break = both_break
same_label_end a a' ns ns' d d' l (both_break_to {n = n} {n' = n'} h) =
    let k = same_parts ns ns' a.to_break a'.to_break n n' l h in
    subst (λ t. SameEnd a a' (if is_in n ns then normal else broken (Some n)) (if t then normal else broken (Some n'))) (sym k.0) (by (is_in n ns) k.1)
  where
    by : (t : Bool) → (t ≡ false → place_of a'.to_break n' ≡ place_of a.to_break n) → SameEnd a a' (if t then normal else broken (Some n)) (if t then normal else broken (Some n'))
    by true behind = both_normal
    by false behind = both_break_to (behind refl)
same_label_end a a' ns ns' d d' l both_continue = both_continue
same_label_end a a' ns ns' d d' l (both_continue_to h) = both_continue_to h
same_label_end a a' ns ns' d d' l (both_return v) = both_return v

same_switch_end : (a a' : Open) (d d' : Completion) → SameEnd a a' d d' → SameEnd a a' (switch_end d) (switch_end d')
same_switch_end a a' d d' both_normal = both_normal
same_switch_end a a' d d' both_break = both_normal
same_switch_end a a' d d' (both_break_to h) = both_break_to h
same_switch_end a a' d d' both_continue = both_continue
same_switch_end a a' d d' (both_continue_to h) = both_continue_to h
same_switch_end a a' d d' (both_return v) = both_return v

same_unless_ended : (s : Sides) (a a' : Open) {o o' : Option Completion} {f f' : Part Completion} → SameEnds a a' o o' → Same s (SameEnd a a') f f' → Same s (SameEnd a a') (unless_ended o f) (unless_ended o' f')
same_unless_ended s a a' go_on h = h
same_unless_ended s a a' (both_end d) h = same_gives d

same_unless_left : (s : Sides) (a a' : Open) {d d' : Completion} {f f' : Part Completion} → SameEnd a a' d d' → Same s (SameEnd a a') f f' → Same s (SameEnd a a') (unless_left d f) (unless_left d' f')
same_unless_left s a a' both_normal h = h
same_unless_left s a a' both_break h = same_gives both_break
same_unless_left s a a' (both_break_to e) h = same_gives (both_break_to e)
same_unless_left s a a' both_continue h = same_gives both_continue
same_unless_left s a a' (both_continue_to e) h = same_gives (both_continue_to e)
same_unless_left s a a' (both_return v) h = same_gives (both_return v)

-- a part of a statement ends as the statement does
of_part : {s : Sides} (a a' : Open) {f f' : Part Completion} → Same s (SameEnd (in_part a) (in_part a')) f f' → Same s (SameEnd a a') f f'
of_part a a' h = same_ends h (part_end a a')

-- ---- loops

module _ (s : Sides) (a a' : Open) (own : length a'.own ≡ length a.own) {test test' : Part JsValue} {body body' : Part Completion} (t : Same s Equal test test') (b : Same s (SameEnd (in_loop a) (in_loop a')) body body') where
  turns_same : (n : ℕ) {step step' : Part (Unit {0})} → Same s Equal step step' → Same s (SameEnd a a') (turns a.own n test body step) (turns a'.own n test' body' step')
  turns_same zero k = same_out_of_units
  turns_same (suc n) k =
      same_value_then same_pay (λ _. same_value_then t (λ v. same_if (truthy_of v) (same_then b (λ d d' e. same_unless_ended s a a' (same_loop_end a a' d d' own e) (same_value_then k (λ _. turns_same n k)))) (same_gives both_normal)))

  do_turns_same : (n : ℕ) → Same s (SameEnd a a') (do_turns a.own n body test) (do_turns a'.own n body' test')
  do_turns_same zero = same_out_of_units
  do_turns_same (suc n) =
      same_value_then same_pay (λ _. same_then b (λ d d' e. same_unless_ended s a a' (same_loop_end a a' d d' own e) (same_value_then t (λ v. same_if (truthy_of v) (do_turns_same n) (same_gives both_normal)))))

-- ---- clauses of a switch have the same values

module _ (pairs : List Pair) (c c' : Scope) where
  same_before_case : (z : ℤ) {a a' : Open} {cs cs' : Clauses} → SameClauses pairs c c' a a' cs cs' → before_case z cs' ≡ before_case z cs
  same_before_case z same_no_clauses = refl
  same_before_case z (same_clauses v ss cs) = ap (λ n. if is_case z v then 0 else suc n) (same_before_case z cs)

  same_before_default : {a a' : Open} {cs cs' : Clauses} → SameClauses pairs c c' a a' cs cs' → before_default cs' ≡ before_default cs
  same_before_default same_no_clauses = refl
  same_before_default (same_clauses None ss cs) = refl
  same_before_default (same_clauses (Some v) ss cs) = ap (λ n. suc n) (same_before_default cs)

  same_has_case : (z : ℤ) {a a' : Open} {cs cs' : Clauses} → SameClauses pairs c c' a a' cs cs' → has_case z cs' ≡ has_case z cs
  same_has_case z same_no_clauses = refl
  same_has_case z (same_clauses v ss cs) = ap (λ b. if is_case z v then true else b) (same_has_case z cs)

  same_passed : (z : ℤ) {a a' : Open} {cs cs' : Clauses} → SameClauses pairs c c' a a' cs cs' → passed_over z cs' ≡ passed_over z cs
  same_passed z h = let x = same_before_case z h in let y = same_before_default h in let w = same_has_case z h in rw (x, y, w) refl

-- ---- statements

module _ (pairs : List Pair) (c c' : Scope) (calls calls' : Calls) (bound : ℕ) (same : SameCalls pairs calls calls' (valued_names c.home.globals) (valued_names c'.home.globals)) where
  part_same : {o o' : Option Expr} → SamePart pairs c c' o o' → Same (sides_of c c') Equal (exec_part false calls c bound o) (exec_part false calls' c' bound o')
  part_same no_part = same_gives refl
  part_same (a_part e) = same_value_then (eval_same pairs c c' calls calls' same e) (λ v. same_gives refl)

  test_same : {o o' : Option Expr} → SamePart pairs c c' o o' → Same (sides_of c c') Equal (exec_test false calls c bound o) (exec_test false calls' c' bound o')
  test_same no_part = same_gives refl
  test_same (a_part e) = eval_same pairs c c' calls calls' same e

  mutual
    pub exec_same : {a a' : Open} {s s' : Stmt} → SameStmt pairs c c' a a' s s' → length a'.own ≡ length a.own
        → Same (sides_of c c') (SameEnd a a') (exec false calls c bound a.own s) (exec false calls' c' bound a'.own s')
    exec_same (same_block ss) l = exec_all_same ss
    exec_same (same_plain e) l = same_value_then (eval_same pairs c c' calls calls' same e) (λ v. same_gives both_normal)
    exec_same same_empty l = same_gives both_normal
    exec_same (same_if_only {a = a} {a' = a'} e s) l = same_value_then (eval_same pairs c c' calls calls' same e) (λ v. same_if (truthy_of v) (of_part a a' (exec_same s refl)) (same_gives both_normal))
    exec_same (same_if_else {a = a} {a' = a'} e s r) l =
        same_value_then (eval_same pairs c c' calls calls' same e) (λ v. same_if (truthy_of v) (of_part a a' (exec_same s refl)) (of_part a a' (exec_same r refl)))
    exec_same (same_returns no_part) l = same_gives (both_return Undef)
    exec_same (same_returns (a_part e)) l = same_value_then (eval_same pairs c c' calls calls' same e) (λ v. same_gives (both_return v))
    exec_same (same_while {a = a} {a' = a'} e s) l = turns_same (sides_of c c') a a' l (eval_same pairs c c' calls calls' same e) (exec_same s refl) bound (same_gives refl)
    exec_same (same_do {a = a} {a' = a'} s e) l = do_turns_same (sides_of c c') a a' l (eval_same pairs c c' calls calls' same e) (exec_same s refl) bound
    exec_same (same_for {a = a} {a' = a'} x y z s) l = same_value_then (part_same x) (λ _. turns_same (sides_of c c') a a' l (test_same y) (exec_same s refl) bound (part_same z))
    exec_same (same_breaks no_label) l = same_gives both_break
    exec_same (same_breaks (a_label h)) l = same_gives (both_break_to h)
    exec_same (same_continues no_label) l = same_gives both_continue
    exec_same (same_continues (a_label h)) l = same_gives (both_continue_to h)
    exec_same (same_labelled {a = a} {a' = a'} {ns = ns} {ns' = ns'} k s) l = same_then (exec_same s k) (λ d d' e. same_gives (same_label_end a a' ns ns' d d' k e))
    exec_same (same_switches {a = a} {a' = a'} {cs = cs} {cs' = cs'} e h) l =
        same_value_then (eval_same pairs c c' calls calls' same e) (λ v. same_value_then (same_defined (as_whole v)) (λ z. same_then (subst (λ k. Same (sides_of c c') (SameEnd a a') (exec_clauses false calls c bound cs (passed_over z cs)) (exec_clauses false calls' c' bound cs' k)) (sym (same_passed pairs c c' z h)) (clauses_same h (passed_over z cs))) (λ d d' i. same_gives (same_switch_end a a' d d' i))))

    pub exec_all_same : {a a' : Open} {ss ss' : Stmts} → SameStmts pairs c c' a a' ss ss' → Same (sides_of c c') (SameEnd a a') (exec_all false calls c bound ss) (exec_all false calls' c' bound ss')
    exec_all_same same_no_stmts = same_gives both_normal
    exec_all_same (same_stmts {a = a} {a' = a'} s ss) = same_then (exec_same s refl) (λ d d' e. same_unless_left (sides_of c c') a a' (part_end a a' d d' e) (exec_all_same ss))

    pub clauses_same : {a a' : Open} {cs cs' : Clauses} → SameClauses pairs c c' a a' cs cs' → (k : ℕ) → Same (sides_of c c') (SameEnd a a') (exec_clauses false calls c bound cs k) (exec_clauses false calls' c' bound cs' k)
    clauses_same same_no_clauses k = same_gives both_normal
    clauses_same (same_clauses {a = a} {a' = a'} v ss cs) zero = same_then (exec_all_same ss) (λ d d' e. same_unless_left (sides_of c c') a a' e (clauses_same cs zero))
    clauses_same (same_clauses v ss cs) (suc k) = clauses_same cs k
