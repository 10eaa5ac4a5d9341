-- The renamed form of a typed body is typed: its labels are new where those of the body are.
use Rattle.std.proofs.Common.{◌≡◌, ℕ, ◌+◌, ◌≤◌, Bool, true, false, not, ◌&&◌, ◌||◌, List, [], ◌∷◌, ◌++◌, length, take, drop, Option, Some, None, refl, sym, ap, ap₂, ◌∙◌, subst, ◌⊎◌, inl, inr, arith}
use Rattle.std.proofs.lemmas.Bool.{and_parts}
use Rattle.std.specs.Prelude.{map, bytes_eq}
use Rattle.asm_types.specs.declared.value_type.ValueType.TheVariants.{Signed, Int}
use Rattle.asm_lang.specs.Modules.{Expr, Stmt, block, plain, empty, if_only, if_else, returns, while_loop, do_while, for_loop, breaks, continues, labelled, switches, Stmts, no_stmts, stmts, Clauses, no_clauses, clauses, Function}
use Rattle.asm_lang_valid.specs.Scope.{is_in, signature_of}
use Rattle.asm_lang_valid.specs.Typing.{Scope, Label, Around, at_top, in_a_loop, in_a_switch, is_loop, has_label, has_loop, labels_in as labels_under, under_labels, new_labels, values, distinct, in_range, close_together, return_fits, result_of, typed_below, type_of, typed, all_typed, clauses_typed}
use Rattle.asm_short_lang.specs.Uses.{expr_uses, option_uses, stmt_uses, stmts_uses, clauses_uses}
use Rattle.asm_short_lang.specs.Renaming.{replaced, expr_with, labels_in, labels_in_all, labels_in_clauses, Labels, no_labels, stmt_with, stmts_with, clauses_with}
use Rattle.asm_laws_alike.specs.Places.{Open, nothing_open, in_part, in_loop, under}
use Rattle.asm_laws_alike.specs.Code.{Pair, ArePaired, SamePart, no_part, a_part}
use Rattle.asm_laws_short.proofs.Lists.{same_name, itself, or_true, or_left, or_right, both_false, in_left, in_right, in_either, Distinct, distinct_parts, distinct_take, in_take, front_and_rest, placed, all_both}
use Rattle.asm_laws_short.proofs.Labels.{Linked, loops_of, label_in, still_label, new_label, linked_part, linked_switch, linked_loop, linked_later, linked_under}
use Rattle.asm_laws_short.proofs.Bodies.{AllGoOver, GoesOver, expr_same, option_same, linked_top}
use Rattle.asm_laws_short.proofs.Types.{type_same, effect_same, condition_same, part_same}

-- ---- labels of the renamed form

still_loop : (loop : Bool) (ns : List (List ℕ)) (ls : List Label) (n : List ℕ) → has_loop ls n ≡ true → has_loop (labels_under loop ns ls) n ≡ true
still_loop loop [] ls n h = h
still_loop loop (x ∷ xs) ls n h = still_loop loop xs (record { text = x; of_loop = loop } ∷ ls) n (or_right (bytes_eq x n && loop) (has_loop ls n) h)

new_loop : (ns : List (List ℕ)) (ls : List Label) (n : List ℕ) → is_in n ns ≡ true → has_loop (labels_under true ns ls) n ≡ true
new_loop [] ls n h = absurd (cc h)
new_loop (x ∷ xs) ls n h = by (or_true (bytes_eq x n) (is_in n xs) h) (new_loop xs (record { text = x; of_loop = true } ∷ ls) n)
  where
    by : (bytes_eq x n ≡ true) ⊎ (is_in n xs ≡ true) → (is_in n xs ≡ true → has_loop (labels_under true xs (record { text = x; of_loop = true } ∷ ls)) n ≡ true) → has_loop (labels_under true xs (record { text = x; of_loop = true } ∷ ls)) n ≡ true
    by (inl e) rest = still_loop true xs (record { text = x; of_loop = true } ∷ ls) n (rw e refl)
    by (inr e) rest = rest e

labels_are_new : (ns : List (List ℕ)) (ls : List Label) → Distinct ns → ((n : List ℕ) → is_in n ns ≡ true → has_label ls n ≡ false) → new_labels ns ls ≡ true
labels_are_new [] ls d h = refl
labels_are_new (x ∷ xs) ls d h =
    let e = h x (or_left (bytes_eq x x) (is_in x xs) (itself x)) in
    rw e (labels_are_new xs (record { text = x; of_loop = false } ∷ ls) d.1 (λ n i. both_false (bytes_eq x n) (has_label ls n) (differs n i (bytes_eq x n) refl) (h n (or_right (bytes_eq x n) (is_in n xs) i))))
  where
    differs : (n : List ℕ) → is_in n xs ≡ true → (b : Bool) → bytes_eq x n ≡ b → bytes_eq x n ≡ false
    differs n i true f = let g = subst (λ z. is_in z xs ≡ false) (same_name x n f) d.0 in absurd (cc)
    differs n i false f = f

-- what stands round the renamed form
pub record Renewed (around : Labels) (a' : Open) (t t' : Around) (loop : Bool) : Type 0 where
  pub breakable : t'.in_breakable ≡ t.in_breakable
  pub looped : t'.in_loop ≡ t.in_loop
  pub opened : (n : List ℕ) → is_in n around.news ≡ true → has_label t'.labels n ≡ true
  pub known : (n : List ℕ) → has_label t'.labels n ≡ true → is_in n around.news ≡ true
  pub loops : (n : List ℕ) → is_in n (loops_of loop a') ≡ true → has_loop t'.labels n ≡ true

renewed_part : (around : Labels) (a' : Open) (t t' : Around) (loop : Bool) → Renewed around a' t t' false → Renewed around (in_part a') t t' loop
renewed_part around a' t t' loop h = record { breakable = h.breakable; looped = h.looped; opened = h.opened; known = h.known; loops = λ n e. h.loops n (by loop n e) }
  where
    by : (b : Bool) (n : List ℕ) → is_in n (loops_of b (in_part a')) ≡ true → is_in n a'.to_continue ≡ true
    by true n e = e
    by false n e = e

renewed_switch : (around : Labels) (a' : Open) (t t' : Around) (loop : Bool) → Renewed around a' t t' loop → Renewed around a' (in_a_switch t) (in_a_switch t') loop
renewed_switch around a' t t' loop h = record { breakable = refl; looped = h.looped; opened = h.opened; known = h.known; loops = h.loops }

renewed_loop : (around : Labels) (a' : Open) (t t' : Around) (loop : Bool) → Renewed around a' t t' true → Renewed around (in_loop a') (in_a_loop t) (in_a_loop t') loop
renewed_loop around a' t t' loop h = record { breakable = refl; looped = refl; opened = h.opened; known = h.known; loops = λ n e. h.loops n (by loop n e) }
  where
    by : (b : Bool) (n : List ℕ) → is_in n (loops_of b (in_loop a')) ≡ true → is_in n (a'.own ++ a'.to_continue) ≡ true
    by true n e = e
    by false n e = e

abbrev under_these : Bool → List (List ℕ) → Around → Around
under_these loop ns t = record { in_breakable = t.in_breakable; in_loop = t.in_loop; labels = labels_under loop ns t.labels }

renewed_under : (around : Labels) (a' : Open) (t t' : Around) (ns ys : List (List ℕ)) (loop : Bool) → Renewed around a' t t' false
    → Renewed (record { olds = ns ++ around.olds; news = ys ++ around.news }) (under ys a') (under_these loop ns t) (under_these loop ys t') loop
renewed_under around a' t t' ns ys loop h = record { breakable = h.breakable; looped = h.looped; opened = λ n e. opens n (in_either n ys around.news e); known = λ n e. knows n (label_in loop ys t'.labels n e); loops = λ n e. turns loop n e }
  where
    opens : (n : List ℕ) → (is_in n ys ≡ true) ⊎ (is_in n around.news ≡ true) → has_label (labels_under loop ys t'.labels) n ≡ true
    opens n (inl e) = new_label loop ys t'.labels n e
    opens n (inr e) = still_label loop ys t'.labels n (h.opened n e)

    knows : (n : List ℕ) → (is_in n ys ≡ true) ⊎ (has_label t'.labels n ≡ true) → is_in n (ys ++ around.news) ≡ true
    knows n (inl e) = in_left n ys around.news e
    knows n (inr e) = in_right n ys around.news (h.known n e)

    of_loop : (n : List ℕ) → (is_in n ys ≡ true) ⊎ (is_in n a'.to_continue ≡ true) → has_loop (labels_under true ys t'.labels) n ≡ true
    of_loop n (inl e) = new_loop ys t'.labels n e
    of_loop n (inr e) = still_loop true ys t'.labels n (h.loops n e)

    turns : (b : Bool) (n : List ℕ) → is_in n (loops_of b (under ys a')) ≡ true → has_loop (labels_under b ys t'.labels) n ≡ true
    turns true n e = of_loop n (in_either n ys a'.to_continue e)
    turns false n e = still_loop false ys t'.labels n (h.loops n e)

both_true : (a b : Bool) → a ≡ true → b ≡ true → (a && b) ≡ true
both_true true b h k = k
both_true false b h k = absurd (cc h)

pub in_map : (f : List ℕ → List ℕ) (xs : List (List ℕ)) (n : List ℕ) → is_in n xs ≡ true → is_in (f n) (map f xs) ≡ true
in_map f [] n h = absurd (cc h)
in_map f (x ∷ xs) n h = by (or_true (bytes_eq x n) (is_in n xs) h) (in_map f xs n)
  where
    by : (bytes_eq x n ≡ true) ⊎ (is_in n xs ≡ true) → (is_in n xs ≡ true → is_in (f n) (map f xs) ≡ true) → (bytes_eq (f x) (f n) || is_in (f n) (map f xs)) ≡ true
    by (inl e) rest = or_left (bytes_eq (f x) (f n)) _ (subst (λ z. bytes_eq (f x) (f z) ≡ true) (same_name x n e) (itself (f x)))
    by (inr e) rest = or_right (bytes_eq (f x) (f n)) _ (rest e)

not_known : (t : Around) (n : List ℕ) → (has_label t.labels n ≡ true → ⊥) → has_label t.labels n ≡ false
not_known t n h = by (has_label t.labels n) refl
  where
    by : (b : Bool) → has_label t.labels n ≡ b → has_label t.labels n ≡ false
    by true e = absurd (h e)
    by false e = e

-- ---- statements

loop_stays : (look : List ℕ → List ℕ) (fresh : List (List ℕ)) (around : Labels) (before : ℕ) (s : Stmt) → is_loop (stmt_with look fresh around before s) ≡ is_loop s
loop_stays look fresh around before (block ss) = refl
loop_stays look fresh around before (plain e) = refl
loop_stays look fresh around before empty = refl
loop_stays look fresh around before (if_only e s) = refl
loop_stays look fresh around before (if_else e s r) = refl
loop_stays look fresh around before (returns o) = refl
loop_stays look fresh around before (while_loop e s) = refl
loop_stays look fresh around before (do_while s e) = refl
loop_stays look fresh around before (for_loop x y z s) = refl
loop_stays look fresh around before (breaks l) = refl
loop_stays look fresh around before (continues l) = refl
loop_stays look fresh around before (labelled ns s) = refl
loop_stays look fresh around before (switches e cs) = refl

values_stay : (look : List ℕ → List ℕ) (fresh : List (List ℕ)) (around : Labels) (before : ℕ) (cs : Clauses) → values (clauses_with look fresh around before cs) ≡ values cs
values_stay look fresh around before no_clauses = refl
values_stay look fresh around before (clauses None ss cs) = values_stay look fresh around (before + labels_in_all ss) cs
values_stay look fresh around before (clauses (Some v) ss cs) = ap (λ vs. v ∷ vs) (values_stay look fresh around (before + labels_in_all ss) cs)

module _ (pairs : List Pair) (c c' : Scope) (look : List ℕ → List ℕ) (sig : (f f' : Function) → ArePaired pairs f f' → signature_of f' ≡ signature_of f) (result : result_of c' ≡ result_of c) (fresh : List (List ℕ)) (d : Distinct fresh) where
  returns_same : {o o' : Option Expr} → SamePart pairs c c' o o' → return_fits c' o' ≡ return_fits c o
  returns_same no_part = ap not result
  returns_same (a_part e) = ap₂ (λ x y. x && y) result (ap (typed_below Signed) (type_same pairs c c' sig e))

  condition : (e : Expr) → AllGoOver pairs c c' look (expr_uses e) → typed_below Int (type_of c e) ≡ true → typed_below Int (type_of c' (expr_with look e)) ≡ true
  condition e u h = ap (typed_below Int) (type_same pairs c c' sig (expr_same pairs c c' look e u)) ∙ h

  mutual
    pub stmt_typed : (s : Stmt) (before : ℕ) (around : Labels) (a a' : Open) (t t' : Around) → Linked fresh before around a a' t (is_loop s) → Renewed around a' t t' (is_loop s) → before + labels_in s ≤ length fresh → typed c t s ≡ true → AllGoOver pairs c c' look (stmt_uses s)
        → typed c' t' (stmt_with look fresh around before s) ≡ true
    stmt_typed (block ss) before around a a' t t' k w room h u = stmts_typed ss before around a a' t t' k w room h u
    stmt_typed (plain e) before around a a' t t' k w room h u = effect_same pairs c c' sig (expr_same pairs c c' look e u) ∙ h
    stmt_typed empty before around a a' t t' k w room h u = refl
    stmt_typed (if_only e s) before around a a' t t' k w room h u =
        let p = and_parts _ _ h in
        let v = all_both (GoesOver pairs c c' look) (expr_uses e) (stmt_uses s) u in
        both_true _ _ (condition e v.0 p.0) (stmt_typed s before around (in_part a) (in_part a') t t' (linked_part fresh before around a a' t (is_loop s) k) (renewed_part around a' t t' (is_loop s) w) room p.1 v.1)
    stmt_typed (if_else e s r) before around a a' t t' k w room h u =
        let p = and_parts _ _ h in
        let q = and_parts _ _ p.0 in
        let v = all_both (GoesOver pairs c c' look) (expr_uses e) (stmt_uses s ++ stmt_uses r) u in
        let x = all_both (GoesOver pairs c c' look) (stmt_uses s) (stmt_uses r) v.1 in
        both_true _ _ (both_true _ _ (condition e v.0 q.0) (stmt_typed s before around (in_part a) (in_part a') t t' (linked_part fresh before around a a' t (is_loop s) k) (renewed_part around a' t t' (is_loop s) w) (omega (arith, room)) q.1 x.0))
        (stmt_typed r (before + labels_in s) around (in_part a) (in_part a') t t' (linked_later fresh before around (in_part a) (in_part a') t (before + labels_in s) (omega arith) (linked_part fresh before around a a' t (is_loop r) k)) (renewed_part around a' t t' (is_loop r) w) (omega (arith, room)) p.1 x.1)
    stmt_typed (returns o) before around a a' t t' k w room h u = returns_same (option_same pairs c c' look o u) ∙ h
    stmt_typed (while_loop e s) before around a a' t t' k w room h u =
        let p = and_parts _ _ h in
        let v = all_both (GoesOver pairs c c' look) (expr_uses e) (stmt_uses s) u in
        both_true _ _ (condition e v.0 p.0) (stmt_typed s before around (in_loop a) (in_loop a') (in_a_loop t) (in_a_loop t') (linked_loop fresh before around a a' t (is_loop s) k) (renewed_loop around a' t t' (is_loop s) w) room p.1 v.1)
    stmt_typed (do_while s e) before around a a' t t' k w room h u =
        let p = and_parts _ _ h in
        let v = all_both (GoesOver pairs c c' look) (stmt_uses s) (expr_uses e) u in
        both_true _ _ (stmt_typed s before around (in_loop a) (in_loop a') (in_a_loop t) (in_a_loop t') (linked_loop fresh before around a a' t (is_loop s) k) (renewed_loop around a' t t' (is_loop s) w) room p.0 v.0) (condition e v.1 p.1)
    stmt_typed (for_loop x y z s) before around a a' t t' k w room h u =
        let p = and_parts _ _ h in
        let q = and_parts _ _ p.0 in
        let r = and_parts _ _ q.0 in
        let v = all_both (GoesOver pairs c c' look) (option_uses x) (option_uses y ++ (option_uses z ++ stmt_uses s)) u in
        let i = all_both (GoesOver pairs c c' look) (option_uses y) (option_uses z ++ stmt_uses s) v.1 in
        let j = all_both (GoesOver pairs c c' look) (option_uses z) (stmt_uses s) i.1 in
        both_true _ _ (both_true _ _ (both_true _ _ (part_same pairs c c' sig (option_same pairs c c' look x v.0) ∙ r.0) (condition_same pairs c c' sig (option_same pairs c c' look y i.0) ∙ r.1)) (part_same pairs c c' sig (option_same pairs c c' look z j.0) ∙ q.1))
        (stmt_typed s before around (in_loop a) (in_loop a') (in_a_loop t) (in_a_loop t') (linked_loop fresh before around a a' t (is_loop s) k) (renewed_loop around a' t t' (is_loop s) w) room p.1 j.1)
    stmt_typed (breaks None) before around a a' t t' k w room h u = w.breakable ∙ h
    stmt_typed (breaks (Some n)) before around a a' t t' k w room h u =
        let p = placed around.olds around.news n k.long (k.opened n h) in
        let e = p.is in
        rw e (w.opened p.name p.among)
    stmt_typed (continues None) before around a a' t t' k w room h u = w.looped ∙ h
    stmt_typed (continues (Some n)) before around a a' t t' k w room h u =
        w.loops (replaced around.olds around.news n) (subst (λ l. is_in (replaced around.olds around.news n) l ≡ true) (sym k.continues') (in_map (replaced around.olds around.news) a.to_continue n (k.loops n h)))
    stmt_typed (labelled ns s) before around a a' t t' k w room h u =
        let p = and_parts _ _ h in
        let r : before + length ns ≤ length fresh = omega (arith, room) in
        let ys = take (length ns) (drop before fresh) in
        let parts = distinct_parts (take before fresh) (drop before fresh) (subst Distinct (sym (front_and_rest before fresh)) d) in
        let new = labels_are_new ys t'.labels (distinct_take (length ns) (drop before fresh) parts.1) (λ n e. not_known t' n (λ i. (let x = parts.2 n (k.in_front n (w.known n i)) in let y = in_take n (length ns) (drop before fresh) e in cc))) in
        let under_new = renewed_under around a' t t' ns ys (is_loop s) w in
        let body = stmt_typed s (before + length ns) (record { olds = ns ++ around.olds; news = ys ++ around.news }) (under ns a) (under ys a') (under_labels ns s t) (under_these (is_loop s) ys t') (linked_under fresh before around a a' t ns (is_loop s) false d r p.0 k refl) under_new (omega (arith, room)) p.1 u in
        both_true _ _ new (subst (λ b. typed c' (under_these b ys t') (stmt_with look fresh (record { olds = ns ++ around.olds; news = ys ++ around.news }) (before + length ns) s) ≡ true) (sym (loop_stays look fresh (record { olds = ns ++ around.olds; news = ys ++ around.news }) (before + length ns) s)) body)
    stmt_typed (switches e cs) before around a a' t t' k w room h u =
        let p = and_parts _ _ h in
        let q = and_parts _ _ p.0 in
        let v = all_both (GoesOver pairs c c' look) (expr_uses e) (clauses_uses cs) u in
        both_true _ _ (both_true _ _ (ap (typed_below Signed) (type_same pairs c c' sig (expr_same pairs c c' look e v.0)) ∙ q.0) (ap (λ vs. distinct vs && in_range vs && close_together vs) (values_stay look fresh around before cs) ∙ q.1))
        (clauses_typed_too cs before around a a' (in_a_switch t) (in_a_switch t') (linked_switch fresh before around a a' t false k) (renewed_switch around a' t t' false w) room p.1 v.1)

    pub stmts_typed : (ss : Stmts) (before : ℕ) (around : Labels) (a a' : Open) (t t' : Around) → Linked fresh before around a a' t false → Renewed around a' t t' false → before + labels_in_all ss ≤ length fresh → all_typed c t ss ≡ true → AllGoOver pairs c c' look (stmts_uses ss)
        → all_typed c' t' (stmts_with look fresh around before ss) ≡ true
    stmts_typed no_stmts before around a a' t t' k w room h u = refl
    stmts_typed (stmts s ss) before around a a' t t' k w room h u =
        let p = and_parts _ _ h in
        let v = all_both (GoesOver pairs c c' look) (stmt_uses s) (stmts_uses ss) u in
        both_true _ _ (stmt_typed s before around (in_part a) (in_part a') t t' (linked_part fresh before around a a' t (is_loop s) k) (renewed_part around a' t t' (is_loop s) w) (omega (arith, room)) p.0 v.0)
        (stmts_typed ss (before + labels_in s) around a a' t t' (linked_later fresh before around a a' t (before + labels_in s) (omega arith) k) w (omega (arith, room)) p.1 v.1)

    clauses_typed_too : (cs : Clauses) (before : ℕ) (around : Labels) (a a' : Open) (t t' : Around) → Linked fresh before around a a' t false → Renewed around a' t t' false → before + labels_in_clauses cs ≤ length fresh → clauses_typed c t cs ≡ true → AllGoOver pairs c c' look (clauses_uses cs)
        → clauses_typed c' t' (clauses_with look fresh around before cs) ≡ true
    clauses_typed_too no_clauses before around a a' t t' k w room h u = refl
    clauses_typed_too (clauses v ss cs) before around a a' t t' k w room h u =
        let p = and_parts _ _ h in
        let x = all_both (GoesOver pairs c c' look) (stmts_uses ss) (clauses_uses cs) u in
        both_true _ _ (stmts_typed ss before around a a' t t' k w (omega (arith, room)) p.0 x.0)
        (clauses_typed_too cs (before + labels_in_all ss) around a a' t t' (linked_later fresh before around a a' t (before + labels_in_all ss) (omega arith) k) w (omega (arith, room)) p.1 x.1)

  renewed_top : Renewed no_labels nothing_open at_top at_top false
  renewed_top = record { breakable = refl; looped = refl; opened = λ n e. absurd (cc e); known = λ n e. absurd (cc e); loops = λ n e. absurd (cc e) }

  pub body_typed : (ss : Stmts) → labels_in_all ss ≤ length fresh → all_typed c at_top ss ≡ true → AllGoOver pairs c c' look (stmts_uses ss) → all_typed c' at_top (stmts_with look fresh no_labels 0 ss) ≡ true
  body_typed ss room h u = stmts_typed ss 0 no_labels nothing_open nothing_open at_top at_top (linked_top pairs c c' look fresh d) renewed_top (omega (arith, room)) h u
