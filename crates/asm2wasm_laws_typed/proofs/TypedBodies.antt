-- The types of the code of statements and functions.
use Rattle.std.proofs.Common.{◌≡◌, ◌⊎◌, inl, inr, ℕ, suc, ◌+◌, ◌<◌, ◌≤◌, Bool, true, false, List, [], ◌∷◌, ◌++◌, length, Option, Some, None, refl, sym, ap, subst, ◌∙◌, arith, length-append}
use Rattle.std.specs.Prelude.{if◌then◌else◌, ◌==◌, ◌&&◌, not, nat_le, replicate, slice_get}
use Rattle.std.proofs.lemmas.List.{length-replicate}
use Rattle.std.proofs.lemmas.Bool.{and_parts}
use Rattle.asm_types.specs.declared.value_type.ValueType.TheVariants.{Signed, Int}
use Rattle.wasm_lang.specs.declared.types.ValType.TheVariants.{I32}
use Rattle.wasm_lang.specs.Instructions.{eqz32, local_set}
use Rattle.wasm_lang_valid.specs.Typing.{Context, inside, listed}
use Rattle.wasm_lang_exec.specs.Code.{Trees, ε, ◌▹◌, ◌⊕◌, block, if_block, br_if, return}
use Rattle.wasm_laws_sound.specs.Trees.{IsTyped}
use Rattle.wasm_laws_sound.specs.Laws as sound
use Rattle.wasm_laws_trees.specs.Spelled.{reach}
use Rattle.wasm_laws_trees.proofs.Joined.{types_join, reach_joins}
use Rattle.wasm_laws_trees.proofs.Checked.{typed_is_valid}
use Rattle.asm_lang.specs.Modules as text
use Rattle.asm_lang.specs.Modules.{Expr, Stmt, if_only, if_else, returns, while_loop, do_while, for_loop, breaks, continues, labelled, switches, empty, Stmts, no_stmts, stmts, Clauses, no_clauses, clauses, Variable}
use Rattle.asm_lang_valid.specs.declared.rule.Rule.TheVariants.{PastLimit}
use Rattle.asm_lang_valid.specs.Scope.{is_in, gives_value, last_gives_value}
use Rattle.asm_lang_valid.specs.Rows.{need, expr_count, option_count, stmt_count, stmts_count}
use Rattle.asm_lang_valid.specs.LimitRows.{rows_of, most_clauses, clauses_length, expr_marks, part_marks, option_marks, stmt_marks, stmts_marks, clauses_marks}
use Rattle.asm_lang_valid.specs.Typing.{Scope, Around, at_top, in_a_loop, in_a_switch, is_loop, has_loop, new_labels, under_labels, typed_below, type_of, condition_fits, part_fits, cases_fit, result_of, typed, all_typed, clauses_typed}
use Rattle.asm2wasm_translation.specs.Values.{number, plains, one, expr_code}
use Rattle.asm2wasm_translation.specs.Bodies.{Label, plainly, breakable, named_end, next_turn, again, in_body, break_label, continue_label, loop_code, do_code, clauses_count, is_short, dispatch, case_numbers, first_clause, all_further, part_code, test_code, value_local, number_local, stmt_code, stmts_code, short_code, long_code, literal_word, first_value, locals_code, last_code, body_code}
use Rattle.asm_lang_exec.specs.Meaning.{before_default}
use Rattle.asm2wasm_laws_typed.specs.Contexts.{IsContextOf, AreListed}
use Rattle.asm2wasm_laws_typed.specs.Opened.{returned, IsPlaced, Covers}
use Rattle.asm2wasm_laws_typed.specs.Laws.{StatementsAreTyped, FunctionsAreValid}
use Rattle.asm2wasm_laws_typed.proofs.Steps.{const_step, rel_step, eqz_step, get_step, set_step, reach_left, reach_right}
use Rattle.asm2wasm_laws_typed.proofs.Known.{below_has, listed_left, listed_right}
use Rattle.asm2wasm_laws_typed.proofs.TypedValues.{of_two, value_typed, effect_typed}
use Rattle.asm2wasm_laws_typed.proofs.TypedSwitches.{br_step, br_if_step, return_int, return_nothing, dispatch_typed, first_typed}
use Rattle.asm2wasm_laws_typed.proofs.Opened.{open_at, entered, nothing_round, widened, in_choice, in_switch, in_clause, in_turns, under}

-- ---- labels

label_known : {c : Scope} {room : ℕ} (ls : List Label) (w : Context) → IsPlaced c room ls w → (i : ℕ) → i < length ls → slice_get w.labels i ≡ Some None
label_known ls w p i h = ap (λ ts. slice_get ts i) p.labels ∙ open_at ls w.returns i h

clauses_open : (n : ℕ) (ls : List Label) → length (replicate n plainly ++ breakable ∷ ls) ≡ n + suc (length ls)
clauses_open n ls = length-append (replicate n plainly) (breakable ∷ ls) ∙ ap (λ k. k + suc (length ls)) (length-replicate n plainly)

-- ---- loops

abbrev in_start : Context → Context
in_start w = inside None (inside None w)

abbrev in_turn : Context → Context
in_turn w = inside None (in_start w)

loop_typed : (w : Context) (test body step : Trees) → IsTyped (in_start w) test [] [] → IsTyped (in_turn w) body [] [] → IsTyped (in_start w) step [] [] → IsTyped w (loop_code test body step) [] []
loop_typed w test body step is_test is_body is_step =
    ((types_join (in_start w) test (block None body ▹ (step ⊕ again)) [] [] [] is_test (is_body, types_join (in_start w) step again [] [] [] is_step (br_step refl refl)), refl), refl)

do_typed : (w : Context) (body test : Trees) → IsTyped (in_turn w) body [] [] → IsTyped (in_start w) test [] (I32 ∷ []) → IsTyped w (do_code body test) [] []
do_typed w body test is_body is_test = (((is_body, types_join (in_start w) test (br_if 0 ▹ ε) [] (I32 ∷ []) [] is_test (br_if_step refl refl)), refl), refl)

-- a turn of the loop that is meant
turn_open : (a : Around) (ls : List Label) → Covers a ls [] → (n : List ℕ) → has_loop a.labels n ≡ true → continue_label ls (Some n) < length ls
turn_open a ls v n h = of (v.turns n h)
  where
    of : (is_in n [] ≡ true) ⊎ (continue_label ls (Some n) < length ls) → continue_label ls (Some n) < length ls
    of (inl i) = absurd (cc i)
    of (inr i) = i

record LoopReach (room : ℕ) (test body step : Trees) : Type 0 where
  of_test : reach test ≤ room
  of_body : reach body ≤ room
  of_step : reach step ≤ room

loop_parts : (room : ℕ) (test body step : Trees) → reach (loop_code test body step) ≤ room → LoopReach room test body step
loop_parts room test body step r =
    let joined = reach_joins test (block None body ▹ (step ⊕ again)) in
    let further = reach_joins step again in
    record { of_test = omega (arith, r, joined, further); of_body = omega (arith, r, joined, further); of_step = omega (arith, r, joined, further) }

-- ---- statements

module _ (heap : ℕ) (c : Scope) (room : ℕ) where
  part_typed : (w : Context) → IsContextOf c room w → (at : ℕ) (o : Option Expr) → part_fits c o ≡ true → AreListed c.home (part_marks c at o) → reach (part_code heap c o) ≤ room → IsTyped w (part_code heap c o) [] []
  part_typed w k at None t m r = refl
  part_typed w k at (Some e) t m r = effect_typed heap c room w k 0 at e t m r []

  test_typed : (w : Context) → IsContextOf c room w → slice_get w.labels 1 ≡ Some None
      → (at : ℕ) (o : Option Expr) → condition_fits c o ≡ true → AreListed c.home (option_marks c at o) → reach (test_code heap c o) ≤ room → IsTyped w (test_code heap c o) [] []
  test_typed w k leaves at None t m r = refl
  test_typed w k leaves at (Some e) t m r =
      let value = expr_code heap c true 0 e in
      let rest = one eqz32 ⊕ (br_if 1 ▹ ε) in
      types_join w value rest [] (I32 ∷ []) [] (value_typed heap c room w k true 0 at e (below_has Int (type_of c e) t) m (reach_left value rest r) []) (eqz_step (br_if_step leaves refl))

  short_inside : (ls : List Label) (ins : Trees) (cs : Clauses) → reach ins ≤ reach (short_code heap c ls ins cs)
  short_inside ls ins no_clauses = omega arith
  short_inside ls ins (clauses v ss cs) =
      let h = short_inside ls (block None ins ▹ stmts_code heap c (replicate (clauses_count cs) plainly ++ breakable ∷ ls) ss) cs in
      omega (arith, h)

  mutual
    pub stmt_typed : (ls : List Label) (w : Context) → IsPlaced c room ls w → (own : List (List ℕ)) (a : Around) (at : ℕ) (s : Stmt) → Covers a ls (if is_loop s then own else [])
        → typed c a s ≡ true → AreListed c.home (stmt_marks c at s) → reach (stmt_code heap c ls own s) ≤ room → IsTyped w (stmt_code heap c ls own s) [] []
    stmt_typed ls w p own a at (text.block ss) v t m r = stmts_typed ls w p a (at + 1) ss v t m r
    stmt_typed ls w p own a at (text.plain e) v t m r = effect_typed heap c room w p.is_context 0 (at + 1) e t m r []
    stmt_typed ls w p own a at empty v t m r = refl
    stmt_typed ls w p own a at (if_only e s) v t m r =
        let value = expr_code heap c true 0 e in
        let choice = if_block None (stmt_code heap c (plainly ∷ ls) [] s) ε ▹ ε in
        let fits = and_parts (typed_below Int (type_of c e)) (typed c a s) t in
        let first_marks = expr_marks c (at + 1) e in
        let second_marks = stmt_marks c (at + 1 + expr_count e) s in
        let q = reach_right value choice r in
        types_join w value choice [] (I32 ∷ []) []
        (value_typed heap c room w p.is_context true 0 (at + 1) e (below_has Int (type_of c e) fits.0) (listed_left c.home first_marks second_marks m) (reach_left value choice r) [])
        ([], refl, stmt_typed (plainly ∷ ls) (inside None w) (entered plainly p) [] a (at + 1 + expr_count e) s (widened a (plainly ∷ ls) _ (in_choice a ls v)) fits.1 (listed_right c.home first_marks second_marks m) (omega (arith, q)), refl, refl)
    stmt_typed ls w p own a at (if_else e s o) v t m r =
        let value = expr_code heap c true 0 e in
        let choice = if_block None (stmt_code heap c (plainly ∷ ls) [] s) (stmt_code heap c (plainly ∷ ls) [] o) ▹ ε in
        let fits = and_parts (typed_below Int (type_of c e) && typed c a s) (typed c a o) t in
        let first_two = and_parts (typed_below Int (type_of c e)) (typed c a s) fits.0 in
        let first_marks = expr_marks c (at + 1) e in
        let second_marks = stmt_marks c (at + 1 + expr_count e) s in
        let third_marks = stmt_marks c (at + 1 + expr_count e + stmt_count s) o in
        let further = listed_right c.home first_marks (second_marks ++ third_marks) m in
        let q = reach_right value choice r in
        types_join w value choice [] (I32 ∷ []) []
        (value_typed heap c room w p.is_context true 0 (at + 1) e (below_has Int (type_of c e) first_two.0) (listed_left c.home first_marks (second_marks ++ third_marks) m) (reach_left value choice r) []) (
          [],
          refl,
          stmt_typed (plainly ∷ ls) (inside None w) (entered plainly p) [] a (at + 1 + expr_count e) s (widened a (plainly ∷ ls) _ (in_choice a ls v)) first_two.1 (listed_left c.home second_marks third_marks further) (omega (arith, q)),
          stmt_typed (plainly ∷ ls) (inside None w) (entered plainly p) [] a (at + 1 + expr_count e + stmt_count s) o (widened a (plainly ∷ ls) _ (in_choice a ls v)) fits.1 (listed_right c.home second_marks third_marks further) (omega (arith, q)),
          refl,
        )
    stmt_typed ls w p own a at (returns None) v t m r = return_nothing (p.returns ∙ nothing (result_of c) t) refl
      where
        nothing : (b : Bool) → not b ≡ true → (if b then Some I32 else None) ≡ None
        nothing true h = absurd (cc h)
        nothing false h = refl
    stmt_typed ls w p own a at (returns (Some e)) v t m r =
        let value = expr_code heap c true 0 e in
        let fits = and_parts (result_of c) (typed_below Signed (type_of c e)) t in
        types_join w value (return ▹ ε) [] (I32 ∷ []) []
        (value_typed heap c room w p.is_context true 0 (at + 1) e (below_has Signed (type_of c e) fits.1) m (reach_left value (return ▹ ε) r) [])
        (return_int (p.returns ∙ ap (λ b. if b then Some I32 else None) fits.0) refl)
    stmt_typed ls w p own a at (while_loop e s) v t m r =
        let body = stmt_code heap c (in_body own ls) [] s in
        let parts = loop_parts room (test_code heap c (Some e)) body ε r in
        let fits = and_parts (condition_fits c (Some e)) (typed c (in_a_loop a) s) t in
        let first_marks = expr_marks c (at + 1) e in
        let second_marks = stmt_marks c (at + 1 + expr_count e) s in
        let started = entered plainly (entered breakable p) in
        loop_typed w (test_code heap c (Some e)) body ε
        (test_typed (in_start w) started.is_context refl (at + 1) (Some e) fits.0 (listed_left c.home first_marks second_marks m) parts.of_test)
        (stmt_typed (in_body own ls) (in_turn w) (entered (next_turn own) started) [] (in_a_loop a) (at + 1 + expr_count e) s (widened (in_a_loop a) (in_body own ls) _ (in_turns a own ls v)) fits.1 (listed_right c.home first_marks second_marks m) parts.of_body)
        refl
    stmt_typed ls w p own a at (do_while s e) v t m r =
        let body = stmt_code heap c (in_body own ls) [] s in
        let value = expr_code heap c true 0 e in
        let joined = reach_joins value (br_if 0 ▹ ε) in
        let fits = and_parts (typed c (in_a_loop a) s) (typed_below Int (type_of c e)) t in
        let first_marks = stmt_marks c (at + 1) s in
        let second_marks = expr_marks c (at + 1 + stmt_count s) e in
        let started = entered plainly (entered breakable p) in
        do_typed w body value
        (stmt_typed (in_body own ls) (in_turn w) (entered (next_turn own) started) [] (in_a_loop a) (at + 1) s (widened (in_a_loop a) (in_body own ls) _ (in_turns a own ls v)) fits.0 (listed_left c.home first_marks second_marks m) (omega (arith, r, joined)))
        (value_typed heap c room (in_start w) started.is_context true 0 (at + 1 + stmt_count s) e (below_has Int (type_of c e) fits.1) (listed_right c.home first_marks second_marks m) (omega (arith, r, joined)) [])
    stmt_typed ls w p own a at (for_loop x y z s) v t m r =
        let body = stmt_code heap c (in_body own ls) [] s in
        let test = test_code heap c y in
        let turned = loop_code test body (part_code heap c z) in
        let parts = loop_parts room test body (part_code heap c z) (reach_right (part_code heap c x) turned r) in
        let fits = and_parts (part_fits c x && condition_fits c y && part_fits c z) (typed c (in_a_loop a) s) t in
        let three = and_parts (part_fits c x && condition_fits c y) (part_fits c z) fits.0 in
        let two = and_parts (part_fits c x) (condition_fits c y) three.0 in
        let marks_x = part_marks c (at + 1) x in
        let marks_y = option_marks c (at + 1 + option_count x) y in
        let marks_z = part_marks c (at + 1 + option_count x + option_count y) z in
        let marks_s = stmt_marks c (at + 1 + option_count x + option_count y + option_count z) s in
        let m1 = listed_right c.home marks_x (marks_y ++ (marks_z ++ marks_s)) m in
        let m2 = listed_right c.home marks_y (marks_z ++ marks_s) m1 in
        let started = entered plainly (entered breakable p) in
        types_join w (part_code heap c x) turned [] [] []
        (part_typed w p.is_context (at + 1) x two.0 (listed_left c.home marks_x (marks_y ++ (marks_z ++ marks_s)) m) (reach_left (part_code heap c x) turned r))
        (loop_typed w test body (part_code heap c z)
        (test_typed (in_start w) started.is_context refl (at + 1 + option_count x) y two.1 (listed_left c.home marks_y (marks_z ++ marks_s) m1) parts.of_test)
        (stmt_typed (in_body own ls) (in_turn w) (entered (next_turn own) started) [] (in_a_loop a) (at + 1 + option_count x + option_count y + option_count z) s (widened (in_a_loop a) (in_body own ls) _ (in_turns a own ls v)) fits.1 (listed_right c.home marks_z marks_s m2) parts.of_body)
        (part_typed (in_start w) started.is_context (at + 1 + option_count x + option_count y) z three.1 (listed_left c.home marks_z marks_s m2) parts.of_step))
    stmt_typed ls w p own a at (breaks None) v t m r = br_step (label_known ls w p (break_label ls None) (v.breakables t)) refl
    stmt_typed ls w p own a at (breaks (Some n)) v t m r = br_step (label_known ls w p (break_label ls (Some n)) (v.ends n t)) refl
    stmt_typed ls w p own a at (continues None) v t m r = br_step (label_known ls w p (continue_label ls None) (v.loops t)) refl
    stmt_typed ls w p own a at (continues (Some n)) v t m r = br_step (label_known ls w p (continue_label ls (Some n)) (turn_open a ls v n t)) refl
    stmt_typed ls w p own a at (labelled ns s) v t m r =
        let fits = and_parts (new_labels ns a.labels) (typed c (under_labels ns s a) s) t in
        (stmt_typed (named_end ns ∷ ls) (inside None w) (entered (named_end ns) p) ns (under_labels ns s a) (at + 1) s (under (is_loop s) a ns ls v) fits.1 m (omega (arith, r)), refl)
    stmt_typed ls w p own a at (switches e cs) v t m r =
        let n = value_local heap c in
        let k = number_local heap c in
        let value = expr_code heap c true 0 e in
        let few = block None (short_code heap c ls (dispatch n cs) cs) ▹ ε in
        let many = first_clause n k cs ⊕ (block None (long_code heap c ls 0 cs) ▹ ε) in
        let chosen = if is_short cs then few else many in
        let fits = and_parts (typed_below Signed (type_of c e) && cases_fit cs) (clauses_typed c (in_a_switch a) cs) t in
        let has = below_has Signed (type_of c e) (and_parts (typed_below Signed (type_of c e)) (cases_fit cs) fits.0).0 in
        let first_marks = expr_marks c (at + 1) e in
        let limit_marks = rows_of (need (nat_le (clauses_length cs) most_clauses) PastLimit at) in
        let inner_marks = clauses_marks c (at + 1 + expr_count e) cs in
        let clauses_listed = listed_right c.home limit_marks inner_marks (listed_right c.home first_marks (limit_marks ++ inner_marks) m) in
        let r1 = reach_right value (one (local_set n) ⊕ chosen) r in
        let r2 = reach_right (one (local_set n)) chosen r1 in
        let is_n = p.is_context.locals n (omega (arith, r1)) in
        let switched = entered breakable p in
        types_join w value (one (local_set n) ⊕ chosen) [] (I32 ∷ []) []
        (value_typed heap c room w p.is_context true 0 (at + 1) e has (listed_left c.home first_marks (limit_marks ++ inner_marks) m) (reach_left value (one (local_set n) ⊕ chosen) r) [])
        (set_step is_n
        (of_two w (is_short cs) few many [] []
        (λ q. (
          short_typed ls (inside None w) switched (in_a_switch a) (at + 1 + expr_count e) (dispatch n cs) cs (in_switch a ls v) fits.1 clauses_listed (omega (arith, q))
              (λ u q. dispatch_typed u n cs (q.is_context.locals n (omega (arith, r1)))
              (λ i h. label_known (replicate (clauses_count cs) plainly ++ breakable ∷ ls) u q i (omega (arith, h, clauses_open (clauses_count cs) ls)))),
          refl,
        ))
        (λ q.
        let q1 = reach_left (first_clause n k cs) (block None (long_code heap c ls 0 cs) ▹ ε) q in
        let q2 = reach_right (first_clause n k cs) (block None (long_code heap c ls 0 cs) ▹ ε) q in
        let is_k = p.is_context.locals k (omega (arith, q1, reach_joins (case_numbers n k 0 cs) (plains (number (before_default cs) ∷ local_set k ∷ [])))) in
        types_join w (first_clause n k cs) (block None (long_code heap c ls 0 cs) ▹ ε) [] [] [] (first_typed w n k cs is_n is_k)
        (long_typed ls (inside None w) switched (in_a_switch a) (at + 1 + expr_count e) 0 cs is_k (in_switch a ls v) fits.1 clauses_listed (omega (arith, q2)), refl))
        r2))

    pub stmts_typed : (ls : List Label) (w : Context) → IsPlaced c room ls w → (a : Around) (at : ℕ) (ss : Stmts) → Covers a ls []
        → all_typed c a ss ≡ true → AreListed c.home (stmts_marks c at ss) → reach (stmts_code heap c ls ss) ≤ room → IsTyped w (stmts_code heap c ls ss) [] []
    stmts_typed ls w p a at no_stmts v t m r = refl
    stmts_typed ls w p a at (stmts s ss) v t m r =
        let first = stmt_code heap c ls [] s in
        let others = stmts_code heap c ls ss in
        let fits = and_parts (typed c a s) (all_typed c a ss) t in
        let first_marks = stmt_marks c at s in
        let second_marks = stmts_marks c (at + stmt_count s) ss in
        types_join w first others [] [] []
        (stmt_typed ls w p [] a at s (widened a ls _ v) fits.0 (listed_left c.home first_marks second_marks m) (reach_left first others r))
        (stmts_typed ls w p a (at + stmt_count s) ss v fits.1 (listed_right c.home first_marks second_marks m) (reach_right first others r))

    short_typed : (ls : List Label) (w : Context) → IsPlaced c room (breakable ∷ ls) w → (a : Around) (at : ℕ) (ins : Trees) (cs : Clauses) → Covers a (breakable ∷ ls) []
        → clauses_typed c a cs ≡ true → AreListed c.home (clauses_marks c at cs) → reach (short_code heap c ls ins cs) ≤ room
        → ((u : Context) → IsPlaced c room (replicate (clauses_count cs) plainly ++ breakable ∷ ls) u → IsTyped u ins [] [])
        → IsTyped w (short_code heap c ls ins cs) [] []
    short_typed ls w p a at ins no_clauses v t m r h = h w p
    short_typed ls w p a at ins (clauses o ss cs) v t m r h =
        let round = replicate (clauses_count cs) plainly ++ breakable ∷ ls in
        let fits = and_parts (all_typed c a ss) (clauses_typed c a cs) t in
        let first_marks = stmts_marks c at ss in
        let second_marks = clauses_marks c (at + stmts_count ss) cs in
        let around = short_inside ls (block None ins ▹ stmts_code heap c round ss) cs in
        short_typed ls w p a (at + stmts_count ss) (block None ins ▹ stmts_code heap c round ss) cs v fits.1 (listed_right c.home first_marks second_marks m) r
        (λ u q. (
          h (inside None u) (entered plainly q),
          stmts_typed round u q a at ss (in_clause a (clauses_count cs) (breakable ∷ ls) v) fits.0 (listed_left c.home first_marks second_marks m) (omega (arith, r, around)),
        ))

    long_typed : (ls : List Label) (w : Context) → IsPlaced c room (breakable ∷ ls) w → (a : Around) (at j : ℕ) (cs : Clauses) → slice_get w.locals (number_local heap c) ≡ Some I32
        → Covers a (breakable ∷ ls) [] → clauses_typed c a cs ≡ true → AreListed c.home (clauses_marks c at cs) → reach (long_code heap c ls j cs) ≤ room → IsTyped w (long_code heap c ls j cs) [] []
    long_typed ls w p a at j no_clauses is_k v t m r = refl
    long_typed ls w p a at j (clauses o ss cs) is_k v t m r =
        let body = stmts_code heap c (plainly ∷ breakable ∷ ls) ss in
        let rest = all_further (number_local heap c) in
        let joined = reach_joins body rest in
        let fits = and_parts (all_typed c a ss) (clauses_typed c a cs) t in
        let first_marks = stmts_marks c at ss in
        let second_marks = clauses_marks c (at + stmts_count ss) cs in
        get_step is_k (const_step (rel_step (
          [],
          refl,
          types_join (inside None w) body rest [] [] []
              (stmts_typed (plainly ∷ breakable ∷ ls) (inside None w) (entered plainly p) a at ss (in_choice a (breakable ∷ ls) v) fits.0 (listed_left c.home first_marks second_marks m) (omega (arith, r, joined)))
              (const_step (set_step is_k refl)),
          refl,
          long_typed ls w p a (at + stmts_count ss) (suc j) cs is_k v fits.1 (listed_right c.home first_marks second_marks m) (omega (arith, r, joined)),
        )))

  -- ---- functions

  -- the value of a last return, where the function has a result
  left : (w : Context) (code : Trees) (b : Bool) → b ≡ result_of c → IsTyped w code [] (listed (if b then Some I32 else None)) → IsTyped w code [] (listed (returned c))
  left w code b e h = subst (λ b. IsTyped w code [] (listed (if b then Some I32 else None))) e h

  last_typed : (w : Context) → IsPlaced c room [] w → (at : ℕ) (s : Stmt) → typed c at_top s ≡ true → AreListed c.home (stmt_marks c at s) → reach (last_code heap c s) ≤ room
      → gives_value s ≡ result_of c → IsTyped w (last_code heap c s) [] (listed (returned c))
  last_typed w p at (returns (Some e)) t m r g =
      let fits = and_parts (result_of c) (typed_below Signed (type_of c e)) t in
      left w (expr_code heap c true 0 e) true g (value_typed heap c room w p.is_context true 0 (at + 1) e (below_has Signed (type_of c e) fits.1) m r [])
  last_typed w p at s t m r g = left w (stmt_code heap c [] [] s) false g (stmt_typed [] w p [] at_top at s (nothing_round _) t m r)

  body_typed : (w : Context) → IsPlaced c room [] w → (at : ℕ) (ss : Stmts) → all_typed c at_top ss ≡ true → AreListed c.home (stmts_marks c at ss) → reach (body_code heap c ss) ≤ room
      → last_gives_value ss ≡ result_of c → IsTyped w (body_code heap c ss) [] (listed (returned c))
  body_typed w p at no_stmts t m r g = left w ε false g refl
  body_typed w p at (stmts s no_stmts) t m r g =
      last_typed w p at s (and_parts (typed c at_top s) true t).0 (listed_left c.home (stmt_marks c at s) [] m) r g
  body_typed w p at (stmts s (stmts q qs)) t m r g =
      let first = stmt_code heap c [] [] s in
      let others = body_code heap c (stmts q qs) in
      let fits = and_parts (typed c at_top s) (all_typed c at_top (stmts q qs)) t in
      let first_marks = stmt_marks c at s in
      let second_marks = stmts_marks c (at + stmt_count s) (stmts q qs) in
      types_join w first others [] [] (listed (returned c))
      (stmt_typed [] w p [] at_top at s (nothing_round _) fits.0 (listed_left c.home first_marks second_marks m) (reach_left first others r))
      (body_typed w p (at + stmt_count s) (stmts q qs) fits.1 (listed_right c.home first_marks second_marks m) (reach_right first others r) g)

  first_set : (w : Context) → IsContextOf c room w → (i word : ℕ) → reach (plains (first_value heap c i word)) ≤ room → IsTyped w (plains (first_value heap c i word)) [] []
  first_set w k i word r = by (word == 0) r
    where
      by : (b : Bool) → reach (plains (if b then [] else number word ∷ local_set i ∷ [])) ≤ room → IsTyped w (plains (if b then [] else number word ∷ local_set i ∷ [])) [] []
      by true q = refl
      by false q = const_step (set_step (k.locals i (omega (arith, q))) refl)

  locals_typed : (w : Context) → IsContextOf c room w → (i : ℕ) (vs : List Variable) → reach (locals_code heap c i vs) ≤ room → IsTyped w (locals_code heap c i vs) [] []
  locals_typed w k i [] r = refl
  locals_typed w k i (x ∷ xs) r =
      let set = plains (first_value heap c i (literal_word heap c x.init)) in
      let others = locals_code heap c (suc i) xs in
      types_join w set others [] [] [] (first_set w k i (literal_word heap c x.init) (reach_left set others r)) (locals_typed w k (suc i) xs (reach_right set others r))

in_outermost : {c : Scope} {room : ℕ} {base : Context} → IsContextOf c room base → base.returns ≡ returned c → IsPlaced c room [] (sound.in_body base)
in_outermost k e = record {
  is_context = record { locals = k.locals; globals = k.globals; functions = k.functions; imports = k.imports; types = k.types; table = k.table; memory = k.memory };
  labels = refl;
  returns = e;
}

pub statements_are_typed : StatementsAreTyped
statements_are_typed = stmt_typed

pub functions_are_valid : FunctionsAreValid
functions_are_valid heap c room base k e at t m r =
    let w = sound.in_body base in
    let p = in_outermost k e in
    let locals = locals_code heap c (length c.within.params) c.within.locals in
    let body = body_code heap c c.within.body in
    typed_is_valid base (locals ⊕ body)
    (subst (λ o. IsTyped w (locals ⊕ body) [] (listed o)) (sym e)
    (types_join w locals body [] [] (listed (returned c))
    (locals_typed heap c room w p.is_context (length c.within.params) c.within.locals (reach_left locals body r))
    (body_typed heap c room w p at c.within.body t m (reach_right locals body r) refl)))
