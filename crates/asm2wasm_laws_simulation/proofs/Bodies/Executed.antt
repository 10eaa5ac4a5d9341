-- Each typed statement is kept by its code.
use Rattle.std.proofs.Common.{◌≡◌, ℕ, suc, ◌+◌, ◌≤◌, Bool, true, false, not, List, [], ◌∷◌, ◌++◌, Option, Some, None, refl, sym, ap, ◌∙◌, subst, arith}
use Rattle.std.proofs.lemmas.Bool.{and_parts}
use Rattle.std.specs.Prelude.{nat_le}
use Rattle.sem_words.specs.declared.word.Word.{Word}
use Rattle.sem_words.specs.declared.js_value.JsValue.{JsValue}
use Rattle.sem_words.specs.declared.js_value.JsValue.TheVariants.{Undef, Bool as Boolean}
use Rattle.wasm_lang_exec.specs.Code.{Trees, ε, ◌▹◌, ◌⊕◌, block, if_block, br, br_if, return}
use Rattle.wasm_lang_exec.specs.Store.{Store}
use Rattle.wasm_laws_drive.specs.Drive.{Outcome, Next, Branch, Leave, at}
use Rattle.wasm_laws_drive.proofs.Instructions.{block_enters, br_branches, return_leaves}
use Rattle.wasm_laws_trees.specs.Spelled.{size}
use Rattle.asm_types.specs.declared.value_type.ValueType.{ValueType}
use Rattle.asm_types.specs.declared.value_type.ValueType.TheVariants.{Signed, Int}
use Rattle.asm_types.proofs.Sound.{wider}
use Rattle.asm_lang.specs.Modules.{Expr, Stmt, plain, empty, if_only, if_else, returns, while_loop, do_while, for_loop, breaks, continues, labelled, switches, Stmts, no_stmts, stmts, Clauses, no_clauses, clauses}
use Rattle.asm_lang.specs.Modules as text
use Rattle.asm_lang_valid.specs.Rows.{need, expr_count, option_count, stmt_count, stmts_count}
use Rattle.asm_lang_valid.specs.declared.rule.Rule.TheVariants.{PastLimit}
use Rattle.asm_lang_valid.specs.LimitRows.{Mark, clauses_length, most_clauses, rows_of, expr_marks, effect_marks, part_marks, option_marks, stmt_marks, stmts_marks, clauses_marks, foreign_calls}
use Rattle.asm_lang_valid.specs.Typing.{Scope, typed_below, type_of, effect_fits, Around, in_a_loop, in_a_switch, under_labels, condition_fits, part_fits, result_of, typed, all_typed, clauses_typed}
use Rattle.asm_lang_exec.specs.Runs.{Part, and_then, gives}
use Rattle.asm_lang_exec.specs.Values.{Calls}
use Rattle.asm_lang_exec.specs.Meaning.{eval, Completion, normal, broken, continued, returned, label_end, unless_left, turns, exec_part, exec_test, exec, exec_all}
use Rattle.asm_laws_sound.proofs.Expressions.{from_below}
use Rattle.asm2wasm_translation.specs.Values.{value_code, void_code}
use Rattle.asm2wasm_translation.specs.Bodies.{Label, plainly, named_end, break_label, continue_label, in_body, again, loop_code, part_code, test_code, stmt_code, stmts_code}
use Rattle.asm2wasm_laws_run.specs.State.{AnyValue}
use Rattle.asm2wasm_laws_run.specs.Sim as sims
use Rattle.asm2wasm_laws_preservation.specs.Kept.{Fits, a_value, no_value, result, Surroundings, Keeps}
use Rattle.asm2wasm_laws_preservation.specs.Made.{AllListed, Within, CallsKept}
use Rattle.asm2wasm_laws_preservation.specs.Laws.{AreAccepted, scope}
use Rattle.asm2wasm_laws_preservation.proofs.Joined.{keeps_weaker}
use Rattle.asm2wasm_laws_preservation.proofs.Rooms.{first_within, second_within, arms_within, listed_parts}
use Rattle.asm2wasm_laws_preservation.proofs.Sizes.{sizes_add}
use Rattle.asm2wasm_laws_preservation.proofs.Whole.{expressions_are_kept, effects_are_kept}
use Rattle.asm2wasm_laws_simulation.specs.Bodies.Followed.{on_code, Follows, Any, ends_as, KeepsEnd}
use Rattle.asm2wasm_laws_simulation.proofs.Bodies.Asked.{ClausesKept, SwitchesKept}
use Rattle.asm2wasm_laws_simulation.proofs.Bodies.Joined.{follows_bind, follows_in, follows_more, follows_now, follows_then, follows_kept}
use Rattle.asm2wasm_laws_simulation.proofs.Bodies.Left.{out, out_keeps, no_more, ends_now, ends_soon, leaves_named, leaves_list}
use Rattle.asm2wasm_laws_simulation.proofs.Bodies.Tested.{tested, follows_if, follows_test}
use Rattle.asm2wasm_laws_preservation.proofs.Chosen.{second_size}
use Rattle.asm2wasm_laws_simulation.proofs.Bodies.Turned.{goes_on, keeps_turns, keeps_do}

same_keeps : sims.Keeps (λ (r : Outcome). r)
same_keeps = record { ended = λ e st. refl; spent = λ st. refl }

no_result : (b : Bool) (v : JsValue) → not b ≡ true → [] ≡ result b v
no_result true v h = absurd (cc h)
no_result false v h = refl

a_result : (b : Bool) (v : JsValue) → b ≡ true → a_value v ≡ result b v
a_result true v h = refl
a_result false v h = absurd (cc h)

module _ (s : Surroundings) (limit bound : ℕ) (calls : Calls) (is : AreAccepted s) (kept : CallsKept s limit calls) (le : limit ≤ bound) where
  abbrev c : Scope
  c = scope s

  abbrev pub wanted : Bool
  wanted = result_of (scope s)

  abbrev Listed : List Mark → Type 0
  Listed ms = AllListed (foreign_calls s.home) ms

  abbrev does : Expr → Part JsValue
  does e = eval true calls c e

  abbrev Kept : List Label → Trees → Part Completion → Type 0
  Kept ls code part = KeepsEnd s limit ls wanted code part

  -- ---- expressions in statements

  pub below_kept : (top : ValueType) (e : Expr) (place : ℕ) → typed_below top (type_of c e) ≡ true → Within s (value_code s.heap c 0 e) → Listed (expr_marks c place e) → Keeps s limit 0 [] (Fits top) a_value (value_code s.heap c 0 e) (does e)
  below_kept top e place h room l =
      let x = from_below top (type_of c e) h in
      keeps_weaker s limit 0 [] (Fits x.type) (Fits top) a_value (value_code s.heap c 0 e) (does e) (λ v g. wider x.type top v x.is_lower g)
      (expressions_are_kept s limit calls e true x.type 0 place is kept x.is room l)

  effect_kept : (e : Expr) (place : ℕ) → effect_fits c e ≡ true → Within s (void_code s.heap c 0 e) → Listed (effect_marks c place e)
      → Follows s limit (size (void_code s.heap c 0 e)) (on_code s.target [] (void_code s.heap c 0 e)) AnyValue goes_on (does e)
  effect_kept e place h room l = follows_kept s limit AnyValue no_value (void_code s.heap c 0 e) (does e) (effects_are_kept s limit calls e 0 place is kept h room l)

  test_kept : (o : Option Expr) (place : ℕ) → condition_fits c o ≡ true → Within s (test_code s.heap c o) → Listed (option_marks c place o)
      → Follows s limit (size (test_code s.heap c o)) (on_code s.target [] (test_code s.heap c o)) Any (tested s limit) (exec_test true calls c bound o)
  test_kept None place h room l = follows_now s limit Any (tested s limit) (on_code s.target [] ε) (Boolean true) tt (no_more s)
  test_kept (Some e) place h room l = follows_test s limit (value_code s.heap c 0 e) (does e) (below_kept Int e place h (first_within s (value_code s.heap c 0 e) _ room) l)

  part_kept : (o : Option Expr) (place : ℕ) → part_fits c o ≡ true → Within s (part_code s.heap c o) → Listed (part_marks c place o)
      → Follows s limit (size (part_code s.heap c o)) (on_code s.target [] (part_code s.heap c o)) Any goes_on (exec_part true calls c bound o)
  part_kept None place h room l = follows_now s limit Any goes_on (on_code s.target [] ε) tt tt (no_more s)
  part_kept (Some e) place h room l =
      follows_more s limit Any goes_on (size (void_code s.heap c 0 e) + 0) (size (void_code s.heap c 0 e)) (on_code s.target [] (void_code s.heap c 0 e)) (exec_part true calls c bound (Some e)) (omega arith)
      (follows_bind s limit (λ r. r) (size (void_code s.heap c 0 e)) 0 (on_code s.target [] (void_code s.heap c 0 e)) AnyValue goes_on Any goes_on (does e) (λ v. gives tt) same_keeps (effect_kept e place h room l)
      (λ v g. follows_now s limit Any goes_on (goes_on v) tt tt (λ l st k. refl)))

  -- ---- statements

  ends_plain : (ls : List Label) (d : Completion) → d ≡ normal → Kept ls ε (gives d)
  ends_plain ls d e = subst (λ d. Kept ls ε (gives d)) (sym e) (ends_now s limit ls wanted 0 (on_code s.target [] ε) normal (no_more s))

  jumps : (ls : List Label) (d : Completion) (n : ℕ) → ((l : List Word) (st : Store) (k : ℕ) → Branch n (at [] l st k) ≡ ends_as ls wanted d l st k) → Kept ls (br n ▹ ε) (gives d)
  jumps ls d n e =
      ends_soon s limit ls wanted 1 (on_code s.target [] (br n ▹ ε)) d (omega arith)
      (λ l st k. let one : 1 + k ≡ suc k = omega arith in ap (on_code s.target [] (br n ▹ ε) l st) one ∙ br_branches s.target n ε (at [] l st (suc k)) ∙ e l st k)

  leaves_with : (ls : List Label) (v : JsValue) (from : List Word) → from ≡ result wanted v → Follows s limit 1 (on_code s.target from (return ▹ ε)) Any (ends_as ls wanted) (gives (returned v))
  leaves_with ls v from e =
      ends_soon s limit ls wanted 1 (on_code s.target from (return ▹ ε)) (returned v) (omega arith)
      (λ l st k. let one : 1 + k ≡ suc k = omega arith in ap (on_code s.target from (return ▹ ε) l st) one ∙ return_leaves s.target ε (at from l st (suc k)) ∙ ap (λ vs. Leave (at vs l st k)) e)

  named_kept : (ls : List Label) (ns : List (List ℕ)) (body : Trees) (part : Part Completion) → Kept (named_end ns ∷ ls) body part → Kept ls (block None body ▹ ε) (and_then part (λ d. gives (label_end ns d)))
  named_kept ls ns body part f =
      follows_more s limit Any (ends_as ls wanted) (1 + (size body + 1)) (size (block None body ▹ ε)) (on_code s.target [] (block None body ▹ ε)) (and_then part (λ d. gives (label_end ns d))) (omega arith)
      (follows_in s limit Any (ends_as ls wanted) 1 (size body + 1) (on_code s.target [] (block None body ▹ ε)) (λ l st k. out s (on_code s.target [] body l st k)) (and_then part (λ d. gives (label_end ns d)))
      (λ l st k. let one : 1 + k ≡ suc k = omega arith in ap (on_code s.target [] (block None body ▹ ε) l st) one ∙ block_enters s.target None body ε (at [] l st (suc k)))
      (follows_bind s limit (out s) (size body) 1 (on_code s.target [] body) Any (ends_as (named_end ns ∷ ls) wanted) Any (ends_as ls wanted) part (λ d. gives (label_end ns d)) (out_keeps s ε) f (λ d is. leaves_named s limit ls wanted ns d)))

  module _ (switch_kept : SwitchesKept s limit bound calls) where
    mutual
      pub stmt_kept : (x : Stmt) (ls : List Label) (own : List (List ℕ)) (a : Around) (place : ℕ) → typed c a x ≡ true → Within s (stmt_code s.heap c ls own x) → Listed (stmt_marks c place x)
          → size (stmt_code s.heap c ls own x) ≤ s.worth → Kept ls (stmt_code s.heap c ls own x) (exec true calls c bound own x)
      stmt_kept (text.block ss) ls own a place h room l few = stmts_kept ss ls a (place + 1) h room l few
      stmt_kept (plain e) ls own a place h room l few =
          follows_more s limit Any (ends_as ls wanted) (size (void_code s.heap c 0 e) + 0) (size (void_code s.heap c 0 e)) (on_code s.target [] (void_code s.heap c 0 e)) (exec true calls c bound own (plain e)) (omega arith)
          (follows_bind s limit (λ r. r) (size (void_code s.heap c 0 e)) 0 (on_code s.target [] (void_code s.heap c 0 e)) AnyValue goes_on Any (ends_as ls wanted) (does e) (λ v. gives normal) same_keeps (effect_kept e (place + 1) h room l)
          (λ v g. ends_now s limit ls wanted 0 (goes_on v) normal (λ l st k. refl)))
      stmt_kept empty ls own a place h room l few = ends_plain ls normal refl
      stmt_kept (if_only e x) ls own a place h room l few =
          let p = and_parts _ _ h in
          let code = value_code s.heap c 0 e in
          let arm = stmt_code s.heap c (plainly ∷ ls) [] x in
          let both = listed_parts (foreign_calls s.home) (expr_marks c (place + 1) e) (stmt_marks c (place + 1 + expr_count e) x) l in
          let arms = arms_within s None arm ε (second_within s code (if_block None arm ε ▹ ε) room) in
          let all = sizes_add code (if_block None arm ε ▹ ε) in
          follows_if s limit ls wanted code arm ε (does e) (exec true calls c bound [] x) (gives normal)
          (below_kept Int e (place + 1) p.0 (first_within s code (if_block None arm ε ▹ ε) room) both.0)
          (stmt_kept x (plainly ∷ ls) [] a (place + 1 + expr_count e) p.1 arms.0 both.1 (omega (arith, few, all)))
          (ends_plain (plainly ∷ ls) normal refl)
      stmt_kept (if_else e x y) ls own a place h room l few =
          let q = and_parts _ _ h in
          let p = and_parts _ _ q.0 in
          let code = value_code s.heap c 0 e in
          let arm = stmt_code s.heap c (plainly ∷ ls) [] x in
          let other = stmt_code s.heap c (plainly ∷ ls) [] y in
          let both = listed_parts (foreign_calls s.home) (expr_marks c (place + 1) e) (stmt_marks c (place + 1 + expr_count e) x ++ stmt_marks c (place + 1 + expr_count e + stmt_count x) y) l in
          let two = listed_parts (foreign_calls s.home) (stmt_marks c (place + 1 + expr_count e) x) (stmt_marks c (place + 1 + expr_count e + stmt_count x) y) both.1 in
          let arms = arms_within s None arm other (second_within s code (if_block None arm other ▹ ε) room) in
          let all = sizes_add code (if_block None arm other ▹ ε) in
          let more = second_size other in
          follows_if s limit ls wanted code arm other (does e) (exec true calls c bound [] x) (exec true calls c bound [] y)
          (below_kept Int e (place + 1) p.0 (first_within s code (if_block None arm other ▹ ε) room) both.0)
          (stmt_kept x (plainly ∷ ls) [] a (place + 1 + expr_count e) p.1 arms.0 two.0 (omega (arith, few, all)))
          (stmt_kept y (plainly ∷ ls) [] a (place + 1 + expr_count e + stmt_count x) q.1 arms.1 two.1 (omega (arith, few, all, more)))
      stmt_kept (returns None) ls own a place h room l few = leaves_with ls Undef [] (no_result wanted Undef h)
      stmt_kept (returns (Some e)) ls own a place h room l few =
          let p = and_parts _ _ h in
          let code = value_code s.heap c 0 e in
          subst (λ z. Follows s limit z (on_code s.target [] (code ⊕ (return ▹ ε))) Any (ends_as ls wanted) (and_then (does e) (λ v. gives (returned v)))) (sym (sizes_add code (return ▹ ε)))
          (follows_then s limit (size code) 1 [] code (return ▹ ε) (Fits Signed) (λ v l st k. Next (at (a_value v ++ []) l st k)) Any (ends_as ls wanted) (does e) (λ v. gives (returned v))
          (follows_kept s limit (Fits Signed) a_value code (does e) (below_kept Signed e (place + 1) p.1 (first_within s code (return ▹ ε) room) l))
          (λ v g. leaves_with ls v (a_value v) (a_result wanted v p.0)))
      stmt_kept (while_loop e x) ls own a place h room l few =
          let p = and_parts _ _ h in
          let test = test_code s.heap c (Some e) in
          let body = stmt_code s.heap c (in_body own ls) [] x in
          let both = listed_parts (foreign_calls s.home) (expr_marks c (place + 1) e) (stmt_marks c (place + 1 + expr_count e) x) l in
          let all = sizes_add test (block None body ▹ again) in
          let inner : Within s (test ⊕ (block None body ▹ again)) = omega (arith, room) in
          let rest = second_within s test (block None body ▹ again) inner in
          keeps_turns s ls wanted limit own test body ε (does e) (exec true calls c bound [] x) (gives tt) (omega (arith, few))
          (test_kept (Some e) (place + 1) p.0 (first_within s test (block None body ▹ again) inner) both.0)
          (stmt_kept x (in_body own ls) [] (in_a_loop a) (place + 1 + expr_count e) p.1 (omega (arith, rest)) both.1 (omega (arith, few, all)))
          (follows_now s limit Any goes_on (on_code s.target [] ε) tt tt (no_more s)) bound le
      stmt_kept (do_while x e) ls own a place h room l few =
          let p = and_parts _ _ h in
          let code = value_code s.heap c 0 e in
          let body = stmt_code s.heap c (in_body own ls) [] x in
          let both = listed_parts (foreign_calls s.home) (stmt_marks c (place + 1) x) (expr_marks c (place + 1 + stmt_count x) e) l in
          keeps_do s ls wanted limit own body code (exec true calls c bound [] x) (does e) (omega (arith, few))
          (stmt_kept x (in_body own ls) [] (in_a_loop a) (place + 1) p.0 (omega (arith, room)) both.0 (omega (arith, few)))
          (below_kept Int e (place + 1 + stmt_count x) p.1 (first_within s code (br_if 0 ▹ ε) (omega (arith, room))) both.1) bound le
      stmt_kept (for_loop x y z b) ls own a place h room l few =
          let p = and_parts _ _ h in
          let q = and_parts _ _ p.0 in
          let r = and_parts _ _ q.0 in
          let first = part_code s.heap c x in
          let test = test_code s.heap c y in
          let step = part_code s.heap c z in
          let body = stmt_code s.heap c (in_body own ls) [] b in
          let turn = test ⊕ (block None body ▹ (step ⊕ again)) in
          let turning = loop_code test body step in
          let marks_z = part_marks c (place + 1 + option_count x + option_count y) z in
          let marks_b = stmt_marks c (place + 1 + option_count x + option_count y + option_count z) b in
          let l1 = listed_parts (foreign_calls s.home) (part_marks c (place + 1) x) (option_marks c (place + 1 + option_count x) y ++ (marks_z ++ marks_b)) l in
          let l2 = listed_parts (foreign_calls s.home) (option_marks c (place + 1 + option_count x) y) (marks_z ++ marks_b) l1.1 in
          let l3 = listed_parts (foreign_calls s.home) marks_z marks_b l2.1 in
          let all = sizes_add first turning in
          let inside = sizes_add test (block None body ▹ (step ⊕ again)) in
          let looping = second_within s first turning room in
          let inner : Within s turn = omega (arith, looping) in
          let rest = second_within s test (block None body ▹ (step ⊕ again)) inner in
          let last : Within s (step ⊕ again) = omega (arith, rest) in
          let part = turns own bound (exec_test true calls c bound y) (exec true calls c bound [] b) (exec_part true calls c bound z) in
          subst (λ n. Follows s limit n (on_code s.target [] (first ⊕ turning)) Any (ends_as ls wanted) (and_then (exec_part true calls c bound x) (λ u. part))) (sym all)
          (follows_then s limit (size first) (size turning) [] first turning Any goes_on Any (ends_as ls wanted) (exec_part true calls c bound x) (λ u. part)
          (part_kept x (place + 1) r.0 (first_within s first turning room) l1.0)
          (λ u t. keeps_turns s ls wanted limit own test body step (exec_test true calls c bound y) (exec true calls c bound [] b) (exec_part true calls c bound z) (omega (arith, few, all))
          (test_kept y (place + 1 + option_count x) r.1 (first_within s test (block None body ▹ (step ⊕ again)) inner) l2.0)
          (stmt_kept b (in_body own ls) [] (in_a_loop a) (place + 1 + option_count x + option_count y + option_count z) p.1 (omega (arith, rest)) l3.1 (omega (arith, few, all, inside)))
          (part_kept z (place + 1 + option_count x + option_count y) q.1 (first_within s step again last) l3.0) bound le))
      stmt_kept (breaks n) ls own a place h room l few = jumps ls (broken n) (break_label ls n) (λ l st k. refl)
      stmt_kept (continues n) ls own a place h room l few = jumps ls (continued n) (continue_label ls n) (λ l st k. refl)
      stmt_kept (labelled ns x) ls own a place h room l few =
          let p = and_parts _ _ h in
          let body = stmt_code s.heap c (named_end ns ∷ ls) ns x in
          named_kept ls ns body (exec true calls c bound ns x) (stmt_kept x (named_end ns ∷ ls) ns (under_labels ns x a) (place + 1) p.1 (omega (arith, room)) l (omega (arith, few)))
      stmt_kept (switches e cs) ls own a place h room l few =
          let p = and_parts _ _ h in
          let q = and_parts _ _ p.0 in
          let marks_c = clauses_marks c (place + 1 + expr_count e) cs in
          let limit_marks = rows_of (need (nat_le (clauses_length cs) most_clauses) PastLimit place) in
          let both = listed_parts (foreign_calls s.home) (expr_marks c (place + 1) e) (limit_marks ++ marks_c) l in
          let last = listed_parts (foreign_calls s.home) limit_marks marks_c both.1 in
          switch_kept ls own e cs q.1 (below_kept Signed e (place + 1) q.0 (first_within s (value_code s.heap c 0 e) _ room) both.0) (clauses_kept cs (in_a_switch a) (place + 1 + expr_count e) p.1 last.1) room few

      pub stmts_kept : (ss : Stmts) (ls : List Label) (a : Around) (place : ℕ) → all_typed c a ss ≡ true → Within s (stmts_code s.heap c ls ss) → Listed (stmts_marks c place ss)
          → size (stmts_code s.heap c ls ss) ≤ s.worth → Kept ls (stmts_code s.heap c ls ss) (exec_all true calls c bound ss)
      stmts_kept no_stmts ls a place h room l few = ends_plain ls normal refl
      stmts_kept (stmts x ss) ls a place h room l few =
          let p = and_parts _ _ h in
          let first = stmt_code s.heap c ls [] x in
          let more = stmts_code s.heap c ls ss in
          let both = listed_parts (foreign_calls s.home) (stmt_marks c place x) (stmts_marks c (place + stmt_count x) ss) l in
          let all = sizes_add first more in
          subst (λ n. Follows s limit n (on_code s.target [] (first ⊕ more)) Any (ends_as ls wanted) (exec_all true calls c bound (stmts x ss))) (sym all)
          (follows_then s limit (size first) (size more) [] first more Any (ends_as ls wanted) Any (ends_as ls wanted) (exec true calls c bound [] x) (λ d. unless_left d (exec_all true calls c bound ss))
          (stmt_kept x ls [] a place p.0 (first_within s first more room) both.0 (omega (arith, few, all)))
          (λ d t. leaves_list s limit ls wanted (size more) more (exec_all true calls c bound ss) d (stmts_kept ss ls a (place + stmt_count x) p.1 (second_within s first more room) both.1 (omega (arith, few, all)))))

      pub clauses_kept : (cs : Clauses) (a : Around) (place : ℕ) → clauses_typed c a cs ≡ true → Listed (clauses_marks c place cs) → ClausesKept s limit bound calls cs
      clauses_kept no_clauses a place h l = tt
      clauses_kept (clauses v ss cs) a place h l =
          let p = and_parts _ _ h in
          let both = listed_parts (foreign_calls s.home) (stmts_marks c place ss) (clauses_marks c (place + stmts_count ss) cs) l in
          (λ ls room few. stmts_kept ss ls a place p.0 room both.0 few, clauses_kept cs a (place + stmts_count ss) p.1 both.1)
