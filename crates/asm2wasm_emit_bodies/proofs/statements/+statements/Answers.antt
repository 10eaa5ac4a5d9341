use Rattle.std.proofs.Common.{◌≡◌, ◌<◌, ◌-◌, ◌+◌, ◌^◌, ℕ, Bool, List, None, Some, [], ◌∷◌, ◌++◌, length, drop, replicate, refl, sym, ap, subst, ◌∙◌, arith, append-nil, length-drop}
use Rattle.std.proofs.lemmas.Result.{on_ok_weaker}
use Rattle.std.specs.Prelude.{if◌then◌else◌}
use Rattle.sem_words.specs.Lists.{list_items}
use Rattle.wasm_lang.specs.Instructions as instructions
use Rattle.wasm_lang_exec.specs.Code.{Trees, ε, ◌▹◌, ◌⊕◌, block, if_block, br_if}
use Rattle.wasm_laws_trees.specs.Spelled.{flat}
use Rattle.wasm_laws_write.specs.Lengths.{IsNarrow}
use Rattle.wasm_laws_write.specs.Each.{EachIn}
use Rattle.asm_tree.specs.declared.tree.Stmt.{Stmt}
use Rattle.asm_tree.specs.Views.{texts_view, expr_view, expr_option, stmt_view, stmts_view, clauses_view}
use Rattle.asm_lang_valid.specs.Rows.{stmt_count, stmts_count}
use Rattle.asm2wasm_translation.specs.Values.{value_code}
use Rattle.asm2wasm_translation.specs.Bodies.{plainly, breakable, named_end, in_body, again, test_code, part_code, stmt_code, stmts_code, long_code, is_short, dispatch, first_clause, reached, all_further, value_local, number_local}
use Rattle.asm2wasm_emit_pieces.proofs.Parts.{first_part, second_part}
use Rattle.asm2wasm_emit_pieces.proofs.Joined.{joined}
use Rattle.asm2wasm_emit_pieces.proofs.Endings.{arms}
use Rattle.asm2wasm_emit_switches.specs.Labels.{labels_view}
use Rattle.asm2wasm_emit_switches.proofs.Pieces.{turned, none_left, first_narrow, rest_narrow, block_round}
use Rattle.asm2wasm_emit_values.specs.Contexts.{scope_in}
use Rattle.asm2wasm_emit_bodies.specs.Forms.{subject_code, while_code, few_code, many_code, clauses_spelled, clause_code}
use Rattle.asm2wasm_emit_bodies.proofs.Counted.{short_is, long_is}
use Rattle.asm2wasm_emit_bodies.proofs.Spelled.{if_round, loop_given, of_form, narrow_form, under, under_block, under_named, under_stmts, stmt_along, stmts_along, block_along, named_along, clause_step, number_fits, return_form, switch_form}
use Rattle.asm2wasm_emit_bodies.proofs.Forms.{block_is, plain_is, return_is, if_only_is, if_else_is, while_is, do_is, for_is, labelled_is, switch_is, empty_is, break_is, continue_is}
use Rattle.asm2wasm_emit_bodies.proofs.Turns.{plainly_in, named_in, body_in, clause_in, stmts_left, clauses_left, stmts_turn, no_stmts_left, long_turn, no_long_left, spelled_turn, none_spelled}
use Rattle.asm2wasm_emit_bodies.proofs.Short.{few_given, short_inside, short_with, first_clause_narrow, rest_clauses_narrow}
use Rattle.asm2wasm_emit_bodies.proofs.statements.+statements.Goals as goal

pub emit_block-emit_stmt-requires : goal.emit_block-emit_stmt-requires
emit_block-emit_stmt-requires t c =
    let d0 = c.decreases in
    (omega arith, c.requires.narrow.1)

pub emit_block-returns : goal.emit_block-returns
emit_block-returns t c =
    on_ok_weaker c.push-2.result (block_round c.args.output.now c.push.new.self c.emit_stmt.new.output c.push-2.new.self None (stmt_code c.args.context.now.size (scope_in c.args.context.now) (labels_view c.args.labels.now) (texts_view c.args.own.now) (stmt_view c.args.body.now)) c.in_ok-push.ensures c.in_ok-emit_stmt.ensures) c.push-2.ensures

pub emit_if-emit-requires : goal.emit_if-emit-requires
emit_if-emit-requires t c =
    record { narrow = first_part IsNarrow (value_code c.args.context.now.size (scope_in c.args.context.now) 0 (expr_view c.args.condition.now)) (if_block None (stmt_code c.args.context.now.size (scope_in c.args.context.now) (plainly ∷ labels_view c.args.labels.now) [] (stmt_view c.args.yes.now)) ε ▹ ε) c.requires.narrow }

pub emit_if-emit_stmt-requires : goal.emit_if-emit_stmt-requires
emit_if-emit_stmt-requires t c =
    let d0 = c.decreases in
    (omega arith, under c.args.context.now.size (scope_in c.args.context.now) _ (plainly ∷ labels_view c.args.labels.now) [] (stmt_view c.args.yes.now) (plainly_in _) (second_part IsNarrow (value_code c.args.context.now.size (scope_in c.args.context.now) 0 (expr_view c.args.condition.now)) (if_block None (stmt_code c.args.context.now.size (scope_in c.args.context.now) (plainly ∷ labels_view c.args.labels.now) [] (stmt_view c.args.yes.now)) ε ▹ ε) c.requires.narrow).1)

pub emit_if-returns : goal.emit_if-returns
emit_if-returns t c =
    on_ok_weaker c.push-2.result
    (λ given. joined c.args.output.now c.emit.new.output c.push-2.new.self (value_code c.args.context.now.size (scope_in c.args.context.now) 0 (expr_view c.args.condition.now)) (if_block None (stmt_code c.args.context.now.size (scope_in c.args.context.now) (plainly ∷ labels_view c.args.labels.now) [] (stmt_view c.args.yes.now)) ε ▹ ε) c.in_ok-emit.ensures
    (if_round c.emit.new.output c.push.new.self c.emit_stmt.new.output c.push-2.new.self None (stmt_code c.args.context.now.size (scope_in c.args.context.now) (plainly ∷ labels_view c.args.labels.now) [] (stmt_view c.args.yes.now)) c.in_ok-push.ensures
    (stmt_along c.args.context.now.size (scope_in c.args.context.now) _ (plainly ∷ labels_view c.args.labels.now) [] (stmt_view c.args.yes.now) c.push.new.self c.emit_stmt.new.output (plainly_in _) c.in_ok-emit_stmt.ensures) given))
    c.push-2.ensures

pub emit_if_else-emit-requires : goal.emit_if_else-emit-requires
emit_if_else-emit-requires t c =
    record { narrow = first_part IsNarrow (value_code c.args.context.now.size (scope_in c.args.context.now) 0 (expr_view c.args.condition.now)) (if_block None (stmt_code c.args.context.now.size (scope_in c.args.context.now) (plainly ∷ labels_view c.args.labels.now) [] (stmt_view c.args.yes.now)) (stmt_code c.args.context.now.size (scope_in c.args.context.now) (plainly ∷ labels_view c.args.labels.now) [] (stmt_view c.args.no.now)) ▹ ε) c.requires.narrow }

pub emit_if_else-emit_stmt-requires : goal.emit_if_else-emit_stmt-requires
emit_if_else-emit_stmt-requires t c =
    let d0 = c.decreases in
    (omega arith, under c.args.context.now.size (scope_in c.args.context.now) _ (plainly ∷ labels_view c.args.labels.now) [] (stmt_view c.args.yes.now) (plainly_in _) (second_part IsNarrow (value_code c.args.context.now.size (scope_in c.args.context.now) 0 (expr_view c.args.condition.now)) (if_block None (stmt_code c.args.context.now.size (scope_in c.args.context.now) (plainly ∷ labels_view c.args.labels.now) [] (stmt_view c.args.yes.now)) (stmt_code c.args.context.now.size (scope_in c.args.context.now) (plainly ∷ labels_view c.args.labels.now) [] (stmt_view c.args.no.now)) ▹ ε) c.requires.narrow).1)

pub emit_if_else-emit_stmt-requires-2 : goal.emit_if_else-emit_stmt-requires-2
emit_if_else-emit_stmt-requires-2 t c =
    let d0 = c.decreases in
    (omega arith, under c.args.context.now.size (scope_in c.args.context.now) _ (plainly ∷ labels_view c.args.labels.now) [] (stmt_view c.args.no.now) (plainly_in _) (second_part IsNarrow (value_code c.args.context.now.size (scope_in c.args.context.now) 0 (expr_view c.args.condition.now)) (if_block None (stmt_code c.args.context.now.size (scope_in c.args.context.now) (plainly ∷ labels_view c.args.labels.now) [] (stmt_view c.args.yes.now)) (stmt_code c.args.context.now.size (scope_in c.args.context.now) (plainly ∷ labels_view c.args.labels.now) [] (stmt_view c.args.no.now)) ▹ ε) c.requires.narrow).2)

pub emit_if_else-returns : goal.emit_if_else-returns
emit_if_else-returns t c =
    on_ok_weaker c.end_arms.result
    (λ given. joined c.args.output.now c.emit.new.output c.end_arms.new.self (value_code c.args.context.now.size (scope_in c.args.context.now) 0 (expr_view c.args.condition.now)) (if_block None (stmt_code c.args.context.now.size (scope_in c.args.context.now) (plainly ∷ labels_view c.args.labels.now) [] (stmt_view c.args.yes.now)) (stmt_code c.args.context.now.size (scope_in c.args.context.now) (plainly ∷ labels_view c.args.labels.now) [] (stmt_view c.args.no.now)) ▹ ε) c.in_ok-emit.ensures
    (arms c.emit.new.output c.push.new.self c.emit_stmt.new.output c.push-2.new.self c.emit_stmt-2.new.output c.end_arms.new.self None (stmt_code c.args.context.now.size (scope_in c.args.context.now) (plainly ∷ labels_view c.args.labels.now) [] (stmt_view c.args.yes.now)) (stmt_code c.args.context.now.size (scope_in c.args.context.now) (plainly ∷ labels_view c.args.labels.now) [] (stmt_view c.args.no.now)) c.in_ok-push.ensures
    (stmt_along c.args.context.now.size (scope_in c.args.context.now) _ (plainly ∷ labels_view c.args.labels.now) [] (stmt_view c.args.yes.now) c.push.new.self c.emit_stmt.new.output (plainly_in _) c.in_ok-emit_stmt.ensures) c.in_ok-push-2.ensures
    (stmt_along c.args.context.now.size (scope_in c.args.context.now) _ (plainly ∷ labels_view c.args.labels.now) [] (stmt_view c.args.no.now) c.push-2.new.self c.emit_stmt-2.new.output (plainly_in _) c.in_ok-emit_stmt-2.ensures) given))
    c.end_arms.ensures

pub emit_loop-emit_test-requires : goal.emit_loop-emit_test-requires
emit_loop-emit_test-requires t c =
    record { narrow = first_part IsNarrow (test_code c.args.context.now.size (scope_in c.args.context.now) (expr_option c.args.condition.now)) (block None (stmt_code c.args.context.now.size (scope_in c.args.context.now) (in_body (texts_view c.args.own.now) (labels_view c.args.labels.now)) [] (stmt_view c.args.body.now)) ▹ ((part_code c.args.context.now.size (scope_in c.args.context.now) (expr_option c.args.step.now)) ⊕ again)) c.requires.narrow.1.1 }

pub emit_loop-emit_block-requires : goal.emit_loop-emit_block-requires
emit_loop-emit_block-requires t c =
    let d0 = c.decreases in
    (omega arith, under_block c.args.context.now.size (scope_in c.args.context.now) _ (in_body (texts_view c.args.own.now) (labels_view c.args.labels.now)) [] (stmt_view c.args.body.now) (body_in _ _ _ _ refl refl) (second_part IsNarrow (test_code c.args.context.now.size (scope_in c.args.context.now) (expr_option c.args.condition.now)) (block None (stmt_code c.args.context.now.size (scope_in c.args.context.now) (in_body (texts_view c.args.own.now) (labels_view c.args.labels.now)) [] (stmt_view c.args.body.now)) ▹ ((part_code c.args.context.now.size (scope_in c.args.context.now) (expr_option c.args.step.now)) ⊕ again)) c.requires.narrow.1.1).1)

pub emit_loop-emit_part-requires : goal.emit_loop-emit_part-requires
emit_loop-emit_part-requires t c =
    record { narrow = first_part IsNarrow (part_code c.args.context.now.size (scope_in c.args.context.now) (expr_option c.args.step.now)) again (second_part IsNarrow (test_code c.args.context.now.size (scope_in c.args.context.now) (expr_option c.args.condition.now)) (block None (stmt_code c.args.context.now.size (scope_in c.args.context.now) (in_body (texts_view c.args.own.now) (labels_view c.args.labels.now)) [] (stmt_view c.args.body.now)) ▹ ((part_code c.args.context.now.size (scope_in c.args.context.now) (expr_option c.args.step.now)) ⊕ again)) c.requires.narrow.1.1).2 }

pub emit_loop-returns : goal.emit_loop-returns
emit_loop-returns t c =
    on_ok_weaker c.close_loop.result
    (loop_given c.args.output.now c.open_loop.new.output c.branch-output.new.output c.close_loop.new.output ((test_code c.args.context.now.size (scope_in c.args.context.now) (expr_option c.args.condition.now)) ⊕ (block None (stmt_code c.args.context.now.size (scope_in c.args.context.now) (in_body (texts_view c.args.own.now) (labels_view c.args.labels.now)) [] (stmt_view c.args.body.now)) ▹ ((part_code c.args.context.now.size (scope_in c.args.context.now) (expr_option c.args.step.now)) ⊕ again))) c.in_ok-open_loop.ensures
    (joined c.open_loop.new.output c.emit_test.new.output c.branch-output.new.output (test_code c.args.context.now.size (scope_in c.args.context.now) (expr_option c.args.condition.now)) (block None (stmt_code c.args.context.now.size (scope_in c.args.context.now) (in_body (texts_view c.args.own.now) (labels_view c.args.labels.now)) [] (stmt_view c.args.body.now)) ▹ ((part_code c.args.context.now.size (scope_in c.args.context.now) (expr_option c.args.step.now)) ⊕ again)) c.in_ok-emit_test.ensures
    (joined c.emit_test.new.output c.emit_block.new.output c.branch-output.new.output (block None (stmt_code c.args.context.now.size (scope_in c.args.context.now) (in_body (texts_view c.args.own.now) (labels_view c.args.labels.now)) [] (stmt_view c.args.body.now)) ▹ ε) ((part_code c.args.context.now.size (scope_in c.args.context.now) (expr_option c.args.step.now)) ⊕ again)
    (block_along c.args.context.now.size (scope_in c.args.context.now) _ (in_body (texts_view c.args.own.now) (labels_view c.args.labels.now)) [] (stmt_view c.args.body.now) c.emit_test.new.output c.emit_block.new.output (body_in _ _ _ _ refl refl) c.in_ok-emit_block.ensures)
    (joined c.emit_block.new.output c.emit_part.new.output c.branch-output.new.output (part_code c.args.context.now.size (scope_in c.args.context.now) (expr_option c.args.step.now)) again c.in_ok-emit_part.ensures c.in_ok-branch.ensures))))
    c.close_loop.ensures

pub emit_while-emit_condition-requires : goal.emit_while-emit_condition-requires
emit_while-emit_condition-requires t c =
    record { narrow = first_part IsNarrow (test_code c.args.context.now.size (scope_in c.args.context.now) (Some (expr_view c.args.condition.now))) (block None (stmt_code c.args.context.now.size (scope_in c.args.context.now) (in_body (texts_view c.args.own.now) (labels_view c.args.labels.now)) [] (stmt_view c.args.body.now)) ▹ again) c.requires.narrow.1.1 }

pub emit_while-emit_block-requires : goal.emit_while-emit_block-requires
emit_while-emit_block-requires t c =
    let d0 = c.decreases in
    (omega arith, under_block c.args.context.now.size (scope_in c.args.context.now) _ (in_body (texts_view c.args.own.now) (labels_view c.args.labels.now)) [] (stmt_view c.args.body.now) (body_in _ _ _ _ refl refl) (second_part IsNarrow (test_code c.args.context.now.size (scope_in c.args.context.now) (Some (expr_view c.args.condition.now))) (block None (stmt_code c.args.context.now.size (scope_in c.args.context.now) (in_body (texts_view c.args.own.now) (labels_view c.args.labels.now)) [] (stmt_view c.args.body.now)) ▹ again) c.requires.narrow.1.1).1)

pub emit_while-returns : goal.emit_while-returns
emit_while-returns t c =
    on_ok_weaker c.close_loop.result
    (loop_given c.args.output.now c.open_loop.new.output c.branch-output.new.output c.close_loop.new.output ((test_code c.args.context.now.size (scope_in c.args.context.now) (Some (expr_view c.args.condition.now))) ⊕ (block None (stmt_code c.args.context.now.size (scope_in c.args.context.now) (in_body (texts_view c.args.own.now) (labels_view c.args.labels.now)) [] (stmt_view c.args.body.now)) ▹ again)) c.in_ok-open_loop.ensures
    (joined c.open_loop.new.output c.emit_condition.new.output c.branch-output.new.output (test_code c.args.context.now.size (scope_in c.args.context.now) (Some (expr_view c.args.condition.now))) (block None (stmt_code c.args.context.now.size (scope_in c.args.context.now) (in_body (texts_view c.args.own.now) (labels_view c.args.labels.now)) [] (stmt_view c.args.body.now)) ▹ again) c.in_ok-emit_condition.ensures
    (joined c.emit_condition.new.output c.emit_block.new.output c.branch-output.new.output (block None (stmt_code c.args.context.now.size (scope_in c.args.context.now) (in_body (texts_view c.args.own.now) (labels_view c.args.labels.now)) [] (stmt_view c.args.body.now)) ▹ ε) again
    (block_along c.args.context.now.size (scope_in c.args.context.now) _ (in_body (texts_view c.args.own.now) (labels_view c.args.labels.now)) [] (stmt_view c.args.body.now) c.emit_condition.new.output c.emit_block.new.output (body_in _ _ _ _ refl refl) c.in_ok-emit_block.ensures)
    c.in_ok-branch.ensures)))
    c.close_loop.ensures

pub emit_do-emit_block-requires : goal.emit_do-emit_block-requires
emit_do-emit_block-requires t c =
    let d0 = c.decreases in
    (omega arith, under_block c.args.context.now.size (scope_in c.args.context.now) _ (in_body (texts_view c.args.own.now) (labels_view c.args.labels.now)) [] (stmt_view c.args.body.now) (body_in _ _ _ _ refl refl) c.requires.narrow.1.1.1)

pub emit_do-emit-requires : goal.emit_do-emit-requires
emit_do-emit-requires t c =
    record { narrow = first_part IsNarrow (value_code c.args.context.now.size (scope_in c.args.context.now) 0 (expr_view c.args.condition.now)) (br_if 0 ▹ ε) c.requires.narrow.1.1.2 }

pub emit_do-returns : goal.emit_do-returns
emit_do-returns t c =
    on_ok_weaker c.close_loop.result
    (loop_given c.args.output.now c.open_loop.new.output c.push.new.self c.close_loop.new.output (block None (stmt_code c.args.context.now.size (scope_in c.args.context.now) (in_body (texts_view c.args.own.now) (labels_view c.args.labels.now)) [] (stmt_view c.args.body.now)) ▹ ((value_code c.args.context.now.size (scope_in c.args.context.now) 0 (expr_view c.args.condition.now)) ⊕ (br_if 0 ▹ ε))) c.in_ok-open_loop.ensures
    (joined c.open_loop.new.output c.emit_block.new.output c.push.new.self (block None (stmt_code c.args.context.now.size (scope_in c.args.context.now) (in_body (texts_view c.args.own.now) (labels_view c.args.labels.now)) [] (stmt_view c.args.body.now)) ▹ ε) ((value_code c.args.context.now.size (scope_in c.args.context.now) 0 (expr_view c.args.condition.now)) ⊕ (br_if 0 ▹ ε))
    (block_along c.args.context.now.size (scope_in c.args.context.now) _ (in_body (texts_view c.args.own.now) (labels_view c.args.labels.now)) [] (stmt_view c.args.body.now) c.open_loop.new.output c.emit_block.new.output (body_in _ _ _ _ refl refl) c.in_ok-emit_block.ensures)
    (joined c.emit_block.new.output c.emit.new.output c.push.new.self (value_code c.args.context.now.size (scope_in c.args.context.now) 0 (expr_view c.args.condition.now)) (br_if 0 ▹ ε) c.in_ok-emit.ensures c.in_ok-push.ensures)))
    c.close_loop.ensures

pub emit_stmts-emit_stmt-requires : goal.emit_stmts-emit_stmt-requires
emit_stmts-emit_stmt-requires t c =
    let d0 = c.decreases in
    let k = stmts_left c.args.stmts.now c.loop-stmt.stmt-index c.stmt-item.result c.loop-stmt-test.true c.stmt-item.is in
    let left = c.loop-stmt.invariant.left in
    (omega arith, first_narrow (stmts_code c.args.context.now.size (scope_in c.args.context.now) (labels_view c.args.labels.now) (stmts_view (drop c.loop-stmt.stmt-index c.args.stmts.now))) (stmt_code c.args.context.now.size (scope_in c.args.context.now) (labels_view c.args.labels.now) [] (stmt_view c.stmt-item.result)) (stmts_code c.args.context.now.size (scope_in c.args.context.now) (labels_view c.args.labels.now) (stmts_view (drop (c.loop-stmt.stmt-index + 1) c.args.stmts.now))) (stmts_turn c.args.context.now.size (scope_in c.args.context.now) (labels_view c.args.labels.now) c.args.stmts.now c.loop-stmt.stmt-index c.stmt-item.result c.loop-stmt-test.true c.stmt-item.is) c.loop-stmt.invariant.narrow)

pub emit_stmts-loop-stmt-preserved : goal.emit_stmts-loop-stmt-preserved
emit_stmts-loop-stmt-preserved t c =
    let k = stmts_left c.args.stmts.now c.loop-stmt.stmt-index c.stmt-item.result c.loop-stmt-test.true c.stmt-item.is in
    let left = c.loop-stmt.invariant.left in
    record {
      given = turned (c.args.output.now ++ flat (stmts_code c.args.context.now.size (scope_in c.args.context.now) (labels_view c.args.labels.now) (stmts_view c.args.stmts.now))) c.loop-stmt.output c.emit_stmt.new.output (stmts_code c.args.context.now.size (scope_in c.args.context.now) (labels_view c.args.labels.now) (stmts_view (drop c.loop-stmt.stmt-index c.args.stmts.now))) (stmt_code c.args.context.now.size (scope_in c.args.context.now) (labels_view c.args.labels.now) [] (stmt_view c.stmt-item.result)) (stmts_code c.args.context.now.size (scope_in c.args.context.now) (labels_view c.args.labels.now) (stmts_view (drop (c.loop-stmt.stmt-index + 1) c.args.stmts.now))) c.loop-stmt.invariant.given (stmts_turn c.args.context.now.size (scope_in c.args.context.now) (labels_view c.args.labels.now) c.args.stmts.now c.loop-stmt.stmt-index c.stmt-item.result c.loop-stmt-test.true c.stmt-item.is) c.in_ok-emit_stmt.ensures;
      narrow = rest_narrow (stmts_code c.args.context.now.size (scope_in c.args.context.now) (labels_view c.args.labels.now) (stmts_view (drop c.loop-stmt.stmt-index c.args.stmts.now))) (stmt_code c.args.context.now.size (scope_in c.args.context.now) (labels_view c.args.labels.now) [] (stmt_view c.stmt-item.result)) (stmts_code c.args.context.now.size (scope_in c.args.context.now) (labels_view c.args.labels.now) (stmts_view (drop (c.loop-stmt.stmt-index + 1) c.args.stmts.now))) (stmts_turn c.args.context.now.size (scope_in c.args.context.now) (labels_view c.args.labels.now) c.args.stmts.now c.loop-stmt.stmt-index c.stmt-item.result c.loop-stmt-test.true c.stmt-item.is) c.loop-stmt.invariant.narrow;
      left = omega arith;
    }

pub emit_stmts-returns : goal.emit_stmts-returns
emit_stmts-returns t c =
    none_left (c.args.output.now ++ flat (stmts_code c.args.context.now.size (scope_in c.args.context.now) (labels_view c.args.labels.now) (stmts_view c.args.stmts.now))) c.loop-stmt.output (stmts_code c.args.context.now.size (scope_in c.args.context.now) (labels_view c.args.labels.now) (stmts_view (drop c.loop-stmt.stmt-index c.args.stmts.now))) c.loop-stmt.invariant.given (no_stmts_left c.args.context.now.size (scope_in c.args.context.now) (labels_view c.args.labels.now) c.args.stmts.now c.loop-stmt.stmt-index c.loop-stmt-test.false)

pub emit_switch-emit_subject-requires : goal.emit_switch-emit_subject-requires
emit_switch-emit_subject-requires t c =
    record { narrow = first_part IsNarrow (subject_code c.args.context.now.size (scope_in c.args.context.now) (expr_view c.args.subject.now)) (if is_short (clauses_view c.args.clauses.now) then (few_code c.args.context.now.size (scope_in c.args.context.now) (labels_view c.args.labels.now) (clauses_view c.args.clauses.now)) else (many_code c.args.context.now.size (scope_in c.args.context.now) (labels_view c.args.labels.now) (clauses_view c.args.clauses.now))) c.requires.narrow }

pub emit_switch-short_switch-requires : goal.emit_switch-short_switch-requires
emit_switch-short_switch-requires t c =
    let d0 = c.decreases in
    (omega arith, (c.if-clauses-le-MOST_BLOCKS.true, subst (λ (b : Bool). EachIn IsNarrow (if b then (few_code c.args.context.now.size (scope_in c.args.context.now) (labels_view c.args.labels.now) (clauses_view c.args.clauses.now)) else (many_code c.args.context.now.size (scope_in c.args.context.now) (labels_view c.args.labels.now) (clauses_view c.args.clauses.now)))) (short_is c.args.clauses.now c.if-clauses-le-MOST_BLOCKS.true) (second_part IsNarrow (subject_code c.args.context.now.size (scope_in c.args.context.now) (expr_view c.args.subject.now)) (if is_short (clauses_view c.args.clauses.now) then (few_code c.args.context.now.size (scope_in c.args.context.now) (labels_view c.args.labels.now) (clauses_view c.args.clauses.now)) else (many_code c.args.context.now.size (scope_in c.args.context.now) (labels_view c.args.labels.now) (clauses_view c.args.clauses.now))) c.requires.narrow)))

pub emit_switch-long_switch-requires : goal.emit_switch-long_switch-requires
emit_switch-long_switch-requires t c =
    let d0 = c.decreases in
    (omega arith, subst (λ (b : Bool). EachIn IsNarrow (if b then (few_code c.args.context.now.size (scope_in c.args.context.now) (labels_view c.args.labels.now) (clauses_view c.args.clauses.now)) else (many_code c.args.context.now.size (scope_in c.args.context.now) (labels_view c.args.labels.now) (clauses_view c.args.clauses.now)))) (long_is c.args.clauses.now c.if-clauses-le-MOST_BLOCKS.false) (second_part IsNarrow (subject_code c.args.context.now.size (scope_in c.args.context.now) (expr_view c.args.subject.now)) (if is_short (clauses_view c.args.clauses.now) then (few_code c.args.context.now.size (scope_in c.args.context.now) (labels_view c.args.labels.now) (clauses_view c.args.clauses.now)) else (many_code c.args.context.now.size (scope_in c.args.context.now) (labels_view c.args.labels.now) (clauses_view c.args.clauses.now))) c.requires.narrow))

pub emit_switch-returns-then-clauses-le-MOST_BLOCKS : goal.emit_switch-returns-then-clauses-le-MOST_BLOCKS
emit_switch-returns-then-clauses-le-MOST_BLOCKS t c =
    on_ok_weaker c.short_switch.result
    (λ given. joined c.args.output.now c.emit_subject.new.output c.short_switch.new.output (subject_code c.args.context.now.size (scope_in c.args.context.now) (expr_view c.args.subject.now)) (if is_short (clauses_view c.args.clauses.now) then (few_code c.args.context.now.size (scope_in c.args.context.now) (labels_view c.args.labels.now) (clauses_view c.args.clauses.now)) else (many_code c.args.context.now.size (scope_in c.args.context.now) (labels_view c.args.labels.now) (clauses_view c.args.clauses.now))) c.in_ok-emit_subject.ensures
    (given ∙ ap (λ b. c.emit_subject.new.output ++ flat (if b then (few_code c.args.context.now.size (scope_in c.args.context.now) (labels_view c.args.labels.now) (clauses_view c.args.clauses.now)) else (many_code c.args.context.now.size (scope_in c.args.context.now) (labels_view c.args.labels.now) (clauses_view c.args.clauses.now)))) (sym (short_is c.args.clauses.now c.if-clauses-le-MOST_BLOCKS.true))))
    c.short_switch.ensures

pub emit_switch-returns-else-clauses-le-MOST_BLOCKS : goal.emit_switch-returns-else-clauses-le-MOST_BLOCKS
emit_switch-returns-else-clauses-le-MOST_BLOCKS t c =
    on_ok_weaker c.long_switch.result
    (λ given. joined c.args.output.now c.emit_subject.new.output c.long_switch.new.output (subject_code c.args.context.now.size (scope_in c.args.context.now) (expr_view c.args.subject.now)) (if is_short (clauses_view c.args.clauses.now) then (few_code c.args.context.now.size (scope_in c.args.context.now) (labels_view c.args.labels.now) (clauses_view c.args.clauses.now)) else (many_code c.args.context.now.size (scope_in c.args.context.now) (labels_view c.args.labels.now) (clauses_view c.args.clauses.now))) c.in_ok-emit_subject.ensures
    (given ∙ ap (λ b. c.emit_subject.new.output ++ flat (if b then (few_code c.args.context.now.size (scope_in c.args.context.now) (labels_view c.args.labels.now) (clauses_view c.args.clauses.now)) else (many_code c.args.context.now.size (scope_in c.args.context.now) (labels_view c.args.labels.now) (clauses_view c.args.clauses.now)))) (sym (long_is c.args.clauses.now c.if-clauses-le-MOST_BLOCKS.false))))
    c.long_switch.ensures

pub short_switch-dispatch-requires-clause-narrow : goal.short_switch-dispatch-requires-clause-narrow
short_switch-dispatch-requires-clause-narrow t c =
    subst (λ (x : ℕ). EachIn IsNarrow (dispatch x (clauses_view c.args.clauses.now))) (sym c.scratch-subject.ensures.first) (short_inside c.args.context.now.size (scope_in c.args.context.now) (labels_view c.args.labels.now) (dispatch (value_local c.args.context.now.size (scope_in c.args.context.now)) (clauses_view c.args.clauses.now)) (clauses_view c.args.clauses.now) c.requires.narrow.1)

pub short_switch-short_clauses-requires : goal.short_switch-short_clauses-requires
short_switch-short_clauses-requires t c =
    let d0 = c.decreases in
    (omega arith, short_with c.args.context.now.size (scope_in c.args.context.now) (labels_view c.args.labels.now) (dispatch (value_local c.args.context.now.size (scope_in c.args.context.now)) (clauses_view c.args.clauses.now)) ε (clauses_view c.args.clauses.now) c.requires.narrow.1 tt)

pub short_switch-returns : goal.short_switch-returns
short_switch-returns t c =
    on_ok_weaker c.push.result
    (few_given c.args.context.now.size (scope_in c.args.context.now) (labels_view c.args.labels.now) c.args.clauses.now c.args.output.now c.open_blocks.new.output c.dispatch.new.output c.short_clauses.new.output c.push.new.self c.in_ok-open_blocks.ensures
    (c.in_ok-dispatch.ensures ∙ ap (λ x. c.open_blocks.new.output ++ flat (dispatch x (clauses_view c.args.clauses.now))) c.scratch-subject.ensures.first) c.in_ok-short_clauses.ensures)
    c.push.ensures

pub short_clauses-overflow_sub-after : goal.short_clauses-overflow_sub-after
short_clauses-overflow_sub-after t c =
    let sum = c.loop-clause.invariant.after_is in
    omega arith

pub short_clauses-emit_stmts-requires : goal.short_clauses-emit_stmts-requires
short_clauses-emit_stmts-requires t c =
    let d0 = c.decreases in
    let n : c.loop-clause.after - 1 ≡ length (drop (c.loop-clause.clause-index + 1) c.args.clauses.now) = omega (arith, length-drop (c.loop-clause.clause-index + 1) c.args.clauses.now, c.loop-clause.invariant.after_is) in
    let k = clauses_left c.args.clauses.now c.loop-clause.clause-index c.clause-item.result c.loop-clause-test.true c.clause-item.is in
    let left = c.loop-clause.invariant.left in
    let body = ap (λ (l : List Stmt). stmts_count (stmts_view l)) c.as_slice.ensures in
    (omega arith, under_stmts c.args.context.now.size (scope_in c.args.context.now) _ (replicate (c.loop-clause.after - 1) plainly ++ breakable ∷ (labels_view c.args.labels.now)) c.as_slice.result.now (list_items c.clause-item.result.body) (clause_in (c.loop-clause.after - 1) _ _ refl) c.as_slice.ensures (first_clause_narrow c.args.context.now.size (scope_in c.args.context.now) (labels_view c.args.labels.now) c.args.clauses.now c.loop-clause.clause-index c.clause-item.result (c.loop-clause.after - 1) c.loop-clause-test.true c.clause-item.is n c.loop-clause.invariant.narrow))

pub short_clauses-loop-clause-preserved : goal.short_clauses-loop-clause-preserved
short_clauses-loop-clause-preserved t c =
    let n : c.loop-clause.after - 1 ≡ length (drop (c.loop-clause.clause-index + 1) c.args.clauses.now) = omega (arith, length-drop (c.loop-clause.clause-index + 1) c.args.clauses.now, c.loop-clause.invariant.after_is) in
    let k = clauses_left c.args.clauses.now c.loop-clause.clause-index c.clause-item.result c.loop-clause-test.true c.clause-item.is in
    let left = c.loop-clause.invariant.left in
    let sum = c.loop-clause.invariant.after_is in
    record {
      after_is = omega arith;
      given = clause_step (c.args.output.now ++ clauses_spelled c.args.context.now.size (scope_in c.args.context.now) (labels_view c.args.labels.now) (clauses_view c.args.clauses.now)) c.loop-clause.output c.push.new.self c.emit_stmts.new.output (clauses_spelled c.args.context.now.size (scope_in c.args.context.now) (labels_view c.args.labels.now) (clauses_view (drop c.loop-clause.clause-index c.args.clauses.now))) (flat (stmts_code c.args.context.now.size (scope_in c.args.context.now) (replicate (c.loop-clause.after - 1) plainly ++ breakable ∷ (labels_view c.args.labels.now)) (stmts_view (list_items c.clause-item.result.body)))) (clauses_spelled c.args.context.now.size (scope_in c.args.context.now) (labels_view c.args.labels.now) (clauses_view (drop (c.loop-clause.clause-index + 1) c.args.clauses.now))) c.loop-clause.invariant.given
          (spelled_turn c.args.context.now.size (scope_in c.args.context.now) (labels_view c.args.labels.now) c.args.clauses.now c.loop-clause.clause-index c.clause-item.result (c.loop-clause.after - 1) c.loop-clause-test.true c.clause-item.is n) c.in_ok-push.ensures
          (stmts_along c.args.context.now.size (scope_in c.args.context.now) _ (replicate (c.loop-clause.after - 1) plainly ++ breakable ∷ (labels_view c.args.labels.now)) c.as_slice.result.now (list_items c.clause-item.result.body) c.push.new.self c.emit_stmts.new.output (clause_in (c.loop-clause.after - 1) _ _ refl) c.as_slice.ensures c.in_ok-emit_stmts.ensures);
      narrow = rest_clauses_narrow c.args.context.now.size (scope_in c.args.context.now) (labels_view c.args.labels.now) c.args.clauses.now c.loop-clause.clause-index c.clause-item.result c.loop-clause-test.true c.clause-item.is c.loop-clause.invariant.narrow;
      left = omega arith;
    }

pub short_clauses-returns : goal.short_clauses-returns
short_clauses-returns t c =
    sym (c.loop-clause.invariant.given ∙ ap (λ l. c.loop-clause.output ++ l) (none_spelled c.args.context.now.size (scope_in c.args.context.now) (labels_view c.args.labels.now) c.args.clauses.now c.loop-clause.clause-index c.loop-clause-test.false) ∙ append-nil c.loop-clause.output)

pub long_switch-current-requires : goal.long_switch-current-requires
long_switch-current-requires t c =
    let fits = number_fits (value_local c.args.context.now.size (scope_in c.args.context.now)) (number_local c.args.context.now.size (scope_in c.args.context.now)) (clauses_view c.args.clauses.now) (first_part IsNarrow (first_clause (value_local c.args.context.now.size (scope_in c.args.context.now)) (number_local c.args.context.now.size (scope_in c.args.context.now)) (clauses_view c.args.clauses.now)) (block None (long_code c.args.context.now.size (scope_in c.args.context.now) (labels_view c.args.labels.now) 0 (clauses_view c.args.clauses.now)) ▹ ε) c.requires.narrow) in
    let first = c.scratch-scratch.ensures.first in
    let depth = c.scratch-scratch.ensures.depth in
    omega arith

pub long_switch-following-number-requires : goal.long_switch-following-number-requires
long_switch-following-number-requires t c =
    let fits = number_fits (value_local c.args.context.now.size (scope_in c.args.context.now)) (number_local c.args.context.now.size (scope_in c.args.context.now)) (clauses_view c.args.clauses.now) (first_part IsNarrow (first_clause (value_local c.args.context.now.size (scope_in c.args.context.now)) (number_local c.args.context.now.size (scope_in c.args.context.now)) (clauses_view c.args.clauses.now)) (block None (long_code c.args.context.now.size (scope_in c.args.context.now) (labels_view c.args.labels.now) 0 (clauses_view c.args.clauses.now)) ▹ ε) c.requires.narrow) in
    let first = c.scratch-scratch.ensures.first in
    let depth = c.scratch-scratch.ensures.depth in
    omega arith

pub long_switch-first_clause-requires : goal.long_switch-first_clause-requires
long_switch-first_clause-requires t c =
    let first = c.scratch-scratch.ensures.first in
    let depth = c.scratch-scratch.ensures.depth in
    let x : c.current.result ≡ (value_local c.args.context.now.size (scope_in c.args.context.now)) = omega (arith, c.current.ensures) in
    let k : c.following-number.result ≡ (number_local c.args.context.now.size (scope_in c.args.context.now)) = omega (arith, c.following-number.ensures) in
    record { narrow = subst (λ (y : ℕ). EachIn IsNarrow (first_clause y c.following-number.result (clauses_view c.args.clauses.now))) (sym x) (subst (λ (y : ℕ). EachIn IsNarrow (first_clause (value_local c.args.context.now.size (scope_in c.args.context.now)) y (clauses_view c.args.clauses.now))) (sym k) (first_part IsNarrow (first_clause (value_local c.args.context.now.size (scope_in c.args.context.now)) (number_local c.args.context.now.size (scope_in c.args.context.now)) (clauses_view c.args.clauses.now)) (block None (long_code c.args.context.now.size (scope_in c.args.context.now) (labels_view c.args.labels.now) 0 (clauses_view c.args.clauses.now)) ▹ ε) c.requires.narrow)) }

pub long_switch-long_clauses-requires : goal.long_switch-long_clauses-requires
long_switch-long_clauses-requires t c =
    let d0 = c.decreases in
    let first = c.scratch-scratch.ensures.first in
    let depth = c.scratch-scratch.ensures.depth in
    (omega arith, (omega (arith, c.following-number.ensures), (second_part IsNarrow (first_clause (value_local c.args.context.now.size (scope_in c.args.context.now)) (number_local c.args.context.now.size (scope_in c.args.context.now)) (clauses_view c.args.clauses.now)) (block None (long_code c.args.context.now.size (scope_in c.args.context.now) (labels_view c.args.labels.now) 0 (clauses_view c.args.clauses.now)) ▹ ε) c.requires.narrow).1))

pub long_switch-returns : goal.long_switch-returns
long_switch-returns t c =
    let first = c.scratch-scratch.ensures.first in
    let depth = c.scratch-scratch.ensures.depth in
    let x : c.current.result ≡ (value_local c.args.context.now.size (scope_in c.args.context.now)) = omega (arith, c.current.ensures) in
    let k : c.following-number.result ≡ (number_local c.args.context.now.size (scope_in c.args.context.now)) = omega (arith, c.following-number.ensures) in
    on_ok_weaker c.push-2.result
    (λ given. joined c.args.output.now c.first_clause.new.output c.push-2.new.self (first_clause (value_local c.args.context.now.size (scope_in c.args.context.now)) (number_local c.args.context.now.size (scope_in c.args.context.now)) (clauses_view c.args.clauses.now)) (block None (long_code c.args.context.now.size (scope_in c.args.context.now) (labels_view c.args.labels.now) 0 (clauses_view c.args.clauses.now)) ▹ ε)
    (c.in_ok-first_clause.ensures ∙ ap (λ y. c.args.output.now ++ flat (first_clause y c.following-number.result (clauses_view c.args.clauses.now))) x ∙ ap (λ y. c.args.output.now ++ flat (first_clause (value_local c.args.context.now.size (scope_in c.args.context.now)) y (clauses_view c.args.clauses.now))) k)
    (block_round c.first_clause.new.output c.push.new.self c.long_clauses.new.output c.push-2.new.self None (long_code c.args.context.now.size (scope_in c.args.context.now) (labels_view c.args.labels.now) 0 (clauses_view c.args.clauses.now)) c.in_ok-push.ensures c.in_ok-long_clauses.ensures given))
    c.push-2.ensures

pub long_clauses-reached-requires : goal.long_clauses-reached-requires
long_clauses-reached-requires t c =
    record { narrow = subst (λ (n : ℕ). EachIn IsNarrow (reached n c.loop-j.j)) (sym c.requires.number_is) (first_part IsNarrow (reached (number_local c.args.context.now.size (scope_in c.args.context.now)) c.loop-j.j) (if_block None ((stmts_code c.args.context.now.size (scope_in c.args.context.now) (plainly ∷ breakable ∷ (labels_view c.args.labels.now)) (stmts_view (list_items c.index-clauses-j.result.body))) ⊕ (all_further (number_local c.args.context.now.size (scope_in c.args.context.now)))) ε ▹ ε) (first_narrow (long_code c.args.context.now.size (scope_in c.args.context.now) (labels_view c.args.labels.now) c.loop-j.j (clauses_view (drop c.loop-j.j c.args.clauses.now))) (clause_code c.args.context.now.size (scope_in c.args.context.now) (labels_view c.args.labels.now) c.loop-j.j (stmts_view (list_items c.index-clauses-j.result.body))) (long_code c.args.context.now.size (scope_in c.args.context.now) (labels_view c.args.labels.now) (c.loop-j.j + 1) (clauses_view (drop (c.loop-j.j + 1) c.args.clauses.now))) (long_turn c.args.context.now.size (scope_in c.args.context.now) (labels_view c.args.labels.now) c.args.clauses.now c.loop-j.j c.index-clauses-j.result c.loop-j-test.true c.index-clauses-j.is) c.loop-j.invariant.narrow)) }

pub long_clauses-emit_stmts-requires : goal.long_clauses-emit_stmts-requires
long_clauses-emit_stmts-requires t c =
    let d0 = c.decreases in
    let k = clauses_left c.args.clauses.now c.loop-j.j c.index-clauses-j.result c.loop-j-test.true c.index-clauses-j.is in
    let left = c.loop-j.invariant.left in
    let body = ap (λ (l : List Stmt). stmts_count (stmts_view l)) c.as_slice.ensures in
    (omega arith, under_stmts c.args.context.now.size (scope_in c.args.context.now) _ (plainly ∷ breakable ∷ (labels_view c.args.labels.now)) c.as_slice.result.now (list_items c.index-clauses-j.result.body) (clause_in 1 _ _ refl) c.as_slice.ensures (first_part IsNarrow (stmts_code c.args.context.now.size (scope_in c.args.context.now) (plainly ∷ breakable ∷ (labels_view c.args.labels.now)) (stmts_view (list_items c.index-clauses-j.result.body))) (all_further (number_local c.args.context.now.size (scope_in c.args.context.now))) (second_part IsNarrow (reached (number_local c.args.context.now.size (scope_in c.args.context.now)) c.loop-j.j) (if_block None ((stmts_code c.args.context.now.size (scope_in c.args.context.now) (plainly ∷ breakable ∷ (labels_view c.args.labels.now)) (stmts_view (list_items c.index-clauses-j.result.body))) ⊕ (all_further (number_local c.args.context.now.size (scope_in c.args.context.now)))) ε ▹ ε) (first_narrow (long_code c.args.context.now.size (scope_in c.args.context.now) (labels_view c.args.labels.now) c.loop-j.j (clauses_view (drop c.loop-j.j c.args.clauses.now))) (clause_code c.args.context.now.size (scope_in c.args.context.now) (labels_view c.args.labels.now) c.loop-j.j (stmts_view (list_items c.index-clauses-j.result.body))) (long_code c.args.context.now.size (scope_in c.args.context.now) (labels_view c.args.labels.now) (c.loop-j.j + 1) (clauses_view (drop (c.loop-j.j + 1) c.args.clauses.now))) (long_turn c.args.context.now.size (scope_in c.args.context.now) (labels_view c.args.labels.now) c.args.clauses.now c.loop-j.j c.index-clauses-j.result c.loop-j-test.true c.index-clauses-j.is) c.loop-j.invariant.narrow)).1))

pub long_clauses-all_further-requires : goal.long_clauses-all_further-requires
long_clauses-all_further-requires t c =
    record { narrow = subst (λ (n : ℕ). EachIn IsNarrow (all_further n)) (sym c.requires.number_is) (second_part IsNarrow (stmts_code c.args.context.now.size (scope_in c.args.context.now) (plainly ∷ breakable ∷ (labels_view c.args.labels.now)) (stmts_view (list_items c.index-clauses-j.result.body))) (all_further (number_local c.args.context.now.size (scope_in c.args.context.now))) (second_part IsNarrow (reached (number_local c.args.context.now.size (scope_in c.args.context.now)) c.loop-j.j) (if_block None ((stmts_code c.args.context.now.size (scope_in c.args.context.now) (plainly ∷ breakable ∷ (labels_view c.args.labels.now)) (stmts_view (list_items c.index-clauses-j.result.body))) ⊕ (all_further (number_local c.args.context.now.size (scope_in c.args.context.now)))) ε ▹ ε) (first_narrow (long_code c.args.context.now.size (scope_in c.args.context.now) (labels_view c.args.labels.now) c.loop-j.j (clauses_view (drop c.loop-j.j c.args.clauses.now))) (clause_code c.args.context.now.size (scope_in c.args.context.now) (labels_view c.args.labels.now) c.loop-j.j (stmts_view (list_items c.index-clauses-j.result.body))) (long_code c.args.context.now.size (scope_in c.args.context.now) (labels_view c.args.labels.now) (c.loop-j.j + 1) (clauses_view (drop (c.loop-j.j + 1) c.args.clauses.now))) (long_turn c.args.context.now.size (scope_in c.args.context.now) (labels_view c.args.labels.now) c.args.clauses.now c.loop-j.j c.index-clauses-j.result c.loop-j-test.true c.index-clauses-j.is) c.loop-j.invariant.narrow)).1) }

pub long_clauses-loop-j-preserved : goal.long_clauses-loop-j-preserved
long_clauses-loop-j-preserved t c =
    let k = clauses_left c.args.clauses.now c.loop-j.j c.index-clauses-j.result c.loop-j-test.true c.index-clauses-j.is in
    let left = c.loop-j.invariant.left in
    record {
      given = turned (c.args.output.now ++ flat (long_code c.args.context.now.size (scope_in c.args.context.now) (labels_view c.args.labels.now) 0 (clauses_view c.args.clauses.now))) c.loop-j.output c.push-in-loop-j.new.self (long_code c.args.context.now.size (scope_in c.args.context.now) (labels_view c.args.labels.now) c.loop-j.j (clauses_view (drop c.loop-j.j c.args.clauses.now))) (clause_code c.args.context.now.size (scope_in c.args.context.now) (labels_view c.args.labels.now) c.loop-j.j (stmts_view (list_items c.index-clauses-j.result.body))) (long_code c.args.context.now.size (scope_in c.args.context.now) (labels_view c.args.labels.now) (c.loop-j.j + 1) (clauses_view (drop (c.loop-j.j + 1) c.args.clauses.now))) c.loop-j.invariant.given (long_turn c.args.context.now.size (scope_in c.args.context.now) (labels_view c.args.labels.now) c.args.clauses.now c.loop-j.j c.index-clauses-j.result c.loop-j-test.true c.index-clauses-j.is)
          (joined c.loop-j.output c.reached.new.output c.push-in-loop-j.new.self (reached (number_local c.args.context.now.size (scope_in c.args.context.now)) c.loop-j.j) (if_block None ((stmts_code c.args.context.now.size (scope_in c.args.context.now) (plainly ∷ breakable ∷ (labels_view c.args.labels.now)) (stmts_view (list_items c.index-clauses-j.result.body))) ⊕ (all_further (number_local c.args.context.now.size (scope_in c.args.context.now)))) ε ▹ ε)
          (c.in_ok-reached.ensures ∙ ap (λ n. c.loop-j.output ++ flat (reached n c.loop-j.j)) c.requires.number_is)
          (if_round c.reached.new.output c.push.new.self c.all_further.new.output c.push-in-loop-j.new.self None ((stmts_code c.args.context.now.size (scope_in c.args.context.now) (plainly ∷ breakable ∷ (labels_view c.args.labels.now)) (stmts_view (list_items c.index-clauses-j.result.body))) ⊕ (all_further (number_local c.args.context.now.size (scope_in c.args.context.now)))) c.in_ok-push.ensures
          (joined c.push.new.self c.emit_stmts.new.output c.all_further.new.output (stmts_code c.args.context.now.size (scope_in c.args.context.now) (plainly ∷ breakable ∷ (labels_view c.args.labels.now)) (stmts_view (list_items c.index-clauses-j.result.body))) (all_further (number_local c.args.context.now.size (scope_in c.args.context.now)))
          (stmts_along c.args.context.now.size (scope_in c.args.context.now) _ (plainly ∷ breakable ∷ (labels_view c.args.labels.now)) c.as_slice.result.now (list_items c.index-clauses-j.result.body) c.push.new.self c.emit_stmts.new.output (clause_in 1 _ _ refl) c.as_slice.ensures c.in_ok-emit_stmts.ensures)
          (c.in_ok-all_further.ensures ∙ ap (λ n. c.emit_stmts.new.output ++ flat (all_further n)) c.requires.number_is))
          c.in_ok-push-2.ensures));
      narrow = rest_narrow (long_code c.args.context.now.size (scope_in c.args.context.now) (labels_view c.args.labels.now) c.loop-j.j (clauses_view (drop c.loop-j.j c.args.clauses.now))) (clause_code c.args.context.now.size (scope_in c.args.context.now) (labels_view c.args.labels.now) c.loop-j.j (stmts_view (list_items c.index-clauses-j.result.body))) (long_code c.args.context.now.size (scope_in c.args.context.now) (labels_view c.args.labels.now) (c.loop-j.j + 1) (clauses_view (drop (c.loop-j.j + 1) c.args.clauses.now))) (long_turn c.args.context.now.size (scope_in c.args.context.now) (labels_view c.args.labels.now) c.args.clauses.now c.loop-j.j c.index-clauses-j.result c.loop-j-test.true c.index-clauses-j.is) c.loop-j.invariant.narrow;
      left = omega arith;
    }

pub long_clauses-returns : goal.long_clauses-returns
long_clauses-returns t c =
    none_left (c.args.output.now ++ flat (long_code c.args.context.now.size (scope_in c.args.context.now) (labels_view c.args.labels.now) 0 (clauses_view c.args.clauses.now))) c.loop-j.output (long_code c.args.context.now.size (scope_in c.args.context.now) (labels_view c.args.labels.now) c.loop-j.j (clauses_view (drop c.loop-j.j c.args.clauses.now))) c.loop-j.invariant.given (no_long_left c.args.context.now.size (scope_in c.args.context.now) (labels_view c.args.labels.now) c.args.clauses.now c.loop-j.j c.loop-j-test.false)

pub emit_stmt-emit_stmts-requires : goal.emit_stmt-emit_stmts-requires
emit_stmt-emit_stmts-requires t c =
    let d0 = c.decreases in
    let k = ap stmt_count (block_is c.args.stmt.now _ c.as_slice.result.now c.in-Block.is c.as_slice.ensures) in
    (omega arith, narrow_form c.args.context.now.size (scope_in c.args.context.now) (labels_view c.args.labels.now) (texts_view c.args.own.now) (stmt_view c.args.stmt.now) _ (block_is c.args.stmt.now _ c.as_slice.result.now c.in-Block.is c.as_slice.ensures) c.requires.narrow)

pub emit_stmt-returns-in-Block : goal.emit_stmt-returns-in-Block
emit_stmt-returns-in-Block t c =
    of_form c.args.context.now.size (scope_in c.args.context.now) (labels_view c.args.labels.now) (texts_view c.args.own.now) (stmt_view c.args.stmt.now) _ (block_is c.args.stmt.now _ c.as_slice.result.now c.in-Block.is c.as_slice.ensures) c.args.output.now c.emit_stmts.new.output c.emit_stmts.result _ refl c.emit_stmts.ensures

pub emit_stmt-emit-requires : goal.emit_stmt-emit-requires
emit_stmt-emit-requires t c =
    record { narrow = narrow_form c.args.context.now.size (scope_in c.args.context.now) (labels_view c.args.labels.now) (texts_view c.args.own.now) (stmt_view c.args.stmt.now) _ (plain_is c.args.stmt.now c.in-Plain.expr c.in-Plain.is) c.requires.narrow }

pub emit_stmt-returns-in-Plain : goal.emit_stmt-returns-in-Plain
emit_stmt-returns-in-Plain t c =
    of_form c.args.context.now.size (scope_in c.args.context.now) (labels_view c.args.labels.now) (texts_view c.args.own.now) (stmt_view c.args.stmt.now) _ (plain_is c.args.stmt.now c.in-Plain.expr c.in-Plain.is) c.args.output.now c.emit.new.output c.emit.result _ refl c.emit.ensures

pub emit_stmt-emit_if-requires : goal.emit_stmt-emit_if-requires
emit_stmt-emit_if-requires t c =
    let d0 = c.decreases in
    let k = ap stmt_count (if_only_is c.args.stmt.now c.in-If.condition _ _ c.deref.result.now c.in-If.is c.in-None.is c.deref.ensures) in
    (omega arith, narrow_form c.args.context.now.size (scope_in c.args.context.now) (labels_view c.args.labels.now) (texts_view c.args.own.now) (stmt_view c.args.stmt.now) _ (if_only_is c.args.stmt.now c.in-If.condition _ _ c.deref.result.now c.in-If.is c.in-None.is c.deref.ensures) c.requires.narrow)

pub emit_stmt-returns-in-None : goal.emit_stmt-returns-in-None
emit_stmt-returns-in-None t c =
    of_form c.args.context.now.size (scope_in c.args.context.now) (labels_view c.args.labels.now) (texts_view c.args.own.now) (stmt_view c.args.stmt.now) _ (if_only_is c.args.stmt.now c.in-If.condition _ _ c.deref.result.now c.in-If.is c.in-None.is c.deref.ensures) c.args.output.now c.emit_if.new.output c.emit_if.result _ refl c.emit_if.ensures

pub emit_stmt-emit_if_else-requires : goal.emit_stmt-emit_if_else-requires
emit_stmt-emit_if_else-requires t c =
    let d0 = c.decreases in
    let k = ap stmt_count (if_else_is c.args.stmt.now c.in-If.condition _ _ _ c.deref-in-Some.result.now c.deref-in-Some-2.result.now c.in-If.is c.in-Some.is c.deref-in-Some.ensures c.deref-in-Some-2.ensures) in
    (omega arith, narrow_form c.args.context.now.size (scope_in c.args.context.now) (labels_view c.args.labels.now) (texts_view c.args.own.now) (stmt_view c.args.stmt.now) _ (if_else_is c.args.stmt.now c.in-If.condition _ _ _ c.deref-in-Some.result.now c.deref-in-Some-2.result.now c.in-If.is c.in-Some.is c.deref-in-Some.ensures c.deref-in-Some-2.ensures) c.requires.narrow)

pub emit_stmt-returns-in-Some : goal.emit_stmt-returns-in-Some
emit_stmt-returns-in-Some t c =
    of_form c.args.context.now.size (scope_in c.args.context.now) (labels_view c.args.labels.now) (texts_view c.args.own.now) (stmt_view c.args.stmt.now) _ (if_else_is c.args.stmt.now c.in-If.condition _ _ _ c.deref-in-Some.result.now c.deref-in-Some-2.result.now c.in-If.is c.in-Some.is c.deref-in-Some.ensures c.deref-in-Some-2.ensures) c.args.output.now c.emit_if_else.new.output c.emit_if_else.result _ refl c.emit_if_else.ensures

pub emit_stmt-emit_return-requires : goal.emit_stmt-emit_return-requires
emit_stmt-emit_return-requires t c =
    record { narrow = subst (λ (y : Trees). EachIn IsNarrow y) (return_form c.args.context.now.size (scope_in c.args.context.now) (labels_view c.args.labels.now) (texts_view c.args.own.now) (expr_option c.in-Return.value)) (narrow_form c.args.context.now.size (scope_in c.args.context.now) (labels_view c.args.labels.now) (texts_view c.args.own.now) (stmt_view c.args.stmt.now) _ (return_is c.args.stmt.now c.in-Return.value c.in-Return.is) c.requires.narrow) }

pub emit_stmt-returns-in-Return : goal.emit_stmt-returns-in-Return
emit_stmt-returns-in-Return t c =
    of_form c.args.context.now.size (scope_in c.args.context.now) (labels_view c.args.labels.now) (texts_view c.args.own.now) (stmt_view c.args.stmt.now) _ (return_is c.args.stmt.now c.in-Return.value c.in-Return.is) c.args.output.now c.emit_return.new.output c.emit_return.result _ (return_form c.args.context.now.size (scope_in c.args.context.now) (labels_view c.args.labels.now) (texts_view c.args.own.now) (expr_option c.in-Return.value)) c.emit_return.ensures

pub emit_stmt-emit_while-requires : goal.emit_stmt-emit_while-requires
emit_stmt-emit_while-requires t c =
    let d0 = c.decreases in
    let k = ap stmt_count (while_is c.args.stmt.now c.in-While.condition _ c.deref-in-While.result.now c.in-While.is c.deref-in-While.ensures) in
    (omega arith, narrow_form c.args.context.now.size (scope_in c.args.context.now) (labels_view c.args.labels.now) (texts_view c.args.own.now) (stmt_view c.args.stmt.now) _ (while_is c.args.stmt.now c.in-While.condition _ c.deref-in-While.result.now c.in-While.is c.deref-in-While.ensures) c.requires.narrow)

pub emit_stmt-returns-in-While : goal.emit_stmt-returns-in-While
emit_stmt-returns-in-While t c =
    of_form c.args.context.now.size (scope_in c.args.context.now) (labels_view c.args.labels.now) (texts_view c.args.own.now) (stmt_view c.args.stmt.now) _ (while_is c.args.stmt.now c.in-While.condition _ c.deref-in-While.result.now c.in-While.is c.deref-in-While.ensures) c.args.output.now c.emit_while.new.output c.emit_while.result _ refl c.emit_while.ensures

pub emit_stmt-emit_do-requires : goal.emit_stmt-emit_do-requires
emit_stmt-emit_do-requires t c =
    let d0 = c.decreases in
    let k = ap stmt_count (do_is c.args.stmt.now _ c.in-DoWhile.condition c.deref-in-DoWhile.result.now c.in-DoWhile.is c.deref-in-DoWhile.ensures) in
    (omega arith, narrow_form c.args.context.now.size (scope_in c.args.context.now) (labels_view c.args.labels.now) (texts_view c.args.own.now) (stmt_view c.args.stmt.now) _ (do_is c.args.stmt.now _ c.in-DoWhile.condition c.deref-in-DoWhile.result.now c.in-DoWhile.is c.deref-in-DoWhile.ensures) c.requires.narrow)

pub emit_stmt-returns-in-DoWhile : goal.emit_stmt-returns-in-DoWhile
emit_stmt-returns-in-DoWhile t c =
    of_form c.args.context.now.size (scope_in c.args.context.now) (labels_view c.args.labels.now) (texts_view c.args.own.now) (stmt_view c.args.stmt.now) _ (do_is c.args.stmt.now _ c.in-DoWhile.condition c.deref-in-DoWhile.result.now c.in-DoWhile.is c.deref-in-DoWhile.ensures) c.args.output.now c.emit_do.new.output c.emit_do.result _ refl c.emit_do.ensures

pub emit_stmt-emit_part-requires : goal.emit_stmt-emit_part-requires
emit_stmt-emit_part-requires t c =
    record { narrow = first_part IsNarrow (part_code c.args.context.now.size (scope_in c.args.context.now) (expr_option c.deref-head.result.now.start)) (while_code c.args.context.now.size (scope_in c.args.context.now) (labels_view c.args.labels.now) (texts_view c.args.own.now) (expr_option c.deref-head.result.now.condition) (expr_option c.deref-head.result.now.step) (stmt_view c.in-For.body.value)) (narrow_form c.args.context.now.size (scope_in c.args.context.now) (labels_view c.args.labels.now) (texts_view c.args.own.now) (stmt_view c.args.stmt.now) _ (for_is c.args.stmt.now c.in-For.head c.in-For.body c.deref-head.result.now c.in-For.body.value c.in-For.is c.deref-head.ensures refl) c.requires.narrow) }

pub emit_stmt-emit_loop-requires : goal.emit_stmt-emit_loop-requires
emit_stmt-emit_loop-requires t c =
    let d0 = c.decreases in
    let k = ap stmt_count (for_is c.args.stmt.now c.in-For.head _ c.deref-head.result.now c.deref-in-For.result.now c.in-For.is c.deref-head.ensures c.deref-in-For.ensures) in
    (omega arith, second_part IsNarrow (part_code c.args.context.now.size (scope_in c.args.context.now) (expr_option c.deref-head.result.now.start)) (while_code c.args.context.now.size (scope_in c.args.context.now) (labels_view c.args.labels.now) (texts_view c.args.own.now) (expr_option c.deref-head.result.now.condition) (expr_option c.deref-head.result.now.step) (stmt_view c.deref-in-For.result.now)) (narrow_form c.args.context.now.size (scope_in c.args.context.now) (labels_view c.args.labels.now) (texts_view c.args.own.now) (stmt_view c.args.stmt.now) _ (for_is c.args.stmt.now c.in-For.head _ c.deref-head.result.now c.deref-in-For.result.now c.in-For.is c.deref-head.ensures c.deref-in-For.ensures) c.requires.narrow))

pub emit_stmt-returns-in_ok-emit_part-in-For : goal.emit_stmt-returns-in_ok-emit_part-in-For
emit_stmt-returns-in_ok-emit_part-in-For t c =
    of_form c.args.context.now.size (scope_in c.args.context.now) (labels_view c.args.labels.now) (texts_view c.args.own.now) (stmt_view c.args.stmt.now) _ (for_is c.args.stmt.now c.in-For.head _ c.deref-head.result.now c.deref-in-For.result.now c.in-For.is c.deref-head.ensures c.deref-in-For.ensures) c.args.output.now c.emit_loop.new.output c.emit_loop.result ((part_code c.args.context.now.size (scope_in c.args.context.now) (expr_option c.deref-head.result.now.start)) ⊕ (while_code c.args.context.now.size (scope_in c.args.context.now) (labels_view c.args.labels.now) (texts_view c.args.own.now) (expr_option c.deref-head.result.now.condition) (expr_option c.deref-head.result.now.step) (stmt_view c.deref-in-For.result.now))) refl
    (on_ok_weaker c.emit_loop.result (joined c.args.output.now c.emit_part.new.output c.emit_loop.new.output (part_code c.args.context.now.size (scope_in c.args.context.now) (expr_option c.deref-head.result.now.start)) (while_code c.args.context.now.size (scope_in c.args.context.now) (labels_view c.args.labels.now) (texts_view c.args.own.now) (expr_option c.deref-head.result.now.condition) (expr_option c.deref-head.result.now.step) (stmt_view c.deref-in-For.result.now)) c.in_ok-emit_part-in-For.ensures) c.emit_loop.ensures)

pub emit_stmt-break_label-requires : goal.emit_stmt-break_label-requires
emit_stmt-break_label-requires t c =
    (narrow_form c.args.context.now.size (scope_in c.args.context.now) (labels_view c.args.labels.now) (texts_view c.args.own.now) (stmt_view c.args.stmt.now) _ (break_is c.args.stmt.now c.in-Break.name c.in-Break.is) c.requires.narrow).0

pub emit_stmt-branch-output-requires : goal.emit_stmt-branch-output-requires
emit_stmt-branch-output-requires t c =
    subst (λ (n : ℕ). n < 2 ^ 32) (sym c.break_label.ensures) (narrow_form c.args.context.now.size (scope_in c.args.context.now) (labels_view c.args.labels.now) (texts_view c.args.own.now) (stmt_view c.args.stmt.now) _ (break_is c.args.stmt.now c.in-Break.name c.in-Break.is) c.requires.narrow).0

pub emit_stmt-returns-in-Break : goal.emit_stmt-returns-in-Break
emit_stmt-returns-in-Break t c =
    of_form c.args.context.now.size (scope_in c.args.context.now) (labels_view c.args.labels.now) (texts_view c.args.own.now) (stmt_view c.args.stmt.now) _ (break_is c.args.stmt.now c.in-Break.name c.in-Break.is) c.args.output.now c.branch-output.new.output c.branch-output.result _ refl (on_ok_weaker c.branch-output.result (λ given. given ∙ ap (λ n. c.args.output.now ++ instructions.br n ∷ []) c.break_label.ensures) c.branch-output.ensures)

pub emit_stmt-continue_label-requires : goal.emit_stmt-continue_label-requires
emit_stmt-continue_label-requires t c =
    (narrow_form c.args.context.now.size (scope_in c.args.context.now) (labels_view c.args.labels.now) (texts_view c.args.own.now) (stmt_view c.args.stmt.now) _ (continue_is c.args.stmt.now c.in-Continue.name c.in-Continue.is) c.requires.narrow).0

pub emit_stmt-branch-output-requires-in-Continue : goal.emit_stmt-branch-output-requires-in-Continue
emit_stmt-branch-output-requires-in-Continue t c =
    subst (λ (n : ℕ). n < 2 ^ 32) (sym c.continue_label.ensures) (narrow_form c.args.context.now.size (scope_in c.args.context.now) (labels_view c.args.labels.now) (texts_view c.args.own.now) (stmt_view c.args.stmt.now) _ (continue_is c.args.stmt.now c.in-Continue.name c.in-Continue.is) c.requires.narrow).0

pub emit_stmt-returns-in-Continue : goal.emit_stmt-returns-in-Continue
emit_stmt-returns-in-Continue t c =
    of_form c.args.context.now.size (scope_in c.args.context.now) (labels_view c.args.labels.now) (texts_view c.args.own.now) (stmt_view c.args.stmt.now) _ (continue_is c.args.stmt.now c.in-Continue.name c.in-Continue.is) c.args.output.now c.branch-output-in-Continue.new.output c.branch-output-in-Continue.result _ refl (on_ok_weaker c.branch-output-in-Continue.result (λ given. given ∙ ap (λ n. c.args.output.now ++ instructions.br n ∷ []) c.continue_label.ensures) c.branch-output-in-Continue.ensures)

pub emit_stmt-emit_block-requires : goal.emit_stmt-emit_block-requires
emit_stmt-emit_block-requires t c =
    let d0 = c.decreases in
    let k = ap stmt_count (labelled_is c.args.stmt.now c.in-Labelled.names _ c.deref-in-Labelled.result.now c.in-Labelled.is c.deref-in-Labelled.ensures) in
    (omega arith, under_named c.args.context.now.size (scope_in c.args.context.now) _ (named_end (texts_view (list_items c.in-Labelled.names)) ∷ (labels_view c.args.labels.now)) _ (texts_view (list_items c.in-Labelled.names)) (stmt_view c.deref-in-Labelled.result.now) (named_in _ _ ∙ ap (λ l. named_end (texts_view l) ∷ (labels_view c.args.labels.now)) c.as_slice-names.ensures) (ap (λ l. texts_view l) c.as_slice-names.ensures) (narrow_form c.args.context.now.size (scope_in c.args.context.now) (labels_view c.args.labels.now) (texts_view c.args.own.now) (stmt_view c.args.stmt.now) _ (labelled_is c.args.stmt.now c.in-Labelled.names _ c.deref-in-Labelled.result.now c.in-Labelled.is c.deref-in-Labelled.ensures) c.requires.narrow))

pub emit_stmt-returns-in-Labelled : goal.emit_stmt-returns-in-Labelled
emit_stmt-returns-in-Labelled t c =
    of_form c.args.context.now.size (scope_in c.args.context.now) (labels_view c.args.labels.now) (texts_view c.args.own.now) (stmt_view c.args.stmt.now) _ (labelled_is c.args.stmt.now c.in-Labelled.names _ c.deref-in-Labelled.result.now c.in-Labelled.is c.deref-in-Labelled.ensures) c.args.output.now c.emit_block.new.output c.emit_block.result (block None (stmt_code c.args.context.now.size (scope_in c.args.context.now) (named_end (texts_view (list_items c.in-Labelled.names)) ∷ (labels_view c.args.labels.now)) (texts_view (list_items c.in-Labelled.names)) (stmt_view c.deref-in-Labelled.result.now)) ▹ ε) refl
    (on_ok_weaker c.emit_block.result (named_along c.args.context.now.size (scope_in c.args.context.now) _ (named_end (texts_view (list_items c.in-Labelled.names)) ∷ (labels_view c.args.labels.now)) _ (texts_view (list_items c.in-Labelled.names)) (stmt_view c.deref-in-Labelled.result.now) c.args.output.now c.emit_block.new.output (named_in _ _ ∙ ap (λ l. named_end (texts_view l) ∷ (labels_view c.args.labels.now)) c.as_slice-names.ensures) (ap (λ l. texts_view l) c.as_slice-names.ensures)) c.emit_block.ensures)

pub emit_stmt-emit_switch-requires : goal.emit_stmt-emit_switch-requires
emit_stmt-emit_switch-requires t c =
    let d0 = c.decreases in
    let k = ap stmt_count (switch_is c.args.stmt.now c.in-Switch.subject _ c.as_slice-in-Switch.result.now c.in-Switch.is c.as_slice-in-Switch.ensures) in
    (omega arith, subst (λ (y : Trees). EachIn IsNarrow y) (switch_form c.args.context.now.size (scope_in c.args.context.now) (labels_view c.args.labels.now) (texts_view c.args.own.now) (expr_view c.in-Switch.subject) (clauses_view c.as_slice-in-Switch.result.now)) (narrow_form c.args.context.now.size (scope_in c.args.context.now) (labels_view c.args.labels.now) (texts_view c.args.own.now) (stmt_view c.args.stmt.now) _ (switch_is c.args.stmt.now c.in-Switch.subject _ c.as_slice-in-Switch.result.now c.in-Switch.is c.as_slice-in-Switch.ensures) c.requires.narrow))

pub emit_stmt-returns-in-Switch : goal.emit_stmt-returns-in-Switch
emit_stmt-returns-in-Switch t c =
    of_form c.args.context.now.size (scope_in c.args.context.now) (labels_view c.args.labels.now) (texts_view c.args.own.now) (stmt_view c.args.stmt.now) _ (switch_is c.args.stmt.now c.in-Switch.subject _ c.as_slice-in-Switch.result.now c.in-Switch.is c.as_slice-in-Switch.ensures) c.args.output.now c.emit_switch.new.output c.emit_switch.result _ (switch_form c.args.context.now.size (scope_in c.args.context.now) (labels_view c.args.labels.now) (texts_view c.args.own.now) (expr_view c.in-Switch.subject) (clauses_view c.as_slice-in-Switch.result.now)) c.emit_switch.ensures

pub emit_stmt-returns-in-Empty : goal.emit_stmt-returns-in-Empty
emit_stmt-returns-in-Empty t c =
    sym (append-nil c.args.output.now) ∙ ap (λ v. c.args.output.now ++ flat (stmt_code c.args.context.now.size (scope_in c.args.context.now) (labels_view c.args.labels.now) (texts_view c.args.own.now) v)) (sym (empty_is c.args.stmt.now c.in-Empty.is))
