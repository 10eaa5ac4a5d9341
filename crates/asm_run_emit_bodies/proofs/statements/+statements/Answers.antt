-- What each function made is the code of its form.
use Rattle.std.proofs.Common.{◌-◌, ◌<◌, length, List, [], ◌∷◌, Option, refl, sym, ap, ◌∙◌, arith}
use Rattle.std.specs.Global.{Global}
use Rattle.std.specs.declared.boxed.Box.{Box}
use Rattle.sem_words.specs.declared.text.Text.{Text}
use Rattle.asm_lang.specs.Modules.{Stmt, labelled}
use Rattle.asm_lang_valid.specs.Rows.{stmt_count, stmts_count}
use Rattle.asm_tree.specs.declared.tree.Stmt.{Stmt as CodeStmt}
use Rattle.asm_tree.specs.declared.tree.Clause.{Clause}
use Rattle.sem_words.specs.Lists.{list_items}
use Rattle.asm_tree.specs.Views.{texts_view, text_option, expr_view, expr_option, stmt_view, stmts_view, clauses_view}
use Rattle.asm_run_emit_bodies.proofs.Shapes.{block_is, plain_is, return_is, choice_is, while_is, do_is, for_is, labelled_is, switch_is, empty_is, break_is, continue_is}
use Rattle.asm_run_code.specs.declared.op.Op.TheVariants.{Go}
use Rattle.asm_run_code.specs.Bodies.{a_loop, a_switch, a_named, stmt}
use Rattle.asm_run_names.specs.Names.{scope_said}
use Rattle.asm_run_emit_values.proofs.Codes.{told}
use Rattle.asm_run_emit_bodies.specs.Choices.{stmt_option, otherwise, otherwise_at, otherwise_count}
use Rattle.asm_run_emit_bodies.proofs.Inside.{held, meets_entered, meets_same}
use Rattle.asm_run_emit_bodies.proofs.Forms.{block_form, plain_form, empty_form, break_form, continue_form, return_bare, choice_bare, labelled_bare, switch_bare}
use Rattle.asm_run_emit_bodies.proofs.Made.{as_form, told_at, told_put, choice_made, loop_made, body_put, labelled_put, switch_made}
use Rattle.asm_run_emit_bodies.proofs.Turns.{stmts_begin, stmts_turn, stmts_end, code_begin, starts_begin, code_turn, starts_turn, code_end, starts_end, stmt_within, clause_within, choice_count}
use Rattle.asm_run_emit_bodies.proofs.statements.+statements.Goals as goal

pub emit_stmt-returns-in-Block-clause-code : goal.emit_stmt-returns-in-Block-clause-code
emit_stmt-returns-in-Block-clause-code t c = λ os m.
    as_form c.emit_stmts.result c.emit_stmts.new.output (scope_said c.args.names.now) os (texts_view c.args.own.now) c.args.free c.args.output.now (stmt_view c.args.statement.now) _ (block_is c.args.statement.now _ c.as_slice.result.now c.in-Block.is c.as_slice.ensures) (told c.emit_stmts.result c.emit_stmts.new.output _ _ (sym (block_form (scope_said c.args.names.now) os (texts_view c.args.own.now) c.args.free c.args.output.now (stmts_view c.as_slice.result.now))) (c.emit_stmts.ensures.code os m))

pub emit_stmt-returns-in-Plain-clause-code : goal.emit_stmt-returns-in-Plain-clause-code
emit_stmt-returns-in-Plain-clause-code t c = λ os m.
    as_form c.emit_value.result c.emit_value.new.output (scope_said c.args.names.now) os (texts_view c.args.own.now) c.args.free c.args.output.now (stmt_view c.args.statement.now) _ (plain_is c.args.statement.now c.in-Plain.expr c.in-Plain.is) (told c.emit_value.result c.emit_value.new.output _ _ (sym (plain_form (scope_said c.args.names.now) os (texts_view c.args.own.now) c.args.free c.args.output.now (expr_view c.in-Plain.expr))) c.emit_value.ensures)

pub emit_stmt-returns-in-Return-clause-code : goal.emit_stmt-returns-in-Return-clause-code
emit_stmt-returns-in-Return-clause-code t c = λ os m.
    as_form c.emit_return.result c.emit_return.new.output (scope_said c.args.names.now) os (texts_view c.args.own.now) c.args.free c.args.output.now (stmt_view c.args.statement.now) _ (return_is c.args.statement.now c.in-Return.value c.in-Return.is) (told c.emit_return.result c.emit_return.new.output _ _ (sym (return_bare (scope_said c.args.names.now) os (texts_view c.args.own.now) c.args.free c.args.output.now (expr_option c.in-Return.value))) c.emit_return.ensures)

pub emit_stmt-returns-in-Break-clause-code : goal.emit_stmt-returns-in-Break-clause-code
emit_stmt-returns-in-Break-clause-code t c = λ os m.
    as_form c.put_go.result c.put_go.new.output (scope_said c.args.names.now) os (texts_view c.args.own.now) c.args.free c.args.output.now (stmt_view c.args.statement.now) _ (break_is c.args.statement.now c.in-Break.name c.in-Break.is) (told c.put_go.result c.put_go.new.output _ _ (sym (break_form (scope_said c.args.names.now) os (texts_view c.args.own.now) c.args.free c.args.output.now (text_option c.in-Break.name))) (told c.put_go.result c.put_go.new.output _ _ (ap (λ a. Go a ∷ c.args.output.now) (c.break_address.ensures ∙ m.breaks (text_option c.in-Break.name))) c.put_go.ensures))

pub emit_stmt-returns-in-Continue-clause-code : goal.emit_stmt-returns-in-Continue-clause-code
emit_stmt-returns-in-Continue-clause-code t c = λ os m.
    as_form c.put_go-in-Continue.result c.put_go-in-Continue.new.output (scope_said c.args.names.now) os (texts_view c.args.own.now) c.args.free c.args.output.now (stmt_view c.args.statement.now) _ (continue_is c.args.statement.now c.in-Continue.name c.in-Continue.is) (told c.put_go-in-Continue.result c.put_go-in-Continue.new.output _ _ (sym (continue_form (scope_said c.args.names.now) os (texts_view c.args.own.now) c.args.free c.args.output.now (text_option c.in-Continue.name))) (told c.put_go-in-Continue.result c.put_go-in-Continue.new.output _ _ (ap (λ a. Go a ∷ c.args.output.now) (c.continue_address.ensures ∙ m.continues (text_option c.in-Continue.name))) c.put_go-in-Continue.ensures))

pub emit_stmt-returns-in-Labelled-clause-code : goal.emit_stmt-returns-in-Labelled-clause-code
emit_stmt-returns-in-Labelled-clause-code t c = λ os m.
    as_form c.emit_labelled.result c.emit_labelled.new.output (scope_said c.args.names.now) os (texts_view c.args.own.now) c.args.free c.args.output.now (stmt_view c.args.statement.now) _ (labelled_is c.args.statement.now c.in-Labelled.labels _ c.deref-in-Labelled.result.now c.in-Labelled.is c.deref-in-Labelled.ensures ∙ ap (λ (l : List Text). labelled (texts_view l) (stmt_view c.deref-in-Labelled.result.now)) (sym c.as_slice-in-Labelled.ensures)) (told c.emit_labelled.result c.emit_labelled.new.output _ _ (sym (labelled_bare (scope_said c.args.names.now) os (texts_view c.args.own.now) c.args.free c.args.output.now (texts_view c.as_slice-in-Labelled.result.now) (stmt_view c.deref-in-Labelled.result.now))) (c.emit_labelled.ensures.code os m))

pub emit_stmt-returns-in-Switch-clause-code : goal.emit_stmt-returns-in-Switch-clause-code
emit_stmt-returns-in-Switch-clause-code t c = λ os m.
    as_form c.emit_switch.result c.emit_switch.new.output (scope_said c.args.names.now) os (texts_view c.args.own.now) c.args.free c.args.output.now (stmt_view c.args.statement.now) _ (switch_is c.args.statement.now c.in-Switch.subject _ c.as_slice-in-Switch.result.now c.in-Switch.is c.as_slice-in-Switch.ensures) (told c.emit_switch.result c.emit_switch.new.output _ _ (sym (switch_bare (scope_said c.args.names.now) os (texts_view c.args.own.now) c.args.free c.args.output.now (expr_view c.in-Switch.subject) (clauses_view c.as_slice-in-Switch.result.now))) (c.emit_switch.ensures.code os m))

pub emit_stmt-returns-in-Empty-clause-code : goal.emit_stmt-returns-in-Empty-clause-code
emit_stmt-returns-in-Empty-clause-code t c = λ os m.
    sym (ap (λ (s : Stmt). stmt (scope_said c.args.names.now) os (texts_view c.args.own.now) c.args.free s c.args.output.now) (empty_is c.args.statement.now c.in-Empty.is) ∙ empty_form (scope_said c.args.names.now) os (texts_view c.args.own.now) c.args.free c.args.output.now)

pub emit_clauses-loop-i-init : goal.emit_clauses-loop-i-init
emit_clauses-loop-i-init t c =
    let one = ap length c.requires in
    record {
      within = omega arith;
      made = λ os m. code_begin (scope_said c.args.names.now) os c.args.free c.args.output.now c.args.clauses.now;
      placed = λ os m. starts_begin (scope_said c.args.names.now) os c.args.free c.args.output.now c.args.clauses.now c.args.starts.now c.requires;
      count = omega arith;
      kept = refl;
    }

pub emit_clauses-returns-clause-starts : goal.emit_clauses-returns-clause-starts
emit_clauses-returns-clause-starts t c = λ os m. starts_end (scope_said c.args.names.now) os c.args.free c.args.output.now c.args.clauses.now c.loop-i.starts c.loop-i.i (omega arith) (c.loop-i.invariant.placed os m)

pub emit_stmts-loop-i-init : goal.emit_stmts-loop-i-init
emit_stmts-loop-i-init t c = record { within = omega arith; made = λ os m. stmts_begin (scope_said c.args.names.now) os c.args.free c.args.output.now c.args.body.now; kept = refl }

pub emit_stmts-loop-i-preserved : goal.emit_stmts-loop-i-preserved
emit_stmts-loop-i-preserved t c = record {
  within = omega arith;
  made = λ os m. stmts_turn (scope_said c.args.names.now) os c.args.free c.args.output.now c.args.body.now c.loop-i.output c.emit_bare.new.output (c.loop-i.i - 1) c.loop-i.i c.index-body-i.result (omega arith) (omega arith) c.index-body-i.is (c.loop-i.invariant.made os m) (c.in_ok-emit_bare.ensures.code os (meets_same os _ _ c.loop-i.invariant.kept m));
  kept = c.in_ok-emit_bare.ensures.kept ∙ c.loop-i.invariant.kept;
}

pub emit_stmts-returns-clause-code : goal.emit_stmts-returns-clause-code
emit_stmts-returns-clause-code t c = λ os m. stmts_end (scope_said c.args.names.now) os c.args.free c.args.output.now c.args.body.now c.loop-i.output c.loop-i.i (omega arith) (c.loop-i.invariant.made os m)

pub emit_clauses-loop-i-preserved : goal.emit_clauses-loop-i-preserved
emit_clauses-loop-i-preserved t c =
    let put = ap length c.in_ok-put.ensures in
    record {
      within = omega arith;
      made = λ os m. code_turn (scope_said c.args.names.now) os c.args.free c.args.output.now c.args.clauses.now (c.loop-i.i - 1) c.loop-i.i c.index-clauses-i.result (omega arith) (omega arith) c.index-clauses-i.is c.as_slice.result.now c.loop-i.output c.emit_stmts.new.output (c.as_slice.ensures ∙ ap (λ (k : Clause). list_items k.body) (sym c.index-clauses-i.is)) (c.loop-i.invariant.made os m) (c.in_ok-emit_stmts.ensures.code os (meets_same os _ _ c.loop-i.invariant.kept m));
      placed = λ os m. starts_turn (scope_said c.args.names.now) os c.args.free c.args.output.now c.args.clauses.now (c.loop-i.i - 1) c.loop-i.i c.index-clauses-i.result (omega arith) (omega arith) c.index-clauses-i.is c.as_slice.result.now c.loop-i.output c.emit_stmts.new.output c.address-at.result c.loop-i.starts c.put.new.self (c.as_slice.ensures ∙ ap (λ (k : Clause). list_items k.body) (sym c.index-clauses-i.is)) (c.loop-i.invariant.made os m) (c.in_ok-emit_stmts.ensures.code os (meets_same os _ _ c.loop-i.invariant.kept m)) c.address-at.ensures (c.loop-i.invariant.placed os m) c.in_ok-put.ensures;
      count = omega arith;
      kept = c.in_ok-emit_stmts.ensures.kept ∙ c.loop-i.invariant.kept;
    }

pub emit_clauses-returns-clause-code : goal.emit_clauses-returns-clause-code
emit_clauses-returns-clause-code t c = λ os m. code_end (scope_said c.args.names.now) os c.args.free c.args.output.now c.args.clauses.now c.loop-i.output c.loop-i.i (omega arith) (c.loop-i.invariant.made os m)

pub emit_clauses-returns-clause-count : goal.emit_clauses-returns-clause-count
emit_clauses-returns-clause-count t c =
    let count = c.loop-i.invariant.count in
    omega arith

pub emit_stmt-emit_stmts-requires : goal.emit_stmt-emit_stmts-requires
emit_stmt-emit_stmts-requires t c =
    let d0 = c.decreases in
    let k = ap stmt_count (block_is c.args.statement.now _ c.as_slice.result.now c.in-Block.is c.as_slice.ensures) in
    (omega arith, tt)

pub emit_stmt-emit_labelled-requires : goal.emit_stmt-emit_labelled-requires
emit_stmt-emit_labelled-requires t c =
    let d0 = c.decreases in
    let k = ap stmt_count (labelled_is c.args.statement.now c.in-Labelled.labels _ c.deref-in-Labelled.result.now c.in-Labelled.is c.deref-in-Labelled.ensures) in
    (omega arith, tt)

pub emit_stmt-emit_switch-requires : goal.emit_stmt-emit_switch-requires
emit_stmt-emit_switch-requires t c =
    let d0 = c.decreases in
    let k = ap stmt_count (switch_is c.args.statement.now c.in-Switch.subject _ c.as_slice-in-Switch.result.now c.in-Switch.is c.as_slice-in-Switch.ensures) in
    (omega arith, tt)

pub emit_bare-emit_stmt-requires : goal.emit_bare-emit_stmt-requires
emit_bare-emit_stmt-requires t c =
    let d0 = c.decreases in
    (omega arith, tt)

pub emit_stmts-emit_bare-requires : goal.emit_stmts-emit_bare-requires
emit_stmts-emit_bare-requires t c =
    let d0 = c.decreases in
    let within : c.loop-i.i - 1 < length c.args.body.now = omega arith in
    let k = stmt_within c.args.body.now (c.loop-i.i - 1) c.index-body-i.result within c.index-body-i.is in
    (omega arith, tt)

pub emit_clauses-emit_stmts-requires : goal.emit_clauses-emit_stmts-requires
emit_clauses-emit_stmts-requires t c =
    let d0 = c.decreases in
    let within : c.loop-i.i - 1 < length c.args.clauses.now = omega arith in
    let k = clause_within c.args.clauses.now (c.loop-i.i - 1) c.index-clauses-i.result within c.index-clauses-i.is in
    let e = ap (λ (l : List CodeStmt). stmts_count (stmts_view l)) (c.as_slice.ensures ∙ ap (λ (k : Clause). list_items k.body) (sym c.index-clauses-i.is)) in
    (omega arith, tt)

pub emit_stmt-returns-in-If-clause-code : goal.emit_stmt-returns-in-If-clause-code
emit_stmt-returns-in-If-clause-code t c = λ os m.
    as_form c.emit_if.result c.emit_if.new.output (scope_said c.args.names.now) os (texts_view c.args.own.now) c.args.free c.args.output.now (stmt_view c.args.statement.now) _ (choice_is c.args.statement.now c.in-If.condition _ c.in-If.no c.deref.result.now c.in-If.is c.deref.ensures) (told c.emit_if.result c.emit_if.new.output _ _ (sym (choice_bare (scope_said c.args.names.now) os (texts_view c.args.own.now) c.args.free c.args.output.now (expr_view c.in-If.condition) (stmt_view c.deref.result.now) (stmt_option c.in-If.no))) (c.emit_if.ensures.code os m))

pub emit_stmt-returns-in-While-clause-code : goal.emit_stmt-returns-in-While-clause-code
emit_stmt-returns-in-While-clause-code t c = λ os m.
    as_form c.emit_loop.result c.emit_loop.new.output (scope_said c.args.names.now) os (texts_view c.args.own.now) c.args.free c.args.output.now (stmt_view c.args.statement.now) _ (while_is c.args.statement.now c.in-While.condition _ c.deref-in-While.result.now c.in-While.is c.deref-in-While.ensures) (c.emit_loop.ensures.code os m)

pub emit_stmt-returns-in-DoWhile-clause-code : goal.emit_stmt-returns-in-DoWhile-clause-code
emit_stmt-returns-in-DoWhile-clause-code t c = λ os m.
    as_form c.emit_loop-in-DoWhile.result c.emit_loop-in-DoWhile.new.output (scope_said c.args.names.now) os (texts_view c.args.own.now) c.args.free c.args.output.now (stmt_view c.args.statement.now) _ (do_is c.args.statement.now _ c.in-DoWhile.condition c.deref-in-DoWhile.result.now c.in-DoWhile.is c.deref-in-DoWhile.ensures) (c.emit_loop-in-DoWhile.ensures.code os m)

pub emit_stmt-returns-in-For-clause-code : goal.emit_stmt-returns-in-For-clause-code
emit_stmt-returns-in-For-clause-code t c = λ os m.
    as_form c.emit_loop-in-For.result c.emit_loop-in-For.new.output (scope_said c.args.names.now) os (texts_view c.args.own.now) c.args.free c.args.output.now (stmt_view c.args.statement.now) _ (for_is c.args.statement.now c.in-For.head _ c.deref-head.result.now c.deref-in-For.result.now c.in-For.is c.deref-head.ensures c.deref-in-For.ensures) (c.emit_loop-in-For.ensures.code os m)

pub emit_labelled-returns-clause-code : goal.emit_labelled-returns-clause-code
emit_labelled-returns-clause-code t c = λ os m.
    labelled_put (scope_said c.args.names.now) os [] c.args.free c.args.output.now (texts_view c.args.labels.now) (stmt_view c.args.body.now) c.address-past.result c.emit_stmt.new.output c.address-past.ensures
    (c.in_ok-emit_stmt.ensures.code (a_named (texts_view c.args.labels.now) c.address-past.result ∷ os) (meets_entered (a_named (texts_view c.args.labels.now) c.address-past.result) os _ _ c.in_ok-enter_labelled.ensures m))

pub emit_labelled-returns-clause-kept : goal.emit_labelled-returns-clause-kept
emit_labelled-returns-clause-kept t c = c.leave_labelled.ensures c.args.jumps.now c.address-past.result (c.in_ok-emit_stmt.ensures.kept ∙ c.in_ok-enter_labelled.ensures)

pub emit_if-returns-clause-code : goal.emit_if-returns-clause-code
emit_if-returns-clause-code t c = λ os m.
    choice_made c.emit_test.result c.emit_test.new.output (scope_said c.args.names.now) os [] c.args.free c.args.output.now (expr_view c.args.condition.now) (stmt_view c.args.yes.now) (stmt_option c.args.no.now) c.in_ok-at.at c.emit_else.new.output c.emit_bare.new.output (c.in_ok-at.ensures.at os m) (c.in_ok-at.ensures.code os m)
    (c.in_ok-emit_bare.ensures.code os (meets_same os _ _ c.in_ok-at.ensures.kept m)) c.emit_test.ensures

pub emit_else-returns-in-None-clause-at : goal.emit_else-returns-in-None-clause-at
emit_else-returns-in-None-clause-at t c = λ os m. c.address-past.ensures ∙ sym (ap (λ (x : Option (Box CodeStmt Global)). otherwise_at (scope_said c.args.names.now) os c.args.free (stmt_option x) c.args.output.now) c.in-None.is)

pub emit_else-returns-in-None-clause-code : goal.emit_else-returns-in-None-clause-code
emit_else-returns-in-None-clause-code t c = λ os m. sym (ap (λ (x : Option (Box CodeStmt Global)). otherwise (scope_said c.args.names.now) os c.args.free (stmt_option x) c.args.output.now) c.in-None.is)

pub emit_else-returns-in_ok-emit_bare-in-Some-clause-at : goal.emit_else-returns-in_ok-emit_bare-in-Some-clause-at
emit_else-returns-in_ok-emit_bare-in-Some-clause-at t c = λ os m.
    told_at c.put_past.result _ _
    (ap length (c.in_ok-emit_bare-in-Some.ensures.code os m ∙ ap (λ (s : CodeStmt). stmt (scope_said c.args.names.now) os [] c.args.free (stmt_view s) c.args.output.now) c.deref.ensures) ∙ sym (ap (λ (x : Option (Box CodeStmt Global)). otherwise_at (scope_said c.args.names.now) os c.args.free (stmt_option x) c.args.output.now) c.in-Some.is))
    c.put_past.ensures.at

pub emit_else-returns-in_ok-emit_bare-in-Some-clause-code : goal.emit_else-returns-in_ok-emit_bare-in-Some-clause-code
emit_else-returns-in_ok-emit_bare-in-Some-clause-code t c = λ os m.
    told_put c.put_past.result c.put_past.new.output _ _
    (ap (λ l. Go c.address-past.result ∷ l) (c.in_ok-emit_bare-in-Some.ensures.code os m ∙ ap (λ (s : CodeStmt). stmt (scope_said c.args.names.now) os [] c.args.free (stmt_view s) c.args.output.now) c.deref.ensures)
    ∙ ap (λ p. Go p ∷ stmt (scope_said c.args.names.now) os [] c.args.free (stmt_view c.in-Some.no.value) c.args.output.now) c.address-past.ensures ∙ sym (ap (λ (x : Option (Box CodeStmt Global)). otherwise (scope_said c.args.names.now) os c.args.free (stmt_option x) c.args.output.now) c.in-Some.is))
    c.put_past.ensures.put

pub emit_loop-returns-clause-code : goal.emit_loop-returns-clause-code
emit_loop-returns-clause-code t c = λ os m.
    loop_made c.begin_turns.result c.begin_turns.new.output (scope_said c.args.names.now) os (texts_view c.args.own.now) c.args.free c.args.output.now c.args.turns (stmt_view c.args.body.now) c.in_ok-past.past c.end_turns.new.output c.emit_bare.new.output c.in_ok-past.ensures.past c.in_ok-past.ensures.put
    (body_put (scope_said c.args.names.now) os (texts_view c.args.own.now) c.args.free c.end_turns.new.output (stmt_view c.args.body.now) c.in_ok-past.past c.in_ok-inner.inner c.emit_bare.new.output c.in_ok-inner.ensures.inner (c.in_ok-emit_bare.ensures.code (a_loop (texts_view c.args.own.now) (length c.end_turns.new.output) c.in_ok-past.past ∷ os) (meets_entered (a_loop (texts_view c.args.own.now) (length c.end_turns.new.output) c.in_ok-past.past) os _ _ c.in_ok-inner.ensures.entered m)))
    c.begin_turns.ensures

pub emit_loop-returns-clause-kept : goal.emit_loop-returns-clause-kept
emit_loop-returns-clause-kept t c = held c.begin_turns.result _ _ (c.leave_loop.ensures c.args.jumps.now (length c.end_turns.new.output) c.in_ok-past.past (c.in_ok-emit_bare.ensures.kept ∙ c.in_ok-inner.ensures.entered))

pub emit_switch-returns-clause-code : goal.emit_switch-returns-clause-code
emit_switch-returns-clause-code t c = λ os m.
    switch_made c.emit_choice.result c.emit_choice.new.output (scope_said c.args.names.now) os [] c.args.free c.args.output.now (expr_view c.args.subject.now) (clauses_view c.args.clauses.now) c.emit_clauses.new.starts c.emit_clauses.new.output
    (c.in_ok-emit_clauses.ensures.code (a_switch (length c.args.output.now) ∷ os) (meets_entered (a_switch (length c.args.output.now)) os _ _ c.in_ok-start_switch.ensures.entered m)) (c.in_ok-emit_clauses.ensures.starts (a_switch (length c.args.output.now) ∷ os) (meets_entered (a_switch (length c.args.output.now)) os _ _ c.in_ok-start_switch.ensures.entered m)) c.emit_choice.ensures

pub emit_switch-returns-clause-kept : goal.emit_switch-returns-clause-kept
emit_switch-returns-clause-kept t c = held c.emit_choice.result _ _ (c.leave_switch.ensures c.args.jumps.now (length c.args.output.now) (c.in_ok-emit_clauses.ensures.kept ∙ c.in_ok-start_switch.ensures.entered))

pub emit_switch-start_switch-requires : goal.emit_switch-start_switch-requires
emit_switch-start_switch-requires t c = c.new-starts.ensures

pub emit_switch-emit_choice-requires : goal.emit_switch-emit_choice-requires
emit_switch-emit_choice-requires t c = c.in_ok-emit_clauses.ensures.count

pub emit_stmt-emit_if-requires : goal.emit_stmt-emit_if-requires
emit_stmt-emit_if-requires t c =
    let d0 = c.decreases in
    let k = ap stmt_count (choice_is c.args.statement.now c.in-If.condition _ c.in-If.no c.deref.result.now c.in-If.is c.deref.ensures) in
    let n = choice_count (expr_view c.in-If.condition) (stmt_view c.deref.result.now) (stmt_option c.in-If.no) in
    (omega arith, tt)

pub emit_stmt-emit_loop-requires : goal.emit_stmt-emit_loop-requires
emit_stmt-emit_loop-requires t c =
    let d0 = c.decreases in
    let k = ap stmt_count (while_is c.args.statement.now c.in-While.condition _ c.deref-in-While.result.now c.in-While.is c.deref-in-While.ensures) in
    (omega arith, tt)

pub emit_stmt-emit_loop-requires-in-DoWhile : goal.emit_stmt-emit_loop-requires-in-DoWhile
emit_stmt-emit_loop-requires-in-DoWhile t c =
    let d0 = c.decreases in
    let k = ap stmt_count (do_is c.args.statement.now _ c.in-DoWhile.condition c.deref-in-DoWhile.result.now c.in-DoWhile.is c.deref-in-DoWhile.ensures) in
    (omega arith, tt)

pub emit_stmt-emit_loop-requires-in-For : goal.emit_stmt-emit_loop-requires-in-For
emit_stmt-emit_loop-requires-in-For t c =
    let d0 = c.decreases in
    let k = ap stmt_count (for_is c.args.statement.now c.in-For.head _ c.deref-head.result.now c.deref-in-For.result.now c.in-For.is c.deref-head.ensures c.deref-in-For.ensures) in
    (omega arith, tt)

pub emit_if-emit_else-requires : goal.emit_if-emit_else-requires
emit_if-emit_else-requires t c =
    let d0 = c.decreases in
    (omega arith, tt)

pub emit_if-emit_bare-requires : goal.emit_if-emit_bare-requires
emit_if-emit_bare-requires t c =
    let d0 = c.decreases in
    (omega arith, tt)

pub emit_loop-emit_bare-requires : goal.emit_loop-emit_bare-requires
emit_loop-emit_bare-requires t c =
    let d0 = c.decreases in
    (omega arith, tt)

pub emit_labelled-emit_stmt-requires : goal.emit_labelled-emit_stmt-requires
emit_labelled-emit_stmt-requires t c =
    let d0 = c.decreases in
    (omega arith, tt)

pub emit_else-emit_bare-requires : goal.emit_else-emit_bare-requires
emit_else-emit_bare-requires t c =
    let d0 = c.decreases in
    let k = ap (λ (x : Option (Box CodeStmt Global)). otherwise_count (stmt_option x)) c.in-Some.is in
    let e = ap (λ (s : CodeStmt). stmt_count (stmt_view s)) c.deref.ensures in
    (omega arith, tt)

pub emit_switch-emit_clauses-requires : goal.emit_switch-emit_clauses-requires
emit_switch-emit_clauses-requires t c =
    let d0 = c.decreases in
    (omega arith, c.in_ok-start_switch.ensures.start)
