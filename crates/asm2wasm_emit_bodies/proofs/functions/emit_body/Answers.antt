use Rattle.std.proofs.Common.{◌++◌, sym, ap, ◌∙◌}
use Rattle.std.proofs.lemmas.Result.{on_ok_weaker}
use Rattle.wasm_laws_trees.specs.Spelled.{flat}
use Rattle.asm_tree.specs.Views.{stmt_view, stmts_view}
use Rattle.asm2wasm_translation.specs.Bodies.{stmts_code, last_code, body_code}
use Rattle.asm2wasm_emit_pieces.proofs.Joined.{joined}
use Rattle.asm2wasm_emit_switches.specs.Labels.{labels_view}
use Rattle.asm2wasm_emit_switches.specs.declared.labels.Labels.TheVariants.{Nothing}
use Rattle.asm2wasm_emit_switches.proofs.Runs.{labels_view-Nothing}
use Rattle.asm2wasm_emit_switches.proofs.Pieces.{first_narrow, rest_narrow}
use Rattle.asm2wasm_emit_values.specs.Contexts.{scope_in}
use Rattle.asm2wasm_emit_bodies.proofs.Bodies.{body_split}
use Rattle.asm2wasm_emit_bodies.proofs.functions.emit_body.Goals as goal

pub emit_stmts-requires : goal.emit_stmts-requires
emit_stmts-requires c =
    let size = c.args.context.now.size in
    let scope = scope_in c.args.context.now in
    let split = body_split size scope c.args.body.now c.in-Some.before.now c.in-Some.last.now (labels_view Nothing) c.in-Some.ensures.cases.0 labels_view-Nothing in
    record { narrow = first_narrow (body_code size scope (stmts_view c.args.body.now)) (stmts_code size scope (labels_view Nothing) (stmts_view c.in-Some.before.now)) (last_code size scope (stmt_view c.in-Some.last.now)) split c.requires.narrow }

pub emit_last-requires : goal.emit_last-requires
emit_last-requires c =
    let size = c.args.context.now.size in
    let scope = scope_in c.args.context.now in
    let split = body_split size scope c.args.body.now c.in-Some.before.now c.in-Some.last.now (labels_view Nothing) c.in-Some.ensures.cases.0 labels_view-Nothing in
    record { narrow = rest_narrow (body_code size scope (stmts_view c.args.body.now)) (stmts_code size scope (labels_view Nothing) (stmts_view c.in-Some.before.now)) (last_code size scope (stmt_view c.in-Some.last.now)) split c.requires.narrow }

pub returns-in_ok-emit_stmts-in-Some : goal.returns-in_ok-emit_stmts-in-Some
returns-in_ok-emit_stmts-in-Some c =
    let size = c.args.context.now.size in
    let scope = scope_in c.args.context.now in
    let split = body_split size scope c.args.body.now c.in-Some.before.now c.in-Some.last.now (labels_view Nothing) c.in-Some.ensures.cases.0 labels_view-Nothing in
    on_ok_weaker c.emit_last.result
    (λ given. joined c.args.output.now c.emit_stmts.new.output c.emit_last.new.output (stmts_code size scope (labels_view Nothing) (stmts_view c.in-Some.before.now)) (last_code size scope (stmt_view c.in-Some.last.now)) c.in_ok-emit_stmts-in-Some.ensures given
    ∙ ap (λ t. c.args.output.now ++ flat t) (sym split))
    c.emit_last.ensures
