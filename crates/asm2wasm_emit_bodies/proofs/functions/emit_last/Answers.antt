use Rattle.std.proofs.Common.{◌≡◌, [], ◌++◌, sym, ap, subst, ◌∙◌}
use Rattle.std.specs.Prelude.{OnOk}
use Rattle.wasm_lang_exec.specs.Code.{Trees}
use Rattle.wasm_laws_trees.specs.Spelled.{flat}
use Rattle.wasm_laws_write.specs.Lengths.{IsNarrow}
use Rattle.wasm_laws_write.specs.Each.{EachIn}
use Rattle.asm_tree.specs.Views.{stmt_view}
use Rattle.asm2wasm_translation.specs.Bodies.{stmt_code}
use Rattle.asm2wasm_emit_switches.proofs.Runs.{labels_view-Nothing}
use Rattle.asm2wasm_emit_values.specs.Contexts.{scope_in}
use Rattle.asm2wasm_emit_bodies.proofs.Spelled.{under}
use Rattle.asm2wasm_emit_bodies.proofs.functions.emit_last.Goals as goal

pub emit_stmt-requires : goal.emit_stmt-requires
emit_stmt-requires c = record { narrow = under c.args.context.now.size (scope_in c.args.context.now) _ [] [] (stmt_view c.args.last.now) labels_view-Nothing (subst (λ (y : Trees). EachIn IsNarrow y) (c.in-None.ensures c.args.context.now.size (scope_in c.args.context.now)) c.requires.narrow) }

pub returns-in-None : goal.returns-in-None
returns-in-None c =
    subst (λ (y : Trees). OnOk c.emit_stmt.result (c.emit_stmt.new.output ≡ c.args.output.now ++ flat y))
    (ap (λ l. stmt_code c.args.context.now.size (scope_in c.args.context.now) l [] (stmt_view c.args.last.now)) labels_view-Nothing ∙ sym (c.in-None.ensures c.args.context.now.size (scope_in c.args.context.now))) c.emit_stmt.ensures

pub emit-requires : goal.emit-requires
emit-requires c = record { narrow = subst (λ (y : Trees). EachIn IsNarrow y) (c.in-Some.ensures c.args.context.now.size (scope_in c.args.context.now)) c.requires.narrow }

pub returns-in-Some : goal.returns-in-Some
returns-in-Some c =
    subst (λ (y : Trees). OnOk c.emit.result (c.emit.new.output ≡ c.args.output.now ++ flat y)) (sym (c.in-Some.ensures c.args.context.now.size (scope_in c.args.context.now))) c.emit.ensures
