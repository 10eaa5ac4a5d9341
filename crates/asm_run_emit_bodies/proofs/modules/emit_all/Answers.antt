use Rattle.std.proofs.Common.{List, [], ap, ◌∙◌}
use Rattle.sem_words.specs.Lists.{list_items}
use Rattle.asm_tree.specs.declared.tree.Function.{Function}
use Rattle.asm_tree.specs.declared.tree.Stmt.{Stmt}
use Rattle.asm_tree.specs.Views.{stmts_view}
use Rattle.asm_run_code.specs.Bodies.{stmts_code}
use Rattle.asm_run_names.specs.Names.{scope_said}
use Rattle.asm_run_emit_values.proofs.Codes.{told}
use Rattle.asm_run_emit_bodies.proofs.Inside.{meets_nothing}
use Rattle.asm_run_emit_bodies.proofs.modules.emit_all.Goals as goal

pub returns : goal.returns
returns c =
    told c.emit_stmts.result c.emit_stmts.new.output _ _
    (ap (λ (ss : List Stmt). stmts_code (scope_said c.args.names.now) [] c.args.free (stmts_view ss) c.args.output.now) (c.as_slice-body.ensures ∙ ap (λ (f : Function). list_items f.body) c.function.ensures))
    (c.emit_stmts.ensures.code [] (meets_nothing _ c.new-jumps.ensures))
