use Rattle.std.proofs.Common.{◌∙◌}
use Rattle.sem_words.specs.Lists.{text_bytes}
use Rattle.asm_tree.specs.Views.{expr_view}
use Rattle.asm_lang_valid.specs.Typing.{named}
use Rattle.asm_run_code.specs.Names.{view_kind, local}
use Rattle.asm_run_names.specs.Names.{scope_said}
use Rattle.asm_run_emit_values.specs.Seats.{seat_view}
use Rattle.asm_run_emit_values.proofs.Made.{write_made}
use Rattle.asm_run_emit_values.proofs.values.put_store.Goals as goal

pub returns-clause-put : goal.returns-clause-put
returns-clause-put c =
    c.in_ok-put.ensures ∙ write_made (seat_view c.args.seat) (local (scope_said c.args.names.now) (expr_view c.args.index.now)) (view_kind (named (scope_said c.args.names.now) (text_bytes c.args.name.now))) c.view_kind-kind.result c.args.wanted c.args.free c.args.output.now c.index_place-place.result c.in_ok-from.from c.into-at.result c.put_copy.new.output c.view_kind-kind.ensures c.index_place-place.ensures c.in_ok-from.ensures c.in_ok-put_copy.ensures c.into-at.ensures
