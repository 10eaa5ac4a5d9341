use Rattle.std.proofs.Common.{ap, ◌∙◌}
use Rattle.asm_lang_valid.specs.Typing.{named}
use Rattle.asm_names.specs.Scopes.{scope_view}
use Rattle.asm_short_graph.specs.Graphs.{is_table}
use Rattle.asm_short_graph.proofs.links.enters.Goals as goal

pub returns : goal.returns
returns c = c.is_table.ensures ∙ ap is_table (c.meaning.ensures.known ∙ ap (named (scope_view c.args.scope.now)) c.as_bytes.ensures)
