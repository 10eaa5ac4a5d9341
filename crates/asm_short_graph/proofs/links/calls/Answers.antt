use Rattle.std.proofs.Common.{ap, ◌∙◌}
use Rattle.asm_lang_valid.specs.NameRows.{is_function}
use Rattle.asm_lang_valid.specs.Typing.{named}
use Rattle.asm_names.specs.Scopes.{scope_view}
use Rattle.asm_short_graph.proofs.links.calls.Goals as goal

pub returns : goal.returns
returns c = c.is_function.ensures ∙ ap is_function (c.meaning.ensures.known ∙ ap (named (scope_view c.args.scope.now)) c.as_bytes.ensures)
