use Rattle.std.proofs.Common.{ap, ◌∙◌}
use Rattle.asm_lang_valid.specs.NameRows.{is_function}
use Rattle.asm_lang_valid.specs.Scope.{module_meaning}
use Rattle.asm_tree.specs.Views.{module_view}
use Rattle.asm_short_graph.proofs.links.has_function.Goals as goal

pub returns : goal.returns
returns c = c.is_function.ensures ∙ ap is_function (c.meaning.ensures.known ∙ ap (module_meaning (module_view c.args.environment.now.home.now)) c.as_bytes.ensures)
