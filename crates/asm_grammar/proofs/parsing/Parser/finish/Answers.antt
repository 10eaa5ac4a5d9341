use Rattle.std.proofs.Common.{ap, ◌∙◌}
use Rattle.asm_lang.specs.Modules.{module_of, module_places}
use Rattle.asm_grammar_nodes.specs.declared.declarations.ModuleTree.{ModuleTree}
use Rattle.asm_grammar_nodes.specs.Views.{module_view}
use Rattle.asm_grammar.proofs.All.{found_at_end, refused_at_end}
use Rattle.asm_grammar.proofs.Laws.{verdict_of, module_read_is}
use Rattle.asm_grammar.proofs.parsing.Parser.finish.Goals as goal

pub returns-in-Ok : goal.returns-in-Ok
returns-in-Ok c = λ ts h.
    let this = c.in-Ok.ensures.same ∙ ap (λ (x : ModuleTree). module_of (module_view x)) c.into_tree.ensures in
    let places = c.in-Ok.ensures.places ∙ ap (λ (x : ModuleTree). module_places (module_view x)) c.into_tree.ensures in
    module_read_is c.args.end ts c.in-Some.whole c.in-Ok.parsed (found_at_end c.args.self ts c.finished.result c.in-Some.whole h c.finished.ensures c.in-Some.is) this places

pub returns-in-None : goal.returns-in-None
returns-in-None c = λ ts h. verdict_of c.args.end ts _ (refused_at_end c.args.self ts c.finished.result c.args.end h c.finished.ensures c.in-None.is)
