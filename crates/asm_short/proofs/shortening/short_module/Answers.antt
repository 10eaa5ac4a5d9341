use Rattle.std.proofs.Common.{subst, ap, sym, ◌∙◌}
use Rattle.std.proofs.lemmas.Result.{IfOk-weaker}
use Rattle.asm_tree.specs.declared.tree.Module.{Module as Tree}
use Rattle.asm_tree.specs.Views.{module_view}
use Rattle.asm_lang_valid.specs.Refusal.{IsAccepted, exported_from}
use Rattle.asm_short_modules.specs.LeftModules.{functions_in, tables_in}
use Rattle.asm_short.proofs.Shortened.{made_short}
use Rattle.asm_short.proofs.shortening.short_module.Goals as goal

pub kept_of-requires-clause-accepted : goal.kept_of-requires-clause-accepted
kept_of-requires-clause-accepted c = subst (λ (h : Tree). IsAccepted (module_view h)) (sym c.module-home.ensures.given) c.module-home.ensures.accepted

pub kept_of-requires-clause-exports : goal.kept_of-requires-clause-exports
kept_of-requires-clause-exports c = c.exports.ensures ∙ sym (ap (λ (h : Tree). exported_from (module_view h) (module_view h).exports) c.module-home.ensures.given)

pub returns : goal.returns
returns c =
    IfOk-weaker c.renamed.result _ _
    (λ s is. made_short c.args.checked.now c.module-home.result.now (functions_in c.in_ok-kept.kept.functions.items) (tables_in c.in_ok-kept.kept.tables.items) (module_view s)
    c.module-home.ensures.given c.in_ok-kept.ensures.functions c.in_ok-kept.ensures.tables is)
    c.renamed.ensures
