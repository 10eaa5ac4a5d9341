use Rattle.std.proofs.Common.{ap, ◌∙◌}
use Rattle.sem_words.specs.Lists.{list_items}
use Rattle.asm_lang_valid.specs.Scope.{function_signature}
use Rattle.asm_names.specs.Scopes.{scope_view}
use Rattle.asm_validate_exprs.proofs.Lengths.{first_is}
use Rattle.asm_validate_exprs.proofs.signatures.first_member.Goals as goal

pub returns-in-Some : goal.returns-in-Some
returns-in-Some c =
    c.function_signature.ensures ∙ ap function_signature c.module_meaning.ensures
    ∙ first_is (scope_view c.args.context.now.scope).home (list_items c.args.table.now.members) c.in-Some.name.now c.in-Some.ensures.value
