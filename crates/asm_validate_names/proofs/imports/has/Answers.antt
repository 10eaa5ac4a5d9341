use Rattle.std.proofs.Common.{ap, ◌∙◌}
use Rattle.asm_lang_valid.specs.Scope.{is_in}
use Rattle.asm_validate_names.specs.Seen.{names}
use Rattle.asm_validate_names.proofs.Rest.{seen_is}
use Rattle.asm_validate_names.proofs.imports.has.Goals as goal

pub returns : goal.returns
returns c = c.contains.ensures ∙ seen_is c.as_bytes.result.now c.args.set.now.keys ∙ ap (λ n. is_in n (names c.args.set.now)) c.as_bytes.ensures
