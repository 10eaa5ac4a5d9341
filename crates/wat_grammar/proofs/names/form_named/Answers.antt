use Rattle.std.proofs.Common.{ap, ◌∙◌, bytes_eq}
use Rattle.std.specs.Map.{lookup}
use Rattle.wat_lang.specs.Words.{form_named, instruction_names}
use Rattle.wat_grammar.specs.Tables.{with_key}
use Rattle.wat_grammar.proofs.Keys.{found_by_key}
use Rattle.wat_grammar.proofs.names.form_named.Goals as goal

pub returns : goal.returns
unfolding form_named
returns c = c.form_in.ensures ∙ ap (lookup (bytes_eq c.args.word.now)) (c.names_with.ensures ∙ ap (λ k. with_key k instruction_names) c.key_of.ensures.is) ∙ found_by_key c.args.word.now instruction_names
