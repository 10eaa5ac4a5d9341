use mir.Syntax.{w128}
use Rattle.std.proofs.Common.{FitsSigned, rules, ◌≡◌, ◌++◌, ap, ◌∙◌, subst}
use Rattle.std.proofs.lemmas.Int.{to_z-of_z}
use Rattle.sem_words.specs.Words.{word_of}
use Rattle.wasm_laws_trees.specs.Spelled.{flat}
use Rattle.asm2wasm_translation.specs.Values.{one, number}
use Rattle.asm2wasm_emit_values.proofs.Steps.{finished_last}
use Rattle.asm2wasm_emit_values.proofs.leaves.emit_literal.Goals as goal

pub returns : goal.returns
returns c =
    let fits : FitsSigned w128 c.args.value = search rules in
    let word : c.low_word.result ≡ word_of 32 c.args.value = c.low_word.ensures ∙ ap (word_of 32) (to_z-of_z w128 c.args.value fits) in
    let pushed = subst (λ n. c.push.new.self ≡ c.args.output.now ++ flat (one (number n))) word c.in_ok-push.ensures in
    finished_last c.finish.result c.args.wanted c.args.output.now c.push.new.self c.finish.new.output (one (number (word_of 32 c.args.value))) pushed c.finish.ensures
