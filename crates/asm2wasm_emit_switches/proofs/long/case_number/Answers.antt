use Rattle.std.proofs.Common.{[], ◌∷◌, ◌++◌, ap, sym, ◌∙◌, rules, w64, FitsSigned}
use Rattle.std.proofs.lemmas.Int.{to_z-of_z}
use Rattle.std.proofs.lemmas.Result.{on_ok_weaker}
use Rattle.std.specs.Prelude.{ℤ, Option}
use Rattle.sem_words.specs.Words.{word_of}
use Rattle.sem_words.specs.declared.word.Rel.TheVariants as rels
use Rattle.wasm_lang.specs.Instructions.{local_get, local_set, rel32}
use Rattle.wasm_lang_exec.specs.Code.{ε, ◌▹◌, ◌⊕◌, br_if}
use Rattle.wasm_laws_trees.specs.Spelled.{flat}
use Rattle.asm2wasm_translation.specs.Values.{plains, number}
use Rattle.asm2wasm_translation.specs.Bodies.{case_numbers}
use Rattle.asm2wasm_emit_pieces.proofs.Joined.{joined}
use Rattle.asm2wasm_emit_switches.specs.Cases.{one_clause}
use Rattle.asm2wasm_emit_switches.proofs.long.case_number.Goals as goal

pub returns-in_ok-is_value-in-Some : goal.returns-in_ok-is_value-in-Some
returns-in_ok-is_value-in-Some c =
    let into = plains (number c.args.i ∷ local_set c.args.k ∷ []) in
    let test = plains (local_get c.args.t ∷ number (word_of 32 c.in-Some.value) ∷ rel32 rels.Eq ∷ []) in
    let fits : FitsSigned w64 c.in-Some.value = search rules in
    let tested =
    c.in_ok-is_value-in-Some.ensures
    ∙ ap (λ z. c.set_number.new.output ++ flat (plains (local_get c.args.t ∷ number (word_of 32 z) ∷ rel32 rels.Eq ∷ []))) (to_z-of_z w64 c.in-Some.value fits) in
    on_ok_weaker c.push.result
    (λ given. joined c.args.output.now c.set_number.new.output c.push.new.self into (test ⊕ (br_if 0 ▹ ε)) c.in_ok-set_number-in-Some.ensures
    (joined c.set_number.new.output c.is_value.new.output c.push.new.self test (br_if 0 ▹ ε) tested given)
    ∙ ap (λ (v : Option ℤ). c.args.output.now ++ flat (case_numbers c.args.t c.args.k c.args.i (one_clause v))) (sym c.in-Some.is))
    c.push.ensures
