use Rattle.std.proofs.Common.{◌<◌, ◌^◌, ℕ, None, [], ◌∷◌, ◌++◌, ap, sym, ◌∙◌, subst}
use Rattle.std.proofs.lemmas.Result.{on_ok_weaker}
use Rattle.wasm_lang.specs.Instructions.{local_set}
use Rattle.wasm_lang_exec.specs.Code.{◌⊕◌}
use Rattle.wasm_laws_trees.specs.Spelled.{flat}
use Rattle.wasm_laws_write.specs.Lengths.{IsNarrow}
use Rattle.asm_tree.specs.Views.{clauses_view}
use Rattle.asm_lang_exec.specs.Meaning.{before_default}
use Rattle.asm2wasm_translation.specs.Values.{plains, number}
use Rattle.asm2wasm_translation.specs.Bodies.{case_numbers}
use Rattle.asm2wasm_emit_pieces.proofs.Parts.{first_part, second_part}
use Rattle.asm2wasm_emit_pieces.proofs.Joined.{joined}
use Rattle.asm2wasm_emit_switches.proofs.Pieces.{block_round}
use Rattle.asm2wasm_emit_switches.proofs.long.first_clause.Goals as goal

pub case_numbers-requires : goal.case_numbers-requires
case_numbers-requires c =
    let cs = clauses_view c.args.clauses.now in
    record { narrow = first_part IsNarrow (case_numbers c.args.t c.args.k 0 cs) (plains (number (before_default cs) ∷ local_set c.args.k ∷ [])) c.requires.narrow.1 }

pub set_number-requires-clause-local : goal.set_number-requires-clause-local
set_number-requires-clause-local c =
    let cs = clauses_view c.args.clauses.now in
    (second_part IsNarrow (case_numbers c.args.t c.args.k 0 cs) (plains (number (before_default cs) ∷ local_set c.args.k ∷ [])) c.requires.narrow.1).1.0

pub set_number-requires-clause-number : goal.set_number-requires-clause-number
set_number-requires-clause-number c =
    let cs = clauses_view c.args.clauses.now in
    subst (λ (n : ℕ). n < 2 ^ 32) (sym c.before_default.ensures.exact)
    (second_part IsNarrow (case_numbers c.args.t c.args.k 0 cs) (plains (number (before_default cs) ∷ local_set c.args.k ∷ [])) c.requires.narrow.1).0

pub returns : goal.returns
returns c =
    let cs = clauses_view c.args.clauses.now in
    let tests = case_numbers c.args.t c.args.k 0 cs in
    let default = plains (number (before_default cs) ∷ local_set c.args.k ∷ []) in
    on_ok_weaker c.push-2.result
    (block_round c.args.output.now c.push.new.self c.set_number.new.output c.push-2.new.self None (tests ⊕ default) c.in_ok-push.ensures
    (joined c.push.new.self c.case_numbers.new.output c.set_number.new.output tests default c.in_ok-case_numbers.ensures
    (c.in_ok-set_number.ensures ∙ ap (λ n. c.case_numbers.new.output ++ flat (plains (number n ∷ local_set c.args.k ∷ []))) c.before_default.ensures.exact)))
    c.push-2.ensures
