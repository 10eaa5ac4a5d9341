use Rattle.std.proofs.Common.{[], ◌∷◌, ◌++◌, ap, ◌∙◌}
use Rattle.std.proofs.lemmas.Result.{on_ok_weaker}
use Rattle.wasm_lang.specs.Instructions as instructions
use Rattle.wasm_lang_exec.specs.Code.{ε, ◌▹◌, br}
use Rattle.asm_tree.specs.Views.{clauses_view}
use Rattle.asm_lang_exec.specs.Meaning.{before_default}
use Rattle.asm2wasm_translation.specs.Bodies.{case_branches}
use Rattle.asm2wasm_emit_pieces.proofs.Joined.{joined}
use Rattle.asm2wasm_emit_switches.proofs.short.tests.Goals as goal

pub returns : goal.returns
returns c =
    let cs = clauses_view c.args.clauses.now in
    on_ok_weaker c.push.result
    (λ given. joined c.args.output.now c.case_branches.new.output c.push.new.self (case_branches c.args.t 0 cs) (br (before_default cs) ▹ ε) c.in_ok-case_branches.ensures
    (given ∙ ap (λ d. c.case_branches.new.output ++ instructions.br d ∷ []) c.before_default.ensures.exact))
    c.push.ensures
