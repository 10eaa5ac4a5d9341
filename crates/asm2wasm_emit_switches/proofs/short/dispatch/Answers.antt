use Rattle.wasm_lang_exec.specs.Code.{ε, ◌▹◌, br}
use Rattle.asm_tree.specs.Views.{clauses_view}
use Rattle.asm_lang_valid.specs.Typing.{values}
use Rattle.asm_lang_exec.specs.Meaning.{before_default}
use Rattle.asm2wasm_translation.specs.Bodies.{case_branches, dispatch}
use Rattle.asm2wasm_emit_switches.proofs.Pieces.{first_narrow, dispatched}
use Rattle.asm2wasm_emit_switches.proofs.short.dispatch.Goals as goal

pub tests-requires-clause-narrow : goal.tests-requires-clause-narrow
tests-requires-clause-narrow c =
    let cs = clauses_view c.args.clauses.now in
    first_narrow (dispatch c.args.t cs) (case_branches c.args.t 0 cs) (br (before_default cs) ▹ ε)
    (dispatched c.args.t cs c.is_dense.result (c.is_dense.ensures (values cs) c.of.ensures.exact) c.if-is_dense.false) c.requires.narrow
