use Rattle.std.proofs.lemmas.Result.{err_from_is_err_and}
use Rattle.wasm_tree.specs.Inputs.{input_of}
use Rattle.wasm_tree.specs.Views.{bytes_of}
use Rattle.wasm_binary.proofs.SectionHeads.{custom_found, custom_no_head, custom_no_name}
use Rattle.wasm_binary.proofs.sections.custom.Goals as goal

pub returns-clause-value : goal.returns-clause-value
returns-clause-value c = (bytes_of c.in_ok-_name._name, custom_found (input_of c.args.input) (input_of c.in_ok-content.content) (input_of c.in_ok-content.after) (bytes_of c.in_ok-_name._name) (input_of c.in_ok-_name._rest) c.in_ok-content.ensures.value c.in_ok-_name.ensures.value)

pub returns-in_err-content-clause-value : goal.returns-in_err-content-clause-value
returns-in_err-content-clause-value c =
    let p = err_from_is_err_and c.from_residual.result c.from_residual.ensures.1 in
    rw (p.1, p.2) (custom_no_head (input_of c.args.input) _ c.in_err-content.ensures.value)

pub returns-in_err-_name-clause-value : goal.returns-in_err-_name-clause-value
returns-in_err-_name-clause-value c =
    let p = err_from_is_err_and c.from_residual-in_err-_name.result c.from_residual-in_err-_name.ensures.1 in
    rw (p.1, p.2) (custom_no_name (input_of c.args.input) (input_of c.in_ok-content.content) (input_of c.in_ok-content.after) _ c.in_ok-content.ensures.value c.in_err-_name.ensures.value)
