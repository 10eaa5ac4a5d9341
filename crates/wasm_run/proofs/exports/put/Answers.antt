use Rattle.std.proofs.Common.{ap, ◌∙◌}
use Rattle.std.specs.Prelude.{Some, if◌then◌else◌}
use Rattle.std.specs.Str.{bytes_eq}
use Rattle.script_lines.specs.GlobalLines.{found}
use Rattle.wasm_run.proofs.exports.put.Goals as goal

pub returns : goal.returns
returns c = λ n.
    c.in_ok-insert.ensures.updates.0 (record { ref_ptr = (0, 0); now = n })
    ∙ ap (λ k. if bytes_eq k n then Some c.args.place else found c.args.places.now n) c.as_bytes-name.ensures
