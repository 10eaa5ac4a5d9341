use Rattle.std.proofs.Common.{ap, ◌∙◌}
use Rattle.std.specs.Prelude.{Some, if◌then◌else◌}
use Rattle.std.specs.Str.{bytes_eq}
use Rattle.sem_words.specs.Lists.{text_bytes}
use Rattle.script_lines.specs.GlobalLines.{found}
use Rattle.wasm_run.specs.Globals.{narrowest}
use Rattle.wasm_run.proofs.imported.put.Goals as goal

pub returns : goal.returns
returns c = λ n.
    let kinds = c.args.kinds.now in
    let global = c.args.global.now in
    c.in_ok-insert.ensures.updates.0 (record { ref_ptr = (0, 0); now = n })
    ∙ ap (λ k. if bytes_eq k n then Some c.kind_with-kind.result else found kinds n) c.as_bytes-name.ensures
    ∙ ap (λ t. if bytes_eq (text_bytes global.name) n then Some t else found kinds n) (c.kind_with-kind.ensures ∙ ap (λ k. narrowest global.kind (found kinds k)) c.as_bytes-name.ensures)
