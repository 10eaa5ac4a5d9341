use Rattle.std.proofs.Common.{ap, ◌∙◌}
use Rattle.session_lang.specs.Names.{import_name}
use Rattle.wasm_tree.specs.Views.{bytes_of, import_of}
use Rattle.wasm_run_start.proofs.Parts.{adds_import}
use Rattle.wasm_run_start.proofs.listing.add_import.Goals as goal

pub returns-in_ok-push-in-Func : goal.returns-in_ok-push-in-Func
returns-in_ok-push-in-Func c = λ m cs has all.
    adds_import m (import_of c.args.import.now) c.in-Func.kind c.in_ok-name-in-Func.name c.args.functions.now.items c.push.new.functions.items cs c.in-Func.is
    (c.in_ok-name-in-Func.ensures ∙ ap (λ n. import_name n c.as_bytes-in-Func.result.now) c.as_bytes.ensures ∙ ap (import_name (bytes_of c.args.import.now.«module»)) c.as_bytes-in-Func.ensures)
    c.in_ok-push-in-Func.ensures has all
