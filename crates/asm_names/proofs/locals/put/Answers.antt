use Rattle.std.proofs.Common.{ap, ◌∙◌}
use Rattle.std.specs.Prelude.{Some, if◌then◌else◌}
use Rattle.std.specs.Str.{bytes_eq}
use Rattle.asm_names.specs.Meanings.{meaning_view}
use Rattle.asm_names.specs.Scopes.{variable_of, local_seen}
use Rattle.asm_names.proofs.Variables.{found_put}
use Rattle.asm_names.proofs.locals.put.Goals as goal

pub returns : goal.returns
returns c = λ n o.
    found_put (bytes_eq c.as_bytes.result.now n) c.args.is_int _ _ o (c.in_ok-insert.ensures.updates.0 (record { ref_ptr = (0, 0); now = n }))
    ∙ ap (λ k. if bytes_eq k n then meaning_view (Some (variable_of c.args.is_int)) else local_seen c.args.names.now n o) c.as_bytes.ensures
