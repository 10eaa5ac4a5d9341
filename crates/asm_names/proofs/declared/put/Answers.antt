use Rattle.std.proofs.Common.{ap, ◌∙◌}
use Rattle.std.specs.Prelude.{Some, if◌then◌else◌}
use Rattle.std.specs.Str.{bytes_eq}
use Rattle.asm_names.specs.Meanings.{meaning_view, seen}
use Rattle.asm_names.proofs.Put.{found_put, numbered_put}
use Rattle.asm_names.proofs.declared.put.Goals as goal

pub returns-clause-known : goal.returns-clause-known
returns-clause-known c = λ n.
    found_put (bytes_eq c.of.result n) c.args.meaning _ _ (c.in_ok-insert.ensures.updates.0 n)
    ∙ ap (λ k. if bytes_eq k n then meaning_view (Some c.args.meaning) else seen c.args.names.now n) (c.of.ensures ∙ c.as_bytes.ensures)

pub returns-clause-numbered : goal.returns-clause-numbered
returns-clause-numbered c = λ m each this n.
    numbered_put m (bytes_eq c.of.result n) c.args.meaning _ _ (c.in_ok-insert.ensures.updates.0 n) this (each n)
