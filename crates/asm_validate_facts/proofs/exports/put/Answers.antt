use Rattle.std.proofs.Common.{ap, ◌∙◌}
use Rattle.std.specs.Prelude.{if◌then◌else◌}
use Rattle.std.specs.Str.{bytes_eq}
use Rattle.asm_validate_facts.specs.Numbers.{number_seen}
use Rattle.asm_validate_facts.proofs.Counting.{found_put}
use Rattle.asm_validate_facts.proofs.exports.put.Goals as goal

pub returns : goal.returns
returns c = λ n o.
    found_put (bytes_eq c.as_bytes.result.now n) c.args.number o _ _ (c.in_ok-insert.ensures.updates.0 (record { ref_ptr = (0, 0); now = n }))
    ∙ ap (λ k. if bytes_eq k n then c.args.number else number_seen c.args.names.now n o) c.as_bytes.ensures
