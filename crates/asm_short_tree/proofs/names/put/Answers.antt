use Rattle.std.proofs.Common.{ap, ◌∙◌}
use Rattle.std.specs.Prelude.{Some, option_map, if◌then◌else◌}
use Rattle.std.specs.Str.{bytes_eq}
use Rattle.asm_short_tree.specs.Looking.{new_name, found_in}
use Rattle.asm_short_tree.proofs.Given.{mapped}
use Rattle.asm_short_tree.proofs.names.put.Goals as goal

pub returns : goal.returns
returns c = λ kept n.
    ap (option_map (new_name kept)) (c.in_ok-insert.ensures.updates.0 n) ∙ mapped (new_name kept) _ c.args.new _
    ∙ ap (λ k. if bytes_eq k n then Some (new_name kept c.args.new) else found_in kept c.args.given.now n) c.of.ensures
