use Rattle.std.proofs.Common.{◌≡◌, length, arith}
use Rattle.asm_names.specs.Members.{number_in}
use Rattle.asm_short_graph.proofs.Numbers.{all_numbered, none_found}
use Rattle.asm_short_graph.proofs.numbering.Nodes.new.Goals as goal

pub returns : goal.returns
returns c =
    let names = c.in_ok-names.names in
    let ok = names.ok.0 in
    let len = c.len-count.ensures in
    let long : c.len-count.result ≡ length names.items = omega arith in
    record {
      known = λ n. all_numbered c.as_slice-2.result.now names.items _ n c.len-count.result (number_in c.put_all.new.numbers n) c.as_slice-2.ensures.value c.in_ok-names.ensures long (c.in_ok-put_all.ensures n (none_found _ n _ c.in_ok-numbers.ensures.empty));
    }
