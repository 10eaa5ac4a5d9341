use Rattle.std.proofs.Common.{ap, ◌∙◌}
use Rattle.wasm_binary_write.specs.Spelling.{spelling}
use Rattle.wasm_link.proofs.linking.written_with.Goals as goal

pub returns : goal.returns
returns c = c.in_ok-bytes.ensures ∙ ap spelling (c.made_is_linked.ensures c.args.numbers.now c.requires.first c.requires.second c.requires.linked)
