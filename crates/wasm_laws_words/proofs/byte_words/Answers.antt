use Rattle.std.proofs.Common.{◌<◌}
use Rattle.wasm_laws_words.proofs.Lists.{each}
use Rattle.wasm_laws_words.proofs.byte_words.Goals as goal

pub returns : goal.returns
returns c = each (λ b. b < 256) c.args.bytes.now c.are_bytes.ensures
