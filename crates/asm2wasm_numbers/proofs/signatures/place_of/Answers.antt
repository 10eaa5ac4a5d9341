use Rattle.std.proofs.Common.{◌∙◌}
use Rattle.asm2wasm_numbers.proofs.Types.{found_place, no_place}
use Rattle.asm2wasm_numbers.proofs.signatures.place_of.Goals as goal

pub returns-in-Some : goal.returns-in-Some
returns-in-Some c = found_place c.args.signature c.args.signatures.now.keys c.in-Some.place c.in-Some.ensures.index

pub returns-in-None : goal.returns-in-None
returns-in-None c = c.len.ensures.len ∙ no_place c.args.signature c.args.signatures.now.keys c.in-None.ensures.index
