use Rattle.std.proofs.Common.{◌∙◌, ap}
use Rattle.wasm_binary_write.specs.Spelling.{spelling}
use Rattle.cmd_wat2wasm.proofs.Checked.{spelled}
use Rattle.cmd_wat2wasm.proofs.making.spelled.Goals as goal

pub returns-in-Ok-clause-made : goal.returns-in-Ok-clause-made
returns-in-Ok-clause-made c =
    spelled c.spelling_laws.ensures.spells c.spelling_laws.ensures.shortest c.args.text.now c.in_ok-valid.valid c.in-Ok.bytes.items
    c.in_ok-valid.ensures.valid (c.in_ok-valid.ensures.writable c.requires) (c.in-Ok.ensures ∙ ap spelling c.module.ensures.given)
