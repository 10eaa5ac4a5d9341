use Rattle.asm_tree.specs.Views.{module_view}
use Rattle.wasm2js.proofs.Told.{only_memory}
use Rattle.wasm2js.proofs.translating.checked.Goals as goal

pub want_of_memory-requires : goal.want_of_memory-requires
want_of_memory-requires c = only_memory (module_view c.args.made) c.requires.accepted c.in-Err.refusal c.in-Err.ensures.exactly
