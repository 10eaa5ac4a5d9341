use Rattle.wasm_tree.specs.Views.{module_of}
use Rattle.wasm_link.proofs.Stands.{only_memory}
use Rattle.wasm_link.proofs.validated.validated.Goals as goal

pub want_of_memory-requires : goal.want_of_memory-requires
want_of_memory-requires c = only_memory c.refusal_laws.ensures.not_both (module_of c.args.made) c.requires.valid c.in-Err.fault c.in-Err.ensures.exactly
