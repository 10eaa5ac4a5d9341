use Rattle.std.proofs.Common.{ap, ◌∙◌}
use Rattle.std.specs.Prelude.{Some, option_map}
use Rattle.wasm_lang.specs.declared.types.ValType.{ValType}
use Rattle.wat_lang.specs.Names.{type_of}
use Rattle.wat_grammar.specs.Views.{mark_of}
use Rattle.wat_read_bodies.proofs.Atoms.{block_reads}
use Rattle.wat_read_bodies.proofs.immediates.block_type.Goals as goal

pub value_type-requires : goal.value_type-requires
value_type-requires c = block_reads (mark_of c.in-Some.token.now.mark) c.in-Some.ensures.is_wanted

pub returns-in-Some : goal.returns-in-Some
returns-in-Some c = ap (λ (t : ValType). Some t) c.value_type.ensures ∙ ap (option_map type_of) c.in-Some.ensures.found

pub returns-in-None : goal.returns-in-None
returns-in-None c = ap (option_map type_of) c.in-None.ensures.found
