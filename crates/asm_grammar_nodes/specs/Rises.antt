-- What the code counts of all that is open round a node.
use Rattle.asm_grammar_nodes.specs.declared.rise.Rise.{Rise as CodeRise}
use Rattle.asm_laws_height.specs.Rises.{Rise}

abbrev pub rise_view : CodeRise → Rise
rise_view r = record { floor = r.floor.count; steps = r.steps }
