use Rattle.sem_words.specs.Lists.{list_items}
use Rattle.wasm_tree.specs.Inputs.{input_of}
use Rattle.wasm_tree.specs.Views.{locals_in, code_of}
use Rattle.wasm_tree.proofs.Slices.{stands_trans}
use Rattle.wasm_binary_entries.specs.Lent.{source_of}
use Rattle.wasm_binary_entries.proofs.EntryPlaces.{code_at}
use Rattle.wasm_binary_entries.proofs.Lending.{code_from}
use Rattle.wasm_binary_entries.proofs.bodies.body_content.Goals as goal

pub returns-clause-lent : goal.returns-clause-lent
returns-clause-lent c = record {
  place = c.in_ok-locals.rest.at;
  read = code_at c.args.params (input_of c.args.input) (input_of c.in_ok-n.rest) (input_of c.in_ok-locals.rest) (input_of c.in_ok-code.rest) c.in_ok-n.n (locals_in (list_items c.in_ok-locals.locals)) (code_of c.in_ok-code.code) c.in_ok-n.ensures.value c.in_ok-locals.ensures.value c.in_ok-code.ensures.value;
  stands = code_from (source_of c.in_ok-locals.rest) (source_of c.args.input) (stands_trans c.in_ok-locals.ensures.follows c.in_ok-n.ensures.follows) c.in_ok-locals.rest.at c.in_ok-code.code c.in_ok-code.ensures.lent;
}
