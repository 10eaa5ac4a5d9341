use Rattle.std.proofs.Common.{sym, ap, ◌∙◌}
use Rattle.std.specs.Prelude.{option_map}
use Rattle.wasm2js_nodes.specs.Names.{name_view}
use Rattle.wasm2js_terms.specs.Atoms.{atom_view}
use Rattle.wasm2js_terms.specs.Waits.{delays_view}
use Rattle.wasm2js_terms.specs.Held.{word_view}
use Rattle.wasm2js_terms.proofs.Waiting.{light_at_hand, held_at_hand}
use Rattle.wasm2js_terms.proofs.held.word_at.Goals as goal

pub returns-in-Some : goal.returns-in-Some
returns-in-Some c =
    light_at_hand (delays_view c.args.waits.now) c.args.held (name_view c.args.name) (atom_view c.in-Some.word)
    (sym (ap (option_map atom_view) c.in-Some.is) ∙ c.waiting_atom.ensures)

pub returns-in-None : goal.returns-in-None
returns-in-None c =
    held_at_hand (delays_view c.args.waits.now) c.args.held (name_view c.args.name) (word_view c.word_held.result)
    (sym (ap (option_map atom_view) c.in-None.is) ∙ c.waiting_atom.ensures) c.word_held.ensures
