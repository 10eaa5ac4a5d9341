use Rattle.wasm_link.proofs.Stands.{linkable}
use Rattle.wasm_link.proofs.standing.linked_stands.Goals as goal

pub returns-clause-valid : goal.returns-clause-valid
returns-clause-valid c = λ w first second p q none. c.validity.ensures.valid w (linkable w first second p q none)

pub returns-clause-shaped : goal.returns-clause-shaped
returns-clause-shaped c = λ w first second p q none. c.writable.ensures.shaped w (linkable w first second p q none) p q
