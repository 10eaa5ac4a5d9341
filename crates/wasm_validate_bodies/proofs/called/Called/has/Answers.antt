use Rattle.std.proofs.Common.{ap, ◌∙◌}
use Rattle.wasm_validate_bodies.specs.Calls.{holds}
use Rattle.wasm_validate_bodies.proofs.called.Called.has.Goals as goal

pub returns : goal.returns
returns c = λ types called t is e. c.contains.ensures ∙ ap (holds c.args.self.now.forms.keys) e ∙ is.forms t
