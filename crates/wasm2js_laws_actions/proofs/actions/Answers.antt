use Rattle.wasm2js_laws_actions.proofs.Executed.{actions_are_done, actions_are_followed}
use Rattle.wasm2js_laws_actions.proofs.actions.Goals as goal

pub returns-clause-done : goal.returns-clause-done
returns-clause-done c = actions_are_done

pub returns-clause-followed : goal.returns-clause-followed
returns-clause-followed c = actions_are_followed
