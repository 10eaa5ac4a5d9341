use Rattle.wasm_run_frames.specs.Views.{machine_of}
use Rattle.wasm_run.proofs.Observed.{seen_at}
use Rattle.wasm_run.proofs.instance.observed.Goals as goal

pub returns : goal.returns
returns c = seen_at c.args.end (machine_of c.args.machine).store
