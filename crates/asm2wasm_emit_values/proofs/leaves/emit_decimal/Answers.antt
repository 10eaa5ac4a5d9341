use Rattle.wasm_lang_exec.specs.Code.{ε, ◌▹◌, unreachable}
use Rattle.asm2wasm_emit_values.proofs.Steps.{finished_last}
use Rattle.asm2wasm_emit_values.proofs.leaves.emit_decimal.Goals as goal

pub returns : goal.returns
returns c = finished_last c.finish.result c.args.wanted c.args.output.now c.push.new.self c.finish.new.output (unreachable ▹ ε) c.in_ok-push.ensures c.finish.ensures
