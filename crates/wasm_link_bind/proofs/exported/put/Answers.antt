use Rattle.std.proofs.Common.{◌∙◌}
use Rattle.wasm_link_bind.proofs.Named.{put_one}
use Rattle.wasm_link_bind.proofs.exported.put.Goals as goal

pub returns : goal.returns
returns c = λ n. put_one c.args.functions.now c.insert.new.self c.args.export.now _ _ n (c.of.ensures ∙ c.as_bytes.ensures) c.function_of-function.ensures (c.in_ok-insert.ensures.updates.0 n)
