use Rattle.std.proofs.Common.{ap, ◌∙◌}
use Rattle.wasm2js_build.specs.Blocks.{statements_of}
use Rattle.wasm2js_build.specs.Growing.{lights_in}
use Rattle.wasm2js_build.proofs.Holding.{all_written}
use Rattle.wasm2js_build.proofs.straight.LateBlock.write_all.Goals as goal

pub returns-clause-statements : goal.returns-clause-statements
returns-clause-statements c =
    ap statements_of c.forget.ensures.block
    ∙ all_written (statements_of c.args.self.now.block) (statements_of c.write_lights.new.self.block) (statements_of c.write_held.new.self.block) (lights_in c.args.self.now)
    c.args.self.now.held c.write_lights.new.self.held c.in_ok-write_lights.ensures.statements c.write_lights.ensures.held c.in_ok-write_held.ensures.statements
