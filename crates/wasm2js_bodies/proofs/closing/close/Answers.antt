use Rattle.std.proofs.Common.{◌≡◌, ◌++◌, Option, sym, subst}
use Rattle.std.specs.Prelude.{IfOk}
use Rattle.wasm_lang.specs.declared.types.ValType.{ValType}
use Rattle.wasm2js_translation.specs.Bodies.{closing}
use Rattle.wasm2js_build.specs.Blocks.{statements_of}
use Rattle.wasm2js_bodies.proofs.closing.close.Goals as goal

pub returns-in-Some : goal.returns-in-Some
returns-in-Some c = λ bytes cells context.
    subst (λ (r : Option ValType). IfOk c.close_with.result (λ _. statements_of c.close_with.new.block ≡ statements_of c.args.block.now ++ closing bytes cells context r c.args.reached))
    (sym c.in-Some.is) (c.close_with.ensures bytes cells context)
