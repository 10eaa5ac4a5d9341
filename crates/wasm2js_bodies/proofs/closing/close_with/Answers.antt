use Rattle.std.proofs.Common.{◌≡◌, ◌++◌, Some, sym, subst}
use Rattle.std.specs.Prelude.{IfOk}
use Rattle.wasm_lang.specs.declared.types.ValType.{ValType}
use Rattle.wasm2js_translation.specs.Bodies.{closing}
use Rattle.wasm2js_build.specs.Blocks.{statements_of}
use Rattle.wasm2js_bodies.proofs.closing.close_with.Goals as goal

pub returns-in-I32 : goal.returns-in-I32
returns-in-I32 c = λ bytes cells context.
    subst (λ (t : ValType). IfOk c.close_word.result (λ _. statements_of c.close_word.new.block ≡ statements_of c.args.block.now ++ closing bytes cells context (Some t) c.args.reached))
    (sym c.in-I32.is) (c.close_word.ensures bytes cells context)
