use Rattle.wasm_run_flat.specs.Places.{code_at}
use Rattle.wasm_run_flat.proofs.Standing.{tree_stands}
use Rattle.wasm2js_build.specs.Blocks.{statements_of}
use Rattle.wasm2js_operands.specs.Scopes.{context_in}
use Rattle.wasm2js_bodies.proofs.Whole.{begins_inside, closed}
use Rattle.wasm2js_bodies.proofs.body.body_statements.Goals as goal

pub all_statements-requires : goal.all_statements-requires
all_statements-requires c = begins_inside c.args.body.now c.requires.expression c.requires.translated

pub returns : goal.returns
returns c = λ tree is.
    let context = context_in c.args.scope.now in
    closed c.args.sizes.bytes c.args.sizes.cells context (code_at c.args.body.now 0) tree (statements_of c.in_ok-block.block) (statements_of c.close.new.block) c.in_ok-block.reached
    (tree_stands c.args.body.now tree is).code c.in_ok-block.ensures.statements c.in_ok-block.ensures.reached (c.in_ok-close.ensures c.args.sizes.bytes c.args.sizes.cells context)
