use Rattle.std.proofs.Common.{◌≡◌, ◌≤◌, ◌+◌, ◌*◌, ◌++◌}
use Rattle.wasm_run_flat.specs.Places.{code_at}
use Rattle.wasm2js_translation.specs.Bodies.{comes_to_end}
use Rattle.wasm2js_build.specs.Blocks.{statements_of}
use Rattle.wasm2js_build.specs.Growing.{held_of}
use Rattle.wasm2js_jumps.specs.Aims.{aims_view}
use Rattle.wasm2js_operands.specs.Operands.{over, IsKept}
use Rattle.wasm2js_operands.specs.Scopes.{context_in}
use Rattle.wasm2js_bodies.specs.Walks.{IsInside, size, stmts_after}
use Rattle.wasm2js_bodies.proofs.walk.+walk.Given as goal

abbrev pub invariant-put_code-loop-next : goal.invariant-put_code-loop-next
invariant-put_code-loop-next l = record {
  inside : IsInside l.body l.place;
  kept : IsKept l.base l.initial.types.items l.types.items;
  aims : l.aims.items ≡ l.initial.aims.items;
  statements :
      statements_of l.text.block ++ stmts_after l.walk.sizes.bytes l.walk.sizes.cells (context_in l.walk.scope.now) (code_at l.body l.place) (aims_view l.initial.aims.items) l.base (over l.base l.types.items) (held_of l.text)
      ≡ statements_of l.initial.text.block ++ stmts_after l.walk.sizes.bytes l.walk.sizes.cells (context_in l.walk.scope.now) (code_at l.body l.initial.place) (aims_view l.initial.aims.items) l.base (over l.base l.initial.types.items) (held_of l.initial.text);
  ending : comes_to_end (code_at l.body l.place) ≡ comes_to_end (code_at l.body l.initial.place);
  left : size (code_at l.body l.place) ≤ size (code_at l.body l.initial.place);
}

abbrev pub decreases-put_code-loop-next : goal.decreases-put_code-loop-next
decreases-put_code-loop-next l = size (code_at l.body l.place)

abbrev pub decreases-put_code : goal.decreases-put_code
decreases-put_code l = 4 * size (code_at l.body.now l.at) + 3

abbrev pub decreases-step : goal.decreases-step
decreases-step l = 4 * size (code_at l.body.now l.at) + 2

abbrev pub decreases-do_block : goal.decreases-do_block
decreases-do_block l = 4 * size (code_at l.body.now l.at) + 1

abbrev pub decreases-do_loop : goal.decreases-do_loop
decreases-do_loop l = 4 * size (code_at l.body.now l.at) + 1

abbrev pub decreases-do_if : goal.decreases-do_if
decreases-do_if l = 4 * size (code_at l.body.now l.at) + 1

abbrev pub decreases-put_inside : goal.decreases-put_inside
decreases-put_inside l = 4 * size (code_at l.body.now l.at) + 4
