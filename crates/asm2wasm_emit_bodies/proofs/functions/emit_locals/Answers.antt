use Rattle.std.proofs.Common.{◌+◌, ◌++◌, ℕ, map, drop, sym, ap, subst, ◌∙◌}
use Rattle.wasm_laws_trees.specs.Spelled.{flat}
use Rattle.wasm_laws_write.specs.Lengths.{IsNarrow}
use Rattle.wasm_laws_write.specs.Each.{EachIn}
use Rattle.asm_tree.specs.Views.{init_view, local_view}
use Rattle.asm2wasm_translation.specs.Values.{plains}
use Rattle.asm2wasm_translation.specs.Bodies.{first_value, literal_word, locals_code}
use Rattle.asm2wasm_emit_switches.proofs.Pieces.{turned, first_narrow, rest_narrow}
use Rattle.asm2wasm_emit_values.specs.Contexts.{scope_in}
use Rattle.asm2wasm_emit_bodies.proofs.Bodies.{locals_turn}
use Rattle.asm2wasm_emit_bodies.proofs.functions.emit_locals.Goals as goal

pub emit_first_value-requires : goal.emit_first_value-requires
emit_first_value-requires c =
    let size = c.args.context.now.size in
    let scope = scope_in c.args.context.now in
    let at = c.args.first + c.loop-i.i in
    let local = c.index-locals-i.result in
    let turn = locals_turn size scope c.args.first c.args.locals.now c.loop-i.i local c.loop-i-test.true c.index-locals-i.is in
    record {
      narrow =
          subst (λ (w : ℕ). EachIn IsNarrow (plains (first_value size scope at w))) (sym (c.literal_word.ensures size scope))
          (first_narrow (locals_code size scope at (map local_view (drop c.loop-i.i c.args.locals.now))) (plains (first_value size scope at (literal_word size scope (init_view local.init)))) (locals_code size scope (c.args.first + (c.loop-i.i + 1)) (map local_view (drop (c.loop-i.i + 1) c.args.locals.now))) turn c.loop-i.invariant.narrow);
    }

pub loop-i-preserved : goal.loop-i-preserved
loop-i-preserved c =
    let size = c.args.context.now.size in
    let scope = scope_in c.args.context.now in
    let at = c.args.first + c.loop-i.i in
    let local = c.index-locals-i.result in
    let turn = locals_turn size scope c.args.first c.args.locals.now c.loop-i.i local c.loop-i-test.true c.index-locals-i.is in
    let whole = locals_code size scope at (map local_view (drop c.loop-i.i c.args.locals.now)) in
    let one = plains (first_value size scope at (literal_word size scope (init_view local.init))) in
    let rest = locals_code size scope (c.args.first + (c.loop-i.i + 1)) (map local_view (drop (c.loop-i.i + 1) c.args.locals.now)) in
    record {
      given =
          turned (c.args.output.now ++ flat (locals_code size scope c.args.first (map local_view c.args.locals.now))) c.loop-i.output c.emit_first_value.new.output whole one rest c.loop-i.invariant.given turn
          (c.in_ok-emit_first_value.ensures ∙ ap (λ w. c.loop-i.output ++ flat (plains (first_value size scope at w))) (c.literal_word.ensures size scope));
      narrow = rest_narrow whole one rest turn c.loop-i.invariant.narrow;
    }
