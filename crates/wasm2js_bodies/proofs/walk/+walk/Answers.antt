use Rattle.std.proofs.Common.{rules, ◌≡◌, ◌<◌, ◌≤◌, ℕ, [], length, vec_len, sym, ap, subst, ◌∙◌, arith}
use Rattle.std.specs.Global.{Vec}
use Rattle.wasm_run_flat.specs.Places.{code_at}
use Rattle.wasm_run_flat.proofs.Standing.{stands_inside}
use Rattle.wasm2js_build.specs.Blocks.{statements_of}
use Rattle.wasm2js_translation.specs.Actions.{under, low}
use Rattle.wasm2js_translation.specs.Delays.{at_hand}
use Rattle.wasm2js_translation.specs.Known.{into_block}
use Rattle.wasm2js_translation.specs.Words.{test_of}
use Rattle.wasm2js_nodes.specs.Names.{name_view}
use Rattle.wasm2js_terms.specs.Facts.{knowns_view}
use Rattle.wasm2js_terms.specs.Held.{word_view}
use Rattle.wasm2js_terms.specs.declared.facts.Known.{Known}
use Rattle.wasm2js_build.specs.Growing.{late_at, waits_of, held_of, late_state}
use Rattle.wasm2js_operands.specs.Operands.{over}
use Rattle.wasm2js_jumps.specs.Aims.{aim_view, aims_view}
use Rattle.wasm2js_operands.specs.Scopes.{context_in}
use Rattle.wasm2js_bodies.specs.Walks.{IsInside, size}
use Rattle.wasm2js_bodies.proofs.Blocks.{inside_block, inside_loop, inside_first, inside_second, block_smaller, loop_smaller, first_smaller, second_smaller}
use Rattle.wasm2js_bodies.proofs.Done.{block_done, loop_done, if_done}
use Rattle.wasm2js_bodies.proofs.Steps.{beside}
use Rattle.wasm2js_bodies.proofs.walk.+walk.Goals as goal

pub do_block-put_inside-requires : goal.do_block-put_inside-requires
do_block-put_inside-requires t c =
    let d = c.decreases in
    let e = sym c.place_after-first.ensures in
    let less = subst (λ (n : ℕ). size (code_at c.args.body.now n) < size (code_at c.args.body.now c.args.at)) e (block_smaller c.args.body.now c.args.at c.args.result_type c.requires.inside c.requires.here) in
    (omega arith, subst (IsInside c.args.body.now) e (inside_block c.args.body.now c.args.at c.args.result_type c.requires.inside c.requires.here))

pub do_loop-put_inside-requires : goal.do_loop-put_inside-requires
do_loop-put_inside-requires t c =
    let d = c.decreases in
    let e = sym c.place_after-first.ensures in
    let less = subst (λ (n : ℕ). size (code_at c.args.body.now n) < size (code_at c.args.body.now c.args.at)) e (loop_smaller c.args.body.now c.args.at c.args.result_type c.requires.inside c.requires.here) in
    (omega arith, subst (IsInside c.args.body.now) e (inside_loop c.args.body.now c.args.at c.args.result_type c.requires.inside c.requires.here))

pub do_if-put_inside-requires : goal.do_if-put_inside-requires
do_if-put_inside-requires t c =
    let d = c.decreases in
    let e = sym c.place_after-first.ensures in
    let less = subst (λ (n : ℕ). size (code_at c.args.body.now n) < size (code_at c.args.body.now c.args.at)) e (first_smaller c.args.body.now c.args.at c.args.result_type c.requires.inside c.requires.here) in
    (omega arith, subst (IsInside c.args.body.now) e (inside_first c.args.body.now c.args.at c.args.result_type c.requires.inside c.requires.here))

pub do_if-put_inside-requires-2 : goal.do_if-put_inside-requires-2
do_if-put_inside-requires-2 t c =
    let d = c.decreases in
    let e = sym c.other_arm.ensures in
    let less = subst (λ (n : ℕ). size (code_at c.args.body.now n) < size (code_at c.args.body.now c.args.at)) e (second_smaller c.args.body.now c.args.at c.args.result_type c.requires.inside c.requires.here) in
    (omega arith, subst (IsInside c.args.body.now) e (inside_second c.args.body.now c.args.at c.args.result_type c.requires.inside c.requires.here))

-- inside the body there is an instruction
pub step-returns-in_default-clause-value : goal.step-returns-in_default-clause-value
step-returns-in_default-clause-value t c =
    let h = stands_inside c.args.body.now c.args.at c.requires.inside.targets c.requires.inside.stands in
    let k : length c.args.body.now ≤ c.args.at = c.in_default.ensures in
    let none : ⊥ = omega (arith, h, k) in
    absurd none

pub do_block-returns-clause-value : goal.do_block-returns-clause-value
do_block-returns-clause-value t c =
    let count : vec_len c.args.types.now ≡ length c.args.types.now.items = search rules in
    block_done c.args.walk.now.sizes.bytes c.args.walk.now.sizes.cells (context_in c.args.walk.now.scope.now) c.args.body.now c.args.at (aims_view c.args.aims.now.items) c.args.base c.args.result_type
    c.place_after-first.result c.past_end.result (vec_len c.args.types.now) c.in_ok-put_inside.field-0 (aims_view c.put_inside.new.aims.items) (aim_view c.past-aim.result)
    c.args.types.now.items c.put_inside.new.types.items c.close_block.new.types.items
    (held_of c.args.text.now) (held_of c.begin_block.new.self) (statements_of c.args.text.now.block) (statements_of c.begin_block.new.self.block) (statements_of c.close_block.new.block) (statements_of c.put_inside.new.text.block) (late_state c.in_ok-inner.inner)
    c.requires.inside c.in_ok-inner.ensures.statements c.in_ok-inner.ensures.held c.requires.here (omega (arith, count)) count c.place_after-first.ensures c.past_end.ensures c.past-aim.ensures c.in_ok-inner.ensures.inside
    c.in_ok-put_inside.ensures.value c.in_ok-put_inside.ensures.types (ap aims_view c.in_ok-put_inside.ensures.aims) c.in_ok-close_block.ensures.types c.in_ok-close_block.ensures.statements

pub do_loop-returns-clause-value : goal.do_loop-returns-clause-value
do_loop-returns-clause-value t c =
    let count : vec_len c.args.types.now ≡ length c.args.types.now.items = search rules in
    loop_done c.args.walk.now.sizes.bytes c.args.walk.now.sizes.cells (context_in c.args.walk.now.scope.now) c.args.body.now c.args.at (aims_view c.args.aims.now.items) c.args.base c.args.result_type
    c.place_after-first.result c.past_end.result (vec_len c.args.types.now) c.in_ok-reached.reached (aims_view c.put_inside.new.aims.items) (aim_view c.again-aim.result)
    c.args.types.now.items c.put_inside.new.types.items c.close_loop.new.types.items
    (held_of c.args.text.now) (held_of c.write_all.new.self) (statements_of c.args.text.now.block) (statements_of c.write_all.new.self.block) (statements_of c.close_loop.new.block) (statements_of c.put_inside.new.text.block) (late_state c.new-inner.result)
    c.requires.inside c.in_ok-write_all.ensures.statements c.in_ok-write_all.ensures.held c.requires.here (omega (arith, count)) count c.place_after-first.ensures c.past_end.ensures c.again-aim.ensures c.new-inner.ensures
    c.in_ok-reached.ensures.value c.in_ok-reached.ensures.types (ap aims_view c.in_ok-reached.ensures.aims) c.in_ok-close_loop.ensures.types c.in_ok-close_loop.ensures.statements

pub do_if-returns-clause-value : goal.do_if-returns-clause-value
do_if-returns-clause-value t c =
    let n : vec_len c.remove.new.types ≡ length c.remove.new.types.items = search rules in
    let m : vec_len c.put_inside.new.types ≡ length c.put_inside.new.types.items = search rules in
    let d = under 1 c.args.base (over c.args.base c.args.types.now.items) in
    let told = statements_of c.args.text.now.block in
    let mid = statements_of c.begin_block.new.self.block in
    let waits = waits_of c.args.text.now in
    if_done c.args.walk.now.sizes.bytes c.args.walk.now.sizes.cells (context_in c.args.walk.now.scope.now) c.args.body.now c.args.at (aims_view c.args.aims.now.items) c.args.base c.args.result_type
    c.place_after-first.result c.other_arm.result c.past_end.result (vec_len c.remove.new.types) (vec_len c.put_inside.new.types)
    c.in_ok-put_inside.field-0 c.in_ok-put_inside-2.field-0 (aims_view c.put_inside.new.aims.items) (aims_view c.put_inside-2.new.aims.items) (aim_view c.past-aim.result)
    c.args.types.now.items c.remove.new.types.items c.put_inside.new.types.items c.put_inside-2.new.types.items c.close_if.new.types.items
    (held_of c.args.text.now) (held_of c.begin_block.new.self) told mid (statements_of c.close_if.new.block) (statements_of c.put_inside.new.text.block) (statements_of c.put_inside-2.new.text.block) (late_state c.in_ok-yes.yes) (late_state c.new-no.result)
    (test_of (word_view c.take_out-word.result))
    c.requires.inside
    (beside told (statements_of c.take_out-word.new.self.block) mid (name_view c.topmost.result) (low d) waits (waits_of c.take_out-word.new.self)
    (ap statements_of c.take_out-word.ensures.block) c.take_out-word.ensures.waits c.topmost.ensures c.in_ok-yes.ensures.statements)
    c.in_ok-yes.ensures.held c.requires.here c.remove.ensures.kept.there c.remove.ensures.value n m
    c.place_after-first.ensures c.other_arm.ensures c.past_end.ensures c.past-aim.ensures
    (c.in_ok-yes.ensures.inside ∙ ap (λ (ks : Vec Known). late_at [] [] (into_block (knowns_view ks.items))) c.take_out-word.ensures.known) c.new-no.ensures
    c.in_ok-put_inside.ensures.value c.in_ok-put_inside.ensures.types (ap aims_view c.in_ok-put_inside.ensures.aims)
    c.in_ok-put_inside-2.ensures.value c.in_ok-put_inside-2.ensures.types (ap aims_view c.in_ok-put_inside-2.ensures.aims)
    c.in_ok-close_if.ensures.types (ap test_of (c.take_out-word.ensures.word ∙ ap (at_hand waits) c.topmost.ensures)) c.in_ok-close_if.ensures.statements
