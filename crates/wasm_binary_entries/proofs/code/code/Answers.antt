use Rattle.std.proofs.Common.{◌≡◌, ◌-◌, ◌≤◌, ◌++◌, ◌∷◌, [], ◌∙◌, arith, length, take}
use Rattle.std.specs.Prelude.{Ok}
use Rattle.std.proofs.lemmas.Grind.{common_steps}
use Rattle.std.proofs.lemmas.Result.{err_from_is_err_and}
use Rattle.wasm_lang.specs.ReadingCode.{code_field, spelled}
use Rattle.wasm_tree.specs.Inputs.{input_of}
use Rattle.wasm_tree.specs.Views.{instr_of}
use Rattle.wasm_binary_entries.specs.Openings.{openings_of}
use Rattle.wasm_binary_entries.proofs.Expressions.{code_err, code_closed, code_step}
use Rattle.wasm_binary_entries.proofs.Spellings.{stands_alone}
use Rattle.wasm_binary_entries.proofs.code.code.Goals as goal

pub returns-in_err-_instr-clause-value : goal.returns-in_err-_instr-clause-value
returns-in_err-_instr-clause-value c =
    let p = err_from_is_err_and c.from_residual.result c.from_residual.ensures.1 in
    rw (p.1, p.2) (code_err (length c.args.input.bytes.now) c.loop-turn._turn c.loop-turn.invariant.0 c.loop-turn.openings.items c.next.new.openings.items (input_of c.loop-turn.rest) (code_field (input_of c.args.input)) _ c.loop-turn-test.true c.in_err-_instr.ensures.value c.loop-turn.invariant.1)

pub slice_bounds-front-count : goal.slice_bounds-front-count
slice_bounds-front-count c =
    let s = code_closed (length c.args.input.bytes.now) c.loop-turn._turn c.loop-turn.invariant.0 (openings_of c.loop-turn.openings.items) (input_of c.loop-turn.rest) (input_of c.in_ok-_instr.after) (instr_of c.in_ok-_instr._instr) c.in_ok-_instr.closed c.next.new.openings.items c.loop-turn-test.true c.if-closed.true c.in_ok-_instr.ensures.value in
    let code = c.loop-turn.invariant.0 ++ instr_of c.in_ok-_instr._instr ∷ [] in
    let alone = stands_alone code c.args.input.bytes.now c.in_ok-_instr.after.bytes.now (c.code_laws.ensures.code_is code (input_of c.args.input) (input_of c.in_ok-_instr.after) (c.loop-turn.invariant.1 ∙ s)).0 in
    let shorter : length c.in_ok-_instr.after.bytes.now ≤ length c.args.input.bytes.now = alone.shorter in
    omega arith

pub returns-then-closed-clause-value : goal.returns-then-closed-clause-value
returns-then-closed-clause-value c =
    let s = code_closed (length c.args.input.bytes.now) c.loop-turn._turn c.loop-turn.invariant.0 (openings_of c.loop-turn.openings.items) (input_of c.loop-turn.rest) (input_of c.in_ok-_instr.after) (instr_of c.in_ok-_instr._instr) c.in_ok-_instr.closed c.next.new.openings.items c.loop-turn-test.true c.if-closed.true c.in_ok-_instr.ensures.value in
    let code = c.loop-turn.invariant.0 ++ instr_of c.in_ok-_instr._instr ∷ [] in
    let reads : code_field (input_of c.args.input) ≡ Ok (code, input_of c.in_ok-_instr.after) = c.loop-turn.invariant.1 ∙ s in
    let alone = stands_alone code c.args.input.bytes.now c.in_ok-_instr.after.bytes.now (c.code_laws.ensures.code_is code (input_of c.args.input) (input_of c.in_ok-_instr.after) reads).0 in
    let value : spelled (take (length c.args.input.bytes.now - length c.in_ok-_instr.after.bytes.now) c.args.input.bytes.now) ≡ code = c.code_laws.ensures.spelled_is code _ alone.is in
    grind (arith, common_steps, reads, value)

pub loop-turn-preserved : goal.loop-turn-preserved
loop-turn-preserved c =
    let s = code_step (length c.args.input.bytes.now) c.loop-turn._turn c.loop-turn.invariant.0 (openings_of c.loop-turn.openings.items) (input_of c.loop-turn.rest) (input_of c.in_ok-_instr.after) (instr_of c.in_ok-_instr._instr) c.in_ok-_instr.closed c.next.new.openings.items c.loop-turn-test.true c.if-closed.false c.in_ok-_instr.ensures.value in
    (c.loop-turn.invariant.0 ++ instr_of c.in_ok-_instr._instr ∷ [], c.loop-turn.invariant.1 ∙ s)
