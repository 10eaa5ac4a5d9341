use Rattle.std.proofs.Common.{◌≡◌, ◌++◌, ◌∷◌, [], ◌∙◌, arith, length}
use Rattle.std.proofs.lemmas.Grind.{common_steps}
use Rattle.std.proofs.lemmas.List.{map-append}
use Rattle.std.proofs.lemmas.Result.{err_from_is_err_and}
use Rattle.sem_words.specs.Lists.{list_items}
use Rattle.wasm_lang.specs.ReadingCode.{code_field}
use Rattle.wasm_tree.specs.Inputs.{input_of}
use Rattle.wasm_tree.specs.Views.{instr_of}
use Rattle.wasm_tree.proofs.Slices.{stands_trans}
use Rattle.wasm_binary_entries.specs.Openings.{openings_of}
use Rattle.wasm_binary_entries.specs.Views.{instrs_of}
use Rattle.wasm_binary_entries.proofs.Expressions.{code_err, code_closed, code_step}
use Rattle.wasm_binary_entries.proofs.code.instrs.Goals as goal

pub returns-in_err-instr-clause-value : goal.returns-in_err-instr-clause-value
returns-in_err-instr-clause-value c =
    let p = err_from_is_err_and c.from_residual.result c.from_residual.ensures.1 in
    rw (p.1, p.2) (code_err (length c.args.input.bytes.now) c.loop-turn._turn (instrs_of c.loop-turn.list) c.loop-turn.openings.items c.next.new.openings.items (input_of c.loop-turn.rest) (code_field (input_of c.args.input)) _ c.loop-turn-test.true c.in_err-instr.ensures.value c.loop-turn.invariant.value)

pub returns-then-closed-clause-value : goal.returns-then-closed-clause-value
returns-then-closed-clause-value c =
    let s = code_closed (length c.args.input.bytes.now) c.loop-turn._turn (instrs_of c.loop-turn.list) (openings_of c.loop-turn.openings.items) (input_of c.loop-turn.rest) (input_of c.in_ok-instr.after) (instr_of c.in_ok-instr.instr) c.in_ok-instr.closed c.next.new.openings.items c.loop-turn-test.true c.if-closed.true c.in_ok-instr.ensures.value in
    let pushed : list_items c.push.new.self ≡ list_items c.loop-turn.list ++ c.in_ok-instr.instr ∷ [] = grind (arith, common_steps) in
    rw (pushed, map-append) (c.loop-turn.invariant.value ∙ s)

pub loop-turn-preserved : goal.loop-turn-preserved
loop-turn-preserved c =
    let s = code_step (length c.args.input.bytes.now) c.loop-turn._turn (instrs_of c.loop-turn.list) (openings_of c.loop-turn.openings.items) (input_of c.loop-turn.rest) (input_of c.in_ok-instr.after) (instr_of c.in_ok-instr.instr) c.in_ok-instr.closed c.next.new.openings.items c.loop-turn-test.true c.if-closed.false c.in_ok-instr.ensures.value in
    let pushed : list_items c.push.new.self ≡ list_items c.loop-turn.list ++ c.in_ok-instr.instr ∷ [] = grind (arith, common_steps) in
    record {
      value = rw (pushed, map-append) (c.loop-turn.invariant.value ∙ s);
      follows = stands_trans c.in_ok-instr.ensures.follows c.loop-turn.invariant.follows;
    }

pub returns-then-closed-clause-follows : goal.returns-then-closed-clause-follows
returns-then-closed-clause-follows c = stands_trans c.in_ok-instr.ensures.follows c.loop-turn.invariant.follows
