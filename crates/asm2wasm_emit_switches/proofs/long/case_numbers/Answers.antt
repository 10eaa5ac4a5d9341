use Rattle.std.proofs.Common.{◌+◌, ◌++◌, drop}
use Rattle.wasm_laws_trees.specs.Spelled.{flat}
use Rattle.asm_tree.specs.Views.{clauses_view}
use Rattle.asm2wasm_translation.specs.Bodies.{case_numbers}
use Rattle.asm2wasm_emit_switches.specs.Cases.{one_clause}
use Rattle.asm2wasm_emit_switches.proofs.Pieces.{turned, first_narrow, rest_narrow, numbers_turn}
use Rattle.asm2wasm_emit_switches.proofs.long.case_numbers.Goals as goal

pub case_number-requires : goal.case_number-requires
case_number-requires c =
    let ks = c.args.clauses.now in
    let i = c.loop-i.i in
    let k = c.index-clauses-i.result in
    record {
      narrow =
          first_narrow (case_numbers c.args.t c.args.k i (clauses_view (drop i ks))) (case_numbers c.args.t c.args.k i (one_clause k.value)) (case_numbers c.args.t c.args.k (i + 1) (clauses_view (drop (i + 1) ks)))
          (numbers_turn c.args.t c.args.k ks i k c.loop-i-test.true c.index-clauses-i.is) c.loop-i.invariant.narrow;
    }

pub loop-i-preserved : goal.loop-i-preserved
loop-i-preserved c =
    let ks = c.args.clauses.now in
    let i = c.loop-i.i in
    let k = c.index-clauses-i.result in
    let whole = case_numbers c.args.t c.args.k i (clauses_view (drop i ks)) in
    let first = case_numbers c.args.t c.args.k i (one_clause k.value) in
    let rest = case_numbers c.args.t c.args.k (i + 1) (clauses_view (drop (i + 1) ks)) in
    let turn = numbers_turn c.args.t c.args.k ks i k c.loop-i-test.true c.index-clauses-i.is in
    record {
      given = turned (c.args.output.now ++ flat (case_numbers c.args.t c.args.k 0 (clauses_view ks))) c.loop-i.output c.case_number.new.output whole first rest c.loop-i.invariant.given turn c.in_ok-case_number.ensures;
      narrow = rest_narrow whole first rest turn c.loop-i.invariant.narrow;
    }
