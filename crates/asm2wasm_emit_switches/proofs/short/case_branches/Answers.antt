use Rattle.std.proofs.Common.{◌+◌, ◌++◌, drop}
use Rattle.wasm_laws_trees.specs.Spelled.{flat}
use Rattle.asm_tree.specs.Views.{clauses_view}
use Rattle.asm2wasm_translation.specs.Bodies.{case_branches}
use Rattle.asm2wasm_emit_switches.specs.Cases.{one_clause}
use Rattle.asm2wasm_emit_switches.proofs.Pieces.{turned, first_narrow, rest_narrow, branches_turn}
use Rattle.asm2wasm_emit_switches.proofs.short.case_branches.Goals as goal

pub case_branch-requires : goal.case_branch-requires
case_branch-requires c =
    let ks = c.args.clauses.now in
    let i = c.loop-i.i in
    let k = c.index-clauses-i.result in
    record {
      narrow =
          first_narrow (case_branches c.args.t i (clauses_view (drop i ks))) (case_branches c.args.t i (one_clause k.value)) (case_branches c.args.t (i + 1) (clauses_view (drop (i + 1) ks)))
          (branches_turn c.args.t ks i k c.loop-i-test.true c.index-clauses-i.is) c.loop-i.invariant.narrow;
    }

pub loop-i-preserved : goal.loop-i-preserved
loop-i-preserved c =
    let ks = c.args.clauses.now in
    let i = c.loop-i.i in
    let k = c.index-clauses-i.result in
    let whole = case_branches c.args.t i (clauses_view (drop i ks)) in
    let first = case_branches c.args.t i (one_clause k.value) in
    let rest = case_branches c.args.t (i + 1) (clauses_view (drop (i + 1) ks)) in
    let turn = branches_turn c.args.t ks i k c.loop-i-test.true c.index-clauses-i.is in
    record {
      given = turned (c.args.output.now ++ flat (case_branches c.args.t 0 (clauses_view ks))) c.loop-i.output c.case_branch.new.output whole first rest c.loop-i.invariant.given turn c.in_ok-case_branch.ensures;
      narrow = rest_narrow whole first rest turn c.loop-i.invariant.narrow;
    }
