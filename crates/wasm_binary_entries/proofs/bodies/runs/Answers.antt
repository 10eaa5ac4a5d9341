use Rattle.std.proofs.Common.{◌≡◌, ◌++◌, ◌∙◌, arith, replicate}
use Rattle.std.proofs.lemmas.Grind.{common_steps}
use Rattle.std.proofs.lemmas.Result.{err_from_is_err_and}
use Rattle.sem_words.specs.Lists.{list_items}
use Rattle.wasm_tree.specs.Inputs.{input_of}
use Rattle.wasm_tree.specs.Views.{locals_in}
use Rattle.wasm_tree.proofs.Slices.{stands_trans}
use Rattle.wasm_binary_entries.proofs.BodiesInRow.{runs_step, runs_stop_count, runs_stop_type}
use Rattle.wasm_binary_entries.proofs.bodies.runs.Goals as goal

pub loop-i-preserved : goal.loop-i-preserved
loop-i-preserved c =
    let s = runs_step c.loop-i.used c.args.n c.loop-i._i (locals_in (list_items c.loop-i.list)) (input_of c.loop-i.rest) (input_of c.in_ok-count.after) (input_of c.in_ok-kind.after) c.in_ok-count.count c.in_ok-kind.kind c.loop-i-test.true c.in_ok-count.ensures.value c.in_ok-kind.ensures.value in
    let pushed : locals_in (list_items c.push_run.new.list) ≡ locals_in (list_items c.loop-i.list) ++ replicate c.in_ok-count.count c.in_ok-kind.kind = grind (arith, common_steps) in
    record {
      value = rw pushed (c.loop-i.invariant.value ∙ s);
      follows = stands_trans c.in_ok-kind.ensures.follows (stands_trans c.in_ok-count.ensures.follows c.loop-i.invariant.follows);
    }

pub returns-in_err-count-clause-value : goal.returns-in_err-count-clause-value
returns-in_err-count-clause-value c =
    let p = err_from_is_err_and c.from_residual.result c.from_residual.ensures.1 in
    rw (p.1, p.2) (c.loop-i.invariant.value ∙ runs_stop_count c.loop-i.used c.args.n c.loop-i._i (locals_in (list_items c.loop-i.list)) (input_of c.loop-i.rest) _ c.loop-i-test.true c.in_err-count.ensures.value)

pub returns-in_err-kind-clause-value : goal.returns-in_err-kind-clause-value
returns-in_err-kind-clause-value c =
    let p = err_from_is_err_and c.from_residual-in_err-kind.result c.from_residual-in_err-kind.ensures.1 in
    rw (p.1, p.2) (c.loop-i.invariant.value ∙ runs_stop_type c.loop-i.used c.args.n c.loop-i._i (locals_in (list_items c.loop-i.list)) (input_of c.loop-i.rest) (input_of c.in_ok-count.after) c.in_ok-count.count _ c.loop-i-test.true c.in_ok-count.ensures.value c.in_err-kind.ensures.value)
