use Rattle.std.proofs.Common.{◌≡◌, ◌+◌, ◌∷◌, [], ◌++◌, replicate, sym, ap, ◌∙◌}
use Rattle.std.proofs.lemmas.Result.{on_ok_weaker}
use Rattle.wasm_tree.specs.Views.{locals_in}
use Rattle.wat_read_bodies.proofs.Runs.{run_grows}
use Rattle.wat_read_bodies.proofs.locals.push_local.Goals as goal

pub returns-then-takes : goal.returns-then-takes
returns-then-takes c =
    let last = c.in-Some.last in
    let made = c.push_run-then-takes.new.runs.items in
    let more = run_grows c.pop.new.self.items last c.args.kind (c.takes.ensures c.if-takes.true).0 in
    on_ok_weaker c.push_run-then-takes.result
    (λ (e : locals_in made ≡ locals_in c.pop.new.self.items ++ replicate (last.count + 1) c.args.kind). e ∙ more ∙ ap (λ rs. locals_in rs ++ c.args.kind ∷ []) (sym c.in-Some.ensures.items))
    c.push_run-then-takes.ensures
