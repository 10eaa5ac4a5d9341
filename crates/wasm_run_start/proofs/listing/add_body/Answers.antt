use Rattle.std.proofs.Common.{sym, ap, ◌∙◌}
use Rattle.std.specs.Prelude.{slice_get}
use Rattle.sem_words.specs.Lists.{list_items}
use Rattle.wasm_tree.specs.Views.{body_of, module_of}
use Rattle.wasm_run_machine.proofs.Called.{viewed, not_viewed}
use Rattle.wasm_run_start.specs.Listing.{own_of}
use Rattle.wasm_run_start.proofs.Listed.{no_own}
use Rattle.wasm_run_start.proofs.Parts.{adds_own, adds_no_own}
use Rattle.wasm_run_start.proofs.listing.add_body.Goals as goal

pub returns-in_default-get : goal.returns-in_default-get
returns-in_default-get c = λ cs valid shaped all.
    let m = module_of c.args.«module».now in
    adds_no_own m c.args.place c.args.functions.now.items cs
    (ap (own_of m (slice_get m.functions c.args.place)) (not_viewed body_of (list_items c.args.«module».now.bodies) c.args.place c.in_default-get.ensures.value) ∙ no_own m (slice_get m.functions c.args.place)) all

pub returns : goal.returns
returns c = λ cs valid shaped all.
    let m = module_of c.args.«module».now in
    adds_own m valid shaped c.args.place c.in-Some.kind.now (body_of c.in-Some-get.body.now) c.in_ok-flat.flat c.args.functions.now.items c.push.new.functions.items cs
    (sym c.in-Some.ensures.value) (viewed body_of (list_items c.args.«module».now.bodies) c.args.place c.in-Some-get.body.now c.in-Some-get.ensures.value)
    c.in_ok-flat.ensures c.in_ok-push.ensures all
