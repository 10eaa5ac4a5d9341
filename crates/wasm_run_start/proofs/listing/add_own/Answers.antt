use Rattle.std.proofs.Common.{◌≡◌, ◌++◌, ℕ, List, Option, length, take, sym, ap, subst, ◌∙◌, append_assoc, arith}
use Rattle.std.proofs.lemmas.List.{length-map}
use Rattle.std.specs.Prelude.{slice_get}
use Rattle.sem_words.specs.Lists.{list_items}
use Rattle.wasm_tree.specs.Views.{body_of, module_of}
use Rattle.wasm_lang_exec.specs.Reductions as meaning
use Rattle.wasm_lang_exec.specs.Reductions.{own_callees}
use Rattle.wasm_run_start.specs.Listing.{AreReady, own_of}
use Rattle.wasm_run_start.proofs.Listed.{one_more_own, all_own}
use Rattle.wasm_run_start.proofs.listing.add_own.Goals as goal

pub loop-place-preserved : goal.loop-place-preserved
loop-place-preserved c = λ cs valid shaped all.
    let m = module_of c.args.«module».now in
    let k = c.loop-place.place in
    let before = own_callees m (take k m.functions) (take k m.bodies) in
    let one = own_of m (slice_get m.functions k) (slice_get m.bodies k) in
    subst (λ (l : List (Option meaning.Callee)). AreReady m c.add_body.new.functions.items l)
    (append_assoc cs before one ∙ ap (λ (l : List (Option meaning.Callee)). cs ++ l) (sym (one_more_own m m.functions m.bodies k)))
    (c.in_ok-add_body.ensures (cs ++ before) valid shaped (c.loop-place.invariant cs valid shaped all))

pub returns : goal.returns
returns c = λ cs valid shaped all.
    let m = module_of c.args.«module».now in
    let size : length m.bodies ≡ length (list_items c.args.«module».now.bodies) = length-map (list_items c.args.«module».now.bodies) body_of in
    let last : c.loop-place.place ≡ length m.bodies = omega (arith, size, c.len-place-end.ensures, c.loop-place-test.false, c.loop-place.auto.place-end) in
    subst (λ (l : List (Option meaning.Callee)). AreReady m c.loop-place.functions.items (cs ++ l))
    (ap (λ (k : ℕ). own_callees m (take k m.functions) (take k m.bodies)) last ∙ all_own m m.functions m.bodies) (c.loop-place.invariant cs valid shaped all)
