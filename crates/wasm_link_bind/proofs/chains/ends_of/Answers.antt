use Rattle.std.proofs.Common.{◌≡◌, ℕ, ◌+◌, ◌*◌, ◌/◌, ◌<◌, ◌≤◌, refl, sym, ap, ◌∙◌, arith, length, map}
use Rattle.std.proofs.lemmas.List.{length-map}
use Rattle.wasm_link_bind.specs.Chains.{at}
use Rattle.wasm_link_bind.proofs.Steps.{once, doubled, halved, last_half}
use Rattle.wasm_link_bind.proofs.chains.ends_of.Goals as goal

pub loop-rest-init : goal.loop-rest-init
loop-rest-init c = (1, c.in_ok-ends.ensures.count, omega arith, λ a. c.in_ok-ends.ensures.steps a ∙ once _ a)

pub loop-rest-preserved : goal.loop-rest-preserved
loop-rest-preserved c =
    let i = c.loop-rest.invariant in
    let made = c.in_ok-ends-2.ensures ∙ ap (λ t. map (at t) t) c.as_slice.ensures.value in (
      2 * i.0,
      ap length made ∙ length-map c.loop-rest.ends.items (at c.loop-rest.ends.items) ∙ i.1,
      halved _ _ i.0 i.2,
      doubled c.args.next.now c.loop-rest.ends.items _ i.0 made i.3,
    )

pub returns : goal.returns
returns c = let i = c.loop-rest.invariant in record { reach = i.0; count = i.1; enough = last_half _ _ i.0 c.loop-rest-test.false i.2; leads = i.3 }
