use Rattle.std.proofs.Common.{List, sym, ap, ◌∙◌}
use Rattle.wasm2js_translation.specs.Delays.{late_arm}
use Rattle.wasm2js_translation.specs.Known.{bound, is_within}
use Rattle.wasm2js_terms.specs.Waits.{late_term}
use Rattle.wasm2js_terms.specs.Facts.{knowns_view}
use Rattle.wasm2js_terms.specs.declared.facts.Known.{Known}
use Rattle.wasm2js_terms.specs.declared.atoms.Delayed.{Delayed}
use Rattle.wasm2js_build.specs.declared.steps.Change.TheVariants.{Either}
use Rattle.wasm2js_build.specs.Blocks.{statements_of}
use Rattle.wasm2js_build.specs.Steps.{steps_view, left_in_arms}
use Rattle.wasm2js_build.specs.Growing.{lights_of, lights_known}
use Rattle.wasm2js_build.proofs.Growing.{second_alone, either_stays, both_ok}
use Rattle.wasm2js_build.proofs.light.LightBlock.put_lean_choice.Goals as goal

pub returns-then-is_never-clause-statements : goal.returns-then-is_never-clause-statements
returns-then-is_never-clause-statements c =
    let within = λ (ks : List Known) (ws : List Delayed). is_within (bound (knowns_view ks) (late_term ws c.args.test.now)) 0 in
    let read = ap (λ ks. within ks c.deref-2.result.now) c.deref.ensures.value ∙ ap (λ ws. within c.args.self.now.known.items ws) c.deref-2.ensures.value in
    let left = left_in_arms (Either c.args.first c.args.second) (lights_of c.args.self.now) in
    both_ok c.put_second.result _ _ _ (λ _ h k.
    (second_alone (statements_of c.args.self.now.block) (statements_of c.put_second.new.self.block) (lights_known c.args.self.now) (lights_known c.put_second.new.self)
    (late_term c.args.self.now.waits.items c.args.test.now) (late_arm left (steps_view c.args.first.now)) (late_arm left (steps_view c.args.second.now)) (sym read ∙ sym c.is_never.ensures ∙ c.if-is_never.true) h k).0)
    c.put_second.ensures.statements c.put_second.ensures.known

pub returns-then-is_never-clause-known : goal.returns-then-is_never-clause-known
returns-then-is_never-clause-known c =
    let within = λ (ks : List Known) (ws : List Delayed). is_within (bound (knowns_view ks) (late_term ws c.args.test.now)) 0 in
    let read = ap (λ ks. within ks c.deref-2.result.now) c.deref.ensures.value ∙ ap (λ ws. within c.args.self.now.known.items ws) c.deref-2.ensures.value in
    let left = left_in_arms (Either c.args.first c.args.second) (lights_of c.args.self.now) in
    both_ok c.put_second.result _ _ _ (λ _ h k.
    (second_alone (statements_of c.args.self.now.block) (statements_of c.put_second.new.self.block) (lights_known c.args.self.now) (lights_known c.put_second.new.self)
    (late_term c.args.self.now.waits.items c.args.test.now) (late_arm left (steps_view c.args.first.now)) (late_arm left (steps_view c.args.second.now)) (sym read ∙ sym c.is_never.ensures ∙ c.if-is_never.true) h k).1)
    c.put_second.ensures.statements c.put_second.ensures.known

pub returns-else-is_never-clause-statements : goal.returns-else-is_never-clause-statements
returns-else-is_never-clause-statements c =
    let within = λ (ks : List Known) (ws : List Delayed). is_within (bound (knowns_view ks) (late_term ws c.args.test.now)) 0 in
    let read = ap (λ ks. within ks c.deref-2.result.now) c.deref.ensures.value ∙ ap (λ ws. within c.args.self.now.known.items ws) c.deref-2.ensures.value in
    let left = left_in_arms (Either c.args.first c.args.second) (lights_of c.args.self.now) in
    both_ok c.put_choice.result _ _ _ (λ _ h k.
    (either_stays (statements_of c.args.self.now.block) (statements_of c.put_choice.new.self.block) (lights_known c.args.self.now) (lights_known c.put_choice.new.self)
    left (late_term c.args.self.now.waits.items c.args.test.now) (steps_view c.args.first.now) (steps_view c.args.second.now) (sym read ∙ sym c.is_never.ensures ∙ c.if-is_never.false) h k).0)
    c.put_choice.ensures.statements c.put_choice.ensures.known

pub returns-else-is_never-clause-known : goal.returns-else-is_never-clause-known
returns-else-is_never-clause-known c =
    let within = λ (ks : List Known) (ws : List Delayed). is_within (bound (knowns_view ks) (late_term ws c.args.test.now)) 0 in
    let read = ap (λ ks. within ks c.deref-2.result.now) c.deref.ensures.value ∙ ap (λ ws. within c.args.self.now.known.items ws) c.deref-2.ensures.value in
    let left = left_in_arms (Either c.args.first c.args.second) (lights_of c.args.self.now) in
    both_ok c.put_choice.result _ _ _ (λ _ h k.
    (either_stays (statements_of c.args.self.now.block) (statements_of c.put_choice.new.self.block) (lights_known c.args.self.now) (lights_known c.put_choice.new.self)
    left (late_term c.args.self.now.waits.items c.args.test.now) (steps_view c.args.first.now) (steps_view c.args.second.now) (sym read ∙ sym c.is_never.ensures ∙ c.if-is_never.false) h k).1)
    c.put_choice.ensures.statements c.put_choice.ensures.known
