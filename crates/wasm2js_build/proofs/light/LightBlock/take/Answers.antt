use Rattle.std.proofs.Common.{List, [], ◌∷◌, ◌++◌, ap, ◌∙◌}
use Rattle.std.proofs.lemmas.Result.{IfOk-weaker}
use Rattle.wasm2js_translation.specs.Names.{same_name}
use Rattle.wasm2js_translation.specs.Words.{read, put}
use Rattle.wasm2js_translation.specs.Delays.{Delayed, those, others, reads_one}
use Rattle.wasm2js_nodes.specs.Names.{name_view}
use Rattle.wasm2js_terms.specs.Waits.{delays_view}
use Rattle.wasm2js_terms.specs.Held.{of_two_view}
use Rattle.wasm2js_terms.specs.Facts.{knowns_view}
use Rattle.wasm2js_build.specs.Blocks.{statements_of}
use Rattle.wasm2js_build.specs.Growing.{lights_of, lights_known}
use Rattle.wasm2js_build.proofs.Growing.{then_simply}
use Rattle.wasm2js_build.proofs.Waiting.{left_are}
use Rattle.wasm2js_build.proofs.light.LightBlock.take.Goals as goal

pub returns-clause-statements : goal.returns-clause-statements
returns-clause-statements c =
    let old = c.args.self.now in
    let mid = c.write_spoiled.new.self in
    let n = name_view c.args.to in
    IfOk-weaker c.stand_in.result _ _ (λ _ _.
    (then_simply (statements_of old.block) (statements_of mid.block) (statements_of c.put_held.new.block) (lights_known old) (lights_known mid) (knowns_view c.put_held.new.known.items)
    (those (λ e. reads_one (same_name n) e.word) (lights_of old)) (put n (of_two_view c.args.held.word))
    c.in_ok-write_spoiled.ensures.statements c.in_ok-write_spoiled.ensures.known c.in_ok-put_held.ensures.statements c.in_ok-put_held.ensures.known).0)
    c.stand_in.ensures

pub returns-clause-waits : goal.returns-clause-waits
returns-clause-waits c =
    let n = name_view c.args.to in
    IfOk-weaker c.stand_in.result _ _ (λ _ h.
    h
    ∙ ap (λ (ds : List Delayed). ds ++ record { name = name_view c.args.held.name; word = read n } ∷ [])
    (c.drop_spoiled.ensures ∙ left_are _ (lights_of c.write_spoiled.new.self)
    ∙ ap (λ ws. others (λ e. reads_one (same_name n) e.word) (delays_view ws.items)) c.write_spoiled.ensures.waits))
    c.stand_in.ensures

pub returns-clause-known : goal.returns-clause-known
returns-clause-known c =
    let old = c.args.self.now in
    let mid = c.write_spoiled.new.self in
    let n = name_view c.args.to in
    IfOk-weaker c.stand_in.result _ _ (λ _ _.
    (then_simply (statements_of old.block) (statements_of mid.block) (statements_of c.put_held.new.block) (lights_known old) (lights_known mid) (knowns_view c.put_held.new.known.items)
    (those (λ e. reads_one (same_name n) e.word) (lights_of old)) (put n (of_two_view c.args.held.word))
    c.in_ok-write_spoiled.ensures.statements c.in_ok-write_spoiled.ensures.known c.in_ok-put_held.ensures.statements c.in_ok-put_held.ensures.known).1)
    c.stand_in.ensures
