use Rattle.std.proofs.Common.{sym, ap, ◌∙◌, refl, arith}
use Rattle.wasm_lang_exec.specs.Code.{tree_of}
use Rattle.wasm2js_operands.specs.Scopes.{context_in}
use Rattle.wasm2js_rooms.specs.Sights.{seen}
use Rattle.wasm2js_rooms.specs.Places.{whole}
use Rattle.wasm2js_rooms.proofs.Walking.{stands_there, known_there, base_there, height_there, next_under_way, less_is_left, begun, ended, starts, none_popped}
use Rattle.wasm2js_rooms.proofs.walk.room_of.Goals as goal

pub loop-place-init : goal.loop-place-init
loop-place-init c =
    begun (context_in c.args.scope.now) c.args.body.now c.in_ok-walk.walk
    (starts (context_in c.args.scope.now) c.args.body.now (tree_of c.args.body.now) refl c.requires) c.in_ok-walk.ensures

pub step-requires-clause-stands : goal.step-requires-clause-stands
step-requires-clause-stands c =
    let k = context_in c.args.scope.now in
    stands_there k c.args.body.now (whole k c.args.body.now) c.loop-place.walk c.pop.new.self.items c.in-Some.place c.loop-place.invariant c.in-Some.ensures.items

pub step-requires-clause-base : goal.step-requires-clause-base
step-requires-clause-base c =
    let k = context_in c.args.scope.now in
    base_there k c.args.body.now (whole k c.args.body.now) c.loop-place.walk c.pop.new.self.items c.in-Some.place c.loop-place.invariant c.in-Some.ensures.items

pub step-requires-clause-height : goal.step-requires-clause-height
step-requires-clause-height c =
    let k = context_in c.args.scope.now in
    let low = height_there k c.args.body.now (whole k c.args.body.now) c.loop-place.walk c.pop.new.self.items c.in-Some.place c.loop-place.invariant c.in-Some.ensures.items in
    omega (arith, c.loop-place.walk.types.ok.0)

pub step-requires-clause-known : goal.step-requires-clause-known
step-requires-clause-known c =
    let k = context_in c.args.scope.now in
    known_there k c.args.body.now (whole k c.args.body.now) c.loop-place.walk c.pop.new.self.items c.in-Some.place c.loop-place.invariant c.in-Some.ensures.items

pub loop-place-smaller : goal.loop-place-smaller
loop-place-smaller c =
    let k = context_in c.args.scope.now in
    less_is_left k c.args.body.now (whole k c.args.body.now) c.loop-place.walk c.pop.new.self.items c.in-Some.place c.loop-place.invariant c.in-Some.ensures.items
    (record c.loop-place.walk { places = c.pop.new.self }) c.step.new.self refl c.in_ok-step.ensures

pub loop-place-preserved : goal.loop-place-preserved
loop-place-preserved c =
    let k = context_in c.args.scope.now in
    next_under_way k c.args.body.now (whole k c.args.body.now) c.loop-place.walk c.pop.new.self.items c.in-Some.place c.loop-place.invariant c.in-Some.ensures.items
    (record c.loop-place.walk { places = c.pop.new.self }) c.step.new.self refl refl refl c.in_ok-step.ensures

pub returns-clause-sights : goal.returns-clause-sights
returns-clause-sights c = λ tree is x low.
    let k = context_in c.args.scope.now in
    let none_left = none_popped _ _ _ c.loop-place.walk.places.items c.pop.new.self.items c.pop.result c.pop.ensures.items (sym c.loop-place.walk.places.ok.0) c.pop.ensures.cases c.in_default.not-Some in
    ap (seen x) c.into_room.ensures ∙ ended k c.args.body.now c.loop-place.walk tree is none_left c.loop-place.invariant x low
