use Rattle.std.proofs.Common.{◌≤◌, ◌<◌, length, drop, sym, subst, arith}
use Rattle.wasm2js_translation.specs.Rooms.{wide_from}
use Rattle.wasm_tree.specs.Views.{instr_of}
use Rattle.wasm_run_flat.proofs.Standing.{stands_inside}
use Rattle.wasm2js_operands.specs.Scopes.{context_in}
use Rattle.wasm2js_rooms.proofs.Walking.{one_step}
use Rattle.wasm2js_rooms.proofs.walk.Walk.step.Goals as goal

pub unreachable-requires : goal.unreachable-requires
unreachable-requires c =
    let inside : c.args.place.at < length c.args.body.now = stands_inside c.args.body.now c.args.place.at c.requires.stands.0 c.requires.stands.1 in
    let past : length c.args.body.now ≤ c.args.place.at = c.in-None.ensures in
    omega arith

pub visit-requires-clause-inside : goal.visit-requires-clause-inside
visit-requires-clause-inside c =
    let inside : c.args.place.at < length c.args.body.now = stands_inside c.args.body.now c.args.place.at c.requires.stands.0 c.requires.stands.1 in
    omega (arith, c.len-length.ensures, c.len-length.type_inv)

pub visit-requires-clause-known : goal.visit-requires-clause-known
visit-requires-clause-known c =
    subst (λ ts. wide_from c.args.place.base (drop 1 ts) ≤ c.args.self.now.room.wide_height) (sym c.in_ok-restore.ensures.value) c.requires.known

pub returns : goal.returns
returns c =
    one_step (context_in c.args.scope.now) c.args.body.now c.args.place (instr_of c.in-Some.instr.now) c.args.self.now c.visit.new.self c.restore.new.types.items
    c.requires.stands c.in-Some.ensures c.restore.ensures.kept c.in_ok-restore.ensures.value c.visit.ensures.kept c.visit.ensures.count
    c.in_ok-visit-in-Some.ensures.sights c.in_ok-visit-in-Some.ensures.added
