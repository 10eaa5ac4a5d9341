use Rattle.std.proofs.Common.{◌≤◌, length, max, ap, ◌∙◌, arith}
use Rattle.wasm2js_rooms.proofs.Rooms.{noted}
use Rattle.wasm2js_rooms.proofs.room.Room.note.Goals as goal

pub returns-clause-sights : goal.returns-clause-sights
returns-clause-sights c =
    let types = c.args.types.now in
    let low : c.args.base ≤ length types.items = omega (arith, types.ok.0) in
    noted c.args.self.now c.name.new.self c.args.base types.items c.args.local low
    (c.name.ensures.height ∙ c.max-self.ensures ∙ ap (max c.args.self.now.height) (c.len.ensures ∙ types.ok.0))
    (c.name.ensures.wide_height ∙ c.widened-self.ensures)
    c.name.ensures.named
