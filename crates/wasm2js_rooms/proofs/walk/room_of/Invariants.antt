use Rattle.wasm2js_operands.specs.Scopes.{context_in}
use Rattle.wasm2js_rooms.specs.Places.{work, ats, IsUnderWay, whole}
use Rattle.wasm2js_rooms.proofs.walk.room_of.Given as goal

abbrev pub invariant-loop-place : goal.invariant-loop-place
invariant-loop-place l = IsUnderWay (context_in l.scope) l.body (whole (context_in l.scope) l.body) l.walk

abbrev pub decreases-loop-place : goal.decreases-loop-place
decreases-loop-place l = work l.body (ats l.walk.places.items)
