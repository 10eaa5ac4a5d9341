use Rattle.std.proofs.Common.{length, ◌∙◌, ap}
use Rattle.asm2wasm_numbers.specs.Calls.{place_among}
use Rattle.asm2wasm_numbers.proofs.Counted.{found_number, no_number}
use Rattle.asm2wasm_numbers.proofs.calls.CallNumbers.number.Goals as goal

pub returns-in-Some : goal.returns-in-Some
returns-in-Some c =
    found_number c.self.inside.numbers.entries c.args.call (length c.self.inside.calls.now) c.in-Some.number.now (place_among c.args.call c.self.inside.calls.now) c.in-Some.ensures.value (c.self.invariant.known c.args.call)
    ∙ ap (place_among c.args.call) c.self.view_is

pub returns-in-None : goal.returns-in-None
returns-in-None c =
    no_number c.self.inside.numbers.entries c.args.call (length c.self.inside.calls.now) (place_among c.args.call c.self.inside.calls.now) c.in-None.ensures.value (c.self.invariant.known c.args.call)
    ∙ ap (place_among c.args.call) c.self.view_is
