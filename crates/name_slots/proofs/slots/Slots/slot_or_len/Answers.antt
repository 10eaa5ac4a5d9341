use Rattle.std.proofs.Common.{sym, ap, ◌∙◌, arith}
use Rattle.name_slots.specs.Names.{found}
use Rattle.name_slots.proofs.Named.{small_place}
use Rattle.name_slots.proofs.slots.Slots.slot_or_len.Goals as goal

pub returns-in-Some-clause-small : goal.returns-in-Some-clause-small
returns-in-Some-clause-small c =
    let names = c.self.inside.names in
    let count = names.ok.0 in
    let fits = names.ok.1 in
    let room = names.small in
    small_place names.items c.args.name.now c.in-Some.slot.now (omega arith) (sym (c.self.invariant c.args.name.now) ∙ sym (ap (found c.self.inside.slots) c.of.ensures) ∙ sym c.in-Some.ensures.value)
