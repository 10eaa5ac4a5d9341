use Rattle.std.proofs.Common.{rules, ◌≡◌, ◌∷◌}
use Rattle.asm_grammar_places.proofs.PlaceLemmas.{sum_place-first}
use Rattle.asm_grammar_places.proofs.places.sum_place.Goals as goal

pub returns-in-Some : goal.returns-in-Some
returns-in-Some c =
    let all : c.args.others.now ≡ c.in-Some.addend.now ∷ c.in-Some.field-0-1.now = search rules in
    rw (sum_place-first c.args.goes_on c.args.others.now c.in-Some.addend.now c.in-Some.field-0-1.now all) c.place_unless.ensures
