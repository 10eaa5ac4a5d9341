use Rattle.std.proofs.Common.{◌≡◌, ℕ, List, drop, subst, sym, ap, ◌∙◌}
use Rattle.std.specs.Prelude.{ℤ, Ok}
use Rattle.std.specs.Int.{cast_signed, cast_unsigned, w64}
use Rattle.std.proofs.lemmas.Int.{of_z-to_z}
use Rattle.wasm_lang.specs.Numbers.{IsInteger}
use Rattle.wasm_lang.specs.Reading.{integer_at}
use Rattle.wasm_tree.proofs.Places.{place_after}
use Rattle.wasm_tree.proofs.leb.leb_s64.Goals as goal

pub returns-in-Ok-clause-found : goal.returns-in-Ok-clause-found
returns-in-Ok-clause-found c =
    let rest = drop c.args.at c.args.bytes.now in
    let reads : integer_at 64 rest ≡ Ok (c.in-Ok.word, c.in-Ok.after.now) = sym (ap (λ (l : List ℕ). integer_at 64 l) c.from_place-rest.ensures) ∙ c.in-Ok.ensures.value in
    let spelled = c.number_laws.ensures.integer_is 64 c.in-Ok.word rest c.in-Ok.after.now reads in
    let front = c.number_laws.ensures.integer_front 64 c.in-Ok.word rest c.in-Ok.after.now spelled in
    let place = place_after c.args.at c.args.bytes.now c.in-Ok.after.now front.0 (rw c.from_place-rest.ensures at c.in-Ok.ensures.shorter) front.1 in
    let value = ap (λ (z : ℤ). cast_signed w64 (cast_unsigned w64 z)) c.cast_signed.ensures ∙ ap (cast_signed w64) (of_z-to_z w64 c.in-Ok.word c.in-Ok.ensures.bound) in
    (place.later, place.within, c.in-Ok.word, subst (λ (l : List ℕ). IsInteger 64 c.in-Ok.word rest l) (sym place.left) spelled, value)
