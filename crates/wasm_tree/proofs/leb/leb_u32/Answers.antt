use Rattle.std.proofs.Common.{◌≡◌, ℕ, List, drop, subst, sym, ap, ◌∙◌}
use Rattle.std.specs.Prelude.{Ok}
use Rattle.wasm_lang.specs.Numbers.{IsUnsigned}
use Rattle.wasm_lang.specs.Reading.{unsigned_at}
use Rattle.wasm_tree.proofs.Places.{place_after}
use Rattle.wasm_tree.proofs.leb.leb_u32.Goals as goal

pub returns-in-Ok-clause-found : goal.returns-in-Ok-clause-found
returns-in-Ok-clause-found c =
    let rest = drop c.args.at c.args.bytes.now in
    let reads : unsigned_at 32 rest ≡ Ok (c.in-Ok.n, c.in-Ok.after.now) = sym (ap (λ (l : List ℕ). unsigned_at 32 l) c.from_place-rest.ensures) ∙ c.in-Ok.ensures.value in
    let spelled = c.number_laws.ensures.unsigned_is 32 c.in-Ok.n rest c.in-Ok.after.now reads in
    let front = c.number_laws.ensures.unsigned_front 32 c.in-Ok.n rest c.in-Ok.after.now spelled in
    let place = place_after c.args.at c.args.bytes.now c.in-Ok.after.now front.0 (rw c.from_place-rest.ensures at c.in-Ok.ensures.shorter) front.1 in
    (place.later, place.within, subst (λ (l : List ℕ). IsUnsigned 32 c.in-Ok.n rest l) (sym place.left) spelled)
