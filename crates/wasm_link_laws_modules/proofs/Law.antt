-- The laws, from their parts.
use Rattle.std.proofs.Common.{◌≡◌, ℕ, ◌+◌, ◌++◌, length, map, Option, Some, None, refl, arith, length-append}
use Rattle.std.specs.Prelude.{option_map}
use Rattle.std.proofs.lemmas.List.{length-map}
use Rattle.wasm_link_lang.specs.Pairs.{Pair, past_first, at_addresses}
use Rattle.wasm_link_lang.specs.Reductions.{entries}
use Rattle.wasm_link_code.specs.Linked.{second_start, start_types, start_bodies, moved_bodies, linked_functions, linked_bodies, linked}
use Rattle.wasm_link_laws_modules.specs.Laws.{IsLinkable, ChainsEnd, NumbersAreTyped, NumbersAreCallees, LinkedIsValid, LinkedIsWhole, LinkedIsCalled, ScriptsFit, LinkedIsWithin, LinkedCanRun}
use Rattle.wasm_link_laws_modules.proofs.Accepted.{meets_no_row}
use Rattle.wasm_link_laws_modules.proofs.Chains.{stands}
use Rattle.wasm_link_laws_modules.proofs.Numbered.{number_typed}
use Rattle.wasm_link_laws_modules.proofs.BodiesValid.{many_moved}
use Rattle.wasm_link_laws_modules.proofs.Running.{can_run}
use Rattle.wasm_link_laws_modules.proofs.Scripts.{scripts_fit}
use Rattle.wasm_link_laws_modules.proofs.CalledAs.{is_called_as}
use Rattle.wasm_link_laws_modules.proofs.Within.{is_within}
use Rattle.wasm_link_laws_modules.proofs.Callees.{callee_moved}
use Rattle.wasm_link_laws_modules.proofs.Valid.{many_addressed, linked_is_valid}

pub chains_end : ChainsEnd
chains_end w e a = let it = stands w (meets_no_row w e) (λ b. Unit {0}) (λ a b h u. tt) a tt in (it.address, it.is_end, it.unbound)

pub numbers_are_typed : NumbersAreTyped
numbers_are_typed w e a t h = number_typed w (meets_no_row w e) a t h

pub valid : LinkedIsValid
valid w it = linked_is_valid w it.first it.second it.not_refused

starts_match : (w : Pair) (p q : Option ℕ) (g : ℕ → ℕ) → length (start_types w p q) ≡ length (start_bodies w p (option_map g q))
starts_match w None None g = refl
starts_match w None (Some b) g = refl
starts_match w (Some a) None g = refl
starts_match w (Some a) (Some b) g = refl

bodies_match : (w : Pair) → IsLinkable w → length (linked_functions w) ≡ length (linked_bodies w)
bodies_match w it =
    let past : ℕ → ℕ = λ t. length w.first.types + t in
    let more = start_types w w.first.start w.second.start in
    let last = start_bodies w w.first.start (second_start w) in
    let ones = moved_bodies w w.first (entries w.second) 0 w.first.bodies in
    let twos = moved_bodies w w.second (entries w.first) 0 (at_addresses (past_first w) w.second).bodies in
    let a = length-append w.first.functions (map past w.second.functions ++ more) in
    let b = length-append (map past w.second.functions) more in
    let c = length-map w.second.functions past in
    let d = length-append ones (twos ++ last) in
    let e = length-append twos last in
    let f = many_moved w w.first (entries w.second) 0 w.first.bodies in
    let g = many_moved w w.second (entries w.first) 0 (at_addresses (past_first w) w.second).bodies in
    let h = many_addressed w in
    let i = starts_match w w.first.start w.second.start (λ f. (past_first w).functions + f) in
    let j = it.first.bodies_match in
    let k = it.second.bodies_match in
    omega (arith, a, b, c, d, e, f, g, h, i, j, k)

pub whole : LinkedIsWhole
unfolding linked
whole w it = record { is_valid = valid w it; bodies_match = bodies_match w it }

pub called_as_asked : LinkedIsCalled
called_as_asked w it = is_called_as w (meets_no_row w it.not_refused) it.first it.second

pub scripts_are_alike : ScriptsFit
scripts_are_alike w it = scripts_fit w (meets_no_row w it.not_refused) it.first it.second

pub within_reader : LinkedIsWithin
within_reader w it p q = is_within w (meets_no_row w it.not_refused) it.first it.second p q

pub numbers_are_callees : NumbersAreCallees
numbers_are_callees w it a t h = callee_moved w (meets_no_row w it.not_refused) it.first it.second a t h

pub runs : LinkedCanRun
runs w it = can_run w (meets_no_row w it.not_refused) it.first it.second
