use Rattle.std.proofs.Common.{◌≡◌, ◌++◌, ◌∷◌, [], ◌∙◌, Some, None, map, ap, sym, subst, append-nil}
use Rattle.std.specs.Prelude.{slice_get}
use Rattle.std.specs.Option.{option_map}
use Rattle.std.proofs.lemmas.Option.{slice_get-map, slice_get-get_or, slice_get_past}
use Rattle.wasm_tree.specs.Views.{instr_of, type_of}
use Rattle.wasm_lang_valid.specs.Measures.{called}
use Rattle.wasm_validate_bodies.specs.Calls.{IsCalled}
use Rattle.wasm_validate_bodies.proofs.Calls.{if_ok, calls_one, calls_none}
use Rattle.wasm_validate_bodies.proofs.called.Called.note.Goals as goal

pub returns-in-Some : goal.returns-in-Some
returns-in-Some c =
    let types = map type_of c.args.types.now in
    let t = type_of c.in-Some.called.now in
    let n = c.in-CallIndirect.number in
    let stands : slice_get types n ≡ Some t = slice_get-map type_of c.args.types.now n ∙ ap (option_map type_of) (slice_get-get_or c.args.types.now n c.in-Some.called.now c.in-Some.ensures.lookup.3.0 ∙ ap Some (sym c.in-Some.ensures.lookup.1)) in
    let calls : called types (instr_of c.args.instr.now) ≡ t ∷ [] = ap (λ i. called types (instr_of i)) c.in-CallIndirect.is ∙ calls_one types n t stands in
    if_ok c.note_type.result c.note_type.ensures (λ x f before is. subst (λ l. IsCalled c.note_type.new.self types (before ++ l)) (sym calls) (f types before stands is))

pub returns-in-None : goal.returns-in-None
returns-in-None c =
    let types = map type_of c.args.types.now in
    let n = c.in-CallIndirect.number in
    let stands : slice_get types n ≡ None = slice_get-map type_of c.args.types.now n ∙ ap (option_map type_of) (slice_get_past c.args.types.now n c.in-None.ensures.lookup.3) in
    let calls : called types (instr_of c.args.instr.now) ≡ [] = ap (λ i. called types (instr_of i)) c.in-CallIndirect.is ∙ calls_none types n stands in
    λ before is. subst (λ l. IsCalled c.args.self.now types l) (sym (ap (λ l. before ++ l) calls ∙ append-nil before)) is
