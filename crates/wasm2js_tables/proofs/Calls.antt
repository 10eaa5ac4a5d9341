-- The types that bodies call, one body more.
use Rattle.std.proofs.Common.{◌≡◌, ℕ, ◌+◌, ◌<◌, List, [], ◌∷◌, ◌++◌, length, get_or, map, take, Some, sym, ap, ◌∙◌, append_assoc, append-nil}
use Rattle.std.proofs.lemmas.List.{map-append}
use Rattle.std.proofs.lemmas.Option.{slice_get-get_or}
use Rattle.wasm_lang.specs.Modules.{FunctionType, FunctionBody}
use Rattle.wasm_tree.specs.declared.module.Body.{Body}
use Rattle.wasm_tree.specs.Views.{body_of}
use Rattle.wasm_lang_valid.proofs.Main.{one_longer}
use Rattle.wasm_lang_valid.specs.Measures.{called_in, called_types}

called_append : (types : List FunctionType) (xs : List FunctionBody) (y : FunctionBody) → called_types types (xs ++ y ∷ []) ≡ called_types types xs ++ called_in types y.code
called_append types [] y = append-nil (called_in types y.code)
called_append types (x ∷ xs) y = ap (λ l. called_in types x.code ++ l) (called_append types xs y) ∙ sym (append_assoc (called_in types x.code) (called_types types xs) (called_in types y.code))

pub called_more : (types : List FunctionType) (bodies : List Body) (i : ℕ) (at : Body) → at ≡ get_or bodies i at → i < length bodies
    → called_types types (map body_of (take (i + 1) bodies)) ≡ called_types types (map body_of (take i bodies)) ++ called_in types (body_of at).code
called_more types bodies i at is h =
    let stands = slice_get-get_or bodies i at h ∙ ap Some (sym is) in
    let longer = ap (map body_of) (one_longer bodies i at stands) ∙ map-append body_of (take i bodies) (at ∷ []) in
    ap (called_types types) longer ∙ called_append types (map body_of (take i bodies)) (body_of at)
