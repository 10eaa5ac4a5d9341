-- How many words values take.
use Rattle.std.proofs.Common.{◌≡◌, ℕ, ◌+◌, ◌<◌, ◌≤◌, true, ltb, List, [], ◌∷◌, length, get_or, drop, map, Some, None, refl, sym, ap, ◌∙◌, arith}
use Rattle.std.specs.Prelude.{slice_get}
use Rattle.std.specs.Option.{option_map}
use Rattle.std.proofs.lemmas.Bool.Decides.{nat_tests}
use Rattle.std.proofs.lemmas.List.{drop_more}
use Rattle.std.proofs.lemmas.Option.{slice_get-map, slice_get_past, slice_get-get_or}
use Rattle.wasm_tree.specs.declared.module.FuncType.{FuncType}
use Rattle.wasm_tree.specs.Views.{type_of}
use Rattle.wasm_lang.specs.declared.types.ValType.{ValType}
use Rattle.wasm_lang.specs.declared.types.ValType.TheVariants.{I32, I64}
use Rattle.wasm2js_translation.specs.Tables.{words_of}

one_first : (t : ValType) (ts : List ValType) → words_of (t ∷ ts) ≡ words_of (t ∷ []) + words_of ts
one_first I32 ts = refl
one_first I64 ts = refl

pub one_more : (all : ℕ) (ts : List ValType) (i : ℕ) (t : ValType) (words width : ℕ) → words + words_of (drop i ts) ≡ all → t ≡ get_or ts i t → i < length ts → width ≡ words_of (t ∷ [])
    → (words + width) + words_of (drop (i + 1) ts) ≡ all
one_more all ts i t words width before is low wide =
    let next : words_of (drop i ts) ≡ words_of (t ∷ []) + words_of (drop (i + 1) ts) =
    ap words_of (drop_more ts i t low) ∙ ap (λ x. words_of (x ∷ drop (i + 1) ts)) (sym is) ∙ one_first t (drop (i + 1) ts) in
    omega (arith, before, next, wide)

-- ---- types by their numbers

within : (i n : ℕ) → true ≡ ltb i n → i < n
within i n h = grind (arith, nat_tests)

pub type_found : (types : List FuncType) (i : ℕ) (t : FuncType) → true ≡ ltb i (length types) → t ≡ get_or types i t → slice_get (map type_of types) i ≡ Some (type_of t)
type_found types i t low is = slice_get-map type_of types i ∙ ap (option_map type_of) (slice_get-get_or types i t (within i (length types) low) ∙ ap Some (sym is))

pub type_missing : (types : List FuncType) (i : ℕ) → length types ≤ i → slice_get (map type_of types) i ≡ None
type_missing types i past = slice_get-map type_of types i ∙ ap (option_map type_of) (slice_get_past types i past)
