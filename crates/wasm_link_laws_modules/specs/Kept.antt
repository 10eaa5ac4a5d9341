-- The elements of a list that stand at places that are not bound, and the types of functions by their addresses.
use Rattle.std.specs.Prelude.{ℕ, ◌+◌, List, [], ◌∷◌, ◌++◌, length, map, Option, Some, None, slice_get}
use Rattle.wasm_lang.specs.Modules.{FunctionType}
use Rattle.wasm_lang_valid.specs.ModuleRules.{imported_functions}
use Rattle.wasm_link_lang.specs.Pairs.{Pair, all_types}

abbrev pub kept : {A : Type 0} → List (Option ℕ) → List A → List A
kept [] xs = []
kept (b ∷ bs) [] = []
kept (None ∷ bs) (x ∷ xs) = x ∷ kept bs xs
kept (Some b ∷ bs) (x ∷ xs) = kept bs xs

-- ---- types of functions by their addresses

-- the address of a type for each function
abbrev pub address_types : Pair → List ℕ
address_types w =
    (imported_functions w.first.imports ++ w.first.functions)
    ++ (map (λ t. length w.first.types + t) (imported_functions w.second.imports) ++ map (λ t. length w.first.types + t) w.second.functions)

abbrev pub found_type : Pair → Option ℕ → Option FunctionType
found_type w None = None
found_type w (Some t) = slice_get (all_types w) t

-- the declared type of the function at an address
abbrev pub type_at : Pair → ℕ → Option FunctionType
type_at w a = found_type w (slice_get (address_types w) a)
