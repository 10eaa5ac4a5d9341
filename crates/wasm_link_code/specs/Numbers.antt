-- The numbers of functions and globals in the linked module, by their addresses in the pair: what isn't bound of the first module's imports, then of
-- the second's, then the first module's own, then the second's.
use Rattle.std.specs.Prelude.{ℕ, zero, suc, ◌+◌, List, [], ◌∷◌, ◌++◌, length, replicate, Option, Some, None, slice_get}
use Rattle.wasm_lang_valid.specs.ModuleRules.{imported_globals}
use Rattle.wasm_link_lang.specs.Pairs.{Pair, first_bindings, second_bindings, end_of}

-- imports are counted from this number on; a bound one has no number of its own, and 0 stands for it
abbrev pub places : ℕ → List (Option ℕ) → List ℕ
places n [] = []
places n (None ∷ bs) = n ∷ places (suc n) bs
places n (Some b ∷ bs) = 0 ∷ places n bs

-- how many aren't bound
abbrev pub unbound_count : List (Option ℕ) → ℕ
unbound_count [] = 0
unbound_count (None ∷ bs) = suc (unbound_count bs)
unbound_count (Some b ∷ bs) = unbound_count bs

-- so many numbers, from this one on
abbrev pub counted : ℕ → ℕ → List ℕ
counted n zero = []
counted n (suc count) = n ∷ counted (suc n) count

-- of both modules' imports and of so many own ones each
abbrev pub numbered : List (Option ℕ) → ℕ → List (Option ℕ) → ℕ → List ℕ
numbered first own second more =
    (places 0 first ++ counted (unbound_count first + unbound_count second) own)
    ++ (places (unbound_count first) second ++ counted (unbound_count first + unbound_count second + own) more)

-- ---- functions

abbrev pub own_numbers : Pair → List ℕ
own_numbers w = numbered (first_bindings w) (length w.first.functions) (second_bindings w) (length w.second.functions)

abbrev pub or_zero : Option ℕ → ℕ
or_zero None = 0
or_zero (Some n) = n

abbrev pub at_place : List ℕ → Option ℕ → ℕ
at_place numbers None = 0
at_place numbers (Some a) = or_zero (slice_get numbers a)

-- the number of what the function at an address stands for
unfoldable pub number : Pair → ℕ → ℕ
number w a = at_place (own_numbers w) (end_of w a)

-- ---- globals

abbrev pub none_bound : ℕ → List (Option ℕ)
none_bound n = replicate n None

abbrev pub global_numbers : Pair → List ℕ
global_numbers w =
    numbered (none_bound (length (imported_globals w.first.imports))) (length w.first.globals) (none_bound (length (imported_globals w.second.imports))) (length w.second.globals)

unfoldable pub global_number : Pair → ℕ → ℕ
global_number w g = at_place (global_numbers w) (Some g)
