-- Which names are left out, by their numbers.
use Rattle.std.specs.Prelude.{◌≡◌, ℕ, Bool, false, ◌||◌, List, ◌++◌, Option, Some, None, ◌==◌, bytes_eq}
use Rattle.std.specs.Borrow.{Bor}
use Rattle.std.specs.List.{list_any}
use Rattle.indexmap.specs.IndexSet.{IndexSet}
use Rattle.asm_lang_valid.specs.Scope.{is_in}
use Rattle.asm_short_lang.specs.Sequence.{numbered, forbidden}
use Rattle.asm_short_names.specs.declared.excluding.Excluded.{Excluded}

abbrev pub has_number : {S : Type 0} → IndexSet ℕ S → ℕ → Bool
has_number set n = list_any (λ k. n == k) set.keys

abbrev pub is_kept : Option (Bor (List ℕ)) → List ℕ → Bool
is_kept None n = false
is_kept (Some kept) n = bytes_eq kept.now n

abbrev pub excludes : Excluded → ℕ → Bool
excludes e n = has_number e.numbers.now n || is_kept e.kept (numbered n)

-- of the names of numbers just those of this list are left out
pub record IsExactly (names : List (List ℕ)) (e : Excluded) : Type 0 where
  pub alike : (n : ℕ) → is_in (numbered n) names ≡ excludes e n

-- the names that aren't given: forbidden ones, and those that are left out
unfoldable pub all_taken : List (List ℕ) → List (List ℕ)
all_taken names = forbidden ++ names
