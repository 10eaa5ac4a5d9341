use Rattle.std.proofs.Common.{◌≡◌, ◌≤◌, ◌+◌, ℕ, List, length, drop}
use Rattle.std.specs.Prelude.{option_map}
use Rattle.wat_lang.specs.Names.{place_of_id}
use Rattle.wat_read_names.specs.Named.{names_in, found}
use Rattle.wat_read_names.proofs.ids.places_of.Given as goal

abbrev pub invariant-loop-i : goal.invariant-loop-i
invariant-loop-i l = record {
  within : l.i ≤ length l.names;
  put : (n : List ℕ) → found l.places n ≡ option_map (λ k. (l.unnamed + l.i) + k) (place_of_id n (names_in (drop l.i l.names)));
}

abbrev pub decreases-loop-i : goal.decreases-loop-i
decreases-loop-i l = l.i
