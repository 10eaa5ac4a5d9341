-- The test that an access stays in the memory, and places past an address.
use Rattle.std.proofs.Common.{◌≡◌, ℕ, ◌+◌, ◌-◌, ◌^◌, ◌<◌, ◌≤◌, Bool, true, false, List, [], ◌∷◌, refl, arith}
use Rattle.std.specs.Prelude.{◌==◌, nat_le, nat_lt, if◌then◌else◌}
use Rattle.std.proofs.lemmas.Bool.Decides.{nat_tests}
use Rattle.wasm2js_translation.specs.Names.{Name}
use Rattle.wasm2js_translation.specs.Words.{read, guard, stop, Action, simply}
use Rattle.wasm2js_translation.specs.Pairs.{plus, literal}
use Rattle.wasm2js_translation.specs.Actions.{place, guarded}
use Rattle.wasm2js_laws_places.specs.Straight.{Words, value, Helping, Outcome, goes, stops, then_do, units_after, ActionsAsk, run_actions, actions_units}

module _ (helping : Helping) (bytes size offset : ℕ) (a : Name) (access : List Action) where
  pub guarded_asks : ActionsAsk access → ActionsAsk (guarded bytes size offset a access)
  guarded_asks h = by (nat_le (size + offset) bytes)
    where
      by : (t : Bool) → ActionsAsk (if t then simply (guard (read a) (bytes - (size + offset)) 2) ∷ access else simply (stop 2) ∷ [])
      by true = (tt, h)
      by false = (tt, tt)

  pub guarded_units : (most : ℕ) → ((words : Words) (heap : List ℕ) → actions_units helping access words heap ≤ most) → (words : Words) (heap : List ℕ)
      → actions_units helping (guarded bytes size offset a access) words heap ≤ most
  guarded_units most h words heap = by (nat_le (size + offset) bytes)
    where
      tested : (t : Bool) → 0 + units_after (if t then stops 2 heap else goes words heap) (actions_units helping access) ≤ most
      tested true = omega arith
      tested false = let few = h words heap in omega (arith, few)

      by : (t : Bool) → actions_units helping (if t then simply (guard (read a) (bytes - (size + offset)) 2) ∷ access else simply (stop 2) ∷ []) words heap ≤ most
      by true = tested (nat_lt (bytes - (size + offset)) (words a))
      by false = omega arith

  -- a trap where a byte lies past the memory, else what the access does
  pub guarded_run : (words : Words) (heap : List ℕ) (P : Outcome → Type 0) → (bytes < words a + offset + size → P (stops 2 heap))
      → (words a + offset + size ≤ bytes → P (run_actions helping access words heap)) → P (run_actions helping (guarded bytes size offset a access) words heap)
  guarded_run words heap P outside inside = by (nat_le (size + offset) bytes) refl
    where
      tested : (t : Bool) → size + offset ≤ bytes → nat_lt (bytes - (size + offset)) (words a) ≡ t → P (then_do (if t then stops 2 heap else goes words heap) (run_actions helping access))
      tested true le e = outside (grind (arith, nat_tests, le, e))
      tested false le e = inside (grind (arith, nat_tests, le, e))

      by : (t : Bool) → nat_le (size + offset) bytes ≡ t → P (run_actions helping (if t then simply (guard (read a) (bytes - (size + offset)) 2) ∷ access else simply (stop 2) ∷ []) words heap)
      by true e = tested (nat_lt (bytes - (size + offset)) (words a)) (grind (arith, nat_tests, e)) refl
      by false e = outside (grind (arith, nat_tests, e))

-- what costs nothing whatever comes before it
pub nothing_after : (o : Outcome) (next : Words → List ℕ → ℕ) → ((words : Words) (heap : List ℕ) → next words heap ≡ 0) → units_after o next ≡ 0
nothing_after (goes words heap) next h = h words heap
nothing_after (stops kind heap) next h = refl

pub place_is : (n : Name) (offset : ℕ) (words : Words) (heap : List ℕ) → words n + offset < 2 ^ 32 → value (place n offset) words heap ≡ words n + offset
place_is n offset words heap h = by (offset == 0) refl
  where
    by : (t : Bool) → (offset == 0) ≡ t → value (if t then read n else plus (read n) (literal offset)) words heap ≡ words n + offset
    by true e = let none : offset ≡ 0 = grind (arith, nat_tests, e) in omega (arith, none)
    by false e = omega (arith, h)
