-- What one token adds to the rows of a list.
use Rattle.std.proofs.Common.{◌≡◌, ℕ, ◌+◌, ◌-◌, Bool, true, false, ◌&&◌, cond, List, [], ◌∷◌, ◌++◌, refl, ap, ◌∙◌, arith}
use Rattle.std.proofs.lemmas.Bool.Decides.{nat_tests}
use Rattle.std.specs.Prelude.{nat_le, ◌==◌, if◌then◌else◌}
use Rattle.wat_lang.specs.declared.parts.Space.{Space}
use Rattle.wat_lang.specs.declared.parts.Part.{Part}
use Rattle.wat_lang.specs.declared.fault.Row.TheVariants as rows
use Rattle.wat_lang.specs.Grammar.{Marked}
use Rattle.wat_lang.specs.Names.{text_of, binds_in, types_part, all_with}
use Rattle.wat_lang.specs.Rows.{where_holds, taken_again, is_taken, from_count}
use Rattle.wat_read_refusals.specs.Single.{before_next, taken_row}

pub taken_front : (s : Space) (before : List (List ℕ)) (m : Marked) (ms : List Marked) → taken_again before (all_with (binds_in s) (m ∷ ms)) ≡ taken_row s before m ++ taken_again (before_next s before m) (all_with (binds_in s) ms)
taken_front s before m ms = by (binds_in s m.mark)
  where
    by : (b : Bool) → taken_again before (cond b (m ∷ all_with (binds_in s) ms) (all_with (binds_in s) ms))
        ≡ (if b then where_holds (is_taken before (text_of m)) rows.IdTaken m.token.at else []) ++ taken_again (if b then text_of m ∷ before else before) (all_with (binds_in s) ms)
    by true = refl
    by false = refl

-- ---- counts

-- one more, if it counts
abbrev pub after : Bool → ℕ → ℕ
after counts before = if counts then before + 1 else before

pub types_front : (p : Part) (most before : ℕ) (m : Marked) (ms : List Marked) → from_count most before (all_with (types_part p) (m ∷ ms))
    ≡ where_holds (types_part p m.mark && nat_le most before) rows.Limit m.token.at ++ from_count most (after (types_part p m.mark) before) (all_with (types_part p) ms)
types_front p most before m ms = by (types_part p m.mark)
  where
    by : (b : Bool) → from_count most before (cond b (m ∷ all_with (types_part p) ms) (all_with (types_part p) ms))
        ≡ where_holds (b && nat_le most before) rows.Limit m.token.at ++ from_count most (after b before) (all_with (types_part p) ms)
    by true = refl
    by false = refl

no_room : (most before : ℕ) → (most - before == 0) ≡ nat_le most before
no_room most before = grind (arith, nat_tests)

pub over_is : (counts : Bool) (most before room : ℕ) → room ≡ most - before → (counts && (room == 0)) ≡ (counts && nat_le most before)
over_is counts most before room e = ap (λ (r : ℕ). counts && (r == 0)) e ∙ ap (λ (b : Bool). counts && b) (no_room most before)

pub room_is : (counts : Bool) (most before room : ℕ) → room ≡ most - before → (if counts then room - 1 else room) ≡ most - after counts before
room_is true most before room e = omega (arith, e)
room_is false most before room e = e

pub empty_room : (most before room : ℕ) → room ≡ most - before → (room == 0) ≡ nat_le most before
empty_room most before room e = ap (λ (r : ℕ). r == 0) e ∙ no_room most before
