-- What the body of a function asks for: its foreign uses are listed, its code finds its locals, and it is typed.
use Rattle.std.proofs.Common.{◌≡◌, ℕ, ◌+◌, ◌≤◌, Bool, true, false, List, [], ◌∷◌, length, Some, refl, arith}
use Rattle.std.specs.Prelude.{◌-◌, ◌||◌, max, slice_get, if◌then◌else◌}
use Rattle.std.proofs.lemmas.Bool.{and_parts}
use Rattle.wasm_laws_trees.specs.Spelled.{reach}
use Rattle.asm_lang.specs.Modules.{Function, Module}
use Rattle.asm_lang_valid.specs.Typed.{scope_of, locals_typed}
use Rattle.asm_lang_valid.specs.Typing.{at_top, all_typed}
use Rattle.asm_lang_valid.specs.LimitRows.{ForeignCall, Mark, a_row, a_use, is_same, is_among, stmts_marks, foreign_calls}
use Rattle.asm_lang_valid.specs.Refusal.{IsAccepted}
use Rattle.asm_laws_sound.proofs.Members.{accepted_is_typed, function_at}
use Rattle.asm2wasm_translation.specs.Numbers.{first_scratch}
use Rattle.asm2wasm_translation.specs.Bodies.{locals_code, body_code, function_code}
use Rattle.asm2wasm_laws_within.specs.Uses as uses
use Rattle.asm2wasm_laws_within.proofs.Within.{uses_are_listed}
use Rattle.asm2wasm_laws_preservation.specs.Made.{is_listed, AllListed}
use Rattle.asm2wasm_laws_preservation.proofs.Rooms.{reach_joins}

-- ---- foreign uses

listed_where_among : (f : ForeignCall) (fs : List ForeignCall) → is_among f fs ≡ true → is_listed f fs ≡ true
listed_where_among f [] h = h
listed_where_among f (g ∷ gs) h = by (is_same f g) (listed_where_among f gs) h
  where
    by : (b : Bool) → (is_among f gs ≡ true → is_listed f gs ≡ true) → (b || is_among f gs) ≡ true → (if b then true else is_listed f gs) ≡ true
    by true rest h = refl
    by false rest h = rest h

all_listed : (fs : List ForeignCall) (ms : List Mark) → uses.AllListed fs ms → AllListed fs ms
all_listed fs [] h = tt
all_listed fs (a_row r ∷ ms) h = all_listed fs ms h
all_listed fs (a_use f at ∷ ms) h = (listed_where_among f fs h.0, all_listed fs ms h.1)

pub body_listed : (m : Module) (n : ℕ) (g : Function) → slice_get m.functions n ≡ Some g → (at : ℕ) × AllListed (foreign_calls m) (stmts_marks (scope_of m g) at g.body)
body_listed m n g is = let x = uses_are_listed m n g is in (x.0, all_listed (foreign_calls m) (stmts_marks (scope_of m g) x.0 g.body) x.1)

-- ---- types

pub body_typed : (m : Module) (n : ℕ) (g : Function) → IsAccepted m → slice_get m.functions n ≡ Some g → all_typed (scope_of m g) at_top g.body ≡ true
body_typed m n g ok is = (and_parts (locals_typed g.locals) (all_typed (scope_of m g) at_top g.body) (function_at m (accepted_is_typed m ok) n g is)).1

-- ---- locals

-- the scratch locals of a function's code
abbrev pub scratch_of : Module → ℕ → Function → ℕ
scratch_of m heap g = max (first_scratch g) (reach (function_code heap (scope_of m g))) - first_scratch g

-- all but the parameters are the function's own and then scratch locals
pub locals_split : (params own code : ℕ) → max (params + own) code - params ≡ own + (max (params + own) code - (params + own))
locals_split params own code = omega arith

room_enough : (first code part : ℕ) → part ≤ code → part ≤ first + (max first code - first)
room_enough first code part le = omega (arith, le)

-- its body finds them
pub body_within : (m : Module) (heap : ℕ) (g : Function) → reach (body_code heap (scope_of m g) g.body) ≤ first_scratch g + scratch_of m heap g
body_within m heap g =
    let c = scope_of m g in
    let joined = reach_joins (locals_code heap c (length g.params) g.locals) (body_code heap c g.body) in
    let part : reach (body_code heap c g.body) ≤ reach (function_code heap c) = omega (arith, joined) in
    room_enough (first_scratch g) (reach (function_code heap c)) (reach (body_code heap c g.body)) part
