-- What a pass over marks finds: the first row, or the calls of foreign functions and how many nodes there were.
use Rattle.std.specs.Prelude.{◌≡◌, ℕ, ◌+◌, Bool, true, false, List, [], Result, Ok, Err, map}
use Rattle.asm_lang.specs.Modules.{Module}
use Rattle.asm_tree.specs.Views.{module_view}
use Rattle.asm_lang_valid.specs.declared.rule.Rule.TheVariants.{PastLimit}
use Rattle.asm_lang_valid.specs.LimitRows.{ForeignCall, Mark, rows_after, distinct_after}
use Rattle.asm_validate_names.specs.declared.refusal.AsmRefusal.{AsmRefusal}
use Rattle.asm_validate_names.specs.declared.refusal.AsmRefusal.TheVariants.{Refused}
use Rattle.asm_validate_names.specs.Refusals.{IsRow}
use Rattle.asm_validate_limits.specs.declared.tally.Tally.{Tally}
use Rattle.asm_validate_limits.specs.Called.{foreign_view, EachIsFirst}

-- the calls that were counted, in order of first use
abbrev pub calls_of : Tally → List ForeignCall
calls_of t = map (foreign_view (module_view t.home.now)) t.calls.keys

-- they are calls in this module
abbrev pub IsOf : Module → Tally → Type 0
IsOf m t = (module_view t.home.now ≡ m) × EachIsFirst (module_view t.home.now) t.calls.keys

-- these marks of so many nodes have no row, and their calls were counted
pub record Passed (ms : List Mark) (count : ℕ) (old new : Tally) : Type 0 where
  pub none : rows_after (calls_of old) ms ≡ []
  pub calls : calls_of new ≡ distinct_after (calls_of old) ms
  pub counted : new.at ≡ old.at + count
  pub of : (m : Module) → IsOf m old → IsOf m new

-- the fault is the first row of these marks, after calls that were seen; want of memory says nothing of them
abbrev pub IsFault : List Mark → List ForeignCall → AsmRefusal → Type 0
IsFault ms seen = IsRow (rows_after seen ms)

abbrev pub Tallied : List Mark → ℕ → Tally → Tally → Result (Unit {0}) AsmRefusal → Type 0
Tallied ms count old new (Ok u) = Passed ms count old new
Tallied ms count old new (Err f) = IsFault ms (calls_of old) f

-- the answer where something has to hold at a node
abbrev pub limited : Bool → ℕ → Result (Unit {0}) AsmRefusal
limited true at = Ok tt
limited false at = Err (Refused PastLimit at)
