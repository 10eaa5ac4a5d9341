-- What the values of this crate stand for, and what its faults say.
use Rattle.std.specs.Prelude.{◌≡◌, ℕ, List, Ok, Option, Some, None, if◌then◌else◌}
use Rattle.wat_lang.specs.declared.fault.Row.TheVariants as rows
use Rattle.wat_lang.specs.Tokens.{Token}
use Rattle.wat_lang.specs.Grammar as grammar
use Rattle.wat_lang.specs.Modules.{module_of}
use Rattle.wat_lang.specs.Rows.{rows_of}
use Rattle.wat_lang.specs.Texts.{IsFault, IsMarked, outside_at, stands_outside}
use Rattle.wat_laws_kept.specs.Kept.{kept}
use Rattle.wat_grammar.specs.Views.{mark_of}
use Rattle.wat_tokens.specs.declared.scanner.Scanner.{Scanner}
use Rattle.wat_tokens.specs.Left.{IsLeft, IsFirstFault}
use Rattle.wat_tokens.specs.Views as tokens
use Rattle.wat_marks.specs.declared.fault.WatFault.{WatFault}
use Rattle.wat_marks.specs.declared.fault.WatFault.TheVariants as faults
use Rattle.wat_marks.specs.declared.marked.MarkedToken.{MarkedToken}

abbrev pub marked_of : MarkedToken → grammar.Marked
marked_of m = grammar.marked (mark_of m.mark) (tokens.token_of m.token)

-- the text has marks of which these are kept, and these have their rows and their module
pub record IsMarkedAs (text : List ℕ) (ks : List grammar.Marked) : Type 0 where
  pub all : List grammar.Marked
  pub is_marked : IsMarked text all
  pub is_kept : ks ≡ kept all
  pub same_rows : rows_of ks ≡ rows_of all
  pub same_module : module_of ks ≡ module_of all

-- Want of memory says nothing of the text.
abbrev pub IsFaultOf : List ℕ → WatFault → Type 0
IsFaultOf text (faults.Refused row at) = IsFault text row at
IsFaultOf text faults.Memory = Unit {0}

-- the first place of a word outside the integers, where one more token is looked at
abbrev pub outside_after : Option ℕ → Token → Option ℕ
outside_after (Some at) t = Some at
outside_after None t = if stands_outside t.class then Some t.at else None

-- what is left is tokens with their first word outside the integers there, or has its first fault there
pub data LooksBehind (s : Scanner) : WatFault → ℕ → Type 0 where
  fault_behind : {at k : ℕ} → IsFirstFault s k → LooksBehind s (faults.Refused rows.Token k) at
  word_behind : {at k : ℕ} {ts : List Token} → IsLeft s (Ok ts) → outside_at ts ≡ Some k → LooksBehind s (faults.Refused rows.OutsideInteger k) at
  break_there : {at : ℕ} {ts : List Token} → IsLeft s (Ok ts) → outside_at ts ≡ None → LooksBehind s (faults.Refused rows.Grammar at) at

-- what is left is tokens behind a word outside the integers at the place, or has its first fault there
pub data IsWordOrToken (s : Scanner) : WatFault → ℕ → Type 0 where
  first_fault : {at k : ℕ} → IsFirstFault s k → IsWordOrToken s (faults.Refused rows.Token k) at
  word_there : {at : ℕ} {ts : List Token} → IsLeft s (Ok ts) → IsWordOrToken s (faults.Refused rows.OutsideInteger at) at
