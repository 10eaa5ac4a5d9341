-- What a reader of marks has read.
use Rattle.std.specs.Prelude.{◌≡◌, ℕ, true, false, List, [], ◌∷◌, ◌++◌, length, Result, Ok, Err, Option, Some, None}
use Rattle.wat_lang.specs.Tokens as spec
use Rattle.wat_lang.specs.Tokens.{IsReading, with_first}
use Rattle.wat_lang.specs.Grammar.{Item, Mark, Marked, marked}
use Rattle.wat_lang.specs.Texts.{outside_at}
use Rattle.wat_laws_grammar.specs.Machine.{feed, taken, start}
use Rattle.wat_laws_kept.specs.Heads.{heads_lead}
use Rattle.wat_laws_kept.specs.Kept.{kept}
use Rattle.wat_tokens.specs.declared.scanner.Scanner.{Scanner}
use Rattle.wat_tokens.specs.Left.{IsLeft}
use Rattle.wat_marks.specs.declared.fault.WatFault.{WatFault}
use Rattle.wat_marks.specs.declared.marked.MarkedToken.{MarkedToken}
use Rattle.wat_marks.specs.declared.reading.MarkReader.{MarkReader}
use Rattle.wat_marks.specs.Views.{IsFaultOf, IsMarkedAs, marked_of}

-- what a text reads as that has these tokens before what is left
abbrev pub with_front : List spec.Token → spec.Reading → spec.Reading
with_front [] r = r
with_front (t ∷ ts) r = with_first t (with_front ts r)

-- what is left, behind these tokens, is what the text reads as
abbrev pub GoesOn : List ℕ → List spec.Token → Scanner → Type 0
GoesOn source so_far s = (r : spec.Reading) → IsLeft s r → IsReading source (with_front so_far r)

-- the tokens are taken one after another, from the start of a text on, with these marks, and this may still come
pub data AreTaken : List spec.Token → List Marked → List Item → Type 0 where
  none_taken : AreTaken [] [] start
  one_taken : {ts : List spec.Token} {ms : List Marked} {is js : List Item} {m : Mark} (t : spec.Token)
      → AreTaken ts ms is → feed is t.class ≡ Some (taken m js) → AreTaken (ts ++ t ∷ []) (ms ++ marked m t ∷ []) js

-- Some tokens are read with these marks, all of them words of the integers, and this may still come.
pub record Reading (source : List ℕ) (s : Scanner) (ms : List Marked) (is : List Item) : Type 0 where
  pub so_far : List spec.Token
  pub goes : GoesOn source so_far s
  pub inside : outside_at so_far ≡ None
  pub are_taken : AreTaken so_far ms is

-- some tokens are read, with marks of which these are kept
pub record Keeping (source : List ℕ) (s : Scanner) (ks : List Marked) (is : List Item) : Type 0 where
  pub all : List Marked
  pub reading : Reading source s all is
  pub is_kept : ks ≡ kept all

-- The reader is of this source, and has given these marks. In no field a head stands behind an instruction.
pub record HasRead (source : List ℕ) (r : MarkReader) (ks : List Marked) : Type 0 where
  pub is_source : r.source.now ≡ source
  pub stack : List Item
  pub has_stack : r.stack ≡ Some stack
  pub keeping : Keeping source r.scanner ks stack
  pub leads : heads_lead false ks ≡ true

-- A reader that had given the marks ks gives one more, or the text has ended and they are its marks, or it is refused.
abbrev pub IsNextMark : List ℕ → List Marked → MarkReader → Result (Option MarkedToken) WatFault → Type 0
IsNextMark source ks new (Ok (Some t)) = HasRead source new (ks ++ marked_of t ∷ [])
IsNextMark source ks new (Ok None) = IsMarkedAs source ks
IsNextMark source ks new (Err e) = IsFaultOf source e

-- how many bytes of the text are left
abbrev pub left_of : MarkReader → ℕ
left_of r = length r.scanner.rest.now
