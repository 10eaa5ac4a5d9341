-- Which module a text says, or why it says none. Offsets are in bytes.
use Rattle.std.specs.Prelude.{◌≡◌, ℕ, Bool, true, false, List, [], ◌∷◌, length, Option, Some, None, slice_get}
use Rattle.wasm_lang.specs.Modules.{WasmModule}
use Rattle.wat_lang.specs.declared.fault.Row.{Row}
use Rattle.wat_lang.specs.declared.fault.Row.TheVariants as rows
use Rattle.wat_lang.specs.Tokens.{Class, atom, Token, HasTokens, HasNoTokenAt}
use Rattle.wat_lang.specs.Numbers.{is_outside}
use Rattle.wat_lang.specs.Grammar.{Marked, IsGrammatical, IsFirstFault}
use Rattle.wat_lang.specs.Modules.{module_of}
use Rattle.wat_lang.specs.Rows.{rows_of, least}

abbrev pub stands_outside : Class → Bool
stands_outside (atom bs) = is_outside bs
stands_outside _ = false

-- the offset of the first word that is no part of the integer profile
abbrev pub outside_at : List Token → Option ℕ
outside_at [] = None
outside_at (t ∷ ts) = elim (stands_outside t.class) [ true ↦ Some t.at | false ↦ outside_at ts ]

-- the text is made of these tokens, all of which belong to the integer profile, and they are a module with these marks
pub record IsMarked (text : List ℕ) (marks : List Marked) : Type 0 where
  pub tokens : List Token
  pub is_reading : HasTokens text tokens
  pub is_inside : outside_at tokens ≡ None
  pub is_grammatical : IsGrammatical marks tokens

-- The text says the module: no row refuses it.
pub record SaysModule (text : List ℕ) (m : WasmModule) : Type 0 where
  pub marks : List Marked
  pub is_marked : IsMarked text marks
  pub is_accepted : rows_of marks ≡ []
  pub is_this : module_of marks ≡ m

-- ---- faults

abbrev pub at_or : ℕ → Option Token → ℕ
at_or end None = end
at_or end (Some t) = t.at

-- where the token with k tokens before it begins, or the text's length behind the last one
abbrev pub place_of : List ℕ → List Token → ℕ → ℕ
place_of text ts k = at_or (length text) (slice_get ts k)

pub record IsOutsideAt (text : List ℕ) (at : ℕ) : Type 0 where
  pub tokens : List Token
  pub is_reading : HasTokens text tokens
  pub is_first : outside_at tokens ≡ Some at

pub record IsUngrammaticalAt (text : List ℕ) (at : ℕ) : Type 0 where
  pub tokens : List Token
  pub is_reading : HasTokens text tokens
  pub is_inside : outside_at tokens ≡ None
  pub token : ℕ
  pub is_fault : IsFirstFault tokens token
  pub is_there : at ≡ place_of text tokens token

-- the least refusal by place, then by number
pub record IsRefusedAt (text : List ℕ) (row : Row) (at : ℕ) : Type 0 where
  pub marks : List Marked
  pub is_marked : IsMarked text marks
  pub is_least : least (rows_of marks) ≡ Some (record { row = row; at = at })

-- Tokens are looked at first, over the whole text, then words outside the integers, then the grammar.
pub data IsFault (text : List ℕ) : Row → ℕ → Type 0 where
  a_bad_token : {at : ℕ} → HasNoTokenAt text at → IsFault text rows.Token at
  a_word_outside : {at : ℕ} → IsOutsideAt text at → IsFault text rows.OutsideInteger at
  a_break : {at : ℕ} → IsUngrammaticalAt text at → IsFault text rows.Grammar at
  a_refusal : {row : Row} {at : ℕ} → IsRefusedAt text row at → IsFault text row at
