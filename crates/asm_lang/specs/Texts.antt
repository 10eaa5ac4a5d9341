-- Which module a text says, or why it says none within the limit on the height. Offsets are in bytes.
use Rattle.std.specs.Prelude.{◌≡◌, ◌⊎◌, ℕ, ◌≤◌, List, Option, Some, None, Ok, length}
use Rattle.std.specs.List.{slice_get}
use Rattle.asm_lang_tokens.specs.Text.{PlacedToken, IsReading, HasFault}
use Rattle.asm_lang_tokens.specs.Text as bytes
use Rattle.asm_lang.specs.Lexemes.{lexemes_of}
use Rattle.asm_lang.specs.Trees.{ModuleTree}
use Rattle.asm_lang.specs.Grammar.{IsModule}
use Rattle.asm_lang.specs.Modules.{Module, module_of, module_places}
use Rattle.asm_lang.specs.Heights.{module_height, height_limit}
use Rattle.asm_lang.specs.Kinds.{Kind, negative_zero, missing_use}
use Rattle.asm_lang.specs.Kinds as kinds

-- The text is cut into tokens that are a spelling of the module.
pub record IsTextOf (text : List ℕ) (m : Module) : Type 0 where
  pub tokens : List PlacedToken
  pub is_reading : IsReading text (Ok tokens)
  pub tree : ModuleTree
  pub is_module : IsModule tree (lexemes_of tokens)
  pub is_this : module_of tree ≡ m

-- The text says the module, which isn't too high, and these are the places of its nodes: a whole before its parts, in text
-- order.
pub record SaysModule (text : List ℕ) (m : Module) (places : List ℕ) : Type 0 where
  pub said : IsTextOf text m
  pub have_places : places ≡ module_places said.tree
  pub within : module_height m ≤ height_limit

-- ---- faults

abbrev pub at_or : ℕ → Option PlacedToken → ℕ
at_or end None = end
at_or end (Some t) = t.at

-- where the token with k tokens before it begins, or the text's length behind the last one
abbrev pub place_of : List ℕ → List PlacedToken → ℕ → ℕ
place_of text ts k = at_or (length text) (slice_get ts k)

-- The text is cut into tokens, which have this fault at a token that begins at this place.
pub record AtToken (text : List ℕ) (kind : Kind) (at : ℕ) : Type 0 where
  pub tokens : List PlacedToken
  pub is_reading : IsReading text (Ok tokens)
  pub token : ℕ
  pub is_fault : kinds.IsFault height_limit (lexemes_of tokens) kind token
  pub is_there : at ≡ place_of text tokens token

-- why a text says no module within the limit
pub data Fault : Type 0 where
  non_ascii : Fault
  bad_token : Fault
  open_comment : Fault
  literal_form : Fault
  grammar : Fault
  no_use_asm : Fault
  height : Fault

-- The text has no tokens, or its tokens are no module. Two kinds of numbers have a faulty form: a token by itself, and a 0 after
-- a prefix `-`.
abbrev pub IsFault : List ℕ → Fault → ℕ → Type 0
IsFault text non_ascii at = HasFault text bytes.non_ascii at
IsFault text bad_token at = HasFault text bytes.bad_token at
IsFault text open_comment at = HasFault text bytes.open_comment at
IsFault text literal_form at = HasFault text bytes.literal_form at ⊎ AtToken text negative_zero at
IsFault text grammar at = AtToken text kinds.grammar at
IsFault text no_use_asm at = AtToken text missing_use at
IsFault text height at = AtToken text kinds.height at
