-- What a parser has read, and what its answer says.
use Rattle.std.specs.Prelude.{◌≡◌, ℕ, ◌≤◌, List, [], ◌∷◌, ◌++◌, Option, Some, None, Result, Ok, Err, IfOk, IfErr}
use Rattle.std.specs.List.{slice_get}
use Rattle.sem_words.specs.Lists.{list_items}
use Rattle.asm_lang_tokens.specs.Text.{PlacedToken}
use Rattle.asm_lang.specs.Lexemes.{Lexeme, lexemes_of}
use Rattle.asm_lang.specs.Trees.{ModuleTree}
use Rattle.asm_lang.specs.Grammar.{IsModule}
use Rattle.asm_lang.specs.Machine.{at_start}
use Rattle.asm_lang.specs.Modules.{Module, module_of, module_places}
use Rattle.asm_lang.specs.Heights.{module_height, height_limit}
use Rattle.asm_lang.specs.Kinds as kinds
use Rattle.asm_lang.specs.Texts.{at_or}
use Rattle.asm_lang.specs.TreeHeights.{whole_height}
use Rattle.asm_laws_height.specs.Peaks.{run_low}
use Rattle.asm_tree.specs.declared.tree.Parsed.{Parsed}
use Rattle.asm_tree.specs.Views.{module_view}
use Rattle.js_tokens.specs.declared.token.Token.{Token}
use Rattle.js_tokens.specs.Views.{placed_token}
use Rattle.asm_grammar.specs.declared.fault.ParseFault.{ParseFault}
use Rattle.asm_grammar.specs.declared.fault.ParseFault.TheVariants as faults
use Rattle.asm_grammar.specs.declared.parsing.Parser.{Parser}
use Rattle.asm_grammar_modules.specs.Readings.{reading_view}

-- ---- what the parser has read

abbrev pub IsLast : Option Token → List PlacedToken → Type 0
IsLast None ts = ts ≡ []
IsLast (Some t) ts = (us : List PlacedToken) × (ts ≡ us ++ placed_token t ∷ [])

-- The parser has read the tokens: reading on within the limit on the height comes to what reading all does.
pub record HasRead (p : Parser) (ts : List PlacedToken) : Type 0 where
  pub comes_to : (us : List PlacedToken) → run_low height_limit (reading_view p.reading) (lexemes_of us) ≡ run_low height_limit at_start (lexemes_of (ts ++ us))
  pub ends_in : IsLast p.last ts

-- ---- what its answer says

-- The tokens are a spelling of the module, which isn't too high, and these are the places of its nodes: a whole before its
-- parts, in text order.
pub record IsParsed (xs : List Lexeme) (m : Module) (places : List ℕ) : Type 0 where
  pub tree : ModuleTree
  pub is_module : IsModule tree xs
  pub is_this : m ≡ module_of tree
  pub have_places : places ≡ module_places tree
  pub within : module_height m ≤ height_limit

-- it is this module with its places, or memory ran out
abbrev pub HasModule : ModuleTree → Result Parsed ParseFault → Type 0
HasModule t (Ok p) = (module_view p.module ≡ module_of t) × (list_items p.places ≡ module_places t)
HasModule t (Err faults.Memory) = Unit {0}
HasModule t (Err _) = ⊥

-- where the token with k tokens before it begins, or the end of the text
abbrev pub place_in : ℕ → List PlacedToken → ℕ → ℕ
place_in end ts k = at_or end (slice_get ts k)

-- a token at this place has the fault
abbrev pub HasFault : ℕ → List PlacedToken → kinds.Kind → ℕ → Type 0
HasFault end ts kind at = (k : ℕ) × (at ≡ place_in end ts k) × kinds.IsFault height_limit (lexemes_of ts) kind k

-- the fault of the tokens that counts; want of memory says nothing of them
abbrev pub IsFault : ℕ → List PlacedToken → ParseFault → Type 0
IsFault end ts (faults.LiteralForm at) = HasFault end ts kinds.negative_zero at
IsFault end ts (faults.NoUseAsm at) = HasFault end ts kinds.missing_use at
IsFault end ts (faults.Grammar at) = HasFault end ts kinds.grammar at
IsFault end ts (faults.Height at) = HasFault end ts kinds.height at
IsFault end ts faults.Memory = Unit {0}

-- What the answer says of all tokens of a text that ends there: their module, or their fault.
pub record IsVerdict (end : ℕ) (ts : List PlacedToken) (r : Result Parsed ParseFault) : Type 0 where
  pub found : IfOk r (λ p. IsParsed (lexemes_of ts) (module_view p.module) (list_items p.places))
  pub only : (t : ModuleTree) → IsModule t (lexemes_of ts) → whole_height t ≤ height_limit → HasModule t r
  pub fault : IfErr r (λ e. IsFault end ts e)
