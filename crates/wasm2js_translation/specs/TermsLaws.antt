-- What holds of the names in what WebAssembly is translated to.
use Rattle.std.specs.Prelude.{◌≡◌, true, false, List, ◌∷◌, ◌++◌, map}
use Rattle.asm_lang_tokens.specs.Forms.{name, is_name}
use Rattle.asm_lang.specs.Lexemes.{identifier, class_of}
use Rattle.asm_lang_valid.specs.Scope.{is_in}
use Rattle.asm_lang_valid.specs.NameRows.{is_forbidden, is_forbidden_key}
use Rattle.wasm2js_translation.specs.Names.{Name, spelled, own_words, Rises}
use Rattle.wasm2js_translation.specs.Words.{Action, statements}

-- different names have different spellings
abbrev pub SpellingsDiffer : Type 0
SpellingsDiffer = (a b : Name) → spelled a ≡ spelled b → a ≡ b

-- a spelling is an identifier, may be declared and exported, and isn't one of the module's own words
pub record IsUsable (n : Name) : Type 0 where
  pub is_word : is_name (spelled n) ≡ true
  pub is_identifier : class_of name (spelled n) ≡ identifier
  pub may_be_declared : is_forbidden (spelled n) ≡ false
  pub may_be_a_key : is_forbidden_key (spelled n) ≡ false
  pub is_not_own : is_in (spelled n) own_words ≡ false

abbrev pub SpellingsAreUsable : Type 0
SpellingsAreUsable = (n : Name) → IsUsable n

-- in a list whose ranks rise no name is declared twice
abbrev pub RisingNamesAreNew : Type 0
RisingNamesAreNew = (earlier : List Name) (n : Name) (later : List Name) → Rises (earlier ++ n ∷ later) → is_in (spelled n) (map spelled earlier) ≡ false

-- ---- straight code

-- the statements of one piece of code after another
abbrev pub StatementsJoin : Type 0
StatementsJoin = (a b : List Action) → statements (a ++ b) ≡ statements a ++ statements b
