-- Tokens as the grammar sees them: a class each, and what the token says besides (ECMA-262, 6th edition, sections 11.6 and 11.7).
use Rattle.std.specs.Prelude.{◌≡◌, ℕ, Bool, true, false, ◌||◌, List, [], ◌∷◌, map, codes, bytes_eq, ◌==◌, if◌then◌else◌}
use Rattle.sem_words.specs.declared.js_value.JsOp.{JsOp}
use Rattle.sem_words.specs.declared.js_value.JsOp.TheVariants.{Add, Sub, Mul, Div, Rem, Or, And, Xor, Shl, Sar, Shr, Lt, Le, Gt, Ge, Eq, Ne}
use Rattle.asm_lang_tokens.specs.Forms.{Kind, name, number, decimal, quoted, punctuator}
use Rattle.asm_lang_tokens.specs.Text.{PlacedToken}

pub data Class : Type 0 where
  identifier : Class  -- a name that isn't reserved
  break_word : Class
  case_word : Class
  continue_word : Class
  default_word : Class
  do_word : Class
  else_word : Class
  for_word : Class
  function_word : Class
  if_word : Class
  in_word : Class  -- `in` and `instanceof`
  new_word : Class
  return_word : Class
  switch_word : Class
  var_word : Class
  while_word : Class
  reserved_word : Class  -- any other reserved word
  a_number : Class
  a_decimal : Class
  directive : Class  -- a quoted `use asm`
  open_brace : Class
  close_brace : Class
  open_paren : Class
  close_paren : Class
  open_bracket : Class
  close_bracket : Class
  dot : Class
  semicolon : Class
  comma : Class
  question : Class
  colon : Class
  equals : Class
  operator : JsOp → Class
  tilde : Class
  bang : Class
  other : Class  -- a token that asm.js has no use for

-- a token with its bytes, its value if it is a number, whether a line end stands before it, and its offset
pub record Lexeme : Type 0 where
  pub class : Class
  pub text : List ℕ
  pub value : ℕ
  pub line : Bool
  pub at : ℕ

-- ---- the tables

pub record Entry : Type 0 where
  pub spelling : List ℕ
  pub class : Class

abbrev pub entry : List ℕ → Class → Entry
entry s c = record { spelling = s; class = c }

-- the class of what is spelled so, or the last one
abbrev pub class_in : List Entry → List ℕ → Class → Class
class_in [] s last = last
class_in (e ∷ es) s last = if bytes_eq e.spelling s then e.class else class_in es s last

abbrev pub reserved_words : List Entry
reserved_words =
    entry (codes "break") break_word ∷ entry (codes "case") case_word ∷ entry (codes "catch") reserved_word ∷ entry (codes "class") reserved_word
    ∷ entry (codes "const") reserved_word ∷ entry (codes "continue") continue_word ∷ entry (codes "debugger") reserved_word ∷ entry (codes "default") default_word
    ∷ entry (codes "delete") reserved_word ∷ entry (codes "do") do_word ∷ entry (codes "else") else_word ∷ entry (codes "enum") reserved_word
    ∷ entry (codes "export") reserved_word ∷ entry (codes "extends") reserved_word ∷ entry (codes "false") reserved_word ∷ entry (codes "finally") reserved_word
    ∷ entry (codes "for") for_word ∷ entry (codes "function") function_word ∷ entry (codes "if") if_word ∷ entry (codes "import") reserved_word
    ∷ entry (codes "in") in_word ∷ entry (codes "instanceof") in_word ∷ entry (codes "let") reserved_word ∷ entry (codes "new") new_word
    ∷ entry (codes "null") reserved_word ∷ entry (codes "return") return_word ∷ entry (codes "super") reserved_word ∷ entry (codes "switch") switch_word
    ∷ entry (codes "this") reserved_word ∷ entry (codes "throw") reserved_word ∷ entry (codes "true") reserved_word ∷ entry (codes "try") reserved_word
    ∷ entry (codes "typeof") reserved_word ∷ entry (codes "var") var_word ∷ entry (codes "void") reserved_word ∷ entry (codes "while") while_word
    ∷ entry (codes "with") reserved_word ∷ entry (codes "yield") reserved_word ∷ []

abbrev pub signs : List Entry
signs =
    entry (codes "{") open_brace ∷ entry (codes "}") close_brace ∷ entry (codes "(") open_paren ∷ entry (codes ")") close_paren
    ∷ entry (codes "[") open_bracket ∷ entry (codes "]") close_bracket ∷ entry (codes ".") dot ∷ entry (codes ";") semicolon
    ∷ entry (codes ",") comma ∷ entry (codes "?") question ∷ entry (codes ":") colon ∷ entry (codes "=") equals
    ∷ entry (codes "+") (operator Add) ∷ entry (codes "-") (operator Sub) ∷ entry (codes "*") (operator Mul) ∷ entry (codes "/") (operator Div)
    ∷ entry (codes "%") (operator Rem) ∷ entry (codes "|") (operator Or) ∷ entry (codes "&") (operator And) ∷ entry (codes "^") (operator Xor)
    ∷ entry (codes "<<") (operator Shl) ∷ entry (codes ">>") (operator Sar) ∷ entry (codes ">>>") (operator Shr) ∷ entry (codes "<") (operator Lt)
    ∷ entry (codes "<=") (operator Le) ∷ entry (codes ">") (operator Gt) ∷ entry (codes ">=") (operator Ge) ∷ entry (codes "==") (operator Eq)
    ∷ entry (codes "!=") (operator Ne) ∷ entry (codes "~") tilde ∷ entry (codes "!") bang ∷ []

abbrev pub is_directive : List ℕ → Bool
is_directive bs = bytes_eq (codes "\"use asm\"") bs || bytes_eq (codes "'use asm'") bs

abbrev pub class_of : Kind → List ℕ → Class
class_of name text = class_in reserved_words text identifier
class_of (number n) text = a_number
class_of decimal text = a_decimal
class_of quoted text = if is_directive text then directive else other
class_of punctuator text = class_in signs text other

abbrev pub value_of : Kind → ℕ
value_of (number n) = n
value_of _ = 0

abbrev pub lexeme_of : PlacedToken → Lexeme
lexeme_of t = record { class = class_of t.kind t.text; text = t.text; value = value_of t.kind; line = t.line_before; at = t.at }

abbrev pub lexemes_of : List PlacedToken → List Lexeme
lexemes_of ts = map lexeme_of ts

-- ---- classes

-- a Name token, which may be a property
abbrev pub is_word : Class → Bool
is_word identifier = true
is_word break_word = true
is_word case_word = true
is_word continue_word = true
is_word default_word = true
is_word do_word = true
is_word else_word = true
is_word for_word = true
is_word function_word = true
is_word if_word = true
is_word in_word = true
is_word new_word = true
is_word return_word = true
is_word switch_word = true
is_word var_word = true
is_word while_word = true
is_word reserved_word = true
is_word _ = false

-- what a grammar asks for at a place
pub data Want : Type 0 where
  sign : Class → Want
  a_property : Want
  named : List ℕ → Want  -- a name that isn't reserved, this one
  a_zero : Want
  a_nonzero : Want

abbrev pub Meets : Want → Lexeme → Type 0
Meets (sign c) t = t.class ≡ c
Meets a_property t = is_word t.class ≡ true
Meets (named bs) t = (t.class ≡ identifier) × (bytes_eq bs t.text ≡ true)
Meets a_zero t = (t.class ≡ a_number) × (t.value == 0 ≡ true)
Meets a_nonzero t = (t.class ≡ a_number) × (t.value == 0 ≡ false)

-- xs is the wanted token t, and then ys
pub data Is : Want → Lexeme → List Lexeme → List Lexeme → Type 0 where
  here : {w : Want} {t : Lexeme} {xs : List Lexeme} → Meets w t → Is w t (t ∷ xs) xs

-- the same for a token of a class
abbrev pub At : Class → Lexeme → List Lexeme → List Lexeme → Type 0
At c t xs ys = Is (sign c) t xs ys
