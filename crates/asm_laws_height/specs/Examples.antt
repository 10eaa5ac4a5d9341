-- Worked examples that the check computes.
use Rattle.std.specs.Prelude.{◌≡◌, ℕ, true, false, List, [], ◌∷◌, Err, codes, refl}
use Rattle.sem_words.specs.declared.js_value.JsOp.TheVariants.{Add, Sub, Mul}
use Rattle.asm_lang_tokens.specs.Forms.{Kind, name, number, quoted, punctuator}
use Rattle.asm_lang_tokens.specs.Text.{PlacedToken}
use Rattle.asm_lang.specs.Lexemes.{lexemes_of}
use Rattle.asm_lang.specs.Machine.{at_start}
use Rattle.asm_lang.specs.Modules.{var, binary, chain, links, no_links}
use Rattle.asm_laws_height.specs.Peaks.{high, run_low}
use Rattle.asm_laws_height.specs.Rises.{risen, level, rise_after, one_more, second_operand}

abbrev token : Kind → List ℕ → PlacedToken
token k s = record { kind = k; text = s; at = 0; line_before = false }

abbrev word : List ℕ → PlacedToken
word s = token name s

abbrev on_new_line : List ℕ → PlacedToken
on_new_line s = record { kind = name; text = s; at = 0; line_before = true }

abbrev sign : List ℕ → PlacedToken
sign s = token punctuator s

-- `function(){"use asm";function f(){`, and then
abbrev begun : List PlacedToken → List PlacedToken
begun ts = word (codes "function") ∷ sign (codes "(") ∷ sign (codes ")") ∷ sign (codes "{") ∷ token quoted (codes "\"use asm\"") ∷ sign (codes ";")
    ∷ word (codes "function") ∷ word (codes "f") ∷ sign (codes "(") ∷ sign (codes ")") ∷ sign (codes "{") ∷ ts

-- `}return f;}`
abbrev over : List PlacedToken
over = sign (codes "}") ∷ word (codes "return") ∷ word (codes "f") ∷ sign (codes ";") ∷ sign (codes "}") ∷ []

abbrev from : List PlacedToken → List PlacedToken → ℕ → Type 0
from ts rest limit = run_low limit at_start (lexemes_of (begun ts)) ≡ Err (high (lexemes_of rest))

-- ---- `x=a+b`: the sum has height 2, the assignment 3, the statement 4, the function 5 and the module 6

abbrev a_sum : List PlacedToken → List PlacedToken
a_sum ts = word (codes "x") ∷ sign (codes "=") ∷ word (codes "a") ∷ sign (codes "+") ∷ word (codes "b") ∷ ts

-- the statement may end at the `b`, before a `}`
pub statement_may_end_at_an_operand : from (a_sum (sign (codes ";") ∷ over)) (word (codes "b") ∷ sign (codes ";") ∷ over) 3
statement_may_end_at_an_operand = refl

-- `x=a` is a statement too, of height 3
pub shorter_statement_may_end : from (a_sum over) (word (codes "a") ∷ sign (codes "+") ∷ word (codes "b") ∷ over) 2
shorter_statement_may_end = refl

pub function_ends_at_its_brace : from (a_sum over) over 4
function_ends_at_its_brace = refl

pub module_is_a_node : from (a_sum over) (sign (codes "}") ∷ []) 5
module_is_a_node = refl

-- ---- bodies, labels, lists

-- `do x=1` and on the next line `while(0)`: the body may end at the `1`
abbrev a_do : List PlacedToken → List PlacedToken
a_do ts = word (codes "do") ∷ word (codes "x") ∷ sign (codes "=") ∷ token (number 1) (codes "1") ∷ ts

pub body_of_a_do_ends : from (a_do (on_new_line (codes "while") ∷ [])) (token (number 1) (codes "1") ∷ on_new_line (codes "while") ∷ []) 2
body_of_a_do_ends = refl

-- `(a,b`: the list may end at the `b`
pub list_in_parentheses_ends : from (sign (codes "(") ∷ word (codes "a") ∷ sign (codes ",") ∷ word (codes "b") ∷ []) (word (codes "b") ∷ []) 1
list_in_parentheses_ends = refl

-- `l:m:;` is no higher than `;`: the function has height 2, and the module 3
pub labels_add_nothing : from (word (codes "l") ∷ sign (codes ":") ∷ word (codes "m") ∷ sign (codes ":") ∷ sign (codes ";") ∷ over) (sign (codes "}") ∷ []) 2
labels_add_nothing = refl

-- `if(a){;}` is no higher than `if(a);`: 2, and the function 3
pub whole_body_adds_nothing : from (word (codes "if") ∷ sign (codes "(") ∷ word (codes "a") ∷ sign (codes ")") ∷ sign (codes "{") ∷ sign (codes ";") ∷ sign (codes "}") ∷ over) over 2
whole_body_adds_nothing = refl

-- ---- two numbers in place of a walk

-- `x=a+b*c` at the `c`: from the inside a product, a sum, an assignment and a statement
pub numbers_of_an_operand : risen (rise_after level (rise_after (one_more 0) (rise_after (one_more 0) (rise_after (second_operand Add (var (codes "a"))) (second_operand Mul (var (codes "b"))))))) 1 ≡ 5
numbers_of_an_operand = refl

-- a chain that goes on rises no higher than it was
pub numbers_of_a_chain : risen (second_operand Sub (chain (var (codes "a")) (links false (binary Mul (var (codes "b")) (var (codes "c"))) no_links))) 1 ≡ 3
numbers_of_a_chain = refl
