-- The numbers by which a translated module names its variables, functions, types and entries.
use Rattle.std.specs.Prelude.{ℕ, suc, ◌+◌, Bool, true, false, ◌&&◌, List, [], ◌∷◌, ◌++◌, length, Option, Some, None, map, option_map, bytes_eq, ◌==◌, if◌then◌else◌}
use Rattle.asm_lang.specs.Trees.{Init, number, foreign_int}
use Rattle.asm_lang.specs.Modules.{Variable, Param, Function, Table, Module}
use Rattle.asm_lang_valid.specs.Scope.{Signature, signature_of, first_member}
use Rattle.asm_lang_valid.specs.Typing.{Scope, same}
use Rattle.asm_lang_valid.specs.LimitRows.{ForeignCall, is_same, foreign_calls}
use Rattle.asm_lang_valid.specs.Refusal.{foreign_globals, function_number}
use Rattle.asm2wasm_lang.specs.Tables.{bases_of}

-- ---- variables

-- the place of the first of equal names
abbrev pub slot_of : List (List ℕ) → List ℕ → Option ℕ
slot_of [] n = None
slot_of (x ∷ xs) n = if bytes_eq x n then Some 0 else option_map (λ i. suc i) (slot_of xs n)

-- parameters and then locals, also those of doubles
abbrev pub local_names : Function → List (List ℕ)
local_names f = map (λ (p : Param). p.name) f.params ++ map (λ (v : Variable). v.name) f.locals

abbrev pub is_variable : Init → Bool
is_variable (number z) = true
is_variable (foreign_int f p) = true
is_variable _ = false

-- the declarations of a module that make an int variable
abbrev pub int_variables : List Variable → List Variable
int_variables [] = []
int_variables (v ∷ vs) = if is_variable v.init then v ∷ int_variables vs else int_variables vs

abbrev pub global_names : Module → List (List ℕ)
global_names m = map (λ (v : Variable). v.name) (int_variables m.globals)

-- where a variable stands: a local, or a global after the imported ones
pub data VariablePlace : Type 0 where
  a_local a_global : (x : ℕ) → VariablePlace
  nowhere : VariablePlace

-- a local one hides one of the module
abbrev pub place_among : (imported : ℕ) → Option ℕ → Option ℕ → VariablePlace
place_among imported (Some i) global = a_local i
place_among imported None (Some j) = a_global (imported + j)
place_among imported None None = nowhere

abbrev pub place_of : Scope → List ℕ → VariablePlace
place_of c n = place_among (length (foreign_globals c.home)) (slot_of (local_names c.within) n) (slot_of (global_names c.home) n)

-- the first local that holds no variable: parameters and locals stand before it
abbrev pub first_scratch : Function → ℕ
first_scratch f = length f.params + length f.locals

-- ---- functions, the imported ones first

abbrev pub number_among : ForeignCall → List ForeignCall → ℕ
number_among f [] = 0
number_among f (g ∷ gs) = if is_same f g then 0 else suc (number_among f gs)

abbrev pub import_number : Module → ForeignCall → ℕ
import_number m f = number_among f (foreign_calls m)

abbrev pub own_number : Module → List ℕ → ℕ
own_number m n = length (foreign_calls m) + function_number m.functions n

-- ---- types, each once, in order of first use, of the imported functions first

abbrev pub is_signature : Signature → Signature → Bool
is_signature s t = (s.params == t.params) && same s.result t.result

abbrev pub is_known : Signature → List Signature → Bool
is_known s [] = false
is_known s (t ∷ ts) = if is_signature s t then true else is_known s ts

abbrev pub each_once : List Signature → List Signature → List Signature
each_once seen [] = seen
each_once seen (s ∷ ss) = if is_known s seen then each_once seen ss else each_once (seen ++ s ∷ []) ss

abbrev pub asked_signature : ForeignCall → Signature
asked_signature f = record { params = f.params; result = f.result }

abbrev pub signatures : Module → List Signature
signatures m = each_once [] (map asked_signature (foreign_calls m) ++ map signature_of m.functions)

abbrev pub place_of_type : Signature → List Signature → ℕ
place_of_type s [] = 0
place_of_type s (t ∷ ts) = if is_signature s t then 0 else suc (place_of_type s ts)

abbrev pub type_number : Module → Signature → ℕ
type_number m s = place_of_type s (signatures m)

-- the type of a table's members, which are of one
abbrev pub member_type : Module → Option Signature → ℕ
member_type m None = 0
member_type m (Some s) = type_number m s

abbrev pub table_type : Module → Table → ℕ
table_type m t = member_type m (first_member m t.members)

-- ---- tables

abbrev pub base_among : List ℕ → List Table → List ℕ → ℕ
base_among (b ∷ bs) (t ∷ ts) n = if bytes_eq t.name n then b else base_among bs ts n
base_among bs ts n = 0

-- where the entries of the table of this name begin
abbrev pub base_of : Module → List ℕ → ℕ
base_of m n = base_among (bases_of m) m.tables n
