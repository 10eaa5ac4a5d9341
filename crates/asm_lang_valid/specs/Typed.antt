-- Which functions, tables and modules are typed (asm.js draft of 18 August 2014, sections 6.1 to 6.4).
use Rattle.std.specs.Prelude.{ℕ, zero, suc, Bool, true, false, not, ◌&&◌, ◌||◌, List, [], ◌∷◌, length, Option, Some, codes, bytes_eq, ◌==◌, is_some, bit_and}
use Rattle.asm_lang.specs.Trees.{Init, number, member, view}
use Rattle.asm_lang.specs.Modules.{Variable, Function, Table, Module}
use Rattle.asm_lang_valid.specs.Scope.{is_stdlib, constructors, constructor_in, module_meaning, Signature, function_signature}
use Rattle.asm_lang_valid.specs.Typing.{Scope, literal_type, same, at_top, all_typed}

abbrev pub scope_of : Module → Function → Scope
scope_of m f = record { home = m; within = f }

-- a number lies in [-2^31, 2^32)
abbrev pub literal_fits : Init → Bool
literal_fits (number v) = is_some (literal_type v)
literal_fits _ = true

abbrev pub is_constant : List ℕ → Bool
is_constant p = bytes_eq (codes "Infinity") p || bytes_eq (codes "NaN") p

-- a member of the standard library and a view are among those that asm.js has
abbrev pub member_fits : Module → Init → Bool
member_fits m (member f p) = not (is_stdlib m f) || is_constant p
member_fits m (view f p h) = is_some (constructor_in constructors p)
member_fits m _ = true

abbrev pub globals_typed : Module → List Variable → Bool
globals_typed m [] = true
globals_typed m (v ∷ vs) = literal_fits v.init && member_fits m v.init && globals_typed m vs

abbrev pub locals_typed : List Variable → Bool
locals_typed [] = true
locals_typed (v ∷ vs) = literal_fits v.init && locals_typed vs

abbrev pub function_typed : Module → Function → Bool
function_typed m f = locals_typed f.locals && all_typed (scope_of m f) at_top f.body

abbrev pub functions_typed : Module → List Function → Bool
functions_typed m [] = true
functions_typed m (f ∷ fs) = function_typed m f && functions_typed m fs

-- 1, 2, 4, ...
abbrev pub is_power_of_two : ℕ → Bool
is_power_of_two zero = false
is_power_of_two (suc n) = bit_and (suc n) n == 0

abbrev pub same_signature : Option Signature → Option Signature → Bool
same_signature (Some s) (Some t) = (s.params == t.params) && same s.result t.result
same_signature _ t = false

abbrev pub all_alike : Module → Option Signature → List (List ℕ) → Bool
all_alike m s [] = true
all_alike m s (n ∷ ns) = same_signature s (function_signature (module_meaning m n)) && all_alike m s ns

abbrev pub alike : Module → List (List ℕ) → Bool
alike m [] = true
alike m (n ∷ ns) = all_alike m (function_signature (module_meaning m n)) (n ∷ ns)

-- the members of a table have one type, and their number is a power of two
abbrev pub table_typed : Module → Table → Bool
table_typed m t = is_power_of_two (length t.members) && alike m t.members

abbrev pub tables_typed : Module → List Table → Bool
tables_typed m [] = true
tables_typed m (t ∷ ts) = table_typed m t && tables_typed m ts

abbrev pub module_typed : Module → Bool
module_typed m = globals_typed m m.globals && functions_typed m m.functions && tables_typed m m.tables
