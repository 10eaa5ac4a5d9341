-- What a name means in a module and in one of its functions (asm.js draft of 18 August 2014, sections 6.1 to 6.4).
pub use Rattle.asm_lang_valid.specs.declared.meaning.Element.{Element}
pub use Rattle.asm_lang_valid.specs.declared.meaning.Element.TheVariants.{Int8, Uint8, Int16, Uint16, Int32, Uint32}
pub use Rattle.asm_lang_valid.specs.declared.meaning.Builtin.{Builtin}
pub use Rattle.asm_lang_valid.specs.declared.meaning.Builtin.TheVariants.{Imul, Clz32}
use Rattle.std.specs.Prelude.{ℕ, zero, suc, Bool, true, false, ◌||◌, List, [], ◌∷◌, length, Option, Some, None, codes, bytes_eq, if◌then◌else◌}
use Rattle.asm_lang.specs.Trees.{Init, number, decimal, foreign_int, foreign_double, member, math, view}
use Rattle.asm_lang.specs.Modules.{Stmt, returns, Stmts, no_stmts, stmts, Variable, Param, Function, Table, Module}

-- ---- the module's parameters

abbrev pub nth : List (List ℕ) → ℕ → Option (List ℕ)
nth [] i = None
nth (n ∷ ns) zero = Some n
nth (n ∷ ns) (suc i) = nth ns i

abbrev pub is_name : List ℕ → Option (List ℕ) → Bool
is_name n None = false
is_name n (Some p) = bytes_eq p n

-- the name of the standard library, of the foreign object, of the heap's buffer
abbrev pub is_stdlib : Module → List ℕ → Bool
is_stdlib m n = is_name n (nth m.params 0)

abbrev pub is_foreign : Module → List ℕ → Bool
is_foreign m n = is_name n (nth m.params 1)

abbrev pub is_heap : Module → List ℕ → Bool
is_heap m n = is_name n (nth m.params 2)

-- ---- what a global declaration makes of its name

-- an element has 2 ^ k bytes
abbrev pub shift_of : Element → ℕ
shift_of Int8 = 0
shift_of Uint8 = 0
shift_of Int16 = 1
shift_of Uint16 = 1
shift_of Int32 = 2
shift_of Uint32 = 2

pub data Meaning : Type 0 where
  nothing : Meaning  -- not declared
  an_int : Meaning  -- a variable
  an_outside : Meaning  -- a double, or what is accepted only unused
  a_foreign : List ℕ → Meaning  -- the foreign function of this name
  a_builtin : Builtin → Meaning
  a_view : Element → Meaning
  a_function : Function → Meaning
  a_table : Table → Meaning
  a_parameter : Meaning  -- of the module

pub record Constructor : Type 0 where
  pub name : List ℕ
  pub element : Option Element

abbrev pub constructor : List ℕ → Option Element → Constructor
constructor n e = record { name = n; element = e }

abbrev pub constructors : List Constructor
constructors =
    constructor (codes "Int8Array") (Some Int8) ∷ constructor (codes "Uint8Array") (Some Uint8) ∷ constructor (codes "Int16Array") (Some Int16) ∷ constructor (codes "Uint16Array") (Some Uint16)
    ∷ constructor (codes "Int32Array") (Some Int32) ∷ constructor (codes "Uint32Array") (Some Uint32) ∷ constructor (codes "Float32Array") None ∷ constructor (codes "Float64Array") None ∷ []

-- the constructor of a view, if it is one
abbrev pub constructor_in : List Constructor → List ℕ → Option Constructor
constructor_in [] n = None
constructor_in (c ∷ cs) n = if bytes_eq c.name n then Some c else constructor_in cs n

abbrev pub viewed : Option Constructor → Meaning
viewed None = an_outside
viewed (Some c) = of_element c.element
  where
    of_element : Option Element → Meaning
    of_element None = an_outside
    of_element (Some e) = a_view e

abbrev pub math_meaning : List ℕ → Meaning
math_meaning p = if bytes_eq (codes "imul") p then a_builtin Imul else (if bytes_eq (codes "clz32") p then a_builtin Clz32 else an_outside)

abbrev pub init_meaning : Module → Init → Meaning
init_meaning m (number v) = an_int
init_meaning m (decimal bs) = an_outside
init_meaning m (foreign_int f p) = an_int
init_meaning m (foreign_double f p) = an_outside
init_meaning m (member f p) = if is_foreign m f then a_foreign p else an_outside
init_meaning m (math f p) = math_meaning p
init_meaning m (view f p h) = viewed (constructor_in constructors p)

-- ---- names of a module; the first declaration in text order counts

abbrev pub among_globals : Module → List Variable → List ℕ → Meaning → Meaning
among_globals m [] n otherwise = otherwise
among_globals m (v ∷ vs) n otherwise = if bytes_eq v.name n then init_meaning m v.init else among_globals m vs n otherwise

abbrev pub among_functions : List Function → List ℕ → Meaning → Meaning
among_functions [] n otherwise = otherwise
among_functions (f ∷ fs) n otherwise = if bytes_eq f.name n then a_function f else among_functions fs n otherwise

abbrev pub among_tables : List Table → List ℕ → Meaning
among_tables [] n = nothing
among_tables (t ∷ ts) n = if bytes_eq t.name n then a_table t else among_tables ts n

abbrev pub is_in : List ℕ → List (List ℕ) → Bool
is_in n [] = false
is_in n (x ∷ xs) = bytes_eq x n || is_in n xs

abbrev pub module_meaning : Module → List ℕ → Meaning
module_meaning m n =
    if is_in n m.params then a_parameter
    else among_globals m m.globals n (among_functions m.functions n (among_tables m.tables n))

-- ---- names of a function, which hide those of the module

abbrev pub local_init : Init → Meaning
local_init (number v) = an_int
local_init _ = an_outside

abbrev pub among_locals : List Variable → List ℕ → Meaning → Meaning
among_locals [] n otherwise = otherwise
among_locals (v ∷ vs) n otherwise = if bytes_eq v.name n then local_init v.init else among_locals vs n otherwise

abbrev pub among_params : List Param → List ℕ → Meaning → Meaning
among_params [] n otherwise = otherwise
among_params (p ∷ ps) n otherwise = if bytes_eq p.name n then (if p.double then an_outside else an_int) else among_params ps n otherwise

abbrev pub meaning : Module → Function → List ℕ → Meaning
meaning m f n = among_params f.params n (among_locals f.locals n (module_meaning m n))

-- ---- signatures

abbrev pub gives_value : Stmt → Bool
gives_value (returns (Some e)) = true
gives_value _ = false

abbrev pub last_gives_value : Stmts → Bool
last_gives_value no_stmts = false
last_gives_value (stmts s no_stmts) = gives_value s
last_gives_value (stmts s (stmts r rs)) = last_gives_value (stmts r rs)

-- how many arguments, all of them ints, and whether there is a result, which is signed
pub record Signature : Type 0 where
  pub params : ℕ
  pub result : Bool

-- a function has a result exactly where its last statement is a return with an expression
abbrev pub signature_of : Function → Signature
signature_of f = record { params = length f.params; result = last_gives_value f.body }

-- that of a table is its first member's
abbrev pub function_signature : Meaning → Option Signature
function_signature (a_function f) = Some (signature_of f)
function_signature _ = None

abbrev pub first_member : Module → List (List ℕ) → Option Signature
first_member m [] = None
first_member m (n ∷ ns) = function_signature (module_meaning m n)
