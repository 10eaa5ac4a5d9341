-- The numbers by which flat code names variables, functions, tables and foreign members, and where an operand stands already.
use Rattle.std.specs.Prelude.{ℕ, suc, ◌+◌, List, [], ◌∷◌, length, map, Option, Some, None, if◌then◌else◌}
use Rattle.std.specs.Option.{unwrap_or}
use Rattle.sem_words.specs.Words.{word_of}
use Rattle.heap_lang.specs.declared.kind.ViewKind.{ViewKind}
use Rattle.heap_lang.specs.declared.kind.ViewKind.TheVariants.{U8}
use Rattle.asm_lang.specs.Trees.{Init, member}
use Rattle.asm_lang.specs.Modules.{Expr, lit, var, binary, Variable, Function, Table, Module}
use Rattle.asm_lang_valid.specs.Scope.{is_name, Meaning, a_view}
use Rattle.asm_lang_valid.specs.Typing.{Scope, or_zero}
use Rattle.asm_lang_exec.specs.Values.{kind_of}
use Rattle.asm2wasm_translation.specs.Numbers.{slot_of, local_names, global_names}

-- ---- variables: parameters and then locals; the first slot after them

abbrev pub first_free : Function → ℕ
first_free f = length f.params + length f.locals

abbrev pub local_slot : Scope → List ℕ → Option ℕ
local_slot c n = slot_of (local_names c.within) n

-- an accepted module has each global variable that it uses
abbrev pub global_slot : Scope → List ℕ → ℕ
global_slot c n = unwrap_or (slot_of (global_names c.home) n) 0

-- ---- views, tables and foreign members

abbrev pub view_kind : Meaning → ViewKind
view_kind (a_view v) = kind_of v
view_kind _ = U8

abbrev pub table_number : Module → List ℕ → ℕ
table_number m n = unwrap_or (slot_of (map (λ (t : Table). t.name) m.tables) n) 0

-- the name of the member that a declaration imports, of the foreign object or of the standard library
abbrev pub member_name : Init → Option (List ℕ)
member_name (member object field) = Some field
member_name _ = None

-- the number of the first declaration that imports a member of this name
abbrev pub member_number : List Variable → List ℕ → ℕ
member_number [] n = 0
member_number (v ∷ vs) n = if is_name n (member_name v.init) then 0 else suc (member_number vs n)

-- ---- operands

-- the slot of an expression that is a local variable, also under `|0`
abbrev pub local : Scope → Expr → Option ℕ
local c (var n) = local_slot c n
local c (binary op l r) = if or_zero op r then local c l else None
local c _ = None

-- an operand that is a number, stands in a slot already, or is computed
pub data Seat : Type 0 where
  a_number : ℕ → Seat
  a_local : ℕ → Seat
  elsewhere : Seat

abbrev pub seat_at : Option ℕ → Seat
seat_at (Some a) = a_local a
seat_at None = elsewhere

abbrev pub seat : Scope → Expr → Seat
seat c (lit z) = a_number (word_of 32 z)
seat c e = seat_at (local c e)
