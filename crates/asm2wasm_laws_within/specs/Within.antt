-- What the limits on counts leave room for.
use Rattle.std.specs.Prelude.{ℕ, ◌+◌, ◌≤◌, List, [], ◌∷◌, length, All}
use Rattle.asm_lang.specs.Modules.{Function, Table, Module}
use Rattle.asm_lang_valid.specs.LimitRows.{ForeignCall, foreign_calls, most_functions, most_params, most_locals, most_globals, most_foreign_calls, most_members, most_entries, longest_name}
use Rattle.asm_lang_valid.specs.Refusal.{foreign_globals}

-- how many members all tables have together
abbrev pub members : List Table → ℕ
members [] = 0
members (t ∷ ts) = length t.members + members ts

pub record FunctionIsWithin (f : Function) : Type 0 where
  pub params : length f.params ≤ most_params
  pub locals : length f.params + length f.locals ≤ most_locals

-- arguments of a call of a foreign function, and bytes of its name
pub record CallIsWithin (f : ForeignCall) : Type 0 where
  pub params : f.params ≤ most_params
  pub name : length f.name ≤ longest_name

pub record IsWithin (m : Module) : Type 0 where
  pub functions : length m.functions ≤ most_functions
  pub each_function : All FunctionIsWithin m.functions
  pub globals : length m.globals ≤ most_globals
  pub calls : length (foreign_calls m) ≤ most_foreign_calls
  pub each_call : All CallIsWithin (foreign_calls m)
  pub foreign : length (foreign_globals m) ≤ most_globals
  pub each_foreign : All (λ n. length n ≤ longest_name) (foreign_globals m)
  pub each_table : All (λ (t : Table). length t.members ≤ most_members) m.tables
  pub entries : members m.tables ≤ most_entries
