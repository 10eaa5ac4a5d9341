-- Which variables the statements of a body name: operands up to a height, their high words up to another, and the locals of the source that
-- reached code names. The recursion goes as that of the statements does.
use Rattle.std.specs.Prelude.{ℕ, suc, ◌+◌, max, nat_lt, List, [], ◌∷◌, ◌++◌, length, drop, slice_get, ◌==◌, if◌then◌else◌}
use Rattle.std.specs.List.{list_any, flat_map, range_with_len}
use Rattle.wasm_lang.specs.declared.types.ValType.{ValType}
use Rattle.wasm_lang.specs.declared.types.ValType.TheVariants.{I32, I64}
use Rattle.wasm_lang.specs.Instructions.{Plain, local_get, local_set, local_tee}
use Rattle.wasm_lang_valid.specs.Typing.{Context, listed, type_of}
use Rattle.wasm_lang_exec.specs.Code.{unreachable, block, loop, if_block, br, br_if, br_table, return, call, call_indirect, plain, Trees, ε, ◌▹◌}
use Rattle.wasm2js_translation.specs.Names.{Name}
use Rattle.wasm2js_translation.specs.Pairs.{local_pair, operand_pair, names_of}
use Rattle.wasm2js_translation.specs.Actions.{under}
use Rattle.wasm2js_translation.specs.Bodies.{after_plain, types_after_call}

pub record Room : Type 0 where
  -- the greatest number of operands at a place that is reached
  pub height : ℕ
  -- how many of them lie below the highest one of 64 bits, with it
  pub wide_height : ℕ
  pub locals : List ℕ

abbrev pub with_room : Room → Room → Room
with_room x y = record { height = max x.height y.height; wide_height = max x.wide_height y.wide_height; locals = x.locals ++ y.locals }

-- of the operands of a block; so many lie below
abbrev pub wide_from : ℕ → List ValType → ℕ
wide_from b [] = 0
wide_from b (I64 ∷ ts) = suc (b + length ts)
wide_from b (I32 ∷ ts) = wide_from b ts

abbrev pub here : ℕ → List ValType → List ℕ → Room
here b ts xs = record { height = b + length ts; wide_height = wide_from b ts; locals = xs }

abbrev pub local_named : Plain → List ℕ
local_named (local_get x) = x ∷ []
local_named (local_set x) = x ∷ []
local_named (local_tee x) = x ∷ []
local_named p = []

module _ (c : Context) where
  abbrev pub room_of : Trees → (b : ℕ) → List ValType → Room
  room_of ε b ts = here b ts []
  room_of (plain p ▹ is) b ts = with_room (here b ts (local_named p)) (room_of is b (after_plain c p ts))
  room_of (unreachable ▹ is) b ts = here b ts []
  room_of (br k ▹ is) b ts = here b ts []
  room_of (return ▹ is) b ts = here b ts []
  room_of (br_table ks d ▹ is) b ts = here b ts []
  room_of (br_if k ▹ is) b ts = with_room (here b ts []) (room_of is b (drop 1 ts))
  room_of (block r body ▹ is) b ts = with_room (here b ts []) (with_room (room_of body (under 0 b ts) []) (room_of is b (listed r ++ ts)))
  room_of (loop r body ▹ is) b ts = with_room (here b ts []) (with_room (room_of body (under 0 b ts) []) (room_of is b (listed r ++ ts)))
  room_of (if_block r first second ▹ is) b ts =
      with_room (here b ts [])
      (with_room (with_room (room_of first (under 1 b ts) []) (room_of second (under 1 b ts) [])) (room_of is b (listed r ++ drop 1 ts)))
  room_of (call f ▹ is) b ts = with_room (here b ts []) (room_of is b (types_after_call (type_of c f) ts))
  room_of (call_indirect t ▹ is) b ts = with_room (here b ts []) (room_of is b (types_after_call (slice_get c.types t) (drop 1 ts)))

  -- of a whole body: its result counts also where it isn't reached
  abbrev pub body_room : Trees → Room
  body_room code = with_room (here 0 (listed c.returns) []) (room_of code 0 [])

-- ---- the variables that are declared

-- a local that no reached code names isn't declared
abbrev pub local_names : List ℕ → (x : ℕ) → List ValType → List Name
local_names named x [] = []
local_names named x (t ∷ ts) = (if list_any (λ y. x == y) named then names_of t (local_pair x) else []) ++ local_names named (suc x) ts

abbrev pub operand_names : (wide_height d : ℕ) → List Name
operand_names wide d = names_of (if nat_lt d wide then I64 else I32) (operand_pair d)

-- those after so many parameters, and the operands
abbrev pub declared_names : Room → (params : ℕ) → List ValType → List Name
declared_names r params locals = local_names r.locals params locals ++ flat_map (operand_names r.wide_height) (range_with_len 0 r.height)
