-- Code that may stand somewhere: so may its parts.
use Rattle.std.proofs.Common.{ℕ, ◌+◌, List, [], ◌∷◌, ◌++◌, length, drop, Option, arith}
use Rattle.wasm_lang.specs.declared.types.ValType.{ValType}
use Rattle.wasm_lang.specs.declared.types.ValType.TheVariants.{I32}
use Rattle.wasm_lang.specs.Instructions.{Plain}
use Rattle.wasm_lang_valid.specs.Typing.{listed}
use Rattle.wasm_lang_exec.specs.Code.{block, loop, if_block, br_if, plain, Trees, ◌▹◌}
use Rattle.wasm2js_translation.specs.Actions.{low}
use Rattle.wasm2js_translation.specs.Bodies.{after_plain}
use Rattle.wasm2js_translation.specs.Rooms.{Room, with_room, here, local_named, room_of}
use Rattle.wasm2js_laws_terms.specs.Sound.{IsInt}
use Rattle.wasm2js_laws_scopes.specs.Provided.{HasRoom}
use Rattle.wasm2js_laws_typed.proofs.RoomParts.{left_room, right_room, room_here}
use Rattle.wasm2js_laws_preservation.specs.ControlControl.{Function, MayStand}

module _ (f : Function) (b : ℕ) where
  abbrev room : Trees → ℕ → List ValType → Room
  room code b ts = room_of f.context code b ts

  -- the topmost operand has a variable
  pub top_int : (code : Trees) (us : List ValType) → MayStand f code b (I32 ∷ us) → IsInt f.scope (low (b + length us))
  top_int code us h = (room_here f.scope f.context code b (I32 ∷ us) h.room).operands (b + length us) (omega arith)

  -- ---- what opens a block

  pub block_body : (r : Option ValType) (body code : Trees) (ts : List ValType) → MayStand f (block r body ▹ code) b ts → MayStand f body (b + length ts) []
  block_body r body code ts h = record {
    room = left_room f.scope f.context (room body (b + length ts) []) (room code b (listed r ++ ts)) (right_room f.scope f.context (here b ts []) _ h.room);
    formed = h.formed.0;
  }

  pub after_block : (r : Option ValType) (body code : Trees) (ts : List ValType) → MayStand f (block r body ▹ code) b ts → MayStand f code b (listed r ++ ts)
  after_block r body code ts h = record {
    room = right_room f.scope f.context (room body (b + length ts) []) (room code b (listed r ++ ts)) (right_room f.scope f.context (here b ts []) _ h.room);
    formed = h.formed.1;
  }

  pub loop_body : (r : Option ValType) (body code : Trees) (ts : List ValType) → MayStand f (loop r body ▹ code) b ts → MayStand f body (b + length ts) []
  loop_body r body code ts h = record {
    room = left_room f.scope f.context (room body (b + length ts) []) (room code b (listed r ++ ts)) (right_room f.scope f.context (here b ts []) _ h.room);
    formed = h.formed.0;
  }

  pub after_loop : (r : Option ValType) (body code : Trees) (ts : List ValType) → MayStand f (loop r body ▹ code) b ts → MayStand f code b (listed r ++ ts)
  after_loop r body code ts h = record {
    room = right_room f.scope f.context (room body (b + length ts) []) (room code b (listed r ++ ts)) (right_room f.scope f.context (here b ts []) _ h.room);
    formed = h.formed.1;
  }

  module _ (r : Option ValType) (x y code : Trees) (us : List ValType) (h : MayStand f (if_block r x y ▹ code) b (I32 ∷ us)) where
    abbrev arms_room : Room
    arms_room = with_room (room x (b + length us) []) (room y (b + length us) [])

    parts : HasRoom f.scope f.context (with_room arms_room (room code b (listed r ++ us)))
    parts = right_room f.scope f.context (here b (I32 ∷ us) []) _ h.room

    pub first_arm : MayStand f x (b + length us) []
    first_arm = record {
      room = left_room f.scope f.context (room x (b + length us) []) (room y (b + length us) []) (left_room f.scope f.context arms_room (room code b (listed r ++ us)) parts);
      formed = h.formed.0;
    }

    pub second_arm : MayStand f y (b + length us) []
    second_arm = record {
      room = right_room f.scope f.context (room x (b + length us) []) (room y (b + length us) []) (left_room f.scope f.context arms_room (room code b (listed r ++ us)) parts);
      formed = h.formed.1;
    }

    pub after_arms : MayStand f code b (listed r ++ us)
    after_arms = record { room = right_room f.scope f.context arms_room (room code b (listed r ++ us)) parts; formed = h.formed.2 }

  -- ---- what opens none

  pub after_instruction : (p : Plain) (code : Trees) (ts : List ValType) → MayStand f (plain p ▹ code) b ts → MayStand f code b (after_plain f.context p ts)
  after_instruction p code ts h = record {
    room = right_room f.scope f.context (here b ts (local_named p)) (room code b (after_plain f.context p ts)) h.room;
    formed = h.formed.1;
  }

  pub instruction_room : (p : Plain) (code : Trees) (ts : List ValType) → MayStand f (plain p ▹ code) b ts → HasRoom f.scope f.context (here b ts (local_named p))
  instruction_room p code ts h = left_room f.scope f.context (here b ts (local_named p)) (room code b (after_plain f.context p ts)) h.room

  pub after_condition : (k : ℕ) (code : Trees) (ts : List ValType) → MayStand f (br_if k ▹ code) b ts → MayStand f code b (drop 1 ts)
  after_condition k code ts h = record { room = right_room f.scope f.context (here b ts []) (room code b (drop 1 ts)) h.room; formed = h.formed }
