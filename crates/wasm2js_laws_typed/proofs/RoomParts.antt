-- The room of code is that of its parts.
use Rattle.std.proofs.Common.{◌≡◌, ℕ, Bool, true, false, ◌||◌, List, [], ◌∷◌, ◌++◌, refl, arith}
use Rattle.std.specs.Prelude.{◌==◌}
use Rattle.std.specs.List.{list_any}
use Rattle.wasm_lang.specs.declared.types.ValType.{ValType}
use Rattle.wasm_lang_valid.specs.Typing.{Context}
use Rattle.wasm_lang_exec.specs.Code.{unreachable, block, loop, if_block, br, br_if, br_table, return, call, call_indirect, plain, Trees, ε, ◌▹◌}
use Rattle.asm_lang_valid.specs.Typing.{Scope}
use Rattle.wasm2js_laws_scopes.specs.Provided.{HasRoom, IsNamed}
use Rattle.wasm2js_translation.specs.Bodies.{after_plain}
use Rattle.wasm2js_translation.specs.Rooms.{Room, with_room, here, local_named, room_of}

named_left : (x : ℕ) (xs ys : List ℕ) → IsNamed x xs → IsNamed x (xs ++ ys)
named_left x [] ys h = absurd (cc h)
named_left x (y ∷ xs) ys h = by (x == y) h (named_left x xs ys)
  where
    by : (t : Bool) → (t || list_any (λ y. x == y) xs) ≡ true → (IsNamed x xs → IsNamed x (xs ++ ys)) → (t || list_any (λ y. x == y) (xs ++ ys)) ≡ true
    by true h f = refl
    by false h f = f h

named_right : (x : ℕ) (xs ys : List ℕ) → IsNamed x ys → IsNamed x (xs ++ ys)
named_right x [] ys h = h
named_right x (y ∷ xs) ys h = by (x == y) (named_right x xs ys h)
  where
    by : (t : Bool) → IsNamed x (xs ++ ys) → (t || list_any (λ y. x == y) (xs ++ ys)) ≡ true
    by true f = refl
    by false f = f

module _ (s : Scope) (c : Context) where
  pub left_room : (x y : Room) → HasRoom s c (with_room x y) → HasRoom s c x
  left_room x y h = record {
    operands = λ d lt. h.operands d (omega (arith, lt));
    high_words = λ d lt. h.high_words d (omega (arith, lt));
    locals = λ n t is e. h.locals n t (named_left n x.locals y.locals is) e;
  }

  pub right_room : (x y : Room) → HasRoom s c (with_room x y) → HasRoom s c y
  right_room x y h = record {
    operands = λ d lt. h.operands d (omega (arith, lt));
    high_words = λ d lt. h.high_words d (omega (arith, lt));
    locals = λ n t is e. h.locals n t (named_right n x.locals y.locals is) e;
  }

  pub no_locals : (b : ℕ) (ts : List ValType) (xs : List ℕ) → HasRoom s c (here b ts xs) → HasRoom s c (here b ts [])
  no_locals b ts xs h = record { operands = h.operands; high_words = h.high_words; locals = λ n t is e. absurd (cc is) }

  pub room_here : (code : Trees) (b : ℕ) (ts : List ValType) → HasRoom s c (room_of c code b ts) → HasRoom s c (here b ts [])
  room_here ε b ts h = h
  room_here (plain p ▹ code) b ts h = no_locals b ts (local_named p) (left_room (here b ts (local_named p)) (room_of c code b (after_plain c p ts)) h)
  room_here (unreachable ▹ code) b ts h = h
  room_here (br k ▹ code) b ts h = h
  room_here (return ▹ code) b ts h = h
  room_here (br_table ks d ▹ code) b ts h = h
  room_here (br_if k ▹ code) b ts h = left_room _ _ h
  room_here (block r body ▹ code) b ts h = left_room _ _ h
  room_here (loop r body ▹ code) b ts h = left_room _ _ h
  room_here (if_block r first second ▹ code) b ts h = left_room _ _ h
  room_here (call f ▹ code) b ts h = left_room _ _ h
  room_here (call_indirect t ▹ code) b ts h = left_room _ _ h
