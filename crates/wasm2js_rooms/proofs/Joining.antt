-- Sights joined: in any order, and those of rooms and of places.
use Rattle.std.proofs.Common.{◌≡◌, ℕ, Bool, true, false, ◌||◌, max, List, [], Option, ◌∷◌, ◌++◌, refl, sym, ap, ◌∙◌, arith}
use Rattle.std.proofs.Math.Bool.{or_assoc}
use Rattle.std.proofs.lemmas.List.Folds.{list_any-append}
use Rattle.wasm_lang.specs.Instructions.{Instruction}
use Rattle.wasm_lang_valid.specs.Typing.{Context}
use Rattle.wasm2js_translation.specs.Rooms.{Room, with_room}
use Rattle.wasm2js_rooms.specs.Sights.{Sight, joined, is_this, sight}
use Rattle.wasm2js_rooms.specs.Places.{Spot, room_at, rooms_at}

pub same : (a b : Sight) → a.height ≡ b.height → a.wide_height ≡ b.wide_height → a.named ≡ b.named → a ≡ b
same a b h w n =
    ap (λ x. record { height = x; wide_height = a.wide_height; named = a.named }) h
    ∙ ap (λ x. record { height = b.height; wide_height = x; named = a.named }) w
    ∙ ap (λ x. record { height = b.height; wide_height = b.wide_height; named = x }) n

or_comm : (a b : Bool) → (a || b) ≡ (b || a)
or_comm true true = refl
or_comm true false = refl
or_comm false true = refl
or_comm false false = refl

or_none : (a : Bool) → (a || false) ≡ a
or_none true = refl
or_none false = refl

max_assoc : (a b c : ℕ) → max (max a b) c ≡ max a (max b c)
max_assoc a b c = omega arith

max_comm : (a b : ℕ) → max a b ≡ max b a
max_comm a b = omega arith

max_none : (a : ℕ) → max a 0 ≡ a
max_none a = omega arith

abbrev pub nothing : Sight
nothing = record { height = 0; wide_height = 0; named = false }

pub assoc : (a b c : Sight) → joined (joined a b) c ≡ joined a (joined b c)
assoc a b c = same _ _ (max_assoc a.height b.height c.height) (max_assoc a.wide_height b.wide_height c.wide_height) (or_assoc a.named b.named c.named)

pub comm : (a b : Sight) → joined a b ≡ joined b a
comm a b = same _ _ (max_comm a.height b.height) (max_comm a.wide_height b.wide_height) (or_comm a.named b.named)

pub none : (a : Sight) → joined a nothing ≡ a
none a = same _ _ (max_none a.height) (max_none a.wide_height) (or_none a.named)

pub with_both : (x : Option ℕ) (a b : Room) → sight x (with_room a b) ≡ joined (sight x a) (sight x b)
with_both x a b = same _ _ refl refl (list_any-append (is_this x) a.locals b.locals)

module _ (c : Context) (body : List Instruction) (x : Option ℕ) where
  pub rooms_append : (ss rs : List Spot) → sight x (rooms_at c body (ss ++ rs)) ≡ joined (sight x (rooms_at c body ss)) (sight x (rooms_at c body rs))
  rooms_append [] rs = sym (none (sight x (rooms_at c body rs))) ∙ comm (sight x (rooms_at c body rs)) nothing
  rooms_append (s ∷ ss) rs =
      let a = sight x (room_at c body s) in
      with_both x (room_at c body s) (rooms_at c body (ss ++ rs))
      ∙ ap (joined a) (rooms_append ss rs)
      ∙ sym (assoc a (sight x (rooms_at c body ss)) (sight x (rooms_at c body rs)))
      ∙ ap (λ y. joined y (sight x (rooms_at c body rs))) (sym (with_both x (room_at c body s) (rooms_at c body ss)))

  pub one_room : (s : Spot) → sight x (rooms_at c body (s ∷ [])) ≡ sight x (room_at c body s)
  one_room s = with_both x (room_at c body s) (rooms_at c body []) ∙ none (sight x (room_at c body s))

  pub two_rooms : (s r : Spot) → sight x (rooms_at c body (s ∷ r ∷ [])) ≡ joined (sight x (room_at c body r)) (sight x (room_at c body s))
  two_rooms s r =
      with_both x (room_at c body s) (rooms_at c body (r ∷ []))
      ∙ ap (joined (sight x (room_at c body s))) (one_room r)
      ∙ comm (sight x (room_at c body s)) (sight x (room_at c body r))

  pub three_rooms : (s r q : Spot)
      → sight x (rooms_at c body (s ∷ r ∷ q ∷ [])) ≡ joined (joined (sight x (room_at c body q)) (sight x (room_at c body r))) (sight x (room_at c body s))
  three_rooms s r q =
      with_both x (room_at c body s) (rooms_at c body (r ∷ q ∷ []))
      ∙ ap (joined (sight x (room_at c body s))) (two_rooms r q)
      ∙ comm (sight x (room_at c body s)) (joined (sight x (room_at c body q)) (sight x (room_at c body r)))

  -- a place is taken off the others, and what it was to show comes in its stead
  pub instead : (old new total : Sight) (others : List Spot) (s : Spot) (more : List Spot)
      → joined old (sight x (rooms_at c body (others ++ s ∷ []))) ≡ total
      → joined new (sight x (rooms_at c body more)) ≡ joined old (sight x (room_at c body s))
      → joined new (sight x (rooms_at c body (others ++ more))) ≡ total
  instead old new total others s more was step =
      let o = sight x (rooms_at c body others) in
      let m = sight x (rooms_at c body more) in
      let r = sight x (room_at c body s) in
      ap (joined new) (rooms_append others more ∙ comm o m)
      ∙ sym (assoc new m o)
      ∙ ap (λ y. joined y o) step
      ∙ assoc old r o
      ∙ ap (joined old) (comm r o ∙ ap (joined o) (sym (one_room s)) ∙ sym (rooms_append others (s ∷ [])))
      ∙ was
