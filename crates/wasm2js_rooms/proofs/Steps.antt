-- What follows each instruction: what it shows, that it stands in the body, and that less is left.
use Rattle.std.proofs.Common.{◌≡◌, ℕ, suc, ◌+◌, ◌≤◌, ◌<◌, List, [], ◌∷◌, ◌++◌, length, drop, map, Option, Some, refl, sym, ap, subst, ◌∙◌, arith}
use Rattle.std.specs.Prelude.{slice_get}
use Rattle.wasm_lang.specs.declared.types.ValType.{ValType}
use Rattle.wasm_lang.specs.Instructions as flat
use Rattle.wasm_lang.specs.Instructions.{Instruction}
use Rattle.wasm_lang_valid.specs.Typing.{Context, listed, type_of}
use Rattle.wasm_lang_exec.specs.Code.{Tree, Trees, unreachable, br, br_if, br_table, return, call, call_indirect, plain, ε, ◌▹◌}
use Rattle.wasm_run_flat.specs.declared.target.Target.TheVariants.{Past, Again}
use Rattle.wasm_run_flat.specs.Reading.{single}
use Rattle.wasm_run_flat.specs.Jumps.{past_end, other_arm}
use Rattle.wasm_run_flat.specs.Places.{code_at}
use Rattle.wasm_run_flat.proofs.Standing as standing
use Rattle.wasm_run_flat.proofs.Past.{past_block, past_loop, past_if}
use Rattle.wasm2js_translation.specs.Bodies.{after_plain, types_after_call}
use Rattle.wasm2js_translation.specs.Rooms.{with_room, here, room_of}
use Rattle.wasm2js_rooms.specs.Sights.{joined, sight}
use Rattle.wasm2js_rooms.specs.Places.{Spot, goes_on, block_spots, arm_spots, after_condition, next_spots, locals_in, room_at, rooms_at, size, tree_size, work, IsPlace, ArePlaces}
use Rattle.wasm2js_rooms.proofs.Joining.{none, with_both, one_room, two_rooms, three_rooms}

abbrev pub spot_places : List Spot → List ℕ
spot_places ss = map (λ (s : Spot). s.at) ss

module _ (c : Context) (body : List Instruction) where
  pub record Follows (s : Spot) (i : Instruction) : Type 0 where
    pub stand : ArePlaces body (spot_places (next_spots c body s i))
    pub fewer : work body (spot_places (next_spots c body s i)) < suc (size (code_at body s.at))
    pub shown : (x : Option ℕ) → sight x (room_at c body s) ≡ joined (sight x (here s.base s.types (locals_in i))) (sight x (rooms_at c body (next_spots c body s i)))

  -- ---- nothing follows

  last_work : (t : Trees) → 0 < suc (size t)
  last_work t = omega arith

  -- the room of this code is only what is here
  last_room : (x : Option ℕ) (t : Trees) (s : Spot) → room_of c t s.base s.types ≡ here s.base s.types [] → code_at body s.at ≡ t
      → sight x (room_at c body s) ≡ joined (sight x (here s.base s.types [])) (sight x (rooms_at c body []))
  last_room x t s e h =
      ap (λ t. sight x (room_of c t s.base s.types)) h ∙ ap (sight x) e ∙ sym (none (sight x (here s.base s.types [])))

  -- ---- one place follows, in the same block

  module _ (s : Spot) (tree : Tree) (ts : List ValType) (xs : List ℕ) (next : IsPlace body (s.at + 1)) (code : code_at body s.at ≡ tree ▹ code_at body (s.at + 1)) where
    goes_stand : ArePlaces body (spot_places (goes_on s ts))
    goes_stand = (next, tt)

    goes_work : 1 ≤ tree_size tree → work body (spot_places (goes_on s ts)) < suc (size (code_at body s.at))
    goes_work some = rw code (omega arith)

    goes_room : (x : Option ℕ) → room_of c (tree ▹ code_at body (s.at + 1)) s.base s.types ≡ with_room (here s.base s.types xs) (room_of c (code_at body (s.at + 1)) s.base ts)
        → sight x (room_at c body s) ≡ joined (sight x (here s.base s.types xs)) (sight x (rooms_at c body (goes_on s ts)))
    goes_room x e =
        let r = room_of c (code_at body (s.at + 1)) s.base ts in
        ap (λ t. sight x (room_of c t s.base s.types)) code ∙ ap (sight x) e ∙ with_both x (here s.base s.types xs) r
        ∙ ap (joined (sight x (here s.base s.types xs))) (sym (one_room c body x (record { at = s.at + 1; base = s.base; types = ts })))

  -- ---- a block

  module _ (s : Spot) (r : Option ValType) (past : IsPlace body (past_end body s.at)) (inside : IsPlace body (s.at + 1)) where
    after_block : Spot
    after_block = record { at = past_end body s.at; base = s.base; types = listed r ++ s.types }

    block_room : (x : Option ℕ) → sight x (with_room (here s.base s.types []) (with_room (room_of c (code_at body (s.at + 1)) (s.base + length s.types) []) (room_of c (code_at body (past_end body s.at)) s.base (listed r ++ s.types))))
        ≡ joined (sight x (here s.base s.types [])) (sight x (rooms_at c body (block_spots body s r)))
    block_room x =
        let now = here s.base s.types [] in
        let in_it = room_of c (code_at body (s.at + 1)) (s.base + length s.types) [] in
        let after = room_of c (code_at body (past_end body s.at)) s.base (listed r ++ s.types) in
        with_both x now (with_room in_it after)
        ∙ ap (joined (sight x now)) (with_both x in_it after ∙ sym (two_rooms c body x (record { at = past_end body s.at; base = s.base; types = listed r ++ s.types }) (record { at = s.at + 1; base = s.base + length s.types; types = [] })))

  -- ---- an if, after its condition; what is here is seen with it

  if_room : (x : Option ℕ) (s : Spot) (r : Option ValType) (ts : List ValType)
      → sight x (with_room (here s.base ts []) (with_room (with_room (room_of c (code_at body (s.at + 1)) (s.base + length s.types) []) (room_of c (code_at body (other_arm body s.at)) (s.base + length s.types) [])) (room_of c (code_at body (past_end body s.at)) s.base (listed r ++ s.types))))
      ≡ joined (sight x (here s.base ts [])) (sight x (rooms_at c body (arm_spots body s r)))
  if_room x s r ts =
      let now = here s.base ts [] in
      let first = room_of c (code_at body (s.at + 1)) (s.base + length s.types) [] in
      let second = room_of c (code_at body (other_arm body s.at)) (s.base + length s.types) [] in
      let after = room_of c (code_at body (past_end body s.at)) s.base (listed r ++ s.types) in
      with_both x now (with_room (with_room first second) after)
      ∙ ap (joined (sight x now)) (with_both x (with_room first second) after ∙ ap (λ y. joined y (sight x after)) (with_both x first second)
      ∙ sym (three_rooms c body x (record { at = past_end body s.at; base = s.base; types = listed r ++ s.types })
      (record { at = other_arm body s.at; base = s.base + length s.types; types = [] }) (record { at = s.at + 1; base = s.base + length s.types; types = [] })))

  -- ---- each instruction

  single_next : (s : Spot) (i : Instruction) (x : Tree) → IsPlace body s.at → slice_get body s.at ≡ Some i → single i ≡ Some x
      → IsPlace body (s.at + 1) × (code_at body s.at ≡ x ▹ code_at body (s.at + 1))
  single_next s i x here is as_single = let n = standing.single_goes_on body s.at here.0 i x here.1 is as_single in ((here.0, n.stands), n.code)

  ends : (s : Spot) → IsPlace body s.at → slice_get body s.at ≡ Some flat.end_mark → code_at body s.at ≡ ε
  ends s (([]), stands) is = (standing.last_ends body s.at stands is).code
  ends s ((t ∷ ts), stands) is = (standing.end_leaves body s.at t ts stands is).code

  other_ends : (s : Spot) → IsPlace body s.at → slice_get body s.at ≡ Some flat.else_mark → code_at body s.at ≡ ε
  other_ends s (([]), stands) is = absurd (standing.else_stands_inside body s.at stands is)
  other_ends s ((t ∷ ts), stands) is = (standing.else_leaves body s.at t ts stands is).code

  goes : (s : Spot) (i : Instruction) (tree : Tree) (ts : List ValType) (xs : List ℕ) → IsPlace body s.at → slice_get body s.at ≡ Some i → single i ≡ Some tree
      → 1 ≤ tree_size tree → next_spots c body s i ≡ goes_on s ts → locals_in i ≡ xs
      → ((rest : Trees) → room_of c (tree ▹ rest) s.base s.types ≡ with_room (here s.base s.types xs) (room_of c rest s.base ts))
      → Follows s i
  goes s i tree ts xs at is as_single some next names room =
      let n = single_next s i tree at is as_single in
      record {
        stand = subst (λ ss. ArePlaces body (spot_places ss)) (sym next) (goes_stand s tree ts xs n.0 n.1);
        fewer = subst (λ ss. work body (spot_places ss) < suc (size (code_at body s.at))) (sym next) (goes_work s tree ts xs n.0 n.1 some);
        shown = λ x.
            goes_room s tree ts xs n.0 n.1 x (room (code_at body (s.at + 1)))
            ∙ ap (λ ss. joined (sight x (here s.base s.types xs)) (sight x (rooms_at c body ss))) (sym next)
            ∙ ap (λ ys. joined (sight x (here s.base s.types ys)) (sight x (rooms_at c body (next_spots c body s i)))) (sym names);
      }

  stops : (s : Spot) (i : Instruction) (tree : Tree) → IsPlace body s.at → slice_get body s.at ≡ Some i → single i ≡ Some tree
      → next_spots c body s i ≡ [] → locals_in i ≡ []
      → ((rest : Trees) → room_of c (tree ▹ rest) s.base s.types ≡ here s.base s.types [])
      → Follows s i
  stops s i tree at is as_single next names room =
      let n = single_next s i tree at is as_single in
      record {
        stand = subst (λ ss. ArePlaces body (spot_places ss)) (sym next) tt;
        fewer = subst (λ ss. work body (spot_places ss) < suc (size (code_at body s.at))) (sym next) (last_work (code_at body s.at));
        shown = λ x.
            last_room x (tree ▹ code_at body (s.at + 1)) s (room (code_at body (s.at + 1))) n.1
            ∙ ap (λ ss. joined (sight x (here s.base s.types [])) (sight x (rooms_at c body ss))) (sym next)
            ∙ ap (λ ys. joined (sight x (here s.base s.types ys)) (sight x (rooms_at c body (next_spots c body s i)))) (sym names);
      }

  closes : (s : Spot) (i : Instruction) → code_at body s.at ≡ ε → next_spots c body s i ≡ [] → locals_in i ≡ [] → Follows s i
  closes s i code next names = record {
    stand = subst (λ ss. ArePlaces body (spot_places ss)) (sym next) tt;
    fewer = subst (λ ss. work body (spot_places ss) < suc (size (code_at body s.at))) (sym next) (last_work (code_at body s.at));
    shown = λ x.
        last_room x ε s refl code
        ∙ ap (λ ss. joined (sight x (here s.base s.types [])) (sight x (rooms_at c body ss))) (sym next)
        ∙ ap (λ ys. joined (sight x (here s.base s.types ys)) (sight x (rooms_at c body (next_spots c body s i)))) (sym names);
  }

  sizes_of_block : (t u : Trees) → suc (size u) + (suc (size t) + 0) < suc (suc (suc (size t)) + size u)
  sizes_of_block t u = omega arith

  sizes_of_arms : (t o u : Trees) → suc (size u) + (suc (size o) + (suc (size t) + 0)) < suc (suc (suc (suc (size t + size o))) + size u)
  sizes_of_arms t o u = omega arith

  pub follows : (s : Spot) (i : Instruction) → IsPlace body s.at → slice_get body s.at ≡ Some i → Follows s i
  follows s flat.unreachable at is = stops s flat.unreachable unreachable at is refl refl refl (λ rest. refl)
  follows s (flat.br k) at is = stops s (flat.br k) (br k) at is refl refl refl (λ rest. refl)
  follows s (flat.br_table ks d) at is = stops s (flat.br_table ks d) (br_table ks d) at is refl refl refl (λ rest. refl)
  follows s flat.return at is = stops s flat.return return at is refl refl refl (λ rest. refl)
  follows s flat.end_mark at is = closes s flat.end_mark (ends s at is) refl refl
  follows s flat.else_mark at is = closes s flat.else_mark (other_ends s at is) refl refl
  follows s (flat.plain p) at is =
      goes s (flat.plain p) (plain p) (after_plain c p s.types) (locals_in (flat.plain p)) at is refl (omega arith) refl refl (λ rest. refl)
  follows s (flat.br_if k) at is = goes s (flat.br_if k) (br_if k) (drop 1 s.types) [] at is refl (omega arith) refl refl (λ rest. refl)
  follows s (flat.call f) at is =
      goes s (flat.call f) (call f) (types_after_call (type_of c f) s.types) [] at is refl (omega arith) refl refl (λ rest. refl)
  follows s (flat.call_indirect t) at is =
      goes s (flat.call_indirect t) (call_indirect t) (types_after_call (slice_get c.types t) (drop 1 s.types)) [] at is refl (omega arith) refl refl (λ rest. refl)
  follows s (flat.block r) at is =
      let n = past_block body s.at at.0 r at.1 is in
      let o = standing.block_opens body s.at at.0 r at.1 is in
      record {
        stand = ((at.0, n.stands), ((Past (past_end body s.at) ∷ at.0, o.stands), tt));
        fewer = rw n.code (sizes_of_block (code_at body (s.at + 1)) (code_at body (past_end body s.at)));
        shown = λ x. ap (λ t. sight x (room_of c t s.base s.types)) n.code ∙ block_room s r (at.0, n.stands) (Past (past_end body s.at) ∷ at.0, o.stands) x;
      }
  follows s (flat.loop r) at is =
      let n = past_loop body s.at at.0 r at.1 is in
      let o = standing.loop_opens body s.at at.0 r at.1 is in
      record {
        stand = ((at.0, n.stands), ((Again s.at ∷ at.0, o.stands), tt));
        fewer = rw n.code (sizes_of_block (code_at body (s.at + 1)) (code_at body (past_end body s.at)));
        shown = λ x. ap (λ t. sight x (room_of c t s.base s.types)) n.code ∙ block_room s r (at.0, n.stands) (Again s.at ∷ at.0, o.stands) x;
      }
  follows s (flat.if_block r) at is =
      let n = past_if body s.at at.0 r at.1 is in
      let o = standing.first_arm_opens body s.at at.0 r at.1 is in
      let q = standing.second_arm_opens body s.at at.0 r at.1 is in
      let t = Past (past_end body s.at) ∷ at.0 in
      record {
        stand = ((at.0, n.stands), ((t, q.stands), ((t, o.stands), tt)));
        fewer = rw n.code (sizes_of_arms (code_at body (s.at + 1)) (code_at body (other_arm body s.at)) (code_at body (past_end body s.at)));
        shown = λ x. ap (λ t. sight x (room_of c t s.base s.types)) n.code ∙ if_room x (after_condition s) r s.types;
      }
