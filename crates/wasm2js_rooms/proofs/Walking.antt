-- One step of the walk after another.
use Rattle.std.proofs.Common.{◌≡◌, ℕ, suc, ◌+◌, ◌≤◌, ◌<◌, max, List, [], ◌∷◌, ◌++◌, length, take, map, Option, Some, None, true, refl, sym, ap, subst, ◌∙◌, arith}
use Rattle.std.specs.Prelude.{vec_len, slice_get, is_some, option_to_list, MatchOption}
use Rattle.wasm_lang.specs.declared.types.ValType.{ValType}
use Rattle.wasm_lang.specs.Instructions.{Instruction}
use Rattle.wasm_lang_valid.specs.Typing.{Context, listed}
use Rattle.wasm_lang_exec.specs.Code.{Trees, tree_of}
use Rattle.wasm_run_flat.specs.Places.{code_at}
use Rattle.wasm_run_flat.proofs.Standing.{tree_stands}
use Rattle.wasm2js_translation.specs.Rooms.{here, room_of, body_room, wide_from}
use Rattle.wasm2js_operands.specs.Operands.{over, IsKept}
use Rattle.wasm2js_rooms.specs.Sights.{Sight, joined, sight, seen, IsWithin}
use Rattle.wasm2js_rooms.specs.declared.room.Room.{Room as Seen}
use Rattle.wasm2js_rooms.specs.declared.walk.Place.{Place}
use Rattle.wasm2js_rooms.specs.declared.walk.Walk.{Walk}
use Rattle.wasm2js_rooms.specs.Places.{spot_at, there, next_spots, locals_in, room_at, rooms_at, size, work, IsKnown, AreKnown, IsPlace, ArePlaces, ats, AreStacked, IsAdded, IsStart, IsStep, IsUnderWay, whole}
use Rattle.wasm2js_rooms.proofs.Joining.{assoc, none, with_both, one_room, instead}
use Rattle.wasm2js_rooms.proofs.Known.{next_known, raised, known_append, both_known, BothKnown}
use Rattle.wasm2js_rooms.proofs.Stacks.{IsSplit, split, together, higher, same_spots, spot_ats}
use Rattle.wasm2js_rooms.proofs.Steps.{spot_places, follows}

-- ---- lists of places

places_append : (body : List Instruction) (ms ns : List ℕ) → ArePlaces body ms → ArePlaces body ns → ArePlaces body (ms ++ ns)
places_append body [] ns a b = b
places_append body (m ∷ ms) ns a b = (a.0, places_append body ms ns a.1 b)

pub record InBoth (body : List Instruction) (ms ns : List ℕ) : Type 0 where
  pub first : ArePlaces body ms
  pub second : ArePlaces body ns

in_both : (body : List Instruction) (ms ns : List ℕ) → ArePlaces body (ms ++ ns) → InBoth body ms ns
in_both body [] ns h = record { first = tt; second = h }
in_both body (m ∷ ms) ns h = let b = in_both body ms ns h.1 in record { first = (h.0, b.first); second = b.second }

work_append : (body : List Instruction) (ms ns : List ℕ) → work body (ms ++ ns) ≡ work body ms + work body ns
work_append body [] ns = omega arith
work_append body (m ∷ ms) ns = omega (arith, work_append body ms ns)

ats_append : (ps qs : List Place) → ats (ps ++ qs) ≡ ats ps ++ ats qs
ats_append [] qs = refl
ats_append (p ∷ ps) qs = ap (λ ns. p.at ∷ ns) (ats_append ps qs)

spots_append : (all : List ValType) (ps qs : List Place) → map (spot_at all) (ps ++ qs) ≡ map (spot_at all) ps ++ map (spot_at all) qs
spots_append all [] qs = refl
spots_append all (p ∷ ps) qs = ap (λ ss. spot_at all p ∷ ss) (spots_append all ps qs)

module _ (c : Context) (body : List Instruction) where
  -- ---- one step

  pub one_step : (p : Place) (i : Instruction) (before after : Walk) (types : List ValType)
      → IsPlace body p.at → slice_get body p.at ≡ Some i
      → IsKept p.base before.types.items types
      → over p.base types ≡ listed p.result ++ over p.base (take p.height before.types.items)
      → IsKept p.base types after.types.items
      → vec_len after.room.named ≡ vec_len before.room.named
      → ((x : Option ℕ) → IsWithin (vec_len before.room.named) x → seen x after.room ≡ joined (seen x before.room) (sight x (here p.base (over p.base types) (locals_in i))))
      → IsAdded p.base after.types.items before.places.items after.places.items (next_spots c body (there p types) i)
      → IsStep c body p before after
  one_step p i before after types at is kept restored kept_on count seen_on a =
      let s = there p types in
      let f = follows c body s i at is in
      let spots : map (spot_at after.types.items) a.added ≡ next_spots c body s i = a.spots in
      let same_ats : spot_places (next_spots c body s i) ≡ ats a.added = ap spot_places (sym spots) ∙ spot_ats after.types.items a.added in
      let now_wide : after.room.wide_height ≡ max before.room.wide_height (wide_from p.base (over p.base types)) = ap (λ (g : Sight). g.wide_height) (seen_on None tt) in
      record {
        added = a.added;
        places = a.places;
        stacked = a.stacked;
        below = kept_on.below ∙ kept.below;
        stand = subst (ArePlaces body) same_ats f.stand;
        wider = omega (arith, now_wide);
        known = subst (AreKnown after.room.wide_height) (sym spots) (next_known c body after.room.wide_height s (omega (arith, now_wide)) i);
        fewer = subst (λ ns. work body ns < suc (size (code_at body p.at))) same_ats f.fewer;
        count = count;
        sights = λ x low.
            let now = sight x (here p.base (over p.base types) (locals_in i)) in
            let rest = sight x (rooms_at c body (next_spots c body s i)) in
            ap (λ y. joined y (sight x (rooms_at c body (map (spot_at after.types.items) a.added)))) (seen_on x low)
            ∙ ap (λ ss. joined (joined (seen x before.room) now) (sight x (rooms_at c body ss))) spots
            ∙ assoc (seen x before.room) now rest
            ∙ ap (joined (seen x before.room)) (sym (f.shown x))
            ∙ ap (λ ts. joined (seen x before.room) (sight x (room_of c (code_at body p.at) p.base ts))) restored;
      }

  -- ---- the walk

  module _ (total : Option ℕ → Sight) (w : Walk) (others : List Place) (p : Place) (u : IsUnderWay c body total w) (is : w.places.items ≡ others ++ p ∷ []) where
    parts : IsSplit 0 (length w.types.items) others (p ∷ [])
    parts = split 0 (length w.types.items) others (p ∷ []) (subst (AreStacked 0 (length w.types.items)) is u.stacked)

    both : InBoth body (ats others) (p.at ∷ [])
    both = in_both body (ats others) (p.at ∷ []) (subst (ArePlaces body) (ap ats is ∙ ats_append others (p ∷ [])) u.stand)

    known_both : BothKnown w.room.wide_height (map (spot_at w.types.items) others) (spot_at w.types.items p ∷ [])
    known_both =
        both_known w.room.wide_height (map (spot_at w.types.items) others) (spot_at w.types.items p ∷ [])
        (subst (AreKnown w.room.wide_height) (ap (map (spot_at w.types.items)) is ∙ spots_append w.types.items others (p ∷ [])) u.known)

    pub known_there : IsKnown w.room.wide_height (spot_at w.types.items p)
    known_there = known_both.second.0

    pub stands_there : IsPlace body p.at
    stands_there = both.second.0

    pub base_there : p.base ≤ p.height
    base_there = parts.above.1

    pub height_there : p.height ≤ length w.types.items
    height_there = parts.above.2

    pub next_under_way : (popped after : Walk) → popped.places.items ≡ others → popped.types.items ≡ w.types.items → popped.room ≡ w.room
        → IsStep c body p popped after → IsUnderWay c body total after
    next_under_way popped after places types room s =
        let all : after.places.items ≡ others ++ s.added = s.places ∙ ap (λ ps. ps ++ s.added) places in
        let still : map (spot_at after.types.items) others ≡ map (spot_at w.types.items) others =
        same_spots 0 p.base others after.types.items w.types.items (higher 0 parts.middle p.base others parts.below parts.above.0) (s.below ∙ ap (take p.base) types) in
        let count : vec_len popped.room.named ≡ vec_len w.room.named = ap (λ (r : Seen). vec_len r.named) room in
        let wider : w.room.wide_height ≤ after.room.wide_height = subst (λ (r : Seen). r.wide_height ≤ after.room.wide_height) room s.wider in
        record {
          stand = subst (ArePlaces body) (sym (ap ats all ∙ ats_append others s.added)) (places_append body (ats others) (ats s.added) both.first s.stand);
          stacked =
              subst (AreStacked 0 (length after.types.items)) (sym all)
              (together 0 p.base (length after.types.items) others s.added (higher 0 parts.middle p.base others parts.below parts.above.0) s.stacked);
          known =
              subst (AreKnown after.room.wide_height)
              (sym (ap (map (spot_at after.types.items)) all ∙ spots_append after.types.items others s.added ∙ ap (λ ss. ss ++ map (spot_at after.types.items) s.added) still))
              (known_append after.room.wide_height (map (spot_at w.types.items) others) (map (spot_at after.types.items) s.added)
              (raised w.room.wide_height after.room.wide_height (map (spot_at w.types.items) others) wider known_both.first) s.known);
          count = s.count ∙ count ∙ u.count;
          sights = λ x low.
              let low_before : IsWithin (vec_len popped.room.named) x = subst (λ n. IsWithin n x) s.count low in
              let low_first : IsWithin (vec_len w.room.named) x = subst (λ n. IsWithin n x) count low_before in
              let was = u.sights x low_first in
              let step = s.sights x low_before in
              ap (λ ps. joined (seen x after.room) (sight x (rooms_at c body (map (spot_at after.types.items) ps)))) all
              ∙ ap (λ ss. joined (seen x after.room) (sight x (rooms_at c body ss))) (spots_append after.types.items others s.added ∙ ap (λ ss. ss ++ map (spot_at after.types.items) s.added) still)
              ∙ instead c body x (seen x popped.room) (seen x after.room) (total x) (map (spot_at w.types.items) others) (spot_at w.types.items p) (map (spot_at after.types.items) s.added)
              (ap (λ r. joined (seen x r) (sight x (rooms_at c body (map (spot_at w.types.items) others ++ spot_at w.types.items p ∷ [])))) room
              ∙ ap (λ ss. joined (seen x w.room) (sight x (rooms_at c body ss))) (sym (ap (map (spot_at w.types.items)) is ∙ spots_append w.types.items others (p ∷ [])))
              ∙ was)
              (step ∙ ap (λ ts. joined (seen x popped.room) (sight x (room_at c body (spot_at ts p)))) types);
        }

    pub less_is_left : (popped after : Walk) → popped.places.items ≡ others → IsStep c body p popped after
        → work body (ats after.places.items) < work body (ats w.places.items)
    less_is_left popped after places s =
        let now : work body (ats after.places.items) ≡ work body (ats others) + work body (ats s.added) =
        ap (λ ps. work body (ats ps)) (s.places ∙ ap (λ ps. ps ++ s.added) places) ∙ ap (work body) (ats_append others s.added) ∙ work_append body (ats others) (ats s.added) in
        let was : work body (ats w.places.items) ≡ work body (ats others) + (suc (size (code_at body p.at)) + 0) =
        ap (λ ps. work body (ats ps)) is ∙ ap (work body) (ats_append others (p ∷ [])) ∙ work_append body (ats others) (p.at ∷ []) in
        let fewer = s.fewer in
        omega arith

  pub begun : (w : Walk) → IsPlace body 0 → IsStart c w → IsUnderWay c body (whole c body) w
  begun w at s = record {
    stand = subst (λ ps. ArePlaces body (ats ps)) (sym s.places) (at, tt);
    stacked = subst (λ ts. AreStacked 0 (length ts) w.places.items) (sym s.types) (subst (AreStacked 0 0) (sym s.places) (low, low, low));
    known = subst (λ ps. AreKnown w.room.wide_height (map (spot_at w.types.items) ps)) (sym s.places) (first_known, tt);
    count = s.count;
    sights = λ x h.
        ap (λ ps. joined (seen x w.room) (sight x (rooms_at c body (map (spot_at w.types.items) ps)))) s.places
        ∙ ap (λ ts. joined (seen x w.room) (sight x (rooms_at c body (spot_at ts (record { at = 0; base = 0; height = 0; result = None }) ∷ [])))) s.types
        ∙ ap (joined (seen x w.room)) (one_room c body x (record { at = 0; base = 0; types = [] }))
        ∙ ap (λ y. joined y (sight x (room_of c (code_at body 0) 0 []))) (s.sights x);
  }
    where
      low : 0 ≤ 0
      low = omega arith

      first_known : IsKnown w.room.wide_height (spot_at w.types.items (record { at = 0; base = 0; height = 0; result = None }))
      first_known = omega arith

  pub ended : (w : Walk) (tree : Trees) → tree_of body ≡ Some tree → w.places.items ≡ [] → IsUnderWay c body (whole c body) w
      → (x : Option ℕ) → IsWithin (length c.locals) x → seen x w.room ≡ sight x (body_room c tree)
  ended w tree is none_left u x low =
      let low_here : IsWithin (vec_len w.room.named) x = subst (λ n. IsWithin n x) (sym u.count) low in
      sym (none (seen x w.room))
      ∙ ap (λ ps. joined (seen x w.room) (sight x (rooms_at c body (map (spot_at w.types.items) ps)))) (sym none_left)
      ∙ u.sights x low_here
      ∙ ap (λ t. joined (sight x (here 0 (listed c.returns) [])) (sight x (room_of c t 0 []))) ((tree_stands body tree is).code)
      ∙ sym (with_both x (here 0 (listed c.returns) []) (room_of c tree 0 []))

  pub starts : (o : Option Trees) → tree_of body ≡ o → is_some o ≡ true → IsPlace body 0
  starts None is h = cc
  starts (Some tree) is h = ([], (tree_stands body tree is).stands)

pub none_popped : (n m : ℕ) (Q : Place → Type 0) (old new : List Place) (o : Option Place) → old ≡ new ++ option_to_list o → length old ≡ n
    → MatchOption o ((n ≡ 0) × (m ≡ 0)) Q → ((p : Place) → o ≡ Some p → ⊥) → old ≡ []
none_popped n m Q [] new o is len cases not = refl
none_popped n m Q (p ∷ old) new None is len cases not = let e : ⊥ = omega (arith, cases.0) in absurd e
none_popped n m Q (p ∷ old) new (Some q) is len cases not = absurd (not q refl)
