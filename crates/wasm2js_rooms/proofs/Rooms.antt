-- What the code's room shows.
use Rattle.std.proofs.Common.{◌≡◌, ℕ, ◌+◌, ◌-◌, ◌≤◌, ◌<◌, false, ◌||◌, max, List, [], ◌∷◌, length, drop, Option, Some, None, refl, sym, ap, ◌∙◌, arith, length-drop}
use Rattle.std.specs.Prelude.{vec_len, ◌==◌, slice_index_or, option_to_list}
use Rattle.std.specs.List.{list_any}
use Rattle.std.proofs.lemmas.List.{length-reverse}
use Rattle.wasm_lang.specs.declared.types.ValType.{ValType}
use Rattle.wasm2js_translation.specs.Rooms.{wide_from, here}
use Rattle.wasm2js_operands.specs.Operands.{over}
use Rattle.wasm2js_rooms.specs.Sights.{joined, is_this, sight, seen, IsWithin}
use Rattle.wasm2js_rooms.specs.declared.room.Room.{Room}
use Rattle.wasm2js_rooms.proofs.Joining.{same}

all_over : (b : ℕ) (all : List ValType) → b ≤ length all → b + length (over b all) ≡ length all
all_over b all h = let e : length (over b all) ≡ length all - b = length-reverse (drop b all) ∙ length-drop b all in omega arith

none_asked : (ys : List ℕ) → list_any (is_this None) ys ≡ false
none_asked [] = refl
none_asked (y ∷ ys) = none_asked ys

pub noted : (old new : Room) (b : ℕ) (all : List ValType) (local : Option ℕ) → b ≤ length all
    → new.height ≡ max old.height (length all) → new.wide_height ≡ max old.wide_height (wide_from b (over b all))
    → ((x : ℕ) → x < vec_len old.named → slice_index_or new.named.items x false ≡ (slice_index_or old.named.items x false || list_any (λ y. x == y) (option_to_list local)))
    → (x : Option ℕ) → IsWithin (vec_len old.named) x → seen x new ≡ joined (seen x old) (sight x (here b (over b all) (option_to_list local)))
noted old new b all local h height wide named None low = same _ _ (height ∙ ap (max old.height) (sym (all_over b all h))) wide (sym (none_asked (option_to_list local)))
noted old new b all local h height wide named (Some x) low = same _ _ (height ∙ ap (max old.height) (sym (all_over b all h))) wide (named x low)
