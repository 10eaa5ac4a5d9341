-- Lists of names.
use Rattle.std.proofs.Common.{◌≡◌, ℕ, zero, suc, ◌+◌, ◌-◌, ◌<◌, Bool, false, List, [], ◌∷◌, ◌++◌, length, drop, get_or, Option, Some, None, refl, sym, ap, ◌∙◌, arith, drop-cons, append_assoc, append-nil, length-drop}
use Rattle.std.specs.Prelude.{◌==◌, slice_index_or, if◌then◌else◌}
use Rattle.std.specs.List.{list_any, flat_map, range_with_len}
use Rattle.std.proofs.lemmas.List.Concat.{flat_map-append}
use Rattle.wasm_lang.specs.declared.types.ValType.{ValType}
use Rattle.wasm2js_translation.specs.Names.{Name}
use Rattle.wasm2js_translation.specs.Pairs.{local_pair, names_of}
use Rattle.wasm2js_translation.specs.Rooms.{Room, local_names, operand_names, declared_names}
use Rattle.wasm2js_rooms.specs.Sights.{Sight, sight, seen, IsWithin}
use Rattle.wasm2js_rooms.specs.declared.room.Room.{Room as Seen}
use Rattle.wasm2js_rooms.specs.Flags.{flagged_names}

pub flagged : (flags : List Bool) (named : List ℕ) (x : ℕ) (ts : List ValType)
    → ((y : ℕ) → y < x + length ts → slice_index_or flags y false ≡ list_any (λ z. y == z) named)
    → flagged_names flags x ts ≡ local_names named x ts
flagged flags named x [] h = refl
flagged flags named x (t ∷ ts) h =
    ap (λ b. (if b then names_of t (local_pair x) else []) ++ flagged_names flags (suc x) ts) (h x (omega arith))
    ∙ ap (λ ns. (if list_any (λ z. x == z) named then names_of t (local_pair x) else []) ++ ns)
    (flagged flags named (suc x) ts (λ y low. h y (omega arith)))

same_within : {A : Type 0} (xs : List A) (n : ℕ) (a b : A) → n < length xs → get_or xs n a ≡ get_or xs n b
same_within [] n a b h = absurd (let e : ⊥ = omega arith in e)
same_within (x ∷ xs) zero a b h = refl
same_within (x ∷ xs) (suc n) a b h = same_within xs n a b (omega arith)

pub next_flagged : (flags : List Bool) (n : ℕ) (locals : List ValType) (d : ValType) (flag : Bool) → n < length locals → length flags ≡ length locals → flag ≡ get_or flags n flag
    → flagged_names flags n (drop n locals) ≡ (if flag then names_of (get_or locals n d) (local_pair n) else []) ++ flagged_names flags (n + 1) (drop (n + 1) locals)
next_flagged flags n locals d flag low count is =
    let next : suc n ≡ n + 1 = omega arith in
    let set : slice_index_or flags n false ≡ flag = same_within flags n false flag (omega arith) ∙ sym is in
    ap (flagged_names flags n) (drop-cons locals n d low)
    ∙ ap (λ b. (if b then names_of (get_or locals n d) (local_pair n) else []) ++ flagged_names flags (suc n) (drop (suc n) locals)) set
    ∙ ap (λ m. (if flag then names_of (get_or locals n d) (local_pair n) else []) ++ flagged_names flags m (drop m locals)) next

-- ---- names of operands

range_more : (a n : ℕ) → range_with_len a (suc n) ≡ range_with_len a n ++ (a + n) ∷ []
range_more a zero = let e : a ≡ a + 0 = omega arith in ap (λ x. x ∷ []) e
range_more a (suc n) =
    let e : a + 1 + n ≡ a + suc n = omega arith in
    ap (λ xs. a ∷ xs) (range_more (a + 1) n ∙ ap (λ x. range_with_len (a + 1) n ++ x ∷ []) e)

pub flat_more : (f : ℕ → List Name) (n : ℕ) → flat_map f (range_with_len 0 (n + 1)) ≡ flat_map f (range_with_len 0 n) ++ f n
flat_more f n =
    let next : n + 1 ≡ suc n = omega arith in
    let zero_first : 0 + n ≡ n = omega arith in
    ap (λ m. flat_map f (range_with_len 0 m)) next
    ∙ ap (flat_map f) (range_more 0 n)
    ∙ flat_map-append f (range_with_len 0 n) ((0 + n) ∷ [])
    ∙ ap (λ m. flat_map f (range_with_len 0 n) ++ (f m ++ [])) zero_first
    ∙ ap (λ l. flat_map f (range_with_len 0 n) ++ l) (append-nil (f n))

pub one_more : {A : Type 0} (whole old new now rest : List A) → whole ≡ old ++ (now ++ rest) → new ≡ old ++ now → whole ≡ new ++ rest
one_more whole old new now rest w n = w ∙ sym (append_assoc old now rest) ∙ ap (λ l. l ++ rest) (sym n)

-- ---- what the code's room declares

pub declared : (seen_room : Seen) (r : Room) (params : ℕ) (locals : List ValType)
    → ((x : Option ℕ) → IsWithin (length locals) x → seen x seen_room ≡ sight x r)
    → flagged_names seen_room.named.items params (drop params locals) ++ flat_map (operand_names seen_room.wide_height) (range_with_len 0 seen_room.height)
    ≡ declared_names r params (drop params locals)
declared seen_room r params locals h =
    let heights = h None tt in
    ap (λ n. flagged_names seen_room.named.items params (drop params locals) ++ flat_map (operand_names seen_room.wide_height) (range_with_len 0 n)) (ap (λ (s : Sight). s.height) heights)
    ∙ ap (λ n. flagged_names seen_room.named.items params (drop params locals) ++ flat_map (operand_names n) (range_with_len 0 r.height)) (ap (λ (s : Sight). s.wide_height) heights)
    ∙ ap (λ ns. ns ++ flat_map (operand_names r.wide_height) (range_with_len 0 r.height))
    (locals_declared (drop params locals) (length-drop params locals))
  where
    locals_declared : (ts : List ValType) → length ts ≡ length locals - params → flagged_names seen_room.named.items params ts ≡ local_names r.locals params ts
    locals_declared [] e = refl
    locals_declared (t ∷ ts) e =
        flagged seen_room.named.items r.locals params (t ∷ ts) (λ y low. ap (λ (s : Sight). s.named) (h (Some y) (below y (length ts) e low)))
      where
        below : (y n : ℕ) → suc n ≡ length locals - params → y < params + suc n → y < length locals
        below y n e low = omega arith
