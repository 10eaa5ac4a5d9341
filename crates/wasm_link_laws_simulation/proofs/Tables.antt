-- The table of the linked module: the first module's entries, and then the second's, each function by its new number.
use Rattle.std.proofs.Common.{◌≡◌, ℕ, zero, suc, ◌+◌, ◌≤◌, List, [], ◌∷◌, ◌++◌, length, map, take, drop, replicate, Option, Some, None, refl, sym, ap, ◌∙◌, subst, arith}
use Rattle.std.specs.Prelude.{slice_get, option_map}
use Rattle.std.proofs.lemmas.List.{append_assoc, take-append-le, drop-append-le, take-map, drop-map, map-append, length-map}
use Rattle.wasm_lang.specs.Instructions.{Instruction, plain, const32}
use Rattle.wasm_lang.specs.Modules.{ElementSegment}
use Rattle.wasm_lang_valid.specs.Profile.{or_zero, constant_offset}
use Rattle.wasm_lang_exec.specs.Session.{replaced}
use Rattle.wasm_link_code.specs.Linked.{moved_offset, moved_element}
use Rattle.wasm_link_laws_modules.proofs.Facts.{Every, every_both, every_mapped, every_less}
use Rattle.wasm_link_laws_simulation.proofs.Segments.{Lies, ElementLies, place, place_lies, fill, many_replaced}

-- ---- lists that are replaced in part

module _ {A : Type 0} where
  take_past : (front xs : List A) (n : ℕ) → take (n + length front) (front ++ xs) ≡ front ++ take n xs
  take_past [] xs n = let e : n + 0 ≡ n = omega arith in ap (λ k. take k xs) e
  take_past (y ∷ front) xs n =
      let e : n + suc (length front) ≡ suc (n + length front) = omega arith in ap (λ k. take k (y ∷ (front ++ xs))) e ∙ ap (λ zs. y ∷ zs) (take_past front xs n)

  drop_past : (front xs : List A) (n : ℕ) → drop (n + length front) (front ++ xs) ≡ drop n xs
  drop_past [] xs n = let e : n + 0 ≡ n = omega arith in ap (λ k. drop k xs) e
  drop_past (y ∷ front) xs n = let e : n + suc (length front) ≡ suc (n + length front) = omega arith in ap (λ k. drop k (y ∷ (front ++ xs))) e ∙ drop_past front xs n

  replaced_front : (at : ℕ) (new xs back : List A) → at + length new ≤ length xs → replaced at new (xs ++ back) ≡ replaced at new xs ++ back
  replaced_front at new xs back h =
      ap (λ t. t ++ (new ++ drop (at + length new) (xs ++ back))) (take-append-le at xs back (omega (arith, h)))
      ∙ ap (λ d. take at xs ++ (new ++ d)) (drop-append-le (at + length new) xs back h)
      ∙ ap (λ t. take at xs ++ t) (sym (append_assoc new (drop (at + length new) xs) back))
      ∙ sym (append_assoc (take at xs) (new ++ drop (at + length new) xs) back)

  replaced_back : (at n : ℕ) (new front xs : List A) → length front ≡ n → replaced (at + n) new (front ++ xs) ≡ front ++ replaced at new xs
  replaced_back at n new front xs e =
      let f : at + length front + length new ≡ at + length new + length front = omega arith in
      ap (λ n. replaced (at + n) new (front ++ xs)) (sym e)
      ∙ ap (λ t. t ++ (new ++ drop (at + length front + length new) (front ++ xs))) (take_past front xs at)
      ∙ ap (λ k. (front ++ take at xs) ++ (new ++ drop k (front ++ xs))) f
      ∙ ap (λ d. (front ++ take at xs) ++ (new ++ d)) (drop_past front xs (at + length new))
      ∙ append_assoc front (take at xs) (new ++ drop (at + length new) xs)

  in_taken : (n : ℕ) (xs : List A) (i : ℕ) (x : A) → slice_get (take n xs) i ≡ Some x → slice_get xs i ≡ Some x
  in_taken zero [] i x h = absurd (cc h)
  in_taken zero (y ∷ xs) i x h = absurd (cc h)
  in_taken (suc n) [] i x h = absurd (cc h)
  in_taken (suc n) (y ∷ xs) zero x h = h
  in_taken (suc n) (y ∷ xs) (suc i) x h = in_taken n xs i x h

  in_dropped : (n : ℕ) (xs : List A) (i : ℕ) (x : A) → slice_get (drop n xs) i ≡ Some x → (j : ℕ) × (slice_get xs j ≡ Some x)
  in_dropped zero xs i x h = (i, h)
  in_dropped (suc n) [] i x h = absurd (cc h)
  in_dropped (suc n) (y ∷ xs) i x h = let r = in_dropped n xs i x h in (suc r.0, r.1)

  every_replaced : (P : A → Type 0) (at : ℕ) (new old : List A) → Every P new → Every P old → Every P (replaced at new old)
  every_replaced P at new old f g =
      every_both P (take at old) (new ++ drop (at + length new) old) (λ i x h. g i x (in_taken at old i x h))
      (every_both P new (drop (at + length new) old) f (λ i x h. let r = in_dropped (at + length new) old i x h in g r.0 x r.1))

  pub every_repeated : (P : A → Type 0) (n : ℕ) (y : A) → P y → Every P (replicate n y)
  every_repeated P zero y p i x h = absurd (cc h)
  every_repeated P (suc n) y p zero x h = let same : y ≡ x = cc h in subst P same p
  every_repeated P (suc n) y p (suc i) x h = every_repeated P n y p i x h

replaced_map : {A B : Type 0} → (f : A → B) (at : ℕ) (new old : List A) → replaced at (map f new) (map f old) ≡ map f (replaced at new old)
replaced_map f at new old =
    ap (λ n. take at (map f old) ++ (map f new ++ drop (at + n) (map f old))) (length-map new f)
    ∙ ap (λ t. t ++ (map f new ++ drop (at + length new) (map f old))) (take-map f at old)
    ∙ ap (λ d. map f (take at old) ++ (map f new ++ d)) (drop-map f (at + length new) old)
    ∙ ap (λ t. map f (take at old) ++ t) (sym (map-append f new (drop (at + length new) old)))
    ∙ sym (map-append f (take at old) (new ++ drop (at + length new) old))

some_mapped : (f : ℕ → ℕ) (xs : List ℕ) → map (λ x. Some x) (map f xs) ≡ map (option_map f) (map (λ x. Some x) xs)
some_mapped f [] = refl
some_mapped f (x ∷ xs) = ap (λ ys. Some (f x) ∷ ys) (some_mapped f xs)

-- ---- offsets that are moved

moved_constant : (n : ℕ) (is : List Instruction) (k : ℕ) → constant_offset is ≡ Some k → constant_offset (moved_offset n is) ≡ Some (k + n)
moved_constant n [] k h = absurd (cc h)
moved_constant n (plain (const32 j) ∷ is) k h = let e : j ≡ k = cc h in ap (λ j. Some (j + n)) e
moved_constant n (plain p ∷ is) k h = absurd (cc h)
moved_constant n (i ∷ is) k h = absurd (cc h)

moved_place : (n : ℕ) (is : List Instruction) (room size : ℕ) → Lies room is size → place (moved_offset n is) ≡ place is + n
moved_place n is room size it = ap or_zero (moved_constant n is it.0 it.1) ∙ ap (λ k. k + n) (sym (ap or_zero it.1))

pub moved_lies : (f : ℕ → ℕ) (n room : ℕ) (e : ElementSegment) → ElementLies room e → ElementLies (room + n) (moved_element f n e)
moved_lies f n room e it =
    let many = length-map e.functions f in
    let h = it.2 in (it.0 + n, moved_constant n e.offset it.0 it.1, omega (arith, many, h))

pub more_lies : (room more : ℕ) (e : ElementSegment) → ElementLies room e → ElementLies (room + more) e
more_lies room more e it = let h = it.2 in (it.0, it.1, omega (arith, h))

-- ---- the table in two parts

module _ (f : ℕ → ℕ) where
  abbrev renamed : List (Option ℕ) → List (Option ℕ)
  renamed = map (option_map f)

  pub fill_front : (room : ℕ) (es : List ElementSegment) (table back : List (Option ℕ)) → length table ≡ room → Every (ElementLies room) es
      → fill (map (moved_element f 0) es) (renamed table ++ back) ≡ renamed (fill es table) ++ back
  fill_front room [] table back many lies = refl
  fill_front room (e ∷ es) table back many lies =
      let at = place e.offset in
      let new : List (Option ℕ) = map (λ x. Some x) e.functions in
      let h = place_lies e.offset room (length e.functions) (lies 0 e refl) in
      let z : at + 0 ≡ at = omega arith in
      let l1 = length-map e.functions (λ (x : ℕ). Some x) in
      let l2 = length-map new (option_map f) in
      let l3 = length-map table (option_map f) in
      let here : replaced (place (moved_offset 0 e.offset)) (map (λ x. Some x) (map f e.functions)) (renamed table ++ back) ≡ renamed (replaced at new table) ++ back =
      ap (λ k. replaced k (map (λ x. Some x) (map f e.functions)) (renamed table ++ back)) (moved_place 0 e.offset room (length e.functions) (lies 0 e refl) ∙ z)
      ∙ ap (λ ns. replaced at ns (renamed table ++ back)) (some_mapped f e.functions)
      ∙ replaced_front at (renamed new) (renamed table) back (omega (arith, h, many, l1, l2, l3))
      ∙ ap (λ t. t ++ back) (replaced_map (option_map f) at new table) in
      ap (fill (map (moved_element f 0) es)) here
      ∙ fill_front room es (replaced at new table) back (many_replaced at new table (omega (arith, h, many, l1)) ∙ many) (every_less (ElementLies room) e es lies)

  pub fill_back : (n room : ℕ) (es : List ElementSegment) (front table : List (Option ℕ)) → length front ≡ n → length table ≡ room → Every (ElementLies room) es
      → fill (map (moved_element f n) es) (front ++ renamed table) ≡ front ++ renamed (fill es table)
  fill_back n room [] front table is_front many lies = refl
  fill_back n room (e ∷ es) front table is_front many lies =
      let at = place e.offset in
      let new : List (Option ℕ) = map (λ x. Some x) e.functions in
      let h = place_lies e.offset room (length e.functions) (lies 0 e refl) in
      let l1 = length-map e.functions (λ (x : ℕ). Some x) in
      let here : replaced (place (moved_offset n e.offset)) (map (λ x. Some x) (map f e.functions)) (front ++ renamed table) ≡ front ++ renamed (replaced at new table) =
      ap (λ k. replaced k (map (λ x. Some x) (map f e.functions)) (front ++ renamed table)) (moved_place n e.offset room (length e.functions) (lies 0 e refl))
      ∙ ap (λ ns. replaced (at + n) ns (front ++ renamed table)) (some_mapped f e.functions)
      ∙ replaced_back at n (renamed new) front (renamed table) is_front
      ∙ ap (λ t. front ++ t) (replaced_map (option_map f) at new table) in
      ap (fill (map (moved_element f n) es)) here
      ∙ fill_back n room es front (replaced at new table) is_front (many_replaced at new table (omega (arith, h, many, l1)) ∙ many) (every_less (ElementLies room) e es lies)

pub none_renamed : (f : ℕ → ℕ) (n : ℕ) → map (option_map f) (replicate n None) ≡ replicate n None
none_renamed f zero = refl
none_renamed f (suc n) = ap (λ xs. None ∷ xs) (none_renamed f n)

pub twice_renamed : (f g : ℕ → ℕ) (xs : List (Option ℕ)) → map (option_map f) (map (option_map g) xs) ≡ map (option_map (λ x. f (g x))) xs
twice_renamed f g [] = refl
twice_renamed f g (None ∷ xs) = ap (λ ys. None ∷ ys) (twice_renamed f g xs)
twice_renamed f g (Some x ∷ xs) = ap (λ ys. Some (f (g x)) ∷ ys) (twice_renamed f g xs)

-- ---- the functions of a table

-- an entry is empty, or such a function
abbrev pub HasIt : (ℕ → Type 0) → Option ℕ → Type 0
HasIt P None = Unit {0}
HasIt P (Some a) = P a

all_have : (P : ℕ → Type 0) (fs : List ℕ) → Every P fs → Every (HasIt P) (map (λ x. Some x) fs)
all_have P fs f = every_mapped (HasIt P) (λ x. Some x) fs f

pub filled_with : (P : ℕ → Type 0) (es : List ElementSegment) (table : List (Option ℕ)) → Every (λ (e : ElementSegment). Every P e.functions) es → Every (HasIt P) table → Every (HasIt P) (fill es table)
filled_with P [] table f g = g
filled_with P (e ∷ es) table f g =
    let new : List (Option ℕ) = map (λ x. Some x) e.functions in
    filled_with P es (replaced (place e.offset) new table) (every_less (λ (e : ElementSegment). Every P e.functions) e es f)
    (every_replaced (HasIt P) (place e.offset) new table (all_have P e.functions (f 0 e refl)) g)
