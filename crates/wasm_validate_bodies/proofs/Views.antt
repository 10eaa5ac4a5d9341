-- The open blocks that frames and operands stand for.
use Rattle.std.proofs.Common.{◌≡◌, ℕ, zero, suc, ◌-◌, ◌<◌, ◌≤◌, List, [], ◌∷◌, ◌++◌, map, length, get_or, take, drop, Option, Some, None, refl, sym, ap, ◌∙◌, subst, arith}
use Rattle.std.specs.Prelude.{reverse, slice_get, slice_set, Ok}
use Rattle.std.proofs.lemmas.List.{append-nil, get_or-reverse, length-reverse, length-set, reverse-append, drop-append-le, take-append-le}
use Rattle.std.proofs.Math.Seq.{take-suc-set, take-length}
use Rattle.wasm_lang.specs.declared.types.ValType.{ValType}
use Rattle.wasm_validate_bodies.specs.declared.frame.Frame.{Frame}
use Rattle.wasm_lang_valid.specs.State.{Operand, Level, known, closes, label_of, ended, given}
use Rattle.wasm_lang_valid.specs.Typing.{may_end, label_for, listed}
use Rattle.wasm_validate_bodies.specs.Blocks.{over, levels, Rise, IsKept, outer}

pub label_at : (fs : List Frame) (items : List Operand) (i : ℕ) (d : Frame) → i < length fs → slice_get (map label_of (levels fs items)) i ≡ Some (label_for (get_or fs i d).opening (get_or fs i d).result)
label_at [] items i d h = absurd (omega arith)
label_at (f ∷ fs) items zero d h = refl
label_at (f ∷ fs) items (suc i) d h = label_at fs (take f.height items) i d (omega arith)

pub label_past : (fs : List Frame) (items : List Operand) (i : ℕ) → length fs ≤ i → slice_get (map label_of (levels fs items)) i ≡ None
label_past [] items i h = refl
label_past (f ∷ fs) items zero h = absurd (omega arith)
label_past (f ∷ fs) items (suc i) h = label_past fs (take f.height items) i (omega arith)

given_view : (r : Option ValType) (fs : List Frame) (items : List Operand) → Rise fs (length items) → given r (levels fs items) ≡ levels fs (items ++ known (listed r))
given_view r [] items h = refl
given_view None (f ∷ fs) items h = rw append-nil
given_view (Some t) (f ∷ fs) items h =
    let le : f.height ≤ length items = h.0 in
    let a : over f.height (items ++ Some t ∷ []) ≡ Some t ∷ over f.height items = ap reverse (drop-append-le f.height items (Some t ∷ []) le) ∙ reverse-append (drop f.height items) (Some t ∷ []) in
    let b = take-append-le f.height items (Some t ∷ []) le in
    sym (ap (λ o. record { opening = f.opening; result = f.result; endless = f.endless; operands = o } ∷ levels fs (take f.height (items ++ Some t ∷ []))) a ∙ ap (λ l. record { opening = f.opening; result = f.result; endless = f.endless; operands = Some t ∷ over f.height items } ∷ levels fs l) b)

rise_on : (fs : List Frame) (n m : ℕ) → n ≤ m → Rise fs n → Rise fs m
rise_on [] n m le h = tt
rise_on (f ∷ fs) n m le h = (omega (arith, h.0), h.1)

-- the innermost frame, the others, and the operands before and after a block is closed
module _ (frames frames' : List Frame) (f : Frame) (items mid items' : List Operand) (e : reverse frames ≡ f ∷ outer frames) (e' : reverse frames' ≡ outer frames) (rise : Rise (reverse frames) (length items)) (kept : IsKept f.height items mid) (n : length mid ≡ f.height) where
  rise_outer : Rise (reverse frames') (length mid)
  rise_outer = let r : Rise (f ∷ outer frames) (length items) = subst (λ fs. Rise fs (length items)) e rise in rw (e', n) r.1

  pub rise_end : length mid ≤ length items' → Rise (reverse frames') (length items')
  rise_end le = rise_on (reverse frames') (length mid) (length items') le rise_outer

  pub end_view : items' ≡ mid ++ known (listed f.result) → closes f.result f.endless (over f.height items) ≡ Ok tt → may_end f.opening f.result ≡ Ok tt → ended (levels (reverse frames) items) ≡ Ok (levels (reverse frames') items')
  end_view is c m =
      let below : take f.height items ≡ mid = sym kept.below ∙ ap (λ k. take k mid) (sym n) ∙ take-length mid in
      let a : ended (levels (f ∷ outer frames) items) ≡ Ok (given f.result (levels (outer frames) (take f.height items))) = rw (c, m) in
      ap (λ fs. ended (levels fs items)) e ∙ a ∙ ap (λ l. Ok (given f.result (levels (outer frames) l))) below
      ∙ ap (λ fs. Ok (given f.result (levels fs mid))) (sym e')
      ∙ ap (λ ls. Ok ls) (given_view f.result (reverse frames') mid rise_outer)
      ∙ ap (λ l. Ok (levels (reverse frames') l)) (sym is)

pub replaced : (frames : List Frame) (f : Frame) → 0 < length frames → reverse (slice_set frames (length frames - 1) f) ≡ f ∷ outer frames
replaced frames f h =
    let n = length frames - 1 in
    let lt : n < length frames = omega arith in
    let all : suc n ≡ length (slice_set frames n f) = omega (arith, length-set frames n f) in
    let e : slice_set frames n f ≡ take n frames ++ f ∷ [] = sym (ap (λ k. take k (slice_set frames n f)) all ∙ take-length (slice_set frames n f)) ∙ take-suc-set frames n f lt in
    ap reverse e ∙ reverse-append (take n frames) (f ∷ [])

pub label_view : (frames : List Frame) (items : List Operand) (ls : List Level) (n i : ℕ) (d : Frame) → levels (reverse frames) items ≡ ls → n ≡ length frames → i < n → d ≡ get_or frames (n - 1 - i) d → slice_get (map label_of ls) i ≡ Some (label_for d.opening d.result)
label_view frames items ls n i d e m lt at =
    let lt1 : i < length frames = omega arith in
    let lt2 : i < length (reverse frames) = rw length-reverse lt1 in
    let is : get_or (reverse frames) i d ≡ d = get_or-reverse frames i d lt1 ∙ ap (λ n. get_or frames (n - 1 - i) d) (sym m) ∙ sym at in
    ap (λ ls. slice_get (map label_of ls) i) (sym e) ∙ label_at (reverse frames) items i d lt2 ∙ ap (λ f. Some (label_for f.opening f.result)) is

pub no_label_view : (frames : List Frame) (items : List Operand) (ls : List Level) (n i : ℕ) → levels (reverse frames) items ≡ ls → n ≡ length frames → n ≤ i → slice_get (map label_of ls) i ≡ None
no_label_view frames items ls n i e m le =
    let le2 : length (reverse frames) ≤ i = rw length-reverse (omega arith) in
    ap (λ ls. slice_get (map label_of ls) i) (sym e) ∙ label_past (reverse frames) items i le2
