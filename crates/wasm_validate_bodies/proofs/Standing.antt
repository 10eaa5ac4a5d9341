-- How many operands stand in all open blocks.
use Rattle.std.proofs.Common.{◌≡◌, ℕ, suc, ◌+◌, ◌-◌, ◌<◌, List, [], ◌∷◌, length, get_or, take, drop, sym, ap, ◌∙◌, subst, arith, length-drop, length-take}
use Rattle.std.specs.Prelude.{reverse}
use Rattle.std.proofs.lemmas.List.{get_or-reverse, length-reverse}
use Rattle.wasm_lang_valid.specs.Measures.{standing}
use Rattle.wasm_lang_valid.specs.State.{Operand}
use Rattle.wasm_validate_bodies.specs.declared.frame.Frame.{Frame}
use Rattle.wasm_validate_bodies.specs.Blocks.{over, levels, Rise}

over_length : (h : ℕ) (items : List Operand) → length (over h items) ≡ length items - h
over_length h items = length-reverse (drop h items) ∙ length-drop h items

-- all those above the outermost block's height
pub standing_above : (fs : List Frame) (items : List Operand) (d : Frame) → Rise fs (length items) → 0 < length fs → standing (levels fs items) + (get_or fs (length fs - 1) d).height ≡ length items
standing_above [] items d rise h = absurd (omega (arith, h))
standing_above (f ∷ []) items d rise h = let e = over_length f.height items in omega (arith, e, rise.0)
standing_above (f ∷ g ∷ gs) items d rise h =
    let n : length (take f.height items) ≡ f.height = length-take f.height items ∙ omega (arith, rise.0) in
    let rest = standing_above (g ∷ gs) (take f.height items) d (subst (λ k. Rise (g ∷ gs) k) (sym n) rise.1) (omega arith) in
    let e = over_length f.height items in
    let last : suc (suc (length gs)) - 1 ≡ suc (suc (length gs) - 1) = omega arith in
    let at : get_or (f ∷ g ∷ gs) (length (f ∷ g ∷ gs) - 1) d ≡ get_or (g ∷ gs) (length (g ∷ gs) - 1) d = ap (λ n. get_or (f ∷ g ∷ gs) n d) last in
    rw at (omega (arith, rest, n, e, rise.0))

-- the frame of the outermost block stands first
pub standing_is : (frames : List Frame) (items : List Operand) (d : Frame) → Rise (reverse frames) (length items) → 0 < length frames → d ≡ get_or frames 0 d → standing (levels (reverse frames) items) + d.height ≡ length items
standing_is frames items d rise h is =
    let m : length (reverse frames) ≡ length frames = length-reverse frames in
    let lt : 0 < length (reverse frames) = omega (arith, m, h) in
    let a = standing_above (reverse frames) items d rise lt in
    let back : get_or (reverse frames) (length (reverse frames) - 1) d ≡ d = ap (λ n. get_or (reverse frames) (n - 1) d) m ∙ get_or-reverse frames (length frames - 1) d (omega (arith, h)) ∙ ap (λ n. get_or frames n d) (omega (arith, h)) ∙ sym is in
    subst (λ f. standing (levels (reverse frames) items) + f.height ≡ length items) back a
