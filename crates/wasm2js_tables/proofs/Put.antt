-- Entries of a table, and functions that are put into them one after another.
use Rattle.std.proofs.Common.{◌≡◌, ℕ, ◌+◌, ◌-◌, ◌<◌, ◌≤◌, List, [], ◌∷◌, ◌++◌, length, get_or, set, map, take, drop, Option, Some, sym, ap, ◌∙◌, arith, append_assoc, length-append, length-take}
use Rattle.std.specs.Prelude.{slice_get}
use Rattle.std.proofs.lemmas.List.{take-append-drop, drop_more, set-append_right, map-append, length-map}
use Rattle.std.proofs.Math.Seq.{set-append_seam}
use Rattle.wasm_tree.specs.declared.module.Element.{Element}
use Rattle.wasm_tree.specs.Views.{element_of}
use Rattle.wasm_lang_valid.proofs.Main.{one_longer}
use Rattle.wasm_lang_valid.specs.Profile.{constant_offset, or_zero}
use Rattle.wasm_lang_exec.specs.Session.{replaced}
use Rattle.wasm2js_lang.specs.Tables.{with_elements}

-- nothing is put
pub none_put : {A : Type 0} (at : ℕ) (old : List A) → replaced at [] old ≡ old
none_put at old = let e : at + 0 ≡ at = omega arith in ap (λ k. take at old ++ drop k old) e ∙ take-append-drop at old

-- one more value
set_more : {A : Type 0} (at : ℕ) (new old : List A) (x : A) → at + length new < length old → set (replaced at new old) (at + length new) x ≡ replaced at (new ++ x ∷ []) old
set_more at new old x h =
    let k = at + length new in
    let long : length (take at old) ≡ at = let m = length-take at old in omega (arith, m, h) in
    let here : k - at ≡ length new = omega arith in
    let next : at + length (new ++ x ∷ []) ≡ k + 1 = let l = length-append new (x ∷ []) in omega (arith, l) in
    set-append_right (take at old) (new ++ drop k old) at k x long (omega arith)
    ∙ ap (λ i. take at old ++ set (new ++ drop k old) i x) here
    ∙ ap (λ xs. take at old ++ set (new ++ xs) (length new) x) (drop_more old k x h)
    ∙ ap (λ xs. take at old ++ xs) (set-append_seam new (get_or old k x) (drop (k + 1) old) x)
    ∙ sym (ap (λ i. take at old ++ ((new ++ x ∷ []) ++ drop i old)) next ∙ ap (λ xs. take at old ++ xs) (append_assoc new (x ∷ []) (drop (k + 1) old)))

pub one_put : (at i : ℕ) (fs : List ℕ) (f : ℕ) (old items : List (Option ℕ)) → slice_get fs i ≡ Some f → i < length fs → at + length fs ≤ length old
    → items ≡ replaced at (map Some (take i fs)) old → set items (at + i) (Some f) ≡ replaced at (map Some (take (i + 1) fs)) old
one_put at i fs f old items stands low room e =
    let so_far = map Some (take i fs) in
    let short : length (take i fs) ≡ i = let m = length-take i fs in omega (arith, m, low) in
    let long : length so_far ≡ i = length-map (take i fs) Some ∙ short in
    let fits : at + length so_far < length old = omega (arith, low, room, long) in
    ap (λ xs. set xs (at + i) (Some f)) e
    ∙ ap (λ k. set (replaced at so_far old) (at + k) (Some f)) (sym long)
    ∙ set_more at so_far old (Some f) fits
    ∙ ap (λ xs. replaced at xs old) (sym (ap (map Some) (one_longer fs i f stands) ∙ map-append Some (take i fs) (f ∷ [])))

-- ---- elements, one after another

pub fits : (o p : ℕ) (fs gs : List ℕ) (room long : ℕ) → o ≡ p → fs ≡ gs → p + length gs ≤ room → long ≡ room → o + length fs ≤ long
fits o p fs gs room long e f h l = let m : length fs ≡ length gs = ap length f in omega (arith, e, m, h, l)

pub put_next : (es : List Element) (i : ℕ) (el : Element) (o : ℕ) (fs : List ℕ) (entries new : List (Option ℕ)) → el ≡ get_or es i el → i < length es
    → o ≡ or_zero (constant_offset (element_of el).offset) → fs ≡ (element_of el).functions → new ≡ replaced o (map Some fs) entries
    → with_elements (map element_of (drop i es)) entries ≡ with_elements (map element_of (drop (i + 1) es)) new
put_next es i el o fs entries new is h oe fe e =
    let rest = map element_of (drop (i + 1) es) in
    ap (λ l. with_elements (map element_of l) entries) (drop_more es i el h)
    ∙ ap (λ x. with_elements (element_of x ∷ rest) entries) (sym is)
    ∙ ap (with_elements rest) (sym (e ∙ ap (λ o. replaced o (map Some fs) entries) oe ∙ ap (λ fs. replaced (or_zero (constant_offset (element_of el).offset)) (map Some fs) entries) fe))
