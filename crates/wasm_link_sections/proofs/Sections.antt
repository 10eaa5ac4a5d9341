-- Sections that are written item by item.
use Rattle.std.proofs.Common.{◌≡◌, ℕ, ◌==◌, false, List, [], ◌∷◌, ◌++◌, length, take, drop, refl, sym, ap, subst, ◌∙◌, append_assoc}
use Rattle.std.proofs.lemmas.Bool.{ne_eqb}
use Rattle.wasm_lang.specs.Grammar.{header}
use Rattle.wasm_lang.specs.Modules.{WasmModule}
use Rattle.wasm_binary_write.specs.Spelling.{spelling, section, start_section, function_type, imported, unsigned, table, limits, global, exported, element, sized, body, segment, items}
use Rattle.wasm_binary_write.proofs.Spelled.{part}
use Rattle.wasm_binary_write.proofs.Turned.{section_put}
use Rattle.wasm_link_sections.specs.Made.{front}

-- ---- one section

pub items_both : {X : Type 0} (f : X → List ℕ) (xs ys : List X) → items f (xs ++ ys) ≡ items f xs ++ items f ys
items_both f [] ys = refl
items_both f (x ∷ xs) ys = ap (λ l. f x ++ l) (items_both f xs ys) ∙ sym (append_assoc (f x) (items f xs) (items f ys))

unlike_zero : (n : ℕ) → (n ≡ 0 → ⊥) → (n == 0) ≡ false
unlike_zero n h = ne_eqb n 0 h

pub all_put : {X : Type 0} (id n : ℕ) (f : X → List ℕ) (xs : List X) (was opened counted written now : List ℕ) (start : ℕ) → n ≡ length xs → (n ≡ 0 → ⊥)
    → opened ≡ was ++ id ∷ [] → start ≡ length opened → counted ≡ opened ++ unsigned n → written ≡ counted ++ items f xs → now ≡ take start written ++ sized (drop start written) → now ≡ was ++ section id f xs
all_put id n f xs was opened counted written now start count some begun begins number all is =
    section_put id f xs was opened written now start (subst (λ m. (m == 0) ≡ false) count (unlike_zero n some)) begun begins
    (all ∙ ap (λ l. l ++ items f xs) number ∙ append_assoc opened (unsigned n) (items f xs) ∙ ap (λ m. opened ++ (unsigned m ++ items f xs)) count) is

-- one part behind another
pub both_pushed : {X : Type 0} (f : X → List ℕ) (xs ys : List X) (was half now : List ℕ) → half ≡ was ++ items f xs → now ≡ half ++ items f ys → now ≡ was ++ items f (xs ++ ys)
both_pushed f xs ys was half now first second = second ∙ ap (λ l. l ++ items f ys) first ∙ append_assoc was (items f xs) (items f ys) ∙ ap (λ l. was ++ l) (sym (items_both f xs ys))

-- ---- all sections

pub behind : (xs ys zs back : List ℕ) → ys ++ back ≡ zs → (xs ++ ys) ++ back ≡ xs ++ zs
behind xs ys zs back is = append_assoc xs ys back ∙ ap (λ l. xs ++ l) is

pub whole : (m : WasmModule) (o0 o1 o2 o3 o4 o5 : List ℕ)
    → o0 ≡ spelling (front m)
    → o1 ≡ o0 ++ section 7 exported m.exports
    → o2 ≡ o1 ++ start_section m.start
    → o3 ≡ o2 ++ section 9 element m.elements
    → o4 ≡ o3 ++ section 10 (λ b. sized (body b)) m.bodies
    → o5 ≡ o4 ++ section 11 segment m.segments
    → o5 ≡ spelling m
unfolding spelling
whole m o0 o1 o2 o3 o4 o5 e0 e7 e8 e9 e10 e11 =
    let t1 = section 1 function_type m.types in
    let t2 = section 2 imported m.imports in
    let t3 = section 3 unsigned m.functions in
    let t4 = section 4 table m.tables in
    let t5 = section 5 limits m.memories in
    let t6 = section 6 global m.globals in
    let t7 = section 7 exported m.exports in
    let t8 = start_section m.start in
    let t9 = section 9 element m.elements in
    let t10 = section 10 (λ b. sized (body b)) m.bodies in
    let t11 = section 11 segment m.segments in
    let back = t7 ++ (t8 ++ (t9 ++ (t10 ++ t11))) in
    e11
    ∙ part o3 o4 t10 t10 t11 e10 refl
    ∙ part o2 o3 t9 t9 (t10 ++ t11) e9 refl
    ∙ part o1 o2 t8 t8 (t9 ++ (t10 ++ t11)) e8 refl
    ∙ part o0 o1 t7 t7 (t8 ++ (t9 ++ (t10 ++ t11))) e7 refl
    ∙ ap (λ l. l ++ back) e0
    ∙ behind header (t1 ++ (t2 ++ (t3 ++ (t4 ++ (t5 ++ (t6 ++ [])))))) (t1 ++ (t2 ++ (t3 ++ (t4 ++ (t5 ++ (t6 ++ back)))))) back
    (behind t1 (t2 ++ (t3 ++ (t4 ++ (t5 ++ (t6 ++ []))))) (t2 ++ (t3 ++ (t4 ++ (t5 ++ (t6 ++ back))))) back
    (behind t2 (t3 ++ (t4 ++ (t5 ++ (t6 ++ [])))) (t3 ++ (t4 ++ (t5 ++ (t6 ++ back)))) back
    (behind t3 (t4 ++ (t5 ++ (t6 ++ []))) (t4 ++ (t5 ++ (t6 ++ back))) back
    (behind t4 (t5 ++ (t6 ++ [])) (t5 ++ (t6 ++ back)) back
    (behind t5 (t6 ++ []) (t6 ++ back) back
    (behind t6 [] back back refl))))))
