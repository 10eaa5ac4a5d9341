-- Bodies that are written as soon as they are moved.
use Rattle.std.proofs.Common.{◌≡◌, ℕ, suc, ◌+◌, ◌<◌, Bool, false, true, List, [], ◌∷◌, ◌++◌, length, map, drop, get_or, refl, sym, ap, ◌∙◌, arith, append_assoc, length-append, Option, Some, None}
use Rattle.std.proofs.lemmas.List.{length-map}
use Rattle.sem_words.specs.Lists.{list_items}
use Rattle.wasm_lang.specs.Modules.{FunctionBody, WasmModule}
use Rattle.wasm_tree.specs.declared.module.Body.{Body}
use Rattle.wasm_tree.specs.declared.module.Module.{Module}
use Rattle.wasm_tree.specs.Views.{body_of, module_of}
use Rattle.wasm_binary_write.specs.Spelling.{items, sized, body}
use Rattle.wasm_link_lang.specs.Pairs.{Pair}
use Rattle.wasm_link_lang.specs.Reductions.{entries}
use Rattle.wasm_link_sections.specs.Made.{body_made, bodies_made, start_bodies_made, module_made}
use Rattle.wasm_link_sections.proofs.Loops.{one_and_rest}

-- ---- one body more

-- what is written so far, and what the rest becomes, are all, also after one body more
pub side_step : (w : Pair) (second : Bool) (m : WasmModule) (other : ℕ) (list : List Body) (i : ℕ) (b : Body) (all before now : List ℕ)
    → i < length list → b ≡ get_or list i b → now ≡ before ++ sized (body (body_made w second m other i (body_of b)))
    → all ≡ before ++ items (λ c. sized (body c)) (bodies_made w second m other i (map body_of (drop i list)))
    → all ≡ now ++ items (λ c. sized (body c)) (bodies_made w second m other (i + 1) (map body_of (drop (i + 1) list)))
side_step w second m other list i b all before now h is one inv =
    let rest = map body_of (drop (i + 1) list) in
    let next : suc i ≡ i + 1 = omega arith in
    let first = sized (body (body_made w second m other i (body_of b))) in
    inv ∙ ap (λ l. before ++ items (λ c. sized (body c)) (bodies_made w second m other i (map body_of l))) (one_and_rest list i b h is)
    ∙ sym (append_assoc before first (items (λ c. sized (body c)) (bodies_made w second m other (suc i) rest)))
    ∙ ap (λ n. (before ++ first) ++ items (λ c. sized (body c)) (bodies_made w second m other n rest)) next
    ∙ ap (λ l. l ++ items (λ c. sized (body c)) (bodies_made w second m other (i + 1) rest)) (sym one)

-- ---- how many

bodies_length : (w : Pair) (second : Bool) (m : WasmModule) (other i : ℕ) (bs : List FunctionBody) → length (bodies_made w second m other i bs) ≡ length bs
bodies_length w second m other i [] = refl
bodies_length w second m other i (b ∷ bs) = ap suc (bodies_length w second m other (suc i) bs)

-- where so many of one function more are made
pub bodies_counted : (w : Pair) (n more : ℕ) → n ≡ length w.first.bodies + length w.second.bodies → length (start_bodies_made w w.first.start w.second.start) ≡ more → n + more ≡ length (module_made w).bodies
bodies_counted w n more both last =
    let one = bodies_made w false w.first (entries w.second) 0 w.first.bodies in
    let two = bodies_made w true w.second (entries w.first) 0 w.second.bodies in
    let end = start_bodies_made w w.first.start w.second.start in
    let all : length (one ++ (two ++ end)) ≡ length one + length (two ++ end) = length-append one (two ++ end) in
    let behind : length (two ++ end) ≡ length two + length end = length-append two end in
    let first : length one ≡ length w.first.bodies = bodies_length w false w.first (entries w.second) 0 w.first.bodies in
    let second : length two ≡ length w.second.bodies = bodies_length w true w.second (entries w.first) 0 w.second.bodies in
    omega (arith, all, behind, first, second, both, last)

pub one_more : (w : Pair) (a b : Option ℕ) (x y : ℕ) → a ≡ Some x → b ≡ Some y → length (start_bodies_made w a b) ≡ 1
one_more w a b x y first second = ap (λ c. length (start_bodies_made w c b)) first ∙ ap (λ c. length (start_bodies_made w (Some x) c)) second

pub none_by_first : (w : Pair) (a b : Option ℕ) → a ≡ None → length (start_bodies_made w a b) ≡ 0
none_by_first w a b first = ap (λ c. length (start_bodies_made w c b)) first

pub none_by_second : (w : Pair) (a b : Option ℕ) (x : ℕ) → a ≡ Some x → b ≡ None → length (start_bodies_made w a b) ≡ 0
none_by_second w a b x first second = ap (λ c. length (start_bodies_made w c b)) first ∙ ap (λ c. length (start_bodies_made w (Some x) c)) second

pub counted_of : (m : Module) (n : ℕ) (own : WasmModule) → n ≡ length (list_items m.bodies) → module_of m ≡ own → n ≡ length own.bodies
counted_of m n own count is = count ∙ sym (length-map (list_items m.bodies) body_of) ∙ ap (λ (o : WasmModule). length o.bodies) is

-- .. where none is made
pub bodies_alone : (w : Pair) (n : ℕ) → n ≡ length w.first.bodies + length w.second.bodies → length (start_bodies_made w w.first.start w.second.start) ≡ 0 → n ≡ length (module_made w).bodies
bodies_alone w n both last = let same : n ≡ n + 0 = omega arith in same ∙ bodies_counted w n 0 both last
