-- Numbers of functions, after the imported ones, and of foreign variables have 32 bits.
use Rattle.std.proofs.Common.{◌≡◌, ℕ, zero, suc, ◌+◌, ◌^◌, ◌≤◌, ◌<◌, Bool, true, false, List, [], ◌∷◌, ◌++◌, length, map, All, get_or, Option, Some, None, refl, sym, subst, arith}
use Rattle.std.specs.Prelude.{option_map, if◌then◌else◌}
use Rattle.std.specs.Str.{bytes_eq}
use Rattle.std.proofs.lemmas.List.{get_or-map, length-map}
use Rattle.std.proofs.lemmas.List.Elements.{All-map}
use Rattle.asm_lang.specs.Modules.{Function, Table, Export, Exports, one, many, Module}
use Rattle.asm_lang_valid.specs.Refusal as text
use Rattle.asm_lang_valid.specs.Refusal.{function_number, exported, exported_from}
use Rattle.asm_validate_facts.specs.declared.exports.ExportOf.{ExportOf}
use Rattle.asm_validate_facts.specs.Numbers.{export_said}
use Rattle.asm2wasm_lang.specs.Tables.{members_of, entries_from}
use Rattle.asm2wasm_translation.specs.Numbers.{slot_of}

pub lower : {a b c : ℕ} → a < b → b < c → a < c
lower h k = omega arith

-- ---- places of names

below_more : (b : Bool) (o : Option ℕ) (n i : ℕ) → ((j : ℕ) → o ≡ Some j → j < n) → (if b then Some 0 else option_map (λ i. suc i) o) ≡ Some i → i < suc n
below_more true o n i h e = let z : 0 ≡ i = cc in omega arith
below_more false None n i h e = absurd cc
below_more false (Some j) n i h e = let z : suc j ≡ i = cc in let k = h j refl in omega arith

pub slot_below : (xs : List (List ℕ)) (n : List ℕ) (i : ℕ) → slot_of xs n ≡ Some i → i < length xs
slot_below [] n i e = absurd cc
slot_below (x ∷ xs) n i e = below_more (bytes_eq x n) (slot_of xs n) (length xs) i (λ j. slot_below xs n j) e

-- ---- numbers of functions

counted : (b : Bool) (i n : ℕ) → i ≤ n → (if b then 0 else suc i) ≤ suc n
counted true i n h = omega arith
counted false i n h = omega arith

pub number_most : (fs : List Function) (n : List ℕ) → function_number fs n ≤ length fs
number_most [] n = omega arith
number_most (f ∷ fs) n = counted (bytes_eq f.name n) (function_number fs n) (length fs) (number_most fs n)

abbrev IsSmall : ℕ → ℕ → Type 0
IsSmall imported i = imported + i < 2 ^ 32

all_numbers : (m : Module) (imported : ℕ) (names : List (List ℕ)) → imported + length m.functions < 2 ^ 32 → All (IsSmall imported) (map (function_number m.functions) names)
all_numbers m imported names h =
    All-map (IsSmall imported) (function_number m.functions) names (λ k d lt. let most = number_most m.functions (get_or names k d) in omega arith)

both : {X : Type 0} (P : X → Type 0) (xs ys : List X) → All P xs → All P ys → All P (xs ++ ys)
both P [] ys h k i d lt = k i d lt
both P (x ∷ xs) ys h k zero d lt = h zero d (omega arith)
both P (x ∷ xs) ys h k (suc i) d lt = both P xs ys (λ j e b. h (suc j) e (omega arith)) k i d (omega arith)

pub entries_small : (m : Module) (ts : List Table) (imported : ℕ) → imported + length m.functions < 2 ^ 32 → All (IsSmall imported) (entries_from m ts)
entries_small m [] imported h k d lt = absurd (omega arith)
entries_small m (t ∷ ts) imported h k d lt = both (IsSmall imported) (members_of m t) (entries_from m ts) (all_numbers m imported t.members h) (entries_small m ts imported h) k d lt

-- ---- exports

all_exported : (m : Module) (imported : ℕ) (es : Exports) → imported + length m.functions < 2 ^ 32 → All (λ (e : text.Exported). IsSmall imported e.function) (exported_from m es)
all_exported m imported (one f) h zero d lt = let most = number_most m.functions f in omega arith
all_exported m imported (one f) h (suc k) d lt = absurd (omega arith)
all_exported m imported (many es) h k d lt =
    All-map (λ (e : text.Exported). IsSmall imported e.function) (λ (e : Export). exported m e.key e.function) es
    (λ k d lt. let most = number_most m.functions (get_or es k d).function in omega arith) k d lt

unmapped : {X Y : Type 0} (P : Y → Type 0) (f : X → Y) (xs : List X) → All P (map f xs) → All (λ x. P (f x)) xs
unmapped P f xs all k d lt = subst P (get_or-map f xs k d (f d) lt) (all k (f d) (subst (λ n. k < n) (sym (length-map xs f)) lt))

pub exports_small : (m : Module) (imported : ℕ) (es : Exports) (xs : List ExportOf) → map export_said xs ≡ exported_from m es → imported + length m.functions < 2 ^ 32
    → All (λ (x : ExportOf). imported + x.function < 2 ^ 32) xs
exports_small m imported es xs e h =
    unmapped (λ (y : text.Exported). IsSmall imported y.function) export_said xs (subst (λ ys. All (λ (y : text.Exported). IsSmall imported y.function) ys) (sym e) (all_exported m imported es h))
