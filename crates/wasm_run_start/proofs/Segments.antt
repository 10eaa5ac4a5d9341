-- Segments that are tested and then copied, one after the other.
use Rattle.std.proofs.Common.{◌≡◌, ℕ, ◌+◌, ◌-◌, ◌<◌, ◌≤◌, Bool, true, false, List, [], ◌∷◌, ◌++◌, length, map, take, drop, get_or, set, Some, refl, sym, ap, ◌∙◌, arith, leb-true}
use Rattle.std.proofs.lemmas.List.{length-append, length-take, length-drop, length-map, take_more, take_more_set, map-append, drop_more}
use Rattle.std.specs.Prelude.{◌&&◌, Option}
use Rattle.sem_words.specs.declared.word.Word.{Word}
use Rattle.wasm_lang.specs.Modules.{ElementSegment}
use Rattle.wasm_lang_exec.specs.Store.{Store}
use Rattle.wasm_lang_exec.specs.Session.{replaced, offset_of, entries_fit, with_entries}
use Rattle.wasm_run_start.specs.Fitting.{entry_fits}

and_left : (a b : Bool) → a && b ≡ true → a ≡ true
and_left true b h = refl
and_left false b h = cc h

and_right : (a b : Bool) → a && b ≡ true → b ≡ true
and_right true b h = h
and_right false b h = cc h

-- the next of the items that are left
pub next_of : {X : Type 0} → (xs : List X) (i : ℕ) (x : X) → i < length xs → x ≡ get_or xs i x → drop i xs ≡ x ∷ drop (i + 1) xs
next_of xs i x inside is = drop_more xs i x inside ∙ ap (λ y. y ∷ drop (i + 1) xs) (sym is)

-- ---- the tests

abbrev all_fit : List Word → ℕ → List ElementSegment → Bool
all_fit globals table [] = true
all_fit globals table (e ∷ es) = entry_fits globals table e && all_fit globals table es

-- they rest on the globals and the table's length alone
fit_by : (s : Store) (es : List ElementSegment) → entries_fit s es ≡ all_fit s.globals (length s.table) es
fit_by s [] = refl
fit_by s (e ∷ es) = ap (λ b. entry_fits s.globals (length s.table) e && b) (fit_by s es)

pub first_fits : (s : Store) (e : ElementSegment) (es : List ElementSegment) → entries_fit s (e ∷ es) ≡ true → entry_fits s.globals (length s.table) e ≡ true
first_fits s e es h = and_left (entry_fits s.globals (length s.table) e) (entries_fit s es) h

length_replaced : {A : Type 0} (at : ℕ) (new old : List A) → at + length new ≤ length old → length (replaced at new old) ≡ length old
length_replaced at new old h =
    let rest : length (drop (at + length new) old) ≡ length old - (at + length new) = length-drop (at + length new) old in
    let front : length (take at old) ≡ at = grind (arith, length-take) in
    let parts : length (replaced at new old) ≡ length (take at old) + (length new + length (drop (at + length new) old)) =
    length-append (take at old) (new ++ drop (at + length new) old) ∙ ap (λ n. length (take at old) + n) (length-append new (drop (at + length new) old)) in
    omega (arith, rest, front, parts)

pub others_fit : (s : Store) (e : ElementSegment) (es : List ElementSegment) → entries_fit s (e ∷ es) ≡ true → entries_fit (with_entries (e ∷ []) s) es ≡ true
others_fit s e es h =
    let t = with_entries (e ∷ []) s in
    let within : offset_of s e.offset + length e.functions ≤ length s.table = leb-true (offset_of s e.offset + length e.functions) (length s.table) (first_fits s e es h) in
    let size : length (map Some e.functions) ≡ length e.functions = length-map e.functions Some in
    let same : length t.table ≡ length s.table = length_replaced (offset_of s e.offset) (map Some e.functions) s.table (omega (arith, within, size)) in
    fit_by t es ∙ ap (λ n. all_fit s.globals n es) same ∙ sym (fit_by s es) ∙ and_right (entry_fits s.globals (length s.table) e) (entries_fit s es) h

-- ---- the copies

-- one entry more
pub one_more_entry : (entries : List (Option ℕ)) (functions : List ℕ) (k f : ℕ) → k < length entries → length entries ≡ length functions → f ≡ get_or functions k f
    → take k entries ≡ map Some (take k functions) → take (k + 1) (set entries k (Some f)) ≡ map Some (take (k + 1) functions)
one_more_entry entries functions k f inside same is before =
    let there : k < length functions = omega (arith, inside, same) in
    take_more_set entries k (Some f) inside ∙ ap (λ l. l ++ Some f ∷ []) before ∙ ap (λ x. map Some (take k functions) ++ Some x ∷ []) is
    ∙ sym (map-append Some (take k functions) (get_or functions k f ∷ [])) ∙ ap (map Some) (sym (take_more functions k f there))
