-- Labels that stand open, from the outside of a statement to the inside.
use Rattle.std.proofs.Common.{◌≡◌, ◌⊎◌, inl, inr, ℕ, zero, suc, ◌<◌, Bool, true, false, List, [], ◌∷◌, ◌++◌, length, Option, Some, None, refl, ap, arith}
use Rattle.std.specs.Prelude.{if◌then◌else◌, ◌&&◌, ◌||◌, bytes_eq, replicate, slice_get}
use Rattle.std.proofs.lemmas.Bool.{or_cases, and_parts}
use Rattle.wasm_lang.specs.declared.types.ValType.{ValType}
use Rattle.wasm_lang_valid.specs.Typing.{Context, inside}
use Rattle.asm_lang_valid.specs.Scope.{is_in}
use Rattle.asm_lang_valid.specs.Typing as around
use Rattle.asm_lang_valid.specs.Typing.{Scope, Around, at_top, in_a_loop, in_a_switch, has_label, has_loop, labels_in}
use Rattle.asm2wasm_translation.specs.Bodies.{Label, plainly, breakable, named_end, is_turn_of, break_label, continue_label, in_body}
use Rattle.asm2wasm_laws_typed.specs.Opened.{open_labels, IsPlaced, Covers}
use Rattle.asm2wasm_laws_typed.proofs.TypedPieces.{inside_context}

pub open_at : (ls : List Label) (r : Option ValType) (i : ℕ) → i < length ls → slice_get (open_labels ls r) i ≡ Some None
open_at [] r i h = absurd (omega (arith, h))
open_at (l ∷ ls) r zero h = refl
open_at (l ∷ ls) r (suc i) h = open_at ls r i (omega (arith, h))

pub entered : {c : Scope} {room : ℕ} {ls : List Label} {w : Context} (l : Label) → IsPlaced c room ls w → IsPlaced c room (l ∷ ls) (inside None w)
entered l p = record { is_context = inside_context None p.is_context; labels = ap (λ ts. None ∷ ts) p.labels; returns = p.returns }

-- ---- what is round a statement

pub nothing_round : (own : List (List ℕ)) → Covers at_top [] own
nothing_round own = record { breakables = λ h. absurd (cc h); loops = λ h. absurd (cc h); ends = λ n h. absurd (cc h); turns = λ n h. absurd (cc h) }

-- with no labels of its own, also under others
none_own : (n : List ℕ) (ls : List Label) (own : List (List ℕ)) → (is_in n [] ≡ true) ⊎ (continue_label ls (Some n) < length ls) → (is_in n own ≡ true) ⊎ (continue_label ls (Some n) < length ls)
none_own n ls own (inl h) = absurd (cc h)
none_own n ls own (inr h) = inr h

pub widened : (a : Around) (ls : List Label) (own : List (List ℕ)) → Covers a ls [] → Covers a ls own
widened a ls own v = record { breakables = v.breakables; loops = v.loops; ends = v.ends; turns = λ n h. none_own n ls own (v.turns n h) }

one_more : (n : List ℕ) (ls : List Label) (l : Label) → is_turn_of n l ≡ false → (is_in n [] ≡ true) ⊎ (continue_label ls (Some n) < length ls)
    → (is_in n [] ≡ true) ⊎ (continue_label (l ∷ ls) (Some n) < length (l ∷ ls))
one_more n ls l e (inl h) = inl h
one_more n ls l e (inr h) = inr (omega (arith, h, ap (λ b. if b then 0 else suc (continue_label ls (Some n))) e))

pub in_choice : (a : Around) (ls : List Label) → Covers a ls [] → Covers a (plainly ∷ ls) []
in_choice a ls v = record {
  breakables = λ h. omega (arith, v.breakables h);
  loops = λ h. omega (arith, v.loops h);
  ends = λ n h. omega (arith, v.ends n h);
  turns = λ n h. one_more n ls plainly refl (v.turns n h);
}

pub in_switch : (a : Around) (ls : List Label) → Covers a ls [] → Covers (in_a_switch a) (breakable ∷ ls) []
in_switch a ls v = record {
  breakables = λ h. omega arith;
  loops = λ h. omega (arith, v.loops h);
  ends = λ n h. omega (arith, v.ends n h);
  turns = λ n h. one_more n ls breakable refl (v.turns n h);
}

pub in_clause : (a : Around) (k : ℕ) (ls : List Label) → Covers a ls [] → Covers a (replicate k plainly ++ ls) []
in_clause a zero ls v = v
in_clause a (suc k) ls v = in_choice a (replicate k plainly ++ ls) (in_clause a k ls v)

-- ---- loops

turn_inside : (n : List ℕ) (own : List (List ℕ)) (ls : List Label) → (is_in n own ≡ true) ⊎ (continue_label ls (Some n) < length ls)
    → (is_in n [] ≡ true) ⊎ (continue_label (in_body own ls) (Some n) < length (in_body own ls))
turn_inside n own ls h = inr (by (is_in n own) h)
  where
    by : (b : Bool) → (b ≡ true) ⊎ (continue_label ls (Some n) < length ls) → (if b then 0 else suc (suc (suc (continue_label ls (Some n))))) < suc (suc (suc (length ls)))
    by true h = omega arith
    by false (inl h) = absurd (cc h)
    by false (inr h) = omega (arith, h)

pub in_turns : (a : Around) (own : List (List ℕ)) (ls : List Label) → Covers a ls own → Covers (in_a_loop a) (in_body own ls) []
in_turns a own ls v = record {
  breakables = λ h. omega arith;
  loops = λ h. omega arith;
  ends = λ n h. omega (arith, v.ends n h);
  turns = λ n h. turn_inside n own ls (v.turns n h);
}

-- ---- labels

or_else : {A B C : Type 0} → (A → C) → (B → C) → A ⊎ B → C
or_else f g (inl x) = f x
or_else f g (inr x) = g x

label_found : (b : Bool) (ns : List (List ℕ)) (ls : List around.Label) (n : List ℕ) → has_label (labels_in b ns ls) n ≡ true → (is_in n ns ≡ true) ⊎ (has_label ls n ≡ true)
label_found b [] ls n h = inr h
label_found b (x ∷ xs) ls n h =
    or_else (λ i. inl (later (bytes_eq x n) (is_in n xs) i)) (λ i. or_else (λ j. inl (now (bytes_eq x n) (is_in n xs) j)) (λ j. inr j) (or_cases (bytes_eq x n) (has_label ls n) i))
    (label_found b xs (record { text = x; of_loop = b } ∷ ls) n h)
  where
    now : (p q : Bool) → p ≡ true → p || q ≡ true
    now true q h = refl
    now false q h = absurd (cc h)

    later : (p q : Bool) → q ≡ true → p || q ≡ true
    later true q h = refl
    later false q h = h

loop_found : (b : Bool) (ns : List (List ℕ)) (ls : List around.Label) (n : List ℕ) → has_loop (labels_in b ns ls) n ≡ true → (is_in n (if b then ns else []) ≡ true) ⊎ (has_loop ls n ≡ true)
loop_found true [] ls n h = inr h
loop_found false [] ls n h = inr h
loop_found true (x ∷ xs) ls n h =
    or_else (λ i. inl (later (bytes_eq x n) (is_in n xs) i)) (λ i. or_else (λ j. inl (now (bytes_eq x n) (is_in n xs) (and_parts (bytes_eq x n) true j).0)) (λ j. inr j) (or_cases (bytes_eq x n && true) (has_loop ls n) i))
    (loop_found true xs (record { text = x; of_loop = true } ∷ ls) n h)
  where
    now : (p q : Bool) → p ≡ true → p || q ≡ true
    now true q h = refl
    now false q h = absurd (cc h)

    later : (p q : Bool) → q ≡ true → p || q ≡ true
    later true q h = refl
    later false q h = h
loop_found false (x ∷ xs) ls n h =
    or_else (λ i. inl i) (λ i. or_else (λ j. absurd (cc (and_parts (bytes_eq x n) false j).1)) (λ j. inr j) (or_cases (bytes_eq x n && false) (has_loop ls n) i))
    (loop_found false xs (record { text = x; of_loop = false } ∷ ls) n h)

end_inside : (n : List ℕ) (ns : List (List ℕ)) (ls : List Label) → (is_in n ns ≡ true) ⊎ (break_label ls (Some n) < length ls) → break_label (named_end ns ∷ ls) (Some n) < length (named_end ns ∷ ls)
end_inside n ns ls h = by (is_in n ns) h
  where
    by : (b : Bool) → (b ≡ true) ⊎ (break_label ls (Some n) < length ls) → (if b then 0 else suc (break_label ls (Some n))) < suc (length ls)
    by true h = omega arith
    by false (inl h) = absurd (cc h)
    by false (inr h) = omega (arith, h)

named_turn : (n : List ℕ) (ls : List Label) (ns own : List (List ℕ)) → (is_in n [] ≡ true) ⊎ (continue_label ls (Some n) < length ls)
    → (is_in n own ≡ true) ⊎ (continue_label (named_end ns ∷ ls) (Some n) < length (named_end ns ∷ ls))
named_turn n ls ns own (inl h) = absurd (cc h)
named_turn n ls ns own (inr h) = inr (omega (arith, h))

-- b: whether the labels are those of a loop
pub under : (b : Bool) (a : Around) (ns : List (List ℕ)) (ls : List Label) → Covers a ls []
    → Covers (record { in_breakable = a.in_breakable; in_loop = a.in_loop; labels = labels_in b ns a.labels }) (named_end ns ∷ ls) (if b then ns else [])
under b a ns ls v = record {
  breakables = λ h. omega (arith, v.breakables h);
  loops = λ h. omega (arith, v.loops h);
  ends = λ n h. end_inside n ns ls (or_else (λ i. inl i) (λ i. inr (v.ends n i)) (label_found b ns a.labels n h));
  turns = λ n h. or_else (λ i. inl i) (λ i. named_turn n ls ns (if b then ns else []) (v.turns n i)) (loop_found b ns a.labels n h);
}
