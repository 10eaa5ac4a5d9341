-- Which numbers are left out for the variables of a function, one use after another.
use Rattle.std.proofs.Common.{◌≡◌, ℕ, ◌+◌, ◌<◌, Bool, true, false, cond, ◌&&◌, ◌||◌, List, [], ◌∷◌, ◌++◌, map, length, get_or, take, Option, Some, None, refl, sym, ap, ◌∙◌}
use Rattle.std.proofs.lemmas.List.{take_more, map-append}
use Rattle.std.proofs.lemmas.List.Elements.{filter_map-append}
use Rattle.std.specs.Borrow.{Bor}
use Rattle.std.specs.List.{cons_option}
use Rattle.std.specs.Prelude.{◌==◌, bytes_eq, filter_map, option_map}
use Rattle.asm_lang_valid.specs.Scope.{is_in}
use Rattle.asm_short_lang.specs.Sequence.{numbered}
use Rattle.asm_short_lang.specs.Uses.{name_of}
use Rattle.asm_short_names.proofs.Words.{same_number}
use Rattle.asm_short_names.proofs.Lists.{in_either}
use Rattle.asm_short_uses.specs.declared.naming.Use.{Use as CodeUse}
use Rattle.asm_short_uses.specs.Views.{use_view, uses_view}
use Rattle.asm_short_tree.specs.declared.names.NewName.TheVariants.{Numbered, Kept}
use Rattle.asm_short_tree.specs.Looking.{new_name, names_in}
use Rattle.asm_short_modules.specs.Using.{is_named}

-- ---- one new name more

pub none_added : (a : Bool) → a ≡ (a || false)
none_added true = refl
none_added false = refl

kept_table : (h k b : Bool) → (h || (true && b)) ≡ ((h || (k && b)) || b)
kept_table true k b = refl
kept_table false true true = refl
kept_table false true false = refl
kept_table false false true = refl
kept_table false false false = refl

pub kept_added : (h k : Bool) (kept : List ℕ) (n : ℕ) → (h || (true && bytes_eq kept (numbered n))) ≡ ((h || (k && bytes_eq kept (numbered n))) || is_named n (option_map (new_name kept) (Some Kept)))
kept_added h k kept n = kept_table h k (bytes_eq kept (numbered n))

number_table : (b h k : Bool) → (cond b true h || k) ≡ ((h || k) || b)
number_table true true true = refl
number_table true true false = refl
number_table true false true = refl
number_table true false false = refl
number_table false true k = refl
number_table false false true = refl
number_table false false false = refl

pub number_added : (new old k : Bool) (kept : List ℕ) (m n : ℕ) → new ≡ cond (m == n) true old → (new || k) ≡ ((old || k) || is_named n (option_map (new_name kept) (Some (Numbered m))))
number_added new old k kept m n e = ap (λ h. h || k) e ∙ number_table (m == n) old k ∙ ap (λ b. (old || k) || b) (sym (same_number m n))

-- ---- one use more

abbrev pub names_of : List CodeUse → List (List ℕ)
names_of us = map name_of (uses_view us)

one_name : (n : ℕ) (o : Option (List ℕ)) (F : List ℕ → Option (List ℕ)) (x : List ℕ) → F x ≡ o → is_in (numbered n) (filter_map F (x ∷ [])) ≡ is_named n o
one_name n None F x e = ap (λ p. is_in (numbered n) (cons_option p [])) e
one_name n (Some w) F x e = ap (λ p. is_in (numbered n) (cons_option p [])) e ∙ sym (none_added (bytes_eq w (numbered n)))

names_more : (uses : List CodeUse) (i : ℕ) (u : CodeUse) → i < length uses → u ≡ get_or uses i u → names_of (take (i + 1) uses) ≡ names_of (take i uses) ++ name_of (use_view u) ∷ []
names_more uses i u low is =
    ap names_of (take_more uses i u low ∙ ap (λ v. take i uses ++ v ∷ []) (sym is)) ∙ ap (map name_of) (map-append use_view (take i uses) (u ∷ [])) ∙ map-append name_of (uses_view (take i uses)) (use_view u ∷ [])

pub one_use : (F : List ℕ → Option (List ℕ)) (uses : List CodeUse) (i : ℕ) (u : CodeUse) (n : ℕ) (before after : Bool) (o : Option (List ℕ)) → i < length uses → u ≡ get_or uses i u
    → before ≡ is_in (numbered n) (filter_map F (names_of (take i uses))) → after ≡ (before || is_named n o) → o ≡ F (name_of (use_view u)) → after ≡ is_in (numbered n) (filter_map F (names_of (take (i + 1) uses)))
one_use F uses i u n before after o low is had added new =
    let x = name_of (use_view u) in
    added ∙ (λ k. had k || is_named n (new k)) ∙ ap (λ b. is_in (numbered n) (filter_map F (names_of (take i uses))) || b) (sym (one_name n (F x) F x refl))
    ∙ sym (ap (λ l. is_in (numbered n) (filter_map F l)) (names_more uses i u low is) ∙ ap (is_in (numbered n)) (filter_map-append F (names_of (take i uses)) (x ∷ [])) ∙ in_either (numbered n) (filter_map F (names_of (take i uses))) (filter_map F (x ∷ [])))

-- ---- one name more in a set

set_table : (b h : Bool) → cond b true h ≡ (h || b)
set_table true true = refl
set_table true false = refl
set_table false true = refl
set_table false false = refl

pub one_in_set : (names : List (Bor (List ℕ))) (i : ℕ) (b : Bor (List ℕ)) (key n : List ℕ) (new old : Bool) → i < length names → b ≡ get_or names i b → key ≡ b.now → new ≡ cond (bytes_eq key n) true old
    → old ≡ is_in n (names_in (take i names)) → new ≡ is_in n (names_in (take (i + 1) names))
one_in_set names i b key n new old low is same added had =
    added ∙ set_table (bytes_eq key n) old ∙ (λ k. had k || bytes_eq (same k) n) ∙ ap (λ c. is_in n (names_in (take i names)) || c) (none_added (bytes_eq b.now n))
    ∙ sym (ap (λ l. is_in n (names_in l)) (take_more names i b low ∙ ap (λ c. take i names ++ c ∷ []) (sym is)) ∙ ap (is_in n) (map-append (λ (c : Bor (List ℕ)). c.now) (take i names) (b ∷ [])) ∙ in_either n (names_in (take i names)) (b.now ∷ []))
