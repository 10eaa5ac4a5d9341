-- Marks without some that say nothing, and what is found among them.
use Rattle.std.proofs.Common.{◌≡◌, ℕ, Bool, true, false, cond, not, List, [], ◌∷◌, ◌++◌, Option, Some, refl, sym, ap, ◌∙◌, subst}
use Rattle.std.specs.Prelude.{flat_map}
use Rattle.std.proofs.lemmas.List.Sums.{take_while-cons}
use Rattle.wat_lang.specs.declared.parts.Space.{Space}
use Rattle.wat_lang.specs.declared.parts.Part.{Part}
use Rattle.wat_lang.specs.Tokens.{Token}
use Rattle.wat_lang.specs.Grammar.{Mark, nothing, Marked, marked}
use Rattle.wat_lang.specs.Names.{Names, all_with, first_with, described, described_by, id_after, written_ids, types_part, labels_after}
use Rattle.wat_lang.specs.Modules.{is_instruction, immediates_in}
use Rattle.wat_lang.specs.Rows.{use_rows}
use Rattle.wat_laws_kept.specs.Kept.{says_something, kept}

-- the first marks are the others without some that say nothing
pub data Drops : List Marked → List Marked → Type 0 where
  none : Drops [] []
  keeps : {ks ms : List Marked} → (m : Marked) → Drops ks ms → Drops (m ∷ ks) (m ∷ ms)
  drops : {ks ms : List Marked} → (t : Token) → Drops ks ms → Drops ks (marked nothing t ∷ ms)

pub kept_drops : (ms : List Marked) → Drops (kept ms) ms
kept_drops [] = none
kept_drops (m ∷ ms) = by (kept_drops ms) m.mark
  where
    by : Drops (kept ms) ms → (k : Mark) → Drops (cond (says_something k) (marked k m.token ∷ kept ms) (kept ms)) (marked k m.token ∷ ms)
    by below nothing = drops m.token below
    by below k = keeps (marked k m.token) below

-- ---- what is found

pub same_all : (test : Mark → Bool) → test nothing ≡ false → {ks ms : List Marked} → Drops ks ms → all_with test ks ≡ all_with test ms
same_all test e none = refl
same_all test e (keeps {ks = ks} {ms = ms} m d) = ap (λ (xs : List Marked). cond (test m.mark) (m ∷ xs) xs) (same_all test e d)
same_all test e (drops {ks = ks} {ms = ms} t d) = same_all test e d ∙ ap (λ (b : Bool). cond b (marked nothing t ∷ all_with test ms) (all_with test ms)) (sym e)

pub same_first : (test : Mark → Bool) → test nothing ≡ false → {ks ms : List Marked} → Drops ks ms → first_with test ks ≡ first_with test ms
same_first test e none = refl
same_first test e (keeps {ks = ks} {ms = ms} m d) = ap (λ (x : Option Marked). cond (test m.mark) (Some m) x) (same_first test e d)
same_first test e (drops {ks = ks} {ms = ms} t d) = same_first test e d ∙ ap (λ (b : Bool). cond b (Some (marked nothing t)) (first_with test ms)) (sym e)

pub same_flat : {X : Type 0} (f : Marked → List X) → ((t : Token) → f (marked nothing t) ≡ []) → {ks ms : List Marked} → Drops ks ms → flat_map f ks ≡ flat_map f ms
same_flat f e none = refl
same_flat f e (keeps {ks = ks} {ms = ms} m d) = ap (λ xs. f m ++ xs) (same_flat f e d)
same_flat f e (drops {ks = ks} {ms = ms} t d) = same_flat f e d ∙ ap (λ xs. xs ++ flat_map f ms) (sym (e t))

pub same_described : {ks ms : List Marked} → Drops ks ms → described ks ≡ described ms
same_described none = refl
same_described (keeps m d) = ap (λ o. described_by m o m.mark) (same_described d)
same_described (drops t d) = same_described d

pub same_written : (p : Part) (id : Option (List ℕ)) → {ks ms : List Marked} → Drops ks ms → written_ids p id ks ≡ written_ids p id ms
same_written p id none = refl
same_written p id (keeps {ks = ks} {ms = ms} m d) =
    ap (λ (ns : Names). let x : Names = elim (types_part p m.mark) [ true ↦ id ∷ ns | false ↦ ns ] in x) (same_written p (id_after id m) d)
same_written p id (drops t d) = same_written p id d

abbrev no_instruction : Marked → Bool
no_instruction m = not (is_instruction m.mark)

pub same_immediates : {ks ms : List Marked} → Drops ks ms → Drops (immediates_in ks) (immediates_in ms)
same_immediates none = none
same_immediates (keeps {ks = ks} {ms = ms} m d) =
    subst (λ xs. Drops xs (immediates_in (m ∷ ms))) (sym (take_while-cons no_instruction m ks))
    (subst (λ xs. Drops (cond (no_instruction m) (m ∷ immediates_in ks) []) xs) (sym (take_while-cons no_instruction m ms)) (by (same_immediates d) (no_instruction m)))
  where
    by : Drops (immediates_in ks) (immediates_in ms) → (b : Bool) → Drops (cond b (m ∷ immediates_in ks) []) (cond b (m ∷ immediates_in ms) [])
    by below true = keeps m below
    by below false = none
same_immediates (drops {ks = ks} {ms = ms} t d) = subst (λ xs. Drops (immediates_in ks) xs) (sym (take_while-cons no_instruction (marked nothing t) ms)) (drops t (same_immediates d))

pub same_uses : (at : Names → Space → Names) (labels : Names) → {ks ms : List Marked} → Drops ks ms → use_rows at labels ks ≡ use_rows at labels ms
same_uses at labels none = refl
same_uses at labels (keeps {ks = ks} {ms = ms} m d) = rw (same_uses at (labels_after labels m) d) refl
same_uses at labels (drops t d) = same_uses at labels d
