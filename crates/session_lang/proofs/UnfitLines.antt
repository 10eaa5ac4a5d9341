-- The least of some lines, and the lines of what doesn't fit.
use Rattle.std.proofs.Common.{◌≡◌, ◌⊎◌, inl, inr, ℕ, zero, suc, ◌≤◌, min, Bool, true, false, List, [], ◌∷◌, ◌++◌, Option, Some, None, refl, sym, ◌∙◌, subst, arith, ⊎_elim, append_assoc}
use Rattle.std.proofs.lemmas.List.{append-nil}
use Rattle.std.specs.Prelude.{take, slice_get}
use Rattle.session_lang.specs.Script.{GlobalPlain}
use Rattle.session_lang.specs.Fits.{unless, global_lines, lines_of, lesser, least}

abbrev pub IsIn : ℕ → List ℕ → Type 0
IsIn n [] = ⊥
IsIn n (x ∷ xs) = (n ≡ x) ⊎ IsIn n xs

pub in_front : (n : ℕ) (xs ys : List ℕ) → IsIn n xs → IsIn n (xs ++ ys)
in_front n [] ys h = absurd h
in_front n (x ∷ xs) ys (inl e) = inl e
in_front n (x ∷ xs) ys (inr h) = inr (in_front n xs ys h)

pub in_back : (n : ℕ) (xs ys : List ℕ) → IsIn n ys → IsIn n (xs ++ ys)
in_back n [] ys h = h
in_back n (x ∷ xs) ys h = inr (in_back n xs ys h)

pub in_either : (n : ℕ) (xs ys : List ℕ) → IsIn n (xs ++ ys) → IsIn n xs ⊎ IsIn n ys
in_either n [] ys h = inr h
in_either n (x ∷ xs) ys (inl e) = inl (inl e)
in_either n (x ∷ xs) ys (inr h) = ⊎_elim (λ h. inl (inr h)) (λ h. inr h) (in_either n xs ys h)

-- ---- the least

lesser_some : (n : ℕ) (o : Option ℕ) → lesser n o ≡ None → ⊥
lesser_some n None e = cc e
lesser_some n (Some k) e = cc e

pub least_none : (ns : List ℕ) → least ns ≡ None → (n : ℕ) → IsIn n ns → ⊥
least_none (x ∷ xs) e n h = lesser_some x (least xs) e
least_none [] e n h = h

-- one of the lines, and none is less
pub record IsLeast (k : ℕ) (ns : List ℕ) : Type 0 where
  pub is_in : IsIn k ns
  pub is_least : (n : ℕ) → IsIn n ns → k ≤ n

min_cases : (x y : ℕ) → ((min x y ≡ x) × (x ≤ y)) ⊎ ((min x y ≡ y) × (y ≤ x))
min_cases x y = grind arith

least_lesser : (x k : ℕ) (xs : List ℕ) (o : Option ℕ) → least xs ≡ o → ((j : ℕ) → least xs ≡ Some j → IsLeast j xs) → lesser x o ≡ Some k → IsLeast k (x ∷ xs)
least_lesser x k xs None none rest e =
    let same : x ≡ k = cc e in
    record {
      is_in = inl (sym same);
      is_least = λ n h. ⊎_elim (λ (e : n ≡ x). omega arith) (λ h. absurd (least_none xs none n h)) h;
    }
least_lesser x k xs (Some j) some rest e =
    let same : min x j ≡ k = cc e in
    let it = rest j some in
    ⊎_elim
    (λ h. record {
      is_in = inl (sym same ∙ h.0);
      is_least = λ n i. ⊎_elim (λ (e : n ≡ x). omega arith) (λ i. let le = it.is_least n i in omega arith) i;
    })
    (λ h. record {
      is_in = inr (subst (λ n. IsIn n xs) (sym h.0 ∙ same) it.is_in);
      is_least = λ n i. ⊎_elim (λ (e : n ≡ x). omega arith) (λ i. let le = it.is_least n i in omega arith) i;
    })
    (min_cases x j)

pub least_some : (ns : List ℕ) (k : ℕ) → least ns ≡ Some k → IsLeast k ns
least_some [] k e = cc e
least_some (x ∷ xs) k e = least_lesser x k xs (least xs) refl (λ j e. least_some xs j e) e

-- ---- the lines of what doesn't fit

in_unless : (b : Bool) (n line : ℕ) (lines : List ℕ) → IsIn n lines → IsIn n (unless b line lines)
in_unless true n line lines h = h
in_unless false n line lines h = inr h

-- an item that doesn't fit, and its line
pub record IsUnfitItem {A : Type 0} (fits : A → Bool) (line : A → ℕ) (xs : List A) (n : ℕ) : Type 0 where
  pub place : ℕ
  pub item : A
  pub is_there : slice_get xs place ≡ Some item
  pub is_unfit : fits item ≡ false
  pub is_line : n ≡ line item

further_item : {A : Type 0} (fits : A → Bool) (line : A → ℕ) (x : A) (xs : List A) (n : ℕ) → IsUnfitItem fits line xs n → IsUnfitItem fits line (x ∷ xs) n
further_item fits line x xs n it = record { place = suc it.place; item = it.item; is_there = it.is_there; is_unfit = it.is_unfit; is_line = it.is_line }

item_cases : {A : Type 0} (fits : A → Bool) (line : A → ℕ) (x : A) (xs : List A) (n : ℕ) (b : Bool) → fits x ≡ b
    → (IsIn n (lines_of fits line xs) → IsUnfitItem fits line xs n) → IsIn n (unless b (line x) (lines_of fits line xs)) → IsUnfitItem fits line (x ∷ xs) n
item_cases fits line x xs n true is rest h = further_item fits line x xs n (rest h)
item_cases fits line x xs n false is rest h =
    ⊎_elim
    (λ e. record { place = zero; item = x; is_there = refl; is_unfit = is; is_line = e })
    (λ h. further_item fits line x xs n (rest h))
    h

pub item_of_line : {A : Type 0} (fits : A → Bool) (line : A → ℕ) (xs : List A) (n : ℕ) → IsIn n (lines_of fits line xs) → IsUnfitItem fits line xs n
item_of_line fits line [] n h = absurd h
item_of_line fits line (x ∷ xs) n h = item_cases fits line x xs n (fits x) refl (λ h. item_of_line fits line xs n h) h

pub line_of_item : {A : Type 0} (fits : A → Bool) (line : A → ℕ) (xs : List A) (i : ℕ) (x : A) → slice_get xs i ≡ Some x → fits x ≡ false → IsIn (line x) (lines_of fits line xs)
line_of_item fits line [] i x there unfit = cc there
line_of_item fits line (y ∷ ys) zero x there unfit =
    let same : y ≡ x = cc there in
    subst (λ z. IsIn (line x) (unless (fits z) (line z) (lines_of fits line ys))) (sym same)
    (subst (λ b. IsIn (line x) (unless b (line x) (lines_of fits line ys))) (sym unfit) (inl refl))
line_of_item fits line (y ∷ ys) (suc i) x there unfit = in_unless (fits y) (line x) (line y) (lines_of fits line ys) (line_of_item fits line ys i x there unfit)

-- ---- those of globals, each after those before it

pub record IsUnfitGlobal (fits : List GlobalPlain → GlobalPlain → Bool) (before gs : List GlobalPlain) (n : ℕ) : Type 0 where
  pub place : ℕ
  pub item : GlobalPlain
  pub is_there : slice_get gs place ≡ Some item
  pub is_unfit : fits (before ++ take place gs) item ≡ false
  pub is_line : n ≡ item.line

module _ (fits : List GlobalPlain → GlobalPlain → Bool) where
  further_global : (before : List GlobalPlain) (g : GlobalPlain) (gs : List GlobalPlain) (n : ℕ) → IsUnfitGlobal fits (before ++ g ∷ []) gs n → IsUnfitGlobal fits before (g ∷ gs) n
  further_global before g gs n it = record {
    place = suc it.place;
    item = it.item;
    is_there = it.is_there;
    is_unfit = subst (λ l. fits l it.item ≡ false) (append_assoc before (g ∷ []) (take it.place gs)) it.is_unfit;
    is_line = it.is_line;
  }

  global_cases : (before : List GlobalPlain) (g : GlobalPlain) (gs : List GlobalPlain) (n : ℕ) (b : Bool) → fits before g ≡ b
      → (IsIn n (global_lines fits (before ++ g ∷ []) gs) → IsUnfitGlobal fits (before ++ g ∷ []) gs n)
      → IsIn n (unless b g.line (global_lines fits (before ++ g ∷ []) gs)) → IsUnfitGlobal fits before (g ∷ gs) n
  global_cases before g gs n true is rest h = further_global before g gs n (rest h)
  global_cases before g gs n false is rest h =
      ⊎_elim
      (λ e. record { place = zero; item = g; is_there = refl; is_unfit = subst (λ l. fits l g ≡ false) (sym (append-nil before)) is; is_line = e })
      (λ h. further_global before g gs n (rest h))
      h

  pub global_of_line : (before gs : List GlobalPlain) (n : ℕ) → IsIn n (global_lines fits before gs) → IsUnfitGlobal fits before gs n
  global_of_line before [] n h = absurd h
  global_of_line before (g ∷ gs) n h = global_cases before g gs n (fits before g) refl (λ h. global_of_line (before ++ g ∷ []) gs n h) h

  pub line_of_global : (before gs : List GlobalPlain) (i : ℕ) (g : GlobalPlain) → slice_get gs i ≡ Some g → fits (before ++ take i gs) g ≡ false → IsIn g.line (global_lines fits before gs)
  line_of_global before [] i g there unfit = cc there
  line_of_global before (x ∷ xs) zero g there unfit =
      let same : x ≡ g = cc there in
      let is : fits before g ≡ false = subst (λ l. fits l g ≡ false) (append-nil before) unfit in
      subst (λ z. IsIn g.line (unless (fits before z) z.line (global_lines fits (before ++ z ∷ []) xs))) (sym same)
      (subst (λ b. IsIn g.line (unless b g.line (global_lines fits (before ++ g ∷ []) xs))) (sym is) (inl refl))
  line_of_global before (x ∷ xs) (suc i) g there unfit =
      in_unless (fits before x) g.line x.line (global_lines fits (before ++ x ∷ []) xs)
      (line_of_global (before ++ x ∷ []) xs i g there (subst (λ l. fits l g ≡ false) (sym (append_assoc before (x ∷ []) (take i xs))) unfit))
