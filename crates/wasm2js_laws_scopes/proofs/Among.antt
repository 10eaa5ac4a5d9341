-- Names in lists of declarations.
use Rattle.std.proofs.Common.{◌≡◌, ℕ, Bool, true, false, List, [], ◌∷◌, ◌++◌, map, ◌⊎◌, inl, inr, refl, sym, ap, ◌∙◌}
use Rattle.std.specs.Prelude.{bytes_eq, if◌then◌else◌}
use Rattle.std.specs.List.{list_all}
use Rattle.std.proofs.lemmas.Bool.{and_parts}
use Rattle.std.proofs.lemmas.Slice.Eq.{bytes_eq-Decides}
use Rattle.asm_lang_valid.specs.Scope.{Meaning, an_int, among_params, among_locals}
use Rattle.wasm2js_translation.specs.Names.{Name, spelled}
use Rattle.wasm2js_translation.proofs.Spelling.{spellings_differ}
use Rattle.wasm2js_translation.specs.Helpers.{int_param, zero_variable}
use Rattle.wasm2js_laws_scopes.specs.Laws.{is_own}

abbrev pub Among : Name → List Name → Type 0
Among n [] = ⊥
Among n (x ∷ xs) = (x ≡ n) ⊎ Among n xs

pub in_left : (n : Name) (xs ys : List Name) → Among n xs → Among n (xs ++ ys)
in_left n [] ys h = absurd h
in_left n (x ∷ xs) ys (inl e) = inl e
in_left n (x ∷ xs) ys (inr h) = inr (in_left n xs ys h)

pub in_right : (n : Name) (xs ys : List Name) → Among n ys → Among n (xs ++ ys)
in_right n [] ys h = h
in_right n (x ∷ xs) ys h = inr (in_right n xs ys h)

abbrev pub AllAmong : List Name → List Name → Type 0
AllAmong [] xs = Unit {0}
AllAmong (n ∷ ns) xs = Among n xs × AllAmong ns xs

pub all_left : (ns xs ys : List Name) → AllAmong ns xs → AllAmong ns (xs ++ ys)
all_left [] xs ys h = tt
all_left (n ∷ ns) xs ys h = (in_left n xs ys h.0, all_left ns xs ys h.1)

pub all_right : (ns xs ys : List Name) → AllAmong ns ys → AllAmong ns (xs ++ ys)
all_right [] xs ys h = tt
all_right (n ∷ ns) xs ys h = (in_right n xs ys h.0, all_right ns xs ys h.1)

pub all_later : (ns : List Name) (x : Name) (xs : List Name) → AllAmong ns xs → AllAmong ns (x ∷ xs)
all_later [] x xs h = tt
all_later (n ∷ ns) x xs h = (inr h.0, all_later ns x xs h.1)

pub all_themselves : (ns : List Name) → AllAmong ns ns
all_themselves [] = tt
all_themselves (n ∷ ns) = (inl refl, all_later ns n ns (all_themselves ns))

-- ---- spellings

pub same_spelling : (a b : Name) → a ≡ b → bytes_eq (spelled a) (spelled b) ≡ true
same_spelling a b e = (bytes_eq-Decides (spelled a) (spelled b)).1 (ap spelled e)

pub other_spelling : (a b : Name) → (a ≡ b → ⊥) → bytes_eq (spelled a) (spelled b) ≡ false
other_spelling a b h = by (bytes_eq (spelled a) (spelled b)) refl
  where
    by : (t : Bool) → bytes_eq (spelled a) (spelled b) ≡ t → bytes_eq (spelled a) (spelled b) ≡ false
    by true e = absurd (h (spellings_differ a b ((bytes_eq-Decides (spelled a) (spelled b)).0 e)))
    by false e = e

-- ---- all variables of a function are ints

first_int : (b : Bool) (o : Meaning) → o ≡ an_int → (if b then an_int else o) ≡ an_int
first_int true o h = refl
first_int false o h = h

this_int : (b : Bool) (o : Meaning) → b ≡ true → (if b then an_int else o) ≡ an_int
this_int b o e = rw e refl

pub past_params : (ps : List Name) (s : List ℕ) (o : Meaning) → o ≡ an_int → among_params (map int_param ps) s o ≡ an_int
past_params [] s o h = h
past_params (p ∷ ps) s o h = first_int (bytes_eq (spelled p) s) (among_params (map int_param ps) s o) (past_params ps s o h)

pub param_found : (ps : List Name) (n : Name) (o : Meaning) → Among n ps → among_params (map int_param ps) (spelled n) o ≡ an_int
param_found [] n o h = absurd h
param_found (p ∷ ps) n o (inl e) = this_int (bytes_eq (spelled p) (spelled n)) (among_params (map int_param ps) (spelled n) o) (same_spelling p n e)
param_found (p ∷ ps) n o (inr h) = first_int (bytes_eq (spelled p) (spelled n)) (among_params (map int_param ps) (spelled n) o) (param_found ps n o h)

pub local_found : (ls : List Name) (n : Name) (o : Meaning) → Among n ls → among_locals (map zero_variable ls) (spelled n) o ≡ an_int
local_found [] n o h = absurd h
local_found (l ∷ ls) n o (inl e) = this_int (bytes_eq (spelled l) (spelled n)) (among_locals (map zero_variable ls) (spelled n) o) (same_spelling l n e)
local_found (l ∷ ls) n o (inr h) = first_int (bytes_eq (spelled l) (spelled n)) (among_locals (map zero_variable ls) (spelled n) o) (local_found ls n o h)

-- ---- and hide no other name

not_this : (a n : Name) → is_own a ≡ true → is_own n ≡ false → bytes_eq (spelled a) (spelled n) ≡ false
not_this a n h k = other_spelling a n (λ e. let is : true ≡ false = sym h ∙ ap is_own e ∙ k in cc is)

pub no_param : (ps : List Name) (n : Name) (o : Meaning) → list_all is_own ps ≡ true → is_own n ≡ false → among_params (map int_param ps) (spelled n) o ≡ o
no_param [] n o h k = refl
no_param (p ∷ ps) n o h k =
    let a = and_parts _ _ h in
    let e = not_this p n a.0 k in
    rw e (no_param ps n o a.1 k)

pub no_local : (ls : List Name) (n : Name) (o : Meaning) → list_all is_own ls ≡ true → is_own n ≡ false → among_locals (map zero_variable ls) (spelled n) o ≡ o
no_local [] n o h k = refl
no_local (l ∷ ls) n o h k =
    let a = and_parts _ _ h in
    let e = not_this l n a.0 k in
    rw e (no_local ls n o a.1 k)
