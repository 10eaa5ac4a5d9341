-- New names that are handed out one by one.
use Rattle.std.proofs.Common.{◌≡◌, ℕ, ◌+◌, ◌<◌, ◌≤◌, Bool, true, false, List, [], ◌∷◌, ◌++◌, map, length, get_or, drop, Option, Some, None, refl, sym, ap, ◌∙◌, append_assoc, append-nil}
use Rattle.std.proofs.lemmas.Bool.{false≢true}
use Rattle.std.proofs.lemmas.List.{drop_more, map-append}
use Rattle.std.proofs.lemmas.Slice.Eq.{bytes_eq-Decides}
use Rattle.std.proofs.Math.ListN.{drop_of_length-le}
use Rattle.std.specs.Borrow.{Bor}
use Rattle.std.specs.Prelude.{if◌then◌else◌}
use Rattle.asm_lang_valid.specs.Scope.{is_name}
use Rattle.asm_short_lang.specs.Sequence.{numbered}
use Rattle.asm_short_lang.specs.Renaming.{given_names}
use Rattle.asm_short_tree.specs.declared.names.NewName.{NewName}
use Rattle.asm_short_tree.specs.declared.names.NewName.TheVariants.{Numbered, Kept}
use Rattle.asm_short_tree.specs.Looking.{new_name, new_names, names_in}
use Rattle.asm_short_modules.specs.NewDeclared.{lent, lent_or_nothing}

-- what the names from the i-th on get, of the numbers from the j-th on
abbrev pub handed_from : Option (Bor (List ℕ)) → List (Bor (List ℕ)) → List ℕ → (i j : ℕ) → List (List ℕ)
handed_from kept olds numbers i j = given_names (lent kept) (names_in (drop i olds)) (map numbered (drop j numbers))

no_numbers : (kept : Option (List ℕ)) (os : List (List ℕ)) → given_names kept os [] ≡ []
no_numbers kept [] = refl
no_numbers kept (o ∷ os) = refl

pub numbers_over : (kept : Option (Bor (List ℕ))) (olds : List (Bor (List ℕ))) (numbers : List ℕ) (i j : ℕ) (done all : List (List ℕ)) → length numbers ≤ j → done ++ handed_from kept olds numbers i j ≡ all → done ≡ all
numbers_over kept olds numbers i j done all high had =
    sym (append-nil done) ∙ ap (λ l. done ++ l) (sym (ap (λ ns. given_names (lent kept) (names_in (drop i olds)) (map numbered ns)) (drop_of_length-le numbers high) ∙ no_numbers (lent kept) (names_in (drop i olds)))) ∙ had

pub names_over : (kept : Option (Bor (List ℕ))) (olds : List (Bor (List ℕ))) (numbers : List ℕ) (i j : ℕ) (done all : List (List ℕ)) → length olds ≤ i → done ++ handed_from kept olds numbers i j ≡ all → done ≡ all
names_over kept olds numbers i j done all high had =
    sym (append-nil done) ∙ ap (λ l. done ++ l) (sym (ap (λ os. given_names (lent kept) (names_in os) (map numbered (drop j numbers))) (drop_of_length-le olds high))) ∙ had

here_is : (kept : Option (Bor (List ℕ))) (olds : List (Bor (List ℕ))) (numbers : List ℕ) (i j : ℕ) (b : Bor (List ℕ)) (n : ℕ) → i < length olds → b ≡ get_or olds i b → j < length numbers → n ≡ get_or numbers j n
    → handed_from kept olds numbers i j ≡ (if is_name b.now (lent kept) then b.now ∷ given_names (lent kept) (names_in (drop (i + 1) olds)) (numbered n ∷ map numbered (drop (j + 1) numbers)) else numbered n ∷ handed_from kept olds numbers (i + 1) (j + 1))
here_is kept olds numbers i j b n low is lower this =
    let os = drop_more olds i b low ∙ ap (λ c. c ∷ drop (i + 1) olds) (sym is) in
    let ns = drop_more numbers j n lower ∙ ap (λ m. m ∷ drop (j + 1) numbers) (sym this) in
    (λ k. given_names (lent kept) (names_in (os k)) (map numbered (ns k)))

kept_is : (kept : Option (Bor (List ℕ))) (n : List ℕ) → is_name n (lent kept) ≡ true → lent_or_nothing kept ≡ n
kept_is None n h = absurd (false≢true h)
kept_is (Some k) n h = (bytes_eq-Decides k.now n).0 h

pub one_kept : (kept : Option (Bor (List ℕ))) (olds : List (Bor (List ℕ))) (numbers : List ℕ) (i j : ℕ) (b : Bor (List ℕ)) (n : ℕ) (done more : List NewName) (all : List (List ℕ)) (test : Bool) → i < length olds → b ≡ get_or olds i b → j < length numbers → n ≡ get_or numbers j n
    → test ≡ is_name b.now (lent kept) → test ≡ true → more ≡ done ++ Kept ∷ []
    → new_names (lent_or_nothing kept) done ++ handed_from kept olds numbers i j ≡ all → new_names (lent_or_nothing kept) more ++ handed_from kept olds numbers (i + 1) j ≡ all
one_kept kept olds numbers i j b n done more all test low is lower this tested e pushed had =
    let name = lent_or_nothing kept in
    let ns = drop_more numbers j n lower ∙ ap (λ m. m ∷ drop (j + 1) numbers) (sym this) in
    let yes : is_name b.now (lent kept) ≡ true = sym tested ∙ e in
    let rest = given_names (lent kept) (names_in (drop (i + 1) olds)) (numbered n ∷ map numbered (drop (j + 1) numbers)) in
    let here : handed_from kept olds numbers i j ≡ b.now ∷ rest = here_is kept olds numbers i j b n low is lower this ∙ ap (λ c. if c then b.now ∷ rest else numbered n ∷ handed_from kept olds numbers (i + 1) (j + 1)) yes in
    (λ k. new_names name (pushed k) ++ given_names (lent kept) (names_in (drop (i + 1) olds)) (map numbered (ns k)))
    ∙ ap (λ l. l ++ rest) (map-append (new_name name) done (Kept ∷ []))
    ∙ append_assoc (new_names name done) (name ∷ []) rest
    ∙ ap (λ w. new_names name done ++ w ∷ rest) (kept_is kept b.now yes)
    ∙ ap (λ l. new_names name done ++ l) (sym here) ∙ had

pub one_numbered : (kept : Option (Bor (List ℕ))) (olds : List (Bor (List ℕ))) (numbers : List ℕ) (i j : ℕ) (b : Bor (List ℕ)) (n : ℕ) (done more : List NewName) (all : List (List ℕ)) (test : Bool) → i < length olds → b ≡ get_or olds i b → j < length numbers → n ≡ get_or numbers j n
    → test ≡ is_name b.now (lent kept) → test ≡ false → more ≡ done ++ Numbered n ∷ []
    → new_names (lent_or_nothing kept) done ++ handed_from kept olds numbers i j ≡ all → new_names (lent_or_nothing kept) more ++ handed_from kept olds numbers (i + 1) (j + 1) ≡ all
one_numbered kept olds numbers i j b n done more all test low is lower this tested e pushed had =
    let name = lent_or_nothing kept in
    let no : is_name b.now (lent kept) ≡ false = sym tested ∙ e in
    let rest = handed_from kept olds numbers (i + 1) (j + 1) in
    let kept_rest = given_names (lent kept) (names_in (drop (i + 1) olds)) (numbered n ∷ map numbered (drop (j + 1) numbers)) in
    let here : handed_from kept olds numbers i j ≡ numbered n ∷ rest = here_is kept olds numbers i j b n low is lower this ∙ ap (λ c. if c then b.now ∷ kept_rest else numbered n ∷ rest) no in
    ap (λ ws. new_names name ws ++ rest) pushed
    ∙ ap (λ l. l ++ rest) (map-append (new_name name) done (Numbered n ∷ []))
    ∙ append_assoc (new_names name done) (numbered n ∷ []) rest
    ∙ ap (λ l. new_names name done ++ l) (sym here) ∙ had
