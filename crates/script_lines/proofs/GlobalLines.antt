-- Lines of globals, found by their names.
use Rattle.std.proofs.Common.{◌≡◌, ℕ, zero, suc, ◌+◌, ◌<◌, Bool, true, false, List, [], ◌∷◌, ◌++◌, length, map, take, drop, get_or, Option, Some, None, bytes_eq, ◌||◌, refl, sym, ap, ◌∙◌, arith, zero-add}
use Rattle.std.proofs.lemmas.Bool.Decides.{nat_tests}
use Rattle.std.proofs.lemmas.List.{at_drop_more}
use Rattle.std.specs.Prelude.{ℤ, if◌then◌else◌, ◌&&◌, option_map, is_some, nat_eq, nat_lt}
use Rattle.sem_words.specs.Lists.{text_bytes}
use Rattle.session_lang.specs.declared.script.GlobalLine.{GlobalLine}
use Rattle.session_lang.specs.Script.{GlobalPlain}
use Rattle.session_lang.specs.Views.{global_of}
use Rattle.session_lang.specs.Fits.{is_given, unless, global_lines, lesser, least}
use Rattle.session_lang.specs.Earlier.{earlier}
use Rattle.script_lines.specs.GlobalLines.{given, line_named}
use Rattle.session_lang.proofs.FirstLines.{earlier_lesser}

equal_either_way : (x y : ℕ) → nat_eq x y ≡ nat_eq y x
equal_either_way x y = grind (arith, nat_tests)

same_either_way : (xs ys : List ℕ) → bytes_eq xs ys ≡ bytes_eq ys xs
same_either_way [] [] = refl
same_either_way [] (y ∷ ys) = refl
same_either_way (x ∷ xs) [] = refl
same_either_way (x ∷ xs) (y ∷ ys) = ap (λ b. b && bytes_eq xs ys) (equal_either_way x y) ∙ ap (λ b. nat_eq y x && b) (same_either_way xs ys)

-- the place of a name among a line and others: the line's, or else one after it
abbrev next_place : Bool → Option ℕ → Option ℕ
next_place b o = if b then Some 0 else option_map (λ i. suc i) o

-- ---- the map, one line more at a time

shifted : (b : Bool) (i : ℕ) (o : Option ℕ) → (if b then Some i else option_map (λ k. (i + 1) + k) o) ≡ option_map (λ k. i + k) (next_place b o)
shifted true i o = ap (λ (k : ℕ). Some k) (omega arith)
shifted false i None = refl
shifted false i (Some k) = ap (λ (k : ℕ). Some k) (omega arith)

-- x is the place of a name from the i-th line on, and y that from the next on
pub line_put : (gs : List GlobalLine) (i j : ℕ) (g : GlobalLine) (n : List ℕ) (x y : Option ℕ) → j ≡ i + 1 → i < length gs → g ≡ get_or gs i g → x ≡ (if bytes_eq (text_bytes g.name) n then Some i else y)
    → y ≡ option_map (λ k. j + k) (line_named (map global_of (drop j gs)) n) → x ≡ option_map (λ k. i + k) (line_named (map global_of (drop i gs)) n)
line_put gs i j g n x y next inside is put rest =
    put ∙ ap (λ y. if bytes_eq (text_bytes g.name) n then Some i else y) (rest ∙ ap (λ j. option_map (λ k. j + k) (line_named (map global_of (drop j gs)) n)) next)
    ∙ shifted (bytes_eq (text_bytes g.name) n) i (line_named (map global_of (drop (i + 1) gs)) n)
    ∙ ap (λ (h : GlobalLine). option_map (λ k. i + k) (line_named (map global_of (h ∷ drop (i + 1) gs)) n)) is
    ∙ sym (at_drop_more (λ hs. option_map (λ k. i + k) (line_named (map global_of hs) n)) gs i g inside)

unshifted : (o : Option ℕ) → option_map (λ k. 0 + k) o ≡ o
unshifted None = refl
unshifted (Some k) = ap (λ (k : ℕ). Some k) (zero-add k)

pub lines_put : (gs : List GlobalLine) (i : ℕ) (n : List ℕ) (x : Option ℕ) → i ≡ 0 → x ≡ option_map (λ k. i + k) (line_named (map global_of (drop i gs)) n) → x ≡ line_named (map global_of gs) n
lines_put gs i n x first put = put ∙ ap (λ i. option_map (λ k. i + k) (line_named (map global_of (drop i gs)) n)) first ∙ unshifted (line_named (map global_of gs) n)

-- ---- whether a line gives a value

either_given : (b c : Bool) (o : Option ℕ) → c ≡ is_some o → (b || c) ≡ is_some (next_place b o)
either_given true c o e = refl
either_given false c None e = e
either_given false c (Some i) e = e

given_is : (gs : List GlobalPlain) (n : List ℕ) → is_given gs n ≡ is_some (line_named gs n)
given_is [] n = refl
given_is (g ∷ gs) n = ap (λ b. b || is_given gs n) (same_either_way n g.name) ∙ either_given (bytes_eq g.name n) (is_given gs n) (line_named gs n) (given_is gs n)

pub given_place : (gs : List GlobalPlain) (n : List ℕ) (i : ℕ) → line_named gs n ≡ Some i → is_given gs n ≡ true
given_place gs n i e = given_is gs n ∙ ap is_some e

pub given_nowhere : (gs : List GlobalPlain) (n : List ℕ) → line_named gs n ≡ None → is_given gs n ≡ false
given_nowhere gs n e = given_is gs n ∙ ap is_some e

-- ---- whether an earlier line does

abbrev is_before : Option ℕ → ℕ → Bool
is_before None i = false
is_before (Some k) i = nat_lt k i

none_before : (o : Option ℕ) → false ≡ is_before o zero
none_before None = refl
none_before (Some k) = grind (arith, nat_tests)

before_next : (k i : ℕ) → nat_lt k i ≡ nat_lt (suc k) (suc i)
before_next k i = grind (arith, nat_tests)

first_before : (i : ℕ) → true ≡ nat_lt 0 (suc i)
first_before i = grind (arith, nat_tests)

either_before : (b c : Bool) (o : Option ℕ) (i : ℕ) → c ≡ is_before o i → (b || c) ≡ is_before (next_place b o) (suc i)
either_before true c o i e = first_before i
either_before false c None i e = e
either_before false c (Some k) i e = e ∙ before_next k i

before_is : (gs : List GlobalPlain) (n : List ℕ) (i : ℕ) → is_given (take i gs) n ≡ is_before (line_named gs n) i
before_is [] n zero = refl
before_is [] n (suc i) = refl
before_is (g ∷ gs) n zero = none_before (line_named (g ∷ gs) n)
before_is (g ∷ gs) n (suc i) =
    ap (λ b. b || is_given (take i gs) n) (same_either_way n g.name)
    ∙ either_before (bytes_eq g.name n) (is_given (take i gs) n) (line_named gs n) i (before_is gs n i)

pub given_before : (gs : List GlobalPlain) (n : List ℕ) (i k : ℕ) → line_named gs n ≡ Some k → is_given (take i gs) n ≡ nat_lt k i
given_before gs n i k e = before_is gs n i ∙ ap (λ o. is_before o i) e

pub given_nowhere_before : (gs : List GlobalPlain) (n : List ℕ) (i : ℕ) → line_named gs n ≡ None → is_given (take i gs) n ≡ false
given_nowhere_before gs n i e = before_is gs n i ∙ ap (λ o. is_before o i) e

-- ---- the place of a name, and the value that is given there

within : (b : Bool) (o : Option ℕ) (l i : ℕ) → ((j : ℕ) → o ≡ Some j → j < l) → next_place b o ≡ Some i → i < suc l
within true o l i rest e = let first : 0 ≡ i = cc e in omega arith
within false None l i rest e = cc e
within false (Some j) l i rest e = let next : suc j ≡ i = cc e in let below = rest j refl in omega arith

pub place_within : (gs : List GlobalLine) (n : List ℕ) (i : ℕ) → line_named (map global_of gs) n ≡ Some i → i < length gs
place_within [] n i e = cc e
place_within (g ∷ gs) n i e = within (bytes_eq (text_bytes g.name) n) (line_named (map global_of gs) n) (length gs) i (λ j e. place_within gs n j e) e

value_at : (g : GlobalLine) (gs : List GlobalLine) (b : Bool) (o : Option ℕ) (v : Option ℤ) (i : ℕ) (x : GlobalLine)
    → ((j : ℕ) → o ≡ Some j → x ≡ get_or gs j x → v ≡ Some x.value) → next_place b o ≡ Some i → x ≡ get_or (g ∷ gs) i x → (if b then Some g.value else v) ≡ Some x.value
value_at g gs true o v zero x rest e is = ap (λ (y : GlobalLine). Some y.value) (sym is)
value_at g gs true o v (suc i) x rest e is = cc e
value_at g gs false None v i x rest e is = cc e
value_at g gs false (Some j) v zero x rest e is = cc e
value_at g gs false (Some j) v (suc i) x rest e is = rest i (cc e) is

pub value_here : (gs : List GlobalLine) (n : List ℕ) (i : ℕ) (x : GlobalLine) → line_named (map global_of gs) n ≡ Some i → x ≡ get_or gs i x → given (map global_of gs) n ≡ Some x.value
value_here [] n i x e is = cc e
value_here (g ∷ gs) n i x e is =
    value_at g gs (bytes_eq (text_bytes g.name) n) (line_named (map global_of gs) n) (given (map global_of gs) n) i x (λ j e is. value_here gs n j x e is) e is

no_value : (b : Bool) (o : Option ℕ) (z : ℤ) (v : Option ℤ) → (o ≡ None → v ≡ None) → next_place b o ≡ None → (if b then Some z else v) ≡ None
no_value true o z v rest e = cc e
no_value false None z v rest e = rest refl
no_value false (Some i) z v rest e = cc e

pub value_nowhere : (gs : List GlobalPlain) (n : List ℕ) → line_named gs n ≡ None → given gs n ≡ None
value_nowhere [] n e = refl
value_nowhere (g ∷ gs) n e = no_value (bytes_eq g.name n) (line_named gs n) g.value (given gs n) (λ e. value_nowhere gs n e) e

-- ---- the first line that doesn't fit

line_more : (ls : List GlobalPlain) (gs : List GlobalLine) (i : ℕ) (x : GlobalLine) → map global_of gs ≡ ls → i < length gs → x ≡ get_or gs i x → take (i + 1) ls ≡ take i ls ++ global_of x ∷ []
line_more ls [] i x all inside is = absurd (omega (arith, inside))
line_more [] (g ∷ gs) i x all inside is = cc all
line_more (l ∷ ls) (g ∷ gs) zero x all inside is = ap (λ (y : GlobalPlain). y ∷ []) (cc all) ∙ ap (λ (y : GlobalLine). global_of y ∷ []) (sym is)
line_more (l ∷ ls) (g ∷ gs) (suc i) x all inside is =
    let e : suc i + 1 ≡ suc (i + 1) = omega arith in
    ap (λ n. take n (l ∷ ls)) e ∙ ap (λ k. l ∷ k) (line_more ls gs i x (cc all) (omega (arith, inside)) is)

module _ (fits : List GlobalPlain → GlobalPlain → Bool) (ls : List GlobalPlain) (gs : List GlobalLine) where
  -- the first of those from the i-th line on
  abbrev pub first_from : ℕ → Option ℕ
  first_from i = least (global_lines fits (take i ls) (map global_of (drop i gs)))

  first_next : (i : ℕ) (x : GlobalLine) (b : Bool) → map global_of gs ≡ ls → i < length gs → x ≡ get_or gs i x → fits (take i ls) (global_of x) ≡ b
      → first_from i ≡ least (unless b x.line (global_lines fits (take (i + 1) ls) (map global_of (drop (i + 1) gs))))
  first_next i x b all inside is fit =
      at_drop_more (λ l. least (global_lines fits (take i ls) (map global_of l))) gs i x inside
      ∙ ap (λ (y : GlobalLine). least (global_lines fits (take i ls) (global_of y ∷ map global_of (drop (i + 1) gs)))) (sym is)
      ∙ ap (λ b. least (unless b x.line (global_lines fits (take i ls ++ global_of x ∷ []) (map global_of (drop (i + 1) gs))))) fit
      ∙ ap (λ l. least (unless b x.line (global_lines fits l (map global_of (drop (i + 1) gs))))) (sym (line_more ls gs i x all inside is))

  pub line_fits : (i : ℕ) (x : GlobalLine) (whole first next : Option ℕ) → map global_of gs ≡ ls → i < length gs → x ≡ get_or gs i x → fits (take i ls) (global_of x) ≡ true
      → next ≡ first → whole ≡ earlier first (first_from i) → whole ≡ earlier next (first_from (i + 1))
  line_fits i x whole first next all inside is fit same before =
      before ∙ ap (earlier first) (first_next i x true all inside is fit) ∙ ap (λ o. earlier o (first_from (i + 1))) (sym same)

  pub line_unfit : (i : ℕ) (x : GlobalLine) (whole first next : Option ℕ) → map global_of gs ≡ ls → i < length gs → x ≡ get_or gs i x → fits (take i ls) (global_of x) ≡ false
      → next ≡ lesser x.line first → whole ≡ earlier first (first_from i) → whole ≡ earlier next (first_from (i + 1))
  line_unfit i x whole first next all inside is unfit less before =
      before ∙ ap (earlier first) (first_next i x false all inside is unfit) ∙ sym (earlier_lesser x.line first (first_from (i + 1))) ∙ ap (λ o. earlier o (first_from (i + 1))) (sym less)
