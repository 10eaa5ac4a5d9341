-- Tests that hold of all of a list, and rows that tokens begin.
use Rattle.std.proofs.Common.{◌≡◌, ℕ, Bool, true, false, ◌&&◌, List, [], ◌∷◌, ◌++◌, Some, refl, ap, ◌∙◌, subst}
use Rattle.std.specs.List.{list_all}
use Rattle.std.proofs.lemmas.Bool.{and_parts}
use Rattle.std.proofs.lemmas.List.Folds.{list_all-append}
use Rattle.wasm_lang.specs.Instructions.{Instruction}
use Rattle.wat_lang.specs.Tokens.{Class}
use Rattle.wat_lang.specs.Grammar.{Row, meets, begins_instruction, instruction_row, instruction_rows}
use Rattle.wat_laws_grammar.specs.Machine.{pick, pick_by}

pub both : (a b : Bool) → a ≡ true → b ≡ true → (a && b) ≡ true
both a b h k = ap (λ x. x && b) h ∙ k

pub all_on : {X : Type 0} (test : X → Bool) (xs ys : List X) → list_all test xs ≡ true → list_all test ys ≡ true → list_all test (xs ++ ys) ≡ true
all_on test xs ys h k = list_all-append test xs ys ∙ both (list_all test xs) (list_all test ys) h k

-- a row that a token of the class begins is one of the rows
pub picked : (test : Row → Bool) (ws : List Row) (c : Class) (w : Row) → list_all test ws ≡ true → pick ws c ≡ Some w → (test w ≡ true) × (meets w.want c ≡ true)
picked test [] c w h e = absurd cc
picked test (v ∷ ws) c w h e = by (and_parts (test v) (list_all test ws) h).0 (picked test ws c w (and_parts (test v) (list_all test ws) h).1) (meets v.want c) refl e
  where
    by : test v ≡ true → (pick ws c ≡ Some w → (test w ≡ true) × (meets w.want c ≡ true)) → (t : Bool) → meets v.want c ≡ t → pick_by v (pick ws c) t ≡ Some w
        → (test w ≡ true) × (meets w.want c ≡ true)
    by holds below true et e =
        let is : v ≡ w = cc in
        subst (λ (x : Row). (test x ≡ true) × (meets x.want c ≡ true)) is (holds, et)
    by holds below false et e = below e

-- what holds of each instruction's row holds of the rows of all
pub named_rows : (test : Row → Bool) → ((w : List ℕ × Instruction) → test (instruction_row w) ≡ true) → (ws : List (List ℕ × Instruction)) → list_all test (instruction_rows ws) ≡ true
named_rows test one [] = refl
named_rows test one (w ∷ ws) = by (named_rows test one ws) (begins_instruction w.1)
  where
    by : list_all test (instruction_rows ws) ≡ true → (b : Bool) → list_all test (elim b [ true ↦ instruction_row w ∷ instruction_rows ws | false ↦ instruction_rows ws ]) ≡ true
    by below true = both (test (instruction_row w)) (list_all test (instruction_rows ws)) (one w) below
    by below false = below
