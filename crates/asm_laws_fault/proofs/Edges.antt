-- The longest front of tokens with which some module begins.
use Rattle.std.proofs.Common.{ℕ, ◌≡◌, ◌≤◌, ◌<◌, ◌+◌, List, ◌++◌, length, take, drop, inl, inr, sym, ap, subst, ◌∙◌, arith, append_assoc, length-drop}
use Rattle.std.proofs.lemmas.List.{take-take, take-append-drop}
use Rattle.std.proofs.lemmas.Bool.{cases_lt}
use Rattle.asm_lang.specs.Lexemes.{Lexeme}
use Rattle.asm_lang.specs.Trees.{ModuleTree}
use Rattle.asm_lang.specs.Grammar.{IsModule}
use Rattle.asm_lang.specs.Faults.{IsViable, IsPair, IsNegativeZero, IsMissingUse, IsFirstFault}

viable_front : (xs ys : List Lexeme) → IsViable (xs ++ ys) → IsViable xs
viable_front xs ys v = (v.0, ys ++ v.1, subst (λ (zs : List Lexeme). IsModule v.0 zs) (append_assoc xs ys v.1) v.2)

-- what a module begins with, it begins with each front of
viable_take : (xs : List Lexeme) (m n : ℕ) → m ≤ n → IsViable (take n xs) → IsViable (take m xs)
viable_take xs m n le v =
    let parts : take m xs ++ drop m (take n xs) ≡ take n xs = ap (λ (f : List Lexeme). f ++ drop m (take n xs)) (sym (take-take m n xs le)) ∙ take-append-drop m (take n xs) in
    viable_front (take m xs) (drop m (take n xs)) (subst IsViable (sym parts) v)

pub module_viable : (xs : List Lexeme) (m : ModuleTree) (n : ℕ) → IsModule m xs → IsViable (take n xs)
module_viable xs m n h = (m, drop n xs, subst (λ (zs : List Lexeme). IsModule m zs) (sym (take-append-drop n xs)) h)

-- some module begins with the tokens before b, and none with those up to it
pub record Edge (xs : List Lexeme) (b : ℕ) : Type 0 where
  pub within : b < length xs
  pub before : IsViable (take b xs)
  pub here : ¬ IsViable (take (b + 1) xs)

pub one_edge : (xs : List Lexeme) (a b : ℕ) → Edge xs a → Edge xs b → a ≡ b
one_edge xs a b f g = elim (cases_lt a b) [
  | inl lt ↦ absurd (f.here (viable_take xs (a + 1) b (omega arith) g.before))
  | inr le ↦ elim (cases_lt b a) [ inl lt ↦ absurd (g.here (viable_take xs (b + 1) a (omega arith) f.before)) | inr le2 ↦ omega arith ]
]

-- where a module begins with all tokens there is none
pub no_edge : (xs : List Lexeme) (b k : ℕ) → length xs ≤ k → IsViable (take k xs) → Edge xs b → ⊥
no_edge xs b k le v e = e.here (viable_take xs (b + 1) k (omega (arith, e.within)) v)

pair_within : (xs : List Lexeme) (j : ℕ) → IsPair xs j → j + 1 < length xs
pair_within xs j p = omega (arith, ap length p.there, length-drop j xs)

pub zero_edge : (xs : List Lexeme) (j : ℕ) → IsNegativeZero xs j → Edge xs (j + 1)
zero_edge xs j z = record {
  within = pair_within xs j z.pair;
  before = z.before;
  here = subst (λ (n : ℕ). ¬ IsViable (take n xs)) (let is : j + 2 ≡ (j + 1) + 1 = omega arith in is) z.here;
}

pub use_edge : (xs : List Lexeme) (k : ℕ) → IsMissingUse xs k → Edge xs k
use_edge xs k m = record { within = omega (arith, ap length m.there, length-drop k xs); before = m.before; here = m.here }

pub first_edge : (xs : List Lexeme) (k : ℕ) → IsFirstFault xs k → k < length xs → Edge xs k
first_edge xs k f lt = record { within = lt; before = f.before; here = f.here lt }
