-- Counts of locals.
use Rattle.std.proofs.Common.{◌≡◌, ℕ, suc, ◌+◌, ◌*◌, ◌^◌, ◌<◌, ◌≤◌, Bool, true, false, List, [], ◌∷◌, ◌++◌, length, drop, get_or, refl, sym, ap, ◌∙◌, arith, length-append}
use Rattle.std.specs.Prelude.{nat_le, ◌&&◌}
use Rattle.std.proofs.Math.Seq.{drop-cons}
use Rattle.std.proofs.lemmas.Bool.Decides.{nat_tests}
use Rattle.std.proofs.lemmas.List.{length-replicate}
use Rattle.wasm_lang.specs.Grammar.{locals_of}
use Rattle.wasm_tree.specs.declared.module.Run.{Run}
use Rattle.wasm_tree.specs.Views.{locals_in}

first_run : (r : Run) (rs : List Run) → length (locals_in (r ∷ rs)) ≡ r.count + length (locals_in rs)
first_run r rs = length-append _ (locals_in rs) ∙ ap (λ n. n + length (locals_in rs)) (length-replicate r.count r.kind)

-- one run more
pub runs_step : (runs : List Run) (i : ℕ) (r : Run) (count now : ℕ) → i < length runs → r ≡ get_or runs i r → now ≡ count + r.count
    → length (locals_in runs) ≡ count + length (locals_in (drop i runs)) → length (locals_in runs) ≡ now + length (locals_in (drop (i + 1) runs))
runs_step runs i r count now h is more inv =
    let next : suc i ≡ i + 1 = omega arith in
    let rest : drop i runs ≡ r ∷ drop (i + 1) runs = drop-cons runs i r h ∙ ap (λ x. x ∷ drop (suc i) runs) (sym is) ∙ ap (λ k. r ∷ drop k runs) next in
    let left : length (locals_in (drop i runs)) ≡ r.count + length (locals_in (drop (i + 1) runs)) = ap (λ l. length (locals_in l)) rest ∙ first_run r (drop (i + 1) runs) in
    omega arith

pub too_few : (has : Bool) (n : ℕ) → n < 60000 → false ≡ (has && nat_le 60000 n)
too_few true n h = let none : nat_le 60000 n ≡ false = grind (arith, nat_tests) in sym none
too_few false n h = refl

pub many : (has found : Bool) (n : ℕ) → 60000 ≤ n → found ≡ has → found ≡ (has && nat_le 60000 n)
many true found n h e = let some : nat_le 60000 n ≡ true = grind (arith, nat_tests) in e ∙ sym some
many false found n h e = e
