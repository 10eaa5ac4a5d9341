-- How many clauses a switch has.
use Rattle.std.proofs.Common.{◌≡◌, suc, ◌<◌, ◌≤◌, true, false, List, [], ◌∷◌, length, refl, ap, arith}
use Rattle.std.proofs.lemmas.Bool.Decides.{nat_tests}
use Rattle.asm_tree.specs.declared.tree.Clause.{Clause}
use Rattle.asm_tree.specs.Views.{clauses_view}
use Rattle.asm2wasm_translation.specs.Bodies.{clauses_count, is_short, most_blocks}

pub count_is : (ks : List Clause) → clauses_count (clauses_view ks) ≡ length ks
count_is [] = refl
count_is (k ∷ ks) = ap suc (count_is ks)

pub short_is : (ks : List Clause) → length ks ≤ most_blocks → is_short (clauses_view ks) ≡ true
short_is ks h = let e = count_is ks in grind (arith, nat_tests)

pub long_is : (ks : List Clause) → most_blocks < length ks → is_short (clauses_view ks) ≡ false
long_is ks h = let e = count_is ks in grind (arith, nat_tests)
