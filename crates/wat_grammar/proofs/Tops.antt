-- The item on top of the stack, which is the last one of its list.
use Rattle.std.proofs.Common.{◌≡◌, suc, ◌-◌, ◌<◌, List, [], ◌∷◌, ◌++◌, length, get_or, take, drop, reverse, sym, ap, ◌∙◌, arith}
use Rattle.std.proofs.Math.Seq.{take-length, take-suc}
use Rattle.std.proofs.lemmas.List.{reverse-append}
use Rattle.wat_grammar.specs.declared.parts.Item.{Item}
use Rattle.wat_grammar.specs.Views.{item_of, items_of}

pub last_on_top : (xs : List Item) (d : Item) → 0 < length xs → items_of (reverse xs) ≡ item_of (get_or xs (length xs - 1) d) ∷ drop 1 (items_of (reverse xs))
last_on_top xs d l =
    let n = length xs - 1 in
    let x = get_or xs n d in
    let e : length xs ≡ suc n = omega (arith, l) in
    let whole : xs ≡ take n xs ++ x ∷ [] = sym (take-length xs) ∙ ap (λ k. take k xs) e ∙ take-suc xs n d (omega (arith, l)) in
    let turned : items_of (reverse xs) ≡ item_of x ∷ items_of (reverse (take n xs)) = ap items_of (ap reverse whole ∙ reverse-append (take n xs) (x ∷ [])) in
    turned ∙ ap (λ is. item_of x ∷ drop 1 is) (sym turned)
