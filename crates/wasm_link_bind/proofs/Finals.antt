-- What the code keeps of a pair, from its parts.
use Rattle.std.proofs.Common.{◌≡◌, ℕ, ◌+◌, ◌<◌, ◌≤◌, Bool, List, [], ◌∷◌, ◌++◌, length, map, replicate, Option, Some, None, refl, sym, ap, ◌∙◌, subst, arith, zero-add}
use Rattle.std.specs.Prelude.{slice_get, option_map}
use Rattle.wasm_lang.specs.Modules.{Imported, WasmModule}
use Rattle.wasm_link_lang.specs.Pairs.{Pair, past_first, bindings, first_bindings, second_bindings, function_imports, bound_to, import_count}
use Rattle.wasm_link_lang.specs.Refusal.{comes_back}
use Rattle.wasm_link_code.specs.Numbers.{numbered, own_numbers, or_zero}
use Rattle.wasm_link_bind.specs.Bindings.{AreBindings}
use Rattle.wasm_link_bind.specs.Chains.{Ends}
use Rattle.wasm_link_bind.specs.Marks.{has, is_member}
use Rattle.wasm_link_bind.proofs.Members.{members_are, first_count, second_count}

from_zero : (o : Option ℕ) → option_map (λ f. 0 + f) o ≡ o
from_zero None = refl
from_zero (Some f) = ap (λ (k : ℕ). Some k) (zero-add f)

pub all_from_zero : (other : WasmModule) (is : List Imported) → map (λ i. option_map (λ f. 0 + f) (bound_to other i)) is ≡ map (bound_to other) is
all_from_zero other [] = refl
all_from_zero other (i ∷ is) = ap (λ o. o ∷ map (λ i. option_map (λ f. 0 + f) (bound_to other i)) is) (from_zero (bound_to other i)) ∙ ap (λ l. bound_to other i ∷ l) (all_from_zero other is)

pub first_made : (w : Pair) (base : ℕ) (bs : List (Option ℕ)) → base ≡ (past_first w).functions → bs ≡ map (λ i. option_map (λ f. base + f) (bound_to w.second i)) (function_imports w.first.imports) → bs ≡ first_bindings w
first_made w base bs is made = made ∙ ap (λ (b : ℕ). map (λ i. option_map (λ f. b + f) (bound_to w.second i)) (function_imports w.first.imports)) is

pub are_bindings : (w : Pair) (fb sb nx s1 s2 s3 : List (Option ℕ)) (ends : List ℕ) (steps : ℕ)
    → fb ≡ first_bindings w → sb ≡ second_bindings w → s1 ≡ fb → s2 ≡ sb
    → nx ≡ (s1 ++ replicate (length w.first.functions) None) ++ (s2 ++ replicate (length w.second.functions) None)
    → s3 ≡ nx → steps ≡ length s1 + length s2 → Ends s3 steps ends → AreBindings w fb sb nx ends
are_bindings w fb sb nx s1 s2 s3 ends steps f s e1 e2 n e3 count e =
    let all : nx ≡ bindings w = n ∙ ap (λ l. (l ++ replicate (length w.first.functions) None) ++ (s2 ++ replicate (length w.second.functions) None)) (e1 ∙ f) ∙ ap (λ l. (first_bindings w ++ replicate (length w.first.functions) None) ++ (l ++ replicate (length w.second.functions) None)) (e2 ∙ s) in
    let sum : steps ≡ import_count w = count ∙ ap (λ l. length l + length s2) (e1 ∙ f) ∙ ap (λ l. length (first_bindings w) + length l) (e2 ∙ s) ∙ ap (λ k. k + length (second_bindings w)) (first_count w) ∙ ap (λ k. length (function_imports w.first.imports) + k) (second_count w) in
    record { first = f; second = s; next = all; ends = subst (λ k. Ends (bindings w) k ends) sum (subst (λ l. Ends l steps ends) (e3 ∙ all) e) }

pub members_of : (w : Pair) (next : List (Option ℕ)) (marks marks' : List Bool) (ends places : List ℕ) → next ≡ bindings w → Ends (bindings w) (import_count w) ends → places ≡ ends → marks' ≡ marks
    → ((b : ℕ) → b < length places → slice_get marks b ≡ Some (has places b)) → (a : ℕ) → is_member next marks' a ≡ comes_back w a
members_of w next marks marks' ends places n e p m h a =
    ap (λ l. is_member l marks' a) n ∙ ap (λ l. is_member (bindings w) l a) m
    ∙ members_are w ends e marks (subst (λ l. (b : ℕ) → b < length l → slice_get marks b ≡ Some (has l b)) p h) a

pub own_made : (w : Pair) (own : List ℕ) (s1 s2 : List (Option ℕ)) (l1 l2 : ℕ) → own ≡ numbered s1 l1 s2 l2 → s1 ≡ first_bindings w → l1 ≡ length w.first.functions → s2 ≡ second_bindings w → l2 ≡ length w.second.functions → own ≡ own_numbers w
own_made w own s1 s2 l1 l2 made a b c d =
    made ∙ ap (λ (s : List (Option ℕ)). numbered s l1 s2 l2) a ∙ ap (λ (l : ℕ). numbered (first_bindings w) l s2 l2) b
    ∙ ap (λ (s : List (Option ℕ)). numbered (first_bindings w) (length w.first.functions) s l2) c ∙ ap (λ (l : ℕ). numbered (first_bindings w) (length w.first.functions) (second_bindings w) l) d

pub at_ends : (numbers own s3 ends s4 : List ℕ) → numbers ≡ map (λ p. or_zero (slice_get s3 p)) s4 → s3 ≡ own → s4 ≡ ends → numbers ≡ map (λ p. or_zero (slice_get own p)) ends
at_ends numbers own s3 ends s4 made a b = made ∙ ap (λ (s : List ℕ). map (λ p. or_zero (slice_get s p)) s4) a ∙ ap (λ (s : List ℕ). map (λ p. or_zero (slice_get own p)) s) b
