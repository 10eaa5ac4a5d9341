-- Items in a row.
use Rattle.std.proofs.Common.{◌≡◌, ℕ, suc, ◌+◌, ◌-◌, ◌<◌, ◌≤◌, List, [], ◌∷◌, ◌++◌, refl, sym, ap, ◌∙◌, arith, append_assoc}
use Rattle.std.specs.Prelude.{Ok, Err}
use Rattle.std.proofs.lemmas.List.{append-nil}
use Rattle.wasm_lang.specs.declared.fault.Fault.{Fault}
use Rattle.wasm_lang.specs.Reading.{Input, Field, ◌>>=◌, items_field}

-- these before those that are read
abbrev pub with_front : {X : Type 0} → List X → Field (List X) → Field (List X)
with_front front (Ok x) = Ok (front ++ x.0, x.1)
with_front front (Err e) = Err e

pub items_on : {X : Type 0} (front : List X) (v : X) (r : Field (List X)) → with_front front (r >>= λ vs. Ok (v ∷ vs.0, vs.1)) ≡ with_front (front ++ v ∷ []) r
items_on front v (Ok x) = ap (λ l. Ok (l, x.1)) (sym (append_assoc front (v ∷ []) x.0))
items_on front v (Err e) = refl

pub items_start : {X : Type 0} (r : Field (List X)) → r ≡ with_front [] r
items_start (Ok x) = refl
items_start (Err e) = refl

-- before the first
pub counted_start : {X : Type 0} (row : ℕ → Field (List X)) (count : ℕ) (front : List X) → front ≡ [] → row count ≡ with_front front (row (count - 0))
counted_start row count front none =
    let n : count ≡ count - 0 = omega arith in
    items_start (row count) ∙ ap (λ n. with_front [] (row n)) n ∙ ap (λ front. with_front front (row (count - 0))) (sym none)

-- one more
pub items_step : {X : Type 0} (item : Input → Field X) (count k : ℕ) (front : List X) (i next : Input) (v : X) → k < count → item i ≡ Ok (v, next)
    → with_front front (items_field item (count - k) i) ≡ with_front (front ++ v ∷ []) (items_field item (count - (k + 1)) next)
items_step item count k front i next v lt e =
    let n : count - k ≡ suc (count - (k + 1)) = omega arith in
    ap (λ n. with_front front (items_field item n i)) n
    ∙ ap (λ r. with_front front (r >>= λ v. items_field item (count - (k + 1)) v.1 >>= λ vs. Ok (v.0 ∷ vs.0, vs.1))) e
    ∙ items_on front v (items_field item (count - (k + 1)) next)

-- one that can't be read
pub items_stop : {X : Type 0} (item : Input → Field X) (count k : ℕ) (front : List X) (i : Input) (f : Fault) → k < count → item i ≡ Err f → with_front front (items_field item (count - k) i) ≡ Err f
items_stop item count k front i f lt e =
    let n : count - k ≡ suc (count - (k + 1)) = omega arith in
    ap (λ n. with_front front (items_field item n i)) n ∙ ap (λ r. with_front front (r >>= λ v. items_field item (count - (k + 1)) v.1 >>= λ vs. Ok (v.0 ∷ vs.0, vs.1))) e

-- no more
pub items_done : {X : Type 0} (item : Input → Field X) (count k : ℕ) (front : List X) (i : Input) → count ≤ k → with_front front (items_field item (count - k) i) ≡ Ok (front, i)
items_done item count k front i ge =
    let n : count - k ≡ 0 = omega arith in
    ap (λ n. with_front front (items_field item n i)) n ∙ ap (λ l. Ok (l, i)) (append-nil front)
